-- Which options a run takes.
use Rattle.std.specs.Prelude.{◌≡◌, true}
use Rattle.rules.specs.Signatures.{AreSidesIfGiven}
use Rattle.sheet_text.specs.Jobs.{is_border}
use Rattle.imposer.specs.Workers.{AreWorkers}
use Rattle.imposer.specs.declared.options.Options.{Options}

-- the options are taken
abbrev pub AreOptions : Options → Type 0
AreOptions options = AreWorkers options.workers × (is_border options.border ≡ true) × AreSidesIfGiven options.sides
