-- What is written of sheets that were made, and by which dress.
use Rattle.std.specs.Prelude.{◌≡◌, ℕ, List, Option}
use Rattle.rules.specs.Parts.{NestedUnit}
use Rattle.rules.specs.Output.{Border}
use Rattle.rules.specs.Made.{MadeSheet}
use Rattle.rules.specs.MadeOutput.{made_output}
use Rattle.papers.specs.Reported.{reporting}
use Rattle.dressing.specs.Numbered.{Drawn, drawn_on}
use Rattle.sheet_text.specs.Dressings.{dress_in}
use Rattle.sheet_text.specs.declared.dress.SheetDress.{SheetDress}

-- the output of sheets that report their papers, with what is drawn at the end of each; if nothing is, it is that of sheets
-- that report their papers and no more
abbrev pub reporting_output : (border : Option Border) → Drawn → List MadeSheet → List NestedUnit → List ℕ
reporting_output border drawn all us = made_output border (drawn_on drawn (reporting all)) all us

-- by this dress the sheets report their papers, and this is drawn at the end of each
abbrev pub IsDressOf : Drawn → List MadeSheet → SheetDress → Type 0
IsDressOf drawn all dress = dress_in dress ≡ drawn_on drawn (reporting all)
