use Rattle.std.proofs.Common.{◌≡◌, drop}
use Rattle.std.specs.Prelude.{map}
use Rattle.rules.specs.Papers.{paper_among}
use Rattle.paper_names.specs.Names.{entry, letters}
use Rattle.paper_names.proofs.names.paper_in.Given as goal

abbrev pub invariant-loop-row : goal.invariant-loop-row
invariant-loop-row l = paper_among (map entry (drop l.row-index l.rows)) (letters l.name) ≡ paper_among (map entry l.rows) (letters l.name)
