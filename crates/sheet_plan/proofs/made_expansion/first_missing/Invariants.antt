use Rattle.std.proofs.Common.{◌≡◌, drop}
use Rattle.std.specs.Prelude.{position}
use Rattle.std.specs.List.{position_from}
use Rattle.sheet_plan.proofs.Accepted.{lacks}
use Rattle.sheet_plan.proofs.made_expansion.first_missing.Given as goal

abbrev pub invariant-loop-sheet : goal.invariant-loop-sheet
invariant-loop-sheet l = position (lacks l.pages) l.made ≡ position_from (lacks l.pages) l.sheet (drop l.sheet l.made)
