use Rattle.std.proofs.Common.{◌≡◌, drop}
use Rattle.std.specs.Prelude.{position}
use Rattle.std.specs.List.{position_from}
use Rattle.sheet_plan.proofs.Accepted.{uneven}
use Rattle.sheet_plan.proofs.made_expansion.first_uneven.Given as goal

abbrev pub invariant-loop-sheet : goal.invariant-loop-sheet
invariant-loop-sheet l = position uneven l.made ≡ position_from uneven l.sheet (drop l.sheet l.made)
