use Rattle.std.proofs.Common.{◌≡◌, ◌++◌, take}
use Rattle.sheet_plan.specs.Plans.{pages_on}
use Rattle.sheet_plan.specs.Placed.{placed_in}
use Rattle.sheet_plan.specs.Sources.{plan_from}
use Rattle.sheet_plan.proofs.placed.list_sheet.Given as goal

abbrev pub invariant-loop-slot : goal.invariant-loop-slot
invariant-loop-slot l = l.placed.items ≡ l.initial.placed.items ++ placed_in l.sheet 0 (take l.slot (pages_on (plan_from l.source) l.sheet))
