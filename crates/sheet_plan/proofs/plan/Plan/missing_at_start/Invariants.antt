use Rattle.sheet_plan.specs.Plans.{pages_on}
use Rattle.sheet_plan.proofs.Blanks.{IsMarked}
use Rattle.sheet_plan.proofs.plan.Plan.missing_at_start.Given as goal

abbrev pub invariant-loop-slot : goal.invariant-loop-slot
invariant-loop-slot l = IsMarked (pages_on l.self l.sheet) l.first l.slot l.missing
