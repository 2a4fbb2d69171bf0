use Rattle.std.proofs.Common.{arith}
use Rattle.sheet_plan.proofs.Placings.{none_more, not_at}
use Rattle.sheet_plan.proofs.made.find_placing.Goals as goal

pub loop-place-preserved : goal.loop-place-preserved
loop-place-preserved c = none_more c.args.placings.now c.args.placing.now c.loop-place.place c.loop-place.invariant (not_at _ _ _ c.is_at-in-loop-place.ensures c.if-is_at-2.false)

pub returns-clause-not_near : goal.returns-clause-not_near
returns-clause-not_near c none = not_at _ _ _ c.is_at.ensures c.if-is_at.false

pub returns-clause-not_first : goal.returns-clause-not_first
returns-clause-not_first c none k lt = c.loop-place.invariant k (omega (arith, lt, c.loop-place-test.false, c.loop-place.auto.place-end))
