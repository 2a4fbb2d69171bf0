use Rattle.std.proofs.Common.{◌∙◌}
use Rattle.papers.proofs.CountedAsOne.{one_turn}
use Rattle.papers.proofs.kinds.kinds_of.Goals as goal

pub loop-preserved : goal.loop-preserved
loop-preserved c =
    one_turn c.args.room c.loop.counter c.take_kind.new.kinds.items c.loop.kinds.items c.take_kind.new.rest.items c.loop.rest.items c.loop-test.true c.in_ok-take_kind.ensures
    ∙ c.loop.invariant
