use Rattle.papers.proofs.AnyOrder.{order_is_nothing}
use Rattle.papers.proofs.laws.order_is_nothing.Goals as goal

pub returns : goal.returns
returns c = order_is_nothing
