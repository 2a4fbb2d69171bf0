use Rattle.rules.proofs.Edges.{border_on_edge}
use Rattle.rules.proofs.laws.border_on_edge.Goals as goal

pub returns : goal.returns
returns c = border_on_edge
