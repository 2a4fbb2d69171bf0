use Rattle.std.proofs.Common.{rules}
use Rattle.pagespec.specs.Items.{item_of}
use Rattle.placement.proofs.Putting.{puts}
use Rattle.placement.proofs.place.matrix_of.Goals as goal

pub returns-clause-put : goal.returns-clause-put
returns-clause-put c = puts c.args.paper.now (item_of c.args.item.now) _ (search rules)
