use Rattle.std.proofs.Common.{rules}
use Rattle.placement.specs.Matrices.{matrix_value, point}
use Rattle.placement.proofs.Putting.{sent_is_put}
use Rattle.placement.proofs.matrix.Matrix.apply.Goals as goal

pub returns-clause-put : goal.returns-clause-put
returns-clause-put c = sent_is_put (matrix_value c.args.self.now) (point c.args.x c.args.y) _ (search rules)
