use Rattle.std.proofs.Common.{◌≡◌, sym, subst}
use Rattle.std.specs.Prelude.{IfOk}
use Rattle.rules.specs.Rows.{Row}
use Rattle.rows.proofs.Alternate.{even_is}
use Rattle.rows.proofs.parts.even_part.Goals as goal

pub returns : goal.returns
returns c = subst (λ (r : Row). IfOk c.every_other.result (λ part. part.items ≡ r)) (sym (even_is c.args.row.now)) c.every_other.ensures
