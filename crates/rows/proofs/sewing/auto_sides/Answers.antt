use Rattle.std.proofs.Common.{◌∙◌, ◌*◌, ◌<◌, ap, arith}
use Rattle.std.proofs.lemmas.Grind.{div_ceil_times}
use Rattle.rules.specs.Sheets.{blocks}
use Rattle.rows.proofs.InBlocks.{ceil}
use Rattle.rows.proofs.sewing.auto_sides.Goals as goal

pub returns-clause-value : goal.returns-clause-value
returns-clause-value c =
    let leaves = c.leaves_for-leaves.result in
    let signatures = c.div_ceil-signatures.result in
    let enough = div_ceil_times leaves 8 (omega arith) in
    let some : 0 < signatures = omega (arith, c.div_ceil-signatures.ensures, enough.0, c.leaves_for-leaves.ensures.are_sides.0) in
    ap (λ k. k * 4)
    (c.div_ceil.ensures
    ∙ ceil leaves signatures some
    ∙ ap (λ s. blocks s leaves) (c.div_ceil-signatures.ensures ∙ ceil leaves 8 (omega arith))
    ∙ ap (λ l. blocks (blocks 8 l) l) c.leaves_for-leaves.ensures.value)
