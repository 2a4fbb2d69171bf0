use Rattle.std.proofs.Common.{◌*◌, sym, ap, ◌∙◌}
use Rattle.rules.specs.Sheets.{blocks}
use Rattle.rules.proofs.Signatures.{whole_signatures}
use Rattle.sheet_plan.proofs.Bounds.{blocks_ceil}
use Rattle.sheet_plan.proofs.row.filled_len.Goals as goal

pub returns : goal.returns
returns c =
    ap (λ k. k * c.from-2.result) (c.from.ensures ∙ c.div_ceil.ensures ∙ blocks_ceil c.args.pages c.args.sides c.requires.0)
    ∙ ap (λ k. blocks c.args.sides c.args.pages * k) c.from-2.ensures
    ∙ sym (whole_signatures c.args.sides c.args.pages)
