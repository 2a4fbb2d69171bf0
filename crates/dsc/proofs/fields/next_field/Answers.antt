use Rattle.std.proofs.Common.{arith, ap, sym, ◌∙◌, drop}
use Rattle.dsc.proofs.FieldRows.{no_field, a_field}
use Rattle.dsc.proofs.fields.next_field.Goals as goal

pub returns-then-len-eq0 : goal.returns-then-len-eq0
returns-then-len-eq0 c =
    no_field c.args.text.now c.split_at.result.1.now (c.split_at.ensures.back ∙ ap (λ n. drop n c.args.text.now) c.blanks_at.ensures.value) (sym c.field_at-len.ensures.value ∙ c.if-len-eq0.true)

pub returns : goal.returns
returns c =
    a_field c.args.text.now c.split_at.result.1.now _ _ c.field_at-len.result (c.split_at.ensures.back ∙ ap (λ n. drop n c.args.text.now) c.blanks_at.ensures.value) c.field_at-len.ensures.value
    (omega arith) c.split_at-2.ensures.front c.split_at-2.ensures.back
