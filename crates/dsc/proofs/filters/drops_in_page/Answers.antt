use Rattle.std.specs.Prelude.{Some}
use Rattle.std.specs.Str.{bytes_eq}
use Rattle.std.proofs.Common.{sym, ap, arith, ◌∙◌}
use Rattle.dsc.proofs.Letters.{another, no_letter, page_letter, key_letter, drops_nothing}
use Rattle.dsc.proofs.filters.drops_in_page.Goals as goal

pub returns-in-Some-eq80 : goal.returns-in-Some-eq80
returns-in-Some-eq80 c =
    let a = c.in-Some-eq80 in
    c.names_page.ensures ∙ page_letter c.args.content.now (sym c.comment_letter.ensures ∙ a.is ∙ ap Some a.field-0-test)

pub returns-else-eq : goal.returns-else-eq
returns-else-eq c =
    let a = c.in-Some-eq66 in
    let t = a.field-0-test in
    key_letter c.args.content.now c.key_of-key.result.now _ (λ e. another a.field-0 80 (λ same. omega (arith, t, same)) (sym a.is ∙ c.comment_letter.ensures ∙ e))
    c.key_of-key.ensures (c.if-eq.ensures ∙ ap (bytes_eq c.key_of-key.result.now) c.as_slice.ensures) (c.eq-else-eq.ensures ∙ ap (bytes_eq c.key_of-key.result.now) c.as_slice-else-eq.ensures)

pub returns-in_default : goal.returns-in_default
returns-in_default c =
    let a = c.in_default in
    let t = a.field-0-test in
    let is = sym a.is ∙ c.comment_letter.ensures in
    drops_nothing c.args.content.now (λ e. another a.field-0 80 (λ same. grind (arith, t, same)) (is ∙ e)) (λ e. another a.field-0 66 (λ same. grind (arith, t, same)) (is ∙ e)) (λ e. another a.field-0 69 (λ same. grind (arith, t, same)) (is ∙ e))

pub returns-in_default-2 : goal.returns-in_default-2
returns-in_default-2 c =
    let none = sym c.comment_letter.ensures ∙ c.in_default.is in
    drops_nothing c.args.content.now (λ e. no_letter 80 (sym e ∙ none)) (λ e. no_letter 66 (sym e ∙ none)) (λ e. no_letter 69 (sym e ∙ none))
