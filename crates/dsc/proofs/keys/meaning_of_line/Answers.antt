use Rattle.std.specs.Prelude.{codes, Some}
use Rattle.std.proofs.Common.{sym, ap, arith, ◌∙◌}
use Rattle.dsc.proofs.Letters.{another, no_letter, other_start, means_nothing, means_no_more, begins_at_0}
use Rattle.dsc.proofs.keys.meaning_of_line.Goals as goal

pub meaning_of_key-requires-clause-no_page : goal.meaning_of_key-requires-clause-no_page
meaning_of_key-requires-clause-no_page c =
    let a = c.in-Some-eq66 in
    let t = a.field-0-test in
    let is = sym a.is ∙ c.comment_letter.ensures in
    other_start c.args.content.now (codes "age:") 80 (λ e. another a.field-0 80 (λ same. omega (arith, t, same)) (is ∙ e))

pub returns-then-depth-eq0-clause-page : goal.returns-then-depth-eq0-clause-page
returns-then-depth-eq0-clause-page c = begins_at_0 c.args.content.now c.args.depth _ c.if-depth-eq0.true c.is_page_line.ensures

pub returns-then-depth-eq0-clause-trailer : goal.returns-then-depth-eq0-clause-trailer
returns-then-depth-eq0-clause-trailer c =
    let a = c.in-Some-eq80 in
    (means_no_more c.args.content.now c.args.depth (sym c.comment_letter.ensures ∙ a.is ∙ ap Some a.field-0-test)).0

pub returns-then-depth-eq0-clause-depth : goal.returns-then-depth-eq0-clause-depth
returns-then-depth-eq0-clause-depth c =
    let a = c.in-Some-eq80 in
    (means_no_more c.args.content.now c.args.depth (sym c.comment_letter.ensures ∙ a.is ∙ ap Some a.field-0-test)).1

pub returns-else-depth-eq0-clause-trailer : goal.returns-else-depth-eq0-clause-trailer
returns-else-depth-eq0-clause-trailer c =
    let a = c.in-Some-eq80 in
    (means_no_more c.args.content.now c.args.depth (sym c.comment_letter.ensures ∙ a.is ∙ ap Some a.field-0-test)).0

pub returns-else-depth-eq0-clause-depth : goal.returns-else-depth-eq0-clause-depth
returns-else-depth-eq0-clause-depth c =
    let a = c.in-Some-eq80 in
    (means_no_more c.args.content.now c.args.depth (sym c.comment_letter.ensures ∙ a.is ∙ ap Some a.field-0-test)).1

pub returns-in_default : goal.returns-in_default
returns-in_default c =
    let a = c.in_default in
    let t = a.field-0-test in
    let is = sym a.is ∙ c.comment_letter.ensures in
    let nothing = means_nothing c.args.content.now c.args.depth (λ e. another a.field-0 80 (λ same. grind (arith, t, same)) (is ∙ e)) (λ e. another a.field-0 66 (λ same. grind (arith, t, same)) (is ∙ e)) (λ e. another a.field-0 69 (λ same. grind (arith, t, same)) (is ∙ e)) (λ e. another a.field-0 84 (λ same. grind (arith, t, same)) (is ∙ e)) in
    record { page = nothing.0; trailer = nothing.1; depth = nothing.2 }

pub returns-in_default-2 : goal.returns-in_default-2
returns-in_default-2 c =
    let none = sym c.comment_letter.ensures ∙ c.in_default.is in
    let nothing = means_nothing c.args.content.now c.args.depth (λ e. no_letter 80 (sym e ∙ none)) (λ e. no_letter 66 (sym e ∙ none)) (λ e. no_letter 69 (sym e ∙ none)) (λ e. no_letter 84 (sym e ∙ none)) in
    record { page = nothing.0; trailer = nothing.1; depth = nothing.2 }
