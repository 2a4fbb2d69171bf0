use Rattle.std.proofs.Common.{rules, ◌≡◌, ◌<◌, ◌∙◌, length, drop, ap, sym, true, false, Some}
use Rattle.std.specs.Prelude.{option_map}
use Rattle.rules.specs.Units.{content_of, is_comment}
use Rattle.dsc.specs.Fields.{fields_in}
use Rattle.papers.specs.Media.{comment_value, value_of}
use Rattle.papers.specs.Comments.{is_in_head}
use Rattle.papers.proofs.Heads.{found_behind, found_in_head, head, head_ends}
use Rattle.papers.proofs.page_heads.value_in_head.Goals as goal

pub returns-then-not-is_in_head-clause-value : goal.returns-then-not-is_in_head-clause-value
returns-then-not-is_in_head-clause-value c =
    let some : 0 < length c.loop-rest.rest.now = search rules in
    let ends : is_in_head c.first_content-content.result.now ≡ false = search rules in
    let no : is_in_head (content_of c.loop-rest.rest.now) ≡ false = ap is_in_head (sym c.first_content-content.ensures) ∙ ends in
    sym (sym c.loop-rest.invariant ∙ head_ends c.args.key.now c.loop-rest.rest.now some no)

pub returns-in-Some-clause-value : goal.returns-in-Some-clause-value
returns-in-Some-clause-value c =
    let some : 0 < length c.loop-rest.rest.now = search rules in
    let in_head : is_in_head c.first_content-content.result.now ≡ true = search rules in
    let goes : is_in_head (content_of c.loop-rest.rest.now) ≡ true = ap is_in_head (sym c.first_content-content.ensures) ∙ in_head in
    let is : is_comment c.args.key.now c.first_content-content.result.now ≡ true = search rules in
    let has : is_comment c.args.key.now (content_of c.loop-rest.rest.now) ≡ true = ap (is_comment c.args.key.now) (sym c.first_content-content.ensures) ∙ is in
    let told : c.in-Some.value.now ≡ value_of c.first_content-content.result.now = search rules in
    let them = found_in_head c.args.key.now c.loop-rest.rest.now some goes has in
    sym (sym c.loop-rest.invariant ∙ them ∙ ap (λ content. Some (value_of content)) (sym c.first_content-content.ensures) ∙ ap (λ v. Some v) (sym told))

pub returns-then-not-is_in_head-clause-fields : goal.returns-then-not-is_in_head-clause-fields
returns-then-not-is_in_head-clause-fields c = ap (option_map fields_in) (returns-then-not-is_in_head-clause-value c)

pub returns-in-Some-clause-fields : goal.returns-in-Some-clause-fields
returns-in-Some-clause-fields c = ap (option_map fields_in) (returns-in-Some-clause-value c)

pub loop-rest-preserved : goal.loop-rest-preserved
loop-rest-preserved c =
    let some : 0 < length c.loop-rest.rest.now = search rules in
    let in_head : is_in_head c.first_content-content.result.now ≡ true = search rules in
    let goes : is_in_head (content_of c.loop-rest.rest.now) ≡ true = ap is_in_head (sym c.first_content-content.ensures) ∙ in_head in
    let other : is_comment c.args.key.now c.first_content-content.result.now ≡ false = search rules in
    let not_it : is_comment c.args.key.now (content_of c.loop-rest.rest.now) ≡ false = ap (is_comment c.args.key.now) (sym c.first_content-content.ensures) ∙ other in
    let after = found_behind c.args.key.now c.loop-rest.rest.now some goes not_it in
    let moved = ap (λ t. comment_value c.args.key.now (head t)) (c.split_at.ensures.back ∙ ap (λ n. drop n c.loop-rest.rest.now) c.line_end_after.ensures.value) in
    moved ∙ sym after ∙ c.loop-rest.invariant
