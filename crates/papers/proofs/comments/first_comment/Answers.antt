use Rattle.std.proofs.Common.{rules, ◌≡◌, ◌<◌, ◌∷◌, ◌∙◌, length, drop, ap, sym, true, false}
use Rattle.rules.specs.Units.{content_of, is_comment, line_len}
use Rattle.papers.specs.Media.{comment_values, contents, continued, value_of}
use Rattle.papers.proofs.Contents.{found_behind, found_here}
use Rattle.papers.proofs.comments.first_comment.Goals as goal

pub returns-in-Some : goal.returns-in-Some
returns-in-Some c =
    let some : 0 < length c.loop-rest.rest.now = search rules in
    let is : is_comment c.args.key.now c.first_content-content.result.now ≡ true = search rules in
    let has : is_comment c.args.key.now (content_of c.loop-rest.rest.now) ≡ true = ap (is_comment c.args.key.now) (sym c.first_content-content.ensures) ∙ is in
    let told : c.in-Some.value.now ≡ value_of c.first_content-content.result.now = search rules in
    let moved = c.split_at.ensures.back ∙ ap (λ n. drop n c.loop-rest.rest.now) c.line_end_after.ensures.value in
    sym c.loop-rest.invariant ∙ found_here c.args.key.now c.loop-rest.rest.now some has
    ∙ ap (λ content. value_of content ∷ continued (contents (drop (line_len c.loop-rest.rest.now) c.loop-rest.rest.now))) (sym c.first_content-content.ensures)
    ∙ ap (λ v. v ∷ continued (contents (drop (line_len c.loop-rest.rest.now) c.loop-rest.rest.now))) (sym told)
    ∙ ap (λ rest. c.in-Some.value.now ∷ continued (contents rest)) (sym moved)

pub loop-rest-preserved : goal.loop-rest-preserved
loop-rest-preserved c =
    let some : 0 < length c.loop-rest.rest.now = search rules in
    let other : is_comment c.args.key.now c.first_content-content.result.now ≡ false = search rules in
    let not_it : is_comment c.args.key.now (content_of c.loop-rest.rest.now) ≡ false = ap (is_comment c.args.key.now) (sym c.first_content-content.ensures) ∙ other in
    let after = found_behind c.args.key.now c.loop-rest.rest.now some not_it in
    let moved = ap (λ t. comment_values c.args.key.now (contents t)) (c.split_at.ensures.back ∙ ap (λ n. drop n c.loop-rest.rest.now) c.line_end_after.ensures.value) in
    moved ∙ sym after ∙ c.loop-rest.invariant
