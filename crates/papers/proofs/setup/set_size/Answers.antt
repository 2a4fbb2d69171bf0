use Rattle.std.proofs.Common.{rules, ◌≡◌, ◌∙◌, drop, ap, sym, None}
use Rattle.std.specs.Prelude.{codes}
use Rattle.rules.specs.Units.{content_of, is_comment, line_len}
use Rattle.papers.specs.Media.{contents, else_take, set_size, size_of_line}
use Rattle.papers.proofs.AskedSizes.{set_here, size_or}
use Rattle.papers.proofs.setup.set_size.Goals as goal

pub returns-then-begins_page : goal.returns-then-begins_page
returns-then-begins_page c =
    let rest = c.loop-rest.rest.now in
    let after = set_size (contents (drop (line_len rest) rest)) in
    let page = ap (is_comment (codes "%%Page")) (sym c.first_content-content.ensures) ∙ sym c.begins_page.ensures ∙ c.if-begins_page.true in
    sym (sym c.loop-rest.invariant ∙ set_here rest ∙ ap (size_or (content_of rest) after) page)

pub returns-in-Some : goal.returns-in-Some
returns-in-Some c =
    let rest = c.loop-rest.rest.now in
    let after = set_size (contents (drop (line_len rest) rest)) in
    let other = ap (is_comment (codes "%%Page")) (sym c.first_content-content.ensures) ∙ sym c.begins_page.ensures ∙ c.if-begins_page.false in
    let asked = ap size_of_line (sym c.first_content-content.ensures) ∙ sym c.size_of_line.ensures ∙ c.in-Some.is in
    sym (sym c.loop-rest.invariant ∙ set_here rest ∙ ap (size_or (content_of rest) after) other ∙ ap (λ p. else_take p after) asked)

pub loop-rest-preserved : goal.loop-rest-preserved
loop-rest-preserved c =
    let rest = c.loop-rest.rest.now in
    let after = set_size (contents (drop (line_len rest) rest)) in
    let other = ap (is_comment (codes "%%Page")) (sym c.first_content-content.ensures) ∙ sym c.begins_page.ensures ∙ c.if-begins_page.false in
    let none : size_of_line c.first_content-content.result.now ≡ None = search rules in
    let here = set_here rest ∙ ap (size_or (content_of rest) after) other ∙ ap (λ p. else_take p after) (ap size_of_line (sym c.first_content-content.ensures) ∙ none) in
    let moved = ap (λ t. set_size (contents t)) (c.split_at.ensures.back ∙ ap (λ n. drop n rest) c.line_end_after.ensures.value) in
    moved ∙ sym here ∙ c.loop-rest.invariant
