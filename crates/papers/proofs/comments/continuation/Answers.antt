use Rattle.std.proofs.Common.{rules, ◌≡◌, ◌∷◌, ◌∙◌, drop, ap, sym, true, nat_eq, codes}
use Rattle.std.specs.List.{starts_with}
use Rattle.rules.specs.Units.{content_of, line_len}
use Rattle.papers.specs.Media.{contents, continued}
use Rattle.papers.proofs.Contents.{continues}
use Rattle.papers.proofs.comments.continuation.Goals as goal

pub returns-clause-value : goal.returns-clause-value
returns-clause-value c =
    let text = c.args.text.now in
    let goes : starts_with nat_eq c.first_content-content.result.now (codes "%%+") ≡ true = search rules in
    let is : starts_with nat_eq (content_of text) (codes "%%+") ≡ true = ap (λ content. starts_with nat_eq content (codes "%%+")) (sym c.first_content-content.ensures) ∙ goes in
    let value = c.split_at.ensures.back ∙ ap (drop 3) c.first_content-content.ensures in
    let others = c.split_at-2.ensures.back ∙ ap (λ n. drop n text) c.line_end_after.ensures.value in
    continues text is
    ∙ ap (λ v. v ∷ continued (contents (drop (line_len text) text))) (sym value)
    ∙ ap (λ rest. c.split_at.result.1.now ∷ continued (contents rest)) (sym others)
