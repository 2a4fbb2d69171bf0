use Rattle.std.proofs.Common.{◌≡◌, ◌∙◌, ap, sym, take}
use Rattle.dsc.specs.Header.{header_len}
use Rattle.papers.specs.Media.{comment_values, contents, header}
use Rattle.papers.proofs.Contents.{first_said, none_said}
use Rattle.impose_cli.proofs.claims.header_value.Goals as goal

pub returns-in-Some : goal.returns-in-Some
returns-in-Some c =
    let text = c.args.input.now in
    let front : c.split_at.result.0.now ≡ take (header_len text) text = c.split_at.ensures.front ∙ ap (λ n. take n text) c.header_len.ensures.value in
    sym (first_said c.args.key.now (header text) _ _ (ap (λ t. comment_values c.args.key.now (contents t)) (sym front) ∙ c.in-Some.ensures))

pub returns-in-None : goal.returns-in-None
returns-in-None c =
    let text = c.args.input.now in
    let front : c.split_at.result.0.now ≡ take (header_len text) text = c.split_at.ensures.front ∙ ap (λ n. take n text) c.header_len.ensures.value in
    sym (none_said c.args.key.now (header text) (ap (λ t. comment_values c.args.key.now (contents t)) (sym front) ∙ c.in-None.ensures))
