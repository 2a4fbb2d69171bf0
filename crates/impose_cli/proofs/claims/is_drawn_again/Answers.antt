use Rattle.std.proofs.Common.{rules, ◌≡◌, ◌<◌, ◌∙◌, length, drop, ap, sym, true, false}
use Rattle.std.specs.Prelude.{codes, nat_eq}
use Rattle.std.specs.List.{starts_with}
use Rattle.papers.specs.Media.{contents}
use Rattle.impose_cli.specs.Claims.{is_drawn_again}
use Rattle.impose_cli.proofs.DrawnAgain.{here, behind}
use Rattle.impose_cli.proofs.claims.is_drawn_again.Goals as goal

pub returns-then-starts_with : goal.returns-then-starts_with
returns-then-starts_with c =
    let rest = c.loop-rest.rest.now in
    let some : 0 < length rest = search rules in
    let is : starts_with nat_eq c.first_content-content.result.now (codes "%Produced by") ≡ true = search rules in
    sym (sym c.loop-rest.invariant ∙ here rest some (ap (λ t. starts_with nat_eq t (codes "%Produced by")) (sym c.first_content-content.ensures) ∙ is))

pub loop-rest-preserved : goal.loop-rest-preserved
loop-rest-preserved c =
    let rest = c.loop-rest.rest.now in
    let some : 0 < length rest = search rules in
    let isnt : starts_with nat_eq c.first_content-content.result.now (codes "%Produced by") ≡ false = search rules in
    let moved = ap (λ t. is_drawn_again (contents t)) (c.split_at.ensures.back ∙ ap (λ n. drop n rest) c.line_end_after.ensures.value) in
    moved ∙ sym (behind rest some (ap (λ t. starts_with nat_eq t (codes "%Produced by")) (sym c.first_content-content.ensures) ∙ isnt)) ∙ c.loop-rest.invariant
