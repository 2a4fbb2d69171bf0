use Rattle.std.proofs.Common.{rules, arith, ◌≡◌, ◌<◌, ◌∙◌, None, drop, length, ap, sym}
use Rattle.std.specs.Prelude.{option_map}
use Rattle.rules.specs.Units.{content_of, line_len}
use Rattle.dsc.specs.Fields.{fields_in}
use Rattle.dsc.specs.TrailerBoxes.{first_there}
use Rattle.papers.specs.Media.{contents}
use Rattle.row_runs.specs.DeclaredPages.{depth_after_line, pages_at, pages_outside}
use Rattle.row_runs.proofs.Outside.{pages_here}
use Rattle.row_runs.proofs.declared_pages.value_outside.Goals as goal

pub returns-in-Some : goal.returns-in-Some
returns-in-Some c =
    let rest = c.loop-rest.rest.now in
    let depth = c.loop-rest.depth in
    let after = pages_outside (depth_after_line depth (content_of rest)) (contents (drop (line_len rest) rest)) in
    let here = ap (pages_at depth) (sym c.first_content-content.ensures) ∙ sym c.value_at.ensures ∙ ap (option_map (λ v. fields_in v.now)) c.in-Some.is in
    sym (sym c.loop-rest.invariant.found ∙ pages_here depth rest ∙ ap (λ p. first_there p after) here)

pub loop-rest-preserved : goal.loop-rest-preserved
loop-rest-preserved c =
    let some : 0 < length c.loop-rest.rest.now = search rules in
    let rest = c.loop-rest.rest.now in
    let depth = c.loop-rest.depth in
    let after = pages_outside (depth_after_line depth (content_of rest)) (contents (drop (line_len rest) rest)) in
    let none : option_map (λ v. fields_in v.now) c.value_at.result ≡ None = search rules in
    let here = ap (pages_at depth) (sym c.first_content-content.ensures) ∙ sym c.value_at.ensures ∙ none in
    let moved = ap (λ t. pages_outside c.depth_after_line-depth.result (contents t)) (c.split_at.ensures.back ∙ ap (λ n. drop n rest) c.line_end_after.ensures.value) in
    let deeper = c.depth_after_line-depth.ensures.value ∙ ap (depth_after_line depth) c.first_content-content.ensures in
    record {
      found = moved ∙ ap (λ d. pages_outside d (contents (drop (line_len rest) rest))) deeper
          ∙ sym (pages_here depth rest ∙ ap (λ p. first_there p after) here) ∙ c.loop-rest.invariant.found;
      few = omega (arith, c.loop-rest.invariant.few, c.depth_after_line-depth.ensures.most, c.line_end_after.ensures.moves some, c.split_at.ensures.back_len);
    }
