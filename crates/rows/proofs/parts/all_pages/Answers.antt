use Rattle.std.proofs.Common.{ap, sym, arith, [], ◌∷◌, ◌++◌, ◌∙◌, Some}
use Rattle.std.proofs.lemmas.List.FromFn.{map-range_with_len_more}
use Rattle.rules.specs.Rows.{Row}
use Rattle.rows.proofs.parts.all_pages.Goals as goal

pub loop-page-preserved : goal.loop-page-preserved
loop-page-preserved c =
    c.in_ok-push.ensures.items
    ∙ ap (λ (row : Row). row ++ Some c.loop-page.page ∷ []) c.loop-page.invariant
    ∙ sym (map-range_with_len_more Some 0 c.loop-page.page c.loop-page.page (omega arith))
