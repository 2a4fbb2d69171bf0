use Rattle.std.proofs.Common.{rules, ◌≡◌, ◌≤◌, ap, ◌∙◌}
use Rattle.std.specs.Prelude.{nat_abs}
use Rattle.layouts.specs.Cells.{scale_in}
use Rattle.layouts.proofs.Possible.{folds_is}
use Rattle.layouts.proofs.arranging.is_fold_short.Goals as goal

pub returns-then-width-height : goal.returns-then-width-height
returns-then-width-height c =
    let page = c.args.page.now in
    let room = c.args.room.now in
    let wide : c.extent-width.result ≡ nat_abs room.paper.width = search rules in
    let high : c.extent-height.result ≡ nat_abs room.paper.height = search rules in
    let most : c.extent-width.result ≤ c.extent-height.result = search rules in
    folds_is page room c.extent-width.result c.extent-height.result c.scale_in-upright.result c.scale_in-turned.result
    wide high most
    (c.scale_in-upright.ensures ∙ ap (scale_in page room) c.beside.ensures) (c.scale_in-turned.ensures ∙ ap (scale_in page room) c.beside-2.ensures)
