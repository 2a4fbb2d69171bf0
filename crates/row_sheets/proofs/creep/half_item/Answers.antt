use Rattle.std.proofs.Common.{rules, ◌≡◌, None}
use Rattle.layouts.specs.Fitted.{why_not_fitted}
use Rattle.row_sheets.proofs.creep.half_item.Goals as goal

pub returns-in_ok-item-clause-fits : goal.returns-in_ok-item-clause-fits
returns-in_ok-item-clause-fits c =
    let can : why_not_fitted c.args.setting.now c.args.paper.now ≡ None = search rules in
    record { sheet_is = c.in_ok-item.ensures.sheet; page_is = c.in_ok-item.ensures.page; fits = can }
