use Rattle.std.proofs.Common.{rules, ◌≡◌, ◌∙◌, Some, ap}
use Rattle.rules.specs.Made.{Placed}
use Rattle.pagespec.specs.Items.{item_of}
use Rattle.sheet_plan.specs.OfSheets.{placed_of}
use Rattle.row_sheets.proofs.fill.same_item.Goals as goal

pub returns-then-eq : goal.returns-then-eq
returns-then-eq c =
    let placed = c.in_ok-placed.placed in
    let there : c.args.before ≡ Some placed = search rules in
    let same : placed.paper.now ≡ c.args.paper.now = search rules in
    (placed.page, ap placed_of there ∙ ap (Placed placed.page (item_of placed.item.now)) same)
