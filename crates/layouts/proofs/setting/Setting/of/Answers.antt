use Rattle.std.proofs.Common.{arith, rules, ◌≡◌, ◌≤◌, false}
use Rattle.layouts.specs.Grids.{cells_per_sheet, is_itself}
use Rattle.layouts.proofs.Possible.{sheet_refused, scale_refused}
use Rattle.layouts.proofs.Fitting.{chosen_as, enough_in, handed_on}
use Rattle.layouts.proofs.setting.Setting.of.Goals as goal

pub returns-then-is_identity-clause-chosen : goal.returns-then-is_identity-clause-chosen
returns-then-is_identity-clause-chosen c =
    let a = c.args.arrangement.now in
    chosen_as c.args.papers.now.page c.in_ok-room.room a.order.turned a.cells c.grid_of-grid.result (omega (arith, c.count-count.ensures)) c.grid_of-grid.ensures

pub returns-clause-cells : goal.returns-clause-cells
returns-clause-cells c =
    let a = c.args.arrangement.now in
    enough_in c.args.papers.now.page c.in_ok-room.room a.order.turned a.cells c.grid_of-grid.result (omega (arith, c.count-count.ensures)) c.grid_of-grid.ensures

pub returns-clause-chosen : goal.returns-clause-chosen
returns-clause-chosen c =
    let a = c.args.arrangement.now in
    chosen_as c.args.papers.now.page c.in_ok-room.room a.order.turned a.cells c.grid_of-grid.result (omega (arith, c.count-count.ensures)) c.grid_of-grid.ensures

pub returns-in_err-room-clause-refused : goal.returns-in_err-room-clause-refused
returns-in_err-room-clause-refused c =
    let a = c.args.arrangement.now in
    handed_on _ _ _ c.from_residual.ensures.1 (sheet_refused c.args.papers.now.page c.args.papers.now.sheet a c.in_err-room.field-0.0 (omega (arith, c.count-count.ensures)) (omega (arith, c.count-count.ensures)) c.in_err-room.ensures.refused)

pub returns-in_err-scale_found-clause-refused : goal.returns-in_err-scale_found-clause-refused
returns-in_err-scale_found-clause-refused c =
    let page = c.args.papers.now.page in
    let sheet = c.args.papers.now.sheet in
    let a = c.args.arrangement.now in
    let some : 1 ≤ cells_per_sheet a.cells = omega (arith, c.count-count.ensures) in
    let few : cells_per_sheet a.cells ≤ 1_024 = omega (arith, c.count-count.ensures) in
    let not : is_itself page sheet a ≡ false = search rules in
    handed_on _ _ _ c.from_residual-in_err-scale_found.ensures.1 (scale_refused page sheet a c.in_ok-room.room c.grid_of-grid.result c.scale_in-largest.result c.in_err-scale_found.field-0.0 some few c.in_ok-room.ensures.possible not c.in_ok-room.ensures.room c.grid_of-grid.ensures c.scale_in-largest.ensures c.in_err-scale_found.ensures.refused)
