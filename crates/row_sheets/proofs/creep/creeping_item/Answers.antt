use Rattle.std.proofs.Common.{rules, ◌≡◌}
use Rattle.pagespec.specs.Items.{item_of}
use Rattle.layouts.proofs.Fitting.{scale_of_many}
use Rattle.row_sheets.specs.Creep.{moved_up}
use Rattle.row_sheets.proofs.Creeping.{halves_many, made_there, reached_there, small}
use Rattle.row_sheets.proofs.creep.creeping_item.Goals as goal

pub towards_fold-by-requires : goal.towards_fold-by-requires
towards_fold-by-requires c =
    let t = c.args.setting.now in
    let page = c.args.paper.now in
    small t page c.args.creep c.requires.halves (scale_of_many t page (halves_many t c.requires.halves) c.in_ok-item.ensures.fits.fits) c.in_ok-check_fold.ensures.possible

pub moved_up-requires-clause-reach : goal.moved_up-requires-clause-reach
moved_up-requires-clause-reach c =
    let t = c.args.setting.now in
    let page = c.args.paper.now in
    let scale = scale_of_many t page (halves_many t c.requires.halves) c.in_ok-item.ensures.fits.fits in
    let there = reached_there t page c.args.by_half c.args.cell c.args.creep c.towards_fold-by.result (item_of c.in_ok-item.item) c.requires.halves c.requires.cell scale c.in_ok-check_fold.ensures.possible c.towards_fold-by.ensures.value c.in_ok-item.ensures.made in
    search (rules, there)

pub returns-clause-made : goal.returns-clause-made
returns-clause-made c =
    let up : item_of c.moved_up.result ≡ moved_up c.towards_fold-by.result (item_of c.in_ok-item.item) = search rules in
    made_there c.args.setting.now c.args.paper.now c.args.by_half c.args.cell c.args.creep c.towards_fold-by.result (item_of c.in_ok-item.item) (item_of c.moved_up.result) up c.towards_fold-by.ensures.value c.in_ok-item.ensures.made
