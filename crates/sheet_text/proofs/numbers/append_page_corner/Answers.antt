use Rattle.std.proofs.Common.{ap, ◌∙◌, ◌++◌}
use Rattle.std.specs.Prelude.{codes}
use Rattle.pagespec.specs.Items.{item_of}
use Rattle.rules.specs.Placement.{offset}
use Rattle.sheet_text.specs.PageNumbers.{degrees}
use Rattle.sheet_text.proofs.Appended.{point_and, three}
use Rattle.sheet_text.proofs.numbers.append_page_corner.Goals as goal

pub returns : goal.returns
returns c =
    let item = item_of c.args.placed.now.item.now in
    let paper = c.args.placed.now.paper.now in
    let turn = degrees item.turn in
    point_and c.to_grains.result c.to_grains-2.result (offset paper item).x (offset paper item).y c.args.text.now (codes " translate " ++ (turn ++ codes " rotate ")) _ _ _ _
    c.to_grains.ensures c.to_grains-2.ensures c.in_ok-append_points.ensures c.in_ok-append.ensures.appended c.in_ok-append_points-2.ensures
    (three _ (codes " translate ") turn (codes " rotate ") _ _ _ c.in_ok-append-2.ensures.appended
    (c.in_ok-append-3.ensures.appended ∙ ap (λ t. c.append-2.new.self ++ t) c.degrees.ensures) c.in_ok-append-4.ensures.appended)
