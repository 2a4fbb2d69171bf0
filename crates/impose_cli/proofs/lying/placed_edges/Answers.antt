use Rattle.std.proofs.Common.{◌∙◌, ap, ℤ}
use Rattle.pagespec.specs.Items.{item_of}
use Rattle.impose_cli.specs.Lying.{scaled_side}
use Rattle.impose_cli.proofs.PlacedEdges.{placed_is}
use Rattle.impose_cli.proofs.lying.placed_edges.Goals as goal

pub returns : goal.returns
returns c =
    let item = item_of c.args.item.now in
    c.edges_to.ensures ∙ placed_is c.args.paper.now item c.to_grains-x.result c.to_grains-y.result c.scaled_side-width.result c.scaled_side-height.result
    c.turned_by-across.result.0 c.turned_by-across.result.1 c.moved_by-far_x.result c.moved_by-far_y.result
    c.scaled_side-width.ensures.in_range c.scaled_side-height.ensures.in_range c.turned_by-across.ensures.x_in_range c.turned_by-across.ensures.y_in_range
    c.moved_by-far_x.ensures.in_range c.moved_by-far_y.ensures.in_range c.to_grains-x.ensures c.to_grains-y.ensures
    (c.scaled_side-width.ensures.value ∙ ap (λ (s : ℤ). scaled_side item.scale s) c.width.ensures.value)
    (c.scaled_side-height.ensures.value ∙ ap (λ (s : ℤ). scaled_side item.scale s) c.height.ensures.value)
    c.turned_by-across.ensures.x c.turned_by-across.ensures.y c.moved_by-far_x.ensures.value c.moved_by-far_y.ensures.value
