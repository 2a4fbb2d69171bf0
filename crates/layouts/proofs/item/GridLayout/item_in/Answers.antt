use Rattle.std.proofs.Common.{rules, ◌≡◌, ap, ◌∙◌}
use Rattle.std.specs.Prelude.{pos}
use Rattle.pagespec.specs.Items.{turn_of, measure_of}
use Rattle.layouts.specs.Cells.{in_points, turn_in}
use Rattle.layouts.proofs.Reach.{parts_are}
use Rattle.layouts.proofs.item.GridLayout.item_in.Goals.{then-self, else-self}
use Rattle.layouts.proofs.item.GridLayout.item_in.Goals as goal

pub returns : goal.returns
returns c =
    let l = c.args.self.now in
    let turn : turn_of c.if-self.result ≡ turn_in l.grid = elim c.if-self.branch [ then-self w ↦ search rules | else-self w ↦ search rules ] in
    let is : c.scale_e9.result ≡ pos l.scale = search rules in
    let across : measure_of c.points_e5.result ≡ in_points c.shift-x.result.0 = search rules in
    let up : measure_of c.points_e5-2.result ≡ in_points c.shift-x.result.1 = search rules in
    parts_are c.args.k _ _ _ _ _ _ _ _ turn is (across ∙ ap in_points c.shift-x.ensures.right) (up ∙ ap in_points c.shift-x.ensures.top)
