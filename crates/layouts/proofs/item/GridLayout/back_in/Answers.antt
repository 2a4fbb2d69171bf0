use Rattle.std.proofs.Common.{rules, ◌≡◌, ◌+◌, ap, ◌∙◌}
use Rattle.std.specs.Prelude.{pos, nat_abs, ◌-ℤ◌}
use Rattle.pagespec.specs.Items.{turn_of, measure_of}
use Rattle.layouts.specs.Cells.{in_points, turn_in, half_turned, whole_parts}
use Rattle.layouts.proofs.Reach.{parts_are}
use Rattle.layouts.proofs.item.GridLayout.back_in.Goals.{then-self, else-self}
use Rattle.layouts.proofs.item.GridLayout.back_in.Goals as goal

pub returns : goal.returns
returns c =
    let l = c.args.self.now in
    let turn : turn_of c.if-self.result ≡ half_turned (turn_in l.grid) = elim c.if-self.branch [ then-self w ↦ search rules | else-self w ↦ search rules ] in
    let is : c.scale_e9.result ≡ pos l.scale = search rules in
    let wide : c.whole_parts-width.result ≡ pos (whole_parts (nat_abs l.room.paper.width)) = search rules in
    let high : c.whole_parts-height.result ≡ pos (whole_parts (nat_abs l.room.paper.height)) = search rules in
    let across : measure_of c.distance.result ≡ in_points (c.whole_parts-width.result -ℤ c.shift-x.result.0) = search rules in
    let up : measure_of c.distance-2.result ≡ in_points (c.whole_parts-height.result -ℤ c.shift-x.result.1) = search rules in
    parts_are (c.args.n + c.args.k) _ _ _ _ _ _ _ _ turn is
    (across ∙ (ap (λ z. in_points (z -ℤ c.shift-x.result.0)) wide ∙ ap (λ z. in_points (pos (whole_parts (nat_abs l.room.paper.width)) -ℤ z)) c.shift-x.ensures.right))
    (up ∙ (ap (λ z. in_points (z -ℤ c.shift-x.result.1)) high ∙ ap (λ z. in_points (pos (whole_parts (nat_abs l.room.paper.height)) -ℤ z)) c.shift-x.ensures.top))
