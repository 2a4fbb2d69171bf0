use Rattle.sheet_text.proofs.Ropes.{in_place_later, kept_or_more, closed}
use Rattle.sheet_text.proofs.rope.Rope.append_points.Goals as goal

pub invariant_of-self : goal.invariant_of-self
invariant_of-self c =
    in_place_later 0 _ _ c.self.inside.slices.items (kept_or_more c.print_points.result _ _ _ c.print_points.ensures.appended c.print_points.ensures.unchanged) c.self.invariant

pub returns : goal.returns
returns c = closed c.print_points.result _ _ _ _ _ c.self.view_is c.print_points.ensures.appended c.self.invariant
