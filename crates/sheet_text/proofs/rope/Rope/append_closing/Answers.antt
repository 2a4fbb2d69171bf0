use Rattle.sheet_text.proofs.Ropes.{in_place_later, kept_or_more, closed}
use Rattle.sheet_text.proofs.rope.Rope.append_closing.Goals as goal

pub invariant_of-self : goal.invariant_of-self
invariant_of-self c =
    in_place_later 0 _ _ c.self.inside.slices.items (kept_or_more c.closing_text.result _ _ _ c.closing_text.ensures.appended c.closing_text.ensures.unchanged) c.self.invariant

pub returns : goal.returns
returns c = closed c.closing_text.result _ _ _ _ _ c.self.view_is c.closing_text.ensures.appended c.self.invariant
