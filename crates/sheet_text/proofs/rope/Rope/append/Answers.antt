use Rattle.sheet_text.proofs.Ropes.{in_place_later, grown, appended}
use Rattle.sheet_text.proofs.rope.Rope.append.Goals as goal

pub invariant_of-self : goal.invariant_of-self
invariant_of-self c =
    in_place_later 0 _ _ c.self.inside.slices.items (grown _ _ _ _ c.extend_from_slice.ensures.items) c.self.invariant

pub returns-clause-appended : goal.returns-clause-appended
returns-clause-appended c =
    appended c.extend_from_slice.result _ _ _ _ _ c.self.view_is c.extend_from_slice.ensures.items c.self.invariant
