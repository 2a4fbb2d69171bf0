use Rattle.sheet_text.proofs.Ropes.{front_within}
use Rattle.sheet_text.proofs.rope.Pieces.take_next.Goals as goal

pub split_at-requires : goal.split_at-requires
split_at-requires c = front_within _ _ _ _ _ c.if-self.false c.self.invariant
