use Rattle.std.proofs.Common.{rules, arith, ◌∙◌}
use Rattle.sheet_text.proofs.Ropes.{put_behind, placed_behind}
use Rattle.sheet_text.proofs.rope.Rope.append_borrowed.Goals as goal

pub invariant_of-self-2 : goal.invariant_of-self-2
invariant_of-self-2 c = placed_behind _ _ _ _ c.in_ok-push.ensures.items (c.len.ensures ∙ search rules) (omega (arith, c.if-bytes-lt-LEAST_BORROWED.false)) c.self.invariant

pub returns-clause-appended : goal.returns-clause-appended
returns-clause-appended c = put_behind _ _ _ _ _ c.self.view_is c.in_ok-push.ensures.items (c.len.ensures ∙ search rules) c.self.invariant
