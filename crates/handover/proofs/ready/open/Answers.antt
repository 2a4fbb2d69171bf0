use Rattle.std.proofs.Common.{rules}
use Rattle.handover.proofs.RuleKept.{tells}
use Rattle.handover.proofs.ready.open.Goals as goal

pub another-requires-clause-rule : goal.another-requires-clause-rule
another-requires-clause-rule g c = tells _ _ g.N.Picks.number g.N.Picks.room (search rules) c.requires.number.0 c.requires.number.1
