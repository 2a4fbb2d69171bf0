use Rattle.imposer.proofs.Held.{imposes_nothing, imposes_same, imposes_taken}
use Rattle.imposer.proofs.shared.Shared.find_sheet.Goals as goal

pub returns-in-Some : goal.returns-in-Some
returns-in-Some g c = record { imposes = imposes_nothing c.args.self.now _ c.requires.tokens }

pub returns-then-come_nearer : goal.returns-then-come_nearer
returns-then-come_nearer g c = record { imposes = imposes_nothing c.args.self.now _ c.requires.tokens }

pub returns-in_default-taken : goal.returns-in_default-taken
returns-in_default-taken g c = record { imposes = imposes_same c.args.self.now c.args.tokens.now _ c.requires.tokens c.in_default-taken.ensures.none }

pub returns-then-sheet-end : goal.returns-then-sheet-end
returns-then-sheet-end g c = record { imposes = imposes_taken c.args.self.now c.in-Some-taken.sheet _ _ c.requires.tokens c.in-Some-taken.ensures.taken }

pub returns-then-is_ok : goal.returns-then-is_ok
returns-then-is_ok g c = record { imposes = imposes_taken c.args.self.now c.in-Some-taken.sheet _ _ c.requires.tokens c.in-Some-taken.ensures.taken }

pub returns : goal.returns
returns g c = record { imposes = imposes_taken c.args.self.now c.in-Some-taken.sheet _ _ c.requires.tokens c.in-Some-taken.ensures.taken }
