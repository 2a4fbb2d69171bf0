use Rattle.std.proofs.Common.{ap, sym, subst}
use Rattle.dsc.specs.Serving.{ArePartsOf, Serve}
use Rattle.guard.proofs.Serving.{guard_serves}
use Rattle.guard.proofs.roomy_text.RoomyText.put_guard.Goals as goal

pub returns-clause-parts : goal.returns-clause-parts
returns-clause-parts c = λ parts are.
    subst (Serve parts) (sym c.in_ok-self-inside.ensures.put_in)
    (guard_serves _ _ parts (subst (λ text. ArePartsOf text parts) (sym (ap (λ t. t.items) c.self.view_is)) are))
