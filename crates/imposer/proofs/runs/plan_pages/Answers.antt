use Rattle.std.proofs.Common.{◌≡◌, sym, subst}
use Rattle.std.specs.Prelude.{IfOk, OnOk, Ok}
use Rattle.rules.specs.Run.{plan_in}
use Rattle.rules.specs.Signatures.{sheets_in}
use Rattle.sheet_plan.specs.Plans.{planned_in}
use Rattle.imposer.proofs.runs.plan_pages.Goals as goal

pub returns-in-None-clause-planned : goal.returns-in-None-clause-planned
returns-in-None-clause-planned c =
    subst (λ sides. IfOk c.new.result (λ plan. plan ≡ planned_in sides c.args.spec.now c.args.pages)) (sym c.in-None.is) c.new.ensures.planned

pub returns-in-None-clause-accepted : goal.returns-in-None-clause-accepted
returns-in-None-clause-accepted c =
    subst (λ sides. OnOk c.new.result (plan_in sides c.args.spec.now c.args.pages ≡ Ok (sheets_in sides c.args.spec.now c.args.pages))) (sym c.in-None.is) c.new.ensures.accepted
