use Rattle.std.proofs.Common.{ap, ◌∙◌}
use Rattle.rules.specs.Sheets.{Plan, layout}
use Rattle.sheet_plan.specs.Places.{born_complete}
use Rattle.sheet_plan.proofs.Exact.{blank_listed}
use Rattle.sheet_plan.proofs.plan.Plan.born_complete.Goals as goal

pub returns-clause-exact : goal.returns-clause-exact
returns-clause-exact c =
    blank_listed (layout c.args.self.now) c.as_slice.result.now
    (c.as_slice.ensures.value ∙ c.self.invariant.1 ∙ ap (λ (p : Plan). born_complete (layout p)) c.self.view_is)
