use Rattle.std.proofs.Common.{ap, ◌∙◌}
use Rattle.rules.specs.Sheets.{layout}
use Rattle.sheet_plan.proofs.Accepted.{layout_is}
use Rattle.sheet_plan.proofs.plan.Plan.of_sheets.Goals as goal

pub returns-clause-layout : goal.returns-clause-layout
returns-clause-layout c = ap layout c.in_ok-source.ensures.value ∙ layout_is c.args.pages c.args.sheets.now
