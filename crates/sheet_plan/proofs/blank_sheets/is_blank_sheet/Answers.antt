use Rattle.std.proofs.Common.{sym, ◌∙◌}
use Rattle.sheet_plan.specs.Plans.{pages_on}
use Rattle.sheet_plan.specs.Sources.{plan_from}
use Rattle.sheet_plan.proofs.Blanks.{none_more, some_breaks}
use Rattle.sheet_plan.proofs.blank_sheets.is_blank_sheet.Goals as goal

pub returns-then-is_some : goal.returns-then-is_some
returns-then-is_some c = sym (some_breaks c.loop-slot.slot c.page_of.result (pages_on (plan_from c.args.source.now) c.args.sheet) c.page_of.ensures.value (sym c.is_some.ensures ∙ c.if-is_some.true))

pub loop-slot-preserved : goal.loop-slot-preserved
loop-slot-preserved c = none_more c.loop-slot.slot c.page_of.result (pages_on (plan_from c.args.source.now) c.args.sheet) c.loop-slot.invariant c.page_of.ensures.value (sym c.is_some.ensures ∙ c.if-is_some.false)
