use Rattle.std.proofs.Common.{arith, ◌++◌, sym, ap, ◌∙◌}
use Rattle.sheet_plan.specs.Plans.{pages_on}
use Rattle.sheet_plan.specs.Placed.{placed_in}
use Rattle.sheet_plan.specs.Sources.{plan_from}
use Rattle.sheet_plan.proofs.Listing.{sheet_more_of, whole_of}
use Rattle.sheet_plan.proofs.placed.placed_pages.Goals as goal

pub loop-sheet-preserved : goal.loop-sheet-preserved
loop-sheet-preserved c =
    c.in_ok-list_sheet.ensures
    ∙ ap (λ xs. xs ++ placed_in c.loop-sheet.sheet 0 (pages_on (plan_from c.args.source.now) c.loop-sheet.sheet)) c.loop-sheet.invariant
    ∙ sym (sheet_more_of (plan_from c.args.source.now) c.loop-sheet.sheet (omega arith))

pub returns : goal.returns
returns c = c.loop-sheet.invariant ∙ whole_of (plan_from c.args.source.now) c.loop-sheet.sheet (omega arith)
