use Rattle.std.proofs.Common.{arith, sym, ap, ◌∙◌}
use Rattle.std.specs.List.{list_any}
use Rattle.rules.specs.MadePlans.{lacks_page}
use Rattle.sheet_plan.proofs.Accepted.{lacks, no_sheet, slots_are, found_at, passed_by, looked_none, looked_all}
use Rattle.sheet_plan.proofs.made_expansion.first_missing.Goals as goal

pub loop-sheet-init : goal.loop-sheet-init
loop-sheet-init c = looked_none (lacks c.args.pages) c.args.made.now

pub returns-then-is_page_missing : goal.returns-then-is_page_missing
returns-then-is_page_missing c =
    sym (found_at (lacks c.args.pages) c.args.made.now c.loop-sheet.sheet no_sheet c.is_page_missing.result (omega arith) c.loop-sheet.invariant
    (c.is_page_missing.ensures ∙ ap (list_any (lacks_page c.args.pages)) (slots_are c.args.made.now c.loop-sheet.sheet (omega arith))) c.if-is_page_missing.true)

pub loop-sheet-preserved : goal.loop-sheet-preserved
loop-sheet-preserved c =
    passed_by (lacks c.args.pages) c.args.made.now c.loop-sheet.sheet no_sheet c.is_page_missing.result (omega arith) c.loop-sheet.invariant
    (c.is_page_missing.ensures ∙ ap (list_any (lacks_page c.args.pages)) (slots_are c.args.made.now c.loop-sheet.sheet (omega arith))) c.if-is_page_missing.false

pub returns : goal.returns
returns c = sym (looked_all (lacks c.args.pages) c.args.made.now c.loop-sheet.sheet (omega arith) c.loop-sheet.invariant)
