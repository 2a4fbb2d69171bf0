use Rattle.std.proofs.Common.{◌++◌, ◌∷◌, [], sym, ap, ◌∙◌}
use Rattle.std.specs.declared.vec.Vec.{Vec}
use Rattle.std.specs.declared.alloc.Global.{Global}
use Rattle.std.specs.Prelude.{ℕ}
use Rattle.rules.specs.Sheets.{layout}
use Rattle.sheet_plan.specs.Places.{is_blank_sheet}
use Rattle.sheet_plan.specs.Sources.{plan_from}
use Rattle.sheet_plan.proofs.Blanks.{filter_next_yes, filter_next_no}
use Rattle.sheet_plan.proofs.blank_sheets.blank_sheets_in.Goals as goal
use Rattle.sheet_plan.proofs.blank_sheets.blank_sheets_in.Goals.{then-is_blank_sheet+in_ok-push, else-is_blank_sheet}

pub loop-sheet-preserved : goal.loop-sheet-preserved
loop-sheet-preserved c =
    elim c.if-is_blank_sheet.branch [
      | then-is_blank_sheet+in_ok-push w ↦
          ap (λ (v : Vec ℕ Global). v.items) w.blank_sheets-is ∙ w.in_ok-push.ensures.items
          ∙ ap (λ xs. xs ++ c.loop-sheet.sheet ∷ []) c.loop-sheet.invariant
          ∙ sym (filter_next_yes (is_blank_sheet (layout (plan_from c.args.source.now))) c.loop-sheet.sheet (sym c.is_blank_sheet.ensures ∙ w.if-is_blank_sheet.true))
      | else-is_blank_sheet w ↦
          ap (λ (v : Vec ℕ Global). v.items) w.blank_sheets-is ∙ c.loop-sheet.invariant
          ∙ sym (filter_next_no (is_blank_sheet (layout (plan_from c.args.source.now))) c.loop-sheet.sheet (sym c.is_blank_sheet.ensures ∙ w.if-is_blank_sheet.false))
    ]
