use Rattle.std.proofs.Common.{rules, arith, replicate, ap, sym, ◌∙◌, subst, ◌+◌, List, ℕ}
use Rattle.std.specs.Prelude.{None}
use Rattle.gather_table.proofs.Blanks.{sheets_of, sound_of}
use Rattle.rules.specs.Sheets.{layout}
use Rattle.gather_table.specs.Plain.{first_group, blank_groups}
use Rattle.gather_table.specs.Table.{group_count}
use Rattle.gather_table.proofs.Stored.{AreFirst, plain_made, state_made, one_more}
use Rattle.gather_table.proofs.plain.PlainTable.new.Goals as goal

pub loop-sheet-preserved : goal.loop-sheet-preserved
loop-sheet-preserved c =
    let plan = layout c.args.plan.now in
    let before = c.loop-sheet.invariant in
    let count = before.marks.count in
    let len = c.len.ensures in
    record {
      marks = c.in_ok-mark_blanks.ensures.blanks;
      begins = subst (AreFirst (first_group plan) (c.loop-sheet.sheet + 1)) (sym {A = List ℕ} c.in_ok-push.ensures.items) (one_more (first_group plan) c.loop-sheet.sheet _ _ before.begins (omega arith));
      closes = subst (AreFirst (λ s. blank_groups plan s (group_count plan s)) (c.loop-sheet.sheet + 1)) (sym {A = List ℕ} c.in_ok-push-2.ensures.items)
          (one_more (λ s. blank_groups plan s (group_count plan s)) c.loop-sheet.sheet _ _ before.closes c.in_ok-mark_blanks.ensures.closed);
    }

pub invariant_of-result : goal.invariant_of-result
invariant_of-result c =
    let end = c.sheets-sheets.ensures.value ∙ sym (sheets_of c.args.plan.now) in
    let none = c.in_ok-indexes.ensures.items_if_clones_equal (search rules) ∙ ap (λ n. replicate n None) c.pages.ensures.value in
    plain_made _ _ _ _ _ c.loop-sheet.sheet none (let t = c.loop-sheet-test.false in let u = c.loop-sheet.auto.sheet-end in omega arith) c.loop-sheet.invariant (sound_of c.args.plan.now c.pages.ensures.sound)

pub returns-clause-state : goal.returns-clause-state
returns-clause-state c =
    let end = c.sheets-sheets.ensures.value ∙ sym (sheets_of c.args.plan.now) in
    let none = c.in_ok-indexes.ensures.items_if_clones_equal (search rules) ∙ ap (λ n. replicate n None) c.pages.ensures.value in
    state_made _ _ _ _ _ c.loop-sheet.sheet none (let t = c.loop-sheet-test.false in let u = c.loop-sheet.auto.sheet-end in omega arith) c.loop-sheet.invariant
