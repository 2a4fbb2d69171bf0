use Rattle.std.proofs.Common.{◌≡◌, sym, ◌∙◌, subst}
use Rattle.std.specs.Prelude.{Some, slice_get}
use Rattle.rules.specs.Sheets.{Layout}
use Rattle.gather_table.specs.Table.{IsMarkable, slots}
use Rattle.gather_table.specs.History.{after_history}
use Rattle.gather_table.proofs.Calls.{found_may_be_marked}
use Rattle.test_runs.proofs.tests.callers.tables.mark_checked.Goals as goal

pub mark-requires-clause-slot : goal.mark-requires-clause-slot
mark-requires-clause-slot c =
    let seated = c.requires.seat.1 in
    subst (λ (l : Layout). IsMarkable l (after_history l c.page_at.new.seat.front) c.args.sheet c.args.slot) seated
    (found_may_be_marked _ _ c.args.sheet c.args.slot c.in_ok-page.page c.in_ok-page_at.field-0 c.in_ok-page_at.ensures
    (subst (λ (l : Layout). slice_get (slots l c.args.sheet) c.args.slot ≡ Some (Some c.in_ok-page.page)) (sym c.requires.plan ∙ sym seated) c.in_ok-page.ensures.slot))
