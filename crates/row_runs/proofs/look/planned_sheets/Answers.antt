use Rattle.std.proofs.Common.{◌≡◌, ◌∙◌, ap, map, subst, sym, true}
use Rattle.layouts.proofs.Fitting.{handed_on}
use Rattle.row_runs.specs.Runs.{AreTurned, RefusesRun}
use Rattle.sheet_plan.specs.MadeRefusals.{RefusesMade}
use Rattle.row_runs.specs.SwappedMargins.{swapped}
use Rattle.row_runs.specs.Reaching.{are_reached}
use Rattle.row_runs.specs.Sheets.{AreAsked}
use Rattle.row_runs.specs.Turning.{turn_on, turned_sheet}
use Rattle.row_runs.proofs.Reach.{reach_refused}
use Rattle.row_runs.proofs.Refused.{run_refused, sheets_refused}
use Rattle.row_runs.proofs.look.planned_sheets.Goals as goal

pub returns-in_err-sheets-clause-refused : goal.returns-in_err-sheets-clause-refused
returns-in_err-sheets-clause-refused c =
    handed_on c.from_residual.result c.in_err-sheets.field-0.0 (RefusesRun c.args.job.now) c.from_residual.ensures.1
    (run_refused c.args.job.now c.pages-count.result c.in_err-sheets.field-0.0 c.pages-count.ensures.count c.in_err-sheets.ensures.refused)

pub returns-in_err-check_reach-clause-refused : goal.returns-in_err-check_reach-clause-refused
returns-in_err-check_reach-clause-refused c =
    handed_on c.from_residual-in_err-check_reach.result c.in_err-check_reach.field-0.0 (RefusesRun c.args.job.now) c.from_residual-in_err-check_reach.ensures.1
    (reach_refused c.args.job.now c.pages-count.result c.swapped_room_in-swap.result c.in_ok-sheets.sheets c.in_err-check_reach.field-0.0 c.pages-count.ensures.count
    c.swapped_room_in-swap.ensures c.pages-count.ensures.few c.in_ok-sheets.ensures.made c.in_err-check_reach.ensures.refused)

pub returns-in-Err-clause-refused : goal.returns-in-Err-clause-refused
returns-in-Err-clause-refused c =
    let j = c.args.job.now in
    let are : AreTurned j c.in_ok-turned.turned = record {
      may = c.requires.asked;
      laid = c.in_ok-sheets.sheets;
      asked = subst (λ n. AreAsked n j.papers.now j.asked c.in_ok-sheets.sheets) c.pages-count.ensures.count c.in_ok-sheets.ensures.made;
      stand = c.in_ok-sheets.ensures.stands;
      reached = subst (λ m. are_reached (turn_on j.turns.now) m c.in_ok-sheets.sheets ≡ true) c.swapped_room_in-swap.ensures c.in_ok-check_reach.ensures.reached;
      turned = c.in_ok-turned.ensures ∙ ap (λ m. map (turned_sheet (turn_on j.turns.now)) (swapped m c.in_ok-sheets.sheets)) c.swapped_room_in-swap.ensures;
    } in
    subst (RefusesRun j) (sym c.plan_error.ensures)
    (sheets_refused j c.in_ok-turned.turned c.in-Err.error are
    (subst (λ n. RefusesMade n c.in_ok-turned.turned c.in-Err.error) c.pages-count.ensures.count c.in-Err.ensures.refused))
