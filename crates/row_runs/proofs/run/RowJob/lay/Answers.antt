use Rattle.std.proofs.Common.{◌≡◌, ◌∙◌, ap, ap₂, subst, List, map, ℕ, Option, true}
use Rattle.papers.specs.Reported.{reporting}
use Rattle.layouts.specs.Placed.{Room}
use Rattle.sheet_text.specs.declared.numbers.Numbers.{Numbers}
use Rattle.dressing.specs.Numbered.{drawn_on}
use Rattle.dressing.specs.declared.strokes.Stroke.{Stroke}
use Rattle.row_runs.specs.SwappedMargins.{swapped}
use Rattle.row_runs.specs.Numbers.{numbers_asked}
use Rattle.row_runs.specs.Reaching.{are_reached}
use Rattle.row_runs.specs.Turning.{turn_on, turned_sheet}
use Rattle.layouts.proofs.Fitting.{handed_on}
use Rattle.row_runs.specs.Runs.{RefusesRun}
use Rattle.row_runs.proofs.AsMany.{places_few}
use Rattle.row_runs.proofs.Reach.{numbers_refused, reach_refused}
use Rattle.row_runs.proofs.Refused.{run_refused}
use Rattle.row_runs.proofs.run.RowJob.lay.Goals as goal

pub returns-in_err-sheets-clause-refused : goal.returns-in_err-sheets-clause-refused
returns-in_err-sheets-clause-refused c =
    handed_on c.from_residual.result c.in_err-sheets.field-0.0 (RefusesRun c.args.self.now) c.from_residual.ensures.1
    (run_refused c.args.self.now c.pages-count.result c.in_err-sheets.field-0.0 c.pages-count.ensures.count c.in_err-sheets.ensures.refused)

pub returns-in_err-check_reach-clause-refused : goal.returns-in_err-check_reach-clause-refused
returns-in_err-check_reach-clause-refused c =
    handed_on c.from_residual-in_err-check_reach.result c.in_err-check_reach.field-0.0 (RefusesRun c.args.self.now) c.from_residual-in_err-check_reach.ensures.1
    (reach_refused c.args.self.now c.pages-count.result c.swapped_room_in-swap.result c.in_ok-sheets.sheets c.in_err-check_reach.field-0.0 c.pages-count.ensures.count
    c.swapped_room_in-swap.ensures c.pages-count.ensures.few c.in_ok-sheets.ensures.made c.in_err-check_reach.ensures.refused)

pub numbers_on-requires-clause-few : goal.numbers_on-requires-clause-few
numbers_on-requires-clause-few c =
    places_few c.pages-count.result c.args.self.now.papers.now c.args.self.now.asked c.in_ok-sheets.sheets c.in_ok-sheets.ensures.made c.in_ok-check_reach.ensures.few

pub returns-in_err-numbers-clause-refused : goal.returns-in_err-numbers-clause-refused
returns-in_err-numbers-clause-refused c =
    handed_on c.from_residual-in_err-numbers.result c.in_err-numbers.field-0.0 (RefusesRun c.args.self.now) c.from_residual-in_err-numbers.ensures.1
    (numbers_refused c.args.self.now c.pages-count.result c.swapped_room_in-swap.result c.in_ok-sheets.sheets c.in_err-numbers.field-0.0 c.pages-count.ensures.count
    c.swapped_room_in-swap.ensures c.in_ok-sheets.ensures.made c.in_err-numbers.ensures.refused)

pub returns-clause-turned : goal.returns-clause-turned
returns-clause-turned c = record {
  may = c.requires;
  laid = c.in_ok-sheets.sheets;
  asked = rw c.pages-count.ensures.count at c.in_ok-sheets.ensures.made;
  stand = c.in_ok-sheets.ensures.stands;
  reached = subst (λ m. are_reached (turn_on c.args.self.now.turns.now) m c.in_ok-sheets.sheets ≡ true) c.swapped_room_in-swap.ensures c.in_ok-check_reach.ensures.reached;
  turned = c.in_ok-turned.ensures
      ∙ ap (λ m. map (turned_sheet (turn_on c.args.self.now.turns.now)) (swapped m c.in_ok-sheets.sheets)) c.swapped_room_in-swap.ensures;
}

pub returns-clause-dressed : goal.returns-clause-dressed
returns-clause-dressed c =
    let j = c.args.self.now in
    let strokes = c.as_slice.ensures.value ∙ c.in_ok-strokes.ensures in
    let numbers = c.in_ok-numbers.ensures.made
    ∙ ap₂ (λ (n : ℕ) (m : Option Room). numbers_asked n j.papers.now j.asked m j.marks.numbers) c.pages-count.ensures.count c.swapped_room_in-swap.ensures in
    c.in_ok-dress.ensures
    ∙ ap₂ (λ (s : List Stroke) (n : Option Numbers). drawn_on (record { strokes = s; numbers = n }) (reporting c.in_ok-turned.turned)) strokes numbers
