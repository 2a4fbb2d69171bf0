use Rattle.std.proofs.Common.{◌∙◌, ap, map, sym, None}
use Rattle.row_runs.specs.SwappedMargins.{swapped}
use Rattle.row_runs.specs.Turning.{turn_on, turned_sheet}
use Rattle.row_runs.proofs.Backs.{unswapped}
use Rattle.row_runs.proofs.Turns.{none_listed, unturned_sheets}
use Rattle.row_runs.proofs.turning.turned_sheets.Goals as goal

pub returns-in-None : goal.returns-in-None
returns-in-None c =
    let turns = c.args.turns.now in
    let sheets = c.args.sheets in
    let none = none_listed turns (sym c.is_empty.ensures ∙ c.if-is_empty.true) in
    sym (ap (λ m. map (turned_sheet (turn_on turns)) (swapped m sheets)) c.in-None.is ∙ unturned_sheets (turn_on turns) none (swapped None sheets) ∙ unswapped 0 sheets)
