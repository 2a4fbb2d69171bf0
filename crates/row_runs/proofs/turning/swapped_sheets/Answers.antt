use Rattle.std.proofs.Common.{[], ◌∙◌}
use Rattle.std.proofs.lemmas.Result.{IfOk-weaker}
use Rattle.row_runs.specs.SwappedMargins.{swapped}
use Rattle.row_runs.specs.Turning.{turn_on}
use Rattle.row_runs.proofs.Turns.{none_on, unturned_sheets}
use Rattle.row_runs.proofs.turning.swapped_sheets.Goals as goal

pub returns : goal.returns
returns c = IfOk-weaker c.turned_sheets.result _ _ (λ made is. is ∙ unturned_sheets (turn_on []) none_on (swapped c.args.swap.now c.args.sheets)) c.turned_sheets.ensures
