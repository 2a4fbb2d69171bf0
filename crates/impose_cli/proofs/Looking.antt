-- What comes of a look at a task.
use Rattle.std.proofs.Common.{inr, List, ℕ}
use Rattle.impose_cli.specs.Endings.{RefusesRowRun, RefusesRowTaskRun}
use Rattle.impose_cli.specs.Looks.{IsRowText, IsTaskText}
use Rattle.impose_cli.specs.RowTasks.{IsRowTask}
use Rattle.impose_messages.specs.declared.fault.ImposeFault.{ImposeFault}
use Rattle.impose_cli.specs.declared.look.Overview.{Overview}
use Rattle.impose_words.specs.declared.request.ImposeRequest.{ImposeRequest}
use Rattle.impose_cli.specs.declared.row_task.RowTask.{RowTask}

pub tells_row : (r : ImposeRequest) (input : List ℕ) (t : RowTask) (look : Overview) (text : List ℕ) → IsRowTask r input t → IsTaskText r t look text → IsRowText r input look text
tells_row r input t look text is h = (t, is, h)

pub refuses_row : (r : ImposeRequest) (input : List ℕ) (t : RowTask) (f : ImposeFault) → IsRowTask r input t → RefusesRowTaskRun r t f → RefusesRowRun r input f
refuses_row r input t f is h = inr (record { task = t; is_task = is; refused = h })
