use Rattle.std.proofs.Common.{inl}
use Rattle.layouts.proofs.Fitting.{handed_on}
use Rattle.impose_cli.specs.Endings.{RefusesRowRun}
use Rattle.impose_cli.proofs.Looking.{refuses_row, tells_row}
use Rattle.impose_cli.proofs.look.look_text.Goals as goal

pub returns-clause-text : goal.returns-clause-text
returns-clause-text c =
    tells_row c.args.request.now c.args.input.items c.in_ok-task.task c.args.look c.in_ok-text.text.items c.in_ok-task.ensures.is_task
    c.in_ok-text.ensures.text

pub returns-in_err-text-clause-refused : goal.returns-in_err-text-clause-refused
returns-in_err-text-clause-refused c =
    handed_on c.from_residual-in_err-text.result _ (RefusesRowRun c.args.request.now c.args.input.items) c.from_residual-in_err-text.ensures.1
    (refuses_row c.args.request.now c.args.input.items c.in_ok-task.task c.in_err-text.field-0.0 c.in_ok-task.ensures.is_task
    c.in_err-text.ensures.refused)

pub returns-in_err-task-clause-refused : goal.returns-in_err-task-clause-refused
returns-in_err-task-clause-refused c =
    handed_on c.from_residual.result _ (RefusesRowRun c.args.request.now c.args.input.items) c.from_residual.ensures.1
    (inl c.in_err-task.ensures.refused)
