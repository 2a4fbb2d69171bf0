use Rattle.impose_cli.proofs.Rows.{papers_count}
use Rattle.impose_cli.proofs.printed.spec_text.Goals as goal

pub printed_task-requires-clause-some : goal.printed_task-requires-clause-some
printed_task-requires-clause-some c = (papers_count c.args.request.now c.args.input.items c.in_ok-task.task.papers.items c.in_ok-task.ensures.is_task.papers).0

pub printed_task-requires-clause-few : goal.printed_task-requires-clause-few
printed_task-requires-clause-few c = (papers_count c.args.request.now c.args.input.items c.in_ok-task.task.papers.items c.in_ok-task.ensures.is_task.papers).1

pub printed_task-requires-clause-laying : goal.printed_task-requires-clause-laying
printed_task-requires-clause-laying c = c.in_ok-task.ensures.is_task.laying

pub returns-clause-text : goal.returns-clause-text
returns-clause-text c = (c.in_ok-task.task, c.in_ok-task.ensures.is_task, c.in_ok-text.ensures.printed)
