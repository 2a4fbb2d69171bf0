use Rattle.impose_cli.proofs.Rows.{serve_itself}
use Rattle.impose_cli.proofs.row_task.text_to_impose.Goals as goal

pub returns-then-not-is_guarded-clause-parts : goal.returns-then-not-is_guarded-clause-parts
returns-then-not-is_guarded-clause-parts c = λ parts are. serve_itself _ parts are
