use Rattle.rules.specs.Sheets.{layout}
use Rattle.gather_table.proofs.Together.{stand_together}
use Rattle.gather_table.proofs.laws.seats_stand_together.Goals as goal

pub returns : goal.returns
returns c = λ plan s kept. stand_together (layout plan) s kept
