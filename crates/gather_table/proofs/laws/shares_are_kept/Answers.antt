use Rattle.gather_table.specs.History.{IsLegal}
use Rattle.rules.proofs.SeatCalls
use Rattle.gather_table.proofs.laws.shares_are_kept.Goals as goal

pub returns : goal.returns
returns c = Rattle.rules.proofs.SeatCalls.shares_are_kept IsLegal
