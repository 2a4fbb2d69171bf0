use Rattle.run_steps.proofs.imposition.Imposition.find_shelved.Goals as goal
use Rattle.run_steps.proofs.LookUps.{is_found}

pub unreachable-requires : goal.unreachable-requires
unreachable-requires c = is_found c.args.self.now.table.now.layout c.args.seat.now c.page_at.new.seat c.args.page c.page_at.result c.requires.seat.1 c.requires.index c.page_at.ensures c.in_default.is
