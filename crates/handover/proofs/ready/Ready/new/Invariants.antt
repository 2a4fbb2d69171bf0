use Rattle.std.proofs.Common.{None}
use Rattle.crossbeam_queue.specs.Passes.{ruled_capacity}
use Rattle.handover.proofs.ready.Ready.new.Given as goal

abbrev pub ghosts-open : goal.ghosts-open
ghosts-open a = record { number = ruled_capacity a.line.now; room = None }
