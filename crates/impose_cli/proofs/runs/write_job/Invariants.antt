-- What is seen of the world, and the name of its output, are those of the call.
use Rattle.std.proofs.Common.{option_map}
use Rattle.impose_cli.proofs.runs.write_job.Given as goal

abbrev pub ghosts-write_asked : goal.ghosts-write_asked
ghosts-write_asked g a = record { seen = g.W.World.seen a.asked.world; name = option_map (λ n. n.now) a.asked.name }
