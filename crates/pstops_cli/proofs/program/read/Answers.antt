use Rattle.std.proofs.Common.{subst}
use Rattle.world.specs.Worlds.{WasAsked, opening}
use Rattle.pstops_cli.proofs.program.read.Goals as goal

pub returns-in-Err-input_of-clause-refused : goal.returns-in-Err-input_of-clause-refused
returns-in-Err-input_of-clause-refused g c = (
  c.in-Ok.request,
  (c.in-Ok.ensures.taken, c.in-Ok.ensures.read),
  subst (λ n. WasAsked (opening n) (g.W.World.seen c.args.world.now) (g.W.World.seen c.input_of.new.world)) c.name_of.ensures c.in-Err-input_of.ensures.asked,
  c.in-Err-input_of.ensures.unread,
)
