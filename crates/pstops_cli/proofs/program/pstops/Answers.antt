use Rattle.std.proofs.Common.{inr}
use Rattle.pstops_cli.proofs.Programs.{carries_out}
use Rattle.pstops_cli.proofs.program.pstops.Goals as goal

pub returns-in-Ok-clause-ended : goal.returns-in-Ok-clause-ended
returns-in-Ok-clause-ended g c =
    inr (
      c.in-Ok.request,
      c.in-Ok.input.items,
      c.in-Ok.ensures.read,
      c.read.new.world,
      c.in-Ok.ensures.given,
      rw c.as_slice.ensures.value at rw c.read.ensures.reports_outputs at c.run_in.ensures,
    )

pub returns-in-Ok-clause-finished : goal.returns-in-Ok-clause-finished
returns-in-Ok-clause-finished g c zero = (
  c.in-Ok.request,
  c.in-Ok.input.items,
  c.in-Ok.ensures.read,
  carries_out g.W.World.seen c.in-Ok.request c.in-Ok.input.items _ c.read.new.world _ _ _ _ _ zero (rw c.as_slice.ensures.value at rw c.read.ensures.reports_outputs at c.run_in.ensures),
)
