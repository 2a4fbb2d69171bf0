use Rattle.std.proofs.Common.{inl}
use Rattle.impose_cli.specs.Endings.{edge_of_world, shown}
use Rattle.impose_cli.proofs.Programs.{printed}
use Rattle.impose_cli.proofs.program.print_input.Goals as goal

pub returns-in-Ok : goal.returns-in-Ok
returns-in-Ok g c =
    printed c.args.request.now c.args.input.items (edge_of_world (g.W.World.reports_outputs c.args.world) g.W.World.seen g.W.Output.Output.seen) c.in-Ok.text.items c.create_with_text.result.outcome
    c.args.world c.create_with_text.result.rest (shown g.W.Output.Output.seen c.create_with_text.result.rest)
    c.in-Ok.ensures.text (rw c.as_slice.ensures.value at c.create_with_text.ensures)

pub returns-in-Err : goal.returns-in-Err
returns-in-Err g c = inl (_, c.refused_before.ensures.outcome, c.in-Err.ensures.refused, c.refused_before.ensures.rest)
