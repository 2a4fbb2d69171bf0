use Rattle.std.proofs.Common.{ap, option_map, refl}
use Rattle.impose_messages.specs.declared.fault.ImposeFault.TheVariants as fault
use Rattle.impose_cli.specs.Endings.{edge_of_world, shown}
use Rattle.impose_cli.proofs.Programs.{uncreated, wrote_part, wrote_text}
use Rattle.impose_cli.proofs.program.create_with_text.Goals as goal

pub returns-in-Ok-write_and_flush : goal.returns-in-Ok-write_and_flush
returns-in-Ok-write_and_flush g c =
    wrote_text (option_map (λ n. n.now) c.args.name) c.args.text.now c.args.done (edge_of_world (g.W.World.reports_outputs c.args.world) g.W.World.seen g.W.Output.Output.seen) c.args.world
    c.write_and_flush.new.output _ _ c.in-Ok.ensures.created c.in-Ok-write_and_flush.ensures.whole c.in-Ok-write_and_flush.ensures.steady.0 refl

pub returns-in-Err-write_and_flush : goal.returns-in-Err-write_and_flush
returns-in-Err-write_and_flush g c =
    let broken = c.in-Err-write_and_flush in
    wrote_part (option_map (λ n. n.now) c.args.name) c.args.text.now c.args.done (edge_of_world (g.W.World.reports_outputs c.args.world) g.W.World.seen g.W.Output.Output.seen) c.args.world
    c.write_and_flush.new.output _ _ broken.broken.written _ _ c.in-Ok.ensures.created broken.ensures.within broken.ensures.part broken.ensures.failed refl
    (ap (fault.Write broken.broken.written) c.cause.ensures) refl

pub returns-in-Err : goal.returns-in-Err
returns-in-Err g c =
    let e = edge_of_world (g.W.World.reports_outputs c.args.world) g.W.World.seen g.W.Output.Output.seen in
    uncreated (option_map (λ n. n.now) c.args.name) c.args.text.now c.args.done e _ c.refused_before.result.outcome c.args.world
    c.refused_before.result.rest (shown g.W.Output.Output.seen c.refused_before.result.rest) c.refused_before.ensures.outcome
    (refl, (c.in-Err.refused.world, c.refused_before.ensures.rest, c.in-Err.ensures.refused))
