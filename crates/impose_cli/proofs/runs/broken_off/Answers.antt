use Rattle.std.proofs.Common.{◌∙◌, Err, ap, rules, true}
use Rattle.std.specs.Io.KnownBytes.{append_known}
use Rattle.world.specs.Outputs.{OutputView}
use Rattle.impose_cli.specs.Endings.{edge_of_world}
use Rattle.impose_cli.proofs.Coming.{is_not_created, refused_off, there_off, unasked_off}
use Rattle.impose_cli.proofs.runs.broken_off.Goals as goal

pub returns-in-Unasked : goal.returns-in-Unasked
returns-in-Unasked g c =
    unasked_off (edge_of_world true g.W.World.seen g.W.Output.Output.seen) g.B.Before.name g.B.Before.seen c.in-Unasked.world c.args.taken _ c.refused_before.result.outcome c.refused_before.result.rest
    (c.refused_before.ensures.outcome ∙ ap Err c.no_memory.ensures) c.refused_before.ensures.rest c.in-Unasked.ensures.0

pub returns-in-Refused : goal.returns-in-Refused
returns-in-Refused g c =
    refused_off (edge_of_world true g.W.World.seen g.W.Output.Output.seen) g.B.Before.name g.B.Before.seen c.args.taken _ c.uncreated.result.outcome c.uncreated.result.rest
    (is_not_created (edge_of_world true g.W.World.seen g.W.Output.Output.seen) g.B.Before.name g.B.Before.seen c.in-Refused.refused.world c.in-Refused.refused.cause c.uncreated.result.outcome c.uncreated.result.rest
    c.in-Refused.ensures.0 c.uncreated.ensures.fault c.uncreated.ensures.rest)

pub returns-in-Created : goal.returns-in-Created
returns-in-Created g c =
    there_off (edge_of_world true g.W.World.seen g.W.Output.Output.seen) g.B.Before.name g.B.Before.seen c.in-Created.output c.args.sink.buffer.items c.args.taken c.saturating_sub-written.result _ c.failed.result.outcome c.failed.result.rest
    c.failed.ensures.fault c.failed.ensures.rest (search rules)
    (ap (λ (v : OutputView). append_known v.bytes c.args.sink.buffer.items) (rw c.into_output.ensures at c.in-Created.ensures.0))
