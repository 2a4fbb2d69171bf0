use Rattle.std.proofs.Common.{refl, rules, true}
use Rattle.std.specs.IoError.{error_kind}
use Rattle.impose_cli.specs.Endings.{edge_of_world}
use Rattle.impose_cli.proofs.Coming.{held_fresh, held_there, is_not_created, refused_whole, refused_world}
use Rattle.impose_cli.proofs.runs.written_out.Goals as goal

pub returns-in-Created : goal.returns-in-Created
returns-in-Created g c =
    (refl, held_there (edge_of_world true g.W.World.seen g.W.Output.Output.seen) _ c.args.sink.buffer.items c.in-Created.output (rw c.into_output.ensures at c.in-Created.ensures.0) c.requires.empty)

pub returns-in-Ok : goal.returns-in-Ok
returns-in-Ok g c =
    (refl, held_fresh (edge_of_world true g.W.World.seen g.W.Output.Output.seen) _ c.args.sink.buffer.items c.in-Ok.output _ _ (rw c.into_output.ensures at c.in-Unasked.ensures.1) c.in-Ok.ensures.created (search rules) c.requires.empty)

pub returns-in-Err : goal.returns-in-Err
returns-in-Err g c =
    refused_whole (edge_of_world true g.W.World.seen g.W.Output.Output.seen) g.B.Before.name g.B.Before.seen c.uncreated.result.outcome c.uncreated.result.rest _
    (is_not_created (edge_of_world true g.W.World.seen g.W.Output.Output.seen) g.B.Before.name g.B.Before.seen c.in-Err.refused.world c.in-Err.refused.cause c.uncreated.result.outcome c.uncreated.result.rest
    (refused_world _ g.B.Before.name _ g.B.Before.seen (g.W.World.seen c.in-Err.refused.world) (error_kind c.in-Err.refused.cause) c.requires.named c.in-Unasked.ensures.0 c.in-Err.ensures.refused)
    c.uncreated.ensures.fault c.uncreated.ensures.rest)

pub returns-in-Refused : goal.returns-in-Refused
returns-in-Refused g c =
    refused_whole (edge_of_world true g.W.World.seen g.W.Output.Output.seen) g.B.Before.name g.B.Before.seen c.uncreated-in-Refused.result.outcome c.uncreated-in-Refused.result.rest _
    (is_not_created (edge_of_world true g.W.World.seen g.W.Output.Output.seen) g.B.Before.name g.B.Before.seen c.in-Refused.refused.world c.in-Refused.refused.cause c.uncreated-in-Refused.result.outcome c.uncreated-in-Refused.result.rest
    c.in-Refused.ensures.0 c.uncreated-in-Refused.ensures.fault c.uncreated-in-Refused.ensures.rest)
