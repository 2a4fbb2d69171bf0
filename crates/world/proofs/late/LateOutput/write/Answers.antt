use Rattle.std.proofs.Common.{option_map, rules}
use Rattle.world.proofs.Lates.{created_written, there_written}
use Rattle.world.proofs.late.LateOutput.write.Goals as goal

pub returns-in_default-take-clause-written : goal.returns-in_default-take-clause-written
returns-in_default-take-clause-written g c =
    there_written g.W.World.reports_outputs g.W.Output.Output.seen g.B.Before.name c.args.self.now.denied c.args.self.now.waiting c.take.new.self c.args.self.now.output
    c.in-Some-output.output c.write.new.self c.write.result c.args.bytes.now (search rules) (search rules) (search rules) (search rules) c.write.ensures.written

pub returns-in-Ok-clause-written : goal.returns-in-Ok-clause-written
returns-in-Ok-clause-written g c =
    created_written g.W.World.reports_outputs g.W.Output.Output.seen g.B.Before.name (option_map (λ n. n.now) c.args.self.now.name) c.args.self.now.denied c.args.self.now.waiting c.take.new.self
    c.args.self.now.output c.in-Some-take.world c.in-Ok.created c.write-written.new.self c.write-written.result c.args.bytes.now (search rules) (search rules) (search rules) (search rules)
    c.in-Ok.ensures.created c.write-written.ensures.written
