use Rattle.std.proofs.Common.{◌∙◌, map, ap, subst, sym}
use Rattle.std.specs.Prelude.{string_bytes}
use Rattle.impose_cli.specs.Endings.{edge_of_world, shown}
use Rattle.impose_cli.specs.Programs.{FindsHome}
use Rattle.impose_words.proofs.Found.{entered_at_home}
use Rattle.impose_cli.proofs.Finishing.{has_finished}
use Rattle.impose_cli.proofs.Programs.{at_home, created_for, found_at_home}
use Rattle.impose_cli.proofs.program.impose.Goals as goal

pub returns-in-Ok : goal.returns-in-Ok
returns-in-Ok g c =
    let attempt = c.carry_out-attempt.result in
    let foreign = c.finds_foreign-is_foreign.result in
    let found = c.finds_foreign-is_foreign.new.world in
    let edge = edge_of_world (g.W.World.reports_outputs c.args.world) g.W.World.seen g.W.Output.Output.seen in
    let carried = at_home g.W.World.seen c.at_home-request.result (g.W.World.gives c.args.world) _ (g.W.World.same c.args.world) _ (g.W.World.terminal c.args.world) _ foreign edge _ attempt.outcome found attempt.rest
    (shown g.W.Output.Output.seen attempt.rest) (c.finds_foreign-is_foreign.ensures.again ∙ c.home_of.ensures.again) (c.finds_foreign-is_foreign.ensures.same ∙ c.home_of.ensures.same)
    (c.finds_foreign-is_foreign.ensures.terminal ∙ c.home_of.ensures.terminal)
    (ap (λ t. edge_of_world t g.W.World.seen g.W.Output.Output.seen) (c.finds_foreign-is_foreign.ensures.reports_outputs ∙ c.home_of.ensures.reports_outputs)) c.carry_out-attempt.ensures in record {
      ended = (
        c.home_of.new.world,
        subst (λ p. FindsHome c.args.paper_size.now (g.W.World.gives c.args.world) (g.W.World.regular c.args.world) (g.W.World.seen c.args.world) (g.W.World.seen c.home_of.new.world) p)
            (sym (ap (λ r. r.default_paper) c.at_home-request.ensures)) c.home_of.ensures.home,
        found,
        foreign,
        found_at_home c.at_home-request.result (g.W.World.gives c.args.world) _ _ (g.W.World.same c.args.world) _ _ _ foreign c.home_of.ensures.again c.home_of.ensures.same
            c.finds_foreign-is_foreign.ensures.found,
        carried,
      );
      asked = entered_at_home (map string_bytes c.args.words.now) c.in-Ok.read c.at_home-request.result c.home_of.result c.at_home-request.ensures c.in-Ok.ensures.read;
      finished = has_finished g.W.World.seen c.at_home-request.result (g.W.World.gives c.args.world) (g.W.World.same c.args.world) (g.W.World.terminal c.args.world) foreign edge attempt.outcome found attempt.rest
          (shown g.W.Output.Output.seen attempt.rest) carried;
      created = created_for g.W.World.seen c.at_home-request.result (g.W.World.gives c.args.world) (g.W.World.same c.args.world) (g.W.World.terminal c.args.world) foreign edge attempt.outcome found attempt.rest
          (shown g.W.Output.Output.seen attempt.rest) carried;
    }
