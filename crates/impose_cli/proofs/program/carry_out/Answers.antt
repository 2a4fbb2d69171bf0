use Rattle.std.proofs.Common.{ap, inl, inr, refl, subst}
use Rattle.impose_cli.specs.Endings.{edge_of_world, shown}
use Rattle.std.specs.Prelude.{option_map, string_bytes}
use Rattle.impose_cli.specs.Programs.{IsDrawnOver, IsForTerminal, FailsToRead}
use Rattle.impose_cli.proofs.Programs.{stopped_before, took}
use Rattle.impose_cli.proofs.program.carry_out.Goals as goal

pub returns-in-Err : goal.returns-in-Err
returns-in-Err g c =
    stopped_before g.W.World.seen c.args.request.now (g.W.World.gives c.args.world) (g.W.World.same c.args.world) (g.W.World.terminal c.args.world) c.args.is_foreign (edge_of_world (g.W.World.reports_outputs c.args.world) g.W.World.seen g.W.Output.Output.seen) _ c.refused_before.result.outcome
    c.args.world c.args.world c.refused_before.result.rest (shown g.W.Output.Output.seen c.refused_before.result.rest)
    c.refused_before.ensures.outcome c.refused_before.ensures.rest (inl (inl c.in-Err.ensures.refused, refl))

pub returns-then-is_drawn_over : goal.returns-then-is_drawn_over
returns-then-is_drawn_over g c =
    stopped_before g.W.World.seen c.args.request.now (g.W.World.gives c.args.world) (g.W.World.same c.args.world) (g.W.World.terminal c.args.world) c.args.is_foreign (edge_of_world (g.W.World.reports_outputs c.args.world) g.W.World.seen g.W.Output.Output.seen) _
    c.refused_before-then-is_drawn_over.result.outcome c.args.world c.args.world c.refused_before-then-is_drawn_over.result.rest
    (shown g.W.Output.Output.seen c.refused_before-then-is_drawn_over.result.rest)
    c.refused_before-then-is_drawn_over.ensures.outcome c.refused_before-then-is_drawn_over.ensures.rest
    (inl (
      inr (inl (
        c.in-Ok.ensures.possible,
        refl,
        subst (λ is. IsDrawnOver (g.W.World.same c.args.world) c.args.request.now.product (option_map string_bytes c.args.request.now.infile) is)
            c.if-is_drawn_over.true c.is_drawn_over.ensures,
      )),
      refl,
    ))

pub returns-then-is_for_terminal : goal.returns-then-is_for_terminal
returns-then-is_for_terminal g c =
    stopped_before g.W.World.seen c.args.request.now (g.W.World.gives c.args.world) (g.W.World.same c.args.world) (g.W.World.terminal c.args.world) c.args.is_foreign (edge_of_world (g.W.World.reports_outputs c.args.world) g.W.World.seen g.W.Output.Output.seen) _
    c.refused_before-then-is_for_terminal.result.outcome c.args.world c.args.world c.refused_before-then-is_for_terminal.result.rest
    (shown g.W.Output.Output.seen c.refused_before-then-is_for_terminal.result.rest)
    c.refused_before-then-is_for_terminal.ensures.outcome c.refused_before-then-is_for_terminal.ensures.rest
    (inl (
      inr (inr (inl (
        c.in-Ok.ensures.possible,
        refl,
        subst (λ is. IsForTerminal (g.W.World.terminal c.args.world) c.args.request.now.product (option_map string_bytes c.args.request.now.outfile) is)
            c.if-is_for_terminal.true c.is_for_terminal.ensures,
      ))),
      refl,
    ))

pub returns-then-is_foreign : goal.returns-then-is_foreign
returns-then-is_foreign g c =
    stopped_before g.W.World.seen c.args.request.now (g.W.World.gives c.args.world) (g.W.World.same c.args.world) (g.W.World.terminal c.args.world) c.args.is_foreign (edge_of_world (g.W.World.reports_outputs c.args.world) g.W.World.seen g.W.Output.Output.seen) _
    c.refused_before-then-is_foreign.result.outcome c.args.world c.args.world c.refused_before-then-is_foreign.result.rest
    (shown g.W.Output.Output.seen c.refused_before-then-is_foreign.result.rest)
    c.refused_before-then-is_foreign.ensures.outcome c.refused_before-then-is_foreign.ensures.rest
    (inl (inr (inr (inr (c.in-Ok.ensures.possible, refl, c.if-is_foreign.true))), refl))

pub returns-in-Ok-roomy_input : goal.returns-in-Ok-roomy_input
returns-in-Ok-roomy_input g c =
    let undrawn = subst (λ is. IsDrawnOver (g.W.World.same c.args.world) c.args.request.now.product (option_map string_bytes c.args.request.now.infile) is) c.if-is_drawn_over.false c.is_drawn_over.ensures in
    let elsewhere = subst (λ is. IsForTerminal (g.W.World.terminal c.args.world) c.args.request.now.product (option_map string_bytes c.args.request.now.outfile) is) c.if-is_for_terminal.false c.is_for_terminal.ensures in
    took g.W.World.seen c.args.request.now (g.W.World.gives c.args.world) (g.W.World.same c.args.world) (g.W.World.terminal c.args.world) c.args.is_foreign (edge_of_world (g.W.World.reports_outputs c.args.world) g.W.World.seen g.W.Output.Output.seen) _ c.in-Ok-roomy_input.input.items _
    c.make.result.outcome c.args.world c.roomy_input.new.world c.make.result.rest
    (shown g.W.Output.Output.seen c.make.result.rest)
    c.name_of.ensures c.in-Ok-roomy_input.ensures.read c.in-Ok-roomy_input.ensures.given (c.in-Ok.ensures.possible, undrawn, elsewhere, c.if-is_foreign.false)
    (ap (λ t. edge_of_world t g.W.World.seen g.W.Output.Output.seen) c.roomy_input.ensures.reports_outputs) c.make.ensures

pub returns-in-Err-roomy_input : goal.returns-in-Err-roomy_input
returns-in-Err-roomy_input g c =
    let undrawn = subst (λ is. IsDrawnOver (g.W.World.same c.args.world) c.args.request.now.product (option_map string_bytes c.args.request.now.infile) is) c.if-is_drawn_over.false c.is_drawn_over.ensures in
    let elsewhere = subst (λ is. IsForTerminal (g.W.World.terminal c.args.world) c.args.request.now.product (option_map string_bytes c.args.request.now.outfile) is) c.if-is_for_terminal.false c.is_for_terminal.ensures in
    stopped_before g.W.World.seen c.args.request.now (g.W.World.gives c.args.world) (g.W.World.same c.args.world) (g.W.World.terminal c.args.world) c.args.is_foreign (edge_of_world (g.W.World.reports_outputs c.args.world) g.W.World.seen g.W.Output.Output.seen) _
    c.refused_before-in-Err-roomy_input.result.outcome c.args.world c.roomy_input.new.world c.refused_before-in-Err-roomy_input.result.rest
    (shown g.W.Output.Output.seen c.refused_before-in-Err-roomy_input.result.rest)
    c.refused_before-in-Err-roomy_input.ensures.outcome c.refused_before-in-Err-roomy_input.ensures.rest
    (inr (
      (c.in-Ok.ensures.possible, undrawn, elsewhere, c.if-is_foreign.false),
      subst (λ n. FailsToRead n (g.W.World.seen c.args.world) (g.W.World.seen c.roomy_input.new.world) c.in-Err-roomy_input.fault) c.name_of.ensures c.in-Err-roomy_input.ensures.refused,
    ))
