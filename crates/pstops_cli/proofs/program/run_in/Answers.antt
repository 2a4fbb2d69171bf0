use Rattle.std.proofs.Common.{◌≡◌, ◌≤◌, ◌∙◌, [], ap, arith, inl, inr, refl, rules, subst, sym}
use Rattle.world.specs.Outputs.{reported_if}
use Rattle.world.specs.Rests.{failures_in, shown}
use Rattle.pstops_cli.specs.Programs.{CreatesAndRuns}
use Rattle.pstops_cli.proofs.Programs.{cut, few_failures, ran}
use Rattle.pstops_cli.proofs.program.run_in.Goals as goal

pub returns-then-not-is_whole : goal.returns-then-not-is_whole
returns-then-not-is_whole g c =
    let h = c.run_request-status.ensures.ended in
    let reports_outputs = g.W.World.reports_outputs c.args.world in
    let seen = g.W.Output.Output.seen in
    subst (λ o. CreatesAndRuns g.W.World.seen c.args.request.now c.args.input.now reports_outputs c.args.world o (shown seen o) (failures_in seen o)
    c.ended_with-then-not-is_whole.result.status c.ended_with-then-not-is_whole.result.line.items)
    (sym c.ended_with-then-not-is_whole.ensures.rest)
    (inr (
      refl,
      cut c.args.request.now c.args.input.now reports_outputs _ _ _ _ h.0 _ _ _ _
          (c.in-Ok.ensures.bytes ∙ ap (λ n. reported_if reports_outputs n []) c.name_of-name.ensures) c.in-Ok.ensures.fresh
          h.1 h.2 c.if-status-eq0.true c.finish-is_whole.ensures.part (c.finish-is_whole.ensures.failed (search rules)) c.ended_with-then-not-is_whole.ensures.said,
    ))

pub returns : goal.returns
returns g c =
    let h = c.run_request-status.ensures.ended in
    let reports_outputs = g.W.World.reports_outputs c.args.world in
    inr (
      refl,
      ran c.args.request.now c.args.input.now reports_outputs _ _ _ _ h.0 _ _
          (c.in-Ok.ensures.bytes ∙ ap (λ n. reported_if reports_outputs n []) c.name_of-name.ensures) c.in-Ok.ensures.fresh
          h.1 c.finish-is_whole.ensures.part (search rules) (search rules) c.finish-is_whole.ensures.counted (inl h.2),
    )
