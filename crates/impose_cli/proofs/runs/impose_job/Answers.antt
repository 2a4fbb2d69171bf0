use Rattle.std.proofs.Common.{◌≡◌, ◌∙◌, Ok, ap, ap₂, length, option_map, subst}
use Rattle.std.proofs.lemmas.List.{length-map}
use Rattle.rules.specs.MadePlans.{made_plan_of}
use Rattle.rules.specs.Sheets.{Plan}
use Rattle.sheet_plan.specs.MadeRefusals.{RefusesMade}
use Rattle.sheet_text.specs.Dressings.{dress_in}
use Rattle.sheet_text.specs.Jobs.{JobView}
use Rattle.row_runs.specs.Errors.{of_made_plan}
use Rattle.row_runs.specs.Runs.{border_on, drawn_of}
use Rattle.row_runs.proofs.Refused.{sheets_refused}
use Rattle.impose_cli.specs.Endings.{edge_of_world, RefusesRowJob, shown}
use Rattle.impose_cli.specs.Faults.{of_asked}
use Rattle.impose_cli.specs.RowRuns.{Imposes}
use Rattle.impose_cli.proofs.Coming.{comes_refused, made_comes}
use Rattle.impose_cli.proofs.runs.impose_job.Goals as goal

pub returns-in-Err : goal.returns-in-Err
returns-in-Err g c =
    comes_refused (RefusesRowJob c.args.job.now) (Imposes c.args.job.now _) _ (edge_of_world (g.W.World.reports_outputs c.args.world) g.W.World.seen g.W.Output.Output.seen) c.asked_fault_of.result
    c.refused_before.result.outcome c.args.world c.refused_before.result.rest (shown g.W.Output.Output.seen c.refused_before.result.rest) c.refused_before.ensures.outcome c.refused_before.ensures.rest
    (c.in-Err.error, rw c.pages-pages.ensures.count at c.asked_fault_of.ensures, c.in-Err.ensures.refused)

pub returns-in-Err-of_sheets : goal.returns-in-Err-of_sheets
returns-in-Err-of_sheets g c =
    let job = c.args.job.now in
    let made = c.in-Ok.laid.0 in
    let error = c.in-Err-of_sheets.error in
    let count = c.pages-pages.ensures.count in
    let attempt = c.refused_before-in-Err-of_sheets in
    comes_refused (RefusesRowJob job) (Imposes job _) _ (edge_of_world (g.W.World.reports_outputs c.args.world) g.W.World.seen g.W.Output.Output.seen) c.asked_fault_of-fault.result
    attempt.result.outcome c.args.world attempt.result.rest (shown g.W.Output.Output.seen attempt.result.rest) attempt.ensures.outcome attempt.ensures.rest (
      of_made_plan error,
      c.asked_fault_of-fault.ensures ∙ ap₂ of_asked count c.plan_error.ensures,
      sheets_refused job made error c.in-Ok.ensures.turned (subst (λ n. RefusesMade n made error) count c.in-Err-of_sheets.ensures.refused),
    )

pub of-scales-requires : goal.of-scales-requires
of-scales-requires g c = c.sheets-count.ensures.value ∙ ap (λ (p : Plan). length p.sheets) c.in-Ok-of_sheets.ensures.planned ∙ length-map c.in-Ok.laid.0 _

pub returns : goal.returns
returns g c =
    let job = c.args.job.now in
    let sheets = c.in-Ok.laid.0 in
    let planned = c.in-Ok-of_sheets.ensures in
    let count = c.pages-pages.ensures.count in
    made_comes (RefusesRowJob job) (Imposes job _) c.made-made.result c.in-Ok-of_sheets.plan c.pages-pages.result (border_on job) (dress_in c.in-Ok.laid.1) (drawn_of job) sheets job.document.now
    (option_map (λ n. n.now) c.args.name) (edge_of_world (g.W.World.reports_outputs c.args.world) g.W.World.seen g.W.Output.Output.seen) c.write_job-attempt.result.outcome c.args.world c.write_job-attempt.result.rest (shown g.W.Output.Output.seen c.write_job-attempt.result.rest)
    (ap (λ (j : JobView). j.plan) c.made-made.ensures.value) planned.planned planned.layout count c.made-made.ensures.output c.in-Ok.ensures.dressed
    (λ old new report wrote told. record {
      made = sheets;
      planned = record { are = c.in-Ok.ensures.turned; planned = subst (λ n. made_plan_of n sheets ≡ Ok sheets) count planned.accepted };
      written = wrote;
      report = told;
      scaled = c.of-scales.ensures;
      sides = c.sides.ensures;
      beside = c.lying_if.ensures;
      over = c.lying_if-2.ensures;
    }) c.write_job-attempt.ensures
