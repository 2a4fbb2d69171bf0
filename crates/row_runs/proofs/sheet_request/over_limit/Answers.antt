use Rattle.std.proofs.Common.{ap, inr, subst, sym, ◌∙◌}
use Rattle.row_runs.specs.declared.sheet_request.Laying.TheVariants as laying
use Rattle.row_runs.specs.Sheets.{FitAsLaid, why_not_laid}
use Rattle.row_runs.proofs.Counted.{is_limit, no_plan}
use Rattle.row_runs.proofs.NotLaid.{cells_told, posters_told}
use Rattle.row_runs.proofs.sheet_request.over_limit.Goals as goal

pub returns-in-Ok : goal.returns-in-Ok
returns-in-Ok c = λ leaves. (
  subst (λ l. FitAsLaid l leaves c.args.papers.now c.args.row.now) (sym (c.in-InCells.is ∙ ap (laying.InCells c.in-InCells.setting) c.in-Cards.is)) c.in-Ok.ensures.fits,
  is_limit c.args.laying.now _ c.args.limit c.requires.passed,
  no_plan c.args.laying.now leaves c.args.papers.now c.args.row.now c.args.limit c.requires.laid c.requires.passed,
)

pub returns-in-Err : goal.returns-in-Err
returns-in-Err c = λ leaves.
    cells_told c.args.laying.now leaves c.args.papers.now c.args.row.now _ c.in-Err.error c.arrangement_error.result
    (ap (λ l. why_not_laid l leaves c.args.papers.now c.args.row.now) (c.in-InCells.is ∙ ap (laying.InCells c.in-InCells.setting) c.in-Cards.is)) c.arrangement_error.ensures (inr c.in-Err.ensures.refused)

pub returns-in-Ok-check_posters : goal.returns-in-Ok-check_posters
returns-in-Ok-check_posters c = λ leaves. (
  subst (λ l. FitAsLaid l leaves c.args.papers.now c.args.row.now) (sym c.in-Poster.is) c.in-Ok-check_posters.ensures.possible,
  is_limit c.args.laying.now _ c.args.limit c.requires.passed,
  no_plan c.args.laying.now leaves c.args.papers.now c.args.row.now c.args.limit c.requires.laid c.requires.passed,
)

pub returns-in-Err-check_posters : goal.returns-in-Err-check_posters
returns-in-Err-check_posters c = λ leaves.
    posters_told c.args.laying.now leaves c.args.papers.now c.args.row.now _ c.in-Err-check_posters.error c.poster_error.result
    (ap (λ l. why_not_laid l leaves c.args.papers.now c.args.row.now) c.in-Poster.is) c.poster_error.ensures (inr c.in-Err-check_posters.ensures.refused)
