use Rattle.std.proofs.Common.{ap, subst, sym}
use Rattle.std.specs.Prelude.{All}
use Rattle.row_sheets.specs.Posters.{first_no_poster}
use Rattle.row_sheets.specs.Shapes.{filling}
use Rattle.row_runs.specs.Sheets.{why_not_laid}
use Rattle.row_sheets.specs.Schemes.{why_not_in}
use Rattle.row_runs.specs.Standing.{StandAsLaid, HoldsOnePage}
use Rattle.row_runs.proofs.Alone.{selected_alone}
use Rattle.row_runs.proofs.NotLaid.{cells_told, posters_told}
use Rattle.row_runs.proofs.sheet_request.lay_row.Goals as goal

pub returns-in-Some-clause-refused : goal.returns-in-Some-clause-refused
returns-in-Some-clause-refused c = c.over_limit.ensures c.args.leaves

pub returns-in_ok-select-in-AsTheyAre-clause-stands : goal.returns-in_ok-select-in-AsTheyAre-clause-stands
returns-in_ok-select-in-AsTheyAre-clause-stands c =
    subst (λ l. StandAsLaid l c.in_ok-select-in-AsTheyAre.field-0) (sym c.in-AsTheyAre.is)
    (subst (All HoldsOnePage) (sym c.in_ok-select-in-AsTheyAre.ensures) (selected_alone c.args.papers.now c.in-AsTheyAre.blank c.args.row.now))

pub returns-in-Err-clause-refused : goal.returns-in-Err-clause-refused
returns-in-Err-clause-refused c =
    let papers = c.args.papers.now in
    let row = c.args.row.now in
    cells_told c.args.laying.now c.args.leaves papers row (why_not_in c.in-InCells.scheme (filling c.in-InCells.setting papers) c.args.leaves row) c.in-Err.error
    c.arrangement_error.result (ap (λ l. why_not_laid l c.args.leaves papers row) c.in-InCells.is) c.arrangement_error.ensures c.in-Err.ensures.refused

pub returns-in-Err-poster_row_sheets-clause-refused : goal.returns-in-Err-poster_row_sheets-clause-refused
returns-in-Err-poster_row_sheets-clause-refused c =
    let papers = c.args.papers.now in
    let row = c.args.row.now in
    posters_told c.args.laying.now c.args.leaves papers row (first_no_poster c.in-Poster.poster papers row) c.in-Err-poster_row_sheets.error c.poster_error.result
    (ap (λ l. why_not_laid l c.args.leaves papers row) c.in-Poster.is) c.poster_error.ensures c.in-Err-poster_row_sheets.ensures.refused
