use Rattle.std.proofs.Common.{◌≡◌, ◌≤◌, ◌∙◌, ap, ap₂, subst, sym, None, Some}
use Rattle.std.specs.Prelude.{option_map}
use Rattle.layouts.specs.Cells.{size}
use Rattle.layouts.specs.Grids.{cells_per_sheet}
use Rattle.layouts.specs.Refusals.{why_not_arranged}
use Rattle.row_runs.specs.Sheets.{MayBeLaid}
use Rattle.row_runs.specs.declared.sheet_request.Laying.TheVariants as laying
use Rattle.impose_messages.specs.declared.fault.ImposeFault.TheVariants as fault
use Rattle.impose_cli.specs.RowTasks.{filled_in}
use Rattle.impose_cli.proofs.InCells.{may_be_filled}
use Rattle.impose_cli.proofs.laying.cell_laying.Goals as goal

pub returns-in-Ok-clause-laying : goal.returns-in-Ok-clause-laying
returns-in-Ok-clause-laying c =
    let papers = c.args.papers.now in
    ap₂ (λ t how. laying.InCells t how) c.in-Ok.ensures.made c.scheme_for.ensures
    ∙ ap (λ a. filled_in c.args.layout.now c.args.spacing.now a papers.page papers.sheet) c.cells_for-arrangement.ensures

pub returns-in-Ok-clause-may_be : goal.returns-in-Ok-clause-may_be
returns-in-Ok-clause-may_be c =
    let papers = c.args.papers.now in
    let a = c.cells_for-arrangement.result in
    subst MayBeLaid (sym (ap₂ (λ t how. laying.InCells t how) c.in-Ok.ensures.made c.scheme_for.ensures))
    (may_be_filled c.args.layout.now c.args.spacing.now papers.page papers.sheet a c.cells_for-arrangement.ensures c.requires c.in-Ok.ensures.possible
    (subst (λ t. cells_per_sheet a.cells ≤ size t.grid) c.in-Ok.ensures.made c.in-Ok.ensures.cells))

pub returns-in-Ok-clause-possible : goal.returns-in-Ok-clause-possible
returns-in-Ok-clause-possible c =
    ap (option_map fault.Layout) (subst (λ a. why_not_arranged c.args.papers.now.page c.args.papers.now.sheet a ≡ None) c.cells_for-arrangement.ensures c.in-Ok.ensures.possible)

pub returns-in-Err-clause-refused : goal.returns-in-Err-clause-refused
returns-in-Err-clause-refused c =
    ap (option_map fault.Layout) (subst (λ a. why_not_arranged c.args.papers.now.page c.args.papers.now.sheet a ≡ Some c.in-Err.error) c.cells_for-arrangement.ensures c.in-Err.ensures.refused)
