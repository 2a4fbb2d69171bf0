use Rattle.std.proofs.Common.{◌≡◌, ◌∙◌, Some, sym, subst}
use Rattle.row_runs.specs.declared.sheet_request.Laying.TheVariants as laying
use Rattle.layouts.proofs.Fitting.{handed_on}
use Rattle.row_runs.specs.Evened.{why_not_even_if}
use Rattle.row_runs.specs.Sheets.{MayBeLaid}
use Rattle.row_runs.proofs.OneScale.{may_be_evened, evened_in_cells, fault_in_cells, others_stay}
use Rattle.row_runs.proofs.evened.at_common_scale.Goals as goal

pub returns-in_ok-setting-in-InCells-clause-made : goal.returns-in_ok-setting-in-InCells-clause-made
returns-in_ok-setting-in-InCells-clause-made c = evened_in_cells _ _ _ _ _ _ _ c.if-not-same_scale.false c.in-InCells.is c.in_ok-setting-in-InCells.ensures.made

pub returns-in_ok-setting-in-InCells-clause-may_be : goal.returns-in_ok-setting-in-InCells-clause-may_be
returns-in_ok-setting-in-InCells-clause-may_be c =
    subst (λ u. MayBeLaid (laying.InCells u c.in-InCells.scheme)) (sym c.in_ok-setting-in-InCells.ensures.made)
    (may_be_evened c.in-InCells.setting c.args.papers.now c.args.row.now c.in-InCells.scheme (subst MayBeLaid c.in-InCells.is c.requires))

pub returns-in_ok-setting-in-InCells-clause-accepted : goal.returns-in_ok-setting-in-InCells-clause-accepted
returns-in_ok-setting-in-InCells-clause-accepted c =
    fault_in_cells _ _ c.args.papers.now c.args.row.now _ _ c.if-not-same_scale.false c.in-InCells.is ∙ c.in_ok-setting-in-InCells.ensures.accepted

pub returns-in_err-setting-in-InCells-clause-refused : goal.returns-in_err-setting-in-InCells-clause-refused
returns-in_err-setting-in-InCells-clause-refused c =
    handed_on c.from_residual.result c.in_err-setting-in-InCells.field-0.0 (λ error. why_not_even_if c.args.same_scale c.args.laying.now c.args.papers.now c.args.row.now ≡ Some error) c.from_residual.ensures.1
    (fault_in_cells _ _ c.args.papers.now c.args.row.now _ _ c.if-not-same_scale.false c.in-InCells.is ∙ c.in_err-setting-in-InCells.ensures.refused)

pub returns-in_default-clause-made : goal.returns-in_default-clause-made
returns-in_default-clause-made c =
    c.lent-in_default.ensures ∙ (others_stay c.args.same_scale c.args.laying.now c.args.papers.now c.args.row.now c.in_default.not-InCells).0

pub returns-in_default-clause-accepted : goal.returns-in_default-clause-accepted
returns-in_default-clause-accepted c = (others_stay c.args.same_scale c.args.laying.now c.args.papers.now c.args.row.now c.in_default.not-InCells).1
