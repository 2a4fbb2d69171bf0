use Rattle.std.proofs.Common.{arith, length, sym, ap, ◌∙◌}
use Rattle.std.specs.Prelude.{slice_get}
use Rattle.sheet_plan.proofs.Stored.{sheet_there, count_read, paper_read}
use Rattle.sheet_plan.proofs.made.MadeSheets.paper.Goals as goal

pub sheet_at-kept-requires : goal.sheet_at-kept-requires
sheet_at-kept-requires c =
    let len = sheet_there c.self.inside.placings.items c.self.inside.slots.items c.self.inside.sheets.items c.args.self.now c.self.view_is in
    let is = ap length c.as_slice-sheets.ensures.value in
    omega arith

pub placing_at-placing-requires : goal.placing_at-placing-requires
placing_at-placing-requires c =
    let r = count_read c.self.inside.placings.items c.self.inside.slots.items c.self.inside.sheets.items c.args.self.now c.args.sheet c.sheet_at-kept.result c.self.invariant.0 c.self.view_is
    (ap (λ xs. slice_get xs c.args.sheet) (sym c.as_slice-sheets.ensures.value) ∙ c.sheet_at-kept.ensures) in
    let lt = r.2 in
    let is = ap length c.as_slice-placings.ensures.value in
    omega arith

pub returns : goal.returns
returns c =
    paper_read c.self.inside.placings.items c.self.inside.slots.items c.self.inside.sheets.items c.args.self.now c.args.sheet c.sheet_at-kept.result c.placing_at-placing.result.now c.self.invariant.0 c.self.view_is
    (ap (λ xs. slice_get xs c.args.sheet) (sym c.as_slice-sheets.ensures.value) ∙ c.sheet_at-kept.ensures)
    (ap (λ xs. slice_get xs c.sheet_at-kept.result.paper) (sym c.as_slice-placings.ensures.value) ∙ c.placing_at-placing.ensures)
