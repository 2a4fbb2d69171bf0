use Rattle.std.proofs.Common.{arith, length, sym, ap, ◌∙◌}
use Rattle.std.specs.Prelude.{slice_get}
use Rattle.sheet_plan.specs.Store.{slots_start}
use Rattle.sheet_plan.proofs.Stored.{sheet_there, count_read}
use Rattle.sheet_plan.proofs.made.MadeSheets.slots.Goals as goal

pub sheet_at-kept-requires : goal.sheet_at-kept-requires
sheet_at-kept-requires c =
    let len = sheet_there c.self.inside.placings.items c.self.inside.slots.items c.self.inside.sheets.items c.args.self.now c.self.view_is in
    let is = ap length c.as_slice-sheets.ensures.value in
    omega arith

pub start_at-start-requires : goal.start_at-start-requires
start_at-start-requires c =
    let len = sheet_there c.self.inside.placings.items c.self.inside.slots.items c.self.inside.sheets.items c.args.self.now c.self.view_is in
    let is = ap length c.as_slice-sheets.ensures.value in
    omega arith

pub overflow_sub-result : goal.overflow_sub-result
overflow_sub-result c =
    let r = count_read c.self.inside.placings.items c.self.inside.slots.items c.self.inside.sheets.items c.args.self.now c.args.sheet c.sheet_at-kept.result c.self.invariant.0 c.self.view_is
    (ap (λ xs. slice_get xs c.args.sheet) (sym c.as_slice-sheets.ensures.value) ∙ c.sheet_at-kept.ensures) in
    let le = r.0 in
    let start = c.start_at-start.ensures ∙ ap (λ xs. slots_start 0 xs c.args.sheet) c.as_slice-sheets.ensures.value in
    omega arith

pub returns : goal.returns
returns c =
    let r = count_read c.self.inside.placings.items c.self.inside.slots.items c.self.inside.sheets.items c.args.self.now c.args.sheet c.sheet_at-kept.result c.self.invariant.0 c.self.view_is
    (ap (λ xs. slice_get xs c.args.sheet) (sym c.as_slice-sheets.ensures.value) ∙ c.sheet_at-kept.ensures) in
    let count = r.1 in
    let start = c.start_at-start.ensures ∙ ap (λ xs. slots_start 0 xs c.args.sheet) c.as_slice-sheets.ensures.value in
    omega arith
