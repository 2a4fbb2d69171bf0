use Rattle.std.proofs.Common.{arith, ◌+◌, ◌-◌, length, sym, ap, ◌∙◌, Some}
use Rattle.std.specs.Prelude.{slice_get}
use Rattle.sheet_plan.specs.Store.{slots_start}
use Rattle.sheet_plan.proofs.Stored.{sheet_there, slot_there, number_there, placed_read, number_read, number_none}
use Rattle.sheet_plan.proofs.made.MadeSheets.placed.Goals as goal

pub start_at-start-requires : goal.start_at-start-requires
start_at-start-requires c =
    let len = sheet_there c.self.inside.placings.items c.self.inside.slots.items c.self.inside.sheets.items c.args.self.now c.self.view_is in
    let is = ap length c.as_slice-sheets.ensures.value in
    let lt = c.requires.sheet in
    omega arith

pub slot_at-kept-requires : goal.slot_at-kept-requires
slot_at-kept-requires c =
    let lt = slot_there c.self.inside.placings.items c.self.inside.slots.items c.self.inside.sheets.items c.args.self.now c.args.sheet c.args.slot c.self.invariant.0 c.self.view_is c.requires.sheet c.requires.slot in
    let start = c.start_at-start.ensures ∙ ap (λ xs. slots_start 0 xs c.args.sheet) c.as_slice-sheets.ensures.value in
    let is = ap length c.as_slice-slots.ensures.value in
    omega arith

pub returns-then-kept-eq0 : goal.returns-then-kept-eq0
returns-then-kept-eq0 c =
    let start = c.start_at-start.ensures ∙ ap (λ xs. slots_start 0 xs c.args.sheet) c.as_slice-sheets.ensures.value in
    placed_read c.self.inside.placings.items c.self.inside.slots.items c.self.inside.sheets.items c.args.self.now c.args.sheet c.args.slot c.slot_at-kept.result c.self.invariant.0 c.self.view_is c.requires.sheet c.requires.slot
    (ap (λ xs. slice_get xs (slots_start 0 c.self.inside.sheets.items c.args.sheet + c.args.slot)) (sym c.as_slice-slots.ensures.value) ∙ ap (λ k. slice_get c.as_slice-slots.result.now (k + c.args.slot)) (sym start) ∙ c.slot_at-kept.ensures)
    ∙ ap Some (number_none c.self.inside.placings.items c.slot_at-kept.result.page c.slot_at-kept.result.placing (omega arith))

pub placing_at-placing-requires : goal.placing_at-placing-requires
placing_at-placing-requires c =
    let named = number_there c.self.inside.placings.items c.self.inside.slots.items c.self.inside.sheets.items (c.start_at-start.result + c.args.slot) c.slot_at-kept.result c.self.invariant.0
    (ap (λ xs. slice_get xs (c.start_at-start.result + c.args.slot)) (sym c.as_slice-slots.ensures.value) ∙ c.slot_at-kept.ensures) in
    let is = ap length c.as_slice-placings.ensures.value in
    omega arith

pub returns : goal.returns
returns c =
    let start = c.start_at-start.ensures ∙ ap (λ xs. slots_start 0 xs c.args.sheet) c.as_slice-sheets.ensures.value in
    placed_read c.self.inside.placings.items c.self.inside.slots.items c.self.inside.sheets.items c.args.self.now c.args.sheet c.args.slot c.slot_at-kept.result c.self.invariant.0 c.self.view_is c.requires.sheet c.requires.slot
    (ap (λ xs. slice_get xs (slots_start 0 c.self.inside.sheets.items c.args.sheet + c.args.slot)) (sym c.as_slice-slots.ensures.value) ∙ ap (λ k. slice_get c.as_slice-slots.result.now (k + c.args.slot)) (sym start) ∙ c.slot_at-kept.ensures)
    ∙ ap Some (number_read c.self.inside.placings.items c.slot_at-kept.result.page c.slot_at-kept.result.placing c.placing_at-placing.result.now (omega arith)
    (ap (λ xs. slice_get xs (c.slot_at-kept.result.placing - 1)) (sym c.as_slice-placings.ensures.value) ∙ c.placing_at-placing.ensures))
