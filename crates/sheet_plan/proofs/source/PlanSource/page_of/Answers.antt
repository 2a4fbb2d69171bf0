use Rattle.std.proofs.Common.{arith, ◌/◌, ◌%◌, ◌<◌, map, length, sym, ap, ◌∙◌, subst}
use Rattle.std.specs.Prelude.{slice_get}
use Rattle.std.proofs.lemmas.List.{length-map}
use Rattle.pagespec.specs.Items.{item_of}
use Rattle.sheet_plan.specs.OfSheets.{slots_at}
use Rattle.sheet_plan.specs.Sources.{spec_of, plan_from, IsPlannable}
use Rattle.sheet_plan.proofs.Access.{at_sheet, entry_few, paged_item, page_shown}
use Rattle.sheet_plan.proofs.Accepted.{slot_made, page_read}
use Rattle.sheet_plan.proofs.source.PlanSource.page_of.Goals as goal

pub item_at-item-requires-clause-some : goal.item_at-item-requires-clause-some
item_at-item-requires-clause-some c =
    let view = ap plan_from (sym c.in-Spec.is) in
    (at_sheet c.in-Spec.row.sides c.in-Spec.modulo c.in-Spec.row.pages c.in-Spec.groups.now _ view c.args.sheet c.requires.sheet).some

pub item_at-item-requires-clause-slot : goal.item_at-item-requires-clause-slot
item_at-item-requires-clause-slot c =
    let view = ap plan_from (sym c.in-Spec.is) in
    let at = at_sheet c.in-Spec.row.sides c.in-Spec.modulo c.in-Spec.row.pages c.in-Spec.groups.now _ view c.args.sheet c.requires.sheet in
    subst (λ n. c.args.slot < n) at.slots c.requires.slot

pub item_place-place-requires-clause-block : goal.item_place-place-requires-clause-block
item_place-place-requires-clause-block c =
    let view = ap plan_from (sym c.in-Spec.is) in
    let kept = subst IsPlannable c.in-Spec.is c.requires.plannable in
    let at = at_sheet c.in-Spec.row.sides c.in-Spec.modulo c.in-Spec.row.pages c.in-Spec.groups.now _ view c.args.sheet c.requires.sheet in
    subst (λ n. c.args.sheet / length c.in-Spec.groups.now < n) (sym kept.1) at.block

pub item_place-place-requires-clause-page : goal.item_place-place-requires-clause-page
item_place-place-requires-clause-page c =
    let view = ap plan_from (sym c.in-Spec.is) in
    let kept = subst IsPlannable c.in-Spec.is c.requires.plannable in
    let at = at_sheet c.in-Spec.row.sides c.in-Spec.modulo c.in-Spec.row.pages c.in-Spec.groups.now _ view c.args.sheet c.requires.sheet in
    let l = length-map c.in-Spec.groups.now (λ g. map item_of g.items) in
    paged_item c.in-Spec.row.sides (spec_of c.in-Spec.modulo c.in-Spec.groups.now) c.in-Spec.row.pages kept.0 (c.args.sheet % length c.in-Spec.groups.now) c.args.slot (let g = at.group in omega arith) (item_of c.item_at-item.result.now) c.item_at-item.ensures

pub page_at-requires-clause-few : goal.page_at-requires-clause-few
page_at-requires-clause-few c =
    let view = ap plan_from (sym c.in-Spec.is) in
    let kept = subst IsPlannable c.in-Spec.is c.requires.plannable in
    let at = at_sheet c.in-Spec.row.sides c.in-Spec.modulo c.in-Spec.row.pages c.in-Spec.groups.now _ view c.args.sheet c.requires.sheet in
    let l = length-map c.in-Spec.groups.now (λ g. map item_of g.items) in
    let paged = paged_item c.in-Spec.row.sides (spec_of c.in-Spec.modulo c.in-Spec.groups.now) c.in-Spec.row.pages kept.0 (c.args.sheet % length c.in-Spec.groups.now) c.args.slot (let g = at.group in omega arith) (item_of c.item_at-item.result.now) c.item_at-item.ensures in
    let few = entry_few c.in-Spec.row.sides (spec_of c.in-Spec.modulo c.in-Spec.groups.now) c.in-Spec.row.pages (c.args.sheet / length c.in-Spec.groups.now) c.item_place-place.result (item_of c.item_at-item.result.now) kept.0 at.block paged (c.item_place-place.ensures _ kept.1) in
    omega arith

pub returns-in-Spec : goal.returns-in-Spec
returns-in-Spec c =
    let view = ap plan_from (sym c.in-Spec.is) in
    let kept = subst IsPlannable c.in-Spec.is c.requires.plannable in
    let at = at_sheet c.in-Spec.row.sides c.in-Spec.modulo c.in-Spec.row.pages c.in-Spec.groups.now _ view c.args.sheet c.requires.sheet in
    record { value = page_shown c.in-Spec.row.sides (spec_of c.in-Spec.modulo c.in-Spec.groups.now) c.in-Spec.row.pages (length c.in-Spec.groups.now) _ c.args.sheet c.args.slot (item_of c.item_at-item.result.now) c.item_place-place.result c.page_at.result at c.item_at-item.ensures (c.item_place-place.ensures _ kept.1) c.page_at.ensures }

pub placed-requires-clause-slot : goal.placed-requires-clause-slot
placed-requires-clause-slot c =
    let view = ap plan_from (sym c.in-Made.is) in
    subst (λ k. k < length (slots_at c.in-Made.made.now c.args.sheet)) (sym c.from.ensures) (slot_made c.in-Made.pages c.in-Made.made.now _ c.args.sheet c.args.slot view c.requires.slot)

pub returns-in-Some : goal.returns-in-Some
returns-in-Some c =
    let view = ap plan_from (sym c.in-Made.is) in
    record {
      value = page_read c.in-Made.pages c.in-Made.made.now _ c.args.sheet c.args.slot _ view (ap (slice_get (slots_at c.in-Made.made.now c.args.sheet)) (sym c.from.ensures) ∙ c.in-Some.ensures);
    }

pub returns-in-None : goal.returns-in-None
returns-in-None c =
    let view = ap plan_from (sym c.in-Made.is) in
    record {
      value = page_read c.in-Made.pages c.in-Made.made.now _ c.args.sheet c.args.slot _ view (ap (slice_get (slots_at c.in-Made.made.now c.args.sheet)) (sym c.from.ensures) ∙ c.in-None.ensures);
    }
