use Rattle.std.proofs.Common.{◌<◌, sym, ap, ◌∙◌, Some, subst}
use Rattle.std.specs.Prelude.{length, slice_get}
use Rattle.sheet_plan.specs.OfSheets.{slots_at}
use Rattle.sheet_plan.specs.Sources.{plan_from}
use Rattle.sheet_plan.proofs.Access.{at_sheet}
use Rattle.sheet_plan.proofs.Accepted.{slot_made, item_read}
use Rattle.sheet_plan.proofs.source.PlanSource.item_of.Goals as goal

pub item_at-requires-clause-some : goal.item_at-requires-clause-some
item_at-requires-clause-some c =
    let view = ap plan_from (sym c.in-Spec.is) in
    (at_sheet c.in-Spec.row.sides c.in-Spec.modulo c.in-Spec.row.pages c.in-Spec.groups.now _ view c.args.sheet c.requires.sheet).some

pub item_at-requires-clause-slot : goal.item_at-requires-clause-slot
item_at-requires-clause-slot c =
    let view = ap plan_from (sym c.in-Spec.is) in
    let at = at_sheet c.in-Spec.row.sides c.in-Spec.modulo c.in-Spec.row.pages c.in-Spec.groups.now _ view c.args.sheet c.requires.sheet in
    subst (λ n. c.args.slot < n) at.slots c.requires.slot

pub returns-in-Spec : goal.returns-in-Spec
returns-in-Spec c =
    let view = ap plan_from (sym c.in-Spec.is) in
    let at = at_sheet c.in-Spec.row.sides c.in-Spec.modulo c.in-Spec.row.pages c.in-Spec.groups.now _ view c.args.sheet c.requires.sheet in
    record { value = ap (λ xs. slice_get xs c.args.slot) at.items ∙ c.item_at.ensures }

pub placed-requires-clause-slot : goal.placed-requires-clause-slot
placed-requires-clause-slot c =
    let view = ap plan_from (sym c.in-Made.is) in
    subst (λ k. k < length (slots_at c.in-Made.made.now c.args.sheet)) (sym c.from.ensures) (slot_made c.in-Made.pages c.in-Made.made.now _ c.args.sheet c.args.slot view c.requires.slot)

pub returns-in-Some : goal.returns-in-Some
returns-in-Some c =
    let view = ap plan_from (sym c.in-Made.is) in
    record {
      value = item_read c.in-Made.pages c.in-Made.made.now _ c.args.sheet c.args.slot _ view (ap (slice_get (slots_at c.in-Made.made.now c.args.sheet)) (sym c.from.ensures) ∙ c.in-Some.ensures);
    }

pub returns-in-None : goal.returns-in-None
returns-in-None c =
    let view = ap plan_from (sym c.in-Made.is) in
    record {
      value = item_read c.in-Made.pages c.in-Made.made.now _ c.args.sheet c.args.slot _ view (ap (slice_get (slots_at c.in-Made.made.now c.args.sheet)) (sym c.from.ensures) ∙ c.in-None.ensures)
          ∙ ap Some (sym c.nothing.ensures);
    }
