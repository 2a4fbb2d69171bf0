use Rattle.std.proofs.Common.{arith, length, sym, ap, ◌∙◌}
use Rattle.sheet_plan.specs.Plans.{pages_on}
use Rattle.sheet_plan.specs.Sources.{plan_from}
use Rattle.sheet_plan.proofs.Access.{at_sheet, group_len}
use Rattle.sheet_plan.proofs.Accepted.{row_len}
use Rattle.sheet_plan.proofs.Sources.{sound_from}
use Rattle.sheet_plan.proofs.source.PlanSource.slots.Goals as goal

pub nonzero_rem-sheet : goal.nonzero_rem-sheet
nonzero_rem-sheet c =
    let view = ap plan_from (sym c.in-Spec.is) in
    (at_sheet c.in-Spec.row.sides c.in-Spec.modulo c.in-Spec.row.pages c.in-Spec.groups.now _ view c.args.sheet c.requires.sheet).some

pub bounds-groups-sheet : goal.bounds-groups-sheet
bounds-groups-sheet c =
    let view = ap plan_from (sym c.in-Spec.is) in
    (at_sheet c.in-Spec.row.sides c.in-Spec.modulo c.in-Spec.row.pages c.in-Spec.groups.now _ view c.args.sheet c.requires.sheet).group

pub overflow_cast-result : goal.overflow_cast-result
overflow_cast-result c =
    let view = ap plan_from (sym c.in-Spec.is) in
    let at = at_sheet c.in-Spec.row.sides c.in-Spec.modulo c.in-Spec.row.pages c.in-Spec.groups.now _ view c.args.sheet c.requires.sheet in
    let len = group_len c.in-Spec.groups.now _ c.len.result c.index-groups-sheet.result at.group c.index-groups-sheet.is c.len.ensures in
    let few = (sound_from c.args.self.now c.requires.plannable).few_slots c.args.sheet c.requires.sheet in
    omega arith

pub returns-in-Spec : goal.returns-in-Spec
returns-in-Spec c =
    let view = ap plan_from (sym c.in-Spec.is) in
    let at = at_sheet c.in-Spec.row.sides c.in-Spec.modulo c.in-Spec.row.pages c.in-Spec.groups.now _ view c.args.sheet c.requires.sheet in
    let len = group_len c.in-Spec.groups.now _ c.len.result c.index-groups-sheet.result at.group c.index-groups-sheet.is c.len.ensures in
    let few = (sound_from c.args.self.now c.requires.plannable).few_slots c.args.sheet c.requires.sheet in
    let slots = at.slots in
    record { value = sym (at.slots ∙ len); some = omega arith; few = omega arith }

pub overflow_cast-result-in-Made : goal.overflow_cast-result-in-Made
overflow_cast-result-in-Made c =
    let few = ((sound_from c.args.self.now c.requires.plannable).few_slots c.args.sheet c.requires.sheet).1 in
    let len = row_len c.in-Made.pages c.in-Made.made.now c.args.sheet in
    let same = ap (λ s. length (pages_on (plan_from s) c.args.sheet)) (sym c.in-Made.is) in
    let is = c.slots.ensures in
    omega arith

pub returns-in-Made : goal.returns-in-Made
returns-in-Made c =
    let few = (sound_from c.args.self.now c.requires.plannable).few_slots c.args.sheet c.requires.sheet in
    let low = few.0 in
    let high = few.1 in
    let len = row_len c.in-Made.pages c.in-Made.made.now c.args.sheet in
    let same = ap (λ s. length (pages_on (plan_from s) c.args.sheet)) (sym c.in-Made.is) in
    let is = c.slots.ensures in
    record { value = is ∙ sym len ∙ same; some = omega arith; few = omega arith }
