use Rattle.std.proofs.Common.{arith, ◌*◌, length, sym, ap, ◌∙◌, subst}
use Rattle.sheet_plan.specs.Sources.{plan_from, IsPlannable}
use Rattle.sheet_plan.proofs.Access.{sheets_of}
use Rattle.sheet_plan.proofs.Accepted.{plan_len}
use Rattle.sheet_plan.proofs.Sources.{sound_from}
use Rattle.sheet_plan.proofs.source.PlanSource.sheets.Goals as goal

pub overflow_mul-result : goal.overflow_mul-result
overflow_mul-result c =
    let view = ap plan_from (sym c.in-Spec.is) in
    let kept = subst IsPlannable c.in-Spec.is c.requires in
    let e = sheets_of c.in-Spec.row.sides c.in-Spec.modulo c.in-Spec.row.pages c.in-Spec.groups.now _ view in
    let few = (sound_from c.args.self.now c.requires).few_sheets in
    let is = ap (λ b. b * length c.in-Spec.groups.now) kept.1 in
    omega arith

pub returns-in-Spec : goal.returns-in-Spec
returns-in-Spec c =
    let view = ap plan_from (sym c.in-Spec.is) in
    let kept = subst IsPlannable c.in-Spec.is c.requires in
    record {
      value = ap (λ b. b * length c.in-Spec.groups.now) kept.1 ∙ sheets_of c.in-Spec.row.sides c.in-Spec.modulo c.in-Spec.row.pages c.in-Spec.groups.now _ view;
      sound = sound_from c.args.self.now c.requires;
    }

pub returns-in-Made : goal.returns-in-Made
returns-in-Made c =
    record {
      value = c.len.ensures ∙ sym (plan_len c.in-Made.pages c.in-Made.made.now) ∙ ap (λ s. length (plan_from s).sheets) (sym c.in-Made.is);
      sound = sound_from c.args.self.now c.requires;
    }
