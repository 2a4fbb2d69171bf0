use Rattle.std.proofs.Common.{arith, ap, sym, true≢false, ◌∙◌, Some}
use Rattle.std.proofs.lemmas.Option.{same_Some, slice_get_within}
use Rattle.sheet_plan.proofs.made.is_at.Goals as goal

pub returns-then-place-placings : goal.returns-then-place-placings
returns-then-place-placings c = (
  λ is. absurd (true≢false (sym is)),
  λ e. let lt = slice_get_within c.args.placings.now c.args.place c.args.placing.now e in let no : ⊥ = omega (arith, lt, c.if-place-placings.true) in absurd no,
)

pub returns : goal.returns
returns c = (
  λ is. c.placing_at.ensures ∙ ap Some (c.is_same_measure.ensures.0 is),
  λ e. c.is_same_measure.ensures.1 (same_Some _ _ (sym c.placing_at.ensures ∙ e)),
)
