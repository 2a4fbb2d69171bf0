use Rattle.std.proofs.Common.{◌≡◌, ◌∙◌, true≢false, ap, arith, refl, sym, subst, FitsSigned, to_z, of_z}
use Rattle.std.specs.Prelude.{is_some, ℤ, pos, ◌+ℤ◌, ◌*ℤ◌}
use Rattle.std.proofs.lemmas.Int.{ints, to_z-of_z}
use mir.Syntax.{w64, w128}
use Rattle.rules.specs.Papers.{LengthUnit}
use Rattle.rules.specs.Specification.{Measure}
use Rattle.lengths.specs.Ranges.{FitsNumber}
use Rattle.lengths.specs.Units.{length_unit}
use Rattle.row_runs.proofs.Reach.{is_far_if, is_near_if, unmoved_near}
use Rattle.row_runs.proofs.swapped_margins.shifted.Goals as goal

abbrev in_unit : ℤ → LengthUnit → Measure
in_unit z unit = record { number = z; unit = unit }

pub returns-in_ok-new-in-Ok-clause-value : goal.returns-in_ok-new-in-Ok-clause-value
returns-in_ok-new-in-Ok-clause-value c =
    let m : ℤ = c.args.measure.number in
    let by : ℤ = c.args.by in
    let m64 : FitsSigned w64 m = omega (arith, ints, c.billionths.ensures.in_range) in
    let m128 : FitsSigned w128 m = omega (arith, ints, c.billionths.ensures.in_range) in
    let by64 : FitsSigned w64 by = omega (arith, ints, c.requires) in
    let by128 : FitsSigned w128 by = omega (arith, ints, c.requires) in
    let product : FitsSigned w128 (pos 10_000 *ℤ by) = omega (arith, ints, c.requires) in
    let sum : FitsSigned w128 (m +ℤ (pos 10_000 *ℤ by)) = omega (arith, ints, c.requires, c.billionths.ensures.in_range) in
    let fits : FitsSigned w64 c.in-Ok.number = subst (FitsSigned w64) (sym c.in-Ok.ensures.1) c.in-Ok.ensures.0 in
    let plain : to_z w64 (of_z w64 c.in-Ok.number) ≡ c.in-Ok.number = simp to_z-of_z in
    let whole : c.in-Ok.number ≡ m +ℤ (pos 10_000 *ℤ by) = c.in-Ok.ensures.1 ∙ (rw (c.from.ensures, c.from-2.ensures, c.billionths.ensures.value) (simp to_z-of_z)) in
    ap (λ (z : ℤ). in_unit z (length_unit c.args.measure.unit)) (c.in_ok-new-in-Ok.ensures.value ∙ plain ∙ whole)

pub returns-in_ok-new-in-Ok-clause-near : goal.returns-in_ok-new-in-Ok-clause-near
returns-in_ok-new-in-Ok-clause-near c =
    let m : ℤ = c.args.measure.number in
    let by : ℤ = c.args.by in
    let m64 : FitsSigned w64 m = omega (arith, ints, c.billionths.ensures.in_range) in
    let m128 : FitsSigned w128 m = omega (arith, ints, c.billionths.ensures.in_range) in
    let by64 : FitsSigned w64 by = omega (arith, ints, c.requires) in
    let by128 : FitsSigned w128 by = omega (arith, ints, c.requires) in
    let product : FitsSigned w128 (pos 10_000 *ℤ by) = omega (arith, ints, c.requires) in
    let sum : FitsSigned w128 (m +ℤ (pos 10_000 *ℤ by)) = omega (arith, ints, c.requires, c.billionths.ensures.in_range) in
    let fits : FitsSigned w64 c.in-Ok.number = subst (FitsSigned w64) (sym c.in-Ok.ensures.1) c.in-Ok.ensures.0 in
    let plain : to_z w64 (of_z w64 c.in-Ok.number) ≡ c.in-Ok.number = simp to_z-of_z in
    let whole : c.in-Ok.number ≡ m +ℤ (pos 10_000 *ℤ by) = c.in-Ok.ensures.1 ∙ (rw (c.from.ensures, c.from-2.ensures, c.billionths.ensures.value) (simp to_z-of_z)) in
    sym (is_near_if (in_unit (m +ℤ (pos 10_000 *ℤ by)) (length_unit c.args.measure.unit)) (subst FitsNumber (plain ∙ whole) (c.in_ok-new-in-Ok.ensures.fits.0 refl)))

-- a number that no word holds is too far too
pub returns-in-Err-clause-near : goal.returns-in-Err-clause-near
returns-in-Err-clause-near c =
    let m : ℤ = c.args.measure.number in
    let by : ℤ = c.args.by in
    let m64 : FitsSigned w64 m = omega (arith, ints, c.billionths.ensures.in_range) in
    let m128 : FitsSigned w128 m = omega (arith, ints, c.billionths.ensures.in_range) in
    let by64 : FitsSigned w64 by = omega (arith, ints, c.requires) in
    let by128 : FitsSigned w128 by = omega (arith, ints, c.requires) in
    let product : FitsSigned w128 (pos 10_000 *ℤ by) = omega (arith, ints, c.requires) in
    let sum : FitsSigned w128 (m +ℤ (pos 10_000 *ℤ by)) = omega (arith, ints, c.requires, c.billionths.ensures.in_range) in
    let whole : to_z w128 (of_z w128 (to_z w128 (of_z w128 c.from.result) +ℤ to_z w128 (of_z w128 (pos 10_000 *ℤ to_z w128 (of_z w128 c.from-2.result)))))
    ≡ m +ℤ (pos 10_000 *ℤ by) = rw (c.from.ensures, c.from-2.ensures, c.billionths.ensures.value) (simp to_z-of_z) in
    let word : FitsNumber (m +ℤ (pos 10_000 *ℤ by)) → FitsSigned w64 (m +ℤ (pos 10_000 *ℤ by)) = λ fits. omega (arith, ints, fits) in
    sym (is_far_if (in_unit (m +ℤ (pos 10_000 *ℤ by)) (length_unit c.args.measure.unit)) (λ fits. c.in-Err.ensures (subst (FitsSigned w64) (sym whole) (word fits))))

pub returns-in_err-new-in-Ok-clause-near : goal.returns-in_err-new-in-Ok-clause-near
returns-in_err-new-in-Ok-clause-near c =
    let m : ℤ = c.args.measure.number in
    let by : ℤ = c.args.by in
    let m64 : FitsSigned w64 m = omega (arith, ints, c.billionths.ensures.in_range) in
    let m128 : FitsSigned w128 m = omega (arith, ints, c.billionths.ensures.in_range) in
    let by64 : FitsSigned w64 by = omega (arith, ints, c.requires) in
    let by128 : FitsSigned w128 by = omega (arith, ints, c.requires) in
    let product : FitsSigned w128 (pos 10_000 *ℤ by) = omega (arith, ints, c.requires) in
    let sum : FitsSigned w128 (m +ℤ (pos 10_000 *ℤ by)) = omega (arith, ints, c.requires, c.billionths.ensures.in_range) in
    let fits : FitsSigned w64 c.in-Ok.number = subst (FitsSigned w64) (sym c.in-Ok.ensures.1) c.in-Ok.ensures.0 in
    let plain : to_z w64 (of_z w64 c.in-Ok.number) ≡ c.in-Ok.number = simp to_z-of_z in
    let whole : c.in-Ok.number ≡ m +ℤ (pos 10_000 *ℤ by) = c.in-Ok.ensures.1 ∙ (rw (c.from.ensures, c.from-2.ensures, c.billionths.ensures.value) (simp to_z-of_z)) in
    ap is_some c.from_residual.ensures ∙ sym (is_far_if (in_unit (m +ℤ (pos 10_000 *ℤ by)) (length_unit c.args.measure.unit))
    (λ near. true≢false (sym (c.in_err-new-in-Ok.ensures.fits.1 (subst FitsNumber (sym (plain ∙ whole)) near)))))

pub returns-in-Err-clause-stays : goal.returns-in-Err-clause-stays
returns-in-Err-clause-stays c none =
    returns-in-Err-clause-near c ∙ unmoved_near c.args.by (in_unit c.args.measure.number (length_unit c.args.measure.unit)) c.billionths.ensures.in_range none

pub returns-in_err-new-in-Ok-clause-stays : goal.returns-in_err-new-in-Ok-clause-stays
returns-in_err-new-in-Ok-clause-stays c none =
    returns-in_err-new-in-Ok-clause-near c ∙ unmoved_near c.args.by (in_unit c.args.measure.number (length_unit c.args.measure.unit)) c.billionths.ensures.in_range none
