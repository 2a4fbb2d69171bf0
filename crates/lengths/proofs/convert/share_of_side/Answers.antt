use Rattle.std.proofs.Common.{arith, sym, ap, subst, refl, ◌∙◌, ◌≡◌, ◌^◌, ◌*ℤ◌, FitsSigned, w64}
use Rattle.std.proofs.lemmas.Int.{to_z-of_z}
use mir.Syntax.{w128}
use Rattle.rules.specs.Numbers.{rounded}
use Rattle.lengths.specs.Ranges.{FitsGrains}
use Rattle.lengths.proofs.Shares.{they_share, fits}
use Rattle.lengths.proofs.convert.share_of_side.Goals as goal

pub overflow_mul-product : goal.overflow_mul-product
overflow_mul-product c =
    let v = c.billionths.result in
    let s = c.get.result in
    let fit = they_share v s _ _ c.billionths.ensures.value c.get.ensures.value c.billionths.ensures.in_range c.requires in
    let narrow : FitsSigned w64 v = fit.narrow in
    let number : FitsSigned w128 v = fit.number in
    let side : FitsSigned w128 s = fit.side in
    rw c.from.ensures (simp to_z-of_z fit.product)

pub rounded-requires-clause-fits : goal.rounded-requires-clause-fits
rounded-requires-clause-fits c =
    let v = c.billionths.result in
    let s = c.get.result in
    let fit = they_share v s _ _ c.billionths.ensures.value c.get.ensures.value c.billionths.ensures.in_range c.requires in
    let narrow : FitsSigned w64 v = fit.narrow in
    let number : FitsSigned w128 v = fit.number in
    let side : FitsSigned w128 s = fit.side in
    let product : FitsSigned w128 (v *ℤ s) = fit.product in
    rw c.from.ensures (simp to_z-of_z fit.twice)

pub of-requires : goal.of-requires
of-requires c =
    let v = c.billionths.result in
    let s = c.get.result in
    let fit = they_share v s _ _ c.billionths.ensures.value c.get.ensures.value c.billionths.ensures.in_range c.requires in
    let narrow : FitsSigned w64 v = fit.narrow in
    let number : FitsSigned w128 v = fit.number in
    let side : FitsSigned w128 s = fit.side in
    let product : FitsSigned w128 (v *ℤ s) = fit.product in
    let is : c.rounded.result ≡ rounded (v *ℤ s) (10 ^ 9) = c.rounded.ensures ∙ rw c.from.ensures (simp to_z-of_z refl) in
    let share : FitsGrains c.rounded.result = subst FitsGrains (sym is) fit.share in
    let whole : FitsSigned w128 c.rounded.result = fits c.rounded.result (omega (arith, share)) in
    simp to_z-of_z share

pub returns : goal.returns
returns c =
    let v = c.billionths.result in
    let s = c.get.result in
    let fit = they_share v s _ _ c.billionths.ensures.value c.get.ensures.value c.billionths.ensures.in_range c.requires in
    let narrow : FitsSigned w64 v = fit.narrow in
    let number : FitsSigned w128 v = fit.number in
    let side : FitsSigned w128 s = fit.side in
    let product : FitsSigned w128 (v *ℤ s) = fit.product in
    let is : c.rounded.result ≡ rounded (v *ℤ s) (10 ^ 9) = c.rounded.ensures ∙ rw c.from.ensures (simp to_z-of_z refl) in
    let share : FitsGrains c.rounded.result = subst FitsGrains (sym is) fit.share in
    let whole : FitsSigned w128 c.rounded.result = fits c.rounded.result (omega (arith, share)) in
    let of : c.of.result ≡ c.rounded.result = c.of.ensures ∙ simp to_z-of_z refl in
    of ∙ is ∙ ap (λ v. rounded (v *ℤ s) (10 ^ 9)) c.billionths.ensures.value ∙ ap (λ s. rounded (c.args.number *ℤ s) (10 ^ 9)) c.get.ensures.value
