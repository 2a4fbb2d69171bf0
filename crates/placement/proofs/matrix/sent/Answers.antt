use Rattle.std.proofs.Common.{sym, subst, ◌^◌, ◌≤◌, nat_abs, FitsSigned, pos, ◌+ℤ◌, ◌*ℤ◌}
use Rattle.std.proofs.lemmas.Int.{to_z-of_z}
use mir.Syntax.{w128}
use Rattle.placement.proofs.Sizes.{they_fit}
use Rattle.placement.proofs.matrix.sent.Goals as goal

pub overflow_add-result : goal.overflow_add-result
overflow_add-result c =
    let fit = they_fit c.get.result c.times.result c.times-2.result (subst (λ z. nat_abs z ≤ 10 ^ 23) (sym c.get.ensures.value) c.get.ensures.in_range) c.times.ensures.in_range c.times-2.ensures.in_range in
    let first : FitsSigned w128 c.times.result = fit.first in
    let second : FitsSigned w128 c.times-2.result = fit.second in
    simp to_z-of_z fit.sum

pub overflow_mul-result : goal.overflow_mul-result
overflow_mul-result c =
    let fit = they_fit c.get.result c.times.result c.times-2.result (subst (λ z. nat_abs z ≤ 10 ^ 23) (sym c.get.ensures.value) c.get.ensures.in_range) c.times.ensures.in_range c.times-2.ensures.in_range in
    let first : FitsSigned w128 c.times.result = fit.first in
    let second : FitsSigned w128 c.times-2.result = fit.second in
    let sum : FitsSigned w128 (c.times.result +ℤ c.times-2.result) = fit.sum in
    simp to_z-of_z fit.grains

pub overflow_add-result-2 : goal.overflow_add-result-2
overflow_add-result-2 c =
    let fit = they_fit c.get.result c.times.result c.times-2.result (subst (λ z. nat_abs z ≤ 10 ^ 23) (sym c.get.ensures.value) c.get.ensures.in_range) c.times.ensures.in_range c.times-2.ensures.in_range in
    let shift : FitsSigned w128 c.get.result = fit.shift in
    let first : FitsSigned w128 c.times.result = fit.first in
    let second : FitsSigned w128 c.times-2.result = fit.second in
    let sum : FitsSigned w128 (c.times.result +ℤ c.times-2.result) = fit.sum in
    let grains : FitsSigned w128 (pos 127 *ℤ (c.times.result +ℤ c.times-2.result)) = fit.grains in
    simp to_z-of_z fit.whole

pub returns : goal.returns
returns c =
    let x = c.ranges.x in
    let y = c.ranges.y in
    let fit = they_fit c.get.result c.times.result c.times-2.result (subst (λ z. nat_abs z ≤ 10 ^ 23) (sym c.get.ensures.value) c.get.ensures.in_range) c.times.ensures.in_range c.times-2.ensures.in_range in
    let shift : FitsSigned w128 c.get.result = fit.shift in
    let first : FitsSigned w128 c.times.result = fit.first in
    let second : FitsSigned w128 c.times-2.result = fit.second in
    let sum : FitsSigned w128 (c.times.result +ℤ c.times-2.result) = fit.sum in
    let grains : FitsSigned w128 (pos 127 *ℤ (c.times.result +ℤ c.times-2.result)) = fit.grains in
    let whole : FitsSigned w128 (c.get.result +ℤ pos 127 *ℤ (c.times.result +ℤ c.times-2.result)) = fit.whole in
    simp to_z-of_z (rw (c.get.ensures.value, c.times.ensures.value, c.times-2.ensures.value) (simp to_z-of_z))
