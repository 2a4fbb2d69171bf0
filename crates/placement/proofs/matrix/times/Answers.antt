use Rattle.std.proofs.Common.{FitsSigned, ◌*ℤ◌}
use Rattle.std.proofs.lemmas.Int.{to_z-of_z}
use mir.Syntax.{w32, w64, w128}
use Rattle.placement.proofs.Sizes.{they_multiply}
use Rattle.placement.proofs.matrix.times.Goals as goal

pub overflow_mul-result : goal.overflow_mul-result
overflow_mul-result c =
    let number = c.args.number in
    let factor = c.args.factor in
    let two = they_multiply number factor c.billionths.ensures.in_range c.ranges.factor in
    let wide : FitsSigned w64 number = two.wide in
    let narrow : FitsSigned w32 factor = c.ranges.factor in
    let first : FitsSigned w128 number = two.first in
    let second : FitsSigned w128 factor = two.second in
    let product : FitsSigned w128 (number *ℤ factor) = two.product in
    rw (c.from.ensures, c.from-2.ensures, c.billionths.ensures.value) (simp to_z-of_z product)

pub returns-clause-value : goal.returns-clause-value
returns-clause-value c =
    let number = c.args.number in
    let factor = c.args.factor in
    let two = they_multiply number factor c.billionths.ensures.in_range c.ranges.factor in
    let wide : FitsSigned w64 number = two.wide in
    let narrow : FitsSigned w32 factor = c.ranges.factor in
    let first : FitsSigned w128 number = two.first in
    let second : FitsSigned w128 factor = two.second in
    let product : FitsSigned w128 (number *ℤ factor) = two.product in
    rw (c.from.ensures, c.from-2.ensures, c.billionths.ensures.value) (simp to_z-of_z)

pub returns-clause-in_range : goal.returns-clause-in_range
returns-clause-in_range c =
    let number = c.args.number in
    let factor = c.args.factor in
    let two = they_multiply number factor c.billionths.ensures.in_range c.ranges.factor in
    let wide : FitsSigned w64 number = two.wide in
    let narrow : FitsSigned w32 factor = c.ranges.factor in
    let first : FitsSigned w128 number = two.first in
    let second : FitsSigned w128 factor = two.second in
    let product : FitsSigned w128 (number *ℤ factor) = two.product in
    let within = two.within in
    rw (c.from.ensures, c.from-2.ensures, c.billionths.ensures.value) (simp to_z-of_z within)
