use Rattle.std.proofs.Common.{arith, ◌≡◌, ◌^◌}
use Rattle.std.proofs.Math.Nat.{one-le-pow}
use Rattle.std.proofs.lemmas.Nat.{mod_below}
use Rattle.lengths.proofs.print.append_decimal.Goals as goal

pub nonzero_div-size : goal.nonzero_div-size
nonzero_div-size c = omega (arith, one-le-pow c.args.places 10 (omega arith))

pub nonzero_rem-size : goal.nonzero_rem-size
nonzero_rem-size c = omega (arith, one-le-pow c.args.places 10 (omega arith))

pub decimals_of_part-requires-clause-part : goal.decimals_of_part-requires-clause-part
decimals_of_part-requires-clause-part c =
    let some = one-le-pow c.args.places 10 (omega arith) in
    let same : c.pow-one.result ≡ 10 ^ c.args.places = omega (arith, c.pow-one.ensures) in
    let below = mod_below c.unsigned_abs-size.result c.pow-one.result (omega (arith, some, same)) in
    omega (arith, below, same)
