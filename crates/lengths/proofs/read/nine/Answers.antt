use Rattle.std.proofs.Common.{arith, ◌++◌}
use Rattle.std.specs.Prelude.{replicate}
use Rattle.std.proofs.lemmas.List.{length-append}
use Rattle.lengths.proofs.Powers.{ten_more, nine_tens, one_more_digit}
use Rattle.lengths.proofs.read.nine.Goals as goal

pub overflow_mul-n : goal.overflow_mul-n
overflow_mul-n c = omega (arith, c.loop-i.invariant.below, nine_tens c.loop-i.i (omega arith))

pub overflow_add-n : goal.overflow_add-n
overflow_add-n c = omega (arith, c.loop-i.invariant.below, nine_tens c.loop-i.i (omega arith), c.decimal_at.ensures.below)

pub loop-i-preserved : goal.loop-i-preserved
loop-i-preserved c = record {
  value = one_more_digit (c.args.decimals.now ++ replicate 9 48) c.loop-i.i c.loop-i.n c.decimal_at.result (omega (arith, length-append c.args.decimals.now (replicate 9 48))) c.loop-i.invariant.value c.decimal_at.ensures.value;
  below = omega (arith, c.loop-i.invariant.below, ten_more c.loop-i.i, c.decimal_at.ensures.below);
}
