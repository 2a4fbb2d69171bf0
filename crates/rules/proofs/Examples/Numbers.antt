-- Printed numbers and grains.
use Rattle.std.proofs.Common.{arith, refl, [], ◌≡◌}
use Rattle.std.specs.Prelude.{codes, ℤ, pos, neg_ℤ}
use Rattle.std.specs.Fmt.{digits}
use Rattle.std.proofs.lemmas.List.Elements.{All-nil, All-cons}
use Rattle.rules.specs.Numbers.{scale_text, points_text, number_text, IsPrintedNumber}
use Rattle.rules.proofs.Digits.{IsDigit}
use Rattle.rules.specs.Papers.{Pt, Cm, Mm, In, Width, Height, Paper, grains}

abbrev sized : ℤ → ℤ → Paper
sized width height = record { width = width; height = height }

-- zero
scale_zero : scale_text (pos 0) ≡ codes "0"
unfolding digits
scale_zero = refl

-- a whole number has no dot
scale_one : scale_text (pos 1_000_000_000) ≡ codes "1"
unfolding digits
scale_one = refl

-- the least scale
scale_least : scale_text (pos 1) ≡ codes "0.000000001"
unfolding digits
scale_least = refl

-- and its negative
scale_least_minus : scale_text (neg_ℤ (pos 1)) ≡ codes "-0.000000001"
unfolding digits
scale_least_minus = refl

-- the decimals end at the last that is not 0
scale_below_one : scale_text (pos 700_000_000) ≡ codes "0.7"
unfolding digits
scale_below_one = refl

-- a negative number between -1 and 0
scale_minus_half : scale_text (neg_ℤ (pos 500_000_000)) ≡ codes "-0.5"
unfolding digits
scale_minus_half = refl

-- zeros inside stay
scale_inner_zeros : scale_text (pos 1_000_000_010) ≡ codes "1.00000001"
unfolding digits
scale_inner_zeros = refl

-- the greatest number
scale_greatest : scale_text (pos 99_999_999_999_999) ≡ codes "99999.999999999"
unfolding digits
scale_greatest = refl

-- zeros before the dot stay
scale_tens : scale_text (pos 10_000_000_000_000) ≡ codes "10000"
unfolding digits
scale_tens = refl

-- under half of the last decimal
points_below_half : points_text (pos 634_999) ≡ codes "0"
unfolding digits
points_below_half = refl

-- and its negative, which is no minus zero
points_minus_below_half : points_text (neg_ℤ (pos 634_999)) ≡ codes "0"
unfolding digits
points_minus_below_half = refl

-- one half goes up
points_half : points_text (pos 635_000) ≡ codes "0.00001"
unfolding digits
points_half = refl

-- and down where it is negative
points_minus_half : points_text (neg_ℤ (pos 635_000)) ≡ codes "-0.00001"
unfolding digits
points_minus_half = refl

-- one and a half goes to two
points_one_and_half : points_text (pos 1_905_000) ≡ codes "0.00002"
unfolding digits
points_one_and_half = refl

-- away from zero on both sides
points_minus_one_and_half : points_text (neg_ℤ (pos 1_905_000)) ≡ codes "-0.00002"
unfolding digits
points_minus_one_and_half = refl

-- two and a half to three, on both sides: no half goes to the even one
points_two_and_half : points_text (pos 3_175_000) ≡ codes "0.00003"
unfolding digits
points_two_and_half = refl

points_minus_two_and_half : points_text (neg_ℤ (pos 3_175_000)) ≡ codes "-0.00003"
unfolding digits
points_minus_two_and_half = refl

-- one grain less than a half stays below, on both sides
points_below_two_and_half : points_text (pos 3_174_999) ≡ codes "0.00002"
unfolding digits
points_below_two_and_half = refl

points_minus_below_two_and_half : points_text (neg_ℤ (pos 3_174_999)) ≡ codes "-0.00002"
unfolding digits
points_minus_below_two_and_half = refl

-- rounding carries over
points_carry : points_text (pos 126_999_365_000) ≡ codes "1"
unfolding digits
points_carry = refl

-- below zero too
points_minus_carry : points_text (neg_ℤ (pos 126_999_365_000)) ≡ codes "-1"
unfolding digits
points_minus_carry = refl

-- one grain less does not
points_nearly : points_text (pos 126_999_364_999) ≡ codes "0.99999"
unfolding digits
points_nearly = refl

-- ten points
points_ten : points_text (pos 1_270_000_000_000) ≡ codes "10"
unfolding digits
points_ten = refl

-- the greatest paper
points_size : points_text (pos 914_399_999_999_990_856) ≡ codes "7200000"
unfolding digits
points_size = refl

-- the greatest number of grains
points_greatest : points_text (pos 100_000_000_000_000_000_000_000) ≡ codes "787401574803.14961"
unfolding digits
points_greatest = refl

-- half a grain goes away from zero
width_half_in_grains : grains (sized (pos 127) (pos 3)) (pos 500_000_000) Width ≡ pos 64
width_half_in_grains = refl

-- on both sides
width_half_minus_in_grains : grains (sized (pos 127) (pos 3)) (neg_ℤ (pos 500_000_000)) Width ≡ neg_ℤ (pos 64)
width_half_minus_in_grains = refl

-- a little less than half a grain, 63.499999873 grains, is rounded towards zero on both sides
width_below_half_in_grains : grains (sized (pos 127) (pos 3)) (pos 499_999_999) Width ≡ pos 63
width_below_half_in_grains = refl

width_below_half_minus_in_grains : grains (sized (pos 127) (pos 3)) (neg_ℤ (pos 499_999_999)) Width ≡ neg_ℤ (pos 63)
width_below_half_minus_in_grains = refl

-- half a grain of a height of 1, and two and a half grains of one of 5, go away from zero on both sides
height_half_in_grains : grains (sized (pos 127) (pos 1)) (pos 500_000_000) Height ≡ pos 1
height_half_in_grains = refl

height_half_minus_in_grains : grains (sized (pos 127) (pos 1)) (neg_ℤ (pos 500_000_000)) Height ≡ neg_ℤ (pos 1)
height_half_minus_in_grains = refl

height_two_and_half_in_grains : grains (sized (pos 127) (pos 5)) (pos 500_000_000) Height ≡ pos 3
height_two_and_half_in_grains = refl

height_two_and_half_minus_in_grains : grains (sized (pos 127) (pos 5)) (neg_ℤ (pos 500_000_000)) Height ≡ neg_ℤ (pos 3)
height_two_and_half_minus_in_grains = refl

-- and so do two and a half grains of a width of 5
width_two_and_half_in_grains : grains (sized (pos 5) (pos 127)) (pos 500_000_000) Width ≡ pos 3
width_two_and_half_in_grains = refl

width_two_and_half_minus_in_grains : grains (sized (pos 5) (pos 127)) (neg_ℤ (pos 500_000_000)) Width ≡ neg_ℤ (pos 3)
width_two_and_half_minus_in_grains = refl

-- 3 grains times .166666666, a little less than a sixth, are 0 grains
height_below_sixth_in_grains : grains (sized (pos 127) (pos 3)) (pos 166_666_666) Height ≡ pos 0
height_below_sixth_in_grains = refl

-- 3 grains times .166666667, a little more, are 1 grain
height_above_sixth_in_grains : grains (sized (pos 127) (pos 3)) (pos 166_666_667) Height ≡ pos 1
height_above_sixth_in_grains = refl

-- the same below zero
height_minus_in_grains : grains (sized (pos 127) (pos 3)) (neg_ℤ (pos 166_666_667)) Height ≡ neg_ℤ (pos 1)
height_minus_in_grains = refl

-- the least number of centimetres
centimetres_in_grains : grains (sized (pos 127) (pos 3)) (neg_ℤ (pos 1)) Cm ≡ neg_ℤ (pos 3_600)
centimetres_in_grains = refl

-- and of millimetres
millimetres_in_grains : grains (sized (pos 127) (pos 3)) (pos 1) Mm ≡ pos 360
millimetres_in_grains = refl

-- and of inches
inches_in_grains : grains (sized (pos 127) (pos 3)) (pos 1) In ≡ pos 9_144
inches_in_grains = refl

-- and of points
points_in_grains : grains (sized (pos 127) (pos 3)) (pos 1) Pt ≡ pos 127
points_in_grains = refl

-- below zero each fixed unit is as exact
millimetres_minus_in_grains : grains (sized (pos 127) (pos 3)) (neg_ℤ (pos 1)) Mm ≡ neg_ℤ (pos 360)
millimetres_minus_in_grains = refl

inches_minus_in_grains : grains (sized (pos 127) (pos 3)) (neg_ℤ (pos 1)) In ≡ neg_ℤ (pos 9_144)
inches_minus_in_grains = refl

points_minus_in_grains : grains (sized (pos 127) (pos 3)) (neg_ℤ (pos 1)) Pt ≡ neg_ℤ (pos 127)
points_minus_in_grains = refl

-- no 0 before the dot
number_below_one : number_text (pos 700_000_000) ≡ codes ".7"
unfolding digits
number_below_one = refl

-- nor after a minus
number_minus_half : number_text (neg_ℤ (pos 500_000_000)) ≡ codes "-.5"
unfolding digits
number_minus_half = refl

-- zero is still `0`
number_zero : number_text (pos 0) ≡ codes "0"
unfolding digits
number_zero = refl

-- a whole number
number_whole : number_text (neg_ℤ (pos 21_000_000_000)) ≡ codes "-21"
unfolding digits
number_whole = refl

-- another 0 before the dot stays
number_above_one : number_text (pos 10_500_000_000) ≡ codes "10.5"
unfolding digits
number_above_one = refl

-- and one that is the whole part's second digit
number_ten : number_text (pos 10_000_000_000) ≡ codes "10"
unfolding digits
number_ten = refl

-- a 0 after the dot stays, on both sides of zero
number_below_tenth : number_text (pos 70_000_000) ≡ codes ".07"
unfolding digits
number_below_tenth = refl

number_least_minus : number_text (neg_ℤ (pos 1)) ≡ codes "-.000000001"
unfolding digits
number_least_minus = refl

-- one is a whole number, and the least below it is not
number_one : number_text (pos 1_000_000_000) ≡ codes "1"
unfolding digits
number_one = refl

number_below_one_by_least : number_text (neg_ℤ (pos 999_999_999)) ≡ codes "-.999999999"
unfolding digits
number_below_one_by_least = refl

-- zeros after the dot and before it
number_one_and_twentieth : number_text (neg_ℤ (pos 1_050_000_000)) ≡ codes "-1.05"
unfolding digits
number_one_and_twentieth = refl

-- the printed form of two of them: `-.5`, with no 0 before the dot, and `0` alone
minus_half_form : IsPrintedNumber (neg_ℤ (pos 500_000_000)) (codes "-.5")
minus_half_form = record {
  whole = [];
  decimals = codes "5";
  parts = refl;
  whole_digits = All-nil IsDigit;
  some_digit = omega arith;
  zero_alone = λ e. absurd (cc (e));
  decimal_digits = All-cons IsDigit 53 [] refl (All-nil IsDigit);
  few_decimals = omega arith;
  no_last_zero = refl;
  value = refl;
}

zero_form : IsPrintedNumber (pos 0) (codes "0")
zero_form = record {
  whole = codes "0";
  decimals = [];
  parts = refl;
  whole_digits = All-cons IsDigit 48 [] refl (All-nil IsDigit);
  some_digit = omega arith;
  zero_alone = λ e. refl;
  decimal_digits = All-nil IsDigit;
  few_decimals = omega arith;
  no_last_zero = refl;
  value = refl;
}
