-- Whole numbers of 10^-5 of a point are printed as they are.
use Rattle.std.proofs.Common.{arith, ◌≡◌, ℕ, suc, ◌+◌, ◌*◌, ◌/◌, true, refl, ap, ◌∙◌, sym}
use Rattle.std.specs.Prelude.{ℤ, pos, negsuc, ◌*ℤ◌, ◌-ℤ◌, nat_abs}
use Rattle.std.proofs.lemmas.Int.{ints}
use Rattle.rules.specs.Numbers.{signed}
use Rattle.rules.specs.Papers.{Paper}
use Rattle.rules.specs.Specification.{Turn, Upright, Left, Half, Right}
use Rattle.rules.specs.Placement.{Matrix}
use Rattle.placement.specs.Printed.{nearest}
use Rattle.layouts.specs.Cells.{turn_in, half_turned, to_right, to_top, whole_parts, row_of, column_of}
use Rattle.layouts.specs.Laws.{IsExact, PrintedAsItIs}
use Rattle.layouts.proofs.Sides.{placed}

as_it_is : (z : ℤ) → pos 127 *ℤ nearest ((pos 10_000 *ℤ z) *ℤ pos 127) ≡ (pos 10_000 *ℤ z) *ℤ pos 127
as_it_is (pos n) = omega (arith, ints)
as_it_is (negsuc n) =
    let k = 10_000 * n + 9_999 in
    let m = 127 * k + 126 in
    let one : pos 10_000 *ℤ negsuc n ≡ negsuc k = omega (arith, ints) in
    let two : negsuc k *ℤ pos 127 ≡ negsuc m = omega (arith, ints) in
    let all : (pos 10_000 *ℤ negsuc n) *ℤ pos 127 ≡ negsuc m = ap (λ z. z *ℤ pos 127) one ∙ two in
    let back : nearest (negsuc m) ≡ negsuc n *ℤ pos 10_000 = ap (λ q. signed true q *ℤ pos 10_000) (quotient n) in
    let again : pos 127 *ℤ (negsuc n *ℤ pos 10_000) ≡ negsuc m = omega (arith, ints) in
    ap (λ z. pos 127 *ℤ nearest z) all ∙ (ap (λ z. pos 127 *ℤ z) back ∙ (again ∙ sym all))
  where
    quotient : (n : ℕ) → (2 * suc (127 * (10_000 * n + 9_999) + 126) + 1_270_000) / (2 * 1_270_000) ≡ suc n
    quotient n = omega arith

same_shift : (m : Matrix) (tx ty : ℤ) → tx ≡ m.tx → ty ≡ m.ty → record m { tx = tx; ty = ty } ≡ m
same_shift m tx ty e f = rw e (rw f refl)

pub placed_exact : (page : Paper) (t : Turn) (k s : ℕ) (x y : ℤ) → IsExact page (placed t k s x y)
placed_exact page Upright k s x y = same_shift _ _ _ (as_it_is x) (as_it_is y)
placed_exact page Left k s x y = same_shift _ _ _ (as_it_is x) (as_it_is y)
placed_exact page Half k s x y = same_shift _ _ _ (as_it_is x) (as_it_is y)
placed_exact page Right k s x y = same_shift _ _ _ (as_it_is x) (as_it_is y)

pub printed_as_it_is : PrintedAsItIs
printed_as_it_is page room g o s n k =
    let x = to_right page room g s (row_of o g k) (column_of o g k) in
    let y = to_top page room g s (row_of o g k) (column_of o g k) in (
      placed_exact page (turn_in g) k s x y,
      placed_exact page (half_turned (turn_in g)) (n + k) s (pos (whole_parts (nat_abs room.paper.width)) -ℤ x) (pos (whole_parts (nat_abs room.paper.height)) -ℤ y),
    )
