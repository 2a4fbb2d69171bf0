-- Numbers of pages stand at the foot of their cells.
use Rattle.std.proofs.Common.{arith, ◌≡◌, ◌∙◌, ℕ, ◌+◌, ◌*◌, ◌/◌, ap, ap₂, subst, sym}
use Rattle.std.specs.Prelude.{ℤ, pos, ◌+ℤ◌, ◌-ℤ◌, ◌*ℤ◌, nat_abs, Some}
use Rattle.std.proofs.Math.IntN.{pos-*ℤ-pos}
use Rattle.std.proofs.lemmas.Int.{ints}
use Rattle.rules.specs.Papers.{Paper}
use Rattle.rules.specs.Placement.{Point, moved, offset, turned}
use Rattle.rules.specs.Specification.{Item, Turn, Upright, Left, Half, Right}
use Rattle.layouts.specs.Laws.{Cell, IsInMiddle, IsMean, IsPaper}
use Rattle.layouts.specs.Placed.{finer, stands, multiplied}
use Rattle.layouts.proofs.InGrid.{sides_are}
use Rattle.dressing.specs.AtFoot.{IsAtFoot, NumbersAreAtFoot, high_as_held, number_point}
use Rattle.sheet_text.specs.PageNumbers.{above_foot, middle}

abbrev point : ℤ → ℤ → Point
point x y = record { x = x; y = y }

abbrev scaled_point : (t : Turn) → (x y : ℤ) → (n m : ℤ) → Point
scaled_point t x y n m = moved (finer (point x y)) (turned t (point n m))

-- a page that is n wide and m high, in 10^-9 of a grain, is in the middle of its cell
record InMiddle (t : Turn) (cell : Cell) (x y : ℤ) (n m : ℕ) : Type 0 where
  pub across : IsMean (2 * cell.left + cell.width) (scaled_point t x y (pos 0) (pos 0)).x (scaled_point t x y (pos n) (pos m)).x
  pub up : IsMean (2 * cell.bottom + cell.height) (scaled_point t x y (pos 0) (pos 0)).y (scaled_point t x y (pos n) (pos m)).y

-- half of it, in whole grains
abbrev half : ℕ → ℕ
half n = n / 2_000_000_000

foot_of : (t : Turn) (cell : Cell) (x y : ℤ) (n m : ℕ) → InMiddle t cell x y n m
    → IsAtFoot t cell (moved (point x y) (turned t (point (pos (half n)) ((pos (half m) -ℤ pos (635_000 * high_as_held t cell)) +ℤ pos above_foot))))
foot_of Upright cell x y n m is =
    let a = is.across in let b = is.up in record {
      across = (omega (arith, ints, a), omega (arith, ints, a));
      up = (omega (arith, ints, b), omega (arith, ints, b));
      in_cell = λ high few tall. record { left = omega (arith, ints, a, tall); right = omega (arith, ints, a, tall); bottom = omega (arith, ints, b); top = omega (arith, ints, b, few, tall) };
    }
foot_of Left cell x y n m is =
    let a = is.across in let b = is.up in record {
      across = (omega (arith, ints, a), omega (arith, ints, a));
      up = (omega (arith, ints, b), omega (arith, ints, b));
      in_cell = λ high few tall. record { left = omega (arith, ints, a, few, tall); right = omega (arith, ints, a); bottom = omega (arith, ints, b); top = omega (arith, ints, b) };
    }
foot_of Half cell x y n m is =
    let a = is.across in let b = is.up in record {
      across = (omega (arith, ints, a), omega (arith, ints, a));
      up = (omega (arith, ints, b), omega (arith, ints, b));
      in_cell = λ high few tall. record { left = omega (arith, ints, a); right = omega (arith, ints, a); bottom = omega (arith, ints, b, few, tall); top = omega (arith, ints, b) };
    }
foot_of Right cell x y n m is =
    let a = is.across in let b = is.up in record {
      across = (omega (arith, ints, a), omega (arith, ints, a));
      up = (omega (arith, ints, b), omega (arith, ints, b));
      in_cell = λ high few tall. record { left = omega (arith, ints, a); right = omega (arith, ints, a, few, tall); bottom = omega (arith, ints, b); top = omega (arith, ints, b) };
    }

-- with the sides of a page, and its scale
no_scale : (s : ℕ) → pos s *ℤ pos 0 ≡ pos 0
no_scale s = let none : s * 0 ≡ 0 = omega arith in pos-*ℤ-pos s 0 ∙ ap pos none

stands_so : (page : Paper) (item : Item) (t : Turn) (s : ℕ) (a b n m : ℤ) → item.turn ≡ t → item.scale ≡ pos s → pos s *ℤ a ≡ n → pos s *ℤ b ≡ m
    → stands page item (point a b) ≡ scaled_point t (offset page item).x (offset page item).y n m
stands_so page item t s a b n m turned_so scale_is e f =
    ap₂ (λ (u : Turn) (c : ℤ). moved (finer (offset page item)) (turned u (multiplied c (point a b)))) turned_so scale_is
    ∙ ap₂ (λ (c d : ℤ). moved (finer (offset page item)) (turned t (point c d))) e f

in_middle : (t : Turn) (page : Paper) (cell : Cell) (item : Item) (s : ℕ) → IsPaper page → item.turn ≡ t → item.scale ≡ pos s → IsInMiddle page cell item
    → InMiddle t cell (offset page item).x (offset page item).y (s * nat_abs page.width) (s * nat_abs page.height)
in_middle t page cell item s is turned_so scale_is h =
    let sides = sides_are page is in
    let w : pos s *ℤ page.width ≡ pos (s * nat_abs page.width) = ap (λ (p : Paper). pos s *ℤ p.width) sides ∙ pos-*ℤ-pos s (nat_abs page.width) in
    let v : pos s *ℤ page.height ≡ pos (s * nat_abs page.height) = ap (λ (p : Paper). pos s *ℤ p.height) sides ∙ pos-*ℤ-pos s (nat_abs page.height) in
    let first = stands_so page item t s (pos 0) (pos 0) (pos 0) (pos 0) turned_so scale_is (no_scale s) (no_scale s) in
    let last = stands_so page item t s page.width page.height (pos (s * nat_abs page.width)) (pos (s * nat_abs page.height)) turned_so scale_is w v in
    record {
      across = subst (λ (q : Point). IsMean (2 * cell.left + cell.width) (scaled_point t (offset page item).x (offset page item).y (pos 0) (pos 0)).x q.x) last
          (subst (λ (q : Point). IsMean (2 * cell.left + cell.width) q.x (stands page item (point page.width page.height)).x) first h.across);
      up = subst (λ (q : Point). IsMean (2 * cell.bottom + cell.height) (scaled_point t (offset page item).x (offset page item).y (pos 0) (pos 0)).y q.y) last
          (subst (λ (q : Point). IsMean (2 * cell.bottom + cell.height) q.y (stands page item (point page.width page.height)).y) first h.up);
    }

pub numbers_are_at_foot : NumbersAreAtFoot
numbers_are_at_foot t page cell item s is turned_so scale_is h =
    let below = pos (635_000 * high_as_held t cell) in
    let same : number_point (Some below) page item ≡ moved (offset page item) (turned t (point (pos (half (s * nat_abs page.width))) ((pos (half (s * nat_abs page.height)) -ℤ below) +ℤ pos above_foot))) =
    ap₂ (λ (u : Turn) (c : ℤ). moved (offset page item) (turned u (point (pos (middle c page.width)) ((pos (middle c page.height) -ℤ below) +ℤ pos above_foot)))) turned_so scale_is in
    subst (IsAtFoot t cell) (sym same)
    (foot_of t cell (offset page item).x (offset page item).y (s * nat_abs page.width) (s * nat_abs page.height) (in_middle t page cell item s is turned_so scale_is h))
