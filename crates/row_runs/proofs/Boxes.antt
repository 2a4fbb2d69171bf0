-- A page that is turned stays within a box, whose sides are rounded up.
use Rattle.std.proofs.Common.{arith, ◌≡◌, ◌∙◌, ℕ, ◌+◌, ◌*◌, ◌<◌, ◌≤◌, Bool, true, false, ap, ap₂, refl, subst, sym}
use Rattle.std.specs.Prelude.{ℤ, pos, negsuc, ◌+ℤ◌, ◌-ℤ◌, ◌*ℤ◌, ◌≤ℤ◌, ◌==◌, if◌then◌else◌}
use Rattle.std.proofs.Math.IntN.{pos-*ℤ-pos}
use Rattle.std.proofs.Math.Nat.{mul-le-mul_left}
use Rattle.std.proofs.lemmas.Bool.{eqb-true}
use Rattle.std.proofs.lemmas.Int.{ints}
use Rattle.rules.specs.Papers.{Paper}
use Rattle.rules.specs.Placement.{Point, moved, turned}
use Rattle.rules.specs.Specification.{Item, Measure, Turn, Upright, Left, Half, Right}
use Rattle.layouts.specs.Placed.{IsOfPage, Room, fine, stands, multiplied}
use Rattle.layouts.specs.Cells.{in_points, kept_length}
use Rattle.layouts.specs.Laws.{Cell, IsInCell, LiesInCell}
use Rattle.row_runs.specs.Turning.{turned_corner, excess, scaled_length, on_turned, turned_item, turned_paper}
use Rattle.row_runs.specs.Written.{TurnedStaysInCell}
use Rattle.row_runs.proofs.Turns.{turned_stands}

abbrev pub point : ℤ → ℤ → Point
point x y = record { x = x; y = y }

abbrev pub paper_of : (width height : ℤ) → Paper
paper_of width height = record { width = width; height = height }

-- so many 10^-5 of a point
abbrev pub far : ℤ → ℤ
far z = pos 1_270_000_000_000_000 *ℤ z

abbrev item_at : ℕ → Bool → Turn → (s : ℕ) → (x y : ℤ) → Item
item_at n from_end t s x y = record { page = n; from_end = from_end; turn = t; scale = pos s; x = in_points x; y = in_points y }

same_points : (a b c d : ℤ) → a ≡ c → b ≡ d → point a b ≡ point c d
same_points a b c d e f = rw e (rw f refl)

-- ---- where a point stands

-- what is turned, and moved by whole 10^-5 of a point
abbrev pub from_start : (t : Turn) → (x y : ℤ) → Point → Point
from_start t x y q = moved (point (far x) (far y)) (turned t q)

pub starts_at : (t : Turn) (n : ℕ) (from_end : Bool) (page : Paper) (s : ℕ) (x y : ℤ) (q : Point)
    → stands page (item_at n from_end t s x y) q ≡ from_start t x y (multiplied (pos s) q)
starts_at t n from_end page s x y q =
    let a : pos 1_000_000_000 *ℤ ((pos 10_000 *ℤ x) *ℤ pos 127) ≡ far x = omega (arith, ints) in
    let b : pos 1_000_000_000 *ℤ ((pos 10_000 *ℤ y) *ℤ pos 127) ≡ far y = omega (arith, ints) in
    ap₂ (λ c d. moved (point c d) (turned t (multiplied (pos s) q))) a b

-- moved before it is turned
pub moved_first : (t : Turn) (x y : ℤ) (c q : Point) → moved (turned t c) (from_start t x y q) ≡ from_start t x y (moved c q)
moved_first Upright x y c q = same_points _ _ _ _ (omega (arith, ints)) (omega (arith, ints))
moved_first Left x y c q = same_points _ _ _ _ (omega (arith, ints)) (omega (arith, ints))
moved_first Half x y c q = same_points _ _ _ _ (omega (arith, ints)) (omega (arith, ints))
moved_first Right x y c q = same_points _ _ _ _ (omega (arith, ints)) (omega (arith, ints))

-- ---- in a cell

-- two corners of a box lie in a cell, whose sides are whole 10^-5 of a point; so does what is as long as the box, rounded up to these
boxed : (t : Turn) (cell : Cell) (past : ℕ) (x y : ℤ) (n m l k : ℕ) (a b : ℤ) → 1_270_000_000_000_000 * l < n + 1_270_000_000_000_000 → 1_270_000_000_000_000 * k < m + 1_270_000_000_000_000
    → LiesInCell cell past (from_start t x y (point (pos 0) (pos 0))) → LiesInCell cell past (from_start t x y (point (pos n) (pos m)))
    → pos 0 ≤ℤ a → a ≤ℤ fine l → pos 0 ≤ℤ b → b ≤ℤ fine k → LiesInCell cell past (from_start t x y (point a b))
boxed Upright cell past x y n m l k a b wide high one other left right bottom top =
    let e = one.left in let f = other.right in let g = one.bottom in let h = other.top in
    record { left = omega (arith, ints, e, left); right = omega (arith, ints, f, right, wide); bottom = omega (arith, ints, g, bottom); top = omega (arith, ints, h, top, high) }
boxed Left cell past x y n m l k a b wide high one other left right bottom top =
    let e = other.left in let f = one.right in let g = one.bottom in let h = other.top in
    record { left = omega (arith, ints, e, top, high); right = omega (arith, ints, f, bottom); bottom = omega (arith, ints, g, left); top = omega (arith, ints, h, right, wide) }
boxed Half cell past x y n m l k a b wide high one other left right bottom top =
    let e = other.left in let f = one.right in let g = other.bottom in let h = one.top in
    record { left = omega (arith, ints, e, right, wide); right = omega (arith, ints, f, left); bottom = omega (arith, ints, g, top, high); top = omega (arith, ints, h, bottom) }
boxed Right cell past x y n m l k a b wide high one other left right bottom top =
    let e = one.left in let f = other.right in let g = other.bottom in let h = one.top in
    record { left = omega (arith, ints, e, bottom); right = omega (arith, ints, f, top, high); bottom = omega (arith, ints, g, right, wide); top = omega (arith, ints, h, left) }

-- and what is moved by less than these lies past it by one more at most
little_past : (t : Turn) (cell : Cell) (past : ℕ) (x y : ℤ) (c q : Point) → pos 0 ≤ℤ c.x → (c.x +ℤ pos 1) ≤ℤ fine 1 → pos 0 ≤ℤ c.y → (c.y +ℤ pos 1) ≤ℤ fine 1
    → LiesInCell cell past (from_start t x y q) → LiesInCell cell (past + 1) (from_start t x y (moved c q))
little_past Upright cell past x y c q left right bottom top h =
    let e = h.left in let f = h.right in let g = h.bottom in let i = h.top in
    record { left = omega (arith, ints, e, left); right = omega (arith, ints, f, right); bottom = omega (arith, ints, g, bottom); top = omega (arith, ints, i, top) }
little_past Left cell past x y c q left right bottom top h =
    let e = h.left in let f = h.right in let g = h.bottom in let i = h.top in
    record { left = omega (arith, ints, e, top); right = omega (arith, ints, f, bottom); bottom = omega (arith, ints, g, left); top = omega (arith, ints, i, right) }
little_past Half cell past x y c q left right bottom top h =
    let e = h.left in let f = h.right in let g = h.bottom in let i = h.top in
    record { left = omega (arith, ints, e, right); right = omega (arith, ints, f, left); bottom = omega (arith, ints, g, top); top = omega (arith, ints, i, bottom) }
little_past Right cell past x y c q left right bottom top h =
    let e = h.left in let f = h.right in let g = h.bottom in let i = h.top in
    record { left = omega (arith, ints, e, bottom); right = omega (arith, ints, f, top); bottom = omega (arith, ints, g, right); top = omega (arith, ints, i, left) }

-- ---- a page

-- a point of the page on its own paper is one of it on its turned paper
pub of_turned : (turn : Turn) (l w h : ℕ) (p : Point) → IsOfPage l (turned_paper turn (paper_of (pos w) (pos h))) p → IsOfPage l (paper_of (pos w) (pos h)) (on_turned turn (paper_of (pos w) (pos h)) p)
of_turned Upright l w h p of =
    let e = of.left in let f = of.right in let g = of.bottom in let i = of.top in
    record { left = omega (arith, ints, e); right = omega (arith, ints, f); bottom = omega (arith, ints, g); top = omega (arith, ints, i) }
of_turned Left l w h p of =
    let e = of.left in let f = of.right in let g = of.bottom in let i = of.top in
    record { left = omega (arith, ints, i); right = omega (arith, ints, g); bottom = omega (arith, ints, e); top = omega (arith, ints, f) }
of_turned Half l w h p of =
    let e = of.left in let f = of.right in let g = of.bottom in let i = of.top in
    record { left = omega (arith, ints, f); right = omega (arith, ints, e); bottom = omega (arith, ints, i); top = omega (arith, ints, g) }
of_turned Right l w h p of =
    let e = of.left in let f = of.right in let g = of.bottom in let i = of.top in
    record { left = omega (arith, ints, g); right = omega (arith, ints, i); bottom = omega (arith, ints, f); top = omega (arith, ints, e) }

-- a scaled coordinate is between 0 and the scaled side
pub scaled_within : (s w : ℕ) (a : ℤ) → pos 0 ≤ℤ a → a ≤ℤ pos w → (pos 0 ≤ℤ (pos s *ℤ a)) × ((pos s *ℤ a) ≤ℤ pos (s * w))
scaled_within s w (pos a) some most =
    let is = pos-*ℤ-pos s a in
    let within : a ≤ w = omega (arith, ints, most) in
    let multiplied = mul-le-mul_left s within in
    (omega (arith, ints, is), omega (arith, ints, is, multiplied))
scaled_within s w (negsuc a) some most = absurd (omega (arith, ints, some))

-- how far the corner is from where it would be, in the page's own directions
pub corner_little : (turn : Turn) (n m : ℕ) (e f : ℤ) → pos 0 ≤ℤ e → (e +ℤ pos 1) ≤ℤ fine 1 → pos 0 ≤ℤ f → (f +ℤ pos 1) ≤ℤ fine 1
    → (pos 0 ≤ℤ (turned_corner turn e f).x) × (((turned_corner turn e f).x +ℤ pos 1) ≤ℤ fine 1) × (pos 0 ≤ℤ (turned_corner turn e f).y) × (((turned_corner turn e f).y +ℤ pos 1) ≤ℤ fine 1) × ((turned_corner turn e f).x ≤ℤ e) × ((turned_corner turn e f).y ≤ℤ f)
corner_little Upright n m e f a b c d = (omega (arith, ints), omega (arith, ints), omega (arith, ints), omega (arith, ints), a, c)
corner_little Left n m e f a b c d = (a, b, omega (arith, ints), omega (arith, ints), omega (arith, ints), c)
corner_little Half n m e f a b c d = (a, b, c, d, omega (arith, ints), omega (arith, ints))
corner_little Right n m e f a b c d = (omega (arith, ints), omega (arith, ints), c, d, a, omega (arith, ints))

abbrev Within : (l : ℕ) → (page : Paper) → Cell → (past : ℕ) → Item → Type 0
Within l page cell past item = (p : Point) → IsOfPage l page p → LiesInCell cell past (stands page item p)

no_scale : (s : ℕ) → pos s *ℤ pos 0 ≡ pos 0
no_scale s = let none : s * 0 ≡ 0 = omega arith in pos-*ℤ-pos s 0 ∙ ap pos none

-- where a point of the turned page stands
pub record StandsSo (t : Turn) (x y : ℤ) (l k : ℕ) (p : Point) : Type 0 where
  pub a : ℤ
  pub b : ℤ
  pub is : p ≡ from_start t x y (point a b)
  pub left : pos 0 ≤ℤ a
  pub right : a ≤ℤ fine l
  pub bottom : pos 0 ≤ℤ b
  pub top : b ≤ℤ fine k

pub record Box (t : Turn) (page : Paper) (item : Item) (turn : Turn) : Type 0 where
  pub x : ℤ
  pub y : ℤ
  pub n : ℕ
  pub m : ℕ
  pub l : ℕ
  pub k : ℕ
  pub wide : 1_270_000_000_000_000 * l < n + 1_270_000_000_000_000
  pub high : 1_270_000_000_000_000 * k < m + 1_270_000_000_000_000
  pub first : (p : Point) × IsOfPage 0 page p × (stands page item p ≡ from_start t x y (point (pos 0) (pos 0)))
  pub last : (p : Point) × IsOfPage 0 page p × (stands page item p ≡ from_start t x y (point (pos n) (pos m)))
  pub all : (p : Point) → IsOfPage 0 (turned_paper turn page) p → StandsSo t x y l k (stands (turned_paper turn page) (turned_item turn page item) p)

pub box_at : (turn t : Turn) (i : ℕ) (from_end : Bool) (x y : ℤ) (w h s : ℕ)
    → Box t (paper_of (pos w) (pos h)) (record { page = i; from_end = from_end; turn = t; scale = pos s; x = in_points x; y = in_points y }) turn
box_at turn t i from_end x y w h s =
    let page = paper_of (pos w) (pos h) in
    let item : Item = record { page = i; from_end = from_end; turn = t; scale = pos s; x = in_points x; y = in_points y } in
    let drawn = turned_stands turn page item w h s refl refl refl refl refl in
    let c = turned_corner turn (excess s w) (excess s h) in
    let few = corner_little turn 0 0 (excess s w) (excess s h) drawn.little.0.some drawn.little.0.less drawn.little.1.some drawn.little.1.less in
    let less = drawn.little.0.less in
    let less' = drawn.little.1.less in
    record {
      x = x;
      y = y;
      n = s * w;
      m = s * h;
      l = scaled_length (pos s) (pos w);
      k = scaled_length (pos s) (pos h);
      wide = omega (arith, ints, less);
      high = omega (arith, ints, less');
      first = (
        point (pos 0) (pos 0),
        record { left = omega (arith, ints); right = omega (arith, ints); bottom = omega (arith, ints); top = omega (arith, ints) },
        starts_at t i from_end page s x y (point (pos 0) (pos 0)) ∙ ap₂ (λ u v. from_start t x y (point u v)) (no_scale s) (no_scale s),
      );
      last = (
        point (pos w) (pos h),
        record { left = omega (arith, ints); right = omega (arith, ints); bottom = omega (arith, ints); top = omega (arith, ints) },
        starts_at t i from_end page s x y (point (pos w) (pos h)) ∙ ap₂ (λ u v. from_start t x y (point u v)) (pos-*ℤ-pos s w) (pos-*ℤ-pos s h),
      );
      all = λ p of.
          let q = on_turned turn page p in
          let of' = of_turned turn 0 w h p of in
          let a = scaled_within s w q.x (let o = of'.left in omega (arith, ints, o)) (let o = of'.right in omega (arith, ints, o)) in
          let b = scaled_within s h q.y (let o = of'.bottom in omega (arith, ints, o)) (let o = of'.top in omega (arith, ints, o)) in
          record {
            a = (pos s *ℤ q.x) +ℤ c.x;
            b = (pos s *ℤ q.y) +ℤ c.y;
            is = drawn.stand p ∙ ap (moved (turned t c)) (starts_at t i from_end page s x y q) ∙ moved_first t x y c (multiplied (pos s) q);
            left = sum_above _ _ a.0 few.0;
            right = sum_below _ _ _ _ a.1 few.4;
            bottom = sum_above _ _ b.0 few.2;
            top = sum_below _ _ _ _ b.1 few.5;
          };
    }
  where
    sum_above : (a b : ℤ) → pos 0 ≤ℤ a → pos 0 ≤ℤ b → pos 0 ≤ℤ (a +ℤ b)
    sum_above a b h i = omega (arith, ints, h, i)

    sum_below : (a b g n : ℤ) → a ≤ℤ n → b ≤ℤ (g -ℤ n) → (a +ℤ b) ≤ℤ g
    sum_below a b g n h i = omega (arith, ints, h, i)

-- exactly
untrimmed : (turn t : Turn) (n : ℕ) (from_end : Bool) (x y : ℤ) (w h s : ℕ) (cell : Cell) (past : ℕ)
    → Within 0 (paper_of (pos w) (pos h)) cell past (item_at n from_end t s x y)
    → Within 0 (turned_paper turn (paper_of (pos w) (pos h))) cell past (turned_item turn (paper_of (pos w) (pos h)) (item_at n from_end t s x y))
untrimmed turn t n from_end x y w h s cell past inside p of =
    let box = box_at turn t n from_end x y w h s in
    let at = box.all p of in
    let one = subst (LiesInCell cell past) box.first.2 (inside box.first.0 box.first.1) in
    let other = subst (LiesInCell cell past) box.last.2 (inside box.last.0 box.last.1) in
    subst (LiesInCell cell past) (sym at.is)
    (boxed t cell past box.x box.y box.n box.m box.l box.k at.a at.b box.wide box.high one other at.left at.right at.bottom at.top)

-- to 10^-5 of a point more
trimmed : (turn t : Turn) (n : ℕ) (from_end : Bool) (x y : ℤ) (w h s trim : ℕ) (cell : Cell) (past : ℕ)
    → Within trim (paper_of (pos w) (pos h)) cell past (item_at n from_end t s x y)
    → Within trim (turned_paper turn (paper_of (pos w) (pos h))) cell (past + 1) (turned_item turn (paper_of (pos w) (pos h)) (item_at n from_end t s x y))
trimmed turn t n from_end x y w h s trim cell past inside p of =
    let page = paper_of (pos w) (pos h) in
    let item = item_at n from_end t s x y in
    let drawn = turned_stands turn page item w h s refl refl refl refl refl in
    let q = on_turned turn page p in
    let c = turned_corner turn (excess s w) (excess s h) in
    let few = corner_little turn 0 0 (excess s w) (excess s h) drawn.little.0.some drawn.little.0.less drawn.little.1.some drawn.little.1.less in
    let at = drawn.stand p ∙ ap (moved (turned t c)) (starts_at t n from_end page s x y q) ∙ moved_first t x y c (multiplied (pos s) q) in
    subst (LiesInCell cell (past + 1)) (sym at)
    (little_past t cell past x y c (multiplied (pos s) q) few.0 few.1 few.2 few.3
    (subst (LiesInCell cell past) (starts_at t n from_end page s x y q) (inside q (of_turned turn trim w h p of))))

either : (b : Bool) (turn t : Turn) (n : ℕ) (from_end : Bool) (x y : ℤ) (w h s trim : ℕ) (cell : Cell) (past : ℕ) → (trim == 0) ≡ b
    → Within trim (paper_of (pos w) (pos h)) cell past (item_at n from_end t s x y)
    → Within trim (turned_paper turn (paper_of (pos w) (pos h))) cell (if b then past else past + 1) (turned_item turn (paper_of (pos w) (pos h)) (item_at n from_end t s x y))
either true turn t n from_end x y w h s trim cell past is inside =
    let none : trim ≡ 0 = eqb-true trim 0 is in
    let page = paper_of (pos w) (pos h) in
    let item = item_at n from_end t s x y in
    subst (λ l. Within l (turned_paper turn page) cell past (turned_item turn page item)) (sym none)
    (untrimmed turn t n from_end x y w h s cell past (subst (λ l. Within l page cell past item) none inside))
either false turn t n from_end x y w h s trim cell past is inside = trimmed turn t n from_end x y w h s trim cell past inside

abbrev StaysIn : Turn → Room → Cell → (past : ℕ) → Paper → Item → Type 0
StaysIn turn room cell past page item = IsInCell room page cell past item → IsInCell room (turned_paper turn page) cell (kept_length room.trim past) (turned_item turn page item)

pub turned_stays_in_cell : TurnedStaysInCell
turned_stays_in_cell turn room page cell past item w h s x y wide high scaled across up =
    let same_page : paper_of (pos w) (pos h) ≡ page = ap₂ paper_of (sym wide) (sym high) in
    let same_item : item_at item.page item.from_end item.turn s x y ≡ item =
    ap (λ z. record { page = item.page; from_end = item.from_end; turn = item.turn; scale = z; x = in_points x; y = in_points y }) (sym scaled)
    ∙ ap₂ (λ (a b : Measure). record { page = item.page; from_end = item.from_end; turn = item.turn; scale = item.scale; x = a; y = b }) (sym across) (sym up) in
    subst (λ (q : Paper). StaysIn turn room cell past q item) same_page
    (subst (λ (i : Item). StaysIn turn room cell past (paper_of (pos w) (pos h)) i) same_item
    (either (room.trim == 0) turn item.turn item.page item.from_end x y w h s room.trim cell past refl))
