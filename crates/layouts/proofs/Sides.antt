-- Upright pages and pages turned to the left, so far from the edges and from one another. A page has the sides v and u,
-- of which l is trimmed; it is moved by x and y.
use Rattle.std.proofs.Common.{arith, ◌≡◌, refl, zero, suc, ℕ, ◌+◌, ◌-◌, ◌*◌, ◌≤◌}
use Rattle.std.specs.Prelude.{ℤ, pos, negsuc, ◌≤ℤ◌, ◌+ℤ◌, ◌-ℤ◌, ◌*ℤ◌, neg_ℤ, nat_abs, false}
use Rattle.std.proofs.Math.Nat.{mul-le-mul_left}
use Rattle.std.proofs.lemmas.Int.{ints}
use Rattle.rules.specs.Papers.{Paper}
use Rattle.rules.specs.Specification.{Item, Turn, Upright, Left}
use Rattle.rules.specs.Placement.{Point}
use Rattle.layouts.specs.Placed.{Room, stands, fine, IsOfPage}
use Rattle.layouts.specs.Cells.{in_points, whole_parts}

abbrev pub of_sides : (w h : ℕ) → Paper
of_sides w h = record { width = pos w; height = pos h }

abbrev pub placed : Turn → (page s : ℕ) → (x y : ℤ) → Item
placed t page s x y = record { page = page; from_end = false; turn = t; scale = pos s; x = in_points x; y = in_points y }

abbrev pub point : ℤ → ℤ → Point
point x y = record { x = x; y = y }

-- in 10^-9 of a grain
abbrev pub far : ℤ → ℤ
far z = pos 1_270_000_000_000_000 *ℤ z

-- on the whole 10^-5 of a point of a sheet, so far from its edges
pub record LiesIn (room : Room) (p : Point) : Type 0 where
  pub left : fine room.left ≤ℤ p.x
  pub right : (p.x +ℤ fine room.right) ≤ℤ fine (whole_parts (nat_abs room.paper.width))
  pub bottom : fine room.bottom ≤ℤ p.y
  pub top : (p.y +ℤ fine room.top) ≤ℤ fine (whole_parts (nat_abs room.paper.height))

-- where the page begins and ends
abbrev pub start : (l s : ℕ) → ℕ
start l s = s * (1_270_000 * l)

abbrev pub end : (l v s : ℕ) → ℕ
end l v s = s * (v - 1_270_000 * l)

-- a number of the page's
pub record IsBetween (l v : ℕ) (s a : ℕ) : Type 0 where
  pub start : start l s ≤ s * a
  pub end : s * a ≤ end l v s

pub between : (l v s a : ℕ) → 1_270_000 * l ≤ a → a + 1_270_000 * l ≤ v → IsBetween l v s a
between l v s a from to =
    let most : a ≤ v - 1_270_000 * l = omega (arith, to) in
    record { start = mul-le-mul_left s from; end = mul-le-mul_left s most }

-- a point between four lines
pub record InBox (left right bottom top : ℤ) (p : Point) : Type 0 where
  pub left_is : left ≤ℤ p.x
  pub right_is : p.x ≤ℤ right
  pub bottom_is : bottom ≤ℤ p.y
  pub top_is : p.y ≤ℤ top

pub upright_box : (v u l k s : ℕ) (x y e f g h : ℤ) → e ≤ℤ (far x +ℤ pos (start l s)) → (far x +ℤ pos (end l v s)) ≤ℤ f → g ≤ℤ (far y +ℤ pos (start l s)) → (far y +ℤ pos (end l u s)) ≤ℤ h
    → (a b : ℤ) → IsOfPage l (of_sides v u) (point a b) → InBox e f g h (stands (of_sides v u) (placed Upright k s x y) (point a b))
upright_box v u l k s x y e f g h left right bottom top (pos a) (pos b) of =
    let q = between l v s a (let f = of.left in omega (arith, ints)) (let f = of.right in omega (arith, ints)) in
    let q' = between l u s b (let f = of.bottom in omega (arith, ints)) (let f = of.top in omega (arith, ints)) in
    let i = q.start in let j = q.end in let i' = q'.start in let j' = q'.end in
    record {
      left_is = omega (arith, ints);
      right_is = omega (arith, ints);
      bottom_is = omega (arith, ints);
      top_is = omega (arith, ints);
    }
upright_box v u l k s x y e f g h left right bottom top (negsuc a) b of = absurd (let f = of.left in omega (arith, ints))
upright_box v u l k s x y e f g h left right bottom top (pos a) (negsuc b) of = absurd (let f = of.bottom in omega (arith, ints))

pub left_box : (v u l k s : ℕ) (x y e f g h : ℤ) → (e +ℤ pos (end l u s)) ≤ℤ far x → far x ≤ℤ (f +ℤ pos (start l s)) → g ≤ℤ (far y +ℤ pos (start l s)) → (far y +ℤ pos (end l v s)) ≤ℤ h
    → (a b : ℤ) → IsOfPage l (of_sides v u) (point a b) → InBox e f g h (stands (of_sides v u) (placed Left k s x y) (point a b))
left_box v u l k s x y e f g h left right bottom top (pos a) (pos b) of =
    let q = between l v s a (let f = of.left in omega (arith, ints)) (let f = of.right in omega (arith, ints)) in
    let q' = between l u s b (let f = of.bottom in omega (arith, ints)) (let f = of.top in omega (arith, ints)) in
    let i = q.start in let j = q.end in let i' = q'.start in let j' = q'.end in
    record {
      left_is = omega (arith, ints);
      right_is = omega (arith, ints);
      bottom_is = omega (arith, ints);
      top_is = omega (arith, ints);
    }
left_box v u l k s x y e f g h left right bottom top (negsuc a) b of = absurd (let f = of.left in omega (arith, ints))
left_box v u l k s x y e f g h left right bottom top (pos a) (negsuc b) of = absurd (let f = of.bottom in omega (arith, ints))

rest_of : (a b c : ℤ) → (a +ℤ b) ≤ℤ c → a ≤ℤ (c -ℤ b)
rest_of a b c h = omega (arith, ints, h)

rest_and : (a b c d : ℤ) → (a +ℤ b) ≤ℤ (c +ℤ d) → a ≤ℤ ((c -ℤ b) +ℤ d)
rest_and a b c d h = omega (arith, ints, h)

with_rest : (a b c : ℤ) → a ≤ℤ (c -ℤ b) → (a +ℤ b) ≤ℤ c
with_rest a b c h = omega (arith, ints, h)

-- as far from the edges as is kept free
within_edges : (room : Room) (p : Point)
    → InBox (fine room.left) (fine (whole_parts (nat_abs room.paper.width)) -ℤ fine room.right) (fine room.bottom) (fine (whole_parts (nat_abs room.paper.height)) -ℤ fine room.top) p → LiesIn room p
within_edges room p b = record {
  left = b.left_is;
  right = with_rest p.x (fine room.right) (fine (whole_parts (nat_abs room.paper.width))) b.right_is;
  bottom = b.bottom_is;
  top = with_rest p.y (fine room.top) (fine (whole_parts (nat_abs room.paper.height))) b.top_is;
}

pub within_upright : (v u : ℕ) (room : Room) (k s : ℕ) (x y : ℤ) → fine room.left ≤ℤ (far x +ℤ pos (start room.trim s))
    → ((far x +ℤ pos (end room.trim v s)) +ℤ fine room.right) ≤ℤ fine (whole_parts (nat_abs room.paper.width))
    → fine room.bottom ≤ℤ (far y +ℤ pos (start room.trim s)) → ((far y +ℤ pos (end room.trim u s)) +ℤ fine room.top) ≤ℤ fine (whole_parts (nat_abs room.paper.height))
    → (p : Point) → IsOfPage room.trim (of_sides v u) p → LiesIn room (stands (of_sides v u) (placed Upright k s x y) p)
within_upright v u room k s x y left right bottom top p of =
    let w = fine (whole_parts (nat_abs room.paper.width)) in
    let h = fine (whole_parts (nat_abs room.paper.height)) in
    within_edges room (stands (of_sides v u) (placed Upright k s x y) p)
    (upright_box v u room.trim k s x y (fine room.left) (w -ℤ fine room.right) (fine room.bottom) (h -ℤ fine room.top)
    left (rest_of (far x +ℤ pos (end room.trim v s)) (fine room.right) w right) bottom (rest_of (far y +ℤ pos (end room.trim u s)) (fine room.top) h top) p.x p.y of)

pub within_left : (v u : ℕ) (room : Room) (k s : ℕ) (x y : ℤ) → (fine room.left +ℤ pos (end room.trim u s)) ≤ℤ far x
    → (far x +ℤ fine room.right) ≤ℤ (fine (whole_parts (nat_abs room.paper.width)) +ℤ pos (start room.trim s))
    → fine room.bottom ≤ℤ (far y +ℤ pos (start room.trim s)) → ((far y +ℤ pos (end room.trim v s)) +ℤ fine room.top) ≤ℤ fine (whole_parts (nat_abs room.paper.height))
    → (p : Point) → IsOfPage room.trim (of_sides v u) p → LiesIn room (stands (of_sides v u) (placed Left k s x y) p)
within_left v u room k s x y left right bottom top p of =
    let w = fine (whole_parts (nat_abs room.paper.width)) in
    let h = fine (whole_parts (nat_abs room.paper.height)) in
    within_edges room (stands (of_sides v u) (placed Left k s x y) p)
    (left_box v u room.trim k s x y (fine room.left) (w -ℤ fine room.right) (fine room.bottom) (h -ℤ fine room.top)
    left (rest_and (far x) (fine room.right) w (pos (start room.trim s)) right) bottom (rest_of (far y +ℤ pos (end room.trim v s)) (fine room.top) h top) p.x p.y of)

-- one page before another, by d. The sides of the other are v' and u'

pub left_by_upright : (v u v' u' d l k k' s s' : ℕ) (x y x' y' : ℤ) → ((far x +ℤ pos (end l v s)) +ℤ fine d) ≤ℤ (far x' +ℤ pos (start l s'))
    → (a b c e : ℤ) → IsOfPage l (of_sides v u) (point a b) → IsOfPage l (of_sides v' u') (point c e)
    → ((stands (of_sides v u) (placed Upright k s x y) (point a b)).x +ℤ fine d) ≤ℤ (stands (of_sides v' u') (placed Upright k' s' x' y') (point c e)).x
left_by_upright v u v' u' d l k k' s s' x y x' y' apart (pos a) b (pos c) e of of' =
    let h = (between l v s a (let f = of.left in omega (arith, ints)) (let f = of.right in omega (arith, ints))).end in
    let h' = (between l v' s' c (let f = of'.left in omega (arith, ints)) (let f = of'.right in omega (arith, ints))).start in
    omega (arith, ints)
left_by_upright v u v' u' d l k k' s s' x y x' y' apart (negsuc a) b c e of of' = absurd (let f = of.left in omega (arith, ints))
left_by_upright v u v' u' d l k k' s s' x y x' y' apart (pos a) b (negsuc c) e of of' = absurd (let f = of'.left in omega (arith, ints))

pub below_by_upright : (v u v' u' d l k k' s s' : ℕ) (x y x' y' : ℤ) → ((far y +ℤ pos (end l u s)) +ℤ fine d) ≤ℤ (far y' +ℤ pos (start l s'))
    → (a b c e : ℤ) → IsOfPage l (of_sides v u) (point a b) → IsOfPage l (of_sides v' u') (point c e)
    → ((stands (of_sides v u) (placed Upright k s x y) (point a b)).y +ℤ fine d) ≤ℤ (stands (of_sides v' u') (placed Upright k' s' x' y') (point c e)).y
below_by_upright v u v' u' d l k k' s s' x y x' y' apart a (pos b) c (pos e) of of' =
    let h = (between l u s b (let f = of.bottom in omega (arith, ints)) (let f = of.top in omega (arith, ints))).end in
    let h' = (between l u' s' e (let f = of'.bottom in omega (arith, ints)) (let f = of'.top in omega (arith, ints))).start in
    omega (arith, ints)
below_by_upright v u v' u' d l k k' s s' x y x' y' apart a (negsuc b) c e of of' = absurd (let f = of.bottom in omega (arith, ints))
below_by_upright v u v' u' d l k k' s s' x y x' y' apart a (pos b) c (negsuc e) of of' = absurd (let f = of'.bottom in omega (arith, ints))

pub left_by_left : (v u v' u' d l k k' s s' : ℕ) (x y x' y' : ℤ) → ((far y +ℤ pos (end l v s)) +ℤ fine d) ≤ℤ (far y' +ℤ pos (start l s'))
    → (a b c e : ℤ) → IsOfPage l (of_sides v u) (point a b) → IsOfPage l (of_sides v' u') (point c e)
    → ((stands (of_sides v u) (placed Left k s x y) (point a b)).y +ℤ fine d) ≤ℤ (stands (of_sides v' u') (placed Left k' s' x' y') (point c e)).y
left_by_left v u v' u' d l k k' s s' x y x' y' apart (pos a) b (pos c) e of of' =
    let h = (between l v s a (let f = of.left in omega (arith, ints)) (let f = of.right in omega (arith, ints))).end in
    let h' = (between l v' s' c (let f = of'.left in omega (arith, ints)) (let f = of'.right in omega (arith, ints))).start in
    omega (arith, ints)
left_by_left v u v' u' d l k k' s s' x y x' y' apart (negsuc a) b c e of of' = absurd (let f = of.left in omega (arith, ints))
left_by_left v u v' u' d l k k' s s' x y x' y' apart (pos a) b (negsuc c) e of of' = absurd (let f = of'.left in omega (arith, ints))

-- a number and that below 0 are as far from it
pub abs_neg : (z : ℤ) → nat_abs (neg_ℤ z) ≡ nat_abs z
abs_neg (pos zero) = refl
abs_neg (pos (suc n)) = refl
abs_neg (negsuc n) = refl

-- the one above the other, as one holds the sheet
pub above_by_left : (v u v' u' d l k k' s s' : ℕ) (x y x' y' : ℤ) → ((far x +ℤ pos (end l u' s')) +ℤ fine d) ≤ℤ (far x' +ℤ pos (start l s))
    → (a b c e : ℤ) → IsOfPage l (of_sides v' u') (point a b) → IsOfPage l (of_sides v u) (point c e)
    → (neg_ℤ (stands (of_sides v' u') (placed Left k' s' x' y') (point a b)).x +ℤ fine (nat_abs (neg_ℤ (pos d)))) ≤ℤ neg_ℤ (stands (of_sides v u) (placed Left k s x y) (point c e)).x
above_by_left v u v' u' d l k k' s s' x y x' y' apart a (pos b) c (pos e) of of' =
    let h = (between l u' s' b (let f = of.bottom in omega (arith, ints)) (let f = of.top in omega (arith, ints))).end in
    let h' = (between l u s e (let f = of'.bottom in omega (arith, ints)) (let f = of'.top in omega (arith, ints))).start in
    rw (abs_neg (pos d)) (omega (arith, ints))
above_by_left v u v' u' d l k k' s s' x y x' y' apart a (negsuc b) c e of of' = absurd (let f = of.bottom in omega (arith, ints))
above_by_left v u v' u' d l k k' s s' x y x' y' apart a (pos b) c (negsuc e) of of' = absurd (let f = of'.bottom in omega (arith, ints))
