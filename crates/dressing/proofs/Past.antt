-- Marks go over no page.
use Rattle.std.proofs.Common.{arith, ◌≡◌, ℕ, zero, suc, ◌+◌, inl, inr, List, [], ◌∷◌, refl, subst}
use Rattle.std.specs.Prelude.{ℤ, pos, ◌+ℤ◌, ◌≤ℤ◌, if◌then◌else◌, ◌==◌}
use Rattle.std.specs.List.{AllByRecursion}
use Rattle.std.proofs.lemmas.Int.{ints}
use Rattle.rules.specs.Papers.{Paper}
use Rattle.rules.specs.Placement.{Point}
use Rattle.rules.specs.Specification.{Item}
use Rattle.layouts.specs.Placed.{Room, fine, stands}
use Rattle.layouts.specs.Cells.{item_in_cell, row_of, column_of, grains_in}
use Rattle.layouts.specs.Laws.{Cell, LiesInCell, IsInCell as HoldsPage, cell_at}
use Rattle.layouts.proofs.InCell.{grid_in_cell}
use Rattle.layouts.proofs.InGrid.{fits}
use Rattle.layouts.proofs.InOrder.{place_fits}
use Rattle.dressing.specs.Laws.{GoesPast, IsOutsideCell, IsPast, MarksMissPages, all_marks, in_billionths}
use Rattle.dressing.specs.declared.strokes.Stroke.{Stroke}
use Rattle.dressing.proofs.Outside.{marks_are_outside}

-- a number of grains that is no farther than so many 10^-5 of a point, and one that is no nearer
no_farther : (a : ℤ) (n : ℕ) (z : ℤ) → a ≤ℤ pos (grains_in n) → fine n ≤ℤ (z +ℤ fine 0) → in_billionths a ≤ℤ z
no_farther a n z h from = omega (arith, ints, h, from)

no_nearer : (a : ℤ) (n : ℕ) (z : ℤ) → pos (grains_in n) ≤ℤ a → z ≤ℤ fine (n + 0) → z ≤ℤ in_billionths a
no_nearer a n z h to = omega (arith, ints, h, to)

-- what goes over nothing of a cell goes over no point in it
past : (cell : Cell) (s : Stroke) (p : Point) → LiesInCell cell 0 p → IsOutsideCell cell s → IsPast s p
past cell s p lies (inl (inl at)) = inl (inl (no_farther s.start.0 cell.left p.x at.0 lies.left, no_farther s.end.0 cell.left p.x at.1 lies.left))
past cell s p lies (inl (inr at)) =
    let n = cell.left + cell.width in inl (inr (no_nearer s.start.0 n p.x at.0 lies.right, no_nearer s.end.0 n p.x at.1 lies.right))
past cell s p lies (inr (inl at)) = inr (inl (no_farther s.start.1 cell.bottom p.y at.0 lies.bottom, no_farther s.end.1 cell.bottom p.y at.1 lies.bottom))
past cell s p lies (inr (inr at)) =
    let n = cell.bottom + cell.height in inr (inr (no_nearer s.start.1 n p.y at.0 lies.top, no_nearer s.end.1 n p.y at.1 lies.top))

all_past : (room : Room) (page : Paper) (item : Item) (cell : Cell) (strokes : List Stroke) → HoldsPage room page cell 0 item → AllByRecursion (IsOutsideCell cell) strokes → AllByRecursion (GoesPast room page item) strokes
all_past room page item cell [] held h = tt
all_past room page item cell (s ∷ strokes) held h =
    (λ p of. past cell s (stands page item p) (held p of) h.0, all_past room page item cell strokes held h.1)

-- nothing is rounded if nothing is trimmed
kept_none : (trim : ℕ) → trim ≡ 0 → (if trim == 0 then 0 else 0 + 1) ≡ 0
kept_none zero e = refl
kept_none (suc trim) e = absurd (omega (arith, e))

pub marks_miss_pages : MarksMissPages
marks_miss_pages page room g o s k is place trim within =
    let row = row_of o g k in
    let column = column_of o g k in
    let item = item_in_cell page room g o s k in
    let cell = cell_at room g row column in
    let some = fits page room g s place in
    let fit = place_fits o.run o.right_to_left o.turned g k within in
    all_past room page item cell (all_marks room g)
    (subst (λ n. HoldsPage room page cell n item) (kept_none room.trim trim) (grid_in_cell page room g o s k is place))
    (marks_are_outside room g row column some.some_wide some.some_high fit.0 fit.1)
