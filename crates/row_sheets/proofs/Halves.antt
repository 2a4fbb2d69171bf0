-- Each page of a booklet lies in its half of a leaf, and the least of the gap is left.
use Rattle.std.proofs.Common.{arith, ◌≡◌, ℕ, suc, zero, ◌+◌, ◌-◌, ◌*◌, ◌<◌, ◌≤◌, Bool, true, false, true≢false, Option, Some, None, ap, length, map, refl, subst, sym}
use Rattle.std.specs.Prelude.{ℤ, pos, neg_ℤ, ◌+ℤ◌, ◌-ℤ◌, ◌*ℤ◌, nat_abs, not, if◌then◌else◌, slice_index_or}
use Rattle.std.specs.List.{range_with_len}
use Rattle.std.proofs.lemmas.Bool.{leb-true}
use Rattle.std.proofs.lemmas.Int.{ints}
use Rattle.rules.specs.Papers.{Paper}
use Rattle.rules.specs.Placement.{Point}
use Rattle.rules.specs.Specification.{Item}
use Rattle.layouts.specs.Placed.{IsEven, IsOfPage, Room, stands}
use Rattle.layouts.specs.Cells.{along_height, along_width, trimmed_side, high, kept_length, slack, slack_x, step_across, step_down, whole_parts, wide}
use Rattle.layouts.specs.Fitted.{fitted, fitted_back, scale_on}
use Rattle.layouts.specs.Grids.{beside}
use Rattle.layouts.specs.Laws.{Cell, IsHalfTurnOf, IsInMiddle, IsMean, LiesInCell}
use Rattle.layouts.proofs.AlongSide.{cells_fit}
use Rattle.layouts.proofs.Fitting.{fitted_stands, in_cell, one_of_many, scale_of_many, stands_back}
use Rattle.layouts.proofs.Folds.{kept_little}
use Rattle.layouts.proofs.InGrid.{fits}
use Rattle.rules.specs.Sheets.{blocks}
use Rattle.rules.specs.Made.{MadeSheet, MadeSlot}
use Rattle.row_sheets.specs.Creep.{AreHalves, creep_on, creeping, creeping_slot, moved_up, to_fold}
use Rattle.row_sheets.specs.Filled.{Filling, grid_entry, is_turned}
use Rattle.row_sheets.specs.Halves.{BookletLiesInHalves, CellIsOn, LiesInHalf, SlotLiesInHalf, creeping_half, half_of, moved_cell, turned_cell}
use Rattle.row_sheets.specs.Standing.{EntryCreeps, FitsOnLeaf}
use Rattle.row_sheets.proofs.Creeping.{halves, of_halves}
use Rattle.row_sheets.proofs.Leaves.{creep_moves}
use Rattle.row_sheets.proofs.OnLeaves.{Creeps, IsMoved, back_moves, creeps_on, one_of_two, slot_there}
use Rattle.row_sheets.proofs.OnSheets.{numbered}

-- ---- cells that are moved

-- a page lies in a cell, and in the middle of it
record LiesAt (trim : ℕ) (page : Paper) (c : Cell) (past : ℕ) (item : Item) : Type 0 where
  pub in_cell : (p : Point) → IsOfPage trim page p → LiesInCell c past (stands page item p)
  pub middle : IsInMiddle page c item

up_in : (c : Cell) (past creep : ℕ) (by : ℤ) (p q : Point) → by ≡ pos creep → q.x ≡ p.x → q.y ≡ p.y +ℤ (pos 1_270_000_000_000_000 *ℤ by) → LiesInCell c past p → LiesInCell (moved_cell true creep c) past q
up_in c past creep by p q is x y at =
    let l = at.left in let r = at.right in let b = at.bottom in let t = at.top in
    record { left = omega (arith, ints, x, l); right = omega (arith, ints, x, r); bottom = omega (arith, ints, is, y, b); top = omega (arith, ints, is, y, t) }

down_in : (c : Cell) (past creep : ℕ) (by : ℤ) (p q : Point) → creep ≤ c.bottom → by ≡ neg_ℤ (pos creep) → q.x ≡ p.x → q.y ≡ p.y +ℤ (pos 1_270_000_000_000_000 *ℤ by) → LiesInCell c past p → LiesInCell (moved_cell false creep c) past q
down_in c past creep by p q least is x y at =
    let l = at.left in let r = at.right in let b = at.bottom in let t = at.top in
    record { left = omega (arith, ints, x, l); right = omega (arith, ints, x, r); bottom = omega (arith, ints, least, is, y, b); top = omega (arith, ints, least, is, y, t) }

up_mean : (bottom height creep : ℕ) (by a b a' b' : ℤ) → by ≡ pos creep → a' ≡ a +ℤ (pos 1_270_000_000_000_000 *ℤ by) → b' ≡ b +ℤ (pos 1_270_000_000_000_000 *ℤ by) → IsMean (2 * bottom + height) a b → IsMean (2 * (bottom + creep) + height) a' b'
up_mean bottom height creep by a b a' b' is e f (most, least) = (omega (arith, ints, is, e, f, most), omega (arith, ints, is, e, f, least))

down_mean : (bottom height creep : ℕ) (by a b a' b' : ℤ) → creep ≤ bottom → by ≡ neg_ℤ (pos creep) → a' ≡ a +ℤ (pos 1_270_000_000_000_000 *ℤ by) → b' ≡ b +ℤ (pos 1_270_000_000_000_000 *ℤ by) → IsMean (2 * bottom + height) a b → IsMean (2 * (bottom - creep) + height) a' b'
down_mean bottom height creep by a b a' b' less is e f (most, least) = (omega (arith, ints, less, is, e, f, most), omega (arith, ints, less, is, e, f, least))

same_mean : (twice : ℕ) (a b a' b' : ℤ) → a' ≡ a → b' ≡ b → IsMean twice a b → IsMean twice a' b'
same_mean twice a b a' b' e f (most, least) = (omega (arith, ints, e, f, most), omega (arith, ints, e, f, least))

half_in : (W H past : ℕ) (c : Cell) (p q : Point) → c.left + c.width ≤ W → c.bottom + c.height ≤ H → q.x ≡ (pos 1_270_000_000_000_000 *ℤ pos W) -ℤ p.x → q.y ≡ (pos 1_270_000_000_000_000 *ℤ pos H) -ℤ p.y
    → LiesInCell c past p → LiesInCell (record { left = W - (c.left + c.width); bottom = H - (c.bottom + c.height); width = c.width; height = c.height }) past q
half_in W H past c p q across up x y at =
    let l = at.left in let r = at.right in let b = at.bottom in let t = at.top in
    record { left = omega (arith, ints, across, x, r); right = omega (arith, ints, across, x, l); bottom = omega (arith, ints, up, y, t); top = omega (arith, ints, up, y, b) }

half_mean : (W from long : ℕ) (a b a' b' : ℤ) → from + long ≤ W → a' ≡ (pos 1_270_000_000_000_000 *ℤ pos W) -ℤ a → b' ≡ (pos 1_270_000_000_000_000 *ℤ pos W) -ℤ b → IsMean (2 * from + long) a b → IsMean (2 * (W - (from + long)) + long) a' b'
half_mean W from long a b a' b' within e f (most, least) = (omega (arith, ints, within, e, f, least), omega (arith, ints, within, e, f, most))

abbrev corner : Point
corner = record { x = pos 0; y = pos 0 }

abbrev opposite : Paper → Point
opposite page = record { x = page.width; y = page.height }

-- a page that is moved towards the fold, up or down
moved_lies : (up : Bool) (trim past creep : ℕ) (page : Paper) (c : Cell) (item item' : Item) (by : ℤ) → by ≡ (if up then pos creep else neg_ℤ (pos creep)) → (up ≡ false → creep ≤ c.bottom) → IsMoved page item item' by
    → LiesAt trim page c past item → LiesAt trim page (moved_cell up creep c) past item'
moved_lies true trim past creep page c item item' by is least moved at = record {
  in_cell = λ p of. up_in c past creep by (stands page item p) (stands page item' p) is (moved p).0 (moved p).1 (at.in_cell p of);
  middle = record {
    across = same_mean (2 * c.left + c.width) (stands page item corner).x (stands page item (opposite page)).x (stands page item' corner).x (stands page item' (opposite page)).x (moved corner).0 (moved (opposite page)).0 at.middle.across;
    up = up_mean c.bottom c.height creep by (stands page item corner).y (stands page item (opposite page)).y (stands page item' corner).y (stands page item' (opposite page)).y is (moved corner).1 (moved (opposite page)).1 at.middle.up;
  };
}
moved_lies false trim past creep page c item item' by is least moved at = record {
  in_cell = λ p of. down_in c past creep by (stands page item p) (stands page item' p) (least refl) is (moved p).0 (moved p).1 (at.in_cell p of);
  middle = record {
    across = same_mean (2 * c.left + c.width) (stands page item corner).x (stands page item (opposite page)).x (stands page item' corner).x (stands page item' (opposite page)).x (moved corner).0 (moved (opposite page)).0 at.middle.across;
    up = down_mean c.bottom c.height creep by (stands page item corner).y (stands page item (opposite page)).y (stands page item' corner).y (stands page item' (opposite page)).y (least refl) is (moved corner).1 (moved (opposite page)).1 at.middle.up;
  };
}

-- and one that is turned by half
half_lies : (trim past : ℕ) (page sheet : Paper) (c : Cell) (item item' : Item) → c.left + c.width ≤ whole_parts (nat_abs sheet.width) → c.bottom + c.height ≤ whole_parts (nat_abs sheet.height) → IsHalfTurnOf page sheet item item'
    → LiesAt trim page c past item → LiesAt trim page (turned_cell sheet c) past item'
half_lies trim past page sheet c item item' across up half at =
    let W = whole_parts (nat_abs sheet.width) in
    let H = whole_parts (nat_abs sheet.height) in
    record {
      in_cell = λ p of. half_in W H past c (stands page item p) (stands page item' p) across up (half.across p) (half.up p) (at.in_cell p of);
      middle = record {
        across = half_mean W c.left c.width (stands page item corner).x (stands page item (opposite page)).x (stands page item' corner).x (stands page item' (opposite page)).x across (half.across corner) (half.across (opposite page)) at.middle.across;
        up = half_mean H c.bottom c.height (stands page item corner).y (stands page item (opposite page)).y (stands page item' corner).y (stands page item' (opposite page)).y up (half.up corner) (half.up (opposite page)) at.middle.up;
      };
    }

-- ---- the halves of a sheet

-- the lower half, and the upper one
abbrev column : (before : Bool) → ℕ
column before = if before then 0 else 1

-- in numbers: edges, what is kept of them, the steps between halves and their sides, the sheet, the creep and the gap
record Numbers (l r b t E F G H p w h W V c : ℕ) : Type 0 where
  pub beyond : c ≤ G + 1 * p
  pub behind : c ≤ V - (G + 0 * p + w)
  pub low : G + 0 * p + w ≤ V
  pub upper : G + 1 * p + w ≤ V
  pub left : (l ≤ E) × (E + h + r ≤ W)
  pub turned_left : (l ≤ W - (E + h)) × (W - (E + h) + h + r ≤ W)
  pub front_low : (b ≤ G + 0 * p + c) × (G + 0 * p + c + w + t ≤ V)
  pub front_upper : (b ≤ G + 1 * p - c) × (G + 1 * p - c + w + t ≤ V)
  pub back_low : (b ≤ V - (G + 0 * p + w) - c) × (V - (G + 0 * p + w) - c + w + t ≤ V)
  pub back_upper : (b ≤ V - (G + 1 * p + w) + c) × (V - (G + 1 * p + w) + c + w + t ≤ V)

in_numbers : (l r b t E F G H D D' p p' w h W V c gap : ℕ) → h ≡ p' - D' → w ≡ p - D → 0 < h → 0 < w → 1 * p' + (E + F) ≤ W + D' → 2 * p + (G + H) ≤ V + D → 2 * c ≤ w + gap → gap ≤ D
    → l ≡ r → b ≡ t → E ≡ F → G ≡ H → l ≤ E → b ≤ G → Numbers l r b t E F G H p w h W V c
in_numbers l r b t E F G H D D' p p' w h W V c gap is_h is_w some_h some_w across up less little even_l even_b even_E even_G edge_l edge_b = record {
  beyond = omega (arith, is_w, some_w, less, little);
  behind = omega (arith, is_w, some_w, up, less, little);
  low = omega (arith, is_w, some_w, up);
  upper = omega (arith, is_w, some_w, up);
  left = (edge_l, omega (arith, is_h, some_h, across, even_l, even_E, edge_l));
  turned_left = (omega (arith, is_h, some_h, across, even_E, edge_l), omega (arith, is_h, some_h, across, even_l, edge_l));
  front_low = (omega (arith, edge_b), omega (arith, is_w, some_w, up, less, little, even_b, even_G, edge_b));
  front_upper = (omega (arith, is_w, some_w, less, little, edge_b), omega (arith, is_w, some_w, up, even_b, even_G, edge_b));
  back_low = (omega (arith, is_w, some_w, up, less, little, even_G, edge_b), omega (arith, is_w, some_w, up, even_b, even_G, edge_b));
  back_upper = (omega (arith, is_w, some_w, up, even_G, edge_b), omega (arith, is_w, some_w, up, less, little, even_b, even_G, edge_b));
}

half_slack : (c side s : ℕ) → 2 * slack c side s ≤ c
half_slack c side s = omega arith

abbrev half_at : Room → (before : Bool) → Cell
half_at room before = half_of (halves room false None) (column before)

-- what holds of a sheet whose halves have room to creep so far
record HaveRoom (room : Room) (creep : ℕ) : Type 0 where
  pub across : (before : Bool) → (half_at room before).left + (half_at room before).width ≤ whole_parts (nat_abs room.paper.width)
  pub up : (before : Bool) → (half_at room before).bottom + (half_at room before).height ≤ whole_parts (nat_abs room.paper.height)
  pub beyond : creep ≤ (half_at room false).bottom
  pub behind : creep ≤ whole_parts (nat_abs room.paper.height) - ((half_at room true).bottom + (half_at room true).height)
  pub front : (before : Bool) → CellIsOn room (moved_cell before creep (half_at room before))
  pub back : (before : Bool) → CellIsOn room (moved_cell (not before) creep (turned_cell room.paper (half_at room before)))

have_room : (page : Paper) (room : Room) (b : Bool) (s creep : ℕ) → Creeps page room b s creep → HaveRoom room creep
have_room page room b s creep c =
    let f = fits page room (beside true) s c.place in
    let w = nat_abs room.paper.width in
    let h = nat_abs room.paper.height in
    let may = leb-true (2 * creep) (2 * slack_x page room (beside true) s + room.gutter_up) c.may in
    let less : 2 * creep ≤ wide room (beside true) + room.gutter_up = omega (arith, may, half_slack (wide room (beside true)) (trimmed_side room page.width) s) in
    let n = in_numbers room.left room.right room.bottom room.top (kept_length room.trim room.left) (kept_length room.trim room.right) (kept_length room.trim room.bottom) (kept_length room.trim room.top) (kept_length room.trim room.gutter_up) (kept_length room.trim room.gutter_across)
    (step_across room (beside true)) (step_down room (beside true)) (wide room (beside true)) (high room (beside true)) (whole_parts w) (whole_parts h) creep room.gutter_up refl refl f.some_high f.some_wide
    (cells_fit (along_width room) w 1 0 f.some_high (omega arith)) (cells_fit (along_height room) h 2 0 f.some_wide (omega arith)) less (kept_little room.trim room.gutter_up).0
    c.even.across c.even.up (ap (kept_length room.trim) c.even.across) (ap (kept_length room.trim) c.even.up) (kept_little room.trim room.left).0 (kept_little room.trim room.bottom).0 in
    let l = n.left in
    let l' = n.turned_left in
    record {
      across = either (λ c. c.left + c.width ≤ whole_parts w) (omega (arith, l)) (omega (arith, l));
      up = either (λ c. c.bottom + c.height ≤ whole_parts h) n.low n.upper;
      beyond = n.beyond;
      behind = n.behind;
      front = elim [
        | true ↦ record { left = omega (arith, l); right = omega (arith, l); bottom = n.front_low.0; top = n.front_low.1 }
        | false ↦ record { left = omega (arith, l); right = omega (arith, l); bottom = n.front_upper.0; top = n.front_upper.1 }
      ];
      back = elim [
        | true ↦ record { left = omega (arith, l'); right = omega (arith, l'); bottom = n.back_low.0; top = n.back_low.1 }
        | false ↦ record { left = omega (arith, l'); right = omega (arith, l'); bottom = n.back_upper.0; top = n.back_upper.1 }
      ];
    }
  where
    either : (P : Cell → Type 0) → P (half_at room true) → P (half_at room false) → (before : Bool) → P (half_at room before)
    either P low upper true = low
    either P low upper false = upper

-- ---- a page in its half

same_half : (room : Room) (b before : Bool) (asked : Option ℤ) → half_of (halves room b asked) (slot_there b before) ≡ half_at room before
same_half room true true asked = refl
same_half room true false asked = refl
same_half room false true asked = refl
same_half room false false asked = refl

at_rest : (before : Bool) (page : Paper) (room : Room) (b : Bool) (asked : Option ℤ) (creep : ℕ) → IsEven room → FitsOnLeaf (halves room b asked) page creep
    → LiesAt room.trim page (half_at room before) (kept_length room.trim 0) (fitted (halves room b asked) page (slot_there b before))
at_rest before page room b asked creep even has =
    let t = halves room b asked in
    let k = slot_there b before in
    let less = one_of_two b before in
    let free = (creeps_on page room b asked creep even has).0 in
    let not = one_of_many t page (omega arith) in
    let at = fitted_stands t page k has.page_is has.sheet_is (omega (arith, less)) free in
    subst (λ (c : Cell). LiesAt room.trim page c (kept_length room.trim 0) (fitted t page k)) (same_half room b before asked)
    (record { in_cell = subst (λ n. (p : Point) → IsOfPage room.trim page p → LiesInCell (half_of t k) n (stands page (fitted t page k) p)) (ap (λ w. if w then 1 else kept_length room.trim 0) not) at.in_cell; middle = at.middle })

pub front_by : (b before : Bool) (creep : ℕ) → to_fold b (slot_there b before) creep ≡ (if before then pos creep else neg_ℤ (pos creep))
front_by true true creep = refl
front_by false true creep = refl
front_by true false creep = let e : pos 0 -ℤ pos creep ≡ neg_ℤ (pos creep) = omega (arith, ints) in e
front_by false false creep = let e : pos 0 -ℤ pos creep ≡ neg_ℤ (pos creep) = omega (arith, ints) in e

pub back_by : (before : Bool) (by : ℤ) (creep : ℕ) → by ≡ (if before then pos creep else neg_ℤ (pos creep)) → neg_ℤ by ≡ (if not before then pos creep else neg_ℤ (pos creep))
back_by true by creep e = ap neg_ℤ e
back_by false by creep e = let is : by ≡ neg_ℤ (pos creep) = e in let so : neg_ℤ by ≡ pos creep = omega (arith, ints, is) in so

front_half : (room : Room) (b before : Bool) (asked : Option ℤ) (creep : ℕ) → moved_cell before creep (half_at room before) ≡ creeping_half (halves room b asked) false (slot_there b before) creep
front_half room true true asked creep = refl
front_half room true false asked creep = refl
front_half room false true asked creep = refl
front_half room false false asked creep = refl

back_half : (room : Room) (b before : Bool) (asked : Option ℤ) (creep : ℕ)
    → moved_cell (not before) creep (turned_cell room.paper (half_at room before)) ≡ creeping_half (halves room b asked) true (slot_there b before) creep
back_half room true true asked creep = refl
back_half room true false asked creep = refl
back_half room false true asked creep = refl
back_half room false false asked creep = refl

beyond_there : (room : Room) (creep : ℕ) (before : Bool) → HaveRoom room creep → before ≡ false → creep ≤ (half_at room before).bottom
beyond_there room creep before r e = subst (λ b. creep ≤ (half_at room b).bottom) (sym e) r.beyond

behind_there : (room : Room) (creep : ℕ) (before : Bool) → HaveRoom room creep → not before ≡ false → creep ≤ (turned_cell room.paper (half_at room before)).bottom
behind_there room creep true r e = r.behind
behind_there room creep false r e = absurd (true≢false e)

in_front : (before : Bool) (page : Paper) (room : Room) (b : Bool) (asked : Option ℤ) (creep : ℕ) → IsEven room → FitsOnLeaf (halves room b asked) page creep
    → LiesInHalf (halves room b asked) false (slot_there b before) creep page (creeping (halves room b asked) false page (slot_there b before) creep)
in_front before page room b asked creep even has =
    let t = halves room b asked in
    let k = slot_there b before in
    let c = creeps_on page room b asked creep even has in
    let r = have_room page room b (scale_on t page) creep c.1 in
    let is = (in_cell t page k k (one_of_many t page (omega arith)) c.0).0 in
    let by = to_fold b k creep in
    let moved = subst (λ (i : Item). IsMoved page i (moved_up by i) by) (sym is) (creep_moves page room b (scale_on t page) creep k) in
    let at = subst (λ (x : Cell). LiesAt room.trim page x (kept_length room.trim 0) (creeping t false page k creep)) (front_half room b before asked creep)
    (moved_lies before room.trim (kept_length room.trim 0) creep page (half_at room before) (fitted t page k) (creeping t false page k creep) by (front_by b before creep) (beyond_there room creep before r) moved
    (at_rest before page room b asked creep even has)) in
    record { turn = ap (λ (i : Item). i.turn) is; is_on = subst (CellIsOn room) (front_half room b before asked creep) (r.front before); in_cell = at.in_cell; middle = at.middle }

in_back : (before : Bool) (page : Paper) (room : Room) (b : Bool) (asked : Option ℤ) (creep : ℕ) → IsEven room → FitsOnLeaf (halves room b asked) page creep
    → LiesInHalf (halves room b asked) true (slot_there b before) creep page (creeping (halves room b asked) true page (slot_there b before) creep)
in_back before page room b asked creep even has =
    let t = halves room b asked in
    let k = slot_there b before in
    let less = one_of_two b before in
    let c = creeps_on page room b asked creep even has in
    let r = have_room page room b (scale_on t page) creep c.1 in
    let half = (stands_back t page k has.page_is has.sheet_is (omega (arith, less)) (scale_of_many t page (omega arith) c.0)).turned (one_of_many t page (omega arith)) in
    let here = half_at room before in
    let at = subst (λ (x : Cell). LiesAt room.trim page x (kept_length room.trim 0) (creeping t true page k creep)) (back_half room b before asked creep)
    (moved_lies (not before) room.trim (kept_length room.trim 0) creep page (turned_cell room.paper here) (fitted_back t page k) (creeping t true page k creep) (neg_ℤ (to_fold b k creep)) (back_by before (to_fold b k creep) creep (front_by b before creep)) (behind_there room creep before r)
    (back_moves page room b (scale_on t page) creep k)
    (half_lies room.trim (kept_length room.trim 0) page room.paper here (fitted t page k) (fitted_back t page k) (r.across before) (r.up before) half (at_rest before page room b asked creep even has))) in
    record { turn = refl; is_on = subst (CellIsOn room) (back_half room b before asked creep) (r.back before); in_cell = at.in_cell; middle = at.middle }

page_lies : (page : Paper) (room : Room) (b : Bool) (asked : Option ℤ) (by_half : Bool) (k creep : ℕ) → k < 2 → IsEven room → FitsOnLeaf (halves room b asked) page creep
    → LiesInHalf (halves room b asked) by_half k creep page (creeping (halves room b asked) by_half page k creep)
page_lies page room false asked false zero creep less even has = in_front true page room false asked creep even has
page_lies page room false asked false (suc zero) creep less even has = in_front false page room false asked creep even has
page_lies page room true asked false zero creep less even has = in_front false page room true asked creep even has
page_lies page room true asked false (suc zero) creep less even has = in_front true page room true asked creep even has
page_lies page room false asked true zero creep less even has = in_back true page room false asked creep even has
page_lies page room false asked true (suc zero) creep less even has = in_back false page room false asked creep even has
page_lies page room true asked true zero creep less even has = in_back false page room true asked creep even has
page_lies page room true asked true (suc zero) creep less even has = in_back true page room true asked creep even has
page_lies page room b asked by_half (suc (suc k)) creep less even has = absurd (omega (arith, less))

pub slot_lies : (f : Filling) (by_half : Bool) (k creep : ℕ) (entry : Option ℕ) → k < 2 → AreHalves f.setting → EntryCreeps f creep entry → SlotLiesInHalf f.setting by_half k creep (creeping_slot f by_half k creep entry)
slot_lies f by_half k creep None less halved has = tt
slot_lies f by_half k creep (Some page) less halved has =
    let paper = f.paper_of page in
    of_halves (λ t. FitsOnLeaf t paper creep → LiesInHalf t by_half k creep paper (creeping t by_half paper k creep)) f.setting halved
    (page_lies paper f.setting.room f.setting.order.right_to_left f.setting.scale by_half k creep less halved.even) has

pub booklet_lies_in_halves : BookletLiesInHalves
booklet_lies_in_halves f turned_backs creep leaves row halved fit s k sheet d less within =
    let half : ℕ → Bool = λ s. is_turned turned_backs s in
    let by : ℕ → ℕ = λ s. creep_on creep leaves s in
    let slot : ℕ → ℕ → MadeSlot = λ s k. creeping_slot f (half s) k (by s) (grid_entry 2 row s k) in
    numbered (λ s (x : MadeSheet). (k : ℕ) (d : MadeSlot) → k < length x.slots → SlotLiesInHalf f.setting (half s) k (by s) (slice_index_or x.slots k d))
    (λ s. record { paper = f.setting.room.paper; slots = map (slot s) (range_with_len 0 2) }) (blocks 2 (length row))
    (λ s below. numbered (λ k x. SlotLiesInHalf f.setting (half s) k (by s) x) (slot s) 2 (λ k in_k. slot_lies f (half s) k (by s) (grid_entry 2 row s k) in_k halved (fit s k in_k))) s sheet less k d within
