-- Turned pages keep the room of their side.
use Rattle.std.proofs.Common.{arith, ◌≡◌, ◌∙◌, inl, inr, ℕ, suc, ◌+◌, ◌-◌, ◌*◌, ◌<◌, ◌≤◌, Bool, true, false, List, Option, Some, None, ap, ap₂, refl, subst, sym, length, map}
use Rattle.std.specs.Prelude.{⊤, ℤ, pos, ◌+ℤ◌, ◌≤ℤ◌, nat_abs, All, AllPairs, ◌==◌, ◌%◌, if◌then◌else◌, slice_index_or}
use Rattle.std.specs.List.{range_with_len}
use Rattle.std.proofs.Math.Nat.{mul-le-mul_right, suc-mul}
use Rattle.std.proofs.lemmas.Bool.{cond-false}
use Rattle.std.proofs.lemmas.Int.{ints}
use Rattle.std.proofs.lemmas.List.{get_or-map, length-map}
use Rattle.std.proofs.lemmas.List.FromFn.{get_or-map-range_with_len, length-map-range_with_len}
use Rattle.rules.specs.Papers.{Paper}
use Rattle.rules.specs.Placement.{Point}
use Rattle.rules.specs.Specification.{Item, Measure, Turn, Upright, Left, Half, Right}
use Rattle.rules.specs.Made.{MadeSlot, Blank, Placed, MadeSheet}
use Rattle.layouts.specs.declared.setting.Setting.{Setting}
use Rattle.layouts.specs.Placed.{AreApart, ComesFirst, IsOfPage, Room, across, fine, stands, upward}
use Rattle.layouts.specs.Cells.{Along, along_height, along_width, cell, column_of, high, in_points, item_in_cell, kept_length, row_of, size, pitch, turn_in, whole_parts, wide}
use Rattle.layouts.specs.Fitted.{fitted, is_whole, past_cell, scale_on}
use Rattle.layouts.specs.Grids.{page_alone}
use Rattle.layouts.specs.Laws.{Cell, IsPaper, LiesInCell, cell_at}
use Rattle.layouts.proofs.AlongSide.{cells_fit}
use Rattle.layouts.proofs.Fitting.{in_cell}
use Rattle.layouts.proofs.InGrid.{fits, on_sheet, sides_are}
use Rattle.layouts.proofs.InOrder.{place_fits}
use Rattle.layouts.proofs.Sides.{LiesIn}
use Rattle.row_sheets.specs.Filled.{Filling, SlotIsInside, SlotsAreApart, filled, slot_in_cell}
use Rattle.row_sheets.specs.Halves.{CellIsOn}
use Rattle.row_sheets.specs.Standing.{AllStand, EntryFits, StandsInRoom}
use Rattle.row_runs.specs.SwappedMargins.{IsInPoints, exchanged, swapped_room_on, swapped, moved_sheet, moved_slot, swap_shift}
use Rattle.row_runs.specs.Turning.{turned_item, turned_paper, turned_sheet, turned_slot}
use Rattle.row_runs.specs.Written.{KeepRoom, SlotIsInCell, side_room}
use Rattle.row_runs.proofs.Backs.{filled_in_points, fused, side_stands}
use Rattle.row_runs.proofs.Boxes.{Box, box_at, from_start, paper_of, point}
use Rattle.row_runs.proofs.InCells.{IsMoved, swapped_room_of, moved_by, moved_cell, moved_too, numbered, on_side, sheet_is}
use Rattle.row_runs.proofs.Written.{count_is}

-- ---- a cell is on what the margins leave

kept_least : (b : Bool) (n : ℕ) → n ≤ (if b then n else n + 1)
kept_least true n = omega arith
kept_least false n = omega arith

along_in : (a : Along) (w c j : ℕ) → 0 < cell a w c → j < c
    → (a.before ≤ kept_length a.trim a.before + j * pitch a w c) × (kept_length a.trim a.before + j * pitch a w c + cell a w c + a.after ≤ whole_parts w)
along_in a w c j some less =
    let all = cells_fit a w c j some less in
    let one : suc j * pitch a w c ≤ c * pitch a w c = mul-le-mul_right (pitch a w c) (omega (arith, less)) in
    let is = suc-mul j (pitch a w c) in
    let before = kept_least (a.trim == 0) a.before in
    let after = kept_least (a.trim == 0) a.after in
    (omega (arith, before), omega (arith, all, one, is, after, some))

cell_in : (room : Room) (rows columns : ℕ) (b : Bool) (row column : ℕ) → 0 < wide room (record { rows = rows; columns = columns; turned = b }) → 0 < high room (record { rows = rows; columns = columns; turned = b })
    → row < rows → column < columns → CellIsOn room (cell_at room (record { rows = rows; columns = columns; turned = b }) row column)
cell_in room rows columns false row column some_wide some_high in_rows in_columns =
    let x = along_in (along_width room) (nat_abs room.paper.width) columns column some_wide in_columns in
    let y = along_in (along_height room) (nat_abs room.paper.height) rows (rows - (row + 1)) some_high (omega (arith, in_rows)) in
    record { left = x.0; right = x.1; bottom = y.0; top = y.1 }
cell_in room rows columns true row column some_wide some_high in_rows in_columns =
    let x = along_in (along_width room) (nat_abs room.paper.width) rows row some_high in_rows in
    let y = along_in (along_height room) (nat_abs room.paper.height) columns column some_wide in_columns in
    record { left = x.0; right = x.1; bottom = y.0; top = y.1 }

moved_in : (room : Room) (c c' : Cell) → IsMoved room c c' → CellIsOn room c → CellIsOn (exchanged room) c'
moved_in room c c' is h =
    let l = is.left in let b = is.bottom in let w = is.width in let t = is.height in
    let left = h.left in let right = h.right in let bottom = h.bottom in let top = h.top in
    record { left = omega (arith, l, left); right = omega (arith, l, w, right); bottom = omega (arith, b, bottom); top = omega (arith, b, t, top) }

either_in : (back : Bool) (t : Setting) (c : ℕ) → CellIsOn t.room (cell_at t.room t.grid (row_of t.order t.grid c) (column_of t.order t.grid c))
    → CellIsOn (if back then exchanged t.room else t.room) (cell_at (if back then exchanged t.room else t.room) t.grid (row_of t.order t.grid c) (column_of t.order t.grid c))
either_in true t c h = moved_in t.room _ _ (moved_cell t.room t.grid.rows t.grid.columns t.grid.turned (row_of t.order t.grid c) (column_of t.order t.grid c)) h
either_in false t c h = h

side_in : (m : Bool) (t : Setting) (s c : ℕ) → CellIsOn t.room (cell_at t.room t.grid (row_of t.order t.grid c) (column_of t.order t.grid c))
    → CellIsOn (side_room m t.room s) (cell_at (side_room m t.room s) t.grid (row_of t.order t.grid c) (column_of t.order t.grid c))
side_in true t s c h = either_in (s % 2 == 1) t c h
side_in false t s c h = h

pub inside : (room : Room) (c : Cell) (p : Point) → IsPaper room.paper → CellIsOn room c → LiesInCell c 0 p → LiesIn room p
inside room c p on is at =
    let l = is.left in let r = is.right in let b = is.bottom in let t = is.top in
    let left = at.left in let right = at.right in let bottom = at.bottom in let top = at.top in
    record { left = omega (arith, ints, l, left); right = omega (arith, ints, r, right); bottom = omega (arith, ints, b, bottom); top = omega (arith, ints, t, top) }

same_paper : (m : Bool) (room : Room) (s : ℕ) → (side_room m room s).paper ≡ room.paper
same_paper true room s = of_either (s % 2 == 1)
  where
    of_either : (back : Bool) → (if back then exchanged room else room).paper ≡ room.paper
    of_either true = refl
    of_either false = refl
same_paper false room s = refl

-- a slot that lies in its cell is inside
slot_inside : (turn : ℕ → Turn) (t : Setting) (room : Room) (c : ℕ) (slot : MadeSlot) → IsPaper room.paper → t.room.trim ≡ 0 → ((page : Paper) → is_whole t page ≡ false)
    → CellIsOn room (cell_at room t.grid (row_of t.order t.grid c) (column_of t.order t.grid c)) → SlotIsInCell turn t room c slot → SlotIsInside room slot
slot_inside turn t room c Blank on none not is lies = tt
slot_inside turn t room c (Placed page item paper) on none not is lies = λ p of.
    on_sheet room (stands paper item p) on
    (inside room (cell_at room t.grid (row_of t.order t.grid c) (column_of t.order t.grid c)) (stands paper item p) on is
    (subst (λ n. LiesInCell (cell_at room t.grid (row_of t.order t.grid c) (column_of t.order t.grid c)) n (stands paper item p)) past (lies p of)))
  where
    zero_of : (l n : ℕ) → l ≡ 0 → kept_length l n ≡ n
    zero_of l n e = ap (λ k. kept_length k n) e

    past : kept_length t.room.trim (past_cell t (turned_paper (turn page) paper)) ≡ 0
    past = zero_of t.room.trim _ none ∙ cond-false (is_whole t (turned_paper (turn page) paper)) 1 (kept_length t.room.trim 0) (not (turned_paper (turn page) paper)) ∙ zero_of t.room.trim 0 none

side_inside : (m : Bool) (turn : ℕ → Turn) (f : Filling) (s c : ℕ) (entry : Option ℕ) → c < size f.setting.grid → f.setting.room.trim ≡ 0 → ((page : Paper) → is_whole f.setting page ≡ false) → EntryFits f entry
    → SlotIsInside (side_room m f.setting.room s) (turned_slot turn (moved_slot (swapped_room_on (swapped_room_of m f.setting.room) s) (slot_in_cell f c entry)))
side_inside m turn f s c None within none not has = tt
side_inside m turn f s c (Some page) within none not has =
    let t = f.setting in
    let paper = f.paper_of page in
    let place = (in_cell t paper c 0 (not paper) has.fits).1 in
    let room = fits paper t.room t.grid (scale_on t paper) place in
    let at = place_fits t.order.run t.order.right_to_left t.order.turned t.grid c within in
    let is = cell_in t.room t.grid.rows t.grid.columns t.grid.turned (row_of t.order t.grid c) (column_of t.order t.grid c) room.some_wide room.some_high at.0 at.1 in
    slot_inside turn t (side_room m t.room s) c (turned_slot turn (moved_slot (swapped_room_on (swapped_room_of m t.room) s) (slot_in_cell f c (Some page)))) (subst IsPaper (sym (same_paper m t.room s)) has.sheet_is) none not (side_in m t s c is)
    (on_side m turn f s c (Some page) within has)

-- ---- pages that are apart

-- by whole 10^-5 of a point, and with sides
pub record IsMovedByWhole (turn : Turn) (page : Paper) (item : Item) : Type 0 where
  pub sides : IsPaper page
  pub turned_so : item.turn ≡ turn
  pub scale : ℕ
  pub scale_is : item.scale ≡ pos scale
  pub x : ℤ
  pub y : ℤ
  pub x_is : item.x ≡ in_points x
  pub y_is : item.y ≡ in_points y

pub box : (turn t : Turn) (page : Paper) (item : Item) → IsMovedByWhole t page item → Box t page item turn
box turn t page item is =
    let w = nat_abs page.width in
    let h = nat_abs page.height in
    let same_page : paper_of (pos w) (pos h) ≡ page = sym (sides_are page is.sides) in
    let same_item : record { page = item.page; from_end = item.from_end; turn = t; scale = pos is.scale; x = in_points is.x; y = in_points is.y } ≡ item =
    ap₂ (λ (u : Turn) (z : ℤ). record { page = item.page; from_end = item.from_end; turn = u; scale = z; x = in_points is.x; y = in_points is.y }) (sym is.turned_so) (sym is.scale_is)
    ∙ ap₂ (λ (a b : Measure). record { page = item.page; from_end = item.from_end; turn = item.turn; scale = item.scale; x = a; y = b }) (sym is.x_is) (sym is.y_is) in
    subst (λ (q : Paper). Box t q item turn) same_page
    (subst (λ (i : Item). Box t (paper_of (pos w) (pos h)) i turn) same_item
    (box_at turn t item.page item.from_end is.x is.y w h is.scale))

-- of two boxes of one turn, of which one comes first, it still does if both are longer, each to whole 10^-5 of a point
first_across : (t : Turn) (x y x' y' : ℤ) (n m l k n' m' l' k' gap : ℕ) (a b a' b' : ℤ) → 1_270_000_000_000_000 * l < n + 1_270_000_000_000_000 → 1_270_000_000_000_000 * k < m + 1_270_000_000_000_000
    → 1_270_000_000_000_000 * l' < n' + 1_270_000_000_000_000 → 1_270_000_000_000_000 * k' < m' + 1_270_000_000_000_000
    → ((from_start t x y (point (pos 0) (pos 0))).x +ℤ fine gap) ≤ℤ (from_start t x' y' (point (pos n') (pos m'))).x → ((from_start t x y (point (pos n) (pos m))).x +ℤ fine gap) ≤ℤ (from_start t x' y' (point (pos 0) (pos 0))).x
    → pos 0 ≤ℤ a → a ≤ℤ fine l → pos 0 ≤ℤ b → b ≤ℤ fine k → pos 0 ≤ℤ a' → a' ≤ℤ fine l' → pos 0 ≤ℤ b' → b' ≤ℤ fine k'
    → ((from_start t x y (point a b)).x +ℤ fine gap) ≤ℤ (from_start t x' y' (point a' b')).x
first_across Upright x y x' y' n m l k n' m' l' k' gap a b a' b' wide high wide' high' h i a0 a1 b0 b1 c0 c1 d0 d1 = omega (arith, ints, i, wide, a1, c0)
first_across Left x y x' y' n m l k n' m' l' k' gap a b a' b' wide high wide' high' h i a0 a1 b0 b1 c0 c1 d0 d1 = omega (arith, ints, h, high', b0, d1)
first_across Half x y x' y' n m l k n' m' l' k' gap a b a' b' wide high wide' high' h i a0 a1 b0 b1 c0 c1 d0 d1 = omega (arith, ints, h, wide', a0, c1)
first_across Right x y x' y' n m l k n' m' l' k' gap a b a' b' wide high wide' high' h i a0 a1 b0 b1 c0 c1 d0 d1 = omega (arith, ints, i, high, b1, d0)

first_up : (t : Turn) (x y x' y' : ℤ) (n m l k n' m' l' k' gap : ℕ) (a b a' b' : ℤ) → 1_270_000_000_000_000 * l < n + 1_270_000_000_000_000 → 1_270_000_000_000_000 * k < m + 1_270_000_000_000_000
    → 1_270_000_000_000_000 * l' < n' + 1_270_000_000_000_000 → 1_270_000_000_000_000 * k' < m' + 1_270_000_000_000_000
    → ((from_start t x y (point (pos 0) (pos 0))).y +ℤ fine gap) ≤ℤ (from_start t x' y' (point (pos n') (pos m'))).y → ((from_start t x y (point (pos n) (pos m))).y +ℤ fine gap) ≤ℤ (from_start t x' y' (point (pos 0) (pos 0))).y
    → pos 0 ≤ℤ a → a ≤ℤ fine l → pos 0 ≤ℤ b → b ≤ℤ fine k → pos 0 ≤ℤ a' → a' ≤ℤ fine l' → pos 0 ≤ℤ b' → b' ≤ℤ fine k'
    → ((from_start t x y (point a b)).y +ℤ fine gap) ≤ℤ (from_start t x' y' (point a' b')).y
first_up Upright x y x' y' n m l k n' m' l' k' gap a b a' b' wide high wide' high' h i a0 a1 b0 b1 c0 c1 d0 d1 = omega (arith, ints, i, high, b1, d0)
first_up Left x y x' y' n m l k n' m' l' k' gap a b a' b' wide high wide' high' h i a0 a1 b0 b1 c0 c1 d0 d1 = omega (arith, ints, i, wide, a1, c0)
first_up Half x y x' y' n m l k n' m' l' k' gap a b a' b' wide high wide' high' h i a0 a1 b0 b1 c0 c1 d0 d1 = omega (arith, ints, h, high', b0, d1)
first_up Right x y x' y' n m l k n' m' l' k' gap a b a' b' wide high wide' high' h i a0 a1 b0 b1 c0 c1 d0 d1 = omega (arith, ints, h, wide', a0, c1)

stays_across : (turn turn' t : Turn) (room : Room) (page page' : Paper) (one other : Item) → room.trim ≡ 0 → Box t page one turn → Box t page' other turn' → ComesFirst across room page one page' other
    → ComesFirst across room (turned_paper turn page) (turned_item turn page one) (turned_paper turn' page') (turned_item turn' page' other)
stays_across turn turn' t room page page' one other none b b' h p q of of' =
    let on : (o : Paper) (r : Point) → IsOfPage room.trim o r → IsOfPage 0 o r = λ o r. subst (λ l. IsOfPage l o r) none in
    let off : (o : Paper) (r : Point) → IsOfPage 0 o r → IsOfPage room.trim o r = λ o r. subst (λ l. IsOfPage l o r) (sym none) in
    let u = b.all p (on (turned_paper turn page) p of) in
    let v = b'.all q (on (turned_paper turn' page') q of') in
    let le : Point → Point → Type 0 = λ r s. (r.x +ℤ fine room.gutter_across) ≤ℤ s.x in
    let before = subst (λ r. le r (from_start t b'.x b'.y (point (pos b'.n) (pos b'.m)))) b.first.2 (subst (le (stands page one b.first.0)) b'.last.2 (h b.first.0 b'.last.0 (off page b.first.0 b.first.1) (off page' b'.last.0 b'.last.1))) in
    let after = subst (λ r. le r (from_start t b'.x b'.y (point (pos 0) (pos 0)))) b.last.2 (subst (le (stands page one b.last.0)) b'.first.2 (h b.last.0 b'.first.0 (off page b.last.0 b.last.1) (off page' b'.first.0 b'.first.1))) in
    subst (λ r. le r (stands (turned_paper turn' page') (turned_item turn' page' other) q)) (sym u.is)
    (subst (le (from_start t b.x b.y (point u.a u.b))) (sym v.is)
    (first_across t b.x b.y b'.x b'.y b.n b.m b.l b.k b'.n b'.m b'.l b'.k room.gutter_across u.a u.b v.a v.b b.wide b.high b'.wide b'.high before after u.left u.right u.bottom u.top v.left v.right v.bottom v.top))

stays_up : (turn turn' t : Turn) (room : Room) (page page' : Paper) (one other : Item) → room.trim ≡ 0 → Box t page one turn → Box t page' other turn' → ComesFirst upward room page one page' other
    → ComesFirst upward room (turned_paper turn page) (turned_item turn page one) (turned_paper turn' page') (turned_item turn' page' other)
stays_up turn turn' t room page page' one other none b b' h p q of of' =
    let on : (o : Paper) (r : Point) → IsOfPage room.trim o r → IsOfPage 0 o r = λ o r. subst (λ l. IsOfPage l o r) none in
    let off : (o : Paper) (r : Point) → IsOfPage 0 o r → IsOfPage room.trim o r = λ o r. subst (λ l. IsOfPage l o r) (sym none) in
    let u = b.all p (on (turned_paper turn page) p of) in
    let v = b'.all q (on (turned_paper turn' page') q of') in
    let le : Point → Point → Type 0 = λ r s. (r.y +ℤ fine room.gutter_up) ≤ℤ s.y in
    let before = subst (λ r. le r (from_start t b'.x b'.y (point (pos b'.n) (pos b'.m)))) b.first.2 (subst (le (stands page one b.first.0)) b'.last.2 (h b.first.0 b'.last.0 (off page b.first.0 b.first.1) (off page' b'.last.0 b'.last.1))) in
    let after = subst (λ r. le r (from_start t b'.x b'.y (point (pos 0) (pos 0)))) b.last.2 (subst (le (stands page one b.last.0)) b'.first.2 (h b.last.0 b'.first.0 (off page b.last.0 b.last.1) (off page' b'.first.0 b'.first.1))) in
    subst (λ r. le r (stands (turned_paper turn' page') (turned_item turn' page' other) q)) (sym u.is)
    (subst (le (from_start t b.x b.y (point u.a u.b))) (sym v.is)
    (first_up t b.x b.y b'.x b'.y b.n b.m b.l b.k b'.n b'.m b'.l b'.k room.gutter_up u.a u.b v.a v.b b.wide b.high b'.wide b'.high before after u.left u.right u.bottom u.top v.left v.right v.bottom v.top))

still_apart : (turn turn' t : Turn) (room : Room) (page page' : Paper) (one other : Item) → room.trim ≡ 0 → Box t page one turn → Box t page' other turn' → AreApart room page one page' other
    → AreApart room (turned_paper turn page) (turned_item turn page one) (turned_paper turn' page') (turned_item turn' page' other)
still_apart turn turn' t room page page' one other none b b' (inl (inl h)) = inl (inl (stays_across turn turn' t room page page' one other none b b' h))
still_apart turn turn' t room page page' one other none b b' (inl (inr h)) = inl (inr (stays_across turn' turn t room page' page other one none b' b h))
still_apart turn turn' t room page page' one other none b b' (inr (inl h)) = inr (inl (stays_up turn turn' t room page page' one other none b b' h))
still_apart turn turn' t room page page' one other none b b' (inr (inr h)) = inr (inr (stays_up turn' turn t room page' page other one none b' b h))

unfoldable pub SlotIsWhole : Turn → MadeSlot → Type 0
SlotIsWhole t Blank = ⊤
SlotIsWhole t (Placed page item paper) = IsMovedByWhole t paper item

slots_apart : (turn : ℕ → Turn) (t : Turn) (room : Room) (a b : MadeSlot) → room.trim ≡ 0 → SlotIsWhole t a → SlotIsWhole t b → SlotsAreApart room a b → SlotsAreApart room (turned_slot turn a) (turned_slot turn b)
unfolding SlotIsWhole
slots_apart turn t room Blank b none is is' h = tt
slots_apart turn t room (Placed page item paper) Blank none is is' h = tt
slots_apart turn t room (Placed page item paper) (Placed page' item' paper') none is is' h =
    still_apart (turn page) (turn page') t room paper paper' item item' none (box (turn page) t paper item is) (box (turn page') t paper' item' is') h

-- a page in its cell, also on a back
slot_is_whole : (m : Option Room) (f : Filling) (c : ℕ) (entry : Option ℕ) → ((page : Paper) → is_whole f.setting page ≡ false) → EntryFits f entry → SlotIsWhole (turn_in f.setting.grid) (moved_slot m (slot_in_cell f c entry))
unfolding SlotIsWhole
slot_is_whole m f c None not has = tt
slot_is_whole None f c (Some page) not has =
    let t = f.setting in
    let paper = f.paper_of page in
    let by = moved_by (is_whole t paper) t paper c (scale_on t paper) in
    let is = cond-false (is_whole t paper) (page_alone c) (item_in_cell paper t.room t.grid t.order (scale_on t paper) c) (not paper) in
    record { sides = has.page_is; turned_so = ap (λ (i : Item). i.turn) is; scale = scale_on t paper; scale_is = ap (λ (i : Item). i.scale) is; x = by.0; y = by.1; x_is = by.2; y_is = by.3 }
slot_is_whole (Some room) f c (Some page) not has =
    let t = f.setting in
    let paper = f.paper_of page in
    let by = moved_by (is_whole t paper) t paper c (scale_on t paper) in
    let is = cond-false (is_whole t paper) (page_alone c) (item_in_cell paper t.room t.grid t.order (scale_on t paper) c) (not paper) in
    record {
      sides = has.page_is;
      turned_so = ap (λ (i : Item). i.turn) is;
      scale = scale_on t paper;
      scale_is = ap (λ (i : Item). i.scale) is;
      x = by.0 +ℤ swap_shift room;
      y = by.1;
      x_is = moved_too by.0 (swap_shift room) (fitted t paper c).x by.2;
      y_is = by.3;
    }

-- ---- all sheets

trim_is : (m : Bool) (room : Room) (s : ℕ) → room.trim ≡ 0 → (side_room m room s).trim ≡ 0
trim_is true room s e = of_either (s % 2 == 1)
  where
    of_either : (back : Bool) → (if back then exchanged room else room).trim ≡ 0
    of_either true = e
    of_either false = e
trim_is false room s e = e

front_or_back : (m : Bool) (room : Room) (s : ℕ) (sheet : MadeSheet) → All IsInPoints sheet.slots → StandsInRoom room sheet → StandsInRoom (side_room m room s) (moved_sheet (swapped_room_on (swapped_room_of m room) s) sheet)
front_or_back true room s sheet points h = side_stands (s % 2 == 1) room sheet points h
front_or_back false room s sheet points h = unmoved_stands (s % 2 == 1)
  where
    unmoved_stands : (back : Bool) → StandsInRoom room (moved_sheet (if back then None else None) sheet)
    unmoved_stands true = side_stands false room sheet points h
    unmoved_stands false = side_stands false room sheet points h

pub all_apart : (turn : ℕ → Turn) (t : Turn) (room : Room) (slots : List MadeSlot) → room.trim ≡ 0 → All (SlotIsWhole t) slots → AllPairs (SlotsAreApart room) slots → AllPairs (SlotsAreApart room) (map (turned_slot turn) slots)
all_apart turn t room slots none are apart i j d before less =
    let f = turned_slot turn in
    let second : j < length slots = subst (λ n. j < n) (length-map slots f) less in
    let first : i < length slots = omega (arith, before, second) in
    let a = slice_index_or slots i Blank in
    let b = slice_index_or slots j Blank in
    subst (λ x. SlotsAreApart room x (slice_index_or (map f slots) j d)) (sym (get_or-map f slots i Blank d first))
    (subst (SlotsAreApart room (f a)) (sym (get_or-map f slots j Blank d second))
    (slots_apart turn t room a b none (are i Blank first) (are j Blank second) (apart i j Blank before second)))

pub filled_keep : (m : Bool) (turn : ℕ → Turn) (f : Filling) (sheets cells : ℕ) (entry : (s c : ℕ) → Option ℕ) → cells ≤ size f.setting.grid → ((s c : ℕ) → EntryFits f (entry s c)) → AllStand f.setting.room (filled f sheets cells entry)
    → KeepRoom m f.setting (map (turned_sheet turn) (swapped (swapped_room_of m f.setting.room) (filled f sheets cells entry)))
filled_keep m turn f sheets cells entry enough fits stand none not s d less =
    let room = f.setting.room in
    let mir = swapped_room_of m room in
    let slot : ℕ → ℕ → MadeSlot = λ s c. slot_in_cell f c (entry s c) in
    let made : ℕ → MadeSheet = λ s. record { paper = room.paper; slots = map (slot s) (range_with_len 0 cells) } in
    let laid = map made (range_with_len 0 sheets) in
    let many = length-map-range_with_len made 0 sheets in
    let count = count_is mir 0 laid in
    let same = length-map (swapped mir laid) (turned_sheet turn) in
    let below : s < sheets = omega (arith, less, same, count, many) in
    let within : s < length laid = omega (arith, below, many) in
    let here = get_or-map-range_with_len made 0 sheets s s (made s) below (omega arith) in
    let mv = moved_slot (swapped_room_on mir s) in
    let points : All IsInPoints (made s).slots = subst (λ (x : MadeSheet). All IsInPoints x.slots) here (filled_in_points f sheets cells entry s (made s) within) in
    let side = front_or_back m room s (made s) points (subst (StandsInRoom room) here (stand s (made s) within)) in
    let are : All (SlotIsWhole (turn_in f.setting.grid)) (map mv (map (slot s) (range_with_len 0 cells))) =
    numbered (λ k. SlotIsWhole (turn_in f.setting.grid)) mv (slot s) cells (λ k in_k. slot_is_whole (swapped_room_on mir s) f k (entry s k) not (fits s k)) in
    let in_room : All (SlotIsInside (side_room m room s)) (map (turned_slot turn) (map mv (map (slot s) (range_with_len 0 cells)))) =
    subst (All (SlotIsInside (side_room m room s))) (fused (turned_slot turn) mv (map (slot s) (range_with_len 0 cells)))
    (numbered (λ k. SlotIsInside (side_room m room s)) (λ x. turned_slot turn (mv x)) (slot s) cells
    (λ k in_k. side_inside m turn f s k (entry s k) (omega (arith, in_k, enough)) none not (fits s k))) in
    subst (StandsInRoom (side_room m room s)) (sym (sheet_is turn mir made sheets s d below)) (record {
      paper = side.paper;
      inside = in_room;
      apart = all_apart turn (turn_in f.setting.grid) (side_room m room s) (map mv (map (slot s) (range_with_len 0 cells))) (trim_is m room s none) are side.apart;
    })
