-- Leaves whose pages have their places are laid out well, also if they creep.
use Rattle.std.proofs.Common.{arith, ◌≡◌, ℕ, ◌+◌, ◌-◌, ◌*◌, ◌<◌, ◌≤◌, Bool, true, false, Option, Some, None, [], ◌∷◌, refl, sym, ap, subst}
use Rattle.std.specs.Option.{option_or}
use Rattle.std.specs.Prelude.{ℤ, pos, neg_ℤ, ◌≤ℤ◌, ◌+ℤ◌, ◌-ℤ◌, ◌*ℤ◌, nat_abs, nat_lt, not, if◌then◌else◌}
use Rattle.std.specs.List.{range_with_len}
use Rattle.std.proofs.Math.Nat.{div-mul-le_self}
use Rattle.std.proofs.lemmas.Bool.{cond-true, cond_both, lt-ltb, ltb-true}
use Rattle.std.proofs.lemmas.Int.{ints}
use Rattle.rules.specs.Papers.{Paper}
use Rattle.rules.specs.Specification.{Item, Right}
use Rattle.rules.specs.Placement.{Point}
use Rattle.rules.specs.Made.{MadeSlot, Blank, Placed, MadeSheet}
use Rattle.rules.specs.Rows.{Row}
use Rattle.layouts.specs.declared.error.ArrangementError.{ArrangementError}
use Rattle.layouts.specs.declared.error.ArrangementError.TheVariants as why
use Rattle.layouts.specs.declared.setting.Setting.{Setting}
use Rattle.layouts.specs.Placed.{IsEven, Room, fine, stands, IsInside}
use Rattle.layouts.specs.Cells.{along_height, cell, kept_length, item_in_cell, back_in, whole_parts, to_right, to_top, row_of, column_of}
use Rattle.layouts.specs.Grids.{beside, leaf_order}
use Rattle.layouts.specs.Laws.{IsPaper, HasPlace, IsHalfTurnOf}
use Rattle.layouts.specs.Refusals.{error_unless}
use Rattle.layouts.specs.Fitted.{fitted, fitted_back, scale_on, why_not_fitted}
use Rattle.layouts.proofs.Sides.{placed}
use Rattle.layouts.proofs.InGrid.{fits, sides_are}
use Rattle.layouts.proofs.AlongSide.{cells_fit}
use Rattle.layouts.proofs.Folds.{fold, kept_little, in_middle, fold_on_sheet}
use Rattle.layouts.proofs.Possible.{passed}
use Rattle.layouts.proofs.Fitting.{fitted_stands, has_scale, scale_of_many, stands_back, one_of_many, in_cell}
use Rattle.row_sheets.specs.Filled.{Filling, SlotIsInside, is_turned, grid_entry}
use Rattle.row_sheets.specs.Creep.{AreHalves, creeping, creeping_slot, creeping_sides, creep_on, leaf_item, may_creep, moved_up, to_fold, StaysBefore, StaysBehind}
use Rattle.row_sheets.specs.Standing.{AllStand, EntryCreeps, EntryFits, FitsIn, FitsOnLeaf, LeavesStand, SlotStaysBefore, SlotStaysBehind, StandsOnLeaf, fold_on, is_first_before}
use Rattle.row_sheets.proofs.AtRest.{sheets_at_rest}
use Rattle.row_sheets.proofs.Creeping.{halves, halves_many, of_halves}
use Rattle.row_sheets.proofs.Filling.{sheet}
use Rattle.row_sheets.proofs.Leaves.{creep_moves, stays_before, stays_behind}
use Rattle.row_sheets.proofs.OnSheets.{numbered, sides_stand}

-- ---- one page, whatever its paper, on a side that isn't turned

-- a page that has room to creep so far, and lies well where it doesn't
pub record Creeps (page : Paper) (room : Room) (b : Bool) (s creep : ℕ) : Type 0 where
  pub even : IsEven room
  pub page_is : IsPaper page
  pub sheet_is : IsPaper room.paper
  pub place : HasPlace page room (beside true) s
  pub may : may_creep page room s creep ≡ true
  pub inside : (k : ℕ) → k < 2 → IsInside room page (item_in_cell page room (beside true) (leaf_order b) s k)
  pub inside_back : (k : ℕ) → k < 2 → IsInside room page (back_in page room (beside true) (leaf_order b) s 0 k)
  pub turned : (k : ℕ) → k < 2 → IsHalfTurnOf page room.paper (item_in_cell page room (beside true) (leaf_order b) s k) (back_in page room (beside true) (leaf_order b) s 0 k)

-- before a line across the sheet, or beyond it; and which of the two slots of a front is there
abbrev pub Stays : (before : Bool) → Room → (twice : ℕ) → (page : Paper) → Item → Type 0
Stays true room T page item = StaysBefore room T page item
Stays false room T page item = StaysBehind room T page item

abbrev pub slot_there : (b before : Bool) → ℕ
slot_there b true = if b then 1 else 0
slot_there b false = if b then 0 else 1

pub front_stays : (before : Bool) (page : Paper) (room : Room) (b : Bool) (s creep : ℕ) → Creeps page room b s creep
    → Stays before room (fold (along_height room) (nat_abs room.paper.height)) page (leaf_item page room b s creep (slot_there b before))
front_stays true page room b s creep c = stays_before page room b s creep c.page_is c.place c.may
front_stays false page room b s creep c = stays_behind page room b s creep c.page_is c.place c.may

-- ---- the fold

pub some_cell : (page : Paper) (room : Room) (s : ℕ) → HasPlace page room (beside true) s → 0 < cell (along_height room) (nat_abs room.paper.height) 2
some_cell page room s place = (fits page room (beside true) s place).some_wide

-- it lies within the margins
record OnSheet (room : Room) (T W : ℕ) : Type 0 where
  pub least : 2 * room.bottom ≤ T
  pub most : T + 2 * room.top ≤ 2 * W

fold_within : (room : Room) (h : ℕ) → IsEven room → 0 < cell (along_height room) h 2 → OnSheet room (fold (along_height room) h) (whole_parts h)
fold_within room h even some =
    let up = even.up in
    let same : kept_length room.trim room.bottom ≡ kept_length room.trim room.top = ap (kept_length room.trim) even.up in
    let edge = kept_little room.trim room.bottom in
    let gap = kept_little room.trim room.gutter_up in
    record {
      least = omega (arith, some, edge.0, gap.0);
      most = omega (arith, some, up, same, cells_fit (along_height room) h 2 0 some (omega arith), edge.0, gap.0, gap.1);
    }

turned_within : (room : Room) (T W : ℕ) → IsEven room → OnSheet room T W → OnSheet room (2 * W - T) W
turned_within room T W even on =
    let up = even.up in
    let least = on.least in
    let most = on.most in
    record { least = omega (arith, up, most); most = omega (arith, up, least, most) }

-- ---- inside

top_at : (y height : ℤ) (T e W h : ℕ) → height ≡ pos h → W * 1_270_000 ≤ h → T + 2 * e ≤ 2 * W → (pos 2 *ℤ y) ≤ℤ fine T → (y +ℤ fine e) ≤ℤ (pos 1_000_000_000 *ℤ height)
top_at y height T e W h is part most low = omega (arith, ints, is, part, most, low)

bottom_at : (y : ℤ) (T e : ℕ) → 2 * e ≤ T → fine T ≤ℤ (pos 2 *ℤ y) → fine e ≤ℤ y
bottom_at y T e least high = omega (arith, ints, least, high)

lower : (a y z : ℤ) → a ≤ℤ y → y ≤ℤ z → a ≤ℤ z
lower a y z p q = omega (arith, ints, p, q)

upper : (y z a b : ℤ) → (z +ℤ a) ≤ℤ b → y ≤ℤ z → (y +ℤ a) ≤ℤ b
upper y z a b p q = omega (arith, ints, p, q)

height_is : (sheet : Paper) → IsPaper sheet → sheet.height ≡ pos (nat_abs sheet.height)
height_is sheet is = ap (λ p. p.height) (sides_are sheet is)

-- before the fold a page is moved up, and beyond it down
abbrev IsTowards : (before : Bool) → ℤ → Type 0
IsTowards true by = pos 0 ≤ℤ by
IsTowards false by = by ≤ℤ pos 0

abbrev pub IsMoved : (page : Paper) → (item item' : Item) → (by : ℤ) → Type 0
IsMoved page item item' by = (p : Point) → ((stands page item' p).x ≡ (stands page item p).x) × ((stands page item' p).y ≡ (stands page item p).y +ℤ (pos 1_270_000_000_000_000 *ℤ by))

up_by : (y z by : ℤ) → pos 0 ≤ℤ by → z ≡ y +ℤ (pos 1_270_000_000_000_000 *ℤ by) → y ≤ℤ z
up_by y z by h e = omega (arith, ints, h, e)

down_by : (y z by : ℤ) → by ≤ℤ pos 0 → z ≡ y +ℤ (pos 1_270_000_000_000_000 *ℤ by) → z ≤ℤ y
down_by y z by h e = omega (arith, ints, h, e)

-- but not across it
moved_inside : (before : Bool) (page : Paper) (room : Room) (item item' : Item) (by : ℤ) (T : ℕ) → IsPaper room.paper → OnSheet room T (whole_parts (nat_abs room.paper.height)) → IsInside room page item
    → IsTowards before by → IsMoved page item item' by → Stays before room T page item' → IsInside room page item'
moved_inside true page room item item' by T is on inside way moved stays p of =
    let at = inside p of in
    let h = nat_abs room.paper.height in
    record {
      left = subst (λ x. fine room.left ≤ℤ x) (sym (moved p).0) at.left;
      right = subst (λ x. (x +ℤ fine room.right) ≤ℤ (pos 1_000_000_000 *ℤ room.paper.width)) (sym (moved p).0) at.right;
      bottom = lower (fine room.bottom) (stands page item p).y (stands page item' p).y at.bottom (up_by (stands page item p).y (stands page item' p).y by way (moved p).1);
      top = top_at (stands page item' p).y room.paper.height T room.top (whole_parts h) h (height_is room.paper is) (div-mul-le_self h 1_270_000) on.most (stays p of);
    }
moved_inside false page room item item' by T is on inside way moved stays p of =
    let at = inside p of in
    record {
      left = subst (λ x. fine room.left ≤ℤ x) (sym (moved p).0) at.left;
      right = subst (λ x. (x +ℤ fine room.right) ≤ℤ (pos 1_000_000_000 *ℤ room.paper.width)) (sym (moved p).0) at.right;
      bottom = bottom_at (stands page item' p).y T room.bottom on.least (stays p of);
      top = upper (stands page item' p).y (stands page item p).y (fine room.top) (pos 1_000_000_000 *ℤ room.paper.height) at.top (down_by (stands page item p).y (stands page item' p).y by way (moved p).1);
    }

-- ---- sides that are turned by half

-- a page on the back of a leaf that creeps
abbrev pub back_item : (page : Paper) → Room → (right_to_left : Bool) → (scale creep k : ℕ) → Item
back_item page room b s creep k = moved_up (neg_ℤ (to_fold b k creep)) (back_in page room (beside true) (leaf_order b) s 0 k)

back_moved_at : (page : Paper) (k s : ℕ) (x y by : ℤ) (p : Point)
    → ((stands page (moved_up by (placed Right k s x y)) p).x ≡ (stands page (placed Right k s x y) p).x)
    × ((stands page (moved_up by (placed Right k s x y)) p).y ≡ (stands page (placed Right k s x y) p).y +ℤ (pos 1_270_000_000_000_000 *ℤ by))
back_moved_at page k s x y by p = (refl, omega (arith, ints))

pub back_moves : (page : Paper) (room : Room) (b : Bool) (s creep k : ℕ)
    → IsMoved page (back_in page room (beside true) (leaf_order b) s 0 k) (back_item page room b s creep k) (neg_ℤ (to_fold b k creep))
back_moves page room b s creep k p =
    let row = row_of (leaf_order b) (beside true) k in
    let column = column_of (leaf_order b) (beside true) k in
    back_moved_at page (0 + k) s (pos (whole_parts (nat_abs room.paper.width)) -ℤ to_right page room (beside true) s row column) (pos (whole_parts (nat_abs room.paper.height)) -ℤ to_top page room (beside true) s row column) (neg_ℤ (to_fold b k creep)) p

turned_at : (W : ℕ) (y z front back c : ℤ) → front ≡ y +ℤ (pos 1_270_000_000_000_000 *ℤ c) → z ≡ (pos 1_270_000_000_000_000 *ℤ pos W) -ℤ y → back ≡ z +ℤ (pos 1_270_000_000_000_000 *ℤ neg_ℤ c)
    → back ≡ (pos 1_270_000_000_000_000 *ℤ pos W) -ℤ front
turned_at W y z front back c e f g = omega (arith, ints, e, f, g)

-- it is the front's, turned by half
back_turned : (page : Paper) (room : Room) (b : Bool) (s creep k : ℕ) (p : Point) → IsHalfTurnOf page room.paper (item_in_cell page room (beside true) (leaf_order b) s k) (back_in page room (beside true) (leaf_order b) s 0 k)
    → (stands page (back_item page room b s creep k) p).y ≡ (pos 1_270_000_000_000_000 *ℤ pos (whole_parts (nat_abs room.paper.height))) -ℤ (stands page (leaf_item page room b s creep k) p).y
back_turned page room b s creep k p half =
    turned_at (whole_parts (nat_abs room.paper.height)) (stands page (item_in_cell page room (beside true) (leaf_order b) s k) p).y (stands page (back_in page room (beside true) (leaf_order b) s 0 k) p).y
    (stands page (leaf_item page room b s creep k) p).y (stands page (back_item page room b s creep k) p).y (to_fold b k creep)
    (creep_moves page room b s creep k p).1 (half.up p) (back_moves page room b s creep k p).1

behind_turned : (T W : ℕ) (y z : ℤ) → T ≤ 2 * W → (pos 2 *ℤ y) ≤ℤ fine T → z ≡ (pos 1_270_000_000_000_000 *ℤ pos W) -ℤ y → fine (2 * W - T) ≤ℤ (pos 2 *ℤ z)
behind_turned T W y z most h e = omega (arith, ints, most, h, e)

before_turned : (T W : ℕ) (y z : ℤ) → T ≤ 2 * W → fine T ≤ℤ (pos 2 *ℤ y) → z ≡ (pos 1_270_000_000_000_000 *ℤ pos W) -ℤ y → (pos 2 *ℤ z) ≤ℤ fine (2 * W - T)
before_turned T W y z most h e = omega (arith, ints, most, h, e)

-- ---- a page in its half

record Lies (before : Bool) (room : Room) (T : ℕ) (page : Paper) (item : Item) : Type 0 where
  pub inside : IsInside room page item
  pub stays : Stays before room T page item

front_way : (b before : Bool) (creep : ℕ) → IsTowards before (to_fold b (slot_there b before) creep)
front_way true true creep = let up : pos 0 ≤ℤ pos creep = omega (arith, ints) in up
front_way false true creep = let up : pos 0 ≤ℤ pos creep = omega (arith, ints) in up
front_way true false creep = let down : (pos 0 -ℤ pos creep) ≤ℤ pos 0 = omega (arith, ints) in down
front_way false false creep = let down : (pos 0 -ℤ pos creep) ≤ℤ pos 0 = omega (arith, ints) in down

-- if the side is turned by half it is the other way
back_way : (front : Bool) (z : ℤ) → IsTowards front z → IsTowards (not front) (neg_ℤ z)
back_way true z h = let up : pos 0 ≤ℤ z = h in let down : neg_ℤ z ≤ℤ pos 0 = omega (arith, ints, up) in down
back_way false z h = let down : z ≤ℤ pos 0 = h in let up : pos 0 ≤ℤ neg_ℤ z = omega (arith, ints, down) in up

pub one_of_two : (b before : Bool) → slot_there b before < 2
one_of_two true true = let less : 1 < 2 = omega arith in less
one_of_two true false = let less : 0 < 2 = omega arith in less
one_of_two false true = let less : 0 < 2 = omega arith in less
one_of_two false false = let less : 1 < 2 = omega arith in less

fold_here : (page : Paper) (room : Room) (b : Bool) (s creep : ℕ) → Creeps page room b s creep → OnSheet room (fold (along_height room) (nat_abs room.paper.height)) (whole_parts (nat_abs room.paper.height))
fold_here page room b s creep c = fold_within room (nat_abs room.paper.height) c.even (some_cell page room s c.place)

front_lies : (before : Bool) (page : Paper) (room : Room) (b : Bool) (s creep : ℕ) → Creeps page room b s creep
    → Lies before room (fold (along_height room) (nat_abs room.paper.height)) page (leaf_item page room b s creep (slot_there b before))
front_lies before page room b s creep c =
    let k = slot_there b before in
    let stays = front_stays before page room b s creep c in record {
      inside = moved_inside before page room (item_in_cell page room (beside true) (leaf_order b) s k) (leaf_item page room b s creep k) (to_fold b k creep) (fold (along_height room) (nat_abs room.paper.height)) c.sheet_is (fold_here page room b s creep c)
          (c.inside k (one_of_two b before)) (front_way b before creep) (creep_moves page room b s creep k) stays;
      stays = stays;
    }

pub no_higher : (page : Paper) (room : Room) (b : Bool) (s creep : ℕ) → Creeps page room b s creep → fold (along_height room) (nat_abs room.paper.height) ≤ 2 * whole_parts (nat_abs room.paper.height)
no_higher page room b s creep c = fold_on_sheet (along_height room) (nat_abs room.paper.height) c.even.up (some_cell page room s c.place)

pub back_stays : (front : Bool) (page : Paper) (room : Room) (b : Bool) (s creep : ℕ) → Creeps page room b s creep
    → Stays (not front) room (2 * whole_parts (nat_abs room.paper.height) - fold (along_height room) (nat_abs room.paper.height)) page (back_item page room b s creep (slot_there b front))
back_stays true page room b s creep c = λ p of.
    let k = slot_there b true in
    behind_turned (fold (along_height room) (nat_abs room.paper.height)) (whole_parts (nat_abs room.paper.height)) (stands page (leaf_item page room b s creep k) p).y (stands page (back_item page room b s creep k) p).y
    (no_higher page room b s creep c) (front_stays true page room b s creep c p of) (back_turned page room b s creep k p (c.turned k (one_of_two b true)))
back_stays false page room b s creep c = λ p of.
    let k = slot_there b false in
    before_turned (fold (along_height room) (nat_abs room.paper.height)) (whole_parts (nat_abs room.paper.height)) (stands page (leaf_item page room b s creep k) p).y (stands page (back_item page room b s creep k) p).y
    (no_higher page room b s creep c) (front_stays false page room b s creep c p of) (back_turned page room b s creep k p (c.turned k (one_of_two b false)))

back_lies : (front : Bool) (page : Paper) (room : Room) (b : Bool) (s creep : ℕ) → Creeps page room b s creep
    → Lies (not front) room (2 * whole_parts (nat_abs room.paper.height) - fold (along_height room) (nat_abs room.paper.height)) page (back_item page room b s creep (slot_there b front))
back_lies front page room b s creep c =
    let k = slot_there b front in
    let T = 2 * whole_parts (nat_abs room.paper.height) - fold (along_height room) (nat_abs room.paper.height) in
    let on = turned_within room (fold (along_height room) (nat_abs room.paper.height)) (whole_parts (nat_abs room.paper.height)) c.even (fold_here page room b s creep c) in
    let stays = back_stays front page room b s creep c in record {
      inside = moved_inside (not front) page room (back_in page room (beside true) (leaf_order b) s 0 k) (back_item page room b s creep k) (neg_ℤ (to_fold b k creep)) T c.sheet_is on
          (c.inside_back k (one_of_two b front)) (back_way front (to_fold b k creep) (front_way b front creep)) (back_moves page room b s creep k) stays;
      stays = stays;
    }

-- ---- an entry in its half

none_both : (one other : Option ArrangementError) → option_or one other ≡ None → (one ≡ None) × (other ≡ None)
none_both None other h = (refl, h)
none_both (Some e) other h = absurd (cc (h))

pub fits_in : (t : Setting) (page : Paper) (creep : ℕ) → FitsOnLeaf t page creep → FitsIn t page
fits_in t page creep has =
    let free = none_both (why_not_fitted t page) (error_unless (may_creep page t.room (scale_on t page) creep) why.CreepOverFold None) has.fits in
    record { sheet_is = has.sheet_is; page_is = has.page_is; fits = free.0 }

pub creeps_on : (page : Paper) (room : Room) (b : Bool) (asked : Option ℤ) (creep : ℕ) → (let t = halves room b asked in
    IsEven room → FitsOnLeaf t page creep → (why_not_fitted t page ≡ None) × Creeps page room b (scale_on t page) creep)
creeps_on page room b asked creep even has =
    let t = halves room b asked in
    let may = may_creep page room (scale_on t page) creep in
    let free = none_both (why_not_fitted t page) (error_unless may why.CreepOverFold None) has.fits in
    let scale = scale_of_many t page (omega arith) free.0 in
    let is_in_cell : (k : ℕ) → fitted t page k ≡ item_in_cell page room (beside true) (leaf_order b) (scale_on t page) k = λ k. (in_cell t page k k (one_of_many t page (omega arith)) free.0).0 in (
      free.0,
      record {
        even = even;
        page_is = has.page_is;
        sheet_is = has.sheet_is;
        place = (has_scale t page scale).place;
        may = (passed may why.CreepOverFold None free.1).0;
        inside = λ k less. subst (IsInside room page) (is_in_cell k) (fitted_stands t page k has.page_is has.sheet_is (omega (arith, less)) free.0).inside;
        inside_back = λ k less. (stands_back t page k has.page_is has.sheet_is (omega (arith, less)) scale).inside even;
        turned = λ k less. subst (λ i. IsHalfTurnOf page room.paper i (fitted_back t page k)) (is_in_cell k)
            ((stands_back t page k has.page_is has.sheet_is (omega (arith, less)) scale).turned (one_of_many t page (omega arith)));
      },
    )

-- a line that is there also if no page is
abbrev pub line : Room → ℕ
line room = let h = nat_abs room.paper.height in if nat_lt 0 (cell (along_height room) h 2) then fold (along_height room) h else whole_parts h

pub line_is : (page : Paper) (room : Room) (b : Bool) (s creep : ℕ) → Creeps page room b s creep → fold (along_height room) (nat_abs room.paper.height) ≡ line room
line_is page room b s creep c =
    let h = nat_abs room.paper.height in
    sym (cond-true (nat_lt 0 (cell (along_height room) h 2)) (fold (along_height room) h) (whole_parts h) (lt-ltb 0 (cell (along_height room) h 2) (some_cell page room s c.place)))

abbrev pub InMiddle : (T W : ℕ) → Type 0
InMiddle T W = (T ≤ W + 1) × (W ≤ T + 1)

pub line_in_middle : (room : Room) → IsEven room → InMiddle (line room) (whole_parts (nat_abs room.paper.height))
line_in_middle room even =
    let h = nat_abs room.paper.height in
    cond_both (nat_lt 0 (cell (along_height room) h 2)) (fold (along_height room) h) (whole_parts h) (λ T. InMiddle T (whole_parts h))
    (λ e. in_middle (along_height room) h even.up (ltb-true 0 (cell (along_height room) h 2) e)) (λ e. (omega arith, omega arith))

abbrev pub on_halves : (room : Room) (b : Bool) (asked : Option ℤ) → (ℕ → Paper) → Filling
on_halves room b asked paper_of = record { setting = halves room b asked; paper_of = paper_of }

-- the item of a page on a side that isn't turned
pub front_is : (page : Paper) (room : Room) (b : Bool) (asked : Option ℤ) (k creep : ℕ) → (let t = halves room b asked in
    why_not_fitted t page ≡ None → leaf_item page room b (scale_on t page) creep k ≡ creeping t false page k creep)
front_is page room b asked k creep free =
    let t = halves room b asked in
    ap (moved_up (to_fold b k creep)) (sym (in_cell t page k k (one_of_many t page (omega arith)) free).0)

abbrev pub SlotStays : (before : Bool) → Room → (T : ℕ) → MadeSlot → Type 0
SlotStays true room T slot = SlotStaysBefore room T slot
SlotStays false room T slot = SlotStaysBehind room T slot

blank_stays : (before : Bool) (room : Room) (T : ℕ) → SlotStays before room T Blank
blank_stays true room T = tt
blank_stays false room T = tt

page_stays : (before : Bool) (room : Room) (T page : ℕ) (item : Item) (paper : Paper) → Stays before room T paper item → SlotStays before room T (Placed page item paper)
page_stays true room T page item paper h = h
page_stays false room T page item paper h = h

pub front_slot : (before : Bool) (room : Room) (b : Bool) (asked : Option ℤ) (paper_of : ℕ → Paper) (creep : ℕ) (entry : Option ℕ) → (let f = on_halves room b asked paper_of in
    let slot = creeping_slot f false (slot_there b before) creep entry in
    IsEven room → EntryCreeps f creep entry → SlotIsInside room slot × SlotStays before room (line room) slot)
front_slot before room b asked paper_of creep None even has = (tt, blank_stays before room (line room))
front_slot before room b asked paper_of creep (Some page) even has =
    let paper = paper_of page in
    let t = halves room b asked in
    let c = creeps_on paper room b asked creep even has in
    let is = front_is paper room b asked (slot_there b before) creep c.0 in
    let at = front_lies before paper room b (scale_on t paper) creep c.1 in (
      subst (IsInside room paper) is at.inside,
      page_stays before room (line room) page (creeping t false paper (slot_there b before) creep) paper (subst (Stays before room (line room) paper) is
          (subst (λ T. Stays before room T paper (leaf_item paper room b (scale_on t paper) creep (slot_there b before))) (line_is paper room b (scale_on t paper) creep c.1) at.stays)),
    )

pub back_slot : (front : Bool) (room : Room) (b : Bool) (asked : Option ℤ) (paper_of : ℕ → Paper) (creep : ℕ) (entry : Option ℕ) → (let f = on_halves room b asked paper_of in
    let slot = creeping_slot f true (slot_there b front) creep entry in
    IsEven room → EntryCreeps f creep entry → SlotIsInside room slot × SlotStays (not front) room (2 * whole_parts (nat_abs room.paper.height) - line room) slot)
back_slot front room b asked paper_of creep None even has = (tt, blank_stays (not front) room (2 * whole_parts (nat_abs room.paper.height) - line room))
back_slot front room b asked paper_of creep (Some page) even has =
    let paper = paper_of page in
    let s = scale_on (halves room b asked) paper in
    let c = creeps_on paper room b asked creep even has in
    let at = back_lies front paper room b s creep c.1 in (
      at.inside,
      page_stays (not front) room (2 * whole_parts (nat_abs room.paper.height) - line room) page (back_item paper room b s creep (slot_there b front)) paper
          (subst (λ T. Stays (not front) room (2 * whole_parts (nat_abs room.paper.height) - T) paper (back_item paper room b s creep (slot_there b front))) (line_is paper room b s creep c.1) at.stays),
    )

-- ---- a side

abbrev pub side : Filling → (by_half : Bool) → (creep : ℕ) → (one other : Option ℕ) → MadeSheet
side f by_half creep one other =
    sheet f.setting.room.paper (creeping_slot f by_half 0 creep one ∷ creeping_slot f by_half 1 creep other ∷ [])

side_on_halves : (room : Room) (b : Bool) (asked : Option ℤ) (paper_of : ℕ → Paper) (by_half : Bool) (creep : ℕ) (one other : Option ℕ) → (let f = on_halves room b asked paper_of in
    IsEven room → EntryCreeps f creep one → EntryCreeps f creep other → StandsOnLeaf room (fold_on room by_half (line room)) (is_first_before b by_half) (side f by_half creep one other))
side_on_halves room false asked paper_of false creep one other even has has' =
    let at = front_slot true room false asked paper_of creep one even has in
    let at' = front_slot false room false asked paper_of creep other even has' in
    record { paper = refl; first = _; second = _; slots = refl; first_inside = at.0; second_inside = at'.0; before = at.1; behind = at'.1 }
side_on_halves room true asked paper_of false creep one other even has has' =
    let at = front_slot false room true asked paper_of creep one even has in
    let at' = front_slot true room true asked paper_of creep other even has' in
    record { paper = refl; first = _; second = _; slots = refl; first_inside = at.0; second_inside = at'.0; before = at'.1; behind = at.1 }
side_on_halves room false asked paper_of true creep one other even has has' =
    let at = back_slot true room false asked paper_of creep one even has in
    let at' = back_slot false room false asked paper_of creep other even has' in
    record { paper = refl; first = _; second = _; slots = refl; first_inside = at.0; second_inside = at'.0; before = at'.1; behind = at.1 }
side_on_halves room true asked paper_of true creep one other even has has' =
    let at = back_slot false room true asked paper_of creep one even has in
    let at' = back_slot true room true asked paper_of creep other even has' in
    record { paper = refl; first = _; second = _; slots = refl; first_inside = at.0; second_inside = at'.0; before = at.1; behind = at'.1 }

abbrev SideStands : Bool → (creep : ℕ) → (one other : Option ℕ) → (ℕ → Paper) → Setting → Type 0
SideStands by_half creep one other paper_of t = let f : Filling = record { setting = t; paper_of = paper_of } in
    EntryCreeps f creep one → EntryCreeps f creep other
    → StandsOnLeaf t.room (fold_on t.room by_half (line t.room)) (is_first_before t.order.right_to_left by_half) (side f by_half creep one other)

pub side_stands : (f : Filling) (by_half : Bool) (creep : ℕ) (one other : Option ℕ) → AreHalves f.setting → EntryCreeps f creep one → EntryCreeps f creep other
    → StandsOnLeaf f.setting.room (fold_on f.setting.room by_half (line f.setting.room)) (is_first_before f.setting.order.right_to_left by_half) (side f by_half creep one other)
side_stands f by_half creep one other halved =
    of_halves (SideStands by_half creep one other f.paper_of) f.setting halved
    (side_on_halves f.setting.room f.setting.order.right_to_left f.setting.scale f.paper_of by_half creep one other halved.even)

-- ---- all sides

entry_fits : (f : Filling) (creep : ℕ) (entry : Option ℕ) → EntryCreeps f creep entry → EntryFits f entry
entry_fits f creep None has = tt
entry_fits f creep (Some page) has = fits_in f.setting (f.paper_of page) creep has

abbrev pub AllCreep : Filling → (creep leaves sheets : ℕ) → Row → Type 0
AllCreep f creep leaves sheets row = (s k : ℕ) → s < sheets → k < 2 → EntryCreeps f (creep_on creep leaves s) (grid_entry 2 row s k)

plain_stand : (f : Filling) (turned_backs : Bool) (creep leaves sheets : ℕ) (row : Row) → AreHalves f.setting → AllCreep f creep leaves sheets row → creep ≡ 0
    → AllStand f.setting.room (creeping_sides f turned_backs creep leaves sheets row)
plain_stand f turned_backs creep leaves sheets row halved has none =
    let many = halves_many f.setting halved in
    let all = sides_stand f turned_backs sheets 2 (grid_entry 2 row) many (λ e. record { many = many; even = halved.even })
    (λ s k in_s in_k. entry_fits f (creep_on creep leaves s) (grid_entry 2 row s k) (has s k in_s in_k)) in
    subst (λ n. AllStand f.setting.room (creeping_sides f turned_backs n leaves sheets row)) (sym none)
    (subst (AllStand f.setting.room) (sym (sheets_at_rest f turned_backs leaves row (range_with_len 0 sheets) halved)) all)

pub leaves_stand : (f : Filling) (turned_backs : Bool) (creep leaves sheets : ℕ) (row : Row) → AreHalves f.setting → AllCreep f creep leaves sheets row
    → LeavesStand f.setting turned_backs creep (creeping_sides f turned_backs creep leaves sheets row)
leaves_stand f turned_backs creep leaves sheets row halved has =
    let room = f.setting.room in
    let middle = line_in_middle room halved.even in
    record {
      twice = line room;
      no_farther = middle.0;
      no_nearer = middle.1;
      sides = numbered
          (λ s. StandsOnLeaf room (fold_on room (is_turned turned_backs s) (line room)) (is_first_before f.setting.order.right_to_left (is_turned turned_backs s)))
          (λ s. side f (is_turned turned_backs s) (creep_on creep leaves s) (grid_entry 2 row s 0) (grid_entry 2 row s 1)) sheets
          (λ s less. side_stands f (is_turned turned_backs s) (creep_on creep leaves s) (grid_entry 2 row s 0) (grid_entry 2 row s 1) halved (has s 0 less (omega arith)) (has s 1 less (omega arith)));
      apart = plain_stand f turned_backs creep leaves sheets row halved has;
    }

-- where their fold is, if the halves have room for pages
pub leaves_fold : (f : Filling) (turned_backs : Bool) (creep leaves sheets : ℕ) (row : Row) (halved : AreHalves f.setting) (has : AllCreep f creep leaves sheets row)
    → 0 < cell (along_height f.setting.room) (nat_abs f.setting.room.paper.height) 2
    → (leaves_stand f turned_backs creep leaves sheets row halved has).twice ≡ fold (along_height f.setting.room) (nat_abs f.setting.room.paper.height)
unfolding leaves_stand
leaves_fold f turned_backs creep leaves sheets row halved has some =
    let room = f.setting.room in
    let h = nat_abs room.paper.height in
    cond-true (nat_lt 0 (cell (along_height room) h 2)) (fold (along_height room) h) (whole_parts h) (lt-ltb 0 (cell (along_height room) h 2) some)
