-- Zines are read in order, and their pages are apart.
use Rattle.std.proofs.Common.{arith, ◌≡◌, ◌≢◌, ◌∙◌, inl, inr, ℕ, suc, zero, ◌+◌, ◌-◌, ◌*◌, ◌/◌, ◌<◌, ◌≤◌, Bool, true, false, [], ◌∷◌, ◌++◌, Option, Some, None, length, map, refl, sym, ap, subst}
use Rattle.std.specs.Prelude.{ℤ, pos, ◌≤ℤ◌, ◌+ℤ◌, ◌-ℤ◌, ◌*ℤ◌, nat_abs, nat_lt, ◌==◌, if◌then◌else◌, flat_map}
use Rattle.std.specs.List.{range_with_len}
use Rattle.std.proofs.Math.Nat.{lt-div-mul-add, div-mul-le_self}
use Rattle.std.proofs.lemmas.Bool.{ltb-false, ltb-true}
use Rattle.std.proofs.lemmas.Int.{ints}
use Rattle.std.proofs.lemmas.List.FromFn.{get_or-map-range_with_len}
use Rattle.rules.specs.Papers.{Paper}
use Rattle.rules.specs.Placement.{Point}
use Rattle.rules.specs.Sheets.{blocks}
use Rattle.rules.specs.Made.{MadeSlot, MadeSheet, Blank, Placed}
use Rattle.rules.specs.Rows.{Row}
use Rattle.layouts.specs.declared.arrangement.Order.{Order}
use Rattle.layouts.specs.declared.setting.Setting.{Setting}
use Rattle.layouts.specs.Placed.{IsEven, Room, fine, stands, IsOfPage, AreApart}
use Rattle.layouts.specs.Cells.{Grid, along_height, along_width, size, kept_length, pitch, left_free, whole_parts, item_in_cell, back_in, column_of}
use Rattle.layouts.specs.Grids.{leaf_order}
use Rattle.layouts.specs.Fitted.{fitted, fitted_back, scale_on, why_not_fitted}
use Rattle.layouts.specs.Laws.{IsPaper, IsHalfTurnOf, HasPlace, LiesInCell, cell_at}
use Rattle.layouts.proofs.AlongSide.{cells_fit}
use Rattle.layouts.proofs.Apart.{other_way}
use Rattle.layouts.proofs.Fitting.{in_cell, one_of_many, scale_of_many, stands_back}
use Rattle.layouts.proofs.InCell.{grid_in_cell}
use Rattle.layouts.proofs.InGrid.{fits}
use Rattle.row_sheets.specs.declared.fill.Scheme.{Scheme}
use Rattle.row_sheets.specs.declared.fill.Scheme.TheVariants as scheme
use Rattle.row_sheets.specs.declared.fill.Shape.{Shape}
use Rattle.row_sheets.specs.Filled.{Filling, SlotIsInside, SlotsAreApart, grid_entry, slot_on, zine_entry, zine_slot}
use Rattle.row_sheets.specs.Schemes.{CellFits, MayBeFilled, StandBy, shaped, sheets_by_scheme}
use Rattle.row_sheets.specs.Shapes.{cell_count, sheet_count}
use Rattle.row_sheets.specs.Stacked.{shown_at}
use Rattle.row_sheets.specs.Bound.{shown_in}
use Rattle.row_sheets.specs.Standing.{AllStand, EntryFits, LeavesStand, StandsInRoom}
use Rattle.row_sheets.specs.Zine.{AreZineCells, ZineIsRead, closer, read_folded, zine_grid}
use Rattle.row_sheets.proofs.Filling.{sheet}
use Rattle.row_sheets.proofs.OnLeaves.{leaves_stand}
use Rattle.row_sheets.proofs.OnSheets.{each_of, each_two_of, filled_stand, not_turned, slot_inside, slots_apart}
use Rattle.row_sheets.proofs.Runs.{grid_runs_on}
use Rattle.row_sheets.proofs.Stacking.{shown_is}

-- ---- folded and cut

abbrev zine_in : Filling → Row → (s : ℕ) → MadeSheet
zine_in f row s = sheet f.setting.room.paper (map (λ c. zine_slot f c (zine_entry row s c)) (range_with_len 0 8))

shows : (f : Filling) (row : Row) (s c : ℕ) → c < 8 → shown_at (zine_in f row s) c ≡ zine_entry row s c
shows f row s c within =
    ap shown_in (get_or-map-range_with_len (λ k. zine_slot f k (zine_entry row s k)) 0 8 c c Blank within (omega arith))
    ∙ shown_is f (nat_lt c 4) (if nat_lt c 4 then 7 - c else c) (zine_entry row s c)

-- the cells as they come in hand
eight : {X : Type 0} (a b : ℕ → X) → ((c : ℕ) → c < 8 → a c ≡ b c)
    → a 7 ∷ a 3 ∷ a 2 ∷ a 1 ∷ a 0 ∷ a 4 ∷ a 5 ∷ a 6 ∷ [] ≡ b 7 ∷ b 3 ∷ b 2 ∷ b 1 ∷ b 0 ∷ b 4 ∷ b 5 ∷ b 6 ∷ []
eight a b e =
    rw (e 7 (omega arith)) (rw (e 3 (omega arith)) (rw (e 2 (omega arith)) (rw (e 1 (omega arith))
    (rw (e 0 (omega arith)) (rw (e 4 (omega arith)) (rw (e 5 (omega arith)) (rw (e 6 (omega arith)) refl)))))))

sheet_read : (f : Filling) (row : Row) (s : ℕ) → read_folded (zine_in f row s) ≡ map (grid_entry 8 row s) (range_with_len 0 8)
sheet_read f row s = eight (λ c. shown_at (zine_in f row s) c) (zine_entry row s) (shows f row s)

each_read : (made : ℕ → MadeSheet) (parts : ℕ → Row) (a n : ℕ) → ((s : ℕ) → read_folded (made s) ≡ parts s)
    → flat_map read_folded (map made (range_with_len a n)) ≡ flat_map parts (range_with_len a n)
each_read made parts a zero e = refl
each_read made parts a (suc n) e =
    ap (λ xs. xs ++ flat_map read_folded (map made (range_with_len (a + 1) n))) (e a) ∙ ap (λ xs. parts a ++ xs) (each_read made parts (a + 1) n e)

pub zine_is_read : ZineIsRead
zine_is_read f row =
    let sheets = blocks 8 (length row) in
    each_read (zine_in f row) (λ s. map (grid_entry 8 row s) (range_with_len 0 8)) 0 sheets (sheet_read f row) ∙ grid_runs_on 8 sheets row

-- ---- a page of the first row, and one of the second

pub eight_cells : (t : Setting) → AreZineCells t → size t.grid ≡ 8
eight_cells t cells = ap size cells.grid_is

pub kept_is : (trim n : ℕ) → trim ≡ 0 → kept_length trim n ≡ n
kept_is trim n e = ap (λ t. if t == 0 then n else n + 1) e

-- in the second row
in_second : (page : Paper) (room : Room) (b r : Bool) (s k : ℕ) → IsPaper page → HasPlace page room (zine_grid b) s → k / 4 ≡ 1 → (p : Point) → IsOfPage room.trim page p
    → LiesInCell (cell_at room (zine_grid b) 1 (column_of (leaf_order r) (zine_grid b) k)) (kept_length room.trim 0) (stands page (item_in_cell page room (zine_grid b) (leaf_order r) s k) p)
in_second page room b r s k is place second p of =
    subst (λ n. LiesInCell (cell_at room (zine_grid b) n (column_of (leaf_order r) (zine_grid b) k)) (kept_length room.trim 0) (stands page (item_in_cell page room (zine_grid b) (leaf_order r) s k) p)) second
    (grid_in_cell page room (zine_grid b) (leaf_order r) s k is place p of)

-- upright pages: the second row begins at the margin, and is rounded down
below : (p D E F W gap past : ℕ) (y y' z : ℤ) → 0 < p - D → E ≡ F → 2 * p + (E + F) ≤ W + D → D ≡ gap → past ≡ 0 → y ≤ℤ fine (E + 0 * p + (p - D) + past) → y' ≤ℤ fine (E + 0 * p + (p - D) + past)
    → z ≡ (pos 1_270_000_000_000_000 *ℤ pos W) -ℤ y' → (y +ℤ fine (gap - 1)) ≤ℤ z
below p D E F W gap past y y' z some even all is none low low' half = omega (arith, ints, some, even, all, is, none, low, low', half)

-- turned ones: it ends there, but for what is rounded
beside : (p D E F W w gap past : ℕ) (x x' z : ℤ) → E ≡ F → W * 1_270_000 ≤ w → w - 1_270_000 * (E + F) + 1_270_000 * D < p * (1_270_000 * 2) + 1_270_000 * 2 → D ≡ gap → 0 < gap → past ≡ 0
    → fine (E + 1 * p) ≤ℤ (x +ℤ fine past) → fine (E + 1 * p) ≤ℤ (x' +ℤ fine past) → z ≡ (pos 1_270_000_000_000_000 *ℤ pos W) -ℤ x' → (z +ℤ fine (gap - 1)) ≤ℤ x
beside p D E F W w gap past x x' z even part least is some none right right' half = omega (arith, ints, even, part, least, is, some, none, right, right', half)

abbrev RowsApart : (page page' : Paper) → Room → Grid → Order → (s s' k l : ℕ) → Type 0
RowsApart page page' room g o s s' k l = HasPlace page room g s → HasPlace page' room g s' → IsHalfTurnOf page room.paper (item_in_cell page room g o s k) (back_in page room g o s 0 k)
    → AreApart (closer room) page (back_in page room g o s 0 k) page' (item_in_cell page' room g o s' l)

rows_apart : (b r : Bool) (page page' : Paper) (room : Room) (s s' k l : ℕ) → IsPaper page → IsPaper page' → room.trim ≡ 0 → IsEven room → 0 < room.gutter_across → k / 4 ≡ 1 → l / 4 ≡ 1
    → RowsApart page page' room (zine_grid b) (leaf_order r) s s' k l
rows_apart false r page page' room s s' k l is is' trim even some second second' place place' half =
    let g = zine_grid false in
    let h = nat_abs room.paper.height in
    let high = (fits page room g s place).some_high in
    let a = along_height room in
    inr (inr (λ q p of' of.
    below (pitch a h 2) (kept_length room.trim room.gutter_up) (kept_length room.trim room.bottom) (kept_length room.trim room.top) (whole_parts h) room.gutter_up (kept_length room.trim 0)
    (stands page' (item_in_cell page' room g (leaf_order r) s' l) q).y (stands page (item_in_cell page room g (leaf_order r) s k) p).y (stands page (back_in page room g (leaf_order r) s 0 k) p).y
    high (ap (kept_length room.trim) even.up) (cells_fit a h 2 1 high (omega arith)) (kept_is room.trim room.gutter_up trim) (kept_is room.trim 0 trim)
    (in_second page' room false r s' l is' place' second' q of').top (in_second page room false r s k is place second p of).top
    (half.up p)))
rows_apart true r page page' room s s' k l is is' trim even some second second' place place' half =
    let g = zine_grid true in
    let w = nat_abs room.paper.width in
    let a = along_width room in
    let D = kept_length room.trim room.gutter_across in
    inl (inl (λ p q of of'.
    beside (pitch a w 2) D (kept_length room.trim room.left) (kept_length room.trim room.right) (whole_parts w) w room.gutter_across (kept_length room.trim 0)
    (stands page' (item_in_cell page' room g (leaf_order r) s' l) q).x (stands page (item_in_cell page room g (leaf_order r) s k) p).x (stands page (back_in page room g (leaf_order r) s 0 k) p).x
    (ap (kept_length room.trim) even.across) (div-mul-le_self w 1_270_000) (lt-div-mul-add {a = left_free a w + 1_270_000 * D} {b = 1_270_000 * 2} (omega arith)) (kept_is room.trim room.gutter_across trim) some (kept_is room.trim 0 trim)
    (in_second page' room true r s' l is' place' second' q of').left (in_second page room true r s k is place second p of).left
    (half.across p)))

in_second_row : (k : ℕ) → 4 ≤ k → k < 8 → k / 4 ≡ 1
in_second_row k least most = omega (arith, least, most)

pages_apart : (t : Setting) (page page' : Paper) (k l : ℕ) → AreZineCells t → IsPaper page → IsPaper page' → IsPaper t.room.paper → why_not_fitted t page ≡ None → why_not_fitted t page' ≡ None → 4 ≤ k → k < 8 → 4 ≤ l → l < 8
    → AreApart (closer t.room) page (fitted_back t page k) page' (fitted t page' l)
pages_apart t page page' k l cells is is' on h h' from to from' to' =
    let eight = eight_cells t cells in
    let many : 2 ≤ size t.grid = omega (arith, eight) in
    let one = in_cell t page k l (one_of_many t page many) h in
    let other = in_cell t page' l k (one_of_many t page' many) h' in
    let s = scale_on t page in
    let s' = scale_on t page' in
    let back = stands_back t page k is on (omega (arith, to, eight)) (scale_of_many t page many h) in
    let half : IsHalfTurnOf page t.room.paper (item_in_cell page t.room t.grid t.order s k) (fitted_back t page k) =
    subst (λ i. IsHalfTurnOf page t.room.paper i (fitted_back t page k)) one.0 (back.turned (one_of_many t page many)) in
    let apart : RowsApart page page' t.room t.grid t.order s s' k l =
    subst (λ g. RowsApart page page' t.room g t.order s s' k l) (sym cells.grid_is)
    (subst (λ o. RowsApart page page' t.room (zine_grid t.grid.turned) o s s' k l) (sym cells.order_is)
    (rows_apart t.grid.turned t.order.right_to_left page page' t.room s s' k l is is' cells.untrimmed cells.even cells.some_across (in_second_row k from to) (in_second_row l from' to'))) in
    subst (AreApart (closer t.room) page (fitted_back t page k) page') (sym other.0) (apart one.1 other.1 half)

-- ---- two slots

first_and_second : (f : Filling) (k l : ℕ) (one other : Option ℕ) → AreZineCells f.setting → 4 ≤ k → k < 8 → 4 ≤ l → l < 8 → EntryFits f one → EntryFits f other
    → SlotsAreApart (closer f.setting.room) (slot_on f true k one) (slot_on f false l other)
first_and_second f k l None other cells from to from' to' has has' = tt
first_and_second f k l (Some page) None cells from to from' to' has has' = tt
first_and_second f k l (Some page) (Some page') cells from to from' to' has has' =
    pages_apart f.setting (f.paper_of page) (f.paper_of page') k l cells has.page_is has'.page_is has.sheet_is has.fits has'.fits from to from' to'

turned_round : (room : Room) (one other : MadeSlot) → SlotsAreApart room other one → SlotsAreApart room one other
turned_round room Blank other h = tt
turned_round room (Placed page item paper) Blank h = tt
turned_round room (Placed page item paper) (Placed page' item' paper') h = other_way room paper paper' item item' h

-- what is apart by the gap is so by less
by_less : (x y : ℤ) (gap : ℕ) → (x +ℤ fine gap) ≤ℤ y → (x +ℤ fine (gap - 1)) ≤ℤ y
by_less x y gap h = omega (arith, ints, h)

still_apart : (room : Room) (one other : MadeSlot) → SlotsAreApart room one other → SlotsAreApart (closer room) one other
still_apart room Blank other h = tt
still_apart room (Placed page item paper) Blank h = tt
still_apart room (Placed page item paper) (Placed page' item' paper') (inl (inl h)) = inl (inl (λ p q of of'. by_less _ _ room.gutter_across (h p q of of')))
still_apart room (Placed page item paper) (Placed page' item' paper') (inl (inr h)) = inl (inr (λ p q of of'. by_less _ _ room.gutter_across (h p q of of')))
still_apart room (Placed page item paper) (Placed page' item' paper') (inr (inl h)) = inr (inl (λ p q of of'. by_less _ _ room.gutter_up (h p q of of')))
still_apart room (Placed page item paper) (Placed page' item' paper') (inr (inr h)) = inr (inr (λ p q of of'. by_less _ _ room.gutter_up (h p q of of')))

still_inside : (room : Room) (slot : MadeSlot) → SlotIsInside room slot → SlotIsInside (closer room) slot
still_inside room Blank h = tt
still_inside room (Placed page item paper) h =
    λ p of. let at = h p of in record { left = at.left; right = at.right; bottom = at.bottom; top = at.top }

-- where it lies in its half of the sheet
abbrev pub half_cell : Bool → ℕ → ℕ
half_cell b c = if b then 7 - c else c

apart_by : (b b' : Bool) (f : Filling) (c d : ℕ) (one other : Option ℕ) → AreZineCells f.setting → c < 8 → d < 8 → c ≢ d → nat_lt c 4 ≡ b → nat_lt d 4 ≡ b' → EntryFits f one → EntryFits f other
    → SlotsAreApart (closer f.setting.room) (slot_on f b (half_cell b c) one) (slot_on f b' (half_cell b' d) other)
apart_by true true f c d one other cells in_c in_d differ e e' has has' =
    let all = eight_cells f.setting cells in
    still_apart f.setting.room _ _ (slots_apart f true (7 - c) (7 - d) one other (omega (arith, all)) (omega (arith, all)) (λ same. differ (omega (arith, same, in_c, in_d))) has has')
apart_by false false f c d one other cells in_c in_d differ e e' has has' =
    let all = eight_cells f.setting cells in
    still_apart f.setting.room _ _ (slots_apart f false c d one other (omega (arith, all, in_c)) (omega (arith, all, in_d)) differ has has')
apart_by true false f c d one other cells in_c in_d differ e e' has has' =
    first_and_second f (7 - c) d one other cells (omega (arith, ltb-true c 4 e)) (omega arith) (ltb-false d 4 e') in_d has has'
apart_by false true f c d one other cells in_c in_d differ e e' has has' =
    turned_round (closer f.setting.room) (slot_on f false c one) (slot_on f true (7 - d) other)
    (first_and_second f (7 - d) c other one cells (omega (arith, ltb-true d 4 e')) (omega arith) (ltb-false c 4 e) in_c has' has)

inside_by : (b : Bool) (f : Filling) (c : ℕ) (entry : Option ℕ) → AreZineCells f.setting → c < 8 → EntryFits f entry → SlotIsInside (closer f.setting.room) (slot_on f b (half_cell b c) entry)
inside_by true f c entry cells in_c has =
    let all = eight_cells f.setting cells in
    still_inside f.setting.room _ (slot_inside f true (7 - c) entry (λ e. record { many = omega (arith, all); even = cells.even }) (omega (arith, all)) has)
inside_by false f c entry cells in_c has =
    let all = eight_cells f.setting cells in
    still_inside f.setting.room _ (slot_inside f false c entry (not_turned f.setting) (omega (arith, all, in_c)) has)

-- ---- all sheets

zines_stand : (f : Filling) (sheets cells : ℕ) (entry : (s c : ℕ) → Option ℕ) → AreZineCells f.setting → cells ≡ 8 → ((s c : ℕ) → s < sheets → c < cells → EntryFits f (entry s c))
    → AllStand (closer f.setting.room) (map (λ s. record {
      paper = f.setting.room.paper;
      slots = map (λ c. zine_slot f c (entry s c)) (range_with_len 0 cells);
    }) (range_with_len 0 sheets))
zines_stand f sheets cells entry zine all fits =
    each_of (StandsInRoom (closer f.setting.room)) (λ s. record {
      paper = f.setting.room.paper;
      slots = map (λ c. zine_slot f c (entry s c)) (range_with_len 0 cells);
    }) sheets (λ s less. record {
      paper = refl;
      inside = each_of (SlotIsInside (closer f.setting.room)) (λ c. zine_slot f c (entry s c)) cells
          (λ c within. inside_by (nat_lt c 4) f c (entry s c) zine (omega (arith, within, all)) (fits s c less within));
      apart = each_two_of (SlotsAreApart (closer f.setting.room)) (λ c. zine_slot f c (entry s c)) cells
          (λ c d in_c in_d differ. apart_by (nat_lt c 4) (nat_lt d 4) f c d (entry s c) (entry s d) zine (omega (arith, in_c, all)) (omega (arith, in_d, all)) differ refl refl (fits s c less in_c) (fits s d less in_d));
    })

-- ---- sheets of a shape

pub stand_by : (how : Scheme) (f : Filling) (row : Row) (leaves sheets cells n : ℕ) → MayBeFilled how f.setting → cells ≡ cell_count how f.setting
    → (let h : Shape = record { scheme = how; leaves = leaves; sheets = sheets; cells = cells } in
    ((s c : ℕ) → s < n → c < cells → CellFits h f row s c) → StandBy how f.setting (shaped h f row n))
stand_by (scheme.Grid some) f row leaves sheets cells n may all fits = let most = may.1 in filled_stand f n cells _ (omega (arith, most, all)) fits
stand_by (scheme.Cards some) f row leaves sheets cells n may all fits = let most = may.1 in filled_stand f n cells _ (omega (arith, most, all)) fits
stand_by (scheme.Stack some) f row leaves sheets cells n may all fits = let most = may.1 in filled_stand f n cells _ (omega (arith, most, all)) fits
stand_by scheme.Leaves f row leaves sheets cells n may all fits = filled_stand f n cells _ (omega (arith, all)) fits
stand_by (scheme.Booklet turned_backs creep) f row leaves sheets cells n may all fits =
    subst (λ k. LeavesStand f.setting turned_backs creep (shaped (record { scheme = scheme.Booklet turned_backs creep; leaves = leaves; sheets = sheets; cells = k }) f row n)) (sym all)
    (leaves_stand f turned_backs creep leaves n row may (λ s k less in_two. fits s k less (subst (λ m. k < m) (sym all) in_two)))
stand_by scheme.Zine f row leaves sheets cells n may all fits = zines_stand f n cells _ may all fits

shaped_plainly : (how : Scheme) (f : Filling) (row : Row) (leaves : ℕ) → (let cells = cell_count how f.setting in let sheets = sheet_count how cells (length row) in
    shaped (record { scheme = how; leaves = leaves; sheets = sheets; cells = cells }) f row sheets ≡ sheets_by_scheme how f leaves row)
shaped_plainly (scheme.Grid some) f row leaves = refl
shaped_plainly (scheme.Cards some) f row leaves = refl
shaped_plainly (scheme.Stack some) f row leaves = refl
shaped_plainly scheme.Leaves f row leaves = refl
shaped_plainly (scheme.Booklet turned_backs creep) f row leaves = refl
shaped_plainly scheme.Zine f row leaves = refl

pub shaped_so : (how : Scheme) (f : Filling) (row : Row) (leaves sheets cells : ℕ) → cells ≡ cell_count how f.setting → sheets ≡ sheet_count how cells (length row)
    → shaped (record { scheme = how; leaves = leaves; sheets = sheets; cells = cells }) f row sheets ≡ sheets_by_scheme how f leaves row
shaped_so how f row leaves sheets cells all many =
    ap (λ n. shaped (record { scheme = how; leaves = leaves; sheets = n; cells = cells }) f row n) many
    ∙ (ap (λ k. shaped (record { scheme = how; leaves = leaves; sheets = sheet_count how k (length row); cells = k }) f row (sheet_count how k (length row))) all
    ∙ shaped_plainly how f row leaves)
