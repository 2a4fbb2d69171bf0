-- Each page of a booklet lies in its half, also if it is turned, and sides keep what is left of the gap.
use Rattle.std.proofs.Common.{arith, ◌≡◌, ◌∙◌, ℕ, ◌+◌, ◌*◌, ◌<◌, Bool, true, false, List, Option, Some, None, ap, refl, subst, sym, length, map}
use Rattle.std.specs.Prelude.{ℤ, pos, ◌+ℤ◌, ◌*ℤ◌, ◌≤ℤ◌, nat_abs, slice_index_or}
use Rattle.std.specs.List.{range_with_len}
use Rattle.std.proofs.lemmas.Int.{ints}
use Rattle.rules.specs.Papers.{Paper, Pt}
use Rattle.rules.specs.Placement.{Point}
use Rattle.rules.specs.Sheets.{blocks}
use Rattle.rules.specs.Specification.{Item, Measure, Turn, Upright, Left, Half, Right}
use Rattle.rules.specs.Made.{Blank, MadeSheet, MadeSlot, Placed}
use Rattle.rules.specs.Rows.{Row}
use Rattle.layouts.specs.declared.setting.Setting.{Setting}
use Rattle.layouts.specs.Cells.{kept_length, size}
use Rattle.layouts.specs.Laws.{LiesInCell}
use Rattle.layouts.specs.Placed.{IsOfPage, Room, fine, stands}
use Rattle.layouts.proofs.InGrid.{on_sheet, sides_are}
use Rattle.row_sheets.specs.Creep.{AreHalves, creep_on, creeping, creeping_sheets, creeping_slot, moved_up, up_to_fold}
use Rattle.row_sheets.specs.Filled.{Filling, SlotIsInside, grid_entry, in_half, is_turned}
use Rattle.row_sheets.specs.Halves.{creeping_half, crept_room, is_before_fold, side_turn}
use Rattle.row_sheets.specs.Standing.{AllFitOnLeaves, EntryCreeps, EntryFits, StandsInRoom, fold_on}
use Rattle.row_sheets.proofs.Halves.{slot_lies}
use Rattle.row_sheets.proofs.LeftGap.{side_of, side_stands, slot_stays}
use Rattle.row_sheets.proofs.OnLeaves.{SlotStays, fits_in, line, line_in_middle}
use Rattle.row_sheets.proofs.OnSheets.{numbered as numbered_in_turn}
use Rattle.row_runs.specs.SwappedMargins.{swapped}
use Rattle.row_runs.specs.Turning.{turn_sum, turned_item, turned_paper, turned_sheet, turned_slot}
use Rattle.row_runs.specs.Written.{AreInHalves, KeepFold, KeepLeaves, SlotIsInHalf, SlotKeepsFold}
use Rattle.row_runs.proofs.Backs.{fused}
use Rattle.row_runs.proofs.Boxes.{from_start, point, turned_stays_in_cell}
use Rattle.row_runs.proofs.InCells.{IsWhole, SlotIsWhole, even_either, swapped_room_of, numbered, zine_is_whole}
use Rattle.row_runs.proofs.Rooms.{SlotIsWhole as SlotIsWholeSo, all_apart, box, inside}

-- ---- a page

two_halves : (t : Setting) → AreHalves t → 1 < size t.grid
two_halves t halved = let two : size t.grid ≡ 2 = ap size halved.grid_is in omega (arith, two)

-- it is moved by whole 10^-5 of a point, also where its leaf creeps
half_is_whole : (f : Filling) (by_half : Bool) (k page : ℕ) → 1 < size f.setting.grid → EntryFits f (Some page) → IsWhole (f.paper_of page) (in_half f.setting by_half (f.paper_of page) k)
unfolding SlotIsWhole
half_is_whole f true k page many has = zine_is_whole true f k (Some page) many has
half_is_whole f false k page many has = zine_is_whole false f k (Some page) many has

moved_is_whole : (page : Paper) (by : ℤ) (item : Item) → IsWhole page item → IsWhole page (moved_up by item)
moved_is_whole page by item is =
    let y = is.y in
    let sum : (pos 10_000 *ℤ y) +ℤ (pos 10_000 *ℤ by) ≡ pos 10_000 *ℤ (y +ℤ by) = omega (arith, ints) in
    record {
      sides = is.sides;
      scale = is.scale;
      scale_is = is.scale_is;
      x = is.x;
      y = is.y +ℤ by;
      x_is = is.x_is;
      y_is = ap (λ (m : Measure). record { number = m.number +ℤ (pos 10_000 *ℤ by); unit = Pt }) is.y_is ∙ ap (λ n. record { number = n; unit = Pt }) sum;
    }

pub page_is_whole : (f : Filling) (by_half : Bool) (k creep page : ℕ) → AreHalves f.setting → EntryCreeps f creep (Some page) → IsWhole (f.paper_of page) (creeping f.setting by_half (f.paper_of page) k creep)
page_is_whole f by_half k creep page halved has =
    let paper = f.paper_of page in
    moved_is_whole paper (up_to_fold f.setting.order.right_to_left by_half k creep) (in_half f.setting by_half paper k)
    (half_is_whole f by_half k page (two_halves f.setting halved) (fits_in f.setting paper creep has))

slot_in_half : (turn : ℕ → Turn) (f : Filling) (by_half : Bool) (k creep : ℕ) (entry : Option ℕ) → k < 2 → AreHalves f.setting → EntryCreeps f creep entry
    → SlotIsInHalf turn f.setting by_half k creep (turned_slot turn (creeping_slot f by_half k creep entry))
slot_in_half turn f by_half k creep None less halved has = tt
slot_in_half turn f by_half k creep (Some page) less halved has =
    let t = f.setting in
    let paper = f.paper_of page in
    let lies = slot_lies f by_half k creep (Some page) less halved has in
    let is = page_is_whole f by_half k creep page halved has in
    let sides = sides_are paper is.sides in (
      ap (turn_sum (turn page)) lies.turn,
      turned_stays_in_cell (turn page) t.room paper (creeping_half t by_half k creep) (kept_length t.room.trim 0) (creeping t by_half paper k creep) (nat_abs paper.width) (nat_abs paper.height) is.scale is.x is.y
          (ap (λ (p : Paper). p.width) sides) (ap (λ (p : Paper). p.height) sides) is.scale_is is.x_is is.y_is lies.in_cell,
    )

-- if nothing is trimmed it lies between the margins
slot_keeps : (turn : ℕ → Turn) (f : Filling) (by_half : Bool) (k creep : ℕ) (entry : Option ℕ) → k < 2 → f.setting.room.trim ≡ 0 → AreHalves f.setting → EntryCreeps f creep entry
    → SlotIsInside (crept_room f.setting.room creep) (turned_slot turn (creeping_slot f by_half k creep entry))
slot_keeps turn f by_half k creep None less none halved has = tt
slot_keeps turn f by_half k creep (Some page) less none halved has = λ p of.
    let t = f.setting in
    let paper = f.paper_of page in
    let room = crept_room t.room creep in
    let item = turned_item (turn page) paper (creeping t by_half paper k creep) in
    let cell = creeping_half t by_half k creep in
    let on = (slot_lies f by_half k creep (Some page) less halved has).is_on in
    let at = (slot_in_half turn f by_half k creep (Some page) less halved has).1 p of in
    on_sheet room (stands (turned_paper (turn page) paper) item p) has.sheet_is
    (inside room cell (stands (turned_paper (turn page) paper) item p) has.sheet_is (record { left = on.left; right = on.right; bottom = on.bottom; top = on.top })
    (subst (λ n. LiesInCell cell n (stands (turned_paper (turn page) paper) item p)) (ap (λ l. kept_length l (kept_length l 0)) none) at))

slot_is_whole : (f : Filling) (by_half : Bool) (k creep : ℕ) (entry : Option ℕ) → k < 2 → AreHalves f.setting → EntryCreeps f creep entry → SlotIsWholeSo (side_turn by_half) (creeping_slot f by_half k creep entry)
unfolding SlotIsWholeSo
slot_is_whole f by_half k creep None less halved has = tt
slot_is_whole f by_half k creep (Some page) less halved has =
    let is = page_is_whole f by_half k creep page halved has in
    record { sides = is.sides; turned_so = (slot_lies f by_half k creep (Some page) less halved has).turn; scale = is.scale; scale_is = is.scale_is; x = is.x; y = is.y; x_is = is.x_is; y_is = is.y_is }

-- ---- all sides

-- what holds of each side of a booklet, with its pages turned
on_sides : (P : ℕ → MadeSheet → Type 0) (m : Bool) (turn : ℕ → Turn) (f : Filling) (turned_backs : Bool) (creep leaves : ℕ) (row : Row) → AreHalves f.setting
    → ((s : ℕ) → P s (turned_sheet turn (side_of f (is_turned turned_backs s) (creep_on creep leaves s) (grid_entry 2 row s 0) (grid_entry 2 row s 1))))
    → (s : ℕ) (d : MadeSheet) → s < length (map (turned_sheet turn) (swapped (swapped_room_of m f.setting.room) (creeping_sheets f turned_backs creep leaves row)))
    → P s (slice_index_or (map (turned_sheet turn) (swapped (swapped_room_of m f.setting.room) (creeping_sheets f turned_backs creep leaves row))) s d)
on_sides P m turn f turned_backs creep leaves row halved each =
    let side : ℕ → MadeSheet = λ s. side_of f (is_turned turned_backs s) (creep_on creep leaves s) (grid_entry 2 row s 0) (grid_entry 2 row s 1) in
    let sheets = blocks 2 (length row) in
    let All : List MadeSheet → Type 0 = λ xs. (s : ℕ) (d : MadeSheet) → s < length xs → P s (slice_index_or xs s d) in
    subst (λ xs. All (map (turned_sheet turn) xs)) (sym (even_either m f.setting.room halved.even.across (creeping_sheets f turned_backs creep leaves row)))
    (subst All (fused (turned_sheet turn) side (range_with_len 0 sheets)) (numbered_in_turn P (λ s. turned_sheet turn (side s)) sheets (λ s less. each s)))

pub halves_lie : (m : Bool) (turn : ℕ → Turn) (f : Filling) (turned_backs : Bool) (creep leaves : ℕ) (row : Row) → AreHalves f.setting → AllFitOnLeaves f creep leaves row
    → AreInHalves turn f.setting turned_backs creep leaves (map (turned_sheet turn) (swapped (swapped_room_of m f.setting.room) (creeping_sheets f turned_backs creep leaves row)))
halves_lie m turn f turned_backs creep leaves row halved fit s k sheet d less within =
    on_sides (λ s x. (k : ℕ) (d : MadeSlot) → k < length x.slots → SlotIsInHalf turn f.setting (is_turned turned_backs s) k (creep_on creep leaves s) (slice_index_or x.slots k d)) m turn f turned_backs creep leaves row halved
    (λ s. let half = is_turned turned_backs s in let by = creep_on creep leaves s in
    numbered (λ k. SlotIsInHalf turn f.setting half k by) (turned_slot turn) (λ k. creeping_slot f half k by (grid_entry 2 row s k)) 2
    (λ k in_k. slot_in_half turn f half k by (grid_entry 2 row s k) in_k halved (fit s k in_k))) s sheet less k d within

-- two corners of a box are before a line, or behind it; so is what is as long as the box, rounded up to whole 10^-5 of a point, but for
-- one of twice as many
still_before : (t : Turn) (x y : ℤ) (n m l k T : ℕ) (a b : ℤ) → 1_270_000_000_000_000 * l < n + 1_270_000_000_000_000 → 1_270_000_000_000_000 * k < m + 1_270_000_000_000_000
    → (pos 2 *ℤ (from_start t x y (point (pos 0) (pos 0))).y) ≤ℤ fine T → (pos 2 *ℤ (from_start t x y (point (pos n) (pos m))).y) ≤ℤ fine T
    → pos 0 ≤ℤ a → a ≤ℤ fine l → pos 0 ≤ℤ b → b ≤ℤ fine k → (pos 2 *ℤ (from_start t x y (point a b)).y) ≤ℤ fine (T + 1)
still_before Upright x y n m l k T a b wide high one other a0 a1 b0 b1 = omega (arith, ints, other, high, b1)
still_before Left x y n m l k T a b wide high one other a0 a1 b0 b1 = omega (arith, ints, other, wide, a1)
still_before Half x y n m l k T a b wide high one other a0 a1 b0 b1 = omega (arith, ints, one, b0)
still_before Right x y n m l k T a b wide high one other a0 a1 b0 b1 = omega (arith, ints, one, a0)

still_behind : (t : Turn) (x y : ℤ) (n m l k T : ℕ) (a b : ℤ) → 1_270_000_000_000_000 * l < n + 1_270_000_000_000_000 → 1_270_000_000_000_000 * k < m + 1_270_000_000_000_000
    → fine T ≤ℤ (pos 2 *ℤ (from_start t x y (point (pos 0) (pos 0))).y) → fine T ≤ℤ (pos 2 *ℤ (from_start t x y (point (pos n) (pos m))).y)
    → pos 0 ≤ℤ a → a ≤ℤ fine l → pos 0 ≤ℤ b → b ≤ℤ fine k → fine T ≤ℤ ((pos 2 *ℤ (from_start t x y (point a b)).y) +ℤ fine 1)
still_behind Upright x y n m l k T a b wide high one other a0 a1 b0 b1 = omega (arith, ints, one, b0)
still_behind Left x y n m l k T a b wide high one other a0 a1 b0 b1 = omega (arith, ints, one, a0)
still_behind Half x y n m l k T a b wide high one other a0 a1 b0 b1 = omega (arith, ints, other, high, b1)
still_behind Right x y n m l k T a b wide high one other a0 a1 b0 b1 = omega (arith, ints, other, wide, a1)

slot_keeps_fold : (turn : ℕ → Turn) (t : Turn) (before : Bool) (room : Room) (T : ℕ) (slot : MadeSlot) → room.trim ≡ 0 → SlotIsWholeSo t slot → SlotStays before room T slot → SlotKeepsFold before room T (turned_slot turn slot)
unfolding SlotIsWholeSo
slot_keeps_fold turn t true room T Blank none is h = tt
slot_keeps_fold turn t false room T Blank none is h = tt
slot_keeps_fold turn t true room T (Placed page item paper) none is h = λ p of.
    let b = box (turn page) t paper item is in
    let u = b.all p (subst (λ l. IsOfPage l (turned_paper (turn page) paper) p) none of) in
    let off : (r : Point) → IsOfPage 0 paper r → IsOfPage room.trim paper r = λ r. subst (λ l. IsOfPage l paper r) (sym none) in
    let P : Point → Type 0 = λ r. (pos 2 *ℤ r.y) ≤ℤ fine T in
    subst (λ (r : Point). (pos 2 *ℤ r.y) ≤ℤ fine (T + 1)) (sym u.is)
    (still_before t b.x b.y b.n b.m b.l b.k T u.a u.b b.wide b.high (subst P b.first.2 (h b.first.0 (off b.first.0 b.first.1))) (subst P b.last.2 (h b.last.0 (off b.last.0 b.last.1))) u.left u.right u.bottom u.top)
slot_keeps_fold turn t false room T (Placed page item paper) none is h = λ p of.
    let b = box (turn page) t paper item is in
    let u = b.all p (subst (λ l. IsOfPage l (turned_paper (turn page) paper) p) none of) in
    let off : (r : Point) → IsOfPage 0 paper r → IsOfPage room.trim paper r = λ r. subst (λ l. IsOfPage l paper r) (sym none) in
    let P : Point → Type 0 = λ r. fine T ≤ℤ (pos 2 *ℤ r.y) in
    subst (λ (r : Point). fine T ≤ℤ ((pos 2 *ℤ r.y) +ℤ fine 1)) (sym u.is)
    (still_behind t b.x b.y b.n b.m b.l b.k T u.a u.b b.wide b.high (subst P b.first.2 (h b.first.0 (off b.first.0 b.first.1))) (subst P b.last.2 (h b.last.0 (off b.last.0 b.last.1))) u.left u.right u.bottom u.top)

leaves_fold : (m : Bool) (turn : ℕ → Turn) (f : Filling) (turned_backs : Bool) (creep leaves : ℕ) (row : Row) → f.setting.room.trim ≡ 0 → AreHalves f.setting → AllFitOnLeaves f creep leaves row
    → KeepFold f.setting turned_backs (map (turned_sheet turn) (swapped (swapped_room_of m f.setting.room) (creeping_sheets f turned_backs creep leaves row)))
leaves_fold m turn f turned_backs creep leaves row none halved fit =
    let room = f.setting.room in
    let b = f.setting.order.right_to_left in
    let middle = line_in_middle room halved.even in
    record {
      twice = line room;
      no_farther = middle.0;
      no_nearer = middle.1;
      sides = λ s k sheet d less within.
          on_sides (λ s x. (k : ℕ) (d : MadeSlot) → k < length x.slots
          → SlotKeepsFold (is_before_fold b (is_turned turned_backs s) k) room (fold_on room (is_turned turned_backs s) (line room)) (slice_index_or x.slots k d)) m turn f turned_backs creep leaves row halved
          (λ s. let half = is_turned turned_backs s in let by = creep_on creep leaves s in
          numbered (λ k. SlotKeepsFold (is_before_fold b half k) room (fold_on room half (line room))) (turned_slot turn) (λ k. creeping_slot f half k by (grid_entry 2 row s k)) 2
          (λ k in_k. let entry = grid_entry 2 row s k in
          slot_keeps_fold turn (side_turn half) (is_before_fold b half k) room (fold_on room half (line room)) (creeping_slot f half k by entry) none
          (slot_is_whole f half k by entry in_k halved (fit s k in_k)) (slot_stays f half k by entry in_k halved (fit s k in_k)))) s sheet less k d within;
    }

pub leaves_keep : (m : Bool) (turn : ℕ → Turn) (f : Filling) (turned_backs : Bool) (creep leaves : ℕ) (row : Row) → AreHalves f.setting → AllFitOnLeaves f creep leaves row
    → KeepLeaves f.setting turned_backs creep leaves (map (turned_sheet turn) (swapped (swapped_room_of m f.setting.room) (creeping_sheets f turned_backs creep leaves row)))
leaves_keep m turn f turned_backs creep leaves row halved fit none = (
  on_sides (λ s. StandsInRoom (crept_room f.setting.room (creep_on creep leaves s))) m turn f turned_backs creep leaves row halved
      (λ s. let half = is_turned turned_backs s in let by = creep_on creep leaves s in let slot : ℕ → MadeSlot = λ k. creeping_slot f half k by (grid_entry 2 row s k) in record {
        paper = refl;
        inside = numbered (λ k. SlotIsInside (crept_room f.setting.room by)) (turned_slot turn) slot 2
            (λ k in_k. slot_keeps turn f half k by (grid_entry 2 row s k) in_k none halved (fit s k in_k));
        apart = all_apart turn (side_turn half) (crept_room f.setting.room by) (map slot (range_with_len 0 2)) none
            (numbered_in_turn (λ k. SlotIsWholeSo (side_turn half)) slot 2 (λ k in_k. slot_is_whole f half k by (grid_entry 2 row s k) in_k halved (fit s k in_k)))
            (side_stands f half by (grid_entry 2 row s 0) (grid_entry 2 row s 1) halved (fit s 0 (omega arith)) (fit s 1 (omega arith))).apart;
      }),
  leaves_fold m turn f turned_backs creep leaves row none halved fit,
)
