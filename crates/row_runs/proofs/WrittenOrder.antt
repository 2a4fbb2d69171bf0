-- Neither a turn nor a move changes which page is in which slot, so what is written is read as it is laid.
use Rattle.std.proofs.Common.{◌≡◌, ◌∙◌, ℕ, suc, zero, ◌+◌, ◌*◌, ◌/◌, ◌++◌, length, Bool, true, false, List, [], ◌∷◌, Option, ap, ap₂, refl, subst, sym, map}
use Rattle.std.specs.Prelude.{flat_map, slice_index_or}
use Rattle.std.specs.List.{range_with_len}
use Rattle.rules.specs.Sheets.{blocks}
use Rattle.rules.specs.Specification.{Turn}
use Rattle.rules.specs.Choice.{sides_for}
use Rattle.rules.specs.Leaves.{Face, read_signature}
use Rattle.rules.specs.Made.{Blank, MadeSheet, MadeSlot, Placed}
use Rattle.rules.specs.Rows.{Row}
use Rattle.layouts.specs.Cells.{size}
use Rattle.layouts.specs.Placed.{Room}
use Rattle.rows.specs.Sewing.{signing_of}
use Rattle.row_sheets.specs.Bound.{as_bound, face, face_in, faces_from, is_first_left, shown_in}
use Rattle.row_sheets.specs.Filled.{behind_in, card_sheets, duplex_sheets, grid_sheets, is_turned, stack_sheets, zine_sheets}
use Rattle.row_sheets.specs.Stacked.{pile, shown_at, shown_on, turned_pile}
use Rattle.row_sheets.specs.Shapes.{filling}
use Rattle.row_sheets.proofs.Stacking.{cards_are_read, grid_is_read, leaves_are_read, stack_is_read}
use Rattle.row_sheets.proofs.Zines.{zine_is_read}
use Rattle.row_sheets.specs.Zine.{in_hand, read_folded}
use Rattle.rules.specs.Papers.{Paper}
use Rattle.row_runs.specs.declared.sheet_request.Laying.{Laying}
use Rattle.row_runs.specs.declared.sheet_request.Laying.TheVariants as laying
use Rattle.row_sheets.specs.declared.fill.Scheme.TheVariants as scheme
use Rattle.row_runs.specs.SwappedMargins.{swapped_room_on, swapped_from, moved_sheet, moved_slot}
use Rattle.row_runs.specs.ReadAsBound.{AreReadAs}
use Rattle.row_runs.specs.Runs.{swapped_room_for, page_count}
use Rattle.row_runs.specs.Sheets.{laying_for, leaves_in, row_printed, sewn, sheets_laid}
use Rattle.row_runs.specs.Turning.{turn_on, turned_sheet, turned_slot}
use Rattle.row_runs.specs.Written.{AreReadInOrder, WrittenAreRead, WrittenIsBound}
use Rattle.row_runs.proofs.ReadInOrder.{asked_is_read}

-- ---- a sheet

same_page : (turn : ℕ → Turn) (m : Option Room) (slot : MadeSlot) → shown_in (turned_slot turn (moved_slot m slot)) ≡ shown_in slot
same_page turn m Blank = refl
same_page turn m (Placed page item paper) = refl

same_shown : (turn : ℕ → Turn) (m : Option Room) (slots : List MadeSlot) (k : ℕ) → shown_in (slice_index_or (map (turned_slot turn) (map (moved_slot m) slots)) k Blank) ≡ shown_in (slice_index_or slots k Blank)
same_shown turn m [] k = refl
same_shown turn m (slot ∷ slots) zero = same_page turn m slot
same_shown turn m (slot ∷ slots) (suc k) = same_shown turn m slots k

-- a sheet as it is written, and all of them from one on
abbrev written : (ℕ → Turn) → Option Room → MadeSheet → MadeSheet
written turn m sheet = turned_sheet turn (moved_sheet m sheet)

abbrev written_from : (ℕ → Turn) → Option Room → (s : ℕ) → List MadeSheet → List MadeSheet
written_from turn m s laid = map (turned_sheet turn) (swapped_from m s laid)

same_at : (turn : ℕ → Turn) (m : Option Room) (sheet : MadeSheet) (c : ℕ) → shown_at (written turn m sheet) c ≡ shown_at sheet c
same_at turn m sheet c = same_shown turn m sheet.slots c

-- ---- grids and cards

same_cells : (turn : ℕ → Turn) (m : Option Room) (cells : ℕ) (sheet : MadeSheet) → shown_on cells (written turn m sheet) ≡ shown_on cells sheet
same_cells turn m cells sheet = ap (λ (f : ℕ → Option ℕ). map f (range_with_len 0 cells)) (λ i c. same_at turn m sheet c i)

same_grid : (turn : ℕ → Turn) (m : Option Room) (s cells : ℕ) (laid : List MadeSheet) → flat_map (shown_on cells) (written_from turn m s laid) ≡ flat_map (shown_on cells) laid
same_grid turn m s cells [] = refl
same_grid turn m s cells (sheet ∷ laid) = ap₂ (λ (x y : Row). x ++ y) (same_cells turn (swapped_room_on m s) cells sheet) (same_grid turn m (s + 1) cells laid)

same_cards : (turn : ℕ → Turn) (m : Option Room) (s cells : ℕ) (laid : List MadeSheet) → map (shown_on cells) (written_from turn m s laid) ≡ map (shown_on cells) laid
same_cards turn m s cells [] = refl
same_cards turn m s cells (sheet ∷ laid) = ap₂ (λ (x : Row) (xs : List Row). x ∷ xs) (same_cells turn (swapped_room_on m s) cells sheet) (same_cards turn m (s + 1) cells laid)

-- ---- stacks

same_pile : (turn : ℕ → Turn) (m : Option Room) (s : ℕ) (laid : List MadeSheet) (c : ℕ) → pile (written_from turn m s laid) c ≡ pile laid c
same_pile turn m s [] c = refl
same_pile turn m s (sheet ∷ laid) c = ap₂ (λ (x : Option ℕ) (xs : Row). x ∷ xs) (same_at turn (swapped_room_on m s) sheet c) (same_pile turn m (s + 1) laid c)

same_leaves : (turn : ℕ → Turn) (m : Option Room) (s : ℕ) (laid : List MadeSheet) (c b : ℕ) → turned_pile c b (written_from turn m s laid) ≡ turned_pile c b laid
same_leaves turn m s [] c b = refl
same_leaves turn m s (front ∷ []) c b = ap (λ (x : Option ℕ). x ∷ []) (same_at turn (swapped_room_on m s) front c)
same_leaves turn m s (front ∷ back ∷ laid) c b =
    ap₂ (λ (x y : Option ℕ). x ∷ y ∷ turned_pile c b (written_from turn m (s + 1 + 1) laid)) (same_at turn (swapped_room_on m s) front c) (same_at turn (swapped_room_on m (s + 1)) back b)
    ∙ ap (λ (xs : Row). shown_at front c ∷ shown_at back b ∷ xs) (same_leaves turn m (s + 1 + 1) laid c b)

-- ---- zines

same_folded : (turn : ℕ → Turn) (m : Option Room) (s : ℕ) (laid : List MadeSheet) → flat_map read_folded (written_from turn m s laid) ≡ flat_map read_folded laid
same_folded turn m s [] = refl
same_folded turn m s (sheet ∷ laid) =
    ap₂ (λ (x y : Row). x ++ y) (λ i. map (λ p. same_at turn (swapped_room_on m s) sheet (p.row * 4 + p.column) i) in_hand) (same_folded turn m (s + 1) laid)

-- ---- booklets

same_face : (first_is_left : Bool) (turn : ℕ → Turn) (m : Option Room) (side : MadeSheet) → face_in first_is_left (written turn m side) ≡ face_in first_is_left side
same_face true turn m side = ap₂ face (same_shown turn m side.slots 0) (same_shown turn m side.slots 1)
same_face false turn m side = ap₂ face (same_shown turn m side.slots 1) (same_shown turn m side.slots 0)

same_faces : (b turned_backs : Bool) (turn : ℕ → Turn) (m : Option Room) (s n : ℕ) (laid : List MadeSheet) → faces_from b turned_backs n (written_from turn m s laid) ≡ faces_from b turned_backs n laid
same_faces b turned_backs turn m s n [] = refl
same_faces b turned_backs turn m s n (side ∷ laid) =
    ap₂ (λ (x : Face) (xs : List Face). x ∷ xs) (same_face (is_first_left b (is_turned turned_backs n)) turn (swapped_room_on m s) side) (same_faces b turned_backs turn m (s + 1) (n + 1) laid)

-- ---- what is written

read_as_laid : (l : Laying) (leaves : ℕ) (papers : List Paper) (row : Row) (turn : ℕ → Turn) (m : Option Room) → AreReadInOrder l row (written_from turn m 0 (sheets_laid l leaves papers row))
read_as_laid (laying.InCells t (scheme.Grid cells)) leaves papers row turn m = same_grid turn m 0 cells (grid_sheets (filling t papers) cells row) ∙ grid_is_read (filling t papers) cells row
read_as_laid (laying.InCells t (scheme.Cards cells)) leaves papers row turn m = same_cards turn m 0 cells (card_sheets (filling t papers) cells row) ∙ cards_are_read (filling t papers) cells row
read_as_laid (laying.InCells t (scheme.Stack cells)) leaves papers row turn m =
    ap (λ (f : ℕ → Row). flat_map f (range_with_len 0 cells)) (λ i c. same_pile turn m 0 (stack_sheets (filling t papers) cells row) c i) ∙ stack_is_read (filling t papers) cells row
read_as_laid (laying.InCells t scheme.Leaves) leaves papers row turn m =
    ap (λ (f : ℕ → Row). flat_map f (range_with_len 0 (size t.grid))) (λ i c. same_leaves turn m 0 (duplex_sheets (filling t papers) row) c (behind_in t c) i) ∙ leaves_are_read (filling t papers) row
read_as_laid (laying.InCells t scheme.Zine) leaves papers row turn m = same_folded turn m 0 (zine_sheets (filling t papers) row) ∙ zine_is_read (filling t papers) row
read_as_laid (laying.InCells t (scheme.Booklet turned_backs creep)) leaves papers row turn m = tt
read_as_laid (laying.AsTheyAre blank) leaves papers row turn m = tt
read_as_laid (laying.Poster p) leaves papers row turn m = tt
read_as_laid (laying.BySpec spec sheet page) leaves papers row turn m = tt

pub written_are_read : WrittenAreRead
written_are_read j made are =
    let row = row_printed j.asked are.asked.row in
    let l = laying_for j.asked j.papers.now are.asked.row in
    subst (AreReadInOrder l row) (sym (are.turned ∙ ap (λ (xs : List MadeSheet). written_from (turn_on j.turns.now) (swapped_room_for j) 0 xs) are.asked.are_laid))
    (read_as_laid l (leaves_in (sewn j.asked) are.asked.row) j.papers.now row (turn_on j.turns.now) (swapped_room_for j))

pub written_is_bound : WrittenIsBound
written_is_bound j made t turned_backs creep how are is sewn_so =
    let b = t.order.right_to_left in
    let row = are.asked.row in
    let sides = sides_for (signing_of how) (length row) in
    subst (AreReadAs b turned_backs sides row) (sym are.turned)
    (ap (λ (faces : List Face). flat_map (λ signature. read_signature (sides / 4) (map (as_bound b) faces) signature) (range_with_len 0 (blocks sides (length row)))) (same_faces b turned_backs (turn_on j.turns.now) (swapped_room_for j) 0 0 are.laid)
    ∙ asked_is_read (page_count j) j.papers.now j.asked are.laid t turned_backs creep how are.may are.asked is sewn_so)
