-- What the sheets so far have in a cell.
use Rattle.std.proofs.Common.{arith, ◌≡◌, ◌∙◌, ℕ, ◌%◌, ◌<◌, List, [], length, Option, Some, None, refl, sym, ap, subst}
use Rattle.std.specs.Prelude.{IfSome, ◌&&◌, ◌==◌, map, slice_get, slice_index_or}
use Rattle.std.specs.List.{range_with_len}
use Rattle.std.proofs.lemmas.Simd.{map-map}
use Rattle.std.proofs.lemmas.Option.{get_or_from_slice_get}
use Rattle.std.proofs.lemmas.List.FromFn.{get_or-map-range_with_len, length-map-range_with_len}
use Rattle.rules.specs.Papers.{Paper}
use Rattle.rules.specs.Made.{MadeSlot, MadeSheet}
use Rattle.rules.specs.Rows.{Row}
use Rattle.sheet_plan.specs.OfSheets.{placed_of, slots_at}
use Rattle.sheet_plan.specs.declared.made.PlacedSlot.{PlacedSlot}
use Rattle.layouts.specs.declared.setting.Setting.{Setting}
use Rattle.row_sheets.specs.Filled.{Filling}
use Rattle.row_sheets.specs.Shapes.{entry_in_cell}
use Rattle.row_sheets.specs.Schemes.{CellFits, EntryFitsBy, IsOfCell, LieAlike, shaped, slot_by}
use Rattle.row_sheets.specs.declared.fill.Scheme.{Scheme}
use Rattle.row_sheets.specs.declared.fill.Scheme.TheVariants as scheme
use Rattle.row_sheets.specs.declared.fill.Shape.{Shape}
use Rattle.row_sheets.specs.Creep.{creep_on, creeping}
use Rattle.row_sheets.specs.Standing.{FitsOnLeaf, IsSlotFor}
use Rattle.row_sheets.proofs.Filling.{sheet}

-- ---- the slots of sheet s

slots_on : (paper : Paper) (h : (s c : ℕ) → MadeSlot) (made : List MadeSheet) (cells n s : ℕ) → made ≡ map (λ s. sheet paper (map (h s) (range_with_len 0 cells))) (range_with_len 0 n) → s < n
    → slots_at made s ≡ map (h s) (range_with_len 0 cells)
slots_on paper h made cells n s is within =
    ap (λ all. slots_at all s) is
    ∙ (ap (λ xs. slice_index_or xs s []) (map-map (λ (one : MadeSheet). one.slots) (λ s. sheet paper (map (h s) (range_with_len 0 cells))) (range_with_len 0 n))
    ∙ get_or-map-range_with_len (λ s. map (h s) (range_with_len 0 cells)) 0 n s s [] within (omega arith))

count_on : (paper : Paper) (h : (s c : ℕ) → MadeSlot) (made : List MadeSheet) (cells n s : ℕ) → made ≡ map (λ s. sheet paper (map (h s) (range_with_len 0 cells))) (range_with_len 0 n) → s < n
    → length (slots_at made s) ≡ cells
count_on paper h made cells n s is within = ap length (slots_on paper h made cells n s is within) ∙ length-map-range_with_len (h s) 0 cells

how_many : (paper : Paper) (h : (s c : ℕ) → MadeSlot) (made : List MadeSheet) (cells n : ℕ) → made ≡ map (λ s. sheet paper (map (h s) (range_with_len 0 cells))) (range_with_len 0 n) → length made ≡ n
how_many paper h made cells n is = ap length is ∙ length-map-range_with_len (λ s. sheet paper (map (h s) (range_with_len 0 cells))) 0 n

slot_at : (paper : Paper) (h : (s c : ℕ) → MadeSlot) (made : List MadeSheet) (cells n s c : ℕ) (slot : MadeSlot) → made ≡ map (λ s. sheet paper (map (h s) (range_with_len 0 cells))) (range_with_len 0 n) → s < n → c < cells
    → slice_get (slots_at made s) c ≡ Some slot → slot ≡ h s c
slot_at paper h made cells n s c slot is within in_cells at =
    sym (get_or_from_slice_get (slots_at made s) c slot slot at)
    ∙ (ap (λ xs. slice_index_or xs c slot) (slots_on paper h made cells n s is within)
    ∙ get_or-map-range_with_len (h s) 0 cells c c slot in_cells (omega arith))

pub sheets_shaped : (h : Shape) (f : Filling) (row : Row) (made : List MadeSheet) (n : ℕ) → made ≡ shaped h f row n → length made ≡ n
sheets_shaped h f row made n is = how_many f.setting.room.paper (λ s c. slot_by h.scheme f h.leaves s c (entry_in_cell h f.setting row s c)) made h.cells n is

pub cells_shaped : (h : Shape) (f : Filling) (row : Row) (made : List MadeSheet) (n s : ℕ) → made ≡ shaped h f row n → s < n → length (slots_at made s) ≡ h.cells
cells_shaped h f row made n s is within = count_on f.setting.room.paper (λ s c. slot_by h.scheme f h.leaves s c (entry_in_cell h f.setting row s c)) made h.cells n s is within

-- ---- in a cell of an earlier sheet

of_cell : (how : Scheme) (f : Filling) (leaves s c : ℕ) (entry : Option ℕ) → EntryFitsBy how f leaves s entry → IsOfCell how f.setting leaves s c (slot_by how f leaves s c entry)
of_cell how f leaves s c None fits = tt
of_cell how f leaves s c (Some page) fits = (fits, refl)

alike : (how : Scheme) (t : Setting) (leaves one other c : ℕ) (slot : MadeSlot) → LieAlike how leaves one other → IsOfCell how t leaves one c slot → IsOfCell how t leaves other c slot
alike (scheme.Grid cells) t leaves one other c slot same is = is
alike (scheme.Cards cells) t leaves one other c slot same is = is
alike (scheme.Stack cells) t leaves one other c slot same is = is
alike scheme.Leaves t leaves one other c slot same is = is
alike scheme.Zine t leaves one other c slot same is = is
alike (scheme.Booklet turned_backs creep) t leaves one other c slot same is =
    let has : (half : ℕ) (by : ℕ) → Type 0 = λ half by. IsSlotFor (λ page. FitsOnLeaf t page by) (λ page. creeping t (turned_backs && (half == 1)) page c by) slot in
    subst (λ half. has half (creep_on creep leaves other)) same.0 (subst (has (one % 2)) same.1 is)

pub cell_before : (h : Shape) (f : Filling) (row : Row) (made : List MadeSheet) (n s c : ℕ) (before : Option PlacedSlot) → made ≡ shaped h f row n
    → ((s c : ℕ) → s < n → c < h.cells → CellFits h f row s c) → s ≡ n → c < h.cells
    → IfSome before (λ placed. (earlier : ℕ) × (earlier < s) × LieAlike h.scheme h.leaves earlier s × (slice_get (slots_at made earlier) c ≡ Some (placed_of before)))
    → IsOfCell h.scheme f.setting h.leaves s c (placed_of before)
cell_before h f row made n s c None is fits last in_cells at = tt
cell_before h f row made n s c (Some placed) is fits last in_cells at =
    let b = at.0 in
    let less = at.1 in
    let within : b < n = omega (arith, last, less) in
    let there = slot_at f.setting.room.paper (λ s c. slot_by h.scheme f h.leaves s c (entry_in_cell h f.setting row s c)) made h.cells n b c (placed_of (Some placed)) is within in_cells at.3 in
    alike h.scheme f.setting h.leaves b s c (placed_of (Some placed)) at.2
    (subst (IsOfCell h.scheme f.setting h.leaves b c) (sym there) (of_cell h.scheme f h.leaves b c (entry_in_cell h f.setting row b c) (fits b c within in_cells)))
