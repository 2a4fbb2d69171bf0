-- How sheets are read: cell by cell; and those of a stack once they are cut, and the piles of their cells laid on one another. All here
-- is this project's own rules.
use Rattle.std.specs.Prelude.{◌≡◌, ℕ, ◌+◌, ◌*◌, ◌<◌, ◌≤◌, nat_abs, Bool, true, false, not, if◌then◌else◌}
use Rattle.std.specs.Prelude.{List, [], ◌∷◌, map, flat_map, length, slice_index_or, Option}
use Rattle.std.specs.List.{range_with_len}
use Rattle.rules.specs.Papers.{Paper}
use Rattle.rules.specs.Sheets.{blocks}
use Rattle.rules.specs.Signatures.{entry_of}
use Rattle.rules.specs.Made.{Blank, MadeSheet}
use Rattle.rules.specs.Rows.{Row}
use Rattle.layouts.specs.declared.arrangement.Turned.{Turned}
use Rattle.layouts.specs.declared.arrangement.Turned.TheVariants as sideways
use Rattle.layouts.specs.Placed.{IsEven}
use Rattle.layouts.specs.Cells.{column_of, high, read_columns, row_of, size, whole_parts, wide}
use Rattle.layouts.specs.Laws.{Cell, cell_at}
use Rattle.layouts.specs.declared.setting.Setting.{Setting}
use Rattle.row_sheets.specs.Filled.{Filling, behind_in, card_sheets, duplex_sheets, grid_sheets, stack_sheets}
use Rattle.row_sheets.specs.Bound.{shown_in}

-- what a sheet shows in cell c
abbrev pub shown_at : MadeSheet → (c : ℕ) → Option ℕ
shown_at sheet c = shown_in (slice_index_or sheet.slots c Blank)

-- what it shows in so many cells, in their order
abbrev pub shown_on : (cells : ℕ) → MadeSheet → Row
shown_on cells sheet = map (shown_at sheet) (range_with_len 0 cells)

-- cell by cell, and sheet by sheet, that is the row; after its end are blanks
abbrev pub AreFilledInTurn : (cells : ℕ) → Row → List MadeSheet → Type 0
AreFilledInTurn cells row made = flat_map (shown_on cells) made ≡ map (entry_of row) (range_with_len 0 (blocks cells (length row) * cells))

-- a grid reads in the order of its row, as of `impose nup 4`: a law
abbrev pub GridIsRead : Type 0
GridIsRead = (f : Filling) (cells : ℕ) (row : Row) → AreFilledInTurn cells row (grid_sheets f cells row)

-- each sheet shows one entry of the row in all of its cells
abbrev pub AreCards : (cells : ℕ) → Row → List MadeSheet → Type 0
AreCards cells row made = map (shown_on cells) made ≡ map (λ s. map (λ c. entry_of row s) (range_with_len 0 cells)) (range_with_len 0 (length row))

-- the cards of a row are in its order: a law
abbrev pub CardsAreRead : Type 0
CardsAreRead = (f : Filling) (cells : ℕ) (row : Row) → AreCards cells row (card_sheets f cells row)

-- the pile of a cell: its parts, from the first sheet to the last
abbrev pub pile : List MadeSheet → (c : ℕ) → Row
pile made c = map (λ sheet. shown_at sheet c) made

-- the piles of so many cells, laid on one another, are the row; after its end are blanks
abbrev pub ArePiled : (cells : ℕ) → Row → List MadeSheet → Type 0
ArePiled cells row made =
    flat_map (pile made) (range_with_len 0 cells) ≡ map (entry_of row) (range_with_len 0 (cells * blocks cells (length row)))

-- a stack, cut and put together, reads in the order of its row: a law
abbrev pub StackIsRead : Type 0
StackIsRead = (f : Filling) (cells : ℕ) (row : Row) → ArePiled cells row (stack_sheets f cells row)

-- of sheets that are fronts and backs of leaves, in turn: each part is read on its front, which shows cell c, and then on
-- its back, which shows cell b
abbrev pub turned_pile : (c b : ℕ) → List MadeSheet → Row
turned_pile c b [] = []
turned_pile c b (front ∷ []) = shown_at front c ∷ []
turned_pile c b (front ∷ back ∷ made) = shown_at front c ∷ shown_at back b ∷ turned_pile c b made

-- with all piles laid on one another they are the row; on the back of a part is what lies behind its cell
abbrev pub ArePiledLeaves : Setting → Row → List MadeSheet → Type 0
ArePiledLeaves t row made =
    flat_map (λ c. turned_pile c (behind_in t c) made) (range_with_len 0 (size t.grid))
    ≡ map (entry_of row) (range_with_len 0 (size t.grid * (2 * blocks (2 * size t.grid) (length row))))

-- a stack on both sides of leaves, cut and put together, reads in the order of its row: a law
abbrev pub LeavesAreRead : Type 0
LeavesAreRead = (f : Filling) (row : Row) → ArePiledLeaves f.setting row (duplex_sheets f row)

-- ---- where the parts of a leaf are

-- the cell of slot c on its sheet
abbrev pub cell_of_slot : Setting → (c : ℕ) → Cell
cell_of_slot t c = cell_at t.room t.grid (row_of t.order t.grid c) (column_of t.order t.grid c)

-- what one reads side by side is side by side on the sheet: neither pages nor what is on them lie on their side, or both do
abbrev pub is_upright : Turned → Bool
is_upright sideways.Upright = true
is_upright sideways.Left = false
is_upright sideways.Right = false

abbrev pub reads_across : Setting → Bool
reads_across t = if t.grid.turned then not (is_upright t.order.turned) else is_upright t.order.turned

-- along a side of so many 10^-5 of a point the one begins as far from an edge as the other ends from the opposite one, but
-- for so many of these
abbrev pub AreMirrored : (side slack : ℕ) → (begin end : ℕ) → Type 0
AreMirrored side slack begin end = (begin + end ≤ side) × (side ≤ begin + end + slack)

-- the one cell, on the front of a leaf, is in front of the other, on its back, if the leaf is turned over along its height,
-- or along its width
abbrev pub LieBehind : (across : Bool) → (sheet : Paper) → (slack : ℕ) → (front back : Cell) → Type 0
LieBehind true sheet slack front back =
    (back.bottom ≡ front.bottom) × AreMirrored (whole_parts (nat_abs sheet.width)) slack front.left (back.left + back.width)
LieBehind false sheet slack front back =
    (back.left ≡ front.left) × AreMirrored (whole_parts (nat_abs sheet.height)) slack front.bottom (back.bottom + back.height)

-- a cell and the one behind it lie behind each other on sheets with even margins, to 10^-5 of a point for each column,
-- as one reads the sheet: a law
abbrev pub CellsLieBehind : Type 0
CellsLieBehind = (t : Setting) (c : ℕ) → IsEven t.room → 0 < wide t.room t.grid → 0 < high t.room t.grid → c < size t.grid
    → LieBehind (reads_across t) t.room.paper (read_columns t.order.turned t.grid) (cell_of_slot t c) (cell_of_slot t (behind_in t c))
