-- Grids, cards and stacks are read in the order of their rows.
use Rattle.std.proofs.Common.{arith, ◌≡◌, ◌∙◌, ℕ, suc, zero, ◌+◌, ◌*◌, ◌<◌, Bool, true, false, [], ◌∷◌, length, map, Option, Some, None, refl, ap, ap₂, ◌++◌, List}
use Rattle.std.specs.Prelude.{flat_map}
use Rattle.std.specs.List.{range_with_len}
use Rattle.std.proofs.lemmas.Simd.{map-map}
use Rattle.std.proofs.lemmas.List.FromFn.{get_or-map-range_with_len}
use Rattle.rules.specs.Sheets.{blocks}
use Rattle.rules.specs.Made.{MadeSheet, Blank}
use Rattle.rules.specs.Rows.{Row}
use Rattle.layouts.specs.Cells.{size}
use Rattle.layouts.specs.declared.setting.Setting.{Setting}
use Rattle.row_sheets.specs.Filled.{Filling, behind_in, card_entry, duplex_entry, duplex_sheets, grid_entry, is_turned, slot_on, stack_entry, stack_sheets}
use Rattle.row_sheets.specs.Bound.{shown_in}
use Rattle.row_sheets.specs.Stacked.{CardsAreRead, GridIsRead, LeavesAreRead, StackIsRead, pile, shown_at, shown_on, turned_pile}
use Rattle.row_sheets.proofs.Behind.{behind_is_mirror}
use Rattle.row_sheets.proofs.Filling.{sheet, same_map}
use Rattle.row_sheets.proofs.Runs.{duplex_runs_on, grid_runs_on, part_of_leaf, same_each, stack_runs_on}

-- ---- a sheet shows its entries

pub shown_is : (f : Filling) (by_half : Bool) (c : ℕ) (entry : Option ℕ) → shown_in (slot_on f by_half c entry) ≡ entry
shown_is f false c None = refl
shown_is f false c (Some page) = refl
shown_is f true c None = refl
shown_is f true c (Some page) = refl

-- sheet s of such sheets
abbrev sheet_in : Filling → (cells : ℕ) → (entry : (s c : ℕ) → Option ℕ) → (s : ℕ) → MadeSheet
sheet_in f cells entry s = sheet f.setting.room.paper (map (λ c. slot_on f (is_turned false s) c (entry s c)) (range_with_len 0 cells))

sheet_shows : (f : Filling) (cells : ℕ) (entry : (s c : ℕ) → Option ℕ) (s c : ℕ) → c < cells → shown_at (sheet_in f cells entry s) c ≡ entry s c
sheet_shows f cells entry s c within =
    ap shown_in (get_or-map-range_with_len (λ k. slot_on f (is_turned false s) k (entry s k)) 0 cells c c Blank within (omega arith))
    ∙ shown_is f (is_turned false s) c (entry s c)

-- ---- cell by cell

each_within : (g h : ℕ → Option ℕ) (a n : ℕ) → ((c : ℕ) → c < a + n → g c ≡ h c) → map g (range_with_len a n) ≡ map h (range_with_len a n)
each_within g h a zero same = refl
each_within g h a (suc n) same = ap₂ (λ (x : Option ℕ) (xs : Row). x ∷ xs) (same a (omega arith)) (each_within g h (a + 1) n (λ c less. same c (omega (arith, less))))

cells_show : (f : Filling) (cells : ℕ) (entry : (s c : ℕ) → Option ℕ) (s : ℕ) → shown_on cells (sheet_in f cells entry s) ≡ map (entry s) (range_with_len 0 cells)
cells_show f cells entry s = each_within (shown_at (sheet_in f cells entry s)) (entry s) 0 cells (λ c less. sheet_shows f cells entry s c (omega (arith, less)))

joined : (g : MadeSheet → Row) (h : ℕ → MadeSheet) (xs : List ℕ) → flat_map g (map h xs) ≡ flat_map (λ x. g (h x)) xs
joined g h [] = refl
joined g h (x ∷ xs) = ap (λ (ys : Row). g (h x) ++ ys) (joined g h xs)

pub grid_is_read : GridIsRead
grid_is_read f cells row =
    let sheets = blocks cells (length row) in
    let entry = grid_entry cells row in
    joined (shown_on cells) (sheet_in f cells entry) (range_with_len 0 sheets)
    ∙ same_each (λ s. shown_on cells (sheet_in f cells entry s)) (λ s. map (entry s) (range_with_len 0 cells)) 0 sheets (λ s less. cells_show f cells entry s)
    ∙ grid_runs_on cells sheets row

pub cards_are_read : CardsAreRead
cards_are_read f cells row =
    let entry = card_entry row in
    map-map (shown_on cells) (sheet_in f cells entry) (range_with_len 0 (length row))
    ∙ same_map (λ s. shown_on cells (sheet_in f cells entry s)) (λ s. map (entry s) (range_with_len 0 cells)) (cells_show f cells entry) (range_with_len 0 (length row))

-- ---- piles

pub stack_is_read : StackIsRead
stack_is_read f cells row =
    let sheets = blocks cells (length row) in
    same_each (pile (stack_sheets f cells row)) (λ c. map (λ s. stack_entry sheets row s c) (range_with_len 0 sheets)) 0 cells
    (λ c less. map-map (λ sheet. shown_at sheet c) (sheet_in f cells (stack_entry sheets row)) (range_with_len 0 sheets)
    ∙ same_map (λ s. shown_at (sheet_in f cells (stack_entry sheets row) s) c) (λ s. stack_entry sheets row s c) (λ s. sheet_shows f cells (stack_entry sheets row) s c (omega (arith, less))) (range_with_len 0 sheets))
    ∙ stack_runs_on cells sheets row

-- ---- leaves

in_pairs : (g : ℕ → MadeSheet) (front back : ℕ → Option ℕ) (c b : ℕ) → ((s : ℕ) → shown_at (g s) c ≡ front s) → ((s : ℕ) → shown_at (g s) b ≡ back s) → (a m : ℕ)
    → turned_pile c b (map g (range_with_len (2 * a) (2 * m))) ≡ flat_map (λ l. front (2 * l) ∷ back (2 * l + 1) ∷ []) (range_with_len a m)
in_pairs g front back c b e f a zero = refl
in_pairs g front back c b e f a (suc m) =
    let rest = turned_pile c b (map g (range_with_len (2 * (a + 1)) (2 * m))) in
    ap (λ n. turned_pile c b (map g (range_with_len (2 * a) n))) (more m)
    ∙ (ap (λ j. shown_at (g (2 * a)) c ∷ shown_at (g (2 * a + 1)) b ∷ turned_pile c b (map g (range_with_len j (2 * m)))) (next a)
    ∙ (ap (λ x. x ∷ shown_at (g (2 * a + 1)) b ∷ rest) (e (2 * a))
    ∙ (ap (λ y. front (2 * a) ∷ y ∷ rest) (f (2 * a + 1))
    ∙ ap (λ xs. front (2 * a) ∷ back (2 * a + 1) ∷ xs) (in_pairs g front back c b e f (a + 1) m))))
  where
    more : (m : ℕ) → 2 * suc m ≡ suc (suc (2 * m))
    more m = omega arith

    next : (a : ℕ) → 2 * a + 1 + 1 ≡ 2 * (a + 1)
    next a = omega arith

behind_within : (t : Setting) (c : ℕ) → c < size t.grid → behind_in t c < size t.grid
behind_within t c within = (behind_is_mirror t.order.run t.order.right_to_left t.order.turned t.grid c within).0

pub leaves_are_read : LeavesAreRead
leaves_are_read f row =
    let t = f.setting in
    let n = size t.grid in
    let behind = behind_in t in
    let leaves = blocks (2 * n) (length row) in
    let entry = duplex_entry leaves behind row in
    same_each (λ c. turned_pile c (behind c) (duplex_sheets f row)) (λ c. flat_map (part_of_leaf leaves behind row c) (range_with_len 0 leaves)) 0 n
    (λ c less. in_pairs (sheet_in f n entry) (λ s. entry s c) (λ s. entry s (behind c)) c (behind c)
    (λ s. sheet_shows f n entry s c (omega (arith, less)))
    (λ s. sheet_shows f n entry s (behind c) (behind_within t c (omega (arith, less)))) 0 leaves)
    ∙ duplex_runs_on t leaves row
