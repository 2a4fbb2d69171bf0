-- What is made of a row depends on its pages' papers alone.
use Rattle.std.specs.Prelude.{ℤ, pos, flat_map, option_map, fold, slice_index_or}
use Rattle.std.specs.List.{AllByRecursion, range_with_len}
use Rattle.std.specs.Int.{int_min}
use Rattle.std.proofs.Common.{arith, ◌≡◌, ◌∙◌, ℕ, zero, suc, ◌+◌, ◌*◌, ◌<◌, Bool, true, false, List, [], ◌∷◌, ◌++◌, Option, Some, None, length, map, get_or, refl, sym, ap, subst}
use Rattle.std.proofs.lemmas.List.{get_or_default, get_or_past, length-map, map-append}
use Rattle.std.proofs.lemmas.Simd.{map-map}
use Rattle.rules.specs.Papers.{Paper}
use Rattle.rules.specs.Sheets.{blocks}
use Rattle.rules.specs.Signatures.{entry_of, page_in_signature}
use Rattle.rules.specs.Made.{MadeSlot, Placed}
use Rattle.rules.specs.Rows.{Row, all_pages, in_order_of, in_signatures}
use Rattle.layouts.specs.Cells.{size}
use Rattle.layouts.specs.Fitted.{fitted, fitted_back, scale_on}
use Rattle.layouts.specs.declared.setting.Setting.{Setting}
use Rattle.row_sheets.specs.Creep.{creep_on, creeping, creeping_sheets, creeping_sides, creeping_slot}
use Rattle.row_sheets.specs.Filled.{filled, grid_entry, is_turned, sides, slot_on}
use Rattle.row_sheets.specs.RowSheets.{as_it_is, selected, selected_sheet}
use Rattle.row_sheets.specs.SameScale.{least_with}
use Rattle.row_sheets.specs.Shapes.{cell_on, filling}
use Rattle.row_sheets.specs.AsDocument.{AreLaidAlike, RowIsDocument, chosen_page, papers_at, renamed, renamed_slot}
use Rattle.row_sheets.proofs.Filling.{sheet as sheet_of, same_map}

-- ---- rows
abbrev with_numbers : (ℕ → ℕ) → Row → Row
with_numbers r row = map (option_map r) row

entry_named : (r : ℕ → ℕ) (row : Row) (i : ℕ) → entry_of (with_numbers r row) i ≡ option_map r (entry_of row i)
entry_named r [] zero = refl
entry_named r [] (suc i) = refl
entry_named r (x ∷ row) zero = refl
entry_named r (x ∷ row) (suc i) = entry_named r row i

blocks_named : (r : ℕ → ℕ) (h k : ℕ → Row) → ((b : ℕ) → h b ≡ with_numbers r (k b)) → (bs : List ℕ) → flat_map h bs ≡ with_numbers r (flat_map k bs)
blocks_named r h k e [] = refl
blocks_named r h k e (b ∷ bs) =
    ap (λ xs. xs ++ flat_map h bs) (e b) ∙ ap (λ ys. with_numbers r (k b) ++ ys) (blocks_named r h k e bs)
    ∙ sym (map-append (option_map r) (k b) (flat_map k bs))

signatures_named : (r : ℕ → ℕ) (s : ℕ) (row : Row) → in_signatures s (with_numbers r row) ≡ with_numbers r (in_signatures s row)
signatures_named r s row =
    let at : ℕ → ℕ → ℕ = λ b i. b * s + page_in_signature s i in
    let new : ℕ → Row = λ b. map (λ i. entry_of (with_numbers r row) (at b i)) (range_with_len 0 s) in
    let old : ℕ → Row = λ b. map (λ i. entry_of row (at b i)) (range_with_len 0 s) in
    ap (λ n. flat_map new (range_with_len 0 (blocks s n))) (length-map row (option_map r))
    ∙ blocks_named r new old (λ b.
    same_map (λ i. entry_of (with_numbers r row) (at b i)) (λ i. option_map r (entry_of row (at b i))) (λ i. entry_named r row (at b i)) (range_with_len 0 s)
    ∙ sym (map-map (option_map r) (λ i. entry_of row (at b i)) (range_with_len 0 s))) (range_with_len 0 (blocks s (length row)))

ordered_named : (sides : Option ℕ) (r : ℕ → ℕ) (row : Row) → in_order_of sides (with_numbers r row) ≡ with_numbers r (in_order_of sides row)
ordered_named None r row = refl
ordered_named (Some s) r row = signatures_named r s row

-- ---- sheets, if each page has the paper of the page that it stands for
abbrev AreSame : (r : ℕ → ℕ) → (papers others : List Paper) → Type 0
AreSame r papers others = (d : Paper) (k : ℕ) → slice_index_or papers (r k) d ≡ slice_index_or others k d

slot_named : (t : Setting) (r : ℕ → ℕ) (papers others : List Paper) → AreSame r papers others → (by_half : Bool) (c : ℕ) (entry : Option ℕ)
    → slot_on (filling t papers) by_half c (option_map r entry) ≡ renamed_slot r (slot_on (filling t others) by_half c entry)
slot_named t r papers others same false c None = refl
slot_named t r papers others same true c None = refl
slot_named t r papers others same false c (Some k) = ap (λ q. Placed (r k) (fitted t q c) q) (same t.room.paper k)
slot_named t r papers others same true c (Some k) = ap (λ q. Placed (r k) (fitted_back t q c) q) (same t.room.paper k)

-- sheets of one paper, slot by slot
sheets_named : (paper : Paper) (r : ℕ → ℕ) (n m : ℕ) (f g : ℕ → ℕ → MadeSlot) → ((s c : ℕ) → f s c ≡ renamed_slot r (g s c))
    → map (λ s. sheet_of paper (map (f s) (range_with_len 0 m))) (range_with_len 0 n)
    ≡ map (renamed r) (map (λ s. sheet_of paper (map (g s) (range_with_len 0 m))) (range_with_len 0 n))
sheets_named paper r n m f g e =
    let cells : List ℕ = range_with_len 0 m in
    let each : (s : ℕ) → sheet_of paper (map (f s) cells) ≡ renamed r (sheet_of paper (map (g s) cells)) =
    λ s. ap (sheet_of paper) (same_map (f s) (λ c. renamed_slot r (g s c)) (e s) cells ∙ sym (map-map (renamed_slot r) (g s) cells)) in
    same_map (λ s. sheet_of paper (map (f s) cells)) (λ s. renamed r (sheet_of paper (map (g s) cells))) each (range_with_len 0 n)
    ∙ sym (map-map (renamed r) (λ s. sheet_of paper (map (g s) cells)) (range_with_len 0 n))

sides_named : (t : Setting) (r : ℕ → ℕ) (papers others : List Paper) → AreSame r papers others → (n m : ℕ) (new old : ℕ → ℕ → Option ℕ)
    → ((s c : ℕ) → new s c ≡ option_map r (old s c))
    → filled (filling t papers) n m new ≡ map (renamed r) (filled (filling t others) n m old)
sides_named t r papers others same n m new old e =
    sheets_named t.room.paper r n m (λ s c. slot_on (filling t papers) false c (new s c)) (λ s c. slot_on (filling t others) false c (old s c))
    (λ s c. ap (slot_on (filling t papers) false c) (e s c) ∙ slot_named t r papers others same false c (old s c))

-- in cells, with so many sheets and these places for so many entries
cells_named : (t : Setting) (r : ℕ → ℕ) (papers others : List Paper) → AreSame r papers others → (row : Row) (count : ℕ → ℕ) (cells : ℕ) (place : (n s c : ℕ) → ℕ)
    → filled (filling t papers) (count (length (with_numbers r row))) cells (λ s c. entry_of (with_numbers r row) (place (length (with_numbers r row)) s c))
    ≡ map (renamed r) (filled (filling t others) (count (length row)) cells (λ s c. entry_of row (place (length row) s c)))
cells_named t r papers others same row count cells place =
    let new : Row = with_numbers r row in
    ap (λ n. filled (filling t papers) (count n) cells (λ s c. entry_of new (place n s c))) (length-map row (option_map r))
    ∙ sides_named t r papers others same (count (length row)) cells (λ s c. entry_of new (place (length row) s c)) (λ s c. entry_of row (place (length row) s c))
    (λ s c. entry_named r row (place (length row) s c))

half_named : (t : Setting) (r : ℕ → ℕ) (papers others : List Paper) → AreSame r papers others → (by_half : Bool) (k creep : ℕ) (entry : Option ℕ)
    → creeping_slot (filling t papers) by_half k creep (option_map r entry) ≡ renamed_slot r (creeping_slot (filling t others) by_half k creep entry)
half_named t r papers others same by_half k creep None = refl
half_named t r papers others same by_half k creep (Some p) = ap (λ q. Placed (r p) (creeping t by_half q k creep) q) (same t.room.paper p)

booklet_named : (t : Setting) (r : ℕ → ℕ) (papers others : List Paper) → AreSame r papers others → (turned_backs : Bool) (creep leaves : ℕ) (row : Row)
    → creeping_sheets (filling t papers) turned_backs creep leaves (with_numbers r row)
    ≡ map (renamed r) (creeping_sheets (filling t others) turned_backs creep leaves row)
booklet_named t r papers others same turned_backs creep leaves row =
    let new : Row = with_numbers r row in
    ap (λ n. creeping_sides (filling t papers) turned_backs creep leaves (blocks 2 n) new) (length-map row (option_map r))
    ∙ sheets_named t.room.paper r (blocks 2 (length row)) 2
    (λ s k. creeping_slot (filling t papers) (is_turned turned_backs s) k (creep_on creep leaves s) (grid_entry 2 new s k))
    (λ s k. creeping_slot (filling t others) (is_turned turned_backs s) k (creep_on creep leaves s) (grid_entry 2 row s k))
    (λ s k. ap (creeping_slot (filling t papers) (is_turned turned_backs s) k (creep_on creep leaves s)) (entry_named r row (s * 2 + k))
    ∙ half_named t r papers others same (is_turned turned_backs s) k (creep_on creep leaves s) (grid_entry 2 row s k))

alone_named : (r : ℕ → ℕ) (papers others : List Paper) → AreSame r papers others → (blank : Paper) (entry : Option ℕ)
    → selected_sheet papers blank (option_map r entry) ≡ renamed r (selected_sheet others blank entry)
alone_named r papers others same blank None = refl
alone_named r papers others same blank (Some k) = ap (λ q. sheet_of q (Placed (r k) as_it_is q ∷ [])) (same blank k)

selected_named : (r : ℕ → ℕ) (papers others : List Paper) → AreSame r papers others → (blank : Paper) (row : Row)
    → selected papers blank (with_numbers r row) ≡ map (renamed r) (selected others blank row)
selected_named r papers others same blank row =
    map-map (selected_sheet papers blank) (option_map r) row
    ∙ same_map (λ e. selected_sheet papers blank (option_map r e)) (λ e. renamed r (selected_sheet others blank e)) (alone_named r papers others same blank) row
    ∙ sym (map-map (renamed r) (selected_sheet others blank) row)

-- ---- one scale for all pages
least_more : (t : Setting) (r : ℕ → ℕ) (papers others : List Paper) → AreSame r papers others → (least : Option ℤ) (entry : Option ℕ)
    → least_with (filling t papers) least (option_map r entry) ≡ least_with (filling t others) least entry
least_more t r papers others same None None = refl
least_more t r papers others same (Some z) None = refl
least_more t r papers others same None (Some k) = ap (λ q. Some (pos (scale_on t q))) (same t.room.paper k)
least_more t r papers others same (Some z) (Some k) = ap (λ q. Some (int_min z (pos (scale_on t q)))) (same t.room.paper k)

least_named : (t : Setting) (r : ℕ → ℕ) (papers others : List Paper) → AreSame r papers others → (least : Option ℤ) (row : Row)
    → fold (least_with (filling t papers)) least (with_numbers r row) ≡ fold (least_with (filling t others)) least row
least_named t r papers others same least [] = refl
least_named t r papers others same least (e ∷ row) =
    ap (λ z. fold (least_with (filling t papers)) z (with_numbers r row)) (least_more t r papers others same least e)
    ∙ least_named t r papers others same (least_with (filling t others) least e) row

alike : (t : Setting) (r : ℕ → ℕ) (papers others : List Paper) → AreSame r papers others → (row : Row)
    → AreLaidAlike r t papers others (with_numbers r row) row
alike t r papers others same row = record {
  grid = λ cells. cells_named t r papers others same row (blocks cells) cells (λ n s c. s * cells + c);
  cards = λ cells. cells_named t r papers others same row (λ n. n) cells (λ n s c. s);
  stack = λ cells. cells_named t r papers others same row (blocks cells) cells (λ n s c. c * blocks cells n + s);
  leaves = cells_named t r papers others same row (λ n. 2 * blocks (2 * size t.grid) n) (size t.grid) (λ n s c. cell_on t s c * (2 * blocks (2 * size t.grid) n) + s);
  booklet = λ turned_backs creep leaves. booklet_named t r papers others same turned_backs creep leaves row;
  alone = λ blank. selected_named r papers others same blank row;
  one_scale = ap (λ z. record { room = t.room; grid = t.grid; order = t.order; scale = z }) (least_named t r papers others same None row);
}

-- ---- the pages of a row, by their places in it
same_papers : (papers : List Paper) (other : Paper) (pages : List ℕ) → AllByRecursion (λ p. p < length papers) pages
    → AreSame (chosen_page papers pages) papers (papers_at papers other pages)
same_papers papers other [] few d zero = get_or_past papers (length papers) d (omega arith)
same_papers papers other [] few d (suc k) = get_or_past papers (length papers) d (omega arith)
same_papers papers other (p ∷ pages) few d zero = get_or_default papers p d other few.0
same_papers papers other (p ∷ pages) few d (suc k) = same_papers papers other pages few.1 d k

numbered : (f : ℕ → ℕ) (d a : ℕ) (pages : List ℕ) → ((k : ℕ) → k < length pages → f (a + k) ≡ get_or pages k d)
    → map (λ k. Some (f k)) (range_with_len a (length pages)) ≡ map Some pages
numbered f d a [] e = refl
numbered f d a (p ∷ pages) e =
    let here : a ≡ a + 0 = omega arith in
    let next : (k : ℕ) → (a + 1) + k ≡ a + suc k = λ k. omega arith in
    ap (λ x. Some x ∷ map (λ k. Some (f k)) (range_with_len (a + 1) (length pages))) (ap f here ∙ e 0 (omega arith))
    ∙ ap (λ xs. Some p ∷ xs) (numbered f d (a + 1) pages (λ k lt. ap f (next k) ∙ e (suc k) (omega (arith, lt))))

all_named : (papers : List Paper) (pages : List ℕ) → with_numbers (chosen_page papers pages) (all_pages (length pages)) ≡ map Some pages
all_named papers pages =
    let r : ℕ → ℕ = chosen_page papers pages in
    map-map (option_map r) Some (range_with_len 0 (length pages))
    ∙ numbered r (length papers) 0 pages (λ k lt. let e : 0 + k ≡ k = omega arith in ap r e)

pub row_is_document : RowIsDocument
row_is_document t sides papers other pages few =
    let r : ℕ → ℕ = chosen_page papers pages in
    let others : List Paper = papers_at papers other pages in
    let all : Row = all_pages (length pages) in
    let same : with_numbers r (in_order_of sides all) ≡ in_order_of sides (map Some pages) =
    sym (ordered_named sides r all) ∙ ap (in_order_of sides) (all_named papers pages) in
    subst (λ row. AreLaidAlike r t papers others row (in_order_of sides all)) same
    (alike t r papers others (same_papers papers other pages few) (in_order_of sides all))
