-- Each point of each page of a row of posters is shown on one of its sheets.
use Rattle.std.proofs.Common.{arith, ◌≡◌, ◌∙◌, ℕ, suc, zero, ◌+◌, ◌-◌, ◌*◌, ◌/◌, ◌%◌, ◌<◌, ◌≤◌, List, [], ◌∷◌, ◌++◌, length, Option, Some, None, refl, sym, ap, subst}
use Rattle.std.specs.Prelude.{map, flat_map, slice_get}
use Rattle.std.specs.List.{range_with_len}
use Rattle.std.proofs.Math.Nat.{mul-le-mul_right, suc-mul}
use Rattle.std.proofs.lemmas.Nat.{div-mul-add, mod-mul-add}
use Rattle.std.proofs.lemmas.List.FromFn.{get_or-map-range_with_len, length-map-range_with_len}
use Rattle.std.proofs.lemmas.Option.{slice_get-get_or}
use Rattle.rules.specs.Papers.{Paper}
use Rattle.rules.specs.Signatures.{entry_of}
use Rattle.rules.specs.Made.{MadeSheet, Blank, Placed}
use Rattle.rules.specs.Rows.{Row}
use Rattle.layouts.proofs.InGrid.{some_each}
use Rattle.row_sheets.specs.declared.poster.Poster.{Poster}
use Rattle.layouts.specs.Placed.{stands}
use Rattle.row_sheets.specs.Posters.{IsShown, poster_paper, poster_sheets, entry_tiles, row_tiles, tile_item}
use Rattle.row_sheets.specs.Posters.{PosterHasTiles, RowIsShown, EntryMayBePoster}
use Rattle.row_sheets.proofs.Offsets.{possible}
use Rattle.row_sheets.proofs.Tiles.{poster_covers}
use Rattle.row_sheets.proofs.Filling.{sheet}

-- ---- a poster that isn't refused has tiles

pub poster_has_tiles : PosterHasTiles
poster_has_tiles page p h =
    let has = possible page p h in
    let both = some_each p.rows p.columns has.some in
    record { some_columns = both.1; some_rows = both.0; wide = has.longer.0; high = has.longer.1 }

-- ---- where the sheets of an entry are

first_part : {X : Type 0} (xs ys : List X) (n : ℕ) → n < length xs → slice_get (xs ++ ys) n ≡ slice_get xs n
first_part [] ys n h = absurd (omega (arith, h))
first_part (x ∷ xs) ys zero h = refl
first_part (x ∷ xs) ys (suc n) h = first_part xs ys n (omega (arith, h))

second_part : {X : Type 0} (xs ys : List X) (k n : ℕ) → k ≡ length xs + n → slice_get (xs ++ ys) k ≡ slice_get ys n
second_part [] ys k n e = ap (slice_get ys) (let same : k ≡ n = omega (arith, e) in same)
second_part (x ∷ xs) ys zero n e = absurd (omega (arith, e))
second_part (x ∷ xs) ys (suc k) n e = second_part xs ys k n (omega (arith, e))

tile_count : (p : Poster) (papers : List Paper) (entry : Option ℕ) → length (entry_tiles p papers entry) ≡ p.rows * p.columns
tile_count p papers None = length-map-range_with_len (λ n. sheet p.sheet (Blank ∷ [])) 0 (p.rows * p.columns)
tile_count p papers (Some page) =
    let paper = poster_paper p papers page in
    length-map-range_with_len (λ n. sheet p.sheet (Placed page (tile_item paper p (n % p.columns) (p.rows - (n / p.columns + 1))) paper ∷ [])) 0 (p.rows * p.columns)

from_zero : (m n : ℕ) → 0 * m + n ≡ n
from_zero m n = omega arith

one_more : (i m n k : ℕ) → k ≡ m → suc i * m + n ≡ k + (i * m + n)
one_more i m n k e = omega (arith, e, suc-mul i m)

-- lists of m, one after the other
in_list : (g : Option ℕ → List MadeSheet) (m : ℕ) → ((entry : Option ℕ) → length (g entry) ≡ m) → (row : Row) (i page n : ℕ) → entry_of row i ≡ Some page → n < m
    → slice_get (flat_map g row) (i * m + n) ≡ slice_get (g (Some page)) n
in_list g m many [] i page n is within = absurd (cc (is))
in_list g m many (e ∷ row) zero page n is within =
    ap (slice_get (flat_map g (e ∷ row))) (from_zero m n)
    ∙ (first_part (g e) (flat_map g row) n (let k = many e in omega (arith, within, k))
    ∙ ap (λ x. slice_get (g x) n) is)
in_list g m many (e ∷ row) (suc i) page n is within =
    second_part (g e) (flat_map g row) (suc i * m + n) (i * m + n) (one_more i m n (length (g e)) (many e))
    ∙ in_list g m many row i page n is within

tile_of : (p : Poster) (papers : List Paper) (row : Row) (i page n : ℕ) → entry_of row i ≡ Some page → n < p.rows * p.columns
    → slice_get (row_tiles p papers row) (i * (p.rows * p.columns) + n) ≡ slice_get (entry_tiles p papers (Some page)) n
tile_of p papers row i page n is within = in_list (entry_tiles p papers) (p.rows * p.columns) (tile_count p papers) row i page n is within

nth_sheet : (page : Paper) (p : Poster) (k n : ℕ) → n < p.rows * p.columns
    → slice_get (poster_sheets page p k) n ≡ Some (sheet p.sheet (Placed k (tile_item page p (n % p.columns) (p.rows - (n / p.columns + 1))) page ∷ []))
nth_sheet page p k n within =
    let made : ℕ → MadeSheet = λ n. sheet p.sheet (Placed k (tile_item page p (n % p.columns) (p.rows - (n / p.columns + 1))) page ∷ []) in
    let all = map made (range_with_len 0 (p.rows * p.columns)) in
    let many = length-map-range_with_len made 0 (p.rows * p.columns) in
    slice_get-get_or all n (made n) (omega (arith, within, many))
    ∙ ap Some (get_or-map-range_with_len made 0 (p.rows * p.columns) n n (made n) within (omega arith))

-- ---- the tile in a column and a row

record IsTile (r c column row : ℕ) : Type 0 where
  pub n : ℕ
  pub within : n < r * c
  pub column_is : n % c ≡ column
  pub row_is : r - (n / c + 1) ≡ row

below_all : (q r c column : ℕ) → suc q ≤ r → column < c → q * c + column < r * c
below_all q r c column small within = omega (arith, mul-le-mul_right {m = suc q} {n = r} c small, suc-mul q c, within)

from_head : (r row q k : ℕ) → q ≡ r - (row + 1) → row < r → k ≡ q → r - (k + 1) ≡ row
from_head r row q k e less same = omega (arith, e, less, same)

tile_at : (r c column row : ℕ) → column < c → row < r → IsTile r c column row
tile_at r c column row in_columns in_rows =
    let q = r - (row + 1) in
    record {
      n = q * c + column;
      within = below_all q r c column (omega (arith, in_rows)) in_columns;
      column_is = mod-mul-add q c column in_columns;
      row_is = from_head r row q ((q * c + column) / c) refl in_rows (div-mul-add q c column in_columns);
    }

same_item : (page : Paper) (p : Poster) (c c' r r' : ℕ) → c ≡ c' → r ≡ r' → tile_item page p c r ≡ tile_item page p c' r'
same_item page p c c' r r' e f = ap (λ x. tile_item page p x r) e ∙ ap (tile_item page p c') f

pub can_be : (p : Poster) (papers : List Paper) (page : ℕ) (entry : Option ℕ) → entry ≡ Some page → EntryMayBePoster p papers entry → EntryMayBePoster p papers (Some page)
can_be p papers page entry is has = subst (EntryMayBePoster p papers) is has

pub row_is_shown : RowIsShown
row_is_shown p papers row i page at fits is of =
    let paper = poster_paper p papers page in
    let has = can_be p papers page (entry_of row i) is (fits i) in
    let shown = poster_covers paper p at has.page_is (poster_has_tiles paper p has.fits) of in
    let one = tile_at p.rows p.columns shown.0 shown.1 shown.2 shown.3 in
    let item = same_item paper p (one.n % p.columns) shown.0 (p.rows - (one.n / p.columns + 1)) shown.1 one.column_is one.row_is in
    record {
      n = one.n;
      is_one = one.within;
      sheet = tile_of p papers row i page one.n is one.within ∙ nth_sheet paper p page one.n one.within;
      shown = subst (λ x. IsShown p (stands paper x at)) (sym item) shown.4;
    }
