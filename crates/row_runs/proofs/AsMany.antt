-- A row is laid on as many sheets, whatever its entries are: also if they are named by their places.
use Rattle.std.proofs.Common.{ℕ, ◌-◌, ◌*◌, ◌≤◌, subst, ◌≡◌, ◌∙◌, List, ap, sym, length, map}
use Rattle.std.specs.List.{range_with_len}
use Rattle.std.proofs.lemmas.List.{length-map}
use Rattle.std.proofs.lemmas.List.FromFn.{length-map-range_with_len}
use Rattle.rules.specs.Papers.{Paper}
use Rattle.rules.specs.Made.{MadeSheet}
use Rattle.rules.specs.Rows.{Row}
use Rattle.rules.specs.Run.{most_sheets}
use Rattle.rules.specs.Sheets.{blocks}
use Rattle.layouts.specs.Cells.{size}
use Rattle.row_sheets.proofs.BlockByBlock.{sheets_counted}
use Rattle.row_runs.specs.declared.sheet_request.Laying.{Laying}
use Rattle.row_runs.specs.declared.sheet_request.Laying.TheVariants as laying
use Rattle.row_sheets.specs.declared.fill.Scheme.TheVariants as scheme
use Rattle.row_runs.specs.declared.sheet_request.SheetRequest.{SheetRequest}
use Rattle.rows.specs.Printed.{asked_by}
use Rattle.rows.proofs.AsMany.{printed_as_many}
use Rattle.row_runs.specs.Numbers.{named_places_from, paper_in, places_by, sheet_paper}
use Rattle.row_runs.specs.Sheets.{AreAsked, laying_for, leaves_in, row_chosen, row_printed, sewn, sheets_laid}
use Rattle.row_runs.proofs.Places.{place_count}
use Rattle.row_runs.proofs.Counted.{tiles_count, tiles_in}

-- ---- on sheets

-- as many as a count of the entries says
by_count : (count : ℕ → ℕ) (a b n m : ℕ) → a ≡ count n → b ≡ count m → n ≡ m → a ≡ b
by_count count a b n m first other same = first ∙ ap count same ∙ sym other

pub laid_as_many : (l : Laying) (leaves : ℕ) (papers own : List Paper) (row other : Row) → length row ≡ length other
    → length (sheets_laid l leaves papers row) ≡ length (sheets_laid l leaves own other)
laid_as_many (laying.AsTheyAre blank) leaves papers own row other same = length-map row _ ∙ same ∙ sym (length-map other _)
laid_as_many (laying.InCells t (scheme.Grid cells)) leaves papers own row other same =
    by_count (blocks cells) _ _ _ _ (length-map-range_with_len _ 0 _) (length-map-range_with_len _ 0 _) same
laid_as_many (laying.InCells t (scheme.Cards cells)) leaves papers own row other same =
    by_count (λ n. n) _ _ _ _ (length-map-range_with_len _ 0 _) (length-map-range_with_len _ 0 _) same
laid_as_many (laying.InCells t (scheme.Stack cells)) leaves papers own row other same =
    by_count (blocks cells) _ _ _ _ (length-map-range_with_len _ 0 _) (length-map-range_with_len _ 0 _) same
laid_as_many (laying.InCells t scheme.Leaves) leaves papers own row other same =
    by_count (λ n. 2 * blocks (2 * size t.grid) n) _ _ _ _ (length-map-range_with_len _ 0 _) (length-map-range_with_len _ 0 _) same
laid_as_many (laying.InCells t (scheme.Booklet turned_backs creep)) leaves papers own row other same =
    by_count (blocks 2) _ _ _ _ (length-map-range_with_len _ 0 _) (length-map-range_with_len _ 0 _) same
laid_as_many (laying.InCells t scheme.Zine) leaves papers own row other same =
    by_count (blocks 8) _ _ _ _ (length-map-range_with_len _ 0 _) (length-map-range_with_len _ 0 _) same
laid_as_many (laying.Poster poster) leaves papers own row other same =
    by_count (λ n. n * tiles_in poster) _ _ _ _ (tiles_count poster papers row) (tiles_count poster own other) same
laid_as_many (laying.BySpec spec sheet page) leaves papers own row other same =
    by_count (λ n. blocks spec.now.modulo n * length spec.now.groups) _ _ _ _ (sheets_counted spec.now sheet page row) (sheets_counted spec.now sheet page other) same

-- ---- with places

-- the sheets on which pages are named by their places are as few
pub places_few : (pages : ℕ) (papers : List Paper) (a : SheetRequest) (made : List MadeSheet) → AreAsked pages papers a made → length made ≤ most_sheets
    → length (places_by papers a (row_chosen pages a)) ≤ most_sheets
places_few pages papers a made h few =
    let row = h.row in
    let as_many = laid_as_many (laying_for a papers row) (leaves_in (sewn a) row) (map (paper_in papers (sheet_paper a.laying)) row) papers
    (row_printed a (named_places_from 0 row)) (row_printed a row) (printed_as_many (asked_by a.row) (named_places_from 0 row) row (place_count 0 row)) in
    subst (λ r. length (places_by papers a r) ≤ most_sheets) (sym h.is_chosen)
    (subst (λ n. n ≤ most_sheets) (sym (as_many ∙ sym (ap length h.are_laid))) few)
