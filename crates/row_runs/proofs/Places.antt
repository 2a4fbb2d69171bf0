-- A row whose pages are named by their places, and the sheets that it is laid on.
use Rattle.std.proofs.Common.{ℕ, zero, suc, List, [], ◌∷◌, Option, Some, ◌+◌, ◌++◌, ◌≡◌, ◌∙◌, ap, ap₂, refl, sym, length, take, arith, map, Ok}
use Rattle.std.specs.Prelude.{slice_get}
use Rattle.std.proofs.lemmas.Option.{none-some, same_Some}
use Rattle.rules.specs.Papers.{Paper}
use Rattle.rules.specs.Made.{MadeSheet}
use Rattle.rules.specs.Rows.{Row}
use Rattle.row_runs.specs.Evened.{at_common_scale}
use Rattle.row_runs.specs.Numbers.{place_named, paper_in, places_by, named_places_from, sheet_paper}
use Rattle.row_runs.specs.Sheets.{laying_for, leaves_in, row_chosen, row_printed, sewn, sheets_laid}
use Rattle.row_runs.specs.declared.sheet_request.SheetRequest.{SheetRequest}
use Rattle.row_runs.specs.declared.sheet_request.Laying.{Laying}

one : (n i : ℕ) (row : Row) (e : Option ℕ) → slice_get row i ≡ Some e → named_places_from n (take i row) ++ place_named (n + i) e ∷ [] ≡ named_places_from n (take (suc i) row)
one n i [] e at = absurd (none-some e at)
one n zero (x ∷ row) e at =
    let here : n + 0 ≡ n = omega arith in
    ap₂ (λ k y. place_named k y ∷ []) here (sym (same_Some x e at))
one n (suc i) (x ∷ row) e at =
    let next : n + suc i ≡ (n + 1) + i = omega arith in
    ap (λ r. place_named n x ∷ r) (ap (λ k. named_places_from (n + 1) (take i row) ++ place_named k e ∷ []) next ∙ one (n + 1) i row e at)

-- one entry more
pub place_more : (i : ℕ) (row : Row) (e : Option ℕ) → slice_get row i ≡ Some e → named_places_from 0 (take i row) ++ place_named i e ∷ [] ≡ named_places_from 0 (take (i + 1) row)
place_more i row e at =
    let next : suc i ≡ i + 1 = omega arith in
    let place : i ≡ 0 + i = omega arith in
    ap (λ k. named_places_from 0 (take i row) ++ place_named k e ∷ []) place ∙ one 0 i row e at ∙ ap (λ k. named_places_from 0 (take k row)) next

pub place_count : (n : ℕ) (row : Row) → length (named_places_from n row) ≡ length row
place_count n [] = refl
place_count n (x ∷ row) = ap suc (place_count (n + 1) row)

-- what is laid are the sheets with places
pub places_so : (pages : ℕ) (papers : List Paper) (a : SheetRequest) (row printed places : Row) (own : List Paper) (leaves : ℕ) (l : Laying) (made : List MadeSheet)
    → row_chosen pages a ≡ Ok row → printed ≡ row_printed a row → leaves ≡ leaves_in (sewn a) row → l ≡ at_common_scale a.same_scale a.laying papers printed
    → own ≡ map (paper_in papers (sheet_paper a.laying)) row → places ≡ row_printed a (named_places_from 0 row)
    → made ≡ sheets_laid l leaves own places → made ≡ places_by papers a (row_chosen pages a)
places_so pages papers a row printed places own leaves l made chosen is_printed many evened owned placed laid =
    let l_is : l ≡ laying_for a papers row = evened ∙ ap (at_common_scale a.same_scale a.laying papers) is_printed in
    laid
    ∙ ap (λ r. sheets_laid l leaves own r) placed
    ∙ ap (λ o. sheets_laid l leaves o (row_printed a (named_places_from 0 row))) owned
    ∙ ap (λ n. sheets_laid l n (map (paper_in papers (sheet_paper a.laying)) row) (row_printed a (named_places_from 0 row))) many
    ∙ ap (λ x. sheets_laid x (leaves_in (sewn a) row) (map (paper_in papers (sheet_paper a.laying)) row) (row_printed a (named_places_from 0 row))) l_is
    ∙ ap (places_by papers a) (sym chosen)
