-- Why a row isn't laid, as it is reported.
use Rattle.std.proofs.Common.{◌≡◌, ◌∙◌, inl, inr, ℕ, ◌≤◌, List, Ok, Option, Some, None, ap, refl, subst, sym}
use Rattle.std.specs.Prelude.{IsOk, option_map}
use Rattle.std.specs.Option.{option_or}
use Rattle.rules.specs.Papers.{Paper}
use Rattle.rules.specs.Run.{most_pages}
use Rattle.rules.specs.Rows.{Row}
use Rattle.layouts.specs.declared.error.ArrangementError.{ArrangementError}
use Rattle.layouts.specs.declared.error.ArrangementError.TheVariants as why
use Rattle.layouts.specs.Refusals.{IsArrangementFault}
use Rattle.row_sheets.specs.Shapes.{filling}
use Rattle.row_sheets.specs.Posters.{IsNoPoster}
use Rattle.row_sheets.specs.declared.poster.PosterError.{PosterError}
use Rattle.row_sheets.specs.declared.poster.PosterError.TheVariants as poster
use Rattle.row_sheets.proofs.Refused.{fit_none, on_leaves_none, posters_none}
use Rattle.row_runs.specs.declared.sheet_request.SheetRequest.{SheetRequest}
use Rattle.row_runs.specs.declared.sheet_request.Laying.{Laying}
use Rattle.row_runs.specs.declared.sheet_request.Laying.TheVariants as laying
use Rattle.row_sheets.specs.declared.fill.Scheme.TheVariants as scheme
use Rattle.row_runs.specs.declared.error.SheetError.{SheetError}
use Rattle.row_runs.specs.declared.error.SheetError.TheVariants as error
use Rattle.row_runs.specs.Errors.{of_arrangement, of_poster}
use Rattle.row_runs.specs.Evened.{at_common_scale, why_not_even_if}
use Rattle.row_runs.specs.Sheets.{FitAsLaid, RefusesAsked, RefusesLaying, laying_for, leaves_in, row_chosen, row_printed, sewn, sheets_laid, why_not_laid}

-- ---- what a reason is called

arrangement_as : (P : SheetError → Type 0) (e : ArrangementError) → P error.NoMemory → P (error.Arrangement e) → P (of_arrangement e)
arrangement_as P why.NoMemory none h = none
arrangement_as P other none h = h

poster_as : (P : SheetError → Type 0) (e : PosterError) → P error.NoMemory → P (error.Poster e) → P (of_poster e)
poster_as P poster.NoMemory none h = none
poster_as P other none h = h

-- ---- laid so

pub cells_told : (l : Laying) (leaves : ℕ) (papers : List Paper) (row : Row) (first : Option ArrangementError) (e : ArrangementError) (told : SheetError) → why_not_laid l leaves papers row ≡ option_map error.Arrangement first → told ≡ of_arrangement e
    → IsArrangementFault first e → RefusesLaying l leaves papers row told
cells_told l leaves papers row first e told laid is (inl none) =
    subst (RefusesLaying l leaves papers row) (sym (is ∙ ap of_arrangement none.0)) tt
cells_told l leaves papers row first e told laid is (inr h) =
    subst (RefusesLaying l leaves papers row) (sym is) (arrangement_as (RefusesLaying l leaves papers row) e tt (laid ∙ ap (option_map error.Arrangement) h))

pub posters_told : (l : Laying) (leaves : ℕ) (papers : List Paper) (row : Row) (first : Option PosterError) (e : PosterError) (told : SheetError) → why_not_laid l leaves papers row ≡ option_map error.Poster first → told ≡ of_poster e → IsNoPoster first e
    → RefusesLaying l leaves papers row told
posters_told l leaves papers row first e told laid is (inl none) =
    subst (RefusesLaying l leaves papers row) (sym (is ∙ ap of_poster none.0)) tt
posters_told l leaves papers row first e told laid is (inr h) =
    subst (RefusesLaying l leaves papers row) (sym is) (poster_as (RefusesLaying l leaves papers row) e tt (laid ∙ ap (option_map error.Poster) h))

-- nothing refuses pages that have their places
pub laid_none : (l : Laying) (leaves : ℕ) (papers : List Paper) (row : Row) → FitAsLaid l leaves papers row → why_not_laid l leaves papers row ≡ None
laid_none (laying.AsTheyAre blank) leaves papers row fits = refl
laid_none (laying.InCells t (scheme.Booklet turned_backs creep)) leaves papers row fits =
    ap (option_map error.Arrangement) (on_leaves_none (filling t papers) creep leaves row fits)
laid_none (laying.InCells t other) leaves papers row fits = ap (option_map error.Arrangement) (fit_none (filling t papers) row fits)
laid_none (laying.Poster p) leaves papers row fits = ap (option_map error.Poster) (posters_none p papers row fits)
laid_none (laying.BySpec spec sheet page) leaves papers row fits = refl

-- ---- as is asked

-- of the one scale
pub even_told : (pages : ℕ) (papers : List Paper) (a : SheetRequest) (row printed : Row) (e : ArrangementError) (told : SheetError) → row_chosen pages a ≡ Ok row → printed ≡ row_printed a row
    → why_not_even_if a.same_scale a.laying papers printed ≡ Some e → told ≡ of_arrangement e → RefusesAsked pages papers a told
even_told pages papers a row printed e told is made h names =
    let first : why_not_even_if a.same_scale a.laying papers (row_printed a row) ≡ Some e = subst (λ r. why_not_even_if a.same_scale a.laying papers r ≡ Some e) made h in
    subst (RefusesAsked pages papers a) (sym names)
    (arrangement_as (RefusesAsked pages papers a) e (subst IsOk (sym is) refl)
    (row, is, ap (λ x. option_or (option_map error.Arrangement x) (why_not_laid (laying_for a papers row) (leaves_in (sewn a) row) papers (row_printed a row))) first))

-- if the one scale refuses nothing, the cells or posters do, or nothing does
pub after_even : (even : Option ArrangementError) (laid found : Option SheetError) → even ≡ None → laid ≡ found → option_or (option_map error.Arrangement even) laid ≡ found
after_even even laid found none is = ap (λ x. option_or (option_map error.Arrangement x) laid) none ∙ is

of_laying : (pages : ℕ) (papers : List Paper) (a : SheetRequest) (row : Row) (e : SheetError) → pages ≤ most_pages → row_chosen pages a ≡ Ok row → why_not_even_if a.same_scale a.laying papers (row_printed a row) ≡ None
    → RefusesLaying (laying_for a papers row) (leaves_in (sewn a) row) papers (row_printed a row) e → RefusesAsked pages papers a e
of_laying pages papers a row (error.Row e) few is even h = absurd h
of_laying pages papers a row (error.Sheets e) few is even h =
    let l = laying_for a papers row in
    let leaves = leaves_in (sewn a) row in
    let printed = row_printed a row in (
      sheets_laid l leaves papers printed,
      record {
        row = row;
        is_chosen = is;
        are_laid = refl;
        fits = h.0;
        accepted = after_even _ _ _ even (laid_none l leaves papers printed h.0);
      },
      h.1,
      h.2 pages few,
    )
of_laying pages papers a row error.OutOfReach few is even h = absurd h
of_laying pages papers a row error.NoMemory few is even h = subst IsOk (sym is) refl
of_laying pages papers a row other few is even h = (row, is, after_even _ _ _ even h)

pub asked_told : (pages : ℕ) (papers : List Paper) (a : SheetRequest) (row printed : Row) (leaves : ℕ) (l : Laying) (e : SheetError) → pages ≤ most_pages → row_chosen pages a ≡ Ok row → printed ≡ row_printed a row → leaves ≡ leaves_in (sewn a) row
    → l ≡ at_common_scale a.same_scale a.laying papers printed → why_not_even_if a.same_scale a.laying papers printed ≡ None → RefusesLaying l leaves papers printed e → RefusesAsked pages papers a e
asked_told pages papers a row printed leaves l e few chosen is_printed many evened even h =
    let l_is : l ≡ laying_for a papers row = evened ∙ ap (at_common_scale a.same_scale a.laying papers) is_printed in
    of_laying pages papers a row e few chosen (subst (λ r. why_not_even_if a.same_scale a.laying papers r ≡ None) is_printed even)
    (subst (λ r. RefusesLaying (laying_for a papers row) (leaves_in (sewn a) row) papers r e) is_printed
    (subst (λ n. RefusesLaying (laying_for a papers row) n papers printed e) many
    (subst (λ x. RefusesLaying x leaves papers printed e) l_is h)))
