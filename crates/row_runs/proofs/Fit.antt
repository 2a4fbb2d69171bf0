-- The sheets that are asked for, of pages that have their places.
use Rattle.std.proofs.Common.{arith, ◌≡◌, ◌∙◌, ℕ, ◌+◌, ◌*◌, ◌%◌, ◌<◌, Bool, true, false, List, [], ◌++◌, Ok, Some, sym, ap, subst, None}
use Rattle.std.specs.Prelude.{◌==◌, if◌then◌else◌, length, nat_abs, pos}
use Rattle.std.specs.List.{AllByRecursion}
use Rattle.rules.specs.Papers.{Paper}
use Rattle.rules.specs.Sheets.{blocks}
use Rattle.rules.specs.Signatures.{entry_of}
use Rattle.rules.specs.Made.{MadeSheet}
use Rattle.rules.specs.Rows.{Row}
use Rattle.layouts.specs.Placed.{Room}
use Rattle.layouts.specs.Cells.{Grid, along_height, cell, size, wide}
use Rattle.layouts.specs.Grids.{beside}
use Rattle.layouts.proofs.Folds.{fold}
use Rattle.row_sheets.specs.Creep.{AreHalves, creeping_sheets}
use Rattle.row_sheets.specs.Filled.{Filling, card_entry, duplex_entry, grid_entry, stack_entry, behind_in}
use Rattle.row_sheets.specs.Posters.{AllMayBePosters, poster_paper}
use Rattle.row_sheets.specs.Shapes.{filling}
use Rattle.row_sheets.specs.Standing.{AllFitOnLeaves}
use Rattle.row_sheets.specs.declared.poster.Poster.{Poster}
use Rattle.row_sheets.proofs.InCells.{filled_stands_in_cells}
use Rattle.row_sheets.proofs.OnLeaves.{leaves_fold, leaves_stand}
use Rattle.row_sheets.proofs.Stacking.{leaves_are_read, stack_is_read}
use Rattle.row_sheets.proofs.ZineCells.{zine_lies_in_cells}
use Rattle.row_sheets.proofs.Zines.{zine_is_read}
use Rattle.row_sheets.proofs.Shown.{can_be, poster_has_tiles, row_is_shown}
use Rattle.dressing.specs.Between.{IsAlong}
use Rattle.dressing.specs.Strokes.{fold_marks}
use Rattle.dressing.proofs.OnFold.{mark_is}
use Rattle.row_runs.specs.declared.sheet_request.SheetRequest.{SheetRequest}
use Rattle.row_runs.specs.declared.sheet_request.Laying.{Laying}
use Rattle.row_runs.specs.declared.sheet_request.Laying.TheVariants as laying
use Rattle.row_sheets.specs.declared.fill.Scheme.TheVariants as scheme
use Rattle.row_runs.specs.Evened.{at_common_scale, why_not_even_if}
use Rattle.row_runs.specs.InPlaces.{AskedStandInPlaces, IsMarkedAtFold, IsShownOn, StandInPlaces}
use Rattle.row_runs.specs.Sheets.{AreAsked, FitAsLaid, MayBeLaid, laying_for, leaves_in, row_chosen, row_printed, sewn, sheets_laid}
use Rattle.row_runs.proofs.NotLaid.{after_even, laid_none}

-- ---- what is asked for

abbrev pub LaidSo : Laying → (leaves : ℕ) → List Paper → Row → List MadeSheet → Type 0
LaidSo l leaves papers row made = (made ≡ sheets_laid l leaves papers row) × FitAsLaid l leaves papers row

pub asked_so : (pages : ℕ) (papers : List Paper) (a : SheetRequest) (row printed : Row) (leaves : ℕ) (l : Laying) (made : List MadeSheet) → row_chosen pages a ≡ Ok row → printed ≡ row_printed a row → leaves ≡ leaves_in (sewn a) row
    → l ≡ at_common_scale a.same_scale a.laying papers printed → why_not_even_if a.same_scale a.laying papers printed ≡ None → LaidSo l leaves papers printed made → AreAsked pages papers a made
asked_so pages papers a row printed leaves l made chosen is_printed many evened even laid =
    let l_is : l ≡ laying_for a papers row = evened ∙ ap (at_common_scale a.same_scale a.laying papers) is_printed in
    let so : LaidSo (laying_for a papers row) (leaves_in (sewn a) row) papers (row_printed a row) made =
    subst (λ r. LaidSo (laying_for a papers row) (leaves_in (sewn a) row) papers r made) is_printed
    (subst (λ n. LaidSo (laying_for a papers row) n papers printed made) many
    (subst (λ x. LaidSo x leaves papers printed made) l_is laid)) in
    record {
      row = row;
      is_chosen = chosen;
      are_laid = so.0;
      fits = so.1;
      accepted = after_even _ _ _ (subst (λ r. why_not_even_if a.same_scale a.laying papers r ≡ None) is_printed even)
          (laid_none (laying_for a papers row) (leaves_in (sewn a) row) papers (row_printed a row) so.1);
    }

-- ---- where its pages are

-- one scale for all pages leaves the cells as they are
pub evened_may_be : (same_scale : Bool) (l : Laying) (papers : List Paper) (row : Row) → MayBeLaid l → MayBeLaid (at_common_scale same_scale l papers row)
evened_may_be false l papers row h = h
evened_may_be true (laying.InCells t (scheme.Booklet turned_backs creep)) papers row h =
    record { grid_is = h.grid_is; order_is = h.order_is; even = h.even }
evened_may_be true (laying.InCells t scheme.Zine) papers row h =
    record { grid_is = h.grid_is; order_is = h.order_is; untrimmed = h.untrimmed; some_across = h.some_across; some_up = h.some_up; even = h.even }
evened_may_be true other papers row h = h

shown_on : (p : Poster) (papers : List Paper) (row : Row) → AllMayBePosters p papers row → (i page : ℕ) → entry_of row i ≡ Some page
    → IsShownOn p papers i page (sheets_laid (laying.Poster p) 0 papers row)
shown_on p papers row fits i page is = record {
  has_tiles = poster_has_tiles (poster_paper p papers page) p (can_be p papers page (entry_of row i) is (fits i)).fits;
  shown = λ at of. row_is_shown p papers row i page at fits is of;
}

-- the marks of two halves lie along the fold
marks_along : (room : Room) (g : Grid) (twice : ℕ) → g ≡ beside true → twice ≡ fold (along_height room) (nat_abs room.paper.height) → AllByRecursion (IsAlong room twice) (fold_marks room g ++ [])
marks_along room g twice halves at =
    let along = ap pos (mark_is (along_height room) (nat_abs room.paper.height)) in
    subst (λ h. AllByRecursion (IsAlong room twice) (fold_marks room h ++ [])) (sym halves)
    (subst (λ n. AllByRecursion (IsAlong room n) (fold_marks room (beside true) ++ [])) (sym at) ((along, along), ((along, along), tt)))

has_room : (room : Room) (g : Grid) → g ≡ beside true → 0 < wide room g → 0 < cell (along_height room) (nat_abs room.paper.height) 2
has_room room g halves some = subst (λ h. 0 < wide room h) halves some

at_fold : (f : Filling) (turned_backs : Bool) (creep leaves : ℕ) (row : Row) → AreHalves f.setting → AllFitOnLeaves f creep leaves row
    → IsMarkedAtFold f.setting turned_backs creep (creeping_sheets f turned_backs creep leaves row)
at_fold f turned_backs creep leaves row halved fits =
    let t = f.setting in
    let sheets = blocks 2 (length row) in (
      leaves_stand f turned_backs creep leaves sheets row halved (λ s k in_s in_k. fits s k in_k),
      λ some. marks_along t.room t.grid _ halved.grid_is
          (leaves_fold f turned_backs creep leaves sheets row halved (λ s k in_s in_k. fits s k in_k) (has_room t.room t.grid halved.grid_is some)),
    )

in_places : (l : Laying) (leaves : ℕ) (papers : List Paper) (row : Row) → MayBeLaid l → FitAsLaid l leaves papers row → StandInPlaces l papers row (sheets_laid l leaves papers row)
in_places (laying.AsTheyAre blank) leaves papers row may fits = tt
in_places (laying.InCells t (scheme.Grid cells)) leaves papers row may fits =
    filled_stands_in_cells (filling t papers) (blocks cells (length row)) cells (grid_entry cells row) may.1 (λ s c. fits (s * cells + c))
in_places (laying.InCells t (scheme.Cards cells)) leaves papers row may fits =
    filled_stands_in_cells (filling t papers) (length row) cells (card_entry row) may.1 (λ s c. fits s)
in_places (laying.InCells t (scheme.Stack cells)) leaves papers row may fits =
    let sheets = blocks cells (length row) in (
      filled_stands_in_cells (filling t papers) sheets cells (stack_entry sheets row) may.1 (λ s c. fits (c * sheets + s)),
      stack_is_read (filling t papers) cells row,
    )
in_places (laying.InCells t scheme.Leaves) leaves papers row may fits =
    let many = blocks (2 * size t.grid) (length row) in (
      filled_stands_in_cells (filling t papers) (2 * many) (size t.grid) (duplex_entry many (behind_in t) row) (omega arith)
          (λ s c. fits ((if s % 2 == 0 then c else behind_in t c) * (2 * many) + s)),
      leaves_are_read (filling t papers) row,
    )
in_places (laying.InCells t (scheme.Booklet turned_backs creep)) leaves papers row may fits = at_fold (filling t papers) turned_backs creep leaves row may fits
in_places (laying.InCells t scheme.Zine) leaves papers row may fits = (zine_is_read (filling t papers) row, zine_lies_in_cells (filling t papers) row may fits)
in_places (laying.Poster p) leaves papers row may fits = shown_on p papers row fits
in_places (laying.BySpec spec sheet page) leaves papers row may fits = tt

pub asked_stand_in_places : AskedStandInPlaces
asked_stand_in_places pages papers a made may asked =
    let row = row_printed a asked.row in
    let l = laying_for a papers asked.row in
    subst (StandInPlaces l papers row) (sym asked.are_laid)
    (in_places l (leaves_in (sewn a) asked.row) papers row (evened_may_be a.same_scale a.laying papers row may.laid) asked.fits)
