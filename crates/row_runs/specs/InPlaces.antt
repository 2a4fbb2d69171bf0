-- Where the pages of the sheets that are asked for are: what follows as none of them had to be refused.
use Rattle.std.specs.Prelude.{◌≡◌, ⊤, ℕ, ◌<◌, Bool, true, false, List, All, None, Some}
use Rattle.std.specs.List.{AllByRecursion}
use Rattle.rules.specs.Papers.{Paper}
use Rattle.rules.specs.Placement.{Point}
use Rattle.rules.specs.Signatures.{entry_of}
use Rattle.rules.specs.Made.{MadeSheet}
use Rattle.rules.specs.Rows.{Row}
use Rattle.layouts.specs.declared.setting.Setting.{Setting}
use Rattle.layouts.specs.Placed.{IsOfPage}
use Rattle.layouts.specs.Cells.{wide}
use Rattle.row_sheets.specs.Posters.{HasTiles, IsOnTile, poster_paper}
use Rattle.row_sheets.specs.Stacked.{ArePiled, ArePiledLeaves}
use Rattle.row_sheets.specs.Standing.{LeavesStand, StandsInCells}
use Rattle.row_sheets.specs.Zine.{AreReadFolded, LieInZines}
use Rattle.row_sheets.specs.declared.poster.Poster.{Poster}
use Rattle.dressing.specs.Between.{IsAlong}
use Rattle.dressing.specs.declared.strokes.Marks.{Marks}
use Rattle.row_runs.specs.Marked.{strokes_in}
use Rattle.row_runs.specs.Sheets.{AreAsked, MayBeAsked, laying_for, row_printed}
use Rattle.row_runs.specs.declared.sheet_request.SheetRequest.{SheetRequest}
use Rattle.row_runs.specs.declared.sheet_request.Laying.{Laying}
use Rattle.row_runs.specs.declared.sheet_request.Laying.TheVariants as laying
use Rattle.row_sheets.specs.declared.fill.Scheme.TheVariants as scheme

-- these sheets show all of the page of entry i: the poster has tiles, which are longer than they overlap, and each
-- point of the page is shown on one of the entry's sheets
pub record IsShownOn (p : Poster) (papers : List Paper) (i page : ℕ) (made : List MadeSheet) : Type 0 where
  pub has_tiles : HasTiles p
  pub shown : (at : Point) → IsOfPage 0 (poster_paper p papers page) at → IsOnTile p made i page (poster_paper p papers page) at

-- marks at folds alone
abbrev pub at_folds : Marks
at_folds = record { fold = true; cut = false; ruled = false; numbers = None }

-- on a booklet's sides nothing crosses the fold, and if their halves have room for pages such marks lie on it
abbrev pub IsMarkedAtFold : Setting → (turned_backs : Bool) → (creep : ℕ) → List MadeSheet → Type 0
IsMarkedAtFold t turned_backs creep made = (stand : LeavesStand t turned_backs creep made)
    × (0 < wide t.room t.grid
    → AllByRecursion (IsAlong t.room stand.twice) (strokes_in at_folds (laying.InCells t (scheme.Booklet turned_backs creep))))

-- in cells that are filled in turn each page is fitted into its own, and they read in order; a stack's, cut and laid, are
-- the row, and so are a zine's, folded and cut; booklets are marked at their fold; of a poster's pages each point is shown. Of pages that are left
-- as they are only `StandAsLaid` speaks; a specification itself says where its pages are
abbrev pub StandInPlaces : Laying → List Paper → Row → List MadeSheet → Type 0
StandInPlaces (laying.AsTheyAre blank) papers row made = ⊤
StandInPlaces (laying.InCells t (scheme.Grid cells)) papers row made = All (StandsInCells t) made
StandInPlaces (laying.InCells t (scheme.Cards cells)) papers row made = All (StandsInCells t) made
StandInPlaces (laying.InCells t (scheme.Stack cells)) papers row made = All (StandsInCells t) made × ArePiled cells row made
StandInPlaces (laying.InCells t scheme.Leaves) papers row made = All (StandsInCells t) made × ArePiledLeaves t row made
StandInPlaces (laying.InCells t (scheme.Booklet turned_backs creep)) papers row made = IsMarkedAtFold t turned_backs creep made
StandInPlaces (laying.InCells t scheme.Zine) papers row made = AreReadFolded row made × LieInZines t made
StandInPlaces (laying.BySpec spec sheet page) papers row made = ⊤
StandInPlaces (laying.Poster p) papers row made = (i page : ℕ) → entry_of row i ≡ Some page → IsShownOn p papers i page made

-- the sheets that are asked for are in their places: a law
abbrev pub AskedStandInPlaces : Type 0
AskedStandInPlaces = (pages : ℕ) (papers : List Paper) (a : SheetRequest) (made : List MadeSheet) → MayBeAsked a
    → (asked : AreAsked pages papers a made)
    → StandInPlaces (laying_for a papers asked.row) papers (row_printed a asked.row) made
