-- Worked examples: which pages lie where on the sheets of each command.
use Rattle.std.proofs.Common.{◌≡◌, ℕ, ◌+◌, ◌*◌, List, [], ◌∷◌, Bool, true, false, refl, map}
use Rattle.std.specs.Prelude.{ℤ, pos, negsuc, Option, None, Some, option_map}
use Rattle.rules.specs.Papers.{Paper, points}
use Rattle.rules.specs.Specification.{Turn, Upright, Left, Right}
use Rattle.rules.specs.Choice.{signed_if}
use Rattle.rules.specs.Made.{MadeSheet, MadeSlot, Blank, Placed}
use Rattle.rules.specs.Rows.{all_pages}
use Rattle.layouts.specs.Grids.{leaf_order}
use Rattle.layouts.specs.Placed.{Room}
use Rattle.layouts.specs.declared.arrangement.Cells.TheVariants.{Exactly}
use Rattle.rows.specs.Sewing.{signing_of}
use Rattle.rows.specs.declared.sewing.Signing.TheVariants.{InOne}
use Rattle.row_runs.specs.SwappedMargins.{swapped_room_in, swapped}
use Rattle.row_runs.specs.Sheets.{leaves_in, sheets_laid}
use Rattle.row_runs.specs.declared.sheet_request.Laying.{Laying}
use Rattle.impose_words.specs.Spacings.{swaps_margins, nothing_kept}
use Rattle.impose_words.specs.declared.request.Layout.{Layout}
use Rattle.impose_words.specs.declared.request.Layout.TheVariants as layout
use Rattle.impose_words.specs.declared.request.PosterSize.TheVariants as size
use Rattle.impose_words.specs.declared.request.Spacing.{Spacing}
use Rattle.impose_cli.specs.RowsAsked.{signing_in}
use Rattle.impose_cli.specs.RowTasks.{laying_in}

abbrev swapped_room_or_none : Bool → Option Laying → Option Room
swapped_room_or_none exchanged None = None
swapped_room_or_none exchanged (Some l) = swapped_room_in exchanged l

abbrev laid_or_none : Layout → (page : Paper) → (pages : ℕ) → Option Laying → List MadeSheet
laid_or_none l page pages None = []
laid_or_none l page pages (Some how) =
    let sewn = option_map signing_of (signing_in l) in
    sheets_laid how (leaves_in sewn (all_pages pages)) (map (λ k. page) (all_pages pages)) (signed_if sewn (all_pages pages))

-- a page, counted from 1: how it is turned, and where its lower left corner is, in 10^-9 of a point
abbrev Lies : Type 0
Lies = Option (ℕ × Turn × ℤ × ℤ)

abbrev lies : MadeSlot → Lies
lies Blank = None
lies (Placed page item paper) = Some (page + 1, item.turn, item.x.number, item.y.number)

-- so many points from the left and from below
abbrev at : (page : ℕ) → Turn → (x y : ℕ) → Lies
at page turn x y = Some (page, turn, pos (1_000_000_000 * x), pos (1_000_000_000 * y))

-- the sheets of so many pages of this paper, with backs as they are written
abbrev sheets_of : Layout → Spacing → (page sheet : Paper) → (pages : ℕ) → List (List Lies)
sheets_of l s page sheet pages = let how = laying_in l s page sheet in
    map (λ (made : MadeSheet). map lies made.slots) (swapped (swapped_room_or_none (swaps_margins l s) how) (laid_or_none l page pages how))

abbrev square : Paper
square = points 100 100

abbrev high : Paper
high = points 100 200

abbrev wide : Paper
wide = points 200 100

-- Cells, one above another and side by side.

nup : sheets_of (layout.NUp (Exactly 1 2)) nothing_kept square high 3
    ≡ (at 1 Upright 0 100 ∷ at 2 Upright 0 0 ∷ []) ∷ (at 3 Upright 0 100 ∷ None ∷ []) ∷ []
nup = refl

cards : sheets_of (layout.Cards (Exactly 1 2)) nothing_kept square high 2
    ≡ (at 1 Upright 0 100 ∷ at 1 Upright 0 0 ∷ []) ∷ (at 2 Upright 0 100 ∷ at 2 Upright 0 0 ∷ []) ∷ []
cards = refl

-- cut, and with the right parts below the left ones, the sheets read on
stack : sheets_of (layout.Stack (Exactly 2 1) false) nothing_kept square wide 3
    ≡ (at 1 Upright 0 0 ∷ at 3 Upright 100 0 ∷ []) ∷ (at 2 Upright 0 0 ∷ None ∷ []) ∷ []
stack = refl

-- page 2 is behind page 1: on the right of a back, which is turned over like the page of a book
leaves : sheets_of (layout.Stack (Exactly 2 1) true) nothing_kept square wide 8
    ≡ (at 1 Upright 0 0 ∷ at 5 Upright 100 0 ∷ []) ∷ (at 6 Upright 0 0 ∷ at 2 Upright 100 0 ∷ [])
    ∷ (at 3 Upright 0 0 ∷ at 7 Upright 100 0 ∷ []) ∷ (at 8 Upright 0 0 ∷ at 4 Upright 100 0 ∷ []) ∷ []
leaves = refl

-- The tiles of a poster, two side by side and three one above another: row by row from the upper left one.

abbrev tile : (left below : ℤ) → List Lies
tile left below = Some (1, Upright, left, below) ∷ []

poster : sheets_of (layout.Poster (size.Sheets (Exactly 2 3))) nothing_kept (points 200 300) square 1
    ≡ tile (pos 0) (negsuc 199_999_999_999) ∷ tile (negsuc 99_999_999_999) (negsuc 199_999_999_999)
    ∷ tile (pos 0) (negsuc 99_999_999_999) ∷ tile (negsuc 99_999_999_999) (negsuc 99_999_999_999)
    ∷ tile (pos 0) (pos 0) ∷ tile (negsuc 99_999_999_999) (pos 0) ∷ []
poster = refl

-- On a paper of 401 by 602 points the page has 2.005 times its size, and takes three by three sheets. Twice its size takes two by two.

in_size : sheets_of (layout.Poster (size.Fitting (points 401 602))) nothing_kept (points 200 200) (points 200 200) 1
    ≡ tile (pos 0) (negsuc 199_999_999_999) ∷ tile (negsuc 199_999_999_999) (negsuc 199_999_999_999)
    ∷ tile (pos 0) (pos 0) ∷ tile (negsuc 199_999_999_999) (pos 0) ∷ []
in_size = refl

-- The leaf of a booklet of four pages. They are turned to the left, so as one holds the sheet for them to be upright, what lies
-- higher on it is on the right: page 1 on the front, page 3 on the back.

booklet : sheets_of (layout.Booklet InOne false) nothing_kept square high 4
    ≡ (at 4 Left 100 0 ∷ at 1 Left 100 100 ∷ []) ∷ (at 2 Left 100 0 ∷ at 3 Left 100 100 ∷ []) ∷ []
booklet = refl

-- for a printer that flips sheets on their long edge the back is turned by half
flipped_on_long_edge : sheets_of (layout.Booklet InOne true) nothing_kept square high 4
    ≡ (at 4 Left 100 0 ∷ at 1 Left 100 100 ∷ []) ∷ (at 2 Right 0 200 ∷ at 3 Right 0 100 ∷ []) ∷ []
flipped_on_long_edge = refl

-- bound at the right page 1 is on the left of the front
bound_at_right : sheets_of (layout.Booklet InOne false) (record nothing_kept { order = leaf_order true }) square high 4
    ≡ (at 4 Left 100 100 ∷ at 1 Left 100 0 ∷ []) ∷ (at 2 Left 100 100 ∷ at 3 Left 100 0 ∷ []) ∷ []
bound_at_right = refl

-- An inner edge of 10 points, on both sides of a fold.

abbrev inner : Spacing
inner = record nothing_kept { inner = Some (pos 1_270_000_000_000) }

inner_at_fold : sheets_of (layout.Booklet InOne false) inner (points 90 100) high 4
    ≡ (at 4 Left 100 0 ∷ at 1 Left 100 110 ∷ []) ∷ (at 2 Left 100 0 ∷ at 3 Left 100 110 ∷ []) ∷ []
inner_at_fold = refl
