-- How a booklet that is asked for is read: what follows for its sheets.
use Rattle.std.specs.Prelude.{◌≡◌, ℕ, ◌*◌, ◌/◌, Bool, List, length, map, flat_map, Some}
use Rattle.std.specs.List.{range_with_len}
use Rattle.rules.specs.Papers.{Paper}
use Rattle.rules.specs.Sheets.{blocks}
use Rattle.rules.specs.Signatures.{entry_of}
use Rattle.rules.specs.Choice.{sides_for}
use Rattle.rules.specs.Made.{MadeSheet}
use Rattle.rules.specs.Rows.{Row}
use Rattle.layouts.specs.declared.setting.Setting.{Setting}
use Rattle.rows.specs.Sewing.{signing_of}
use Rattle.rows.specs.declared.sewing.Signing.{Signing}
use Rattle.row_sheets.specs.Bound.{faces_on, read_bound}
use Rattle.row_runs.specs.Sheets.{AreAsked, MayBeAsked}
use Rattle.row_runs.specs.declared.sheet_request.SheetRequest.{SheetRequest}
use Rattle.row_runs.specs.declared.sheet_request.Laying.TheVariants as laying
use Rattle.row_sheets.specs.declared.fill.Scheme.TheVariants as scheme

-- the sides of a booklet's leaves, folded and bound in signatures of so many, read leaf by leaf and signature by signature,
-- are the row; after its end are the blanks that fill up the last signature
abbrev pub AreReadAs : (right_to_left turned_backs : Bool) → (sides : ℕ) → Row → List MadeSheet → Type 0
AreReadAs right_to_left turned_backs sides row made = (let signatures = blocks sides (length row) in
    flat_map (read_bound right_to_left (sides / 4) (faces_on right_to_left turned_backs made)) (range_with_len 0 signatures)
    ≡ map (entry_of row) (range_with_len 0 (signatures * sides)))

-- the booklet that is asked for is read in the order of the row that is chosen: a law
abbrev pub AskedIsRead : Type 0
AskedIsRead = (pages : ℕ) (papers : List Paper) (a : SheetRequest) (made : List MadeSheet) (t : Setting) (turned_backs : Bool) (creep : ℕ) (how : Signing)
    → MayBeAsked a → (asked : AreAsked pages papers a made) → a.laying ≡ laying.InCells t (scheme.Booklet turned_backs creep) → a.row.signing ≡ Some how
    → AreReadAs t.order.right_to_left turned_backs (sides_for (signing_of how) (length asked.row)) asked.row made
