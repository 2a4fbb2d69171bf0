-- What is written keeps its cells and its room.
use Rattle.std.proofs.Common.{arith, ◌≡◌, ◌∙◌, ℕ, ◌+◌, ◌*◌, Bool, true, false, List, Option, ap₂, refl, subst, sym, length, map}
use Rattle.std.specs.Prelude.{⊤, ◌==◌, ◌%◌, if◌then◌else◌}
use Rattle.rules.specs.Papers.{Paper}
use Rattle.rules.specs.Sheets.{blocks}
use Rattle.rules.specs.Specification.{Turn}
use Rattle.rules.specs.Made.{MadeSheet}
use Rattle.rules.specs.Rows.{Row}
use Rattle.layouts.specs.Cells.{size}
use Rattle.layouts.specs.Placed.{Room}
use Rattle.row_sheets.specs.Filled.{behind_in, card_entry, duplex_entry, grid_entry, stack_entry}
use Rattle.row_sheets.specs.Shapes.{filling}
use Rattle.row_sheets.specs.Standing.{AllStand}
use Rattle.row_runs.specs.declared.sheet_request.Laying.{Laying}
use Rattle.row_runs.specs.declared.sheet_request.Laying.TheVariants as laying
use Rattle.row_sheets.specs.declared.fill.Scheme.TheVariants as scheme
use Rattle.row_runs.specs.declared.run.RowJob.{RowJob}
use Rattle.row_runs.specs.Evened.{at_common_scale}
use Rattle.row_runs.specs.SwappedMargins.{swapped_room_in, swapped}
use Rattle.row_runs.specs.Runs.{AreTurned}
use Rattle.row_runs.specs.Sheets.{FitAsLaid, MayBeLaid, laying_for, leaves_in, row_printed, sewn, sheets_laid}
use Rattle.row_runs.specs.Standing.{StandAsLaid}
use Rattle.row_runs.specs.Turning.{turn_on, turned_sheet}
use Rattle.row_runs.specs.Written.{AreInTheirCells, KeepTheirRoom, WrittenInCells, WrittenKeepRoom}
use Rattle.row_runs.proofs.Fit.{evened_may_be}
use Rattle.row_runs.proofs.InCells.{filled_lie, zines_lie}
use Rattle.row_runs.proofs.InHalves.{halves_lie, leaves_keep}
use Rattle.row_runs.proofs.Rooms.{filled_keep}

-- ---- in their cells

lie_as : (m : Bool) (turn : ℕ → Turn) (l : Laying) (leaves : ℕ) (papers : List Paper) (row : Row) → MayBeLaid l → FitAsLaid l leaves papers row
    → AreInTheirCells turn m l leaves (map (turned_sheet turn) (swapped (swapped_room_in m l) (sheets_laid l leaves papers row)))
lie_as m turn (laying.AsTheyAre blank) leaves papers row may fits = tt
lie_as m turn (laying.Poster p) leaves papers row may fits = tt
lie_as m turn (laying.BySpec spec sheet page) leaves papers row may fits = tt
lie_as m turn (laying.InCells t (scheme.Booklet turned_backs creep)) leaves papers row may fits = halves_lie m turn (filling t papers) turned_backs creep leaves row may fits
lie_as m turn (laying.InCells t scheme.Zine) leaves papers row may fits = zines_lie m turn (filling t papers) row may fits
lie_as m turn (laying.InCells t (scheme.Grid cells)) leaves papers row may fits =
    filled_lie m turn (filling t papers) (blocks cells (length row)) cells (grid_entry cells row) may.1 (λ s c. fits (s * cells + c))
lie_as m turn (laying.InCells t (scheme.Cards cells)) leaves papers row may fits =
    filled_lie m turn (filling t papers) (length row) cells (card_entry row) may.1 (λ s c. fits s)
lie_as m turn (laying.InCells t (scheme.Stack cells)) leaves papers row may fits =
    let sheets = blocks cells (length row) in
    filled_lie m turn (filling t papers) sheets cells (stack_entry sheets row) may.1 (λ s c. fits (c * sheets + s))
lie_as m turn (laying.InCells t scheme.Leaves) leaves papers row may fits =
    let many = blocks (2 * size t.grid) (length row) in
    filled_lie m turn (filling t papers) (2 * many) (size t.grid) (duplex_entry many (behind_in t) row) (omega arith)
    (λ s c. fits ((if s % 2 == 0 then c else behind_in t c) * (2 * many) + s))

-- one scale for all pages leaves the room as it is
pub same_swapped_room : (m same_scale : Bool) (l : Laying) (papers : List Paper) (row : Row) → swapped_room_in m l ≡ swapped_room_in m (at_common_scale same_scale l papers row)
same_swapped_room m false l papers row = refl
same_swapped_room m true (laying.AsTheyAre blank) papers row = refl
same_swapped_room m true (laying.InCells t how) papers row = refl
same_swapped_room m true (laying.Poster p) papers row = refl
same_swapped_room m true (laying.BySpec spec sheet page) papers row = refl

-- what is written is the row, laid, with backs moved and pages turned
made_is : (j : RowJob) (made : List MadeSheet) → (are : AreTurned j made)
    → (let l = laying_for j.asked j.papers.now are.asked.row in
    made ≡ map (turned_sheet (turn_on j.turns.now)) (swapped (swapped_room_in j.swapped l) (sheets_laid l (leaves_in (sewn j.asked) are.asked.row) j.papers.now (row_printed j.asked are.asked.row))))
made_is j made are =
    let turn = turn_on j.turns.now in
    are.turned
    ∙ ap₂ (λ (m : Option Room) (xs : List MadeSheet). map (turned_sheet turn) (swapped m xs)) (same_swapped_room j.swapped j.asked.same_scale j.asked.laying j.papers.now (row_printed j.asked are.asked.row)) are.asked.are_laid

-- and it may be laid so
may_be : (j : RowJob) (made : List MadeSheet) → (are : AreTurned j made) → MayBeLaid (laying_for j.asked j.papers.now are.asked.row)
may_be j made are = evened_may_be j.asked.same_scale j.asked.laying j.papers.now (row_printed j.asked are.asked.row) are.may.laid

pub written_in_cells : WrittenInCells
written_in_cells j made are =
    let row = are.asked.row in
    let l = laying_for j.asked j.papers.now row in
    let leaves = leaves_in (sewn j.asked) row in
    subst (AreInTheirCells (turn_on j.turns.now) j.swapped l leaves) (sym (made_is j made are))
    (lie_as j.swapped (turn_on j.turns.now) l leaves j.papers.now (row_printed j.asked row) (may_be j made are) are.asked.fits)

-- ---- between the margins

-- all sheets of a laying in cells lie in its room
abbrev StandInRoom : Laying → List MadeSheet → Type 0
StandInRoom (laying.InCells t (scheme.Grid cells)) made = AllStand t.room made
StandInRoom (laying.InCells t (scheme.Cards cells)) made = AllStand t.room made
StandInRoom (laying.InCells t (scheme.Stack cells)) made = AllStand t.room made
StandInRoom (laying.InCells t scheme.Leaves) made = AllStand t.room made
StandInRoom other made = ⊤

in_room_too : (same_scale : Bool) (l : Laying) (papers : List Paper) (row : Row) (made : List MadeSheet) → StandAsLaid l made → StandInRoom (at_common_scale same_scale l papers row) made
in_room_too false (laying.AsTheyAre blank) papers row made h = tt
in_room_too false (laying.Poster p) papers row made h = tt
in_room_too false (laying.BySpec spec sheet page) papers row made h = tt
in_room_too false (laying.InCells t (scheme.Booklet turned_backs creep)) papers row made h = tt
in_room_too false (laying.InCells t scheme.Zine) papers row made h = tt
in_room_too false (laying.InCells t (scheme.Grid cells)) papers row made h = h
in_room_too false (laying.InCells t (scheme.Cards cells)) papers row made h = h
in_room_too false (laying.InCells t (scheme.Stack cells)) papers row made h = h
in_room_too false (laying.InCells t scheme.Leaves) papers row made h = h
in_room_too true (laying.AsTheyAre blank) papers row made h = tt
in_room_too true (laying.Poster p) papers row made h = tt
in_room_too true (laying.BySpec spec sheet page) papers row made h = tt
in_room_too true (laying.InCells t (scheme.Booklet turned_backs creep)) papers row made h = tt
in_room_too true (laying.InCells t scheme.Zine) papers row made h = tt
in_room_too true (laying.InCells t (scheme.Grid cells)) papers row made h = h
in_room_too true (laying.InCells t (scheme.Cards cells)) papers row made h = h
in_room_too true (laying.InCells t (scheme.Stack cells)) papers row made h = h
in_room_too true (laying.InCells t scheme.Leaves) papers row made h = h

keep_as : (m : Bool) (turn : ℕ → Turn) (l : Laying) (leaves : ℕ) (papers : List Paper) (row : Row) → MayBeLaid l → FitAsLaid l leaves papers row → StandInRoom l (sheets_laid l leaves papers row)
    → KeepTheirRoom m l leaves (map (turned_sheet turn) (swapped (swapped_room_in m l) (sheets_laid l leaves papers row)))
keep_as m turn (laying.AsTheyAre blank) leaves papers row may fits stand = tt
keep_as m turn (laying.Poster p) leaves papers row may fits stand = tt
keep_as m turn (laying.BySpec spec sheet page) leaves papers row may fits stand = tt
keep_as m turn (laying.InCells t (scheme.Booklet turned_backs creep)) leaves papers row may fits stand = leaves_keep m turn (filling t papers) turned_backs creep leaves row may fits
keep_as m turn (laying.InCells t scheme.Zine) leaves papers row may fits stand = tt
keep_as m turn (laying.InCells t (scheme.Grid cells)) leaves papers row may fits stand =
    filled_keep m turn (filling t papers) (blocks cells (length row)) cells (grid_entry cells row) may.1 (λ s c. fits (s * cells + c)) stand
keep_as m turn (laying.InCells t (scheme.Cards cells)) leaves papers row may fits stand =
    filled_keep m turn (filling t papers) (length row) cells (card_entry row) may.1 (λ s c. fits s) stand
keep_as m turn (laying.InCells t (scheme.Stack cells)) leaves papers row may fits stand =
    let sheets = blocks cells (length row) in
    filled_keep m turn (filling t papers) sheets cells (stack_entry sheets row) may.1 (λ s c. fits (c * sheets + s)) stand
keep_as m turn (laying.InCells t scheme.Leaves) leaves papers row may fits stand =
    let many = blocks (2 * size t.grid) (length row) in
    filled_keep m turn (filling t papers) (2 * many) (size t.grid) (duplex_entry many (behind_in t) row) (omega arith)
    (λ s c. fits ((if s % 2 == 0 then c else behind_in t c) * (2 * many) + s)) stand

pub written_keep_room : WrittenKeepRoom
written_keep_room j made are =
    let row = are.asked.row in
    let l = laying_for j.asked j.papers.now row in
    let leaves = leaves_in (sewn j.asked) row in
    let printed = row_printed j.asked row in
    let stand : StandInRoom l (sheets_laid l leaves j.papers.now printed) = subst (StandInRoom l) are.asked.are_laid (in_room_too j.asked.same_scale j.asked.laying j.papers.now printed are.laid are.stand) in
    subst (KeepTheirRoom j.swapped l leaves) (sym (made_is j made are))
    (keep_as j.swapped (turn_on j.turns.now) l leaves j.papers.now printed (may_be j made are) are.asked.fits stand)
