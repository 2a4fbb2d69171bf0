-- The sheets that are written stand as they are laid, or each in the room of its side.
use Rattle.std.proofs.Common.{arith, ◌≡◌, ◌∙◌, ℕ, suc, ◌<◌, ◌+◌, ◌*◌, Bool, true, false, List, [], ◌∷◌, Option, Some, None, ap, ap₂, refl, subst, sym, length, map}
use Rattle.std.specs.Prelude.{⊤, pos, All, ◌==◌, ◌%◌, if◌then◌else◌}
use Rattle.std.proofs.lemmas.Int.{ints}
use Rattle.rules.specs.Papers.{Paper}
use Rattle.rules.specs.Sheets.{blocks}
use Rattle.rules.specs.Specification.{Measure}
use Rattle.rules.specs.Made.{MadeSlot, Blank, Placed, MadeSheet}
use Rattle.rules.specs.Rows.{Row}
use Rattle.layouts.specs.Cells.{size}
use Rattle.layouts.specs.Placed.{Room}
use Rattle.row_sheets.specs.Filled.{behind_in, card_entry, duplex_entry, grid_entry, stack_entry}
use Rattle.row_sheets.specs.Shapes.{filling}
use Rattle.row_sheets.specs.Standing.{AllStand}
use Rattle.row_runs.specs.declared.sheet_request.Laying.{Laying}
use Rattle.row_runs.specs.declared.sheet_request.Laying.TheVariants as laying
use Rattle.row_sheets.specs.declared.fill.Scheme.TheVariants as scheme
use Rattle.row_runs.specs.Evened.{at_common_scale}
use Rattle.row_runs.specs.SwappedMargins.{IsInPoints, swapped_room_in, swapped, swapped_from, moved_sheet, moved_slot, swap_shift}
use Rattle.row_runs.specs.Runs.{swapped_room_for, page_count}
use Rattle.row_runs.specs.Sheets.{MayBeLaid, laying_for, leaves_in, row_printed, sewn, sheets_laid}
use Rattle.row_runs.specs.Standing.{StandAsLaid}
use Rattle.row_runs.specs.Turning.{turn_on}
use Rattle.row_runs.specs.InPlaces.{StandInPlaces}
use Rattle.row_runs.specs.Written.{StandAsWritten, StandOnSides, WrittenInPlaces, WrittenStand}
use Rattle.row_runs.proofs.Backs.{filled_in_points, swapped_stands, unswapped, unmoved_sheet}
use Rattle.row_runs.proofs.Fit.{asked_stand_in_places}
use Rattle.row_runs.proofs.Turns.{no_farther, unturned_sheets}

-- ---- even margins are the same on both sides

even_slot : (room : Room) → room.left ≡ room.right → (slot : MadeSlot) → moved_slot (Some room) slot ≡ slot
even_slot room even Blank = refl
even_slot room even (Placed page item paper) =
    let none : swap_shift room ≡ pos 0 = omega (arith, ints, even) in
    ap (λ (x : Measure). Placed page (record item { x = x }) paper) (no_farther (swap_shift room) item.x none)

even_slots : (room : Room) → room.left ≡ room.right → (slots : List MadeSlot) → map (moved_slot (Some room)) slots ≡ slots
even_slots room even [] = refl
even_slots room even (slot ∷ slots) = ap₂ (λ (s : MadeSlot) (all : List MadeSlot). s ∷ all) (even_slot room even slot) (even_slots room even slots)

even_side : (back : Bool) (room : Room) → room.left ≡ room.right → (sheet : MadeSheet) → moved_sheet (if back then Some room else None) sheet ≡ sheet
even_side true room even sheet = ap (λ (slots : List MadeSlot). record { paper = sheet.paper; slots = slots }) (even_slots room even sheet.slots)
even_side false room even sheet = unmoved_sheet sheet

pub even_sheets : (room : Room) → room.left ≡ room.right → (s : ℕ) (made : List MadeSheet) → swapped_from (Some room) s made ≡ made
even_sheets room even s [] = refl
even_sheets room even s (sheet ∷ made) = ap₂ (λ (x : MadeSheet) (all : List MadeSheet). x ∷ all) (even_side (s % 2 == 1) room even sheet) (even_sheets room even (s + 1) made)

-- ---- pages that are filled in are moved by points

abbrev AllInPoints : List MadeSheet → Type 0
AllInPoints made = All (λ sheet. All IsInPoints sheet.slots) made

abbrev InPointsAs : Laying → List MadeSheet → Type 0
InPointsAs (laying.InCells t (scheme.Grid cells)) made = AllInPoints made
InPointsAs (laying.InCells t (scheme.Cards cells)) made = AllInPoints made
InPointsAs (laying.InCells t (scheme.Stack cells)) made = AllInPoints made
InPointsAs (laying.InCells t scheme.Leaves) made = AllInPoints made
InPointsAs other made = ⊤

laid_in_points : (l : Laying) (leaves : ℕ) (papers : List Paper) (row : Row) → InPointsAs l (sheets_laid l leaves papers row)
laid_in_points (laying.InCells t (scheme.Grid cells)) leaves papers row = filled_in_points (filling t papers) (blocks cells (length row)) cells (grid_entry cells row)
laid_in_points (laying.InCells t (scheme.Cards cells)) leaves papers row = filled_in_points (filling t papers) (length row) cells (card_entry row)
laid_in_points (laying.InCells t (scheme.Stack cells)) leaves papers row =
    let sheets = blocks cells (length row) in filled_in_points (filling t papers) sheets cells (stack_entry sheets row)
laid_in_points (laying.InCells t scheme.Leaves) leaves papers row =
    let many = blocks (2 * size t.grid) (length row) in filled_in_points (filling t papers) (2 * many) (size t.grid) (duplex_entry many (behind_in t) row)
laid_in_points (laying.InCells t (scheme.Booklet turned_backs creep)) leaves papers row = tt
laid_in_points (laying.InCells t scheme.Zine) leaves papers row = tt
laid_in_points (laying.AsTheyAre blank) leaves papers row = tt
laid_in_points (laying.Poster p) leaves papers row = tt
laid_in_points (laying.BySpec spec sheet page) leaves papers row = tt

evened_in_points : (same_scale : Bool) (l : Laying) (papers : List Paper) (row : Row) (made : List MadeSheet) → InPointsAs (at_common_scale same_scale l papers row) made → InPointsAs l made
evened_in_points false l papers row made h = h
evened_in_points true (laying.InCells t (scheme.Grid cells)) papers row made h = h
evened_in_points true (laying.InCells t (scheme.Cards cells)) papers row made h = h
evened_in_points true (laying.InCells t (scheme.Stack cells)) papers row made h = h
evened_in_points true (laying.InCells t scheme.Leaves) papers row made h = h
evened_in_points true (laying.InCells t (scheme.Booklet turned_backs creep)) papers row made h = tt
evened_in_points true (laying.InCells t scheme.Zine) papers row made h = tt
evened_in_points true (laying.AsTheyAre blank) papers row made h = tt
evened_in_points true (laying.Poster p) papers row made h = tt
evened_in_points true (laying.BySpec spec sheet page) papers row made h = tt

-- ---- on both sides

unexchanged : (l : Laying) (laid : List MadeSheet) → StandAsLaid l laid → StandAsLaid l (swapped None laid)
unexchanged l laid h = subst (StandAsLaid l) (sym (unswapped 0 laid)) h

on_even_sides : (l : Laying) (room : Room) (laid : List MadeSheet) → room.left ≡ room.right → StandAsLaid l laid → StandAsLaid l (swapped (Some room) laid)
on_even_sides l room laid even h = subst (StandAsLaid l) (sym (even_sheets room even 0 laid)) h

pub count_is : (m : Option Room) (s : ℕ) (made : List MadeSheet) → length (swapped_from m s made) ≡ length made
count_is m s [] = refl
count_is m s (x ∷ made) = ap suc (count_is m (s + 1) made)

on_sides : (room : Room) (laid : List MadeSheet) → AllInPoints laid → AllStand room laid → StandOnSides room (swapped (Some room) laid)
on_sides room laid points stand s d less =
    swapped_stands room laid points stand s d (subst (λ n. s < n) (count_is (Some room) 0 laid) less)

sides_stand : (m : Bool) (l : Laying) (laid : List MadeSheet) → MayBeLaid l → InPointsAs l laid → StandAsLaid l laid → StandAsWritten m l (swapped (swapped_room_in m l) laid)
sides_stand false (laying.AsTheyAre blank) laid may points h = unexchanged (laying.AsTheyAre blank) laid h
sides_stand false (laying.InCells t how) laid may points h = unexchanged (laying.InCells t how) laid h
sides_stand false (laying.Poster p) laid may points h = unexchanged (laying.Poster p) laid h
sides_stand false (laying.BySpec spec sheet page) laid may points h = tt
sides_stand true (laying.AsTheyAre blank) laid may points h = unexchanged (laying.AsTheyAre blank) laid h
sides_stand true (laying.Poster p) laid may points h = unexchanged (laying.Poster p) laid h
sides_stand true (laying.BySpec spec sheet page) laid may points h = tt
sides_stand true (laying.InCells t (scheme.Booklet turned_backs creep)) laid may points h =
    on_even_sides (laying.InCells t (scheme.Booklet turned_backs creep)) t.room laid may.even.across h
sides_stand true (laying.InCells t scheme.Zine) laid may points h = on_even_sides (laying.InCells t scheme.Zine) t.room laid may.even.across h
sides_stand true (laying.InCells t (scheme.Grid cells)) laid may points h = on_sides t.room laid points h
sides_stand true (laying.InCells t (scheme.Cards cells)) laid may points h = on_sides t.room laid points h
sides_stand true (laying.InCells t (scheme.Stack cells)) laid may points h = on_sides t.room laid points h
sides_stand true (laying.InCells t scheme.Leaves) laid may points h = on_sides t.room laid points h

pub written_stand : WrittenStand
written_stand j made are none =
    let a = j.asked in
    let papers = j.papers.now in
    let laid = are.laid in
    let row = are.asked.row in
    let points : InPointsAs a.laying laid = evened_in_points a.same_scale a.laying papers (row_printed a row) laid
    (subst (InPointsAs (laying_for a papers row)) (sym are.asked.are_laid) (laid_in_points (laying_for a papers row) (leaves_in (sewn a) row) papers (row_printed a row))) in
    let same : made ≡ swapped (swapped_room_for j) laid = are.turned ∙ unturned_sheets (turn_on j.turns.now) none (swapped (swapped_room_for j) laid) in
    subst (StandAsWritten j.swapped a.laying) (sym same) (sides_stand j.swapped a.laying laid are.may.laid points are.stand)

-- ---- in their places

pub written_in_places : WrittenInPlaces
written_in_places j made are none unmoved =
    let a = j.asked in
    let papers = j.papers.now in
    let laid = are.laid in
    let row = are.asked.row in
    let same : made ≡ laid = are.turned ∙ unturned_sheets (turn_on j.turns.now) none (swapped (swapped_room_for j) laid) ∙ ap (λ m. swapped m laid) unmoved ∙ unswapped 0 laid in
    subst (StandInPlaces (laying_for a papers row) papers (row_printed a row)) (sym same)
    (asked_stand_in_places (page_count j) papers a laid are.may are.asked)
