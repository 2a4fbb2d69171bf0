-- Why there is no layout.
use Rattle.std.specs.Prelude.{◌≡◌, ◌⊎◌, ℕ, ◌+◌, ◌*◌, ℤ, pos, int_le, nat_abs, Bool, true, false, ◌&&◌, ◌||◌, not, ◌==◌, nat_le, nat_lt}
use Rattle.std.specs.Prelude.{if◌then◌else◌, Option, Some, None}
use Rattle.rules.specs.Papers.{Paper, is_paper}
use Rattle.layouts.specs.Placed.{Room}
use Rattle.layouts.specs.declared.arrangement.Arrangement.{Arrangement}
use Rattle.layouts.specs.declared.arrangement.Binding.{Binding}
use Rattle.layouts.specs.declared.arrangement.Free.{Free}
use Rattle.layouts.specs.declared.error.ArrangementError.{ArrangementError}
use Rattle.layouts.specs.declared.error.ArrangementError.TheVariants as why
use Rattle.layouts.specs.Cells.{along_height, along_width, left_free, scale_in, trimmed, whole_parts}
use Rattle.layouts.specs.Grids.{beside, is_itself, room_of, grid_of, scale_for, cells_per_sheet}

-- how many pages a sheet takes at most (RULES, 13.5)
abbrev pub most_on_sheet : ℕ
most_on_sheet = 1_024

abbrev pub is_count : ℕ → Bool
is_count n = nat_le 1 n && nat_le n most_on_sheet

-- a side that is out of reach has 100,000 points or more: offsets are of at most 99,999 points, with five nines after
-- the dot
abbrev pub out_of_reach : ℕ
out_of_reach = 12_700_000_000_000_000

abbrev pub is_reached : (side : ℕ) → Bool
is_reached side = nat_lt side out_of_reach

abbrev pub is_paper_reached : Paper → Bool
is_paper_reached paper = is_reached (nat_abs paper.width) && is_reached (nat_abs paper.height)

-- the greatest scale of a layout, 99,999, in 10^-9 (RULES, 16, step 9)
abbrev pub greatest_scale : ℕ
greatest_scale = 99_999_000_000_000

-- from 10^-9 on
abbrev pub is_scale_in_range : ℕ → Bool
is_scale_in_range scale = nat_le 1 scale && nat_le scale greatest_scale

-- the sheet is no wider than high, and upright pages side by side would not be larger than turned ones (RULES, 14.1)
abbrev pub folds_short : (page : Paper) → Room → Bool
folds_short page room =
    nat_le (nat_abs room.paper.width) (nat_abs room.paper.height)
    && nat_le (scale_in page room (beside false)) (scale_in page room (beside true))

-- ---- arrangements

-- a length from 0 to 99,999 points, with five nines after the dot
abbrev pub is_length : ℤ → Bool
is_length z = int_le (pos 0) z && nat_lt (nat_abs z) out_of_reach

abbrev pub are_lengths : Free → Bool
are_lengths f =
    (is_length f.left && is_length f.right && (is_length f.bottom && is_length f.top))
    && (is_length f.across && is_length f.up && is_length f.trim)

-- as much is kept free along opposite edges (RULES, 13.1)
abbrev pub is_even : Room → Bool
is_even room = (room.left == room.right) && (room.bottom == room.top)

-- something is left of the page
abbrev pub is_shown : (page : Paper) → Room → Bool
is_shown page room =
    nat_lt (2_540_000 * room.trim) (nat_abs page.width) && nat_lt (2_540_000 * room.trim) (nat_abs page.height)

-- the corner of a page that counts as smaller is within reach too
abbrev pub within_reach : Room → (scale : ℕ) → Bool
within_reach room s = nat_lt (whole_parts (nat_abs room.paper.width) + trimmed room s) 10_000_000_000
    && nat_lt (whole_parts (nat_abs room.paper.height) + trimmed room s) 10_000_000_000

abbrev pub error_unless : Bool → ArrangementError → Option ArrangementError → Option ArrangementError
error_unless holds e next = if holds then next else Some e

-- why pages can't have this scale in cells with this largest scale (RULES, 16, step 9)
abbrev pub why_no_scale : Room → (scale largest : ℕ) → Option ArrangementError
why_no_scale room s largest =
    error_unless (nat_le 1 largest) (why.NoRoom room)
    (error_unless (is_scale_in_range s) why.ScaleOutOfRange
    (error_unless (nat_le s largest) why.ScaleTooLarge
    (error_unless (within_reach room s) why.ScaleOutOfRange None)))

-- why lengths or papers can't be kept to
abbrev pub why_no_sheet : (page sheet : Paper) → Free → Option ArrangementError → Option ArrangementError
why_no_sheet page sheet f next =
    error_unless (is_paper_reached page && is_paper_reached sheet) why.SideTooLong
    (error_unless (are_lengths f) why.LengthOutOfRange
    (error_unless (is_shown page (room_of sheet f)) why.NothingLeftOfPage next))

-- the first reason why pages can't be arranged so, if there is one
abbrev pub why_not_arranged : (page sheet : Paper) → Arrangement → Option ArrangementError
why_not_arranged page sheet a =
    let room = room_of sheet a.free in
    let largest = scale_in page room (grid_of page room a.order.turned a.cells) in
    error_unless (is_count (cells_per_sheet a.cells)) why.CellsOutOfRange
    (why_no_sheet page sheet a.free
    (if is_itself page sheet a then None else why_no_scale room (scale_for a.scale largest) largest))

-- the first reason why leaves can't be bound so
abbrev pub why_not_bound : (page sheet : Paper) → Binding → Option ArrangementError
why_not_bound page sheet b =
    let room = room_of sheet b.free in
    let largest = scale_in page room (beside true) in
    why_no_sheet page sheet b.free
    (error_unless (is_even room) why.UnevenMargins
    (error_unless (folds_short page room) why.FoldOnLongEdge (why_no_scale room (scale_for b.scale largest) largest)))

-- margins leave something of a sheet, whatever the pages are; what is no length is another fault (RULES, 16, step 5)
abbrev pub leaves_room : (sheet : Paper) → Free → Bool
leaves_room sheet f = let room = room_of sheet f in not (are_lengths f)
    || (nat_lt 0 (left_free (along_width room) (nat_abs sheet.width)) && nat_lt 0 (left_free (along_height room) (nat_abs sheet.height)))

-- why pages can't have room there
abbrev pub why_no_room : (sheet : Paper) → Free → Option ArrangementError
why_no_room sheet f = error_unless (leaves_room sheet f) (why.NoRoom (room_of sheet f)) None

-- where they leave nothing, pages of any paper are refused: a law
pub record NothingIsLeft (page sheet : Paper) (f : Free) : Type 0 where
  pub arranged : (a : Arrangement) → a.free ≡ f → why_not_arranged page sheet a ≡ None → ⊥
  pub bound : (b : Binding) → b.free ≡ f → why_not_bound page sheet b ≡ None → ⊥

abbrev pub NothingIsLeftOfSheet : Type 0
NothingIsLeftOfSheet = (page sheet : Paper) (f : Free) → is_paper sheet.width sheet.height ≡ true → leaves_room sheet f ≡ false
    → NothingIsLeft page sheet f

-- what an error says: it is the first fault, or memory ran out and there is none
abbrev pub IsArrangementFault : Option ArrangementError → ArrangementError → Type 0
IsArrangementFault found e = ((e ≡ why.NoMemory) × (found ≡ None)) ⊎ (found ≡ Some e)
