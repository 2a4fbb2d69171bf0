-- Leaves that creep: in a folded signature the inner leaves stick out, so what is on them is moved towards the fold.
-- All here is this project's own rules.
use Rattle.std.specs.Prelude.{◌≡◌, ℕ, ◌+◌, ◌-◌, ◌*◌, ◌/◌, ◌%◌, ◌<◌, ◌≤◌, ℤ, pos, ◌+ℤ◌, ◌-ℤ◌, ◌*ℤ◌, neg_ℤ, ◌≤ℤ◌}
use Rattle.std.specs.Prelude.{Bool, true, false, ◌==◌, if◌then◌else◌, nat_le, nat_abs, List, map, length, Option, Some, None}
use Rattle.std.specs.List.{range_with_len}
use Rattle.std.specs.Option.{option_or}
use Rattle.rules.specs.Papers.{Paper, Pt}
use Rattle.rules.specs.Specification.{Item}
use Rattle.rules.specs.Placement.{Point}
use Rattle.rules.specs.Sheets.{blocks}
use Rattle.rules.specs.Signatures.{entry_of}
use Rattle.rules.specs.Made.{MadeSlot, MadeSheet}
use Rattle.rules.specs.Rows.{Row}
use Rattle.layouts.specs.declared.error.ArrangementError.{ArrangementError}
use Rattle.layouts.specs.declared.error.ArrangementError.TheVariants as why
use Rattle.layouts.specs.declared.setting.Setting.{Setting}
use Rattle.layouts.specs.Placed.{IsEven, Room, fine, stands, IsOfPage}
use Rattle.layouts.specs.Cells.{item_in_cell, slack_x, whole_parts}
use Rattle.layouts.specs.Grids.{beside, leaf_order}
use Rattle.layouts.specs.Laws.{IsPaper, HasPlace}
use Rattle.layouts.specs.Refusals.{error_unless}
use Rattle.layouts.specs.Fitted.{scale_on, why_not_fitted}
use Rattle.row_sheets.specs.Filled.{Filling, booklet_sheets, grid_entry, in_half, is_turned, placed}
use Rattle.row_sheets.specs.FirstFault.{first_fault}
use Rattle.row_sheets.specs.Shapes.{first_refused}

-- how far leaf i of m is moved, in 10^-5 of a point; leaf 0 is the outermost, and one leaf alone doesn't creep
-- (RULES, 14.2)
abbrev pub creep_of : (creep leaves i : ℕ) → ℕ
creep_of creep leaves i = if nat_le leaves 1 then 0 else i * creep / (leaves - 1)

-- a page that is moved up by so many 10^-5 of a point; its offset is in points
abbrev pub moved_up : ℤ → Item → Item
moved_up by item = record item {
  y = record { number = item.y.number +ℤ (pos 10_000 *ℤ by); unit = Pt };
}

-- page k of a side lies before the fold, or beyond it
abbrev pub is_before_fold : (right_to_left : Bool) → (k : ℕ) → Bool
is_before_fold right_to_left k = if right_to_left then k == 1 else k == 0

-- towards the fold
abbrev pub to_fold : (right_to_left : Bool) → (k creep : ℕ) → ℤ
to_fold right_to_left k creep = if is_before_fold right_to_left k then pos creep else pos 0 -ℤ pos creep

-- page k of a side of a leaf that creeps so far
abbrev pub leaf_item : (page : Paper) → Room → (right_to_left : Bool) → (scale creep k : ℕ) → Item
leaf_item page room right_to_left s creep k =
    moved_up (to_fold right_to_left k creep) (item_in_cell page room (beside true) (leaf_order right_to_left) s k)

-- a page of a creeping leaf is that of a leaf that doesn't creep, moved towards the fold: a law
abbrev pub CreepMoves : Type 0
CreepMoves = (page : Paper) (room : Room) (right_to_left : Bool) (s creep k : ℕ) (p : Point)
    → ((stands page (leaf_item page room right_to_left s creep k) p).x
    ≡ (stands page (item_in_cell page room (beside true) (leaf_order right_to_left) s k) p).x)
    × ((stands page (leaf_item page room right_to_left s creep k) p).y
    ≡ (stands page (item_in_cell page room (beside true) (leaf_order right_to_left) s k) p).y
    +ℤ (pos 1_270_000_000_000_000 *ℤ to_fold right_to_left k creep))

-- the outermost leaf stays, the innermost is moved by the whole creep, and none is moved farther than the next one in
abbrev pub CreepGrows : Type 0
CreepGrows = (creep leaves i : ℕ) → 1 < leaves → i + 1 < leaves
    → (creep_of creep leaves 0 ≡ 0) × (creep_of creep leaves (leaves - 1) ≡ creep)
    × (creep_of creep leaves i ≤ creep_of creep leaves (i + 1)) × (creep_of creep leaves i ≤ creep)

-- there is room at the fold for a leaf to creep so far: at the side of the fold a page leaves free its share of the cell,
-- and half of the gap
abbrev pub may_creep : (page : Paper) → Room → (scale creep : ℕ) → Bool
may_creep page room s creep = nat_le (2 * creep) (2 * slack_x page room (beside true) s + room.gutter_up)

-- nothing of the page crosses a line across the sheet; the line is twice as far up as said
abbrev pub StaysBefore : Room → (twice : ℕ) → (page : Paper) → Item → Type 0
StaysBefore room twice page item = (p : Point) → IsOfPage room.trim page p
    → (pos 2 *ℤ (stands page item p).y) ≤ℤ fine twice

abbrev pub StaysBehind : Room → (twice : ℕ) → (page : Paper) → Item → Type 0
StaysBehind room twice page item = (p : Point) → IsOfPage room.trim page p
    → fine twice ≤ℤ (pos 2 *ℤ (stands page item p).y)

-- nothing crosses the fold, which is the middle of the sheet to 10^-5 of a point
pub record KeepsSides (page : Paper) (room : Room) (one other : Item) : Type 0 where
  pub twice : ℕ
  pub no_farther : twice ≤ whole_parts (nat_abs room.paper.height) + 1
  pub no_nearer : whole_parts (nat_abs room.paper.height) ≤ twice + 1
  pub before : StaysBefore room twice page one
  pub behind : StaysBehind room twice page other

-- as long as there is room, no leaf with even margins crosses its fold: a law
abbrev pub CreepKeepsSides : Type 0
CreepKeepsSides = (page : Paper) (room : Room) (right_to_left : Bool) (s creep : ℕ) → IsPaper page → IsEven room
    → HasPlace page room (beside true) s → may_creep page room s creep ≡ true
    → KeepsSides page room (leaf_item page room right_to_left s creep (if right_to_left then 1 else 0))
    (leaf_item page room right_to_left s creep (if right_to_left then 0 else 1))

-- ---- booklets that creep

-- how far the pages of side s are moved, if signatures have so many leaves: each has a front and a back, and the first one
-- is the outermost
abbrev pub creep_on : (creep leaves s : ℕ) → ℕ
creep_on creep leaves s = creep_of creep leaves (s / 2 % leaves)

-- on a sheet that is turned by half the fold is on a page's other side
abbrev pub up_to_fold : (right_to_left by_half : Bool) → (k creep : ℕ) → ℤ
up_to_fold right_to_left false k creep = to_fold right_to_left k creep
up_to_fold right_to_left true k creep = neg_ℤ (to_fold right_to_left k creep)

-- a page of this paper in half k of a leaf that creeps so far
abbrev pub creeping : Setting → (by_half : Bool) → (page : Paper) → (k creep : ℕ) → Item
creeping t by_half page k creep = moved_up (up_to_fold t.order.right_to_left by_half k creep) (in_half t by_half page k)

-- an entry of a row there
abbrev pub creeping_slot : Filling → (by_half : Bool) → (k creep : ℕ) → Option ℕ → MadeSlot
creeping_slot f by_half k creep entry = placed f (λ page. creeping f.setting by_half page k creep) entry

-- sides of leaves that creep, in signatures of `leaves` leaves
abbrev pub creeping_sides : Filling → (turned_backs : Bool) → (creep leaves sheets : ℕ) → Row → List MadeSheet
creeping_sides f turned_backs creep leaves sheets row = map (λ s. record {
  paper = f.setting.room.paper;
  slots = map (λ k. creeping_slot f (is_turned turned_backs s) k (creep_on creep leaves s) (grid_entry 2 row s k))
      (range_with_len 0 2);
}) (range_with_len 0 sheets)

-- the sheets of a booklet whose leaves creep
abbrev pub creeping_sheets : Filling → (turned_backs : Bool) → (creep leaves : ℕ) → Row → List MadeSheet
creeping_sheets f turned_backs creep leaves row =
    creeping_sides f turned_backs creep leaves (blocks 2 (length row)) row

-- the cells are the two halves of a sheet with even margins
pub record AreHalves (t : Setting) : Type 0 where
  pub grid_is : t.grid ≡ beside true
  pub order_is : t.order ≡ leaf_order t.order.right_to_left
  pub even : IsEven t.room

-- why a page can't lie in a half that creeps so far: as it can't lie there at all, or as it would cross the fold
-- (RULES, 16, step 12)
abbrev pub why_not_creeping : Setting → (page : Paper) → (creep : ℕ) → Option ArrangementError
why_not_creeping t page creep =
    option_or (why_not_fitted t page) (error_unless (may_creep page t.room (scale_on t page) creep) why.CreepOverFold None)

-- why an entry can't lie there, if it can't
abbrev pub why_no_half : Filling → (creep : ℕ) → (entry : Option ℕ) → Option ArrangementError
why_no_half f creep None = None
why_no_half f creep (Some page) = why_not_creeping f.setting (f.paper_of page) creep

-- why the first entry of the row that can't lie in its half can't; each side has two
abbrev pub first_over_fold : Filling → (creep leaves : ℕ) → Row → Option ArrangementError
first_over_fold f creep leaves row =
    first_fault (λ i. why_no_half f (creep_on creep leaves (i / 2)) (entry_of row i)) (length row)

-- leaves that don't creep are those of `booklet_sheets`, and the same page of theirs is refused: a law
abbrev pub NoCreepIsPlain : Type 0
NoCreepIsPlain = (f : Filling) (turned_backs : Bool) (leaves : ℕ) (row : Row) → AreHalves f.setting
    → (creeping_sheets f turned_backs 0 leaves row ≡ booklet_sheets f turned_backs row)
    × (first_over_fold f 0 leaves row ≡ first_refused f row)
