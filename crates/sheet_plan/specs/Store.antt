-- How made sheets are kept: slots one after another in one block, each with the number of its placing.
use Rattle.std.specs.Prelude.{◌≡◌, ℕ, zero, suc, ◌<◌, ◌≤◌, List, [], ◌∷◌, length, map, take, drop, slice_get, All}
use Rattle.std.specs.Prelude.{slice_range, Option, Some, None}
use Rattle.rules.specs.Papers.{Paper, points}
use Rattle.pagespec.specs.Items.{item_of}
use Rattle.rules.specs.Made.{MadeSlot, Blank, Placed, MadeSheet}
use Rattle.sheet_plan.specs.declared.made.Placing.{Placing}
use Rattle.sheet_plan.specs.declared.made.KeptSlot.{KeptSlot}
use Rattle.sheet_plan.specs.declared.made.KeptSheet.{KeptSheet}

abbrev pub placed_by : ℕ → Option Placing → MadeSlot
placed_by page None = Blank
placed_by page (Some placing) = Placed page (item_of placing.item) placing.paper

-- a page and the number of its placing
abbrev pub slot_by : List Placing → (page number : ℕ) → MadeSlot
slot_by placings page zero = Blank
slot_by placings page (suc place) = placed_by page (slice_get placings place)

abbrev pub slot_kept : List Placing → KeptSlot → MadeSlot
slot_kept placings slot = slot_by placings slot.page slot.placing

abbrev pub paper_by : Option Placing → Paper
paper_by None = points 1 1
paper_by (Some placing) = placing.paper

-- the kept sheets of these placings, the first of which begins at slot `start`
abbrev pub sheets_from : List Placing → List KeptSlot → (start : ℕ) → List KeptSheet → List MadeSheet
sheets_from placings slots start [] = []
sheets_from placings slots start (s ∷ ss) = record {
  paper = paper_by (slice_get placings s.paper);
  slots = map (slot_kept placings) (slice_range slots start s.end);
} ∷ sheets_from placings slots s.end ss

-- where the last of them ends
abbrev pub slots_end : (start : ℕ) → List KeptSheet → ℕ
slots_end start [] = start
slots_end start (s ∷ ss) = slots_end s.end ss

-- where sheet k of them begins
abbrev pub slots_start : (start : ℕ) → List KeptSheet → ℕ → ℕ
slots_start start [] k = start
slots_start start (s ∷ ss) zero = start
slots_start start (s ∷ ss) (suc k) = slots_start s.end ss k

-- each ends after the one before it, the last within this many slots, and its paper is one of this many
abbrev pub AreInOrder : (placings slots start : ℕ) → List KeptSheet → Type 0
AreInOrder placings slots start [] = start ≤ slots
AreInOrder placings slots start (s ∷ ss) = (start ≤ s.end) × (s.paper < placings) × AreInOrder placings slots s.end ss

abbrev pub is_named : ℕ → KeptSlot → Type 0
is_named placings slot = slot.placing ≤ placings

pub record AreKept (placings : List Placing) (slots : List KeptSlot) (sheets : List KeptSheet) : Type 0 where
  pub named : All (is_named (length placings)) slots
  pub ordered : AreInOrder (length placings) (length slots) 0 sheets

-- nothing was changed, though something may have been added
abbrev pub Begins : {X : Type 0} → List X → List X → Type 0
Begins old new = take (length old) new ≡ old

pub record IsGrown (placings placings_new : List Placing) (slots slots_new : List KeptSlot) : Type 0 where
  pub placings_begin : Begins placings placings_new
  pub slots_begin : Begins slots slots_new
  pub named : All (is_named (length placings)) slots → All (is_named (length placings_new)) slots_new

-- the slots that were added
abbrev pub added_to : List Placing → List KeptSlot → List KeptSlot → List MadeSlot
added_to placings old new = map (slot_kept placings) (drop (length old) new)
