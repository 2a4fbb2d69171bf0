-- Which made sheets are accepted, and the first fault of the others. The limits are those of a specification's
-- sheets. These are rules of this project.
use Rattle.std.specs.Prelude.{ℕ, Bool, false, not, ◌&&◌, nat_le, nat_lt, List, length, map, sum_by, position, Option}
use Rattle.std.specs.Prelude.{Some, None, Result, Ok, Err}
use Rattle.std.specs.List.{list_any}
use Rattle.rules.specs.Admissible.{most_slots}
use Rattle.rules.specs.Sheets.{Layout}
use Rattle.rules.specs.Run.{most_pages, most_sheets, most_places, refuse_if}
use Rattle.rules.specs.Made.{MadeSlot, Blank, Placed, MadeSheet}

-- why made sheets are no plan; sheets are counted from 0. A sheet has at least one slot, which may be blank
pub data MadeFault : Type 0 where
  MadeTooManyPages : MadeFault
  MadeTooManySheets : MadeFault
  MadeSlotsOutOfRange : (sheet : ℕ) → MadeFault
  MadeTooManyPlaces : MadeFault
  MadeNoSuchPage : (sheet : ℕ) → MadeFault

-- the page of a slot, if it isn't blank
abbrev pub page_of : MadeSlot → Option ℕ
page_of Blank = None
page_of (Placed p item paper) = Some p

-- a page that a document of this many lacks
abbrev pub lacks_page : (pages : ℕ) → MadeSlot → Bool
lacks_page pages Blank = false
lacks_page pages (Placed p item paper) = nat_le pages p

abbrev pub slot_count : MadeSheet → ℕ
slot_count sheet = length sheet.slots

abbrev pub is_slot_count : ℕ → Bool
is_slot_count n = nat_le 1 n && nat_le n most_slots

-- the fault of the first sheet that was found, and otherwise what follows
abbrev pub refuse_at : {A : Type 0} → Option ℕ → (ℕ → MadeFault) → Result A MadeFault → Result A MadeFault
refuse_at None fault next = next
refuse_at (Some s) fault next = Err (fault s)

-- the sheets of an accepted plan over this many pages, or their first fault (RULES, 8 and 16, step 13)
abbrev pub made_plan_of : (pages : ℕ) → List MadeSheet → Result (List MadeSheet) MadeFault
made_plan_of pages all =
    refuse_if (nat_lt most_pages pages) MadeTooManyPages
    (refuse_if (nat_lt most_sheets (length all)) MadeTooManySheets
    (refuse_at (position (λ sheet. not (is_slot_count (slot_count sheet))) all) MadeSlotsOutOfRange
    (refuse_if (nat_lt most_places (sum_by slot_count all)) MadeTooManyPlaces
    (refuse_at (position (λ sheet. list_any (lacks_page pages) sheet.slots) all) MadeNoSuchPage
    (Ok all)))))

-- what is gathered for made sheets: per sheet its slots, each with its page or blank
abbrev pub made_layout : (pages : ℕ) → List MadeSheet → Layout
made_layout pages all = record { pages = pages; sheets = map (λ sheet. map page_of sheet.slots) all }
