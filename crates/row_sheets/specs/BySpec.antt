-- The sheets of a specification on a row, which may be any pages and blanks. All here is this project's own rules.
use Rattle.std.specs.Prelude.{◌≡◌, ℕ, ◌≤◌, List, length, map, sum_by, Option}
use Rattle.rules.specs.Papers.{Paper}
use Rattle.rules.specs.Run.{most_pages, most_sheets, most_places}
use Rattle.rules.specs.Specification.{Item, Spec}
use Rattle.rules.specs.Sheets.{Slot, place}
use Rattle.rules.specs.Signatures.{entry_of, sheets_in}
use Rattle.rules.specs.Made.{MadeSlot, MadeSheet, made_slot, made_of}
use Rattle.rules.specs.MadePlans.{slot_count}
use Rattle.rules.specs.Rows.{Row, all_pages, in_order_of, sheets_of_row}
use Rattle.sheet_plan.specs.MadeRefusals.{RefusesMade}
use Rattle.sheet_plan.specs.declared.error.MadeError.{MadeError}
use Rattle.sheet_plan.specs.declared.error.MadeError.TheVariants as error

-- the sheets of a specification as made ones, on this paper, with pages of that paper
abbrev pub made_on : (sheet page : Paper) → List (List Slot) → List MadeSheet
made_on sheet page all = map (λ slots. record { paper = sheet; slots = map (λ slot. made_slot page slot.page slot.item) slots }) all

-- the sheets of a specification, on this paper: the place that an item names in a block is that of an entry of the row, and
-- all its pages have this paper (RULES, 14)
abbrev pub by_spec : Spec → (sheet page : Paper) → Row → List MadeSheet
by_spec spec sheet page row = made_on sheet page (sheets_of_row spec row)

-- of all pages, in signatures or not, and on their own paper, they are the sheets that the rules define: a law
abbrev pub BySpecOnAll : Type 0
BySpecOnAll = (sides : Option ℕ) (spec : Spec) (paper : Paper) (n : ℕ)
    → by_spec spec paper paper (in_order_of sides (all_pages n)) ≡ made_of paper (sheets_in sides spec n)

-- the slot of an item in a block of so many entries, and the sheet of a group
abbrev pub item_slot : (page : Paper) → Row → (modulo block : ℕ) → Item → MadeSlot
item_slot page row modulo block item = made_slot page (entry_of row (place modulo (length row) block item)) item

abbrev pub sheet_by : (sheet page : Paper) → Row → (modulo block : ℕ) → List Item → MadeSheet
sheet_by sheet page row modulo block group = record { paper = sheet; slots = map (item_slot page row modulo block) group }

-- there are no more sheets, and no more slots on them, than a plan may have
abbrev pub AreFew : List MadeSheet → Type 0
AreFew all = (length all ≤ most_sheets) × (sum_by slot_count all ≤ most_places)

-- why the sheets aren't made: of so few pages they are no plan, and this is their first fault; or memory ran out for them
abbrev pub WhyNoSheets : List MadeSheet → MadeError → Type 0
WhyNoSheets all error.NoMemory = AreFew all
WhyNoSheets all e = (pages : ℕ) → pages ≤ most_pages → RefusesMade pages all e
