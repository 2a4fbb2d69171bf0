-- Sheets that are made in any way: of a specification, or of a row and an arrangement. These are rules of this
-- project.
use Rattle.std.specs.Prelude.{ℕ, List, map, Option, Some, None}
use Rattle.rules.specs.Papers.{Paper}
use Rattle.rules.specs.Specification.{Item}
use Rattle.rules.specs.Sheets.{Slot}

-- a place on a sheet: blank, or a page with its item and its paper. The item says how the page is placed. The paper
-- clips it, gives it its border, and is what the item's `w` and `h` are parts of
pub data MadeSlot : Type 0 where
  Blank : MadeSlot
  Placed : (page : ℕ) → Item → Paper → MadeSlot

-- a sheet: its own paper, and its slots in the order in which they are drawn
pub record MadeSheet : Type 0 where
  pub paper : Paper
  pub slots : List MadeSlot

-- a slot of a specification, if all pages have one paper
abbrev pub made_slot : Paper → Option ℕ → Item → MadeSlot
made_slot paper None item = Blank
made_slot paper (Some p) item = Placed p item paper

-- the sheets of a specification, as made ones of one paper
abbrev pub made_of : Paper → List (List Slot) → List MadeSheet
made_of paper all = map (λ slots. record { paper = paper; slots = map (λ slot. made_slot paper slot.page slot.item) slots }) all
