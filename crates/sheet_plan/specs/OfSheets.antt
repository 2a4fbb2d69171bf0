-- The plan of sheets that are made.
use Rattle.std.specs.Prelude.{◌≡◌, ℕ, List, [], map, slice_index_or, Option, Some, None, Ok}
use Rattle.rules.specs.Specification.{Item}
use Rattle.rules.specs.Sheets.{Slot, Plan}
use Rattle.pagespec.specs.Items.{item_of}
use Rattle.rules.specs.Made.{MadeSlot, Blank, Placed, MadeSheet}
use Rattle.rules.specs.MadePlans.{page_of, made_plan_of}
use Rattle.sheet_plan.specs.declared.made.MadeSlot as code
use Rattle.sheet_plan.specs.declared.made.MadeSlot.TheVariants as made
use Rattle.sheet_plan.specs.declared.made.PlacedSlot.{PlacedSlot}
use Rattle.sheet_plan.specs.Nothing.{nothing}

-- the meaning of a slot of the code
abbrev pub slot_of : code.MadeSlot → MadeSlot
slot_of made.Blank = Blank
slot_of (made.Placed page item paper) = Placed page (item_of item) paper

abbrev pub placed_of : Option PlacedSlot → MadeSlot
placed_of None = Blank
placed_of (Some p) = Placed p.page (item_of p.item.now) p.paper.now

-- the slots of sheet s
abbrev pub slots_at : List MadeSheet → ℕ → List MadeSlot
slots_at all s = slice_index_or (map (λ sheet. sheet.slots) all) s []

abbrev pub item_in : MadeSlot → Item
item_in Blank = nothing
item_in (Placed page item paper) = item

abbrev pub slot_in : MadeSlot → Slot
slot_in slot = record { page = page_of slot; item = item_in slot }

-- the plan of made sheets, over this many pages
abbrev pub made_plan : (pages : ℕ) → List MadeSheet → Plan
made_plan pages all = record { pages = pages; sheets = map (λ sheet. map slot_in sheet.slots) all }

-- accepted made sheets are those of the plan
pub record IsOfSheets (plan : Plan) : Type 0 where
  pub all : List MadeSheet
  pub accepted : made_plan_of plan.pages all ≡ Ok all
  pub same : plan ≡ made_plan plan.pages all
