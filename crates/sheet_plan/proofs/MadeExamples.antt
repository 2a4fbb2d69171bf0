-- Made sheets as they are kept, and the plan that they make.
use Rattle.std.proofs.Common.{◌≡◌, [], ◌∷◌, Some, None, refl, false}
use Rattle.std.specs.Prelude.{pos}
use Rattle.rules.specs.Papers.{points, Pt}
use Rattle.rules.specs.Sheets.{layout}
use Rattle.rules.specs.Specification.{Item, Left}
use Rattle.rules.specs.Made.{Blank, Placed, MadeSheet}
use Rattle.sheet_plan.specs.Nothing.{nothing}
use Rattle.sheet_plan.specs.OfSheets.{made_plan, slots_at}
use Rattle.sheet_plan.specs.Store.{slots_end, slots_start}

abbrev turned : Item
turned = record { page = 7; from_end = false; turn = Left; scale = pos 500_000_000; x = record { number = pos 0; unit = Pt }; y = record { number = pos 0; unit = Pt } }

-- two pages of two papers beside a blank, and a sheet that is blank
abbrev first : MadeSheet
first = record { paper = points 842 595; slots = Placed 1 turned (points 420 595) ∷ Blank ∷ Placed 0 nothing (points 595 842) ∷ [] }

abbrev second : MadeSheet
second = record { paper = points 595 842; slots = Blank ∷ [] }

-- the page of an item has no meaning: page 1 is where the slot says so
pages_of_slots : (layout (made_plan 2 (first ∷ second ∷ []))).sheets ≡ (Some 1 ∷ None ∷ Some 0 ∷ []) ∷ (None ∷ []) ∷ []
pages_of_slots = refl

items_of_slots : made_plan 2 (first ∷ []) ≡ record { pages = 2; sheets = (record { page = Some 1; item = turned } ∷ record { page = None; item = nothing } ∷ record { page = Some 0; item = nothing } ∷ []) ∷ [] }
items_of_slots = refl

second_alone : slots_at (first ∷ second ∷ []) 1 ≡ Blank ∷ []
second_alone = refl

-- sheets of three slots, none, and two: where the last of them begins, and where it ends
last_begins : slots_start 0 (record { end = 3; paper = 0 } ∷ record { end = 3; paper = 1 } ∷ record { end = 5; paper = 0 } ∷ []) 2 ≡ 3
last_begins = refl

last_ends : slots_end 0 (record { end = 3; paper = 0 } ∷ record { end = 3; paper = 1 } ∷ record { end = 5; paper = 0 } ∷ []) ≡ 5
last_ends = refl
