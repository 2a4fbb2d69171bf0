-- Two pages on three sheets, the second of which is blank; and sheets that end just before and just after the end
-- of a slot group.
use Rattle.std.proofs.Common.{◌≡◌, ℕ, [], ◌∷◌, Option, Some, None, refl, true, false}
use Rattle.std.specs.Prelude.{pos, replicate}
use Rattle.rules.specs.Specification.{Item, Upright, zero_points}
use Rattle.rules.specs.Sheets.{Layout, Plan}
use Rattle.sheet_plan.specs.Plans.{slot_groups, needs_page}
use Rattle.sheet_plan.specs.Places.{places_of, is_blank_sheet, born_complete}

abbrev three_sheets : Layout
three_sheets = record { pages = 2; sheets = (Some 1 ∷ None ∷ Some 1 ∷ []) ∷ (None ∷ None ∷ []) ∷ (Some 0 ∷ Some 1 ∷ []) ∷ [] }

-- page 1 is in slots 0 and 2 of sheet 0 and in slot 1 of sheet 2
page_1 : places_of three_sheets 1 ≡ (0, 0) ∷ (0, 2) ∷ (2, 1) ∷ []
page_1 = refl

page_0 : places_of three_sheets 0 ≡ (2, 0) ∷ []
page_0 = refl

-- a page that is on no sheet has no place
page_2 : places_of three_sheets 2 ≡ []
page_2 = refl

blank_sheet : born_complete three_sheets ≡ 1 ∷ []
blank_sheet = refl

-- one blank slot doesn't make a sheet blank
one_blank_slot : is_blank_sheet three_sheets 0 ≡ false
one_blank_slot = refl

-- a sheet whose slots all have this page
abbrev item : Item
item = record { page = 0; from_end = false; turn = Upright; scale = pos 1_000_000_000; x = zero_points; y = zero_points }

abbrev of_slots : ℕ → Option ℕ → Plan
of_slots n page = record { pages = 1; sheets = replicate n (record { page = page; item = item }) ∷ [] }

one_slot : slot_groups (of_slots 1 (Some 0)) 0 ≡ 1
one_slot = refl

whole_group : slot_groups (of_slots 64 (Some 0)) 0 ≡ 1
whole_group = refl

one_slot_more : slot_groups (of_slots 65 (Some 0)) 0 ≡ 2
one_slot_more = refl

last_slot : needs_page (of_slots 64 (Some 0)) 0 63 ≡ true
last_slot = refl

behind_last_slot : needs_page (of_slots 64 (Some 0)) 0 64 ≡ false
behind_last_slot = refl

blank_slot : needs_page (of_slots 64 None) 0 63 ≡ false
blank_slot = refl
