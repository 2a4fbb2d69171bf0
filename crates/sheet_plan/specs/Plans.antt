-- What is read from a plan, and what every plan keeps to.
use Rattle.std.specs.Prelude.{◌≡◌, ℕ, ◌+◌, ◌/◌, ◌<◌, ◌≤◌, Bool, true, false, List, [], length, map, Option, Some, None}
use Rattle.std.specs.Prelude.{slice_get, slice_index_or, sum_by}
use Rattle.rules.specs.Specification.{Spec, Item}
use Rattle.rules.specs.Admissible.{IsAdmissible, most_slots}
use Rattle.rules.specs.Sheets.{Plan, sheets, layout}
use Rattle.rules.specs.Signatures.{AreSidesIfGiven, sheets_in}
use Rattle.rules.specs.Run.{most_pages, most_sheets, most_places}

-- the plan of a specification on n pages
abbrev pub planned : Spec → ℕ → Plan
planned spec n = record { pages = n; sheets = sheets spec n }

-- the same, in signatures if a number of sides is given
abbrev pub planned_in : (sides : Option ℕ) → Spec → ℕ → Plan
planned_in sides spec n = record { pages = n; sheets = sheets_in sides spec n }

-- the slots of a sheet, each with its page, or None for a blank
abbrev pub pages_on : Plan → ℕ → List (Option ℕ)
pages_on plan s = slice_index_or (layout plan).sheets s []

-- the items of a sheet, one for each slot
abbrev pub items_on : Plan → ℕ → List Item
items_on plan s = map (λ slot. slot.item) (slice_index_or plan.sheets s [])

-- the number of slot groups of a sheet: one for each 64 slots, and one for the rest
abbrev pub slot_groups : Plan → ℕ → ℕ
slot_groups plan s = (length (pages_on plan s) + 63) / 64

abbrev pub is_page : Option (Option ℕ) → Bool
is_page None = false
is_page (Some None) = false
is_page (Some (Some p)) = true

-- the sheet has a slot k, which isn't blank
abbrev pub needs_page : Plan → (sheet k : ℕ) → Bool
needs_page plan s k = is_page (slice_get (pages_on plan s) k)

-- the limits of every plan: a sheet has 1 to `most_slots` slots, and each slot that isn't blank has one of the plan's
-- pages
pub record IsSound (plan : Plan) : Type 0 where
  pub few_pages : plan.pages ≤ most_pages
  pub few_sheets : length plan.sheets ≤ most_sheets
  pub few_places : sum_by length plan.sheets ≤ most_places
  pub few_slots : (s : ℕ) → s < length plan.sheets → (0 < length (pages_on plan s))
      × (length (pages_on plan s) ≤ most_slots)
  pub paged : (s k p : ℕ) → s < length plan.sheets → slice_get (pages_on plan s) k ≡ Some (Some p) → p < plan.pages

-- some admissible specification has these sheets on the plan's pages, in signatures or not
pub record IsOfSpec (plan : Plan) : Type 0 where
  pub spec : Spec
  pub sides : Option ℕ
  pub valid : AreSidesIfGiven sides
  pub admissible : IsAdmissible most_slots spec
  pub same : plan ≡ planned_in sides spec plan.pages
