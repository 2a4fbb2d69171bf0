-- Limits of a plan that are known by numbers alone, before a sheet is made.
use Rattle.std.specs.Prelude.{◌≡◌, ℕ, ◌*◌, ◌≤◌, ⊤, nat_lt, ◌&&◌, if◌then◌else◌, List, length, sum_by, Option, Some, None}
use Rattle.rules.specs.Admissible.{most_slots}
use Rattle.rules.specs.Run.{most_sheets, most_places}
use Rattle.rules.specs.Made.{MadeSheet}
use Rattle.rules.specs.MadePlans.{slot_count}
use Rattle.sheet_plan.specs.declared.error.MadeError.{MadeError}
use Rattle.sheet_plan.specs.declared.error.MadeError.TheVariants as plan
use Rattle.row_runs.specs.declared.sheet_request.Laying.{Laying}
use Rattle.row_runs.specs.declared.sheet_request.Laying.TheVariants as laying
use Rattle.row_sheets.specs.declared.fill.Scheme.TheVariants as scheme

-- the first limit that so many sheets pass, with so many places on each
abbrev pub limit_passed : (sheets places : ℕ) → Option MadeError
limit_passed sheets places =
    if nat_lt most_sheets sheets then Some plan.TooManySheets
    else (if nat_lt 0 sheets && nat_lt most_slots places then Some (plan.SlotsOutOfRange 0)
    else (if nat_lt most_places (sheets * places) then Some plan.TooManyPlaces else None))

-- the one that the sheets of so many entries pass. Only cards and posters have more places than entries, but for the last
-- sheet (RULES, 16, step 13). Those of a specification are counted as they are laid
abbrev pub limit_in : Laying → (entries : ℕ) → Option MadeError
limit_in (laying.InCells setting (scheme.Cards cells)) n = limit_passed n cells
limit_in (laying.Poster poster) n = limit_passed (n * (poster.rows * poster.columns)) 1
limit_in other n = None

-- this limit is the one; of the sheets of a specification, which are counted as they are laid, it is what the plan says
abbrev pub IsLimit : Laying → (entries : ℕ) → MadeError → Type 0
IsLimit (laying.BySpec spec sheet page) n e = ⊤
IsLimit other n e = limit_in other n ≡ Some e

-- sheets that keep to the limits
pub record SheetsAreFew (made : List MadeSheet) : Type 0 where
  pub sheets : length made ≤ most_sheets
  pub places : sum_by slot_count made ≤ most_places

-- the sheets of cards and posters keep to the limits of a plan
abbrev pub AreFewAsLaid : Laying → List MadeSheet → Type 0
AreFewAsLaid (laying.InCells setting (scheme.Cards cells)) made = SheetsAreFew made
AreFewAsLaid (laying.Poster poster) made = SheetsAreFew made
AreFewAsLaid other made = ⊤
