-- Which specifications are planned, and why the others are refused.
use Rattle.std.specs.Prelude.{◌≡◌, ℕ, ◌<◌, ◌≤◌, Ok, Err, length, sum_by, All, Option, None}
use Rattle.rules.specs.Specification.{Spec}
use Rattle.rules.specs.Admissible.{IsAdmissible, most_slots}
use Rattle.rules.specs.Signatures.{AreSidesIfGiven, row_len, sheets_in}
use Rattle.rules.specs.Run.{most_pages, most_sheets, most_places, plan_in, PlanTooManyPages}
use Rattle.rules.specs.Run as rules
use Rattle.sheet_plan.specs.declared.error.PlanError.{PlanError}
use Rattle.sheet_plan.specs.declared.error.PlanError.TheVariants.{TooManyPages, TooManySheets, TooManyPlaces, NoMemory}

-- what each refusal says of a specification on n pages, in signatures if a number of sides is given: the first
-- limit that is exceeded, or, at NoMemory, that none is
abbrev pub RefusesIn : (sides : Option ℕ) → Spec → ℕ → PlanError → Type 0
RefusesIn sides spec n TooManyPages = plan_in sides spec n ≡ Err PlanTooManyPages
RefusesIn sides spec n TooManySheets = plan_in sides spec n ≡ Err rules.TooManySheets
RefusesIn sides spec n TooManyPlaces = plan_in sides spec n ≡ Err rules.TooManyPlaces
RefusesIn sides spec n NoMemory = plan_in sides spec n ≡ Ok (sheets_in sides spec n)

abbrev pub RefusesPlan : Spec → ℕ → PlanError → Type 0
RefusesPlan spec n error = RefusesIn None spec n error

-- the sides are valid, the specification is admissible, and the limits of a plan hold on n pages
pub record IsAccepted (sides : Option ℕ) (spec : Spec) (n : ℕ) : Type 0 where
  pub valid : AreSidesIfGiven sides
  pub admissible : IsAdmissible most_slots spec
  pub filled : All (λ g. 0 < length g) spec.groups
  pub few_entries : row_len sides n ≤ most_pages
  pub few_sheets : length (sheets_in sides spec n) ≤ most_sheets
  pub few_places : sum_by length (sheets_in sides spec n) ≤ most_places
