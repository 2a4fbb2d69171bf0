-- Which made sheets are planned, and why the others are refused.
use Rattle.std.specs.Prelude.{◌≡◌, ℕ, List, Ok, Err}
use Rattle.rules.specs.Made.{MadeSheet}
use Rattle.rules.specs.MadePlans.{made_plan_of, MadeTooManyPages, MadeTooManySheets, MadeSlotsOutOfRange, MadeTooManyPlaces, MadeNoSuchPage}
use Rattle.sheet_plan.specs.declared.error.MadeError.{MadeError}
use Rattle.sheet_plan.specs.declared.error.MadeError.TheVariants as error

-- what each refusal says of these sheets over this many pages: the first fault, or, at NoMemory, that there is none
abbrev pub RefusesMade : (pages : ℕ) → List MadeSheet → MadeError → Type 0
RefusesMade pages all error.TooManyPages = made_plan_of pages all ≡ Err MadeTooManyPages
RefusesMade pages all error.TooManySheets = made_plan_of pages all ≡ Err MadeTooManySheets
RefusesMade pages all (error.SlotsOutOfRange sheet) = made_plan_of pages all ≡ Err (MadeSlotsOutOfRange sheet)
RefusesMade pages all error.TooManyPlaces = made_plan_of pages all ≡ Err MadeTooManyPlaces
RefusesMade pages all (error.NoSuchPage sheet) = made_plan_of pages all ≡ Err (MadeNoSuchPage sheet)
RefusesMade pages all error.NoMemory = made_plan_of pages all ≡ Ok all
