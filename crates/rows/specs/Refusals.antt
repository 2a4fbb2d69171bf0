-- What refusals say.
use Rattle.std.specs.Prelude.{◌≡◌, Result, Err, IsOk}
use Rattle.rules.specs.Rows.{Row}
use Rattle.rules.specs.Choice.{RowFault, NotARange, NotInDocument, TooManyEntries, NoEntries}
use Rattle.rows.specs.declared.error.RowError.{RowError}
use Rattle.rows.specs.declared.error.RowError.TheVariants as error

-- what each refusal says of the row asked for: its first fault, or, at NoMemory, that there is none
-- (RULES, 16, steps 5 and 11)
abbrev pub RefusesRow : Result Row RowFault → RowError → Type 0
RefusesRow asked (error.NotARange at) = asked ≡ Err (NotARange at)
RefusesRow asked (error.NotInDocument at) = asked ≡ Err (NotInDocument at)
RefusesRow asked (error.TooManyEntries at) = asked ≡ Err (TooManyEntries at)
RefusesRow asked error.NoEntries = asked ≡ Err NoEntries
RefusesRow asked error.NoMemory = IsOk asked

-- the same of a call that takes no memory
abbrev pub IsRowFault : Result Row RowFault → RowError → Type 0
IsRowFault asked (error.NotARange at) = asked ≡ Err (NotARange at)
IsRowFault asked (error.NotInDocument at) = asked ≡ Err (NotInDocument at)
IsRowFault asked (error.TooManyEntries at) = asked ≡ Err (TooManyEntries at)
IsRowFault asked error.NoEntries = asked ≡ Err NoEntries
IsRowFault asked error.NoMemory = ⊥
