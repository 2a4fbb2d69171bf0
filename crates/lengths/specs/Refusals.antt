-- What a refusal to read a number says.
use Rattle.std.specs.Prelude.{◌≡◌, ℕ, ◌≤◌, ℤ, true, List, drop, length, Some, None, Result, Ok, Err}
use Rattle.rules.specs.Numbers.{NumberFault, is_large, NumberTooLarge}
use Rattle.rules.specs.Numbers.{NotANumber as NoNumber}
use Rattle.lengths.specs.Reading.{number_at}
use Rattle.lengths.specs.declared.read.NumberError.{NumberError}
use Rattle.lengths.specs.declared.read.NumberError.TheVariants.{NotANumber, TooLarge}

abbrev pub number_fault : NumberError → NumberFault
number_fault NotANumber = NoNumber
number_fault (TooLarge n) = NumberTooLarge n

-- the answer of a reader, in the words of the definitions
abbrev pub outcome_of : Result (ℤ × ℕ) NumberError → Result (ℤ × ℕ) NumberFault
outcome_of (Ok x) = Ok x
outcome_of (Err e) = Err (number_fault e)

-- the same refusal, by the function that reads a number off the front
abbrev pub IsRefused : List ℕ → NumberError → Type 0
IsRefused bytes NotANumber = number_at bytes ≡ None
IsRefused bytes (TooLarge n) = (n ≤ length bytes) × (v : ℤ) × (is_large v ≡ true)
    × (number_at bytes ≡ Some (v, drop n bytes))
