-- Printed numbers are read again.
use Rattle.std.specs.Prelude.{ℕ, ℤ, List, length, Ok}
use Rattle.rules.specs.Numbers.{IsNumberRead}
use Rattle.lengths.specs.Ranges.{FitsNumber}

-- reading the printed text of a number gives that number, and takes the whole text
abbrev pub IsReadAgain : (ℤ → List ℕ) → Type 0
IsReadAgain text_of = (v : ℤ) → FitsNumber v → IsNumberRead (text_of v) (Ok (v, length (text_of v)))
