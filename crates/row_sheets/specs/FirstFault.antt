-- The first fault of many.
use Rattle.std.specs.Prelude.{ℕ, zero, suc, Option, None}
use Rattle.std.specs.Option.{option_or}

-- that of the first that has one, of so many, which are counted from 0
abbrev pub first_fault : {E : Type 0} → (fault_of : ℕ → Option E) → (many : ℕ) → Option E
first_fault fault_of zero = None
first_fault fault_of (suc n) = option_or (first_fault fault_of n) (fault_of n)
