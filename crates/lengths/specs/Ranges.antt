-- How large a number and a length may be.
use Rattle.std.specs.Prelude.{◌≤◌, ◌^◌, ℤ, nat_abs}
use Rattle.rules.specs.Numbers.{greatest_number}

-- at most the greatest number, in 10^-9
abbrev pub FitsNumber : ℤ → Type 0
FitsNumber v = nat_abs v ≤ greatest_number

abbrev pub FitsGrains : ℤ → Type 0
FitsGrains g = nat_abs g ≤ 10 ^ 23
