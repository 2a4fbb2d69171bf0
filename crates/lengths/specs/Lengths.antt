-- Lengths as people write them: a number and its unit.
use Rattle.std.specs.Prelude.{◌≡◌, ◌↔◌, ◌++◌, ℕ, ℤ, false, option_map, if◌then◌else◌, List, [], Option, Some, None, codes}
use Rattle.std.specs.Str.{bytes_eq}
use Rattle.rules.specs.Numbers.{IsNumber, is_large}
use Rattle.rules.specs.Papers.{LengthUnit, Pt, Cm, Mm, In, Paper, grains, points}
use Rattle.lengths.specs.Reading.{number_at}

-- the paper that is used where none is given
abbrev pub a4 : Paper
a4 = points 595 842

-- the unit, if it is all that follows a number; with nothing after it a number is in points
abbrev pub unit_named : List ℕ → Option LengthUnit
unit_named text =
    if bytes_eq text [] then Some Pt
    else (if bytes_eq text (codes "pt") then Some Pt
    else (if bytes_eq text (codes "cm") then Some Cm
    else (if bytes_eq text (codes "mm") then Some Mm
    else (if bytes_eq text (codes "in") then Some In else None))))

-- this many of the unit that follows the number
abbrev pub length_of : Paper → Option (ℤ × List ℕ) → Option ℤ
length_of paper None = None
length_of paper (Some (number, rest)) = if is_large number then None
    else option_map (grains paper number) (unit_named rest)

-- a length in grains: the longest number at the start, up to 99,999.999999999, and its unit. No such length depends
-- on the paper
abbrev pub length_named : Paper → List ℕ → Option ℤ
length_named paper text = length_of paper (number_at text)

-- the text is a number text, with a unit or nothing after it, and names this length
abbrev pub IsLength : Paper → (text : List ℕ) → (length : ℤ) → Type 0
IsLength paper text length =
    (number unit : List ℕ) × (v : ℤ) × (u : LengthUnit) × (text ≡ number ++ unit)
    × IsNumber number v × (is_large v ≡ false)
    × (unit_named unit ≡ Some u) × (length ≡ grains paper v u)

-- a law: a text is read as a length exactly if it is a number text, with a unit or nothing after it
abbrev pub LengthsAreNumbers : Type 0
LengthsAreNumbers = (paper : Paper) (text : List ℕ) (length : ℤ) → (length_named paper text ≡ Some length)
    ↔ IsLength paper text length
