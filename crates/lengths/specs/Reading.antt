-- Reading a number off the front of a text. Layers whose grammar has numbers in it cite this. It is proved to agree
-- with what a number text is.
use Rattle.std.specs.Prelude.{◌≡◌, ℕ, ◌+◌, ◌*◌, ◌^◌, ℤ, Bool, true, false, ◌||◌, ◌==◌, if◌then◌else◌, List, [], ◌∷◌}
use Rattle.std.specs.Prelude.{◌++◌, Option, Some, None}
use Rattle.std.specs.Char.{is_ascii_digit}
use Rattle.rules.specs.Bytes.{plus_sign, minus_sign, dot}
use Rattle.rules.specs.Numbers.{signed, number_of, decimals_value}

-- the least whole part that is too large: larger ones are reported as this one
abbrev pub least_large : ℕ
least_large = 100_000

-- the digits at the front
abbrev pub digits : List ℕ → List ℕ
digits [] = []
digits (b ∷ text) = if is_ascii_digit b then b ∷ digits text else []

-- what follows them
abbrev pub past_digits : List ℕ → List ℕ
past_digits [] = []
past_digits (b ∷ text) = if is_ascii_digit b then past_digits text else b ∷ text

abbrev pub is_minus : List ℕ → Bool
is_minus [] = false
is_minus (b ∷ text) = b == minus_sign

-- what follows a sign, if there is one
abbrev pub unsigned : List ℕ → List ℕ
unsigned [] = []
unsigned (b ∷ text) = if (b == minus_sign) || (b == plus_sign) then text else b ∷ text

-- the digits after a dot, if there is one
abbrev pub decimals_at : List ℕ → List ℕ
decimals_at [] = []
decimals_at (b ∷ text) = if b == dot then digits text else []

-- what follows them
abbrev pub past_decimals : List ℕ → List ℕ
past_decimals [] = []
past_decimals (b ∷ text) = if b == dot then past_digits text else b ∷ text

abbrev pub decimal_value : Bool → List ℕ → List ℕ → ℤ
decimal_value negative whole decimals = signed negative (number_of whole * 10 ^ 9 + decimals_value 9 decimals)

abbrev pub is_empty : List ℕ → Bool
is_empty [] = true
is_empty (b ∷ text) = false

-- the number at the front of this text, which follows a sign that was read
abbrev pub number_from : Bool → List ℕ → Option (ℤ × List ℕ)
number_from negative text =
    let point = past_digits text in
    if is_empty (digits text ++ decimals_at point) then None
    else Some (decimal_value negative (digits text) (decimals_at point), past_decimals point)

-- the value of the longest number at the front, and what follows it
unfoldable pub number_at : List ℕ → Option (ℤ × List ℕ)
number_at text = number_from (is_minus text) (unsigned text)

-- a text that continues no number: it begins with neither a digit nor a dot
abbrev pub EndsNumber : List ℕ → Type 0
EndsNumber [] = Unit {0}
EndsNumber (b ∷ text) = (is_ascii_digit b ≡ false) × ((b == dot) ≡ false)
