-- Numbers and how they are printed.
-- pstops(1) has scales and offsets with decimals, and says nothing else about them. Which texts are numbers, how
-- many decimals count, how large a number may be and how numbers are printed are rules of this project.
use Rattle.std.specs.Prelude.{◌≡◌, ◌≢◌, ◌↔◌, ℕ, ◌+◌, ◌-◌, ◌*◌, ◌/◌, ◌%◌, ◌^◌, ◌<◌, ◌≤◌, ℤ, pos, negsuc, neg_ℤ, nat_abs}
use Rattle.std.specs.Prelude.{Bool, true, false, ◌&&◌, ◌==◌, nat_eq, nat_lt, if◌then◌else◌, List, [], ◌∷◌, ◌++◌, length}
use Rattle.std.specs.Prelude.{take, drop, fold, replicate, decimal, Result, Ok, Err}
use Rattle.std.specs.List.{AllPass, starts_with}
use Rattle.std.specs.Char.{is_ascii_digit}
use Rattle.rules.specs.Bytes.{plus_sign, minus_sign, dot, digit_zero}

-- the number of this size, below zero or not; zero is never negative
abbrev pub signed : Bool → ℕ → ℤ
signed negative n = if negative then neg_ℤ (pos n) else pos n

abbrev pub is_negative : ℤ → Bool
is_negative (pos n) = false
is_negative (negsuc n) = true

-- the value of a row of decimal digits of any length
abbrev pub number_of : List ℕ → ℕ
number_of digits = fold (λ n d. n * 10 + (d - digit_zero)) 0 digits

-- decimals as a whole number of 10^-e: those after the e-th have no effect
abbrev pub decimals_value : ℕ → List ℕ → ℕ
decimals_value e decimals = number_of (take e (decimals ++ replicate e digit_zero))

-- what may stand before the digits: a minus, a plus, or nothing
abbrev pub IsSign : List ℕ → Bool → Type 0
IsSign [] negative = negative ≡ false
IsSign (b ∷ rest) negative = (rest ≡ []) × (b ≡ (if negative then minus_sign else plus_sign))

-- a dot followed by decimals, or nothing
abbrev pub IsFraction : List ℕ → List ℕ → Type 0
IsFraction [] decimals = decimals ≡ []
IsFraction (b ∷ rest) decimals = (b ≡ dot) × (rest ≡ decimals)

-- the text is a number text with this value in 10^-9: a sign, digits, a dot and decimals, with at least one digit
abbrev pub IsNumber : List ℕ → ℤ → Type 0
IsNumber text value =
    (negative : Bool) × (sign whole fraction decimals : List ℕ) × (text ≡ sign ++ whole ++ fraction)
    × IsSign sign negative × AllPass is_ascii_digit whole × IsFraction fraction decimals
    × AllPass is_ascii_digit decimals
    × (whole ++ decimals ≢ []) × (value ≡ signed negative (number_of whole * 10 ^ 9 + decimals_value 9 decimals))

-- the longest number text that the bytes begin with has this length and this value
pub record IsLongestNumber (bytes : List ℕ) (n : ℕ) (value : ℤ) : Type 0 where
  pub within : n ≤ length bytes
  pub number : IsNumber (take n bytes) value
  pub longest : (k : ℕ) (other : ℤ) → n < k → k ≤ length bytes → IsNumber (take k bytes) other → ⊥

-- the bytes begin with no number text
abbrev pub HasNoNumber : List ℕ → Type 0
HasNoNumber bytes = (k : ℕ) (value : ℤ) → IsNumber (take k bytes) value → ⊥

-- the greatest whole part of a number, and the greatest number, in 10^-9: that whole part with nine nines after the
-- dot
abbrev pub greatest_whole : ℕ
greatest_whole = 99_999

abbrev pub greatest_number : ℕ
greatest_number = 99_999_999_999_999

-- the whole part is above the greatest
abbrev pub is_large : ℤ → Bool
is_large v = nat_lt greatest_number (nat_abs v)

-- there is no number, or the whole part is above the greatest; then the number is this many bytes long
pub data NumberFault : Type 0 where
  NotANumber : NumberFault
  NumberTooLarge : (length : ℕ) → NumberFault

-- the result of reading a number at the start of these bytes: its value and its length, or why there is none
abbrev pub IsNumberRead : List ℕ → Result (ℤ × ℕ) NumberFault → Type 0
IsNumberRead bytes (Ok (value, n)) = IsLongestNumber bytes n value × (is_large value ≡ false)
IsNumberRead bytes (Err NotANumber) = HasNoNumber bytes
IsNumberRead bytes (Err (NumberTooLarge n)) = (value : ℤ) × IsLongestNumber bytes n value × (is_large value ≡ true)

-- the quotient rounded to the nearest whole number, half away from zero
abbrev pub rounded : ℤ → ℕ → ℤ
rounded z d = signed (is_negative z) ((2 * nat_abs z + d) / (2 * d))

-- digits without trailing zeros
abbrev pub without_last_zeros : List ℕ → List ℕ
without_last_zeros [] = []
without_last_zeros (d ∷ digits) = let rest = without_last_zeros digits
    in if (length rest == 0) && (d == digit_zero) then [] else d ∷ rest

-- the decimals that are printed of this many 10^-e, fewer than make one
abbrev pub decimals_of : ℕ → ℕ → List ℕ
decimals_of e part = without_last_zeros (drop 1 (decimal (10 ^ e + part)))

abbrev pub fraction_text : List ℕ → List ℕ
fraction_text [] = []
fraction_text (d ∷ decimals) = dot ∷ d ∷ decimals

abbrev pub sign_text : ℤ → List ℕ
sign_text v = if is_negative v then minus_sign ∷ [] else []

-- the printed text of a whole number of 10^-e
abbrev pub printed : ℕ → ℤ → List ℕ
printed e v = sign_text v ++ decimal (nat_abs v / 10 ^ e) ++ fraction_text (decimals_of e (nat_abs v % 10 ^ e))

-- the whole part, left out if it is 0 and a dot follows
abbrev pub whole_text : ℕ → List ℕ → List ℕ
whole_text whole [] = decimal whole
whole_text whole (d ∷ decimals) = if whole == 0 then [] else decimal whole

-- the printed text of a number of 10^-9 in a specification: `.7` and `-.5` have no 0 before the dot
abbrev pub number_text : ℤ → List ℕ
number_text v =
    let decimals = decimals_of 9 (nat_abs v % 10 ^ 9) in
    sign_text v ++ whole_text (nat_abs v / 10 ^ 9) decimals ++ fraction_text decimals

-- the printed form without a computation: a minus only below zero, no leading zero before other digits of the whole
-- part, no zero at the end of the decimals, and this value
pub record IsPrinted (e : ℕ) (v : ℤ) (text : List ℕ) : Type 0 where
  pub whole : List ℕ
  pub decimals : List ℕ
  pub parts : text ≡ sign_text v ++ whole ++ fraction_text decimals
  pub whole_digits : AllPass is_ascii_digit whole
  pub some_digit : 0 < length whole
  pub no_leading_zero : 1 < length whole → take 1 whole ≢ digit_zero ∷ []
  pub decimal_digits : AllPass is_ascii_digit decimals
  pub few_decimals : length decimals ≤ e
  pub no_last_zero : without_last_zeros decimals ≡ decimals
  pub value : nat_abs v ≡ number_of whole * 10 ^ e + decimals_value e decimals

-- a law: the printed text is the only text of the printed form, for up to 63 decimals after up to 64 digits. The
-- limits are those of std's `decimal`; every length and scale is far below
abbrev pub PrintedIsPrinted : Type 0
PrintedIsPrinted = (e : ℕ) (v : ℤ) (text : List ℕ) → e < 64 → nat_abs v / 10 ^ e < 10 ^ 64
    → (printed e v ≡ text) ↔ IsPrinted e v text

-- a scale is printed with its nine decimals, and a length in points with five
abbrev pub scale_text : ℤ → List ℕ
scale_text v = printed 9 v

abbrev pub points_text : ℤ → List ℕ
points_text g = printed 5 (rounded g 1_270_000)

-- a text without a 0 at its start, directly before a dot
abbrev pub without_zero : List ℕ → List ℕ
without_zero [] = []
without_zero (b ∷ rest) = if (b == digit_zero) && starts_with nat_eq rest (dot ∷ []) then rest else b ∷ rest

-- a law: the text of a number in a specification is that of a scale, whose unsigned part lost a 0 before a dot
abbrev pub NumberWithoutZero : Type 0
NumberWithoutZero = (v : ℤ) (unsigned : List ℕ) → nat_abs v / 10 ^ 9 < 10 ^ 64
    → scale_text v ≡ sign_text v ++ unsigned → number_text v ≡ sign_text v ++ without_zero unsigned

-- the printed form of a number in a specification, without a computation: as that of a scale, but the whole part
-- begins with 0 only if the text is `0`
pub record IsPrintedNumber (v : ℤ) (text : List ℕ) : Type 0 where
  pub whole : List ℕ
  pub decimals : List ℕ
  pub parts : text ≡ sign_text v ++ whole ++ fraction_text decimals
  pub whole_digits : AllPass is_ascii_digit whole
  pub some_digit : 0 < length whole + length decimals
  pub zero_alone : take 1 whole ≡ digit_zero ∷ [] → whole ++ decimals ≡ digit_zero ∷ []
  pub decimal_digits : AllPass is_ascii_digit decimals
  pub few_decimals : length decimals ≤ 9
  pub no_last_zero : without_last_zeros decimals ≡ decimals
  pub value : nat_abs v ≡ number_of whole * 10 ^ 9 + decimals_value 9 decimals

-- a law: the printed text of a number in a specification is the only text of that form
abbrev pub NumberIsPrinted : Type 0
NumberIsPrinted = (v : ℤ) (text : List ℕ) → nat_abs v / 10 ^ 9 < 10 ^ 64
    → (number_text v ≡ text) ↔ IsPrintedNumber v text
