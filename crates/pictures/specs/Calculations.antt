-- Calculating with numbers, and comparing (PostScript Language Reference, third edition, 3.3.3; 8.2 by the
-- operators' names). Whole numbers are calculated without a limit. With other numbers nothing is calculated: the
-- result is a term, the texts of the operands followed by the operator's name, `0.1 0.2 add`. So nothing is
-- rounded, and drawing with a term means drawing with the value that an interpreter computes from it. A comparison
-- of such numbers stops the machine.
use Rattle.std.specs.Prelude.{ℕ, ◌+◌, ◌/◌, List, [], ◌∷◌, ◌++◌, Bool, true, false, not, ◌||◌, ◌==◌, if◌then◌else◌, codes}
use Rattle.std.specs.Prelude.{Option, Some, None, ℤ, pos, ◌+ℤ◌, ◌-ℤ◌, ◌*ℤ◌, neg_ℤ, nat_abs, int_lt, decimal, bytes_eq}
use Rattle.std.specs.List.{list_all}
use Rattle.std.specs.Char.{is_ascii_digit}
use Rattle.rules.specs.Bytes.{plus_sign, minus_sign}
use Rattle.rules.specs.Numbers.{number_of, signed, is_negative}
use Rattle.pictures.specs.Objects.{Calculation, Add, Subtract, Multiply, Divide}
use Rattle.pictures.specs.Objects.{Comparison, Equal, NotEqual, Less, LessOrEqual, Greater, GreaterOrEqual}

abbrev pub digits_value : (negative : Bool) → List ℕ → Option ℤ
digits_value negative [] = None
digits_value negative (d ∷ ds) =
    if list_all is_ascii_digit (d ∷ ds) then Some (signed negative (number_of (d ∷ ds))) else None

-- the value of a whole number: a sign or none, and digits
abbrev pub whole_of : List ℕ → Option ℤ
whole_of [] = None
whole_of (b ∷ bs) =
    if b == minus_sign then digits_value true bs
    else if b == plus_sign then digits_value false bs
    else digits_value false (b ∷ bs)

abbrev pub whole_number_text : ℤ → List ℕ
whole_number_text z = if is_negative z then minus_sign ∷ decimal (nat_abs z) else decimal (nat_abs z)

abbrev pub name_of : Calculation → List ℕ
name_of Add = codes "add"
name_of Subtract = codes "sub"
name_of Multiply = codes "mul"
name_of Divide = codes "div"

-- two numbers followed by the operator
abbrev pub term : Calculation → List ℕ → List ℕ → List ℕ
term c a b = a ++ codes " " ++ b ++ codes " " ++ name_of c

-- `add`, `sub` and `mul` of whole numbers are whole; `div` gives no whole number
abbrev pub calculated_on : Calculation → (a b : List ℕ) → Option ℤ → Option ℤ → List ℕ
calculated_on Add a b (Some m) (Some n) = whole_number_text (m +ℤ n)
calculated_on Subtract a b (Some m) (Some n) = whole_number_text (m -ℤ n)
calculated_on Multiply a b (Some m) (Some n) = whole_number_text (m *ℤ n)
calculated_on c a b x y = term c a b

abbrev pub calculated : Calculation → List ℕ → List ℕ → List ℕ
calculated c a b = calculated_on c a b (whole_of a) (whole_of b)

-- `neg`
abbrev pub negated_on : List ℕ → Option ℤ → List ℕ
negated_on a (Some m) = whole_number_text (neg_ℤ m)
negated_on a None = a ++ codes " neg"

abbrev pub negated : List ℕ → List ℕ
negated a = negated_on a (whole_of a)

-- `eq`, `ne`, `lt`, `le`, `gt`, `ge` of whole numbers
abbrev pub is_so : Comparison → ℤ → ℤ → Bool
is_so Equal m n = not (int_lt m n || int_lt n m)
is_so NotEqual m n = int_lt m n || int_lt n m
is_so Less m n = int_lt m n
is_so LessOrEqual m n = not (int_lt n m)
is_so Greater m n = int_lt n m
is_so GreaterOrEqual m n = not (int_lt m n)

abbrev pub compared_on : Comparison → Option ℤ → Option ℤ → Option Bool
compared_on c (Some m) (Some n) = Some (is_so c m n)
compared_on c x y = None

abbrev pub compared : Comparison → List ℕ → List ℕ → Option Bool
compared c a b = compared_on c (whole_of a) (whole_of b)

-- `eq` and `ne` of names: they are equal if their characters are
abbrev pub names_compared : Comparison → List ℕ → List ℕ → Option Bool
names_compared Equal a b = Some (bytes_eq a b)
names_compared NotEqual a b = Some (not (bytes_eq a b))
names_compared c a b = None

-- the number of turns of `for`: up or down to the limit, inclusive. A step of 0 stops the machine
abbrev pub turns : (first step limit : ℤ) → Option ℕ
turns first step limit =
    if int_lt (pos 0) step then Some (if int_lt limit first then 0 else nat_abs (limit -ℤ first) / nat_abs step + 1)
    else if int_lt step (pos 0) then Some (if int_lt first limit then 0 else nat_abs (first -ℤ limit) / nat_abs step + 1)
    else None
