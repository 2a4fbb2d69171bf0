-- How bytes are cut into tokens (PostScript Language Reference, third edition, 3.2), by a reader that takes one
-- byte at a time. Beyond this machine are names with two slashes, strings in base 85, numbers with a radix, binary
-- tokens (3.14) and errors of syntax. Each is a token of its own, at which it stops.
use Rattle.std.specs.Prelude.{◌≡◌, ℕ, zero, suc, List, [], ◌∷◌, ◌++◌, reverse, Bool, true, false, ◌&&◌, ◌||◌, ◌==◌}
use Rattle.std.specs.Prelude.{if◌then◌else◌, nat_lt}
use Rattle.std.specs.Char.{is_ascii_digit}
use Rattle.rules.specs.Bytes.{tab, line_feed, carriage_return, space, opening_parenthesis, closing_parenthesis}
use Rattle.rules.specs.Bytes.{plus_sign, minus_sign, dot}
use Rattle.pictures.specs.Objects.{Token, Number, Name, Literal, Text, Hexadecimal, Opens, Closes, Unknown}

-- Bytes by name, as ASCII numbers them.

abbrev pub null : ℕ
null = 0

abbrev pub form_feed : ℕ
form_feed = 12

abbrev pub number_sign : ℕ
number_sign = 35

abbrev pub percent_sign : ℕ
percent_sign = 37

abbrev pub slash : ℕ
slash = 47

abbrev pub less_than : ℕ
less_than = 60

abbrev pub greater_than : ℕ
greater_than = 62

abbrev pub opening_bracket : ℕ
opening_bracket = 91

abbrev pub backslash : ℕ
backslash = 92

abbrev pub closing_bracket : ℕ
closing_bracket = 93

abbrev pub opening_brace : ℕ
opening_brace = 123

abbrev pub closing_brace : ℕ
closing_brace = 125

-- what the reader is in: nothing, a comment, a word, a literal name, a string this many parentheses deep, a string
-- after a backslash, an angle bracket, hexadecimal digits, a closing angle bracket. It has what was read so far,
-- the latest byte first
pub data Reading : Type 0 where
  Between : Reading
  InComment : Reading
  InWord : List ℕ → Reading
  InLiteral : List ℕ → Reading
  InText : ℕ → List ℕ → Reading
  Escaped : ℕ → List ℕ → Reading
  InAngle : Reading
  InHexadecimal : List ℕ → Reading
  InClosingAngle : Reading

-- what a byte is outside strings and comments
pub data Class : Type 0 where
  White : Class
  Percent : Class
  Slash : Class
  OpensText : Class
  OpensAngle : Class
  ClosesAngle : Class
  OpensBody : Class
  ClosesBody : Class
  Bracket : Class
  NotKnown : Class
  Regular : Class

-- white-space characters
abbrev pub is_white : ℕ → Bool
is_white b = (b == space) || (b == line_feed) || (b == carriage_return) || (b == tab) || (b == form_feed) || (b == null)

-- a comment ends at a newline or a form feed
abbrev pub ends_comment : ℕ → Bool
ends_comment b = (b == line_feed) || (b == carriage_return) || (b == form_feed)

-- the bytes at which binary tokens begin (3.14)
abbrev pub is_binary : ℕ → Bool
is_binary b = nat_lt 127 b && nat_lt b 160

abbrev pub class_of : ℕ → Class
class_of b =
    if is_white b then White
    else if b == percent_sign then Percent
    else if b == slash then Slash
    else if b == opening_parenthesis then OpensText
    else if b == less_than then OpensAngle
    else if b == greater_than then ClosesAngle
    else if b == opening_brace then OpensBody
    else if b == closing_brace then ClosesBody
    else if (b == opening_bracket) || (b == closing_bracket) then Bracket
    else if (b == closing_parenthesis) || is_binary b then NotKnown
    else Regular

-- Numbers.

abbrev pub is_sign : ℕ → Bool
is_sign b = (b == minus_sign) || (b == plus_sign)

abbrev pub whole_from : (some : Bool) → List ℕ → Bool
whole_from some [] = some
whole_from some (b ∷ bs) = is_ascii_digit b && whole_from true bs

-- a sign or none, and digits
abbrev pub is_whole_number : List ℕ → Bool
is_whole_number [] = false
is_whole_number (b ∷ bs) = if is_sign b then whole_from false bs else whole_from false (b ∷ bs)

-- E or e
abbrev pub begins_exponent : ℕ → Bool
begins_exponent b = (b == 69) || (b == 101)

abbrev pub decimals_from : (some : Bool) → List ℕ → Bool
decimals_from some [] = some
decimals_from some (b ∷ bs) =
    if begins_exponent b then some && is_whole_number bs else is_ascii_digit b && decimals_from true bs

-- digits, at least one, with at most one dot among them, and an exponent or none
abbrev pub digits_from : (some : Bool) → List ℕ → Bool
digits_from some [] = some
digits_from some (b ∷ bs) =
    if b == dot then decimals_from some bs
    else if begins_exponent b then some && is_whole_number bs
    else is_ascii_digit b && digits_from true bs

abbrev pub is_number_text : List ℕ → Bool
is_number_text [] = false
is_number_text (b ∷ bs) = if is_sign b then digits_from false bs else digits_from false (b ∷ bs)

-- digits and a number sign: it may be a number with a radix
abbrev pub has_radix : (some : Bool) → List ℕ → Bool
has_radix some [] = false
has_radix some (b ∷ bs) = if b == number_sign then some else is_ascii_digit b && has_radix true bs

-- a word is a number or a name
abbrev pub word : List ℕ → Token
word text = if is_number_text text then Number text else if has_radix false text then Unknown else Name text

-- the token that is complete
abbrev pub ended_token : Reading → List Token
ended_token Between = []
ended_token InComment = []
ended_token (InWord bs) = word (reverse bs) ∷ []
ended_token (InLiteral bs) = Literal (reverse bs) ∷ []
ended_token (InText depth bs) = Unknown ∷ []
ended_token (Escaped depth bs) = Unknown ∷ []
ended_token InAngle = Unknown ∷ []
ended_token (InHexadecimal bs) = Unknown ∷ []
ended_token InClosingAngle = Unknown ∷ []

abbrev pub after_tokens : List Token → List Token × Reading → List Token × Reading
after_tokens ts (us, r) = (ts ++ us, r)

-- a byte between tokens: what it is by itself, and what the reader is in after it
abbrev pub begun : Class → ℕ → List Token × Reading
begun White b = ([], Between)
begun Percent b = ([], InComment)
begun Slash b = ([], InLiteral [])
begun OpensText b = ([], InText 0 [])
begun OpensAngle b = ([], InAngle)
begun ClosesAngle b = ([], InClosingAngle)
begun OpensBody b = (Opens ∷ [], Between)
begun ClosesBody b = (Closes ∷ [], Between)
begun Bracket b = (Name (b ∷ []) ∷ [], Between)
begun NotKnown b = (Unknown ∷ [], Between)
begun Regular b = ([], InWord (b ∷ []))

-- a byte after the first ones of a word
abbrev pub in_word : Class → List ℕ → ℕ → List Token × Reading
in_word Regular bs b = ([], InWord (b ∷ bs))
in_word class bs b = after_tokens (word (reverse bs) ∷ []) (begun class b)

-- after a slash
abbrev pub in_literal : Class → List ℕ → ℕ → List Token × Reading
in_literal Regular bs b = ([], InLiteral (b ∷ bs))
in_literal Slash [] b = (Unknown ∷ [], InLiteral [])
in_literal class bs b = after_tokens (Literal (reverse bs) ∷ []) (begun class b)

-- in parentheses, which may be nested
abbrev pub in_text : ℕ → List ℕ → ℕ → List Token × Reading
in_text depth bs b =
    if b == backslash then ([], Escaped depth (b ∷ bs))
    else if b == opening_parenthesis then ([], InText (suc depth) (b ∷ bs))
    else if b == closing_parenthesis then closed depth
    else ([], InText depth (b ∷ bs))
  where
    closed : ℕ → List Token × Reading
    closed zero = (Text (reverse bs) ∷ [], Between)
    closed (suc n) = ([], InText n (b ∷ bs))

abbrev pub is_hexadecimal : ℕ → Bool
is_hexadecimal b = is_ascii_digit b || (nat_lt 64 b && nat_lt b 71) || (nat_lt 96 b && nat_lt b 103)

-- between angle brackets; white space has no meaning there
abbrev pub in_hexadecimal : List ℕ → ℕ → List Token × Reading
in_hexadecimal bs b =
    if is_hexadecimal b then ([], InHexadecimal (b ∷ bs))
    else if is_white b then ([], InHexadecimal bs)
    else if b == greater_than then (Hexadecimal (reverse bs) ∷ [], Between)
    else (Unknown ∷ [], Between)

-- after an angle bracket: a second one makes a name, `<<`; otherwise it is a string
abbrev pub in_angle : ℕ → List Token × Reading
in_angle b = if b == less_than then (Name (less_than ∷ less_than ∷ []) ∷ [], Between) else in_hexadecimal [] b

-- after a closing one, which has no string to close: `>>`, or an error
abbrev pub in_closing_angle : ℕ → List Token × Reading
in_closing_angle b =
    if b == greater_than then (Name (greater_than ∷ greater_than ∷ []) ∷ [], Between)
    else after_tokens (Unknown ∷ []) (begun (class_of b) b)

-- the next byte: the tokens that it completes, and what the reader is in then
abbrev pub next : Reading → ℕ → List Token × Reading
next Between b = begun (class_of b) b
next InComment b = ([], if ends_comment b then Between else InComment)
next (InWord bs) b = in_word (class_of b) bs b
next (InLiteral bs) b = in_literal (class_of b) bs b
next (InText depth bs) b = in_text depth bs b
next (Escaped depth bs) b = ([], InText depth (b ∷ bs))
next InAngle b = in_angle b
next (InHexadecimal bs) b = in_hexadecimal bs b
next InClosingAngle b = in_closing_angle b

abbrev pub scan_from : Reading → List ℕ → List Token × Reading
scan_from r [] = ([], r)
scan_from r (b ∷ bs) = after_tokens (next r b).0 (scan_from (next r b).1 bs)

-- the tokens of a text
abbrev pub tokens : List ℕ → List Token
tokens text = (scan_from Between text).0 ++ ended_token (scan_from Between text).1

-- the text ends between tokens
abbrev pub EndsBetweenTokens : List ℕ → Type 0
EndsBetweenTokens text = (scan_from Between text).1 ≡ Between

-- a law: the tokens of a complete text followed by another are those of the first and then those of the second
abbrev pub TokensJoin : Type 0
TokensJoin = (a b : List ℕ) → EndsBetweenTokens a → tokens (a ++ b) ≡ tokens a ++ tokens b
