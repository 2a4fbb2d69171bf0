-- Strings of PostScript (PostScript Language Reference, 3.2.2), as comments have them for names (DSC 3.0, the text that
-- is in parentheses).
use Rattle.std.specs.Prelude.{ℕ, zero, suc, ◌+◌, ◌-◌, ◌*◌, ◌%◌, ◌==◌, nat_le, min, Bool, true, false, not, ◌&&◌, if◌then◌else◌, List, [], ◌∷◌, take, fold, Option, Some, None, option_map}
use Rattle.std.specs.List.{prefix_len}

abbrev pub open_parenthesis : ℕ
open_parenthesis = 40

abbrev pub closing : ℕ
closing = 41

abbrev pub backslash : ℕ
backslash = 92

-- ---- where a string ends

-- how many parentheses are open after one more byte; one after a backslash opens and closes none
abbrev pub open_after : (opened : ℕ) → (is_escaped : Bool) → (byte : ℕ) → ℕ
open_after opened true byte = opened
open_after opened false byte = if byte == open_parenthesis then opened + 1 else (if byte == closing then opened - 1 else opened)

-- a backslash escapes the next byte, unless it is escaped itself
abbrev pub escapes : (is_escaped : Bool) → (byte : ℕ) → Bool
escapes is_escaped byte = not is_escaped && byte == backslash

-- the length of the rest of a string: to the parenthesis that closes the last one open, and with it
abbrev pub rest_len : (opened : ℕ) → (is_escaped : Bool) → List ℕ → Option ℕ
rest_len opened is_escaped [] = None
rest_len opened is_escaped (b ∷ rest) = if open_after opened is_escaped b == 0 then Some 1
    else option_map (λ n. n + 1) (rest_len (open_after opened is_escaped b) (escapes is_escaped b) rest)

-- a text begins with a parenthesis
abbrev pub is_opened : List ℕ → Bool
is_opened [] = false
is_opened (b ∷ rest) = b == open_parenthesis

-- the length of the string that a text begins with, if it begins with one
abbrev pub string_len : List ℕ → Option ℕ
string_len text = if is_opened text then rest_len 0 false text else None

-- ---- which characters it stands for

abbrev pub is_octal_digit : ℕ → Bool
is_octal_digit byte = nat_le 48 byte && nat_le byte 55

-- how many of these digits a code has: three at most
abbrev pub code_len : List ℕ → ℕ
code_len text = min 3 (prefix_len is_octal_digit text)

-- the number with one more digit, of which the low eight bits count (a digit's byte is its value and 48, which eight divides)
abbrev pub code_with : (code digit : ℕ) → ℕ
code_with code digit = (code * 8 % 256 + digit % 8) % 256

-- the character by its letter after a backslash, and itself by any other
abbrev pub lettered : ℕ → ℕ
lettered letter =
    if letter == 110 then 10 else (if letter == 114 then 13 else (if letter == 116 then 9
    else (if letter == 98 then 8 else (if letter == 102 then 12 else letter))))

-- the character that the text after a backslash gives, by a code or a letter; a backslash at the end stands for itself
abbrev pub escaped : (text : List ℕ) → ℕ
escaped [] = backslash
escaped (b ∷ rest) = if is_octal_digit b then fold code_with 0 (take (code_len (b ∷ rest)) (b ∷ rest)) else lettered b

-- how many bytes give it
abbrev pub escaped_len : (text : List ℕ) → ℕ
escaped_len [] = 0
escaped_len (b ∷ rest) = if is_octal_digit b then code_len (b ∷ rest) else 1

-- the character that a text begins with, and how many bytes after its first belong to it
abbrev pub character : (first : ℕ) → (rest : List ℕ) → ℕ
character first rest = if first == backslash then escaped rest else first

abbrev pub character_len : (first : ℕ) → (rest : List ℕ) → ℕ
character_len first rest = if first == backslash then escaped_len rest else 0

-- the characters of a text, after so many bytes of it
abbrev pub characters_after : ℕ → List ℕ → List ℕ
characters_after passed [] = []
characters_after zero (b ∷ rest) = character b rest ∷ characters_after (character_len b rest) rest
characters_after (suc passed) (b ∷ rest) = characters_after passed rest

abbrev pub characters : List ℕ → List ℕ
characters text = characters_after 0 text
