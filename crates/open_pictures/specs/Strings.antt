-- The bytes of a string (PostScript Language Reference, third edition, 3.2, Strings), and numbers with decimals, compared.
use Rattle.std.specs.List.{list_all}
use Rattle.std.specs.Char.{is_ascii_digit}
use Rattle.std.specs.Prelude.{ℕ, zero, suc, ◌+◌, ◌-◌, ◌*◌, ◌/◌, ◌%◌, ◌^◌, List, [], ◌∷◌, ◌++◌, length, flat_map, reverse, codes, Bool, true, false}
use Rattle.std.specs.Prelude.{◌&&◌, ◌==◌, nat_lt, if◌then◌else◌, Option, Some, None, ℤ, pos, ◌*ℤ◌}
use Rattle.rules.specs.Bytes.{line_feed, carriage_return, space, plus_sign, minus_sign, dot, digit_zero}
use Rattle.rules.specs.Numbers.{number_of, signed}
use Rattle.pictures.specs.Objects.{Comparison}
use Rattle.pictures.specs.Calculations.{is_so}

-- What has been read of a string that is written in parentheses: nothing special, a backslash, some octal digits (their
-- value, and how many may follow), or a carriage return, to which a line feed belongs
pub data Within : Type 0 where
  Usual : Within
  Escaped : Within
  Octal : (value more : ℕ) → Within
  Returned : Within

abbrev pub is_octal : ℕ → Bool
is_octal b = nat_lt 47 b && nat_lt b 56

-- an end of line is one line feed
abbrev pub usual : ℕ → (Within → List ℕ) → List ℕ
usual b later =
    if b == 92 then later Escaped
    else if b == carriage_return then line_feed ∷ later Returned
    else b ∷ later Usual

-- after a backslash: digits, \n \r \t \b \f, an end of line, which is left out, and any other character itself
abbrev pub escaped : ℕ → (Within → List ℕ) → List ℕ
escaped b later =
    if is_octal b then later (Octal (b - digit_zero) 2)
    else if b == 110 then line_feed ∷ later Usual
    else if b == 114 then carriage_return ∷ later Usual
    else if b == 116 then 9 ∷ later Usual
    else if b == 98 then 8 ∷ later Usual
    else if b == 102 then 12 ∷ later Usual
    else if b == line_feed then later Usual
    else if b == carriage_return then later Returned
    else b ∷ later Usual

abbrev pub character : Within → ℕ → (Within → List ℕ) → List ℕ
character Usual b later = usual b later
character Escaped b later = escaped b later
character (Octal v zero) b later = v % 256 ∷ usual b later
character (Octal v (suc k)) b later =
    if is_octal b then later (Octal (v * 8 + (b - digit_zero)) k) else v % 256 ∷ usual b later
character Returned b later = if b == line_feed then later Usual else usual b later

abbrev pub characters_in : Within → List ℕ → List ℕ
characters_in (Octal v k) [] = v % 256 ∷ []
characters_in w [] = []
characters_in w (b ∷ bs) = character w b (λ v. characters_in v bs)

abbrev pub characters : List ℕ → List ℕ
characters raw = characters_in Usual raw

-- Hexadecimal digits.

abbrev pub hexadecimal_value : ℕ → ℕ
hexadecimal_value b = if is_ascii_digit b then b - digit_zero else if nat_lt b 71 then b - 55 else b - 87

-- a digit that is left over is followed by a 0
abbrev pub hexadecimal_bytes : List ℕ → List ℕ
hexadecimal_bytes [] = []
hexadecimal_bytes (a ∷ []) = (hexadecimal_value a * 16) ∷ []
hexadecimal_bytes (a ∷ b ∷ bs) = (hexadecimal_value a * 16 + hexadecimal_value b) ∷ hexadecimal_bytes bs

abbrev pub hexadecimal_digit : ℕ → ℕ
hexadecimal_digit n = if nat_lt n 10 then digit_zero + n else 87 + n

abbrev pub as_hexadecimal : List ℕ → List ℕ
as_hexadecimal bs = flat_map (λ b. hexadecimal_digit (b / 16) ∷ hexadecimal_digit (b % 16) ∷ []) bs

-- Names.

abbrev pub words_from : (word bs : List ℕ) → List (List ℕ)
words_from word [] = []
words_from word (b ∷ bs) = if b == space then reverse word ∷ words_from [] bs else words_from (b ∷ word) bs

-- the words that are each followed by a space
abbrev pub words : List ℕ → List (List ℕ)
words text = words_from [] text

-- ISOLatin1Encoding (Appendix E)
abbrev pub isolatin1 : List ℕ
isolatin1 =
    codes ".notdef .notdef .notdef .notdef .notdef .notdef .notdef .notdef .notdef .notdef .notdef .notdef "
    ++ codes ".notdef .notdef .notdef .notdef .notdef .notdef .notdef .notdef .notdef .notdef .notdef .notdef "
    ++ codes ".notdef .notdef .notdef .notdef .notdef .notdef .notdef .notdef space exclam quotedbl numbersign "
    ++ codes "dollar percent ampersand quoteright parenleft parenright asterisk plus comma minus period slash "
    ++ codes "zero one two three four five six seven eight nine colon semicolon less equal greater question at A "
    ++ codes "B C D E F G H I J K L M N O P Q R S T U V W X Y Z bracketleft backslash bracketright asciicircum "
    ++ codes "underscore quoteleft a b c d e f g h i j k l m n o p q r s t u v w x y z braceleft bar braceright "
    ++ codes "asciitilde .notdef .notdef .notdef .notdef .notdef .notdef .notdef .notdef .notdef .notdef .notdef "
    ++ codes ".notdef .notdef .notdef .notdef .notdef .notdef dotlessi grave acute circumflex tilde macron breve "
    ++ codes "dotaccent dieresis .notdef ring cedilla .notdef hungarumlaut ogonek caron space exclamdown cent "
    ++ codes "sterling currency yen brokenbar section dieresis copyright ordfeminine guillemotleft logicalnot "
    ++ codes "hyphen registered macron degree plusminus twosuperior threesuperior acute mu paragraph "
    ++ codes "periodcentered cedilla onesuperior ordmasculine guillemotright onequarter onehalf threequarters "
    ++ codes "questiondown Agrave Aacute Acircumflex Atilde Adieresis Aring AE Ccedilla Egrave Eacute Ecircumflex "
    ++ codes "Edieresis Igrave Iacute Icircumflex Idieresis Eth Ntilde Ograve Oacute Ocircumflex Otilde Odieresis "
    ++ codes "multiply Oslash Ugrave Uacute Ucircumflex Udieresis Yacute Thorn germandbls agrave aacute "
    ++ codes "acircumflex atilde adieresis aring ae ccedilla egrave eacute ecircumflex edieresis igrave iacute "
    ++ codes "icircumflex idieresis eth ntilde ograve oacute ocircumflex otilde odieresis divide oslash ugrave "
    ++ codes "uacute ucircumflex udieresis yacute thorn ydieresis "

-- Numbers with decimals, of at most six digits: such numbers differ for an interpreter too, whose real numbers have some
-- seven (Appendix B).

abbrev pub before_dot : List ℕ → List ℕ
before_dot [] = []
before_dot (b ∷ bs) = if b == dot then [] else b ∷ before_dot bs

abbrev pub after_dot : List ℕ → List ℕ
after_dot [] = []
after_dot (b ∷ bs) = if b == dot then bs else after_dot bs

pub record Decimal : Type 0 where
  pub value : ℤ
  pub decimals : ℕ

abbrev pub decimal_of_digits : Bool → (whole fraction : List ℕ) → Option Decimal
decimal_of_digits negative whole fraction =
    if list_all is_ascii_digit (whole ++ fraction) && nat_lt 0 (length (whole ++ fraction)) && nat_lt (length (whole ++ fraction)) 7 then
    Some (record { value = signed negative (number_of (whole ++ fraction)); decimals = length fraction })
    else None

abbrev pub decimal_on : Bool → List ℕ → Option Decimal
decimal_on negative bs = decimal_of_digits negative (before_dot bs) (after_dot bs)

abbrev pub decimal_of : List ℕ → Option Decimal
decimal_of [] = None
decimal_of (b ∷ bs) =
    if b == minus_sign then decimal_on true bs
    else if b == plus_sign then decimal_on false bs
    else decimal_on false (b ∷ bs)

abbrev pub decimals_compared_on : Comparison → Option Decimal → Option Decimal → Option Bool
decimals_compared_on c (Some a) (Some b) =
    Some (is_so c (a.value *ℤ pos (10 ^ b.decimals)) (b.value *ℤ pos (10 ^ a.decimals)))
decimals_compared_on c x y = None

abbrev pub decimals_compared : Comparison → List ℕ → List ℕ → Option Bool
decimals_compared c a b = decimals_compared_on c (decimal_of a) (decimal_of b)
