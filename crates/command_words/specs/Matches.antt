-- What the texts of arguments mean, as clap finds them among the words.
use Rattle.std.specs.Prelude.{◌^◌, ◌&&◌, ℕ, Bool, false, nat_lt, option_and_then, if◌then◌else◌, List, Option, Some, None}
use Rattle.std.specs.Prelude.{codes}
use Rattle.std.specs.Str.{bytes_eq}
use Rattle.std.specs.Str.Parse.{digits_value, without_leading_plus}
use Rattle.clap.specs.ValueTests.{is_numeral}
use Rattle.clap.specs.Words.{Text}

-- a flag is among the words
abbrev pub has_true : Option Text → Bool
has_true None = false
has_true (Some text) = bytes_eq text (codes "true")

-- a whole number of 32 bits, in digits with or without a plus before them
abbrev pub u32_of : List ℕ → Option ℕ
u32_of text =
    let digits = without_leading_plus text in
    if is_numeral digits && nat_lt (digits_value 10 digits) (2 ^ 32) then Some (digits_value 10 digits) else None

-- the number that the text is, if there is a text
abbrev pub number_named : Option (List ℕ) → Option ℕ
number_named text = option_and_then u32_of text
