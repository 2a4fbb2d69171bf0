-- Sizes of paper, numbers and lengths, as people write them.
use Rattle.std.specs.Ordering.{int_eq}
use Rattle.std.specs.Prelude.{ℕ, ℤ, pos, ◌||◌, Bool, false, not, if◌then◌else◌, List, Option, Some, None}
use Rattle.std.specs.Result.{result_ok}
use Rattle.rules.specs.Numbers.{is_large}
use Rattle.rules.specs.Papers.{Paper}
use Rattle.lengths.specs.Lengths.{a4, length_named}
use Rattle.lengths.specs.Reading.{is_empty, number_at}
use Rattle.command_words.specs.Borders.{border_named}
use Rattle.paper_names.specs.Sizes.{paper_of}

-- the paper that a text means, by its name or its size
abbrev pub size_named : List ℕ → Option Paper
size_named text = result_ok (paper_of text)

-- the number that is all of a text, if it isn't over 99,999
abbrev pub all_of : Option (ℤ × List ℕ) → Option ℤ
all_of None = None
all_of (Some (number, rest)) = if is_large number || not (is_empty rest) then None else Some number

-- RULES, 13.3
abbrev pub number_alone : List ℕ → Option ℤ
number_alone text = all_of (number_at text)

-- a number alone is a length if it is 0, which is the same in all units, and no other length is listed beside it (RULES, 12.1)
abbrev pub needs_unit : (listed : Bool) → Option ℤ → Bool
needs_unit listed None = false
needs_unit listed (Some number) = listed || not (int_eq number (pos 0))

abbrev pub lacks_unit : (listed : Bool) → List ℕ → Bool
lacks_unit listed text = needs_unit listed (number_alone text)

-- the length that a text means, which stands alone or in a list
abbrev pub length_in : (listed : Bool) → List ℕ → Option ℤ
length_in listed text = if lacks_unit listed text then None else length_named a4 text

abbrev pub length_with_unit : List ℕ → Option ℤ
length_with_unit text = length_in false text

-- the border of the width that a text means: 0 means none, and no width is below 0
abbrev pub border_with_unit : List ℕ → Option (Option ℤ)
border_with_unit text = if lacks_unit false text then None else border_named a4 (Some text)
