-- Rows, computed from the definitions.
use Rattle.std.proofs.Common.{ℕ, List, [], ◌∷◌, refl, ◌≡◌, Some, None, Option, false, true, Bool}
use Rattle.std.specs.Prelude.{codes, Result, Ok, Err}
use Rattle.rules.specs.Units.{◌>>=◌}
use Rattle.rules.specs.Rows.{Row, all_pages, auto_count, auto_sides, in_signatures}
use Rattle.rules.specs.Ranges.{pieces_of}
use Rattle.rules.specs.Choice.{RowFault, NotARange, NotInDocument, TooManyEntries, NoEntries, Part, All, Odd, Even, Choice, InOne, OfSides, Auto, row_of_text, row_standing, standing_from, chosen, imposed_row}
use Rattle.rules.specs.Leaves.{faces, reading, read_signature}

-- ---- ranges

last_three : row_of_text 7 (codes "_3-") ≡ Ok (Some 4 ∷ Some 5 ∷ Some 6 ∷ [])
last_three = refl

all_backwards : row_of_text 4 (codes "last-1") ≡ Ok (Some 3 ∷ Some 2 ∷ Some 1 ∷ Some 0 ∷ [])
all_backwards = refl

blank_behind_first : row_of_text 3 (codes "1,blank,2-") ≡ Ok (Some 0 ∷ None ∷ Some 1 ∷ Some 2 ∷ [])
blank_behind_first = refl

-- an underscore alone is a blank; `_1` is the last page, and so is `last`
signs_of_psselect : row_of_text 3 (codes "_,_1,last,_2-_3") ≡ Ok (None ∷ Some 2 ∷ Some 2 ∷ Some 1 ∷ Some 0 ∷ [])
signs_of_psselect = refl

-- as often as it is named; only the value of numbers counts
named_twice : row_of_text 9 (codes "007,7-8,8-7") ≡ Ok (Some 6 ∷ Some 6 ∷ Some 7 ∷ Some 7 ∷ Some 6 ∷ [])
named_twice = refl

-- ---- no range; the place is where it begins

nothing : row_of_text 3 [] ≡ Err (NotARange 0)
nothing = refl

nothing_between : row_of_text 3 (codes "1,,2") ≡ Err (NotARange 2)
nothing_between = refl

nothing_behind : row_of_text 3 (codes "1,") ≡ Err (NotARange 2)
nothing_behind = refl

no_number_behind : row_of_text 3 (codes "1,_-") ≡ Err (NotARange 2)
no_number_behind = refl

no_number_before : row_of_text 3 (codes "1,-2") ≡ Err (NotARange 2)
no_number_before = refl

two_minus_signs : row_of_text 3 (codes "2,1-2-3") ≡ Err (NotARange 2)
two_minus_signs = refl

blank_is_no_place : row_of_text 3 (codes "blank-2") ≡ Err (NotARange 0)
blank_is_no_place = refl

no_space : row_of_text 3 (codes "1, 2") ≡ Err (NotARange 2)
no_space = refl

no_capitals : row_of_text 3 (codes "Last") ≡ Err (NotARange 0)
no_capitals = refl

-- ---- what the document lacks

past_the_last : row_of_text 3 (codes "1,2-4") ≡ Err (NotInDocument 2)
past_the_last = refl

before_the_first : row_of_text 3 (codes "3,_4") ≡ Err (NotInDocument 2)
before_the_first = refl

page_zero : row_of_text 3 (codes "0") ≡ Err (NotInDocument 0)
page_zero = refl

from_end_zero : row_of_text 3 (codes "_0") ≡ Err (NotInDocument 0)
from_end_zero = refl

behind_the_last : row_of_text 3 (codes "4-") ≡ Err (NotInDocument 0)
behind_the_last = refl

-- the whole text is read first
text_comes_first : row_of_text 3 (codes "9,x") ≡ Err (NotARange 2)
text_comes_first = refl

-- ---- limits: the range that passes the limit is reported

abbrev at_most : (most : ℕ) → List ℕ → Result Row RowFault
at_most most text = standing_from 0 (pieces_of text) >>= row_standing most 3

five_fit : at_most 5 (codes "1-3,_,2") ≡ Ok (Some 0 ∷ Some 1 ∷ Some 2 ∷ None ∷ Some 1 ∷ [])
five_fit = refl

four_do_not : at_most 4 (codes "1-3,_,2") ≡ Err (TooManyEntries 6)
four_do_not = refl

three_do_not : at_most 3 (codes "1-3,_,2") ≡ Err (TooManyEntries 4)
three_do_not = refl

-- ---- steps

abbrev choice : Option (List ℕ) → Part → Bool → Choice
choice ranges part backwards = record { ranges = ranges; part = part; backwards = backwards }

all_pages_chosen : chosen 3 (choice None All false) ≡ Ok (Some 0 ∷ Some 1 ∷ Some 2 ∷ [])
all_pages_chosen = refl

odd_backwards : chosen 5 (choice None Odd true) ≡ Ok (Some 4 ∷ Some 2 ∷ Some 0 ∷ [])
odd_backwards = refl

-- the part comes first
odd_of_four_backwards : chosen 4 (choice None Odd true) ≡ Ok (Some 2 ∷ Some 0 ∷ [])
odd_of_four_backwards = refl

even_pages : chosen 5 (choice None Even false) ≡ Ok (Some 1 ∷ Some 3 ∷ [])
even_pages = refl

-- of a row that is named, parts are by place: odd places are the fronts, and even places the backs
odd_places : chosen 9 (choice (Some (codes "4-7,_")) Odd false) ≡ Ok (Some 3 ∷ Some 5 ∷ None ∷ [])
odd_places = refl

even_places : chosen 9 (choice (Some (codes "4-7,_")) Even false) ≡ Ok (Some 4 ∷ Some 6 ∷ [])
even_places = refl

none_left : chosen 1 (choice None Even false) ≡ Err NoEntries
none_left = refl

-- ---- signatures

-- pages 3 to 7 and a blank, in one signature: its leaves have eight sides
named_in_one : imposed_row 9 (choice (Some (codes "3-7,_")) All false) (Some InOne)
    ≡ Ok (None ∷ Some 2 ∷ Some 3 ∷ None ∷ None ∷ Some 4 ∷ Some 5 ∷ Some 6 ∷ [])
named_in_one = refl

-- pages 3 to 14 and a blank: three more of the four leaves' sixteen sides are blank
chapter_in_one : imposed_row 20 (choice (Some (codes "3-14,_")) All false) (Some InOne)
    ≡ Ok (None ∷ Some 2 ∷ Some 3 ∷ None ∷ None ∷ Some 4 ∷ Some 5 ∷ None ∷ Some 13 ∷ Some 6 ∷ Some 7 ∷ Some 12 ∷ Some 11 ∷ Some 8 ∷ Some 9 ∷ Some 10 ∷ [])
chapter_in_one = refl

in_fours : imposed_row 5 (choice None All false) (Some (OfSides 4))
    ≡ Ok (Some 3 ∷ Some 0 ∷ Some 1 ∷ Some 2 ∷ None ∷ Some 4 ∷ None ∷ None ∷ [])
in_fours = refl

by_itself : imposed_row 5 (choice None All false) (Some Auto)
    ≡ Ok (None ∷ Some 0 ∷ Some 1 ∷ None ∷ None ∷ Some 2 ∷ Some 3 ∷ Some 4 ∷ [])
by_itself = refl

-- 32 entries are eight leaves, and so one signature; 33 are nine leaves, in two signatures of five leaves; 100 are
-- 25 leaves, in four signatures of seven
eight_leaves : auto_sides 32 ≡ 32
eight_leaves = refl

nine_leaves : auto_sides 33 ≡ 20
nine_leaves = refl

two_of_nine : auto_count 33 ≡ 2
two_of_nine = refl

sides_of_hundred : auto_sides 100 ≡ 28
sides_of_hundred = refl

hundred : auto_count 100 ≡ 4
hundred = refl

one_page : auto_sides 1 ≡ 4
one_page = refl

-- ---- leaves

-- two leaves: 8 | 1 and 2 | 7 on the outer one, 6 | 3 and 4 | 5 on the inner one
eight_pages : faces (in_signatures 8 (all_pages 8))
    ≡ record { left = Some 7; right = Some 0 } ∷ record { left = Some 1; right = Some 6 }
    ∷ record { left = Some 5; right = Some 2 } ∷ record { left = Some 3; right = Some 4 } ∷ []
eight_pages = refl

-- the order of reading: front right, back left of the outer leaf, then of the inner one; then back right, front
-- left
two_leaves : reading 2 ≡ 1 ∷ 2 ∷ 5 ∷ 6 ∷ 7 ∷ 4 ∷ 3 ∷ 0 ∷ []
two_leaves = refl

read_again : read_signature 2 (faces (in_signatures 8 (all_pages 7))) 0
    ≡ Some 0 ∷ Some 1 ∷ Some 2 ∷ Some 3 ∷ Some 4 ∷ Some 5 ∷ Some 6 ∷ None ∷ []
read_again = refl
