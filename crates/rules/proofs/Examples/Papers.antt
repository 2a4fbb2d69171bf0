-- Papers by name.
use Rattle.std.proofs.Common.{ℕ, List, [], ◌∷◌, ◌++◌, refl, ◌≡◌, map, replicate, Option, Some, None, Bool, true, false}
use Rattle.std.specs.Prelude.{codes, filter, pos, neg_ℤ}
use Rattle.std.specs.List.{range_with_len}
use Rattle.rules.specs.Papers.{Paper, paper_with_name, points, is_paper, small}

abbrev is_some : Option Paper → Bool
is_some None = false
is_some (Some paper) = true

-- the paper a3
paper_a3 : paper_with_name (codes "a3") ≡ Some (points 842 1_191)
paper_a3 = refl

-- the paper a4
paper_a4 : paper_with_name (codes "a4") ≡ Some (points 595 842)
paper_a4 = refl

-- the paper a5
paper_a5 : paper_with_name (codes "a5") ≡ Some (points 420 595)
paper_a5 = refl

-- the paper letter
paper_letter : paper_with_name (codes "letter") ≡ Some (points 612 792)
paper_letter = refl

-- the paper legal
paper_legal : paper_with_name (codes "legal") ≡ Some (points 612 1_008)
paper_legal = refl

-- the paper tabloid
paper_tabloid : paper_with_name (codes "tabloid") ≡ Some (points 792 1_224)
paper_tabloid = refl

-- the paper statement
paper_statement : paper_with_name (codes "statement") ≡ Some (points 396 612)
paper_statement = refl

-- the paper 10x14
paper_ten_by_fourteen : paper_with_name (codes "10x14") ≡ Some (points 720 1_008)
paper_ten_by_fourteen = refl

-- capitals are read as small letters
capitals : paper_with_name (codes "LeTTer") ≡ Some (points 612 792)
capitals = refl

-- the first letter too
capital_a : paper_with_name (codes "A4") ≡ Some (points 595 842)
capital_a = refl

-- in the middle too
capital_cross : paper_with_name (codes "10X14") ≡ Some (points 720 1_008)
capital_cross = refl

-- b5 is not in the list
no_such_paper : paper_with_name (codes "b5") ≡ None
no_such_paper = refl

-- a name is the whole word
longer_name : paper_with_name (codes "a4 ") ≡ None
longer_name = refl

-- the empty word is no name
no_name : paper_with_name (codes "") ≡ None
no_name = refl

-- a name with one letter more or less at its end is none
longer_names : map paper_with_name (codes "a33" ∷ codes "a4r" ∷ codes "a50" ∷ codes "letters" ∷ codes "legals" ∷ codes "tabloids" ∷ codes "statements" ∷ codes "10x141" ∷ []) ≡ replicate 8 None
longer_names = refl

shorter_names : map paper_with_name (codes "a" ∷ codes "lette" ∷ codes "lega" ∷ codes "tabloi" ∷ codes "statemen" ∷ codes "10x1" ∷ []) ≡ replicate 6 None
shorter_names = refl

-- nor is one with one letter more or less at its start
names_from_within : map paper_with_name (codes "aa3" ∷ codes "4" ∷ codes " a5" ∷ codes "etter" ∷ codes "xlegal" ∷ codes "abloid" ∷ codes "0x14" ∷ codes "110x14" ∷ []) ≡ replicate 8 None
names_from_within = refl

-- other papers are not in the list
other_papers : map paper_with_name (codes "a0" ∷ codes "a1" ∷ codes "a2" ∷ codes "a6" ∷ codes "ledger" ∷ codes "folio" ∷ codes "quarto" ∷ codes "executive" ∷ codes "11x17" ∷ codes "14x10" ∷ []) ≡ replicate 10 None
other_papers = refl

-- all in capitals
all_capitals : map paper_with_name (codes "A3" ∷ codes "A5" ∷ codes "LETTER" ∷ codes "LEGAL" ∷ codes "TABLOID" ∷ codes "STATEMENT" ∷ []) ≡ map paper_with_name (codes "a3" ∷ codes "a5" ∷ codes "letter" ∷ codes "legal" ∷ codes "tabloid" ∷ codes "statement" ∷ [])
all_capitals = refl

-- among all bytes, two are an `a`, three are the digits of a name, and two are an `x`
abbrev is_name : List ℕ → Bool
is_name name = is_some (paper_with_name name)

bytes_of_a : filter (λ b. is_name (b ∷ codes "4")) (range_with_len 0 256) ≡ codes "Aa"
bytes_of_a = refl

digits_of_a : filter (λ b. is_name (97 ∷ b ∷ [])) (range_with_len 0 256) ≡ codes "345"
digits_of_a = refl

bytes_of_x : filter (λ b. is_name (codes "10" ++ b ∷ codes "14")) (range_with_len 0 256) ≡ codes "Xx"
bytes_of_x = refl

-- the capitals go from `A` to `Z`
ends_of_letters : map small (64 ∷ 65 ∷ 90 ∷ 91 ∷ []) ≡ 64 ∷ 97 ∷ 122 ∷ 91 ∷ []
ends_of_letters = refl

-- one grain is a side
least_paper : is_paper (pos 1) (pos 1) ≡ true
least_paper = refl

-- no grain is no side
no_width : is_paper (pos 0) (pos 1) ≡ false
no_width = refl

-- neither as width nor as height
no_height : is_paper (pos 1) (neg_ℤ (pos 1)) ≡ false
no_height = refl

-- nor is anything below zero
width_below_zero : is_paper (neg_ℤ (pos 1)) (pos 1) ≡ false
width_below_zero = refl

height_of_zero : is_paper (pos 1) (pos 0) ≡ false
height_of_zero = refl

-- the greatest side
greatest_paper : is_paper (pos 914_399_999_999_990_856) (pos 914_399_999_999_990_856) ≡ true
greatest_paper = refl

-- one grain more is too much
too_wide : is_paper (pos 914_399_999_999_990_857) (pos 1) ≡ false
too_wide = refl

-- on both sides
too_high : is_paper (pos 1) (pos 914_399_999_999_990_857) ≡ false
too_high = refl
