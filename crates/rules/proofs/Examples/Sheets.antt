-- Which pages are on which sheets.
use Rattle.std.proofs.Common.{ℕ, List, [], ◌∷◌, ◌++◌, refl, ◌≡◌, true, false, Some, None, Option, map, replicate}
use Rattle.rules.specs.Specification.{Spec, settled}
use Rattle.rules.specs.Sheets.{sheets}
use Rattle.rules.proofs.Examples.Written.{item, written}

abbrev on_sheets : Spec → ℕ → List (List (Option ℕ))
on_sheets spec n = map (λ sheet. map (λ s. s.page) sheet) (sheets spec n)

-- `3:0,1` on 0 pages: no sheets
no_pages : on_sheets (settled (written 3 (((item false 0 ([])) ∷ []) ∷ ((item false 1 ([])) ∷ []) ∷ []))) 0 ≡ []
no_pages = refl

-- `9:0,8,-0,-8` on 1 pages: one block, filled with blanks
modulo_above_pages : on_sheets (settled (written 9 (((item false 0 ([])) ∷ []) ∷ ((item false 8 ([])) ∷ []) ∷ ((item true 0 ([])) ∷ []) ∷ ((item true 8 ([])) ∷ []) ∷ []))) 1 ≡ (Some 0 ∷ []) ∷ (None ∷ []) ∷ (Some 0 ∷ []) ∷ (None ∷ []) ∷ []
modulo_above_pages = refl

-- `2:0+1` on 4 pages: no blank is added
whole_blocks : on_sheets (settled (written 2 (((item false 0 ([])) ∷ (item false 1 ([])) ∷ []) ∷ []))) 4 ≡ (Some 0 ∷ Some 1 ∷ []) ∷ (Some 2 ∷ Some 3 ∷ []) ∷ []
whole_blocks = refl

-- `-0` on 3 pages: all pages from the end
backwards : on_sheets (settled (written 1 (((item true 0 ([])) ∷ []) ∷ []))) 3 ≡ (Some 2 ∷ []) ∷ (Some 1 ∷ []) ∷ (Some 0 ∷ []) ∷ []
backwards = refl

-- `3:-2+-1+-0` on 4 pages: from the end of the filled row
minus_in_incomplete_block : on_sheets (settled (written 3 (((item true 2 ([])) ∷ (item true 1 ([])) ∷ (item true 0 ([])) ∷ []) ∷ []))) 4 ≡ (None ∷ None ∷ Some 3 ∷ []) ∷ (Some 2 ∷ Some 1 ∷ Some 0 ∷ []) ∷ []
minus_in_incomplete_block = refl

-- `2:1,-0` on 3 pages: blocks first, then groups
two_groups : on_sheets (settled (written 2 (((item false 1 ([])) ∷ []) ∷ ((item true 0 ([])) ∷ []) ∷ []))) 3 ≡ (Some 1 ∷ []) ∷ (Some 2 ∷ []) ∷ (None ∷ []) ∷ (Some 0 ∷ []) ∷ []
two_groups = refl

-- `2:0+0,0` on 3 pages: a page may be placed twice
same_page_twice : on_sheets (settled (written 2 (((item false 0 ([])) ∷ (item false 0 ([])) ∷ []) ∷ ((item false 0 ([])) ∷ []) ∷ []))) 3 ≡ (Some 0 ∷ Some 0 ∷ []) ∷ (Some 0 ∷ []) ∷ (Some 2 ∷ Some 2 ∷ []) ∷ (Some 2 ∷ []) ∷ []
same_page_twice = refl

-- `4:-3+0,1+-2` on 8 pages: a booklet without blanks
booklet_of_eight : on_sheets (settled (written 4 (((item true 3 ([])) ∷ (item false 0 ([])) ∷ []) ∷ ((item false 1 ([])) ∷ (item true 2 ([])) ∷ []) ∷ []))) 8 ≡ (Some 7 ∷ Some 0 ∷ []) ∷ (Some 1 ∷ Some 6 ∷ []) ∷ (Some 3 ∷ Some 4 ∷ []) ∷ (Some 5 ∷ Some 2 ∷ []) ∷ []
booklet_of_eight = refl

-- `4:3,-3` on 5 pages: one page more than whole blocks
last_page_alone : on_sheets (settled (written 4 (((item false 3 ([])) ∷ []) ∷ ((item true 3 ([])) ∷ []) ∷ []))) 5 ≡ (Some 3 ∷ []) ∷ (None ∷ []) ∷ (None ∷ []) ∷ (Some 3 ∷ []) ∷ []
last_page_alone = refl

-- `2:-0` on 5 pages: every other page from the end of the filled row
every_other_page_backwards : on_sheets (settled (written 2 (((item true 0 ([])) ∷ []) ∷ []))) 5 ≡ (Some 4 ∷ []) ∷ (Some 2 ∷ []) ∷ (Some 0 ∷ []) ∷ []
every_other_page_backwards = refl

-- `4:-3+0,1+-2` on 5 pages: a booklet with three blanks
booklet_of_five : on_sheets (settled (written 4 (((item true 3 ([])) ∷ (item false 0 ([])) ∷ []) ∷ ((item false 1 ([])) ∷ (item true 2 ([])) ∷ []) ∷ []))) 5 ≡ (None ∷ Some 0 ∷ []) ∷ (Some 1 ∷ None ∷ []) ∷ (Some 3 ∷ Some 4 ∷ []) ∷ (None ∷ Some 2 ∷ []) ∷ []
booklet_of_five = refl

-- `4:0,1,2,3` on 5 pages: the last three sheets are blank
blank_sheets_at_the_end : on_sheets (settled (written 4 (((item false 0 ([])) ∷ []) ∷ ((item false 1 ([])) ∷ []) ∷ ((item false 2 ([])) ∷ []) ∷ ((item false 3 ([])) ∷ []) ∷ []))) 5 ≡ (Some 0 ∷ []) ∷ (Some 1 ∷ []) ∷ (Some 2 ∷ []) ∷ (Some 3 ∷ []) ∷ (Some 4 ∷ []) ∷ (None ∷ []) ∷ (None ∷ []) ∷ (None ∷ []) ∷ []
blank_sheets_at_the_end = refl

-- `2:0` on 5 pages: every other page, from the first
first_of_each_two : on_sheets (settled (written 2 (((item false 0 ([])) ∷ []) ∷ []))) 5 ≡ (Some 0 ∷ []) ∷ (Some 2 ∷ []) ∷ (Some 4 ∷ []) ∷ []
first_of_each_two = refl

-- `2:1` on 5 pages: every other page, from the second; the last one is blank
second_of_each_two : on_sheets (settled (written 2 (((item false 1 ([])) ∷ []) ∷ []))) 5 ≡ (Some 1 ∷ []) ∷ (Some 3 ∷ []) ∷ (None ∷ []) ∷ []
second_of_each_two = refl

-- `0,0` on 2 pages: each page twice
each_page_twice : on_sheets (settled (written 1 (((item false 0 ([])) ∷ []) ∷ ((item false 0 ([])) ∷ []) ∷ []))) 2 ≡ (Some 0 ∷ []) ∷ (Some 0 ∷ []) ∷ (Some 1 ∷ []) ∷ (Some 1 ∷ []) ∷ []
each_page_twice = refl

-- `4:-3+0,1+-2` on 4 pages: the front and the back of a leaf
booklet_of_four : on_sheets (settled (written 4 (((item true 3 ([])) ∷ (item false 0 ([])) ∷ []) ∷ ((item false 1 ([])) ∷ (item true 2 ([])) ∷ []) ∷ []))) 4 ≡ (Some 3 ∷ Some 0 ∷ []) ∷ (Some 1 ∷ Some 2 ∷ []) ∷ []
booklet_of_four = refl

-- `4:-3+0,1+-2` on 3 pages, one less than a block: a blank takes the place of the last
booklet_of_three : on_sheets (settled (written 4 (((item true 3 ([])) ∷ (item false 0 ([])) ∷ []) ∷ ((item false 1 ([])) ∷ (item true 2 ([])) ∷ []) ∷ []))) 3 ≡ (None ∷ Some 0 ∷ []) ∷ (Some 1 ∷ Some 2 ∷ []) ∷ []
booklet_of_three = refl

-- on 7 pages, one less than two blocks
booklet_of_seven : on_sheets (settled (written 4 (((item true 3 ([])) ∷ (item false 0 ([])) ∷ []) ∷ ((item false 1 ([])) ∷ (item true 2 ([])) ∷ []) ∷ []))) 7 ≡ (None ∷ Some 0 ∷ []) ∷ (Some 1 ∷ Some 6 ∷ []) ∷ (Some 3 ∷ Some 4 ∷ []) ∷ (Some 5 ∷ Some 2 ∷ []) ∷ []
booklet_of_seven = refl

-- on 9 pages, one more than two blocks: the places 8 to 11 are the last block; 9 to 11 are blank
booklet_of_nine : on_sheets (settled (written 4 (((item true 3 ([])) ∷ (item false 0 ([])) ∷ []) ∷ ((item false 1 ([])) ∷ (item true 2 ([])) ∷ []) ∷ []))) 9 ≡ (None ∷ Some 0 ∷ []) ∷ (Some 1 ∷ None ∷ []) ∷ (Some 7 ∷ Some 4 ∷ []) ∷ (Some 5 ∷ Some 6 ∷ []) ∷ (Some 3 ∷ Some 8 ∷ []) ∷ (None ∷ Some 2 ∷ []) ∷ []
booklet_of_nine = refl

-- `3:0,2,-0,-2` on 5, 6 and 7 pages: one less than two blocks, two blocks, one more
abbrev ends_of_threes : Spec
ends_of_threes = settled (written 3 ((item false 0 [] ∷ []) ∷ (item false 2 [] ∷ []) ∷ (item true 0 [] ∷ []) ∷ (item true 2 [] ∷ []) ∷ []))

one_less_than_two_blocks : on_sheets ends_of_threes 5 ≡ (Some 0 ∷ []) ∷ (Some 2 ∷ []) ∷ (Some 3 ∷ []) ∷ (None ∷ []) ∷ (Some 3 ∷ []) ∷ (None ∷ []) ∷ (Some 0 ∷ []) ∷ (Some 2 ∷ []) ∷ []
one_less_than_two_blocks = refl

two_blocks : on_sheets ends_of_threes 6 ≡ (Some 0 ∷ []) ∷ (Some 2 ∷ []) ∷ (Some 3 ∷ []) ∷ (Some 5 ∷ []) ∷ (Some 3 ∷ []) ∷ (Some 5 ∷ []) ∷ (Some 0 ∷ []) ∷ (Some 2 ∷ []) ∷ []
two_blocks = refl

one_more_than_two_blocks : on_sheets ends_of_threes 7 ≡ (Some 0 ∷ []) ∷ (Some 2 ∷ []) ∷ (Some 6 ∷ []) ∷ (None ∷ []) ∷ (Some 3 ∷ []) ∷ (Some 5 ∷ []) ∷ (Some 3 ∷ []) ∷ (Some 5 ∷ []) ∷ (Some 6 ∷ []) ∷ (None ∷ []) ∷ (Some 0 ∷ []) ∷ (Some 2 ∷ []) ∷ []
one_more_than_two_blocks = refl

-- `0,-0` on 0 pages and on 1: without a modulo no blank is added
no_pages_without_modulo : on_sheets (settled (written 1 ((item false 0 [] ∷ []) ∷ (item true 0 [] ∷ []) ∷ []))) 0 ≡ []
no_pages_without_modulo = refl

one_page_without_modulo : on_sheets (settled (written 1 ((item false 0 [] ∷ []) ∷ (item true 0 [] ∷ []) ∷ []))) 1 ≡ (Some 0 ∷ []) ∷ (Some 0 ∷ []) ∷ []
one_page_without_modulo = refl

-- `99999:0,99998,-0,-99998` on 99,998 pages and on 99,999: the greatest modulo
abbrev greatest_block : Spec
greatest_block = settled (written 99_999 ((item false 0 [] ∷ []) ∷ (item false 99_998 [] ∷ []) ∷ (item true 0 [] ∷ []) ∷ (item true 99_998 [] ∷ []) ∷ []))

page_less_than_greatest_block : on_sheets greatest_block 99_998 ≡ (Some 0 ∷ []) ∷ (None ∷ []) ∷ (Some 0 ∷ []) ∷ (None ∷ []) ∷ []
page_less_than_greatest_block = refl

greatest_block_full : on_sheets greatest_block 99_999 ≡ (Some 0 ∷ []) ∷ (Some 99_998 ∷ []) ∷ (Some 0 ∷ []) ∷ (Some 99_998 ∷ []) ∷ []
greatest_block_full = refl

-- `2:` with 64 items `1` and then `0`, joined by plus, on one page: 64 blanks and then the page
blanks_before_the_page : on_sheets (settled (written 2 ((replicate 64 (item false 1 []) ++ item false 0 [] ∷ []) ∷ []))) 1 ≡ (replicate 64 None ++ Some 0 ∷ []) ∷ []
blanks_before_the_page = refl

-- 4,096 items `0` on one page: the page 4,096 times on its sheet
most_slots_of_one_page : on_sheets (settled (written 1 (replicate 4_096 (item false 0 []) ∷ []))) 1 ≡ replicate 4_096 (Some 0) ∷ []
most_slots_of_one_page = refl
