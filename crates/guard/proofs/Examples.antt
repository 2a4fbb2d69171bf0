-- Where lines are inserted, and which setups place pages, worked out.
use Rattle.std.proofs.Common.{◌≡◌, ℕ, true, false, List, [], ◌∷◌, length, map, refl}
use Rattle.std.specs.Prelude.{codes, None, Some}
use Rattle.std.specs.Fmt.{digits}
use Rattle.rules.specs.Papers.{points}
use Rattle.guard.specs.PutIn.{put_in}
use Rattle.guard.specs.Guard.{page_size_line, guard_lines}
use Rattle.guard.specs.Setups.{places_pages}

abbrev one : List (List ℕ)
one = codes "x" ∷ []

-- Where lines are inserted.

behind_end_comments : put_in one (codes "%!\n%%A\n%%EndComments\n%%B\n%%Page: 1 1\n") ≡ codes "%!\n%%A\n%%EndComments\nx\n%%B\n%%Page: 1 1\n"
behind_end_comments = refl

before_prolog : put_in one (codes "%!\r%%A\r%%BeginProlog\r%%Page: 1 1\r") ≡ codes "%!\r%%A\rx\n%%BeginProlog\r%%Page: 1 1\r"
before_prolog = refl

before_first_page : put_in one (codes "%!\n%%A\n%%+ b\n%%Page: 1 1\n") ≡ codes "%!\n%%A\n%%+ b\nx\n%%Page: 1 1\n"
before_first_page = refl

before_text : put_in one (codes "%!\n%%A\n% b\n%%Page: 1 1\n") ≡ codes "%!\n%%A\nx\n% b\n%%Page: 1 1\n"
before_text = refl

after_first_line : put_in one (codes "%!\r\n1 2 add\n") ≡ codes "%!\r\nx\n1 2 add\n"
after_first_line = refl

-- a file that ends before it has pages
before_end_of_file : put_in one (codes "%!\n%%A\n%%EOF\n%%B\n") ≡ codes "%!\n%%A\nx\n%%EOF\n%%B\n"
before_end_of_file = refl

-- they never come before the first line
behind_first_line_that_ends : put_in one (codes "%%EndComments\n%%A\n1\n") ≡ codes "%%EndComments\n%%A\nx\n1\n"
behind_first_line_that_ends = refl

-- a text without a line end gets one, and an empty text gets only the lines
no_end : put_in one (codes "%!") ≡ codes "%!\nx\n"
no_end = refl

empty : put_in one [] ≡ codes "x\n"
empty = refl

-- The guard.

a4 : page_size_line (points 595 842) ≡ codes "/setpagedevice where {pop 1 dict dup /PageSize [595 842] put setpagedevice} if"
unfolding digits
a4 = refl

-- with a paper it has one more line, the third
without_a_paper : length (guard_lines None) ≡ 38
without_a_paper = refl

with_a_paper : length (guard_lines (Some (points 595 842))) ≡ 39
with_a_paper = refl

-- Setups that scale, turn or move their pages, and others.

setups_that_place_pages : map places_pages (codes "%!\n.2 .2 scale" ∷ codes "[1 0 0 1 9 9]concat%" ∷ codes "gsave save restore 90 rotate" ∷ [])
    ≡ true ∷ true ∷ true ∷ []
setups_that_place_pages = refl

setups_that_place_none : map places_pages (codes "/f{90 rotate}def" ∷ codes "/scale 2 def(rotate)pop%scale" ∷ codes "gsave 2 2 scale grestore" ∷ codes "%%Page: 1 1\n2 2 scale" ∷ [])
    ≡ false ∷ false ∷ false ∷ false ∷ []
setups_that_place_none = refl
