-- Documents and their papers, worked out.
use Rattle.std.proofs.Common.{◌≡◌, ℕ, true, false, List, [], ◌∷◌, refl}
use Rattle.std.specs.Prelude.{codes, Option, None, Some, pos, map}
use Rattle.rules.specs.Papers.{Paper, points}
use Rattle.papers.specs.declared.media.Comment.{Comment}
use Rattle.papers.specs.declared.media.Comment.TheVariants.{DocumentMedia, DocumentPaperSizes, BoundingBox, Setup}
use Rattle.lengths.specs.Lengths.{a4}
use Rattle.lengths.specs.Reading.{number_at}
use Rattle.paper_names.specs.Names.{papers}
use Rattle.papers.specs.Media.{points_of, is_zero, name_and_rest, name_in, name_meant, comment_fields, media_paper, box_paper, document_paper}

-- What a field names.

whole : points_of (codes "595") ≡ Some (pos 75_565_000_000_000)
unfolding number_at
whole = refl

with_decimals : points_of (codes "0.5") ≡ Some (pos 63_500_000_000)
unfolding number_at
with_decimals = refl

with_unit : points_of (codes "595pt") ≡ None
unfolding number_at
with_unit = refl

at_end : points_of (codes "(atend)") ≡ None
unfolding number_at
at_end = refl

greatest : points_of (codes "99999") ≡ Some (pos 12_699_873_000_000_000)
unfolding number_at
greatest = refl

too_large : points_of (codes "100000") ≡ None
unfolding number_at
too_large = refl

-- Which name is in a field.

in_parentheses : name_in (codes "(a4)") ≡ codes "a4"
in_parentheses = refl

not_closed : name_in (codes "(a4") ≡ codes "(a4"
not_closed = refl

not_opened : name_in (codes "a4)") ≡ codes "a4)"
not_opened = refl

nothing_enclosed : name_in (codes "()") ≡ []
nothing_enclosed = refl

one_parenthesis : name_in (codes "(") ≡ codes "("
one_parenthesis = refl

-- Which name a value begins with, and what follows it.

plain_name : name_and_rest (codes "  a4 5 (6)") ≡ Some (codes "a4", codes " 5 (6)")
plain_name = refl

-- a blank in parentheses ends no name
blank_in_parentheses : name_and_rest (codes " (US letter) 612 792") ≡ Some (codes "(US letter)", codes " 612 792")
blank_in_parentheses = refl

-- nor does what follows them without a blank
two_in_parentheses : name_and_rest (codes "(a b)(c d) 5") ≡ Some (codes "(a b)(c", codes " d) 5")
two_in_parentheses = refl

-- those within are in pairs, or have a backslash before them
enclosed_twice : name_and_rest (codes "(a(b)) 5") ≡ Some (codes "(a(b))", codes " 5")
enclosed_twice = refl

enclosed_first : name_and_rest (codes "((n) m) 5") ≡ Some (codes "((n) m)", codes " 5")
enclosed_first = refl

escaped_parentheses : name_and_rest (codes "(a\\(\\)\\)) 5") ≡ Some (codes "(a\\(\\)\\))", codes " 5")
escaped_parentheses = refl

escaped_backslash : name_and_rest (codes "(a\\\\) 5") ≡ Some (codes "(a\\\\)", codes " 5")
escaped_backslash = refl

-- in parentheses that are never closed a blank ends a name
never_closed : name_and_rest (codes "(a b 5") ≡ Some (codes "(a", codes " b 5")
never_closed = refl

never_closed_after_all : name_and_rest (codes "((a) b") ≡ Some (codes "((a)", codes " b")
never_closed_after_all = refl

-- Which name is written so.

meant_in_parentheses : name_meant (codes "(US letter)") ≡ codes "US letter"
meant_in_parentheses = refl

meant_with_parentheses : name_meant (codes "((n) m)") ≡ codes "(n) m"
meant_with_parentheses = refl

nothing_meant : name_meant (codes "()") ≡ []
nothing_meant = refl

-- the examples of DSC 3.0 and of the PostScript Language Reference
parentheses_meant : name_meant (codes "(\\(a\\)\\\\)") ≡ codes "(a)\\"
parentheses_meant = refl

letters_meant : name_meant (codes "(\\n\\r\\t\\b\\f)") ≡ 10 ∷ 13 ∷ 9 ∷ 8 ∷ 12 ∷ []
letters_meant = refl

codes_meant : name_meant (codes "(\\101\\0053\\53\\0)") ≡ 65 ∷ 5 ∷ 51 ∷ 43 ∷ 0 ∷ []
codes_meant = refl

-- eight bits of a code count
high_code_meant : name_meant (codes "(\\501)") ≡ codes "A"
high_code_meant = refl

-- a backslash before any other byte counts for nothing
other_byte_meant : name_meant (codes "(\\a\\8\\9)") ≡ codes "a89"
other_byte_meant = refl

-- and one of a name that isn't in parentheses is a character of it
plain_backslash : name_meant (codes "a\\101") ≡ codes "a\\101"
plain_backslash = refl

plain_parenthesis : name_meant (codes "(a") ≡ codes "(a"
plain_parenthesis = refl

no_name : name_and_rest (codes "  ") ≡ None
no_name = refl

-- Where a box begins.

zero : is_zero (points_of (codes "-0.0")) ≡ true
unfolding number_at
zero = refl

one_grain : is_zero (Some (pos 1)) ≡ false
one_grain = refl

below_zero : is_zero (points_of (codes "-1")) ≡ false
unfolding number_at
below_zero = refl

no_length : is_zero None ≡ false
no_length = refl

-- The paper of the fields of a box, and of a medium.

abbrev words : List ℕ → List (List ℕ)
words letters = map (λ b. b ∷ []) letters

box : box_paper (words (codes "0034")) ≡ Some (points 3 4)
unfolding number_at
box = refl

more_behind_box : box_paper (words (codes "00345")) ≡ Some (points 3 4)
unfolding number_at
more_behind_box = refl

box_of_three : box_paper (words (codes "003")) ≡ None
box_of_three = refl

box_beside_left : box_paper (words (codes "1034")) ≡ None
unfolding number_at
box_beside_left = refl

box_above_bottom : box_paper (words (codes "0134")) ≡ None
unfolding number_at
box_above_bottom = refl

box_without_width : box_paper (words (codes "0004")) ≡ None
unfolding number_at
box_without_width = refl

medium : media_paper (codes " a 3 4") ≡ Some (points 3 4)
unfolding number_at
medium = refl

more_behind_medium : media_paper (codes "a\t3  4 5 6") ≡ Some (points 3 4)
unfolding number_at
more_behind_medium = refl

medium_of_two : media_paper (codes "a 3") ≡ None
medium_of_two = refl

medium_without_height : media_paper (codes "a 3 0") ≡ None
unfolding number_at
medium_without_height = refl

-- Which comment gives it.

first_of_two : comment_fields (codes "%%A") (codes "%%A: 1" ∷ codes "%%A: 2" ∷ []) ≡ Some (codes "1" ∷ [])
first_of_two = refl

not_by_longer_key : comment_fields (codes "%%A") (codes "%%AB: 1" ∷ codes "%%A: 2" ∷ []) ≡ Some (codes "2" ∷ [])
not_by_longer_key = refl

not_without_colon : comment_fields (codes "%%A") (codes "%%A 1" ∷ []) ≡ None
not_without_colon = refl

no_fields : comment_fields (codes "%%A") (codes "%%A:" ∷ []) ≡ Some []
no_fields = refl

-- not even a point wide
box_too_narrow : box_paper (codes "0" ∷ codes "0" ∷ codes "0.999999" ∷ codes "842" ∷ []) ≡ None
unfolding number_at
box_too_narrow = refl

one_point : box_paper (words (codes "0011")) ≡ Some (points 1 1)
unfolding number_at
one_point = refl

medium_too_low : media_paper (codes "a 595 0.5") ≡ None
unfolding number_at
medium_too_low = refl

-- The paper of a document for which a4 is usual.

abbrev told : List ℕ → Option (Paper × Comment)
told text = document_paper a4 text

media_before_box : told (codes "%!\n%%BoundingBox: 0 0 1 2\n%%DocumentMedia: a 3 4\n") ≡ Some (points 3 4, DocumentMedia)
unfolding number_at
media_before_box = refl

box_if_medium_is_none : told (codes "%!\n%%DocumentMedia: (atend)\n%%BoundingBox: 0 0 1 2\n") ≡ Some (points 1 2, BoundingBox)
unfolding number_at
box_if_medium_is_none = refl

-- the first comment decides, even if it gives no paper
second_box : told (codes "%!\n%%BoundingBox: (atend)\n%%BoundingBox: 0 0 1 2\n") ≡ None
second_box = refl

-- a continuation and a box of a page aren't read
box_of_a_page : told (codes "%!\n%%+ 0 0 1 2\n%%PageBoundingBox: 0 0 1 2\n") ≡ None
box_of_a_page = refl

behind_the_header : told (codes "%!\n%%EndComments\n%%BoundingBox: 0 0 1 2\n") ≡ None
behind_the_header = refl

first_line : told (codes "%%BoundingBox: 0 0 1 2\r") ≡ Some (points 1 2, BoundingBox)
unfolding number_at
first_line = refl

empty : told [] ≡ None
empty = refl

-- A box in the trailer.

in_the_trailer : told (codes "%!\n%%BoundingBox: (atend)\n%%Page: 1 1\nx\n%%Trailer\n%%BoundingBox: 0 0 1 2\n") ≡ Some (points 1 2, BoundingBox)
unfolding number_at
in_the_trailer = refl

-- it counts only if the header says so
header_decides : told (codes "%!\n%%BoundingBox: 0 0 1 2\n%%Page: 1 1\nx\n%%Trailer\n%%BoundingBox: 0 0 3 4\n") ≡ Some (points 1 2, BoundingBox)
unfolding number_at
header_decides = refl

no_box_in_the_header : told (codes "%!\n%%Page: 1 1\nx\n%%Trailer\n%%BoundingBox: 0 0 3 4\n") ≡ None
no_box_in_the_header = refl

-- the box of an embedded document isn't the trailer's, nor is one before the trailer
embedded_in_the_trailer : told (codes "%!\n%%BoundingBox: (atend)\n%%Page: 1 1\n%%BoundingBox: 0 0 5 6\n%%Trailer\n%%BeginDocument: e\n%%BoundingBox: 0 0 3 4\n%%EndDocument\n%%BoundingBox: 0 0 1 2\n")
    ≡ Some (points 1 2, BoundingBox)
unfolding number_at
embedded_in_the_trailer = refl

-- put off for ever
put_off_again : told (codes "%!\n%%BoundingBox: (atend)\n%%Page: 1 1\nx\n%%Trailer\n%%BoundingBox: (atend)\n%%BoundingBox: 0 0 1 2\n") ≡ None
put_off_again = refl

-- a text that isn't cut has no trailer
faulty_data : told (codes "%!\n%%BoundingBox: (atend)\n%%Page: 1 1\nx\n%%Trailer\n%%BoundingBox: 0 0 1 2\n%%BeginData: x\n") ≡ None
faulty_data = refl

-- A box that reaches over the usual paper.

-- as graphviz writes it
wide_graph : told (codes "%!\n%%BoundingBox: (atend)\n%%Page: 1 1\nx\n%%Trailer\n%%BoundingBox: 36 36 4760 512\n") ≡ Some (points 4_796 548, BoundingBox)
unfolding number_at
wide_graph = refl

high_plot : told (codes "%!\n%%BoundingBox: 50 40 500 858\n") ≡ Some (points 550 898, BoundingBox)
unfolding number_at
high_plot = refl

-- fifteen points are no more than programs differ by
nearly_within : told (codes "%!\n%%BoundingBox: 36 36 610 857\n") ≡ None
unfolding number_at
nearly_within = refl

-- a box that begins outside the paper says nothing of it
begins_outside : told (codes "%!\n%%BoundingBox: -1 36 4760 512\n") ≡ None
unfolding number_at
begins_outside = refl

too_wide_for_a_paper : told (codes "%!\n%%BoundingBox: 36 36 100000 512\n") ≡ None
unfolding number_at
too_wide_for_a_paper = refl

-- Names of papers.

abbrev names_and_box : List ℕ
names_and_box = codes "%!\n%%DocumentPaperSizes: other A5 a4\n%%BoundingBox: 0 0 1 2\n"

known_name : told names_and_box ≡ Some (points 420 595, DocumentPaperSizes)
unfolding number_at papers
known_name = refl

medium_before_names : told (codes "%!\n%%DocumentPaperSizes: a5\n%%DocumentMedia: a 3 4\n") ≡ Some (points 3 4, DocumentMedia)
unfolding number_at
medium_before_names = refl

no_known_name : told (codes "%!\n%%DocumentPaperSizes: other\n%%BoundingBox: 0 0 1 2\n") ≡ Some (points 1 2, BoundingBox)
unfolding number_at papers
no_known_name = refl

-- lines may continue the names
names_go_on : told (codes "%!\n%%DocumentPaperSizes: other\n%%+ none\n%%+ a5 a4\n") ≡ Some (points 420 595, DocumentPaperSizes)
unfolding papers
names_go_on = refl

-- up to the first line that continues nothing
names_end : told (codes "%!\n%%DocumentPaperSizes: other\n%%Title: x\n%%+ a4\n") ≡ None
unfolding papers
names_end = refl

-- A box says how the paper lies that is named.

on_its_side : told (codes "%!\n%%BoundingBox: 0 0 842 595\n%%DocumentPaperSizes: a4\n") ≡ Some (points 842 595, DocumentPaperSizes)
unfolding number_at papers
on_its_side = refl

-- to 15 points, of each side
nearly_on_its_side : told (codes "%!\n%%BoundingBox: 0 0 857 580\n%%DocumentPaperSizes: a4\n") ≡ Some (points 842 595, DocumentPaperSizes)
unfolding number_at papers
nearly_on_its_side = refl

too_wide_to_lie_so : told (codes "%!\n%%BoundingBox: 0 0 858 595\n%%DocumentPaperSizes: a4\n") ≡ Some (points 595 842, DocumentPaperSizes)
unfolding number_at papers
too_wide_to_lie_so = refl

too_low_to_lie_so : told (codes "%!\n%%BoundingBox: 0 0 842 579\n%%DocumentPaperSizes: a4\n") ≡ Some (points 595 842, DocumentPaperSizes)
unfolding number_at papers
too_low_to_lie_so = refl

-- a box that begins elsewhere doesn't
beside_the_corner : told (codes "%!\n%%BoundingBox: 1 0 842 595\n%%DocumentPaperSizes: a4\n") ≡ Some (points 595 842, DocumentPaperSizes)
unfolding number_at papers
beside_the_corner = refl

-- Papers that the setup asks for.

by_setup : told (codes "%!\n<< /PageSize [ 842 1191 ] >> setpagedevice\n%%Page: 1 1\nx\n") ≡ Some (points 842 1_191, Setup)
unfolding number_at
by_setup = refl

setup_of_a_page : told (codes "%!\n%%Page: 1 1\n<< /PageSize [842 1191] >> setpagedevice\n") ≡ None
setup_of_a_page = refl

-- the first that has two numbers
first_numbers : told (codes "%!\n/PageSize get\n/PageSize [w h]\n/PageSize [1 2 3]\n/PageSize[5 6]\n/PageSize [7 8]\n") ≡ Some (points 5 6, Setup)
unfolding number_at
first_numbers = refl

comment_before_setup : told (codes "%!\n%%BoundingBox: 0 0 1 2\n/PageSize [5 6]\n") ≡ Some (points 1 2, BoundingBox)
unfolding number_at
comment_before_setup = refl

-- a box passes the paper that the setup asks for, and not the usual one
box_within_setup : told (codes "%!\n%%BoundingBox: 20 20 900 700\n/PageSize [1191 842]\n") ≡ Some (points 1_191 842, Setup)
unfolding number_at
box_within_setup = refl

-- a sum of 100,000 points is no side
sum_of_a_box : told (codes "%!\n%%BoundingBox: 300 300 99999 700\n") ≡ None
unfolding number_at
sum_of_a_box = refl

-- Papers that the setup names.

-- as pmw writes it
named_in_setup : told (codes "%!\n%%EndComments\n%%BeginPaperSize: a3\na3\n%%EndPaperSize\n") ≡ Some (points 842 1_191, Setup)
unfolding papers
named_in_setup = refl

of_a_feature : told (codes "%!\n%%BeginFeature: *Duplex None\n%%BeginFeature: *PageRegion Legal\n") ≡ Some (points 612 1_008, Setup)
unfolding papers
of_a_feature = refl

-- the first line that has a paper counts, and an unknown name is none
first_line_of_setup : told (codes "%!\n%%BeginPaperSize: SixByNine\n/PageSize [5 6]\n%%BeginPaperSize: a3\n") ≡ Some (points 5 6, Setup)
unfolding number_at papers
first_line_of_setup = refl
