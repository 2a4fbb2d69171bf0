-- Documents and the papers of their pages, and sheets that report theirs, computed from the definitions.
use Rattle.std.proofs.Common.{◌≡◌, ℕ, List, [], ◌∷◌, true, false, Some, None, refl}
use Rattle.std.specs.Prelude.{codes, pos, Result, Ok}
use Rattle.std.specs.Fmt.{digits}
use Rattle.rules.specs.Papers.{Paper, Pt, points, paper_with_name}
use Rattle.rules.specs.Specification.{Item, Upright}
use Rattle.rules.specs.Units.{◌>>=◌}
use Rattle.rules.specs.Run.{document_of, DocumentFault}
use Rattle.lengths.specs.Reading.{number_at}
use Rattle.rules.specs.Made.{MadeSheet, Blank, Placed}
use Rattle.rules.specs.MadeOutput.{made_output}
use Rattle.papers.specs.Own.{smallest_cover, covers, counts_as_one, papers_of_each_page}
use Rattle.papers.specs.Reported.{box_lines, reporting}

abbrev home : Paper
home = points 612 792

-- the papers of the pages of a text, for a home of letter
abbrev own : List ℕ → Result (List Paper) DocumentFault
own text = document_of text >>= λ us. Ok (papers_of_each_page None paper_with_name home text us)

-- ---- what a page says

-- as pdftops writes it: a page names its medium, which the header has; one that names none has the document's
by_medium : own (codes "%!PS\n%%DocumentMedia: A 595 842 0 () ()\n%%+ B 842 1191 0 () ()\n%%Page: 1 1\n%%PageMedia: B\nx\n%%Page: 2 2\nx\n%%Page: 3 3\n%%PageMedia: A\nx\n")
    ≡ Ok (points 842 1_191 ∷ points 595 842 ∷ points 595 842 ∷ [])
unfolding number_at
by_medium = refl

-- names may be in parentheses, in the header, at the page or at both
named_in_parentheses : own (codes "%!PS\n%%DocumentMedia: (A) 595 842 0 () ()\n%%+ B 842 1191 0 () ()\n%%Page: 1 1\n%%PageMedia: (B)\nx\n%%Page: 2 2\n%%PageMedia: A\nx\n%%Page: 3 3\n%%PageMedia: (A)\nx\n")
    ≡ Ok (points 842 1_191 ∷ points 595 842 ∷ points 595 842 ∷ [])
unfolding number_at
named_in_parentheses = refl

-- with blanks in them
named_with_blanks : own (codes "%!PS\n%%DocumentMedia: (US letter) 612 792 0 () ()\n%%+ (US legal) 612 1008 0 () ()\n%%Page: 1 1\n%%PageMedia: (US legal)\nx\n")
    ≡ Ok (points 612 1_008 ∷ [])
unfolding number_at
named_with_blanks = refl

-- or written in two ways
named_in_two_ways : own (codes "%!PS\n%%DocumentMedia: A 595 842 0 () ()\n%%+ (\\(n\\) m) 842 1191 0 () ()\n%%Page: 1 1\n%%PageMedia: ((n) m)\nx\n%%Page: 2 2\n%%PageMedia: (\\101)\nx\n%%Page: 3 3\n%%PageMedia: \\101\n%%PageBoundingBox: 0 0 72 71\nx\n")
    ≡ Ok (points 842 1_191 ∷ points 595 842 ∷ points 72 71 ∷ [])
unfolding number_at
named_in_two_ways = refl

-- as cairo writes it: in the page's setup, with a box of what is painted, which may begin at 0 0
painted_box : own (codes "%!PS\n%%DocumentMedia: A 595 842 0 () ()\n%%Page: 1 1\n%%BeginPageSetup\n%%PageMedia: A\n%%PageBoundingBox: 0 0 72 71\n%%EndPageSetup\nx\n")
    ≡ Ok (points 595 842 ∷ [])
unfolding number_at
painted_box = refl

-- a medium that the header hasn't says nothing, so the box does
unknown_medium : own (codes "%!PS\n%%DocumentMedia: A 595 842 0 () ()\n%%Page: 1 1\n%%PageMedia: C\n%%PageBoundingBox: 0 0 72 71\nx\n")
    ≡ Ok (points 72 71 ∷ [])
unfolding number_at
unknown_medium = refl

-- nor does a medium without a name
unnamed_medium : own (codes "%!PS\n%%DocumentMedia: A 595 842 0 () ()\n%%Page: 1 1\n%%PageMedia:\n%%PageBoundingBox: 0 0 72 71\nx\n")
    ≡ Ok (points 72 71 ∷ [])
unfolding number_at
unnamed_medium = refl

-- a box that begins at 0 0 is a paper, and another one isn't, if it lies within the document's
by_box : own (codes "%!PS\n%%DocumentMedia: A 595 842 0 () ()\n%%Page: 1 1\n%%PageBoundingBox: 0 0 842 595\nx\n%%Page: 2 2\n%%PageBoundingBox: 1 0 610 857\nx\n")
    ≡ Ok (points 842 595 ∷ points 595 842 ∷ [])
unfolding number_at
by_box = refl

-- one that reaches over the document's paper shows how large the page is
reaching_box : own (codes "%!PS\n%%Page: 1 1\n%%PageBoundingBox: 36 36 4760 512\nx\n%%Page: 2 2\n%%PageBoundingBox: 36 -1 4760 512\nx\n")
    ≡ Ok (points 4_796 548 ∷ home ∷ [])
unfolding number_at
reaching_box = refl

-- what follows the head isn't looked at, nor is an embedded document
behind_the_head : own (codes "%!PS\n%%Page: 1 1\nx\n%%PageBoundingBox: 0 0 842 595\n%%Page: 2 2\n%%BeginDocument: e\n%%PageBoundingBox: 0 0 842 595\n%%EndDocument\n")
    ≡ Ok (home ∷ home ∷ [])
unfolding number_at
behind_the_head = refl

-- ---- what a document says

by_name : own (codes "%!PS\n%%DocumentPaperSizes: foolscap A4 Letter\n%%BoundingBox: 0 0 72 72\n%%Page: 1 1\nx\n") ≡ Ok (points 595 842 ∷ [])
unfolding number_at
by_name = refl

by_name_in_parentheses : own (codes "%!PS\n%%DocumentPaperSizes: (foolscap) (A4)\n%%Page: 1 1\nx\n") ≡ Ok (points 595 842 ∷ [])
by_name_in_parentheses = refl

names_go_on : own (codes "%!PS\n%%DocumentPaperSizes: foolscap\n%%+ A4\n%%Page: 1 1\nx\n") ≡ Ok (points 595 842 ∷ [])
names_go_on = refl

medium_before_name : own (codes "%!PS\n%%DocumentPaperSizes: A4\n%%DocumentMedia: L 612 1008\n%%Page: 1 1\nx\n") ≡ Ok (points 612 1_008 ∷ [])
unfolding number_at
medium_before_name = refl

by_header_box : own (codes "%!PS\n%%BoundingBox: 0 0 300 400\n%%Page: 1 1\nx\n%%Trailer\n%%BoundingBox: 0 0 420 595\n%%EOF\n") ≡ Ok (points 300 400 ∷ [])
unfolding number_at
by_header_box = refl

-- a box that doesn't begin at 0 0 is a part of a page
no_header_box : own (codes "%!PS\n%%BoundingBox: 0 1 300 400\n%%Page: 1 1\nx\n") ≡ Ok (home ∷ [])
unfolding number_at
no_header_box = refl

in_the_trailer : own (codes "%!PS\n%%BoundingBox: (atend)\n%%Page: 1 1\nx\n%%Trailer\n%%BoundingBox: 0 0 420 595\n%%EOF\n") ≡ Ok (points 420 595 ∷ [])
unfolding number_at
in_the_trailer = refl

-- the trailer counts only if the header says so
not_in_the_trailer : own (codes "%!PS\n%%Page: 1 1\nx\n%%Trailer\n%%BoundingBox: 0 0 420 595\n%%EOF\n") ≡ Ok (home ∷ [])
unfolding number_at
not_in_the_trailer = refl

asked_for : (document_of (codes "%!PS\n%%Page: 1 1\n%%PageBoundingBox: 0 0 842 595\nx\n") >>= λ us. Ok (papers_of_each_page (Some (points 1 2)) paper_with_name home [] us))
    ≡ Ok (points 1 2 ∷ [])
asked_for = refl

-- ---- two papers

near_by_fifteen : counts_as_one (points 600 800) (points 615 785) ≡ true
near_by_fifteen = refl

apart_by_sixteen : counts_as_one (points 600 800) (points 600 816) ≡ false
apart_by_sixteen = refl

covers_both : smallest_cover (points 595 842) (points 842 595) ≡ points 842 842
covers_both = refl

smaller_is_covered : covers (points 842 595) (points 595 420) ≡ true
smaller_is_covered = refl

wider_is_not_covered : covers (points 595 842) (points 842 595) ≡ false
wider_is_not_covered = refl

higher_is_not_covered : covers (points 842 595) (points 595 842) ≡ false
higher_is_not_covered = refl

-- ---- sheets that report their paper

abbrev as_it_is : Item
as_it_is = record { page = 0; from_end = false; turn = Upright; scale = pos 1_000_000_000; x = record { number = pos 0; unit = Pt }; y = record { number = pos 0; unit = Pt } }

abbrev sheet : Paper → MadeSheet
sheet paper = record { paper = paper; slots = Placed 0 as_it_is paper ∷ Blank ∷ [] }

abbrev told : List MadeSheet → Result (List ℕ) DocumentFault
told all = document_of (codes "%!PS\n%%DocumentPaperSizes: A3\n%%+ A4\n%%BoundingBox: 0 0 9 9\n%%EndComments\n%%Page: 1 1\n%%PageMedia: A\nx\n%%EOF\n") >>= λ us. Ok (made_output None (reporting all) all us)

one_paper : told (sheet (points 842 595) ∷ sheet (points 842 595) ∷ [])
    ≡ Ok (codes "%!PS\n%%Pages: 2\n%%BoundingBox: 0 0 842 595\n%%DocumentMedia: Plain 842 595 0 () ()\n%%EndComments\n%%Page: 1 1\nuserdict /ImposeSave save put\nuserdict /showpage {} put\n[1 0 0 1 0 0] concat\nnewpath 0 0 moveto 842 0 lineto 842 595 lineto 0 595 lineto closepath clip newpath\nx\nImposeSave restore\nshowpage\n%%Page: 2 2\nuserdict /ImposeSave save put\nuserdict /showpage {} put\n[1 0 0 1 0 0] concat\nnewpath 0 0 moveto 842 0 lineto 842 595 lineto 0 595 lineto closepath clip newpath\nx\nImposeSave restore\nshowpage\n%%EOF\n")
unfolding digits
one_paper = refl

-- a box has whole numbers, rounded up; if the sides aren't whole, they come after it
whole_box : box_lines (points 842 595) ≡ codes "%%BoundingBox: 0 0 842 595" ∷ []
unfolding digits
whole_box = refl

exact_box : box_lines (record { width = pos 75_600_000_000_000; height = pos 106_920_000_000_000 })
    ≡ codes "%%BoundingBox: 0 0 596 842" ∷ codes "%%HiResBoundingBox: 0 0 595.27559 841.88976" ∷ []
unfolding digits
exact_box = refl

-- and they are found again, of one paper and of several
found_again : (told (sheet (points 842 595) ∷ sheet (points 842 595) ∷ []) >>= own) ≡ Ok (points 842 595 ∷ points 842 595 ∷ [])
unfolding digits number_at
found_again = refl

several_found_again : (told (sheet (points 842 595) ∷ sheet (points 420 595) ∷ sheet (points 842 595) ∷ []) >>= own)
    ≡ Ok (points 842 595 ∷ points 420 595 ∷ points 842 595 ∷ [])
unfolding digits number_at
several_found_again = refl
