-- The law on sheets of one paper, at the guarded document of two pages: both pages on one sheet, in the other order, and the
-- first one on a second sheet, beside a blank place, twice as large as the paper of the pages.
use Rattle.std.proofs.Common.{◌≡◌, List, [], ◌∷◌, refl, None, false, arith}
use Rattle.std.specs.Prelude.{codes, ℤ, pos, ◌*ℤ◌}
use Rattle.std.specs.Fmt.{digits}
use Rattle.rules.specs.Papers.{Paper, Pt, points}
use Rattle.rules.specs.Specification.{Item, Upright}
use Rattle.rules.specs.Made.{Blank, Placed, MadeSheet}
use Rattle.dsc.specs.Units.{units_of}
use Rattle.guard.specs.Guard.{guarded}
use Rattle.papers.specs.Reported.{reporting}
use Rattle.pictures.specs.Imposed.{is_comment_line, MadeIsPrinted}
use Rattle.pictures.proofs.GuardedImposed.{one_paper_is_reported_as_one, made_document_is_shown}
use Rattle.pictures.proofs.Examples.GuardedApplied.{paper, text, us, behind, preamble_runs, picture, first_page, second_page}

-- moved by so many points to the right
abbrev pub stands : (x : ℤ) → Item
stands x = record { page = 0; from_end = false; turn = Upright; scale = pos 1_000_000_000; x = record { number = x *ℤ pos 1_000_000_000; unit = Pt }; y = record { number = pos 0; unit = Pt } }

abbrev pub wide : Paper
wide = points 400 300

abbrev pub own : Paper
own = points 200 300

abbrev all : List MadeSheet
all =
    record { paper = wide; slots = Placed 1 (stands (pos 0)) own ∷ Placed 0 (stands (pos 200)) own ∷ [] }
    ∷ record { paper = wide; slots = Blank ∷ Placed 0 (stands (pos 200)) own ∷ [] } ∷ []

-- the lines by which they report their paper
told : (reporting all).header ≡ codes "%%BoundingBox: 0 0 400 300" ∷ codes "%%DocumentMedia: Plain 400 300 0 () ()" ∷ []
unfolding digits
told = refl

-- so the sheets show the pages
shown : MadeIsPrinted None (reporting all) all (units_of (guarded paper text)) picture behind
unfolding digits
shown = made_document_is_shown paper None all text us picture behind (one_paper_is_reported_as_one wide all (refl, (refl, tt))) refl (omega arith) refl preamble_runs ((second_page, (first_page, tt)), ((first_page, tt), tt))

-- a line that would be run isn't one that may be added; nor one that a form feed ends
run : is_comment_line (codes "BoundingBox: 0 0 400 300") ≡ false
run = refl

broken : is_comment_line (37 ∷ 12 ∷ codes "showpage") ≡ false
broken = refl
