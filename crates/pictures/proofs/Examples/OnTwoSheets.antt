-- Each page on two sheets, one after the other; and the law applied to this document.
use Rattle.std.proofs.Common.{◌≡◌, ℕ, zero, suc, List, [], ◌∷◌, refl, Some, None, false}
use Rattle.std.specs.Prelude.{codes, Ok}
use Rattle.std.specs.Fmt.{digits}
use Rattle.rules.specs.Parts.{NestedUnit, preamble, bytes_of}
use Rattle.rules.specs.Specification.{Spec, settled}
use Rattle.rules.proofs.Examples.Written.{item, written}
use Rattle.pictures.specs.Objects.{Call}
use Rattle.pictures.specs.Machine.{State, Graphics, Clip, Painting, step}
use Rattle.pictures.specs.Sheets.{IsGround}
use Rattle.pictures.specs.Documents.{PreambleRuns, IsPrintedSheets, sheet_pictures, all_sheets}
use Rattle.pictures.specs.Unaware.{IsPlainGround, PagePrints, unaware_step}
use Rattle.pictures.proofs.Imposed.{sheets_show_the_pages}
use Rattle.pictures.proofs.Examples.TwoUp.{lines}
use Rattle.pictures.proofs.Examples.ByHand.{says, matrix, path, paper, edge, clip_to, in_order, prints}
use Rattle.pictures.proofs.Examples.Applied.{units, behind, bare_ground, bare, page_prints}

abbrev pub document : List ℕ
document = lines (
    codes "%!PS-Adobe-3.0"
    ∷ codes "%%EndComments"
    ∷ codes "%%Page: 1 1"
    ∷ codes ".5 setgray 10 20 moveto 0 40 rlineto stroke"
    ∷ codes "showpage"
    ∷ codes "%%Page: 2 2"
    ∷ codes "10 20 moveto 40 0 rlineto stroke"
    ∷ codes "showpage"
    ∷ codes "%%EOF"
    ∷ [])

-- `0,0`
abbrev pub twice : Spec
twice = settled (written 1 ((item false 0 [] ∷ []) ∷ (item false 0 [] ∷ []) ∷ []))

abbrev place : Call
place = matrix (codes "1 0 0 1 0 0")

abbrev pub line_in : List Call → List Clip → List Call → List ℕ → Painting
line_in chain clip settings to = record {
  call = says (codes "stroke");
  graphics = record {
    chain = chain;
    path = path chain (codes "10 20 moveto" ∷ to ∷ []);
    clip = clip;
    settings = settings;
  };
}

abbrev gray : List Call
gray = says (codes ".5 setgray") ∷ []

abbrev first_line : Painting
first_line = line_in (place ∷ []) (clip_to (edge (place ∷ [])) ∷ []) gray (codes "0 40 rlineto")

abbrev second_line : Painting
second_line = line_in (place ∷ []) (clip_to (edge (place ∷ [])) ∷ []) [] (codes "40 0 rlineto")

abbrev sheets : List (List Painting)
sheets = (first_line ∷ []) ∷ (first_line ∷ []) ∷ (second_line ∷ []) ∷ (second_line ∷ []) ∷ []

each_page_twice : prints document None twice paper ≡ Ok (Some sheets)
unfolding digits
each_page_twice = refl

-- The same by the law.

abbrev pub us : List NestedUnit
us = units document

abbrev pub ready : State
ready = behind [] []

pub plain : IsPlainGround ready
plain = bare [] refl

pub preamble_runs : PreambleRuns IsGround (bytes_of (preamble us)) ready
unfolding digits
preamble_runs = (refl, (0, refl), refl, refl, refl, bare_ground [] refl)

-- what each page prints by itself
abbrev pub picture : ℕ → List Painting
picture zero = line_in [] [] gray (codes "0 40 rlineto") ∷ []
picture (suc p) = line_in [] [] [] (codes "40 0 rlineto") ∷ []

abbrev set_to : List Call → Graphics
set_to settings = record { chain = []; path = []; clip = []; settings = settings }

pub first : PagePrints us ready 0 (picture 0)
unfolding digits
first = page_prints (step false) unaware_step us ready 0 9 (set_to gray) (picture 0) plain refl refl refl refl refl refl

pub second : PagePrints us ready 1 (picture 1)
unfolding digits
second = page_prints (step false) unaware_step us ready 1 7 (set_to []) (picture 1) plain refl refl refl refl refl refl

by_the_law : IsPrintedSheets paper None twice us picture ready
unfolding digits
by_the_law =
    sheets_show_the_pages paper None twice document us picture ready refl refl preamble_runs plain
    ((first, tt), ((first, tt), ((second, tt), ((second, tt), tt))))

these_sheets : in_order (sheet_pictures paper.border us picture ready (all_sheets paper None twice us)) ≡ sheets
unfolding digits
these_sheets = refl
