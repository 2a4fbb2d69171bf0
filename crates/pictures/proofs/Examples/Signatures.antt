-- Three pages in a signature of four sides, two on a sheet, in a font that the setup sets; and the law applied to
-- this document.
use Rattle.std.proofs.Common.{◌≡◌, ℕ, zero, suc, List, [], ◌∷◌, refl, Some, false}
use Rattle.std.specs.Prelude.{codes, Ok, pos}
use Rattle.std.specs.Fmt.{digits}
use Rattle.rules.specs.Parts.{NestedUnit, preamble, bytes_of}
use Rattle.rules.specs.Specification.{Scaled, Spec, settled}
use Rattle.rules.proofs.Examples.Written.{item, written}
use Rattle.pictures.specs.Objects.{Number, Literal, Text, Plain, Font, Call}
use Rattle.pictures.specs.Machine.{State, Graphics, Clip, Painting, step}
use Rattle.pictures.specs.Sheets.{IsGround}
use Rattle.pictures.specs.Documents.{PreambleRuns, IsPrintedSheets, sheet_pictures, all_sheets}
use Rattle.pictures.specs.Unaware.{IsPlainGround, PagePrints, unaware_step}
use Rattle.pictures.proofs.Imposed.{sheets_show_the_pages}
use Rattle.pictures.proofs.Examples.TwoUp.{lines, call}
use Rattle.pictures.proofs.Examples.ByHand.{matrix, path, paper, edge, clip_to, by, in_order, prints}
use Rattle.pictures.proofs.Examples.Applied.{units, behind, bare_ground, bare, page_prints}

abbrev document : List ℕ
document = lines (
    codes "%!PS-Adobe-3.0"
    ∷ codes "%%EndComments"
    ∷ codes "/Courier findfont 9 scalefont setfont"
    ∷ codes "%%Page: 1 1"
    ∷ codes "10 20 moveto (One) show"
    ∷ codes "showpage"
    ∷ codes "%%Page: 2 2"
    ∷ codes "10 20 moveto (Two) show"
    ∷ codes "showpage"
    ∷ codes "%%Page: 3 3"
    ∷ codes "10 20 moveto (Three) show"
    ∷ codes "showpage"
    ∷ codes "%%EOF"
    ∷ [])

-- `2:0@.5+1@.5(100,0)`
abbrev two_up : Spec
two_up = settled (written 2 (
    (item false 0 (Scaled (pos 500_000_000) ∷ [])
    ∷ item false 1 (Scaled (pos 500_000_000) ∷ by 100 0 ∷ [])
    ∷ []) ∷ []))

abbrev left : Call
left = matrix (codes "0.5 0 0 0.5 0 0")

abbrev right : Call
right = matrix (codes "0.5 0 0 0.5 100 0")

abbrev font : Call
font = call (codes "setfont") (Font (Number (codes "9") ∷ Literal (codes "Courier") ∷ []) ∷ [])

abbrev word_in : List Call → List Clip → List ℕ → Painting
word_in chain clip text = record {
  call = call (codes "show") (Plain (Text text) ∷ []);
  graphics = record { chain = chain; path = path chain (codes "10 20 moveto" ∷ []); clip = clip; settings = font ∷ [] };
}

abbrev word_at : Call → List ℕ → Painting
word_at place text = word_in (place ∷ []) (clip_to (edge (place ∷ [])) ∷ []) text

-- outside on the leaf the fourth page, which is blank, and the first one; inside the second and the third
abbrev sheets : List (List Painting)
sheets =
    (word_at right (codes "One") ∷ [])
    ∷ (word_at left (codes "Two") ∷ word_at right (codes "Three") ∷ [])
    ∷ []

folded_once : prints document (Some 4) two_up paper ≡ Ok (Some sheets)
unfolding digits
folded_once = refl

-- The same by the law.

abbrev us : List NestedUnit
us = units document

abbrev ready : State
ready = behind (font ∷ []) []

plain : IsPlainGround ready
plain = bare (font ∷ []) refl

preamble_runs : PreambleRuns IsGround (bytes_of (preamble us)) ready
unfolding digits
preamble_runs = (refl, (5, refl), refl, refl, refl, bare_ground (font ∷ []) refl)

-- what each page prints by itself
abbrev picture : ℕ → List Painting
picture zero = word_in [] [] (codes "One") ∷ []
picture (suc zero) = word_in [] [] (codes "Two") ∷ []
picture (suc (suc p)) = word_in [] [] (codes "Three") ∷ []

abbrev behind_word : List ℕ → Graphics
behind_word text = record {
  chain = [];
  path =
      record { call = call (codes "show") (Plain (Text text) ∷ []); chain = []; settings = font ∷ [] }
      ∷ path [] (codes "10 20 moveto" ∷ []);
  clip = [];
  settings = font ∷ [];
}

first : PagePrints us ready 0 (picture 0)
unfolding digits
first = page_prints (step false) unaware_step us ready 0 5 (behind_word (codes "One")) (picture 0) plain refl refl refl refl refl refl

second : PagePrints us ready 1 (picture 1)
unfolding digits
second = page_prints (step false) unaware_step us ready 1 5 (behind_word (codes "Two")) (picture 1) plain refl refl refl refl refl refl

third : PagePrints us ready 2 (picture 2)
unfolding digits
third = page_prints (step false) unaware_step us ready 2 5 (behind_word (codes "Three")) (picture 2) plain refl refl refl refl refl refl

by_the_law : IsPrintedSheets paper (Some 4) two_up us picture ready
unfolding digits
by_the_law =
    sheets_show_the_pages paper (Some 4) two_up document us picture ready refl refl preamble_runs plain
    ((first, tt), ((second, (third, tt)), tt))

these_sheets : in_order (sheet_pictures paper.border us picture ready (all_sheets paper (Some 4) two_up us)) ≡ sheets
unfolding digits
these_sheets = refl
