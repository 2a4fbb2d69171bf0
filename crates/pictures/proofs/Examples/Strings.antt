-- Strings with parentheses in pairs and after a backslash, with a percent sign and a brace; a comment with a
-- parenthesis that nothing closes; and the law applied to this document.
use Rattle.std.proofs.Common.{◌≡◌, ℕ, List, [], ◌∷◌, refl, Some, None, false, reverse}
use Rattle.std.specs.Prelude.{codes, Ok}
use Rattle.std.specs.Fmt.{digits}
use Rattle.rules.specs.Parts.{NestedUnit, preamble, bytes_of}
use Rattle.rules.specs.Specification.{Spec, settled}
use Rattle.rules.proofs.Examples.Written.{item, written}
use Rattle.pictures.specs.Objects.{Text, Plain, Call}
use Rattle.pictures.specs.Machine.{State, Segment, Clip, Graphics, Painting, step}
use Rattle.pictures.specs.Sheets.{IsGround}
use Rattle.pictures.specs.Documents.{PreambleRuns, IsPrintedSheets, sheet_pictures, all_sheets}
use Rattle.pictures.specs.Unaware.{IsPlainGround, PagePrints, unaware_step}
use Rattle.pictures.proofs.Imposed.{sheets_show_the_pages}
use Rattle.pictures.proofs.Examples.TwoUp.{lines, call}
use Rattle.pictures.proofs.Examples.ByHand.{matrix, path, paper, edge, clip_to, by, in_order, prints}
use Rattle.pictures.proofs.Examples.Applied.{units, behind, bare_ground, bare, page_prints}

abbrev document : List ℕ
document = lines (
    codes "%!PS-Adobe-3.0"
    ∷ codes "%%EndComments"
    ∷ codes "%%Page: 1 1"
    ∷ codes "1 2 moveto (a (b) 50% {) show % and (so on"
    ∷ codes "(\\) \\\\) show"
    ∷ codes "()show"
    ∷ codes "showpage"
    ∷ codes "%%EOF"
    ∷ [])

-- `0(30,40)`
abbrev moved : Spec
moved = settled (written 1 ((item false 0 (by 30 40 ∷ []) ∷ []) ∷ []))

abbrev place : Call
place = matrix (codes "1 0 0 1 30 40")

abbrev show : List ℕ → Call
show text = call (codes "show") (Plain (Text text) ∷ [])

-- shown after these
abbrev text_in : List Call → List Clip → List ℕ → List Segment → Painting
text_in chain clip text before = record {
  call = show text;
  graphics = record { chain = chain; path = before; clip = clip; settings = [] };
}

-- the current point is where the text before it ends
abbrev shown : List Call → List ℕ → List Segment → List Segment
shown chain text before = record { call = show text; chain = chain; settings = [] } ∷ before

abbrev start : List Call → List Segment
start chain = path chain (codes "1 2 moveto" ∷ [])

abbrev pairs : List ℕ
pairs = codes "a (b) 50% {"

-- a backslash is in the text together with the next character
abbrev escapes : List ℕ
escapes = codes "\\) \\\\"

abbrev texts_in : List Call → List Clip → List Painting
texts_in chain clip =
    text_in chain clip pairs (start chain)
    ∷ text_in chain clip escapes (shown chain pairs (start chain))
    ∷ text_in chain clip [] (shown chain escapes (shown chain pairs (start chain)))
    ∷ []

abbrev sheets : List (List Painting)
sheets = texts_in (place ∷ []) (clip_to (edge (place ∷ [])) ∷ []) ∷ []

three_texts : prints document None moved paper ≡ Ok (Some sheets)
unfolding digits
three_texts = refl

-- The same by the law.

abbrev us : List NestedUnit
us = units document

abbrev ready : State
ready = behind [] []

plain : IsPlainGround ready
plain = bare [] refl

preamble_runs : PreambleRuns IsGround (bytes_of (preamble us)) ready
unfolding digits
preamble_runs = (refl, (0, refl), refl, refl, refl, bare_ground [] refl)

-- what the page prints by itself
abbrev picture : ℕ → List Painting
picture p = reverse (texts_in [] [])

abbrev at_the_end : Graphics
at_the_end = record {
  chain = [];
  path = shown [] [] (shown [] escapes (shown [] pairs (start [])));
  clip = [];
  settings = [];
}

page : PagePrints us ready 0 (picture 0)
unfolding digits
page = page_prints (step false) unaware_step us ready 0 9 at_the_end (picture 0) plain refl refl refl refl refl refl

by_the_law : IsPrintedSheets paper None moved us picture ready
unfolding digits
by_the_law = sheets_show_the_pages paper None moved document us picture ready refl refl preamble_runs plain ((page, tt), tt)

these_sheets : in_order (sheet_pictures paper.border us picture ready (all_sheets paper None moved us)) ≡ sheets
unfolding digits
these_sheets = refl
