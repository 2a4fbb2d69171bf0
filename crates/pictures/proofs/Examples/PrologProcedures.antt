-- Pages that draw, begin and end by procedures of a prolog, one of which calls showpage; and the law applied to
-- this document.
use Rattle.std.proofs.Common.{◌≡◌, ℕ, zero, suc, List, [], ◌∷◌, refl, Some, None, false, ◌∙◌}
use Rattle.std.specs.Prelude.{codes, Ok, pos}
use Rattle.std.specs.Fmt.{digits}
use Rattle.rules.specs.Parts.{NestedUnit, preamble, bytes_of}
use Rattle.rules.specs.Specification.{Scaled, Spec, settled}
use Rattle.rules.proofs.Examples.Written.{item, written}
use Rattle.pictures.specs.Objects.{Number, Name, Bound, Procedure, Call}
use Rattle.pictures.specs.Dictionaries.{DictionaryEntry}
use Rattle.pictures.specs.Machine.{State, Graphics, Clip, Painting, step}
use Rattle.pictures.specs.Sheets.{IsGround, sheet_names, in_userdict}
use Rattle.pictures.specs.Documents.{PreambleRuns, IsPrintedSheets, sheet_pictures, all_sheets}
use Rattle.pictures.specs.Unaware.{IsPlainGround, PagePrints, unaware_step}
use Rattle.pictures.proofs.Opening.{name_other, is_apart}
use Rattle.pictures.proofs.Imposed.{sheets_show_the_pages}
use Rattle.pictures.proofs.Examples.TwoUp.{lines}
use Rattle.pictures.proofs.Examples.ByHand.{says, matrix, path, paper, edge, clip_to, by, in_order, prints}
use Rattle.pictures.proofs.Examples.Applied.{units, behind, plain_ground, page_prints}

abbrev document : List ℕ
document = lines (
    codes "%!PS-Adobe-3.0"
    ∷ codes "%%EndComments"
    ∷ codes "/bop { gsave 2 2 scale } def"
    ∷ codes "/l { moveto lineto stroke } bind def"
    ∷ codes "/eop { grestore showpage } def"
    ∷ codes "%%Page: 1 1"
    ∷ codes "bop 1 2 3 4 l eop"
    ∷ codes "%%Page: 2 2"
    ∷ codes "bop 3 { 5 6 7 8 l } repeat eop"
    ∷ codes "%%EOF"
    ∷ [])

-- `2:1@.5+0@.5(100,0)`
abbrev exchanged : Spec
exchanged = settled (written 2 (
    (item false 1 (Scaled (pos 500_000_000) ∷ [])
    ∷ item false 0 (Scaled (pos 500_000_000) ∷ by 100 0 ∷ [])
    ∷ []) ∷ []))

abbrev left : Call
left = matrix (codes "0.5 0 0 0.5 0 0")

abbrev right : Call
right = matrix (codes "0.5 0 0 0.5 100 0")

abbrev line_in : List Call → List Clip → List ℕ → List ℕ → Painting
line_in place clip from to = record {
  call = says (codes "stroke");
  graphics = record {
    chain = says (codes "2 2 scale") ∷ place;
    path = path (says (codes "2 2 scale") ∷ place) (from ∷ to ∷ []);
    clip = clip;
    settings = [];
  };
}

-- the last point comes first
abbrev first_in : List Call → List Clip → Painting
first_in place clip = line_in place clip (codes "3 4 moveto") (codes "1 2 lineto")

abbrev second_in : List Call → List Clip → Painting
second_in place clip = line_in place clip (codes "7 8 moveto") (codes "5 6 lineto")

abbrev second_at : Call → Painting
second_at place = second_in (place ∷ []) (clip_to (edge (place ∷ [])) ∷ [])

-- the second page's line three times, then the first page's
abbrev sheets : List (List Painting)
sheets =
    (second_at left ∷ second_at left ∷ second_at left
    ∷ first_in (right ∷ []) (clip_to (edge (right ∷ [])) ∷ []) ∷ []) ∷ []

second_page_first : prints document None exchanged paper ≡ Ok (Some sheets)
unfolding digits
second_page_first = refl

-- The same by the law.

abbrev us : List NestedUnit
us = units document

-- what the prolog defines, the latest first
abbrev begins : DictionaryEntry
begins = in_userdict (codes "bop") (Procedure (
    Name (codes "gsave") ∷ Number (codes "2") ∷ Number (codes "2") ∷ Name (codes "scale") ∷ []))

abbrev draws : DictionaryEntry
draws = in_userdict (codes "l") (Procedure (
    Bound (codes "moveto") ∷ Bound (codes "lineto") ∷ Bound (codes "stroke") ∷ []))

abbrev ends : DictionaryEntry
ends = in_userdict (codes "eop") (Procedure (Name (codes "grestore") ∷ Name (codes "showpage") ∷ []))

abbrev prolog : List DictionaryEntry
prolog = ends ∷ draws ∷ begins ∷ []

abbrev ready : State
ready = behind [] prolog

ground : IsGround ready
ground = record {
  names = λ name h.
      name_other (0 ∷ []) ends (draws ∷ begins ∷ []) name (is_apart (codes "eop") name sheet_names refl h)
      ∙ name_other (0 ∷ []) draws (begins ∷ []) name (is_apart (codes "l") name sheet_names refl h)
      ∙ name_other (0 ∷ []) begins [] name (is_apart (codes "bop") name sheet_names refl h);
  operands = refl;
  dictionaries = refl;
  graphics = refl;
}

plain : IsPlainGround ready
plain = plain_ground [] prolog ground refl refl refl

preamble_runs : PreambleRuns IsGround (bytes_of (preamble us)) ready
unfolding digits
preamble_runs = (refl, (10, refl), refl, refl, refl, ground)

-- what each page prints by itself
abbrev picture : ℕ → List Painting
picture zero = first_in [] [] ∷ []
picture (suc p) = second_in [] [] ∷ second_in [] [] ∷ second_in [] [] ∷ []

abbrev as_before : Graphics
as_before = record { chain = []; path = []; clip = []; settings = [] }

first : PagePrints us ready 0 (picture 0)
unfolding digits
first = page_prints (step false) unaware_step us ready 0 15 as_before (picture 0) plain refl refl refl refl refl refl

second : PagePrints us ready 1 (picture 1)
unfolding digits
second = page_prints (step false) unaware_step us ready 1 34 as_before (picture 1) plain refl refl refl refl refl refl

by_the_law : IsPrintedSheets paper None exchanged us picture ready
unfolding digits
by_the_law = sheets_show_the_pages paper None exchanged document us picture ready refl refl preamble_runs plain ((second, (first, tt)), tt)

these_sheets : in_order (sheet_pictures paper.border us picture ready (all_sheets paper None exchanged us)) ≡ sheets
unfolding digits
these_sheets = refl
