-- Pages that are independent of one another, and pages that aren't. What one page sets or defines, and the next one
-- needs, is there when the document is run, and is missing when the page is placed.
use Rattle.std.proofs.Common.{◌≡◌, ℕ, zero, suc, ◌<◌, List, [], ◌∷◌, refl, ap, subst, Some, None, Bool, true, false}
use Rattle.std.proofs.Common.{◌&&◌, true≢false, map, length, arith}
use Rattle.std.specs.Prelude.{codes, Ok, option_map, bytes_eq}
use Rattle.std.specs.Fmt.{digits}
use Rattle.rules.specs.Units.{◌>>=◌}
use Rattle.rules.specs.Parts.{NestedUnit, pages, preamble, bytes_of}
use Rattle.pictures.specs.Objects.{Token, Name, Procedure, Call}
use Rattle.pictures.specs.Machine.{State, Painting, step}
use Rattle.pictures.specs.Scanner.{tokens}
use Rattle.pictures.specs.Sheets.{run_of, in_userdict}
use Rattle.pictures.specs.Documents.{started, document_page, IsPrintedSheets}
use Rattle.pictures.specs.DocumentRun.{ComesTo, PrintsSheet, pages_before, PagesAreIndependent, PreambleComesTo, DocumentPrints}
use Rattle.pictures.specs.Unaware.{PagePrints}
use Rattle.pictures.proofs.EndsOnce.{ends_once, one_picture}
use Rattle.pictures.proofs.DocumentRun.{come_none, sheets_show_the_document}
use Rattle.pictures.proofs.Examples.TwoUp.{far, count}
use Rattle.pictures.proofs.Examples.Premises.{half, document_with, own_sheets, sheets_by}
use Rattle.pictures.proofs.Examples.ByHand.{paper}
use Rattle.pictures.proofs.Examples.PagesTogether.{defines_and_uses}
use Rattle.pictures.proofs.Examples.Applied.{units, behind}
use Rattle.pictures.proofs.Examples.OnTwoSheets as TwoSheets

-- the state after these tokens, and the last sheet that is printed there
abbrev state_behind : State → List Token → State
state_behind s ts = far (step false) 200 (run_of ts s)

abbrev last_of : List (List Painting) → List Painting
last_of [] = []
last_of (sheet ∷ sheets) = sheet

abbrev printed_from : State → List Token → List Painting
printed_from s ts = last_of (state_behind s ts).sheets

-- if two pages print the same picture from two states, it may be any
same_from :
    (s u : State) (ts : List Token) (known : List Painting) → PrintsSheet s ts known → PrintsSheet u ts known
    → (picture : List Painting) → PrintsSheet s ts picture → PrintsSheet u ts picture
same_from s u ts known a b picture c = subst (PrintsSheet u ts) (one_picture s ts known picture a c) b

-- a document of two pages: it has to be shown that the second one prints the same after the first one
two_are_independent :
    (us : List NestedUnit) (s r : State) (known : List Painting) → length (pages us) ≡ 2
    → ComesTo s (pages_before us 1) r → PrintsSheet s (tokens (document_page us 1)) known
    → PrintsSheet r (tokens (document_page us 1)) known → PagesAreIndependent us s
two_are_independent us s r known e come a b zero u picture h c d =
    subst (λ v. PrintsSheet v (tokens (document_page us 0)) picture) (ends_once s [] (run_of [] s) u (come_none s) c) d
two_are_independent us s r known e come a b (suc zero) u picture h c d =
    subst (λ v. PrintsSheet v (tokens (document_page us 1)) picture) (ends_once s (pages_before us 1) r u come c)
    (same_from s r (tokens (document_page us 1)) known a b picture d)
two_are_independent us s r known e come a b (suc (suc p)) u picture h c d = absurd (omega (arith, h, e))

-- the second page prints something else after the first one: the pages aren't independent
two_hang_together :
    (us : List NestedUnit) (s r : State) (here there : List Painting) → length (pages us) ≡ 2
    → ComesTo s (pages_before us 1) r → PrintsSheet s (tokens (document_page us 1)) here
    → PrintsSheet r (tokens (document_page us 1)) there → PagesAreIndependent us s → here ≡ there
two_hang_together us s r here there e come a b same =
    one_picture r (tokens (document_page us 1)) here there (same 1 r here (omega (arith, e)) come a) b

-- Met: page 1 sets a grey, which `showpage` resets.

page_behind : ComesTo TwoSheets.ready (pages_before TwoSheets.us 1) (state_behind TwoSheets.ready (pages_before TwoSheets.us 1))
page_behind = ((count (step false) 200 (run_of (pages_before TwoSheets.us 1) TwoSheets.ready), refl), refl)

second_first : PrintsSheet TwoSheets.ready (tokens (document_page TwoSheets.us 1)) (TwoSheets.picture 1)
second_first =
    (state_behind TwoSheets.ready (tokens (document_page TwoSheets.us 1)), ((8, refl), refl), refl, refl)

second_behind : PrintsSheet (state_behind TwoSheets.ready (pages_before TwoSheets.us 1)) (tokens (document_page TwoSheets.us 1)) (TwoSheets.picture 1)
second_behind =
    (state_behind (state_behind TwoSheets.ready (pages_before TwoSheets.us 1)) (tokens (document_page TwoSheets.us 1)), ((8, refl), refl), refl, refl)

independent : PagesAreIndependent TwoSheets.us TwoSheets.ready
independent = two_are_independent TwoSheets.us TwoSheets.ready
    (state_behind TwoSheets.ready (pages_before TwoSheets.us 1)) (TwoSheets.picture 1) refl page_behind second_first second_behind

-- so the document prints its two pictures, and the output shows each of them twice
printed_and_shown :
    DocumentPrints TwoSheets.document TwoSheets.us TwoSheets.picture
    × IsPrintedSheets paper None TwoSheets.twice TwoSheets.us TwoSheets.picture TwoSheets.ready
unfolding digits
printed_and_shown =
    sheets_show_the_document paper None TwoSheets.twice TwoSheets.document TwoSheets.us TwoSheets.picture TwoSheets.ready
    refl refl TwoSheets.preamble_runs TwoSheets.plain each_prints independent
  where
    each_prints : (p : ℕ) → p < 2 → PagePrints TwoSheets.us TwoSheets.ready p (TwoSheets.picture p)
    each_prints zero h = TwoSheets.first
    each_prints (suc zero) h = TwoSheets.second
    each_prints (suc (suc p)) h = absurd (omega (arith, h))

-- Unmet: page 1 redefines a procedure that page 2 uses.

abbrev painted_by : List Painting → List (List ℕ)
painted_by ps = map (λ p. p.call.name) ps

abbrev prolog : List ℕ
prolog = codes "/paint {stroke} def"

abbrev defining : List NestedUnit
defining = units (document_with prolog defines_and_uses)

abbrev ready : State
ready = behind [] (in_userdict (codes "paint") (Procedure (Name (codes "stroke") ∷ [])) ∷ [])

prolog_runs : PreambleComesTo (bytes_of (preamble defining)) ready
prolog_runs = (refl, ((3, refl), refl), refl, refl)

abbrev behind_first : State
behind_first = state_behind ready (pages_before defining 1)

paint_alone : PrintsSheet ready (tokens (document_page defining 1)) (printed_from ready (tokens (document_page defining 1)))
paint_alone = (state_behind ready (tokens (document_page defining 1)), ((count (step false) 200 (run_of (tokens (document_page defining 1)) ready), refl), refl), refl, refl)

paint_behind : PrintsSheet behind_first (tokens (document_page defining 1)) (printed_from behind_first (tokens (document_page defining 1)))
paint_behind = (
  state_behind behind_first (tokens (document_page defining 1)),
  ((count (step false) 200 (run_of (tokens (document_page defining 1)) behind_first), refl), refl),
  refl,
  refl,
)

-- the page strokes after the preamble, and fills after page 1. So it fills in the document, and strokes in the
-- output: `painted_alike` and `painted_otherwise` of PagesTogether
by_stroke : painted_by (printed_from ready (tokens (document_page defining 1))) ≡ codes "stroke" ∷ []
by_stroke = refl

by_fill : painted_by (printed_from behind_first (tokens (document_page defining 1))) ≡ codes "fill" ∷ []
by_fill = refl

abbrev are_strokes : List Painting → Bool
are_strokes [] = true
are_strokes (p ∷ ps) = bytes_eq p.call.name (codes "stroke") && are_strokes ps

defining_is_not_independent : PagesAreIndependent defining ready → ⊥
defining_is_not_independent same =
    true≢false (ap are_strokes (two_hang_together defining ready behind_first (printed_from ready (tokens (document_page defining 1)))
    (printed_from behind_first (tokens (document_page defining 1))) refl ((count (step false) 200 (run_of (pages_before defining 1) ready), refl), refl)
    paint_alone paint_behind same))

-- Unmet: page 1 selects a font, which `showpage` leaves, and page 2 shows a text in it.

abbrev selects_and_shows : List (List ℕ)
selects_and_shows = codes "/Courier 9 selectfont 0 0 moveto (one) show" ∷ codes "0 0 moveto (two) show" ∷ []

abbrev selecting : List NestedUnit
selecting = units (document_with [] selects_and_shows)

abbrev behind_font : State
behind_font = state_behind (started []) (pages_before selecting 1)

abbrev fonts_of : List Painting → List (List (List ℕ))
fonts_of ps = map (λ p. map (λ c. c.name) p.graphics.settings) ps

show_alone : PrintsSheet (started []) (tokens (document_page selecting 1)) (printed_from (started []) (tokens (document_page selecting 1)))
show_alone = (
  state_behind (started []) (tokens (document_page selecting 1)),
  ((count (step false) 200 (run_of (tokens (document_page selecting 1)) (started [])), refl), refl),
  refl,
  refl,
)

show_behind : PrintsSheet behind_font (tokens (document_page selecting 1)) (printed_from behind_font (tokens (document_page selecting 1)))
show_behind = (
  state_behind behind_font (tokens (document_page selecting 1)),
  ((count (step false) 200 (run_of (tokens (document_page selecting 1)) behind_font), refl), refl),
  refl,
  refl,
)

abbrev none_is_set : List Painting → Bool
none_is_set [] = true
none_is_set (p ∷ ps) = no_call p.graphics.settings
  where
    no_call : List Call → Bool
    no_call [] = true
    no_call (c ∷ cs) = false

selecting_is_not_independent : PagesAreIndependent selecting (started []) → ⊥
selecting_is_not_independent same =
    true≢false (ap none_is_set (two_hang_together selecting (started []) behind_font (printed_from (started []) (tokens (document_page selecting 1)))
    (printed_from behind_font (tokens (document_page selecting 1))) refl ((count (step false) 200 (run_of (pages_before selecting 1) (started [])), refl), refl)
    show_alone show_behind same))

-- the document has a font on both pages; in the output, page 2 has none
font_on_both : option_map (map fonts_of) (own_sheets [] selects_and_shows)
    ≡ Some (((codes "selectfont" ∷ []) ∷ []) ∷ ((codes "selectfont" ∷ []) ∷ []) ∷ [])
font_on_both = refl

font_on_the_first :
    (sheets_by half [] selects_and_shows >>= λ sheets. Ok (option_map (map fonts_of) sheets))
    ≡ Ok (Some (([] ∷ []) ∷ ((codes "selectfont" ∷ []) ∷ []) ∷ []))
unfolding digits
font_on_the_first = refl
