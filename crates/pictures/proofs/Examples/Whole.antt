-- The law of whole outputs, applied to the document of two pages: its premises hold, and it says what was computed.
use Rattle.std.proofs.Common.{◌≡◌, ℕ, zero, suc, List, [], ◌∷◌, refl, None, true, false}
use Rattle.std.specs.Prelude.{codes}
use Rattle.std.specs.Fmt.{digits}
use Rattle.rules.specs.Parts.{NestedUnit, preamble, bytes_of}
use Rattle.rules.specs.Filters.{preamble_text}
use Rattle.pictures.specs.Objects.{Procedure, Bound}
use Rattle.pictures.specs.Machine.{State, Graphics, Painting, step}
use Rattle.pictures.specs.Scanner.{tokens}
use Rattle.pictures.specs.Sheets.{IsGround, sheet_names, running_alone, in_userdict, run_of}
use Rattle.pictures.specs.Documents.{IsPrintedSheets, document_page, body_of_page, PreambleRuns, PagePaints, sheet_pictures, all_sheets}
use Rattle.pictures.specs.Unaware.{IsPlainGround, PagePrints, unaware_step}
use Rattle.pictures.proofs.Kept.{kept_runs_alike}
use Rattle.pictures.proofs.Opening.{name_other, is_apart}
use Rattle.pictures.proofs.Imposed.{sheets_show_the_pages}
use Rattle.pictures.proofs.Output.{output_is_printed}
use Rattle.pictures.proofs.Examples.TwoUp.{document, two_up, frame, first_line, second_text, far}
use Rattle.pictures.proofs.Examples.Applied.{units, behind, plain_ground, page_prints}

abbrev us : List NestedUnit
us = units document

-- the state after the preamble
abbrev behind_preamble : State
behind_preamble = behind [] (in_userdict (codes "m") (Procedure (Bound (codes "moveto") ∷ [])) ∷ [])

ground : IsGround behind_preamble
ground = record {
  names = λ name h.
      name_other (0 ∷ []) (in_userdict (codes "m") (Procedure (Bound (codes "moveto") ∷ []))) [] name
      (is_apart (codes "m") name sheet_names refl h);
  operands = refl;
  dictionaries = refl;
  graphics = refl;
}

preamble_runs : PreambleRuns IsGround (preamble_text 1 us) behind_preamble
unfolding digits
preamble_runs = (refl, (4, refl), refl, refl, refl, ground)

abbrev end : ℕ → State
end p = far (step true) 100 (running_alone behind_preamble (tokens (body_of_page us p)))

abbrev picture : ℕ → List Painting
picture zero = (end 0).painted
picture (suc p) = (end 1).painted

first_page : PagePaints us behind_preamble 0 (picture 0)
unfolding digits
first_page = (
  refl,
  record {
    end = end 0;
    run = (13, refl);
    leaves = record { nothing_left = refl; operands = refl; dictionaries = refl; saves = refl; save_name = refl; restore_name = refl };
    picture_is = refl;
  },
)

second_page : PagePaints us behind_preamble 1 (picture 1)
unfolding digits
second_page = (
  refl,
  record {
    end = end 1;
    run = (17, refl);
    leaves = record { nothing_left = refl; operands = refl; dictionaries = refl; saves = refl; save_name = refl; restore_name = refl };
    picture_is = refl;
  },
)

two_pages_are_printed : IsPrintedSheets frame None two_up us picture behind_preamble
unfolding digits
two_pages_are_printed =
    output_is_printed frame None two_up us picture behind_preamble preamble_runs ((first_page, (second_page, tt)), tt)

-- and these are the pictures that were written by hand
these_pictures : sheet_pictures frame.border us picture behind_preamble (all_sheets frame None two_up us)
    ≡ (second_text ∷ first_line ∷ []) ∷ []
unfolding digits
these_pictures = refl

-- The same by what the pages print by themselves.

own_preamble_runs : PreambleRuns IsGround (bytes_of (preamble us)) behind_preamble
unfolding digits
own_preamble_runs = (refl, (4, refl), refl, refl, refl, ground)

plain : IsPlainGround behind_preamble
plain = plain_ground [] (in_userdict (codes "m") (Procedure (Bound (codes "moveto") ∷ [])) ∷ []) ground refl refl refl

-- at its showpage
abbrev at_showpage : ℕ → Graphics
at_showpage p = (far unaware_step 100 (run_of (tokens (document_page us p)) behind_preamble)).graphics

first_page_prints : PagePrints us behind_preamble 0 (picture 0)
unfolding digits
first_page_prints = page_prints (step false) unaware_step us behind_preamble 0 12 (at_showpage 0) (picture 0) plain refl refl refl refl refl refl

second_page_prints : PagePrints us behind_preamble 1 (picture 1)
unfolding digits
second_page_prints = page_prints (step false) unaware_step us behind_preamble 1 16 (at_showpage 1) (picture 1) plain refl refl refl refl refl refl

sheets_show_them : IsPrintedSheets frame None two_up us picture behind_preamble
unfolding digits
sheets_show_them =
    sheets_show_the_pages frame None two_up document us picture behind_preamble refl refl own_preamble_runs plain
    ((first_page_prints, (second_page_prints, tt)), tt)

-- What is kept of the first page has the page's tokens.

kept_alike : tokens (body_of_page us 0) ≡ tokens (document_page us 0)
unfolding digits
kept_alike = (kept_runs_alike (document_page us 0) refl refl).0
