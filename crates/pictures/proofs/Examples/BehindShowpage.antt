-- Pages on which something follows showpage: `restore`, `end`; and one that leaves its save. The law applied to
-- this document.
use Rattle.std.proofs.Common.{ℕ, zero, suc, List, [], ◌∷◌, refl, None, false}
use Rattle.std.specs.Prelude.{codes}
use Rattle.std.specs.Fmt.{digits}
use Rattle.rules.specs.Parts.{NestedUnit, preamble, bytes_of}
use Rattle.pictures.specs.Objects.{Name, Procedure}
use Rattle.pictures.specs.Machine.{State, Painting, shipped, step}
use Rattle.pictures.specs.Scanner.{tokens}
use Rattle.pictures.specs.Sheets.{IsGround, run_of}
use Rattle.pictures.specs.Documents.{document_page, PreambleRuns, IsPrintedSheets}
use Rattle.pictures.specs.Unaware.{IsPlainGround, PagePrints, unaware_step}
use Rattle.pictures.proofs.Own.{nothing_behind}
use Rattle.pictures.proofs.Imposed.{sheets_show_the_pages}
use Rattle.pictures.proofs.Examples.Premises.{half, frame}
use Rattle.pictures.proofs.Examples.TwoUp.{lines, far, count}
use Rattle.pictures.proofs.Examples.OnTwoSheets.{line_in}
use Rattle.pictures.proofs.Examples.Applied.{units, behind, bare_ground, bare}

abbrev document : List ℕ
document = lines (
    codes "%!PS-Adobe-3.0"
    ∷ codes "%%EndComments"
    ∷ codes "%%Page: 1 1"
    ∷ codes "save 10 20 moveto 0 40 rlineto stroke showpage restore"
    ∷ codes "%%Page: 2 2"
    ∷ codes "1 dict begin /x {moveto} def 10 20 x 40 0 rlineto stroke showpage end"
    ∷ codes "%%Page: 3 3"
    ∷ codes "/s save def 10 20 moveto 40 40 rlineto stroke"
    ∷ codes "showpage"
    ∷ codes "%%EOF"
    ∷ [])

abbrev us : List NestedUnit
us = units document

abbrev ready : State
ready = behind [] []

plain : IsPlainGround ready
plain = bare [] refl

preamble_runs : PreambleRuns IsGround (bytes_of (preamble us)) ready
preamble_runs = (refl, (0, refl), refl, refl, refl, bare_ground [] refl)

-- as far as a machine gets that uses none of the sheet's names

abbrev at_showpage : ℕ → State
at_showpage p = far unaware_step 100 (run_of (tokens (document_page us p)) ready)

first : PagePrints us ready 0 (at_showpage 0).painted
first = (
  refl,
  refl,
  record {
    at = at_showpage 0;
    count = count unaware_step 100 (run_of (tokens (document_page us 0)) ready);
    run = refl;
    after = Name (codes "restore") ∷ [];
    last = refl;
    has_userdict = refl;
    showpage = refl;
    picture_is = refl;
    ends = record {
      printed = far unaware_step 9 (shipped (run_of (Name (codes "restore") ∷ []) (at_showpage 0)));
      printed_run = (1, refl);
      printed_left = refl;
      printed_nothing = refl;
      printed_once = refl;
      placed = far unaware_step 9 (run_of (Name (codes "restore") ∷ []) (at_showpage 0));
      count = 1;
      placed_run = refl;
      placed_left = refl;
      placed_nothing = refl;
      operands = refl;
      dictionaries = refl;
      saves = refl;
      save_name = refl;
      restore_name = refl;
    };
  },
)

-- page 2 at its showpage, with its dictionary open; and after `end`
abbrev line : Painting
line = line_in [] [] [] (codes "40 0 rlineto")

abbrev with_dictionaries : List ℕ → State
with_dictionaries ds = record ready {
  work = record {
    operands = [];
    dictionaries = ds;
    entries = record { dictionary = 1; key = codes "x"; value = Procedure (Name (codes "moveto") ∷ []) } ∷ [];
    made = 1;
  };
}

abbrev second_at_showpage : State
second_at_showpage = record (with_dictionaries (1 ∷ 0 ∷ [])) {
  left = Name (codes "showpage") ∷ Name (codes "end") ∷ [];
  painted = line ∷ [];
}

second : PagePrints us ready 1 (line ∷ [])
second = (
  refl,
  refl,
  record {
    at = second_at_showpage;
    count = 14;
    run = refl;
    after = Name (codes "end") ∷ [];
    last = refl;
    has_userdict = refl;
    showpage = refl;
    picture_is = refl;
    ends = record {
      printed = record (with_dictionaries (0 ∷ [])) { sheets = (line ∷ []) ∷ [] };
      printed_run = (1, refl);
      printed_left = refl;
      printed_nothing = refl;
      printed_once = refl;
      placed = record (with_dictionaries (0 ∷ [])) { painted = line ∷ [] };
      count = 1;
      placed_run = refl;
      placed_left = refl;
      placed_nothing = refl;
      operands = refl;
      dictionaries = refl;
      saves = refl;
      save_name = refl;
      restore_name = refl;
    };
  },
)

third : PagePrints us ready 2 (at_showpage 2).painted
third = (
  refl,
  refl,
  record {
    at = at_showpage 2;
    count = count unaware_step 100 (run_of (tokens (document_page us 2)) ready);
    run = refl;
    after = [];
    last = refl;
    has_userdict = refl;
    showpage = refl;
    picture_is = refl;
    ends = nothing_behind (step false) unaware_step ready (at_showpage 2) refl refl refl refl refl;
  },
)

abbrev picture : ℕ → List Painting
picture zero = (at_showpage 0).painted
picture (suc zero) = line ∷ []
picture (suc (suc p)) = (at_showpage 2).painted

by_the_law : IsPrintedSheets frame None half us picture ready
unfolding digits
by_the_law =
    sheets_show_the_pages frame None half document us picture ready refl refl preamble_runs plain
    ((first, tt), ((second, tt), ((third, tt), tt)))
