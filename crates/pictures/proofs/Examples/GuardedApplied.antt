-- The law at a guarded document of two pages: its premises hold.
use Rattle.std.proofs.Common.{ℕ, zero, suc, List, [], ◌∷◌, ◌++◌, refl, Some, None, arith}
use Rattle.std.specs.Prelude.{codes, Option}
use Rattle.std.specs.Fmt.{digits}
use Rattle.rules.specs.Papers.{Paper, points}
use Rattle.rules.specs.Parts.{NestedUnit, preamble, bytes_of}
use Rattle.dsc.specs.Units.{units_of}
use Rattle.guard.specs.Guard.{guarded}
use Rattle.pictures.specs.Objects.{Token, Procedure, Name}
use Rattle.pictures.specs.Machine.{State, Painting}
use Rattle.pictures.specs.Scanner.{tokens}
use Rattle.pictures.specs.Sheets.{in_userdict}
use Rattle.pictures.specs.Documents.{document_page, PreambleRuns, IsPrintedSheets}
use Rattle.pictures.proofs.Examples.TwoUp.{far}
use Rattle.pictures.proofs.Examples.Premises.{document_with, half, frame, stroke}
use Rattle.pictures.proofs.Examples.Applied.{units}
use Rattle.pictures.specs.AfterGuard.{after_guard}
use Rattle.pictures.specs.Shelter.{Outer, sheltered, step_sheltered}
use Rattle.pictures.specs.Pages.{IsGuarded, defined, GuardedPagePaints, outline_of}
use Rattle.pictures.proofs.Ground.{guard_is_enough, stays_guarded}
use Rattle.pictures.proofs.Documents.{guarded_document_is_shown}

abbrev pub paper : Option Paper
paper = Some (points 200 300)

-- the first page resets, its clip again while there is a path, and prints by a procedure that was bound; the second takes back
-- what it didn't push
abbrev pub text : List ℕ
text = document_with (codes "/e {showpage} bind def") (codes "initgraphics 0 0 moveto 9 9 lineto initclip stroke e" ∷ (codes "grestore " ++ stroke) ∷ [])

abbrev pub us : List NestedUnit
us = units text

-- after the preamble
abbrev pub behind : State
behind = defined (in_userdict (codes "e") (Procedure (Name (codes "showpage") ∷ []))) (after_guard paper [])

pub guarded_behind : IsGuarded behind
guarded_behind = stays_guarded (after_guard paper []) (in_userdict (codes "e") (Procedure (Name (codes "showpage") ∷ []))) (guard_is_enough paper []) refl

pub preamble_runs : PreambleRuns IsGuarded (bytes_of (preamble (units_of (guarded paper text)))) behind
unfolding digits
preamble_runs = (refl, (268, refl), refl, refl, refl, guarded_behind)

-- within these pages, on a paper with this outline
abbrev pub at_most : List Outer → List Token → ℕ → State → State
at_most outers outline n s = far (λ t. step_sheltered outers outline t.left t) n s

abbrev end : ℕ → State
end zero = at_most [] (outline_of frame) 12 (sheltered [] behind (outline_of frame) (tokens (document_page us 0)))
end (suc p) = at_most [] (outline_of frame) 9 (sheltered [] behind (outline_of frame) (tokens (document_page us 1)))

abbrev pub picture : ℕ → List Painting
picture p = (end p).painted

pub first_page : GuardedPagePaints frame us behind 0 (picture 0)
unfolding digits
first_page = (
  refl,
  refl,
  record {
    end = end 0;
    run = (12, refl);
    leaves = record { nothing_left = refl; operands = refl; dictionaries = refl; saves = refl; save_name = refl; restore_name = refl };
    picture_is = refl;
  },
)

pub second_page : GuardedPagePaints frame us behind 1 (picture 1)
unfolding digits
second_page = (
  refl,
  refl,
  record {
    end = end 1;
    run = (9, refl);
    leaves = record { nothing_left = refl; operands = refl; dictionaries = refl; saves = refl; save_name = refl; restore_name = refl };
    picture_is = refl;
  },
)

-- so the sheets show both pages
shown : IsPrintedSheets frame None half (units_of (guarded paper text)) picture behind
unfolding digits
shown = guarded_document_is_shown paper frame None half text us picture behind refl (omega arith) refl preamble_runs ((first_page, tt), ((second_page, tt), tt))
