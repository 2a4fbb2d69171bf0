-- The law at a document of two pages that has a showpage of its own, which does nothing, in a dictionary on the stack: its
-- premises hold.
use Rattle.std.proofs.Common.{ℕ, zero, suc, List, [], ◌∷◌, ◌++◌, refl, None, arith, false}
use Rattle.std.specs.Prelude.{codes}
use Rattle.std.specs.Fmt.{digits}
use Rattle.rules.specs.Parts.{NestedUnit, preamble, bytes_of}
use Rattle.rules.specs.Output.{output}
use Rattle.dsc.specs.Units.{units_of}
use Rattle.guard.specs.Guard.{guarded}
use Rattle.pictures.specs.Objects.{Procedure, Dictionary}
use Rattle.pictures.specs.Machine.{State, Painting, Runs}
use Rattle.pictures.specs.Scanner.{tokens}
use Rattle.pictures.specs.Sheets.{in_userdict}
use Rattle.pictures.specs.Documents.{started, document_page, PreambleRuns, all_sheets}
use Rattle.pictures.proofs.Examples.Premises.{document_with, half, frame, stroke}
use Rattle.pictures.proofs.Examples.Applied.{units}
use Rattle.pictures.specs.AfterGuard.{after_guard}
use Rattle.pictures.specs.Shelter.{sheltered}
use Rattle.pictures.specs.Lines.{with_asking}
use Rattle.pictures.specs.Pages.{GuardedPagePaints, outline_of, state_after_sheets}
use Rattle.pictures.specs.OwnShowpage.{HasItsOwn, asking}
use Rattle.pictures.proofs.OwnShowpage.{own_showpage_is_shown}
use Rattle.pictures.proofs.Examples.GuardedApplied.{paper, at_most}

abbrev text : List ℕ
text = document_with (codes "/d 1 dict def d /showpage {} put d begin") (stroke ∷ (codes "initgraphics " ++ stroke) ∷ [])

abbrev us : List NestedUnit
us = units text

-- after the preamble: the dictionary is the fourth thing that was made
abbrev pub behind : State
behind = record (after_guard paper []) {
  work = record (after_guard paper []).work {
    dictionaries = 4 ∷ 0 ∷ [];
    entries =
        record { dictionary = 4; key = codes "showpage"; value = Procedure [] }
        ∷ in_userdict (codes "d") (Dictionary 4) ∷ (after_guard paper []).work.entries;
    made = 4;
  };
}

pub own_behind : HasItsOwn 4 behind
own_behind = record {
  guard = record { number = 3; save_is = refl; guard_is = refl; clip_is = refl; clip_alone = refl; path_is = refl; names = refl; few_operands = omega arith; operands = refl; dictionaries = refl };
  own_first = refl;
  other = refl;
  writable = refl;
  showpage_is = refl;
  flag_is = refl;
  show_is = refl;
  graphics = refl;
}

preamble_runs : PreambleRuns (HasItsOwn 4) (bytes_of (preamble (units_of (guarded paper text)))) behind
unfolding digits
preamble_runs = (refl, (274, refl), refl, refl, refl, own_behind)

-- where the first page begins, and the second
abbrev first_state : State
first_state = with_asking 4 behind

abbrev second_state : State
second_state = with_asking 4 first_state

abbrev end : ℕ → State
end zero = at_most [] (outline_of frame) 12 (sheltered [] first_state (outline_of frame) (tokens (document_page us 0)))
end (suc p) = at_most [] (outline_of frame) 13 (sheltered [] second_state (outline_of frame) (tokens (document_page us 1)))

abbrev picture : ℕ → List Painting
picture p = (end p).painted

first_page : GuardedPagePaints frame us first_state 0 (picture 0)
unfolding digits
first_page = (
  refl,
  refl,
  record {
    end = end 0;
    run = (12, refl);
    leaves = record { nothing_left = refl; operands = refl; dictionaries = refl; saves = refl; save_name = refl; restore_name = refl };
    picture_is = refl;
  },
)

second_page : GuardedPagePaints frame us second_state 1 (picture 1)
unfolding digits
second_page = (
  refl,
  refl,
  record {
    end = end 1;
    run = (13, refl);
    leaves = record { nothing_left = refl; operands = refl; dictionaries = refl; saves = refl; save_name = refl; restore_name = refl };
    picture_is = refl;
  },
)

-- so the sheets show both pages
shown : Runs false (started (tokens (output frame None half (units_of (guarded paper text)))))
    (state_after_sheets (asking 4 behind) None (units_of (guarded paper text)) picture (all_sheets frame None half us))
unfolding digits
shown = own_showpage_is_shown paper frame None half text us picture 4 behind refl (omega arith) refl preamble_runs (omega arith) ((first_page, tt), ((second_page, tt), tt))
