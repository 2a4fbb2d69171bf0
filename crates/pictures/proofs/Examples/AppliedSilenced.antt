-- The law at a document of two pages that makes showpage do nothing in its prolog, and prints its first page by one that it
-- loaded before: its premises hold.
use Rattle.std.proofs.Common.{ℕ, zero, suc, List, [], ◌∷◌, ◌++◌, refl, None, arith, false}
use Rattle.std.specs.Prelude.{codes}
use Rattle.std.specs.Fmt.{digits}
use Rattle.rules.specs.Parts.{NestedUnit, preamble, bytes_of}
use Rattle.rules.specs.Output.{output}
use Rattle.dsc.specs.Units.{units_of}
use Rattle.guard.specs.Guard.{guarded}
use Rattle.pictures.specs.Objects.{Procedure}
use Rattle.pictures.specs.Machine.{State, Painting, Runs}
use Rattle.pictures.specs.Scanner.{tokens}
use Rattle.pictures.specs.Sheets.{in_userdict}
use Rattle.pictures.specs.Documents.{started, document_page, PreambleRuns, all_sheets}
use Rattle.pictures.proofs.Examples.Premises.{document_with, half, frame, stroke}
use Rattle.pictures.proofs.Examples.Applied.{units}
use Rattle.pictures.specs.AfterGuard.{after_guard, showpage_tokens}
use Rattle.pictures.specs.Shelter.{sheltered}
use Rattle.pictures.specs.Pages.{GuardedPagePaints, outline_of, state_after_sheets}
use Rattle.pictures.specs.Silenced.{IsSilenced, with_showpage, after_pages}
use Rattle.pictures.proofs.Silenced.{silenced_document_is_shown}
use Rattle.pictures.proofs.Examples.GuardedApplied.{paper, at_most}

abbrev text : List ℕ
text = document_with (codes "userdict /e /showpage load put userdict /showpage {} put") ((stroke ++ codes " e") ∷ (codes "initgraphics " ++ stroke) ∷ [])

abbrev us : List NestedUnit
us = units text

-- after the preamble
abbrev behind : State
behind = record (after_guard paper []) {
  work = record (after_guard paper []).work {
    entries =
        in_userdict (codes "showpage") (Procedure [])
        ∷ in_userdict (codes "e") (Procedure showpage_tokens) ∷ (after_guard paper []).work.entries;
  };
}

silenced_behind : IsSilenced behind
silenced_behind = record {
  empty = refl;
  guarded = record {
    guard = record { number = 3; save_is = refl; guard_is = refl; clip_is = refl; clip_alone = refl; path_is = refl; names = refl; few_operands = omega arith; operands = refl; dictionaries = refl };
    userdict_first = refl;
    showpage_is = refl;
    flag_is = refl;
    show_is = refl;
    graphics = refl;
  };
}

preamble_runs : PreambleRuns IsSilenced (bytes_of (preamble (units_of (guarded paper text)))) behind
unfolding digits
preamble_runs = (refl, (273, refl), refl, refl, refl, silenced_behind)

abbrev end : ℕ → State
end zero = at_most [] (outline_of frame) 12 (sheltered [] (with_showpage behind) (outline_of frame) (tokens (document_page us 0)))
end (suc p) = at_most [] (outline_of frame) 9 (sheltered [] (with_showpage behind) (outline_of frame) (tokens (document_page us 1)))

abbrev picture : ℕ → List Painting
picture p = (end p).painted

first_page : GuardedPagePaints frame us (with_showpage behind) 0 (picture 0)
unfolding digits
first_page = (
  refl,
  refl,
  record {
    end = end 0;
    run = (12, refl);
    leaves = record { nothing_left = refl; operands = refl; dictionaries = refl; saves = refl; save_name = refl; restore_name = refl };
    picture_is = refl;
  },
)

second_page : GuardedPagePaints frame us (with_showpage behind) 1 (picture 1)
unfolding digits
second_page = (
  refl,
  refl,
  record {
    end = end 1;
    run = (9, refl);
    leaves = record { nothing_left = refl; operands = refl; dictionaries = refl; saves = refl; save_name = refl; restore_name = refl };
    picture_is = refl;
  },
)

-- so the sheets show both pages
shown : Runs false (started (tokens (output frame None half (units_of (guarded paper text)))))
    (state_after_sheets (after_pages behind) None (units_of (guarded paper text)) picture (all_sheets frame None half us))
unfolding digits
shown = silenced_document_is_shown paper frame None half text us picture behind refl (omega arith) refl preamble_runs (omega arith) ((first_page, tt), ((second_page, tt), tt))
