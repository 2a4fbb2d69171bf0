-- The law at a document that has a showpage of its own in a dictionary on the stack, and shows a text by xyshow: its premises hold,
-- for a machine that has xyshow.
use Rattle.std.proofs.Common.{◌≡◌, ℕ, List, [], ◌∷◌, refl, None, false, arith}
use Rattle.std.specs.Prelude.{codes}
use Rattle.std.specs.Fmt.{digits}
use Rattle.rules.specs.Parts.{NestedUnit, preamble, bytes_of}
use Rattle.rules.specs.Output.{output}
use Rattle.dsc.specs.Units.{units_of}
use Rattle.guard.specs.Guard.{guarded}
use Rattle.pictures.specs.Machine.{State, Painting}
use Rattle.pictures.specs.Scanner.{tokens}
use Rattle.pictures.specs.Documents.{started, document_page, all_sheets, sheet_pictures}
use Rattle.pictures.proofs.Examples.TwoUp.{far}
use Rattle.pictures.proofs.Examples.Premises.{document_with, half, frame, outline, placed}
use Rattle.pictures.proofs.Examples.Applied.{units}
use Rattle.pictures.specs.Shelter.{sheltered}
use Rattle.pictures.specs.Lines.{with_asking}
use Rattle.pictures.specs.Pages.{outline_of, state_after_sheets}
use Rattle.pictures.specs.OwnShowpage.{HasItsOwn, asking}
use Rattle.pictures.proofs.Examples.GuardedApplied.{paper}
use Rattle.pictures.proofs.Examples.AppliedOwn.{behind, own_behind}
use Rattle.open_pictures.specs.Machine.{OpenRuns}
use Rattle.open_pictures.specs.Documents.{begun_machine, plain_work, OpenPreambleRuns}
use Rattle.open_pictures.proofs.Runs.{open_runs}
use Rattle.open_pictures.specs.Shelter.{open_shelter_step}
use Rattle.open_pictures.specs.Pages.{OpenGuardedPagePaints}
use Rattle.open_pictures.proofs.OwnShowpage.{open_own_showpage_is_shown}
use Rattle.open_pictures.proofs.Examples.Applied.{x, placeless, runs}

abbrev text : List ℕ
text = document_with (codes "/d 1 dict def d /showpage {} put d begin") (codes "initgraphics 9 9 moveto (Two) [6 0 7 0 8 0] xyshow" ∷ [])

abbrev us : List NestedUnit
us = units text

preamble_runs : OpenPreambleRuns x plain_work (HasItsOwn 4) (bytes_of (preamble (units_of (guarded paper text)))) behind
unfolding digits
preamble_runs = (refl, open_runs x (started (tokens (bytes_of (preamble (units_of (guarded paper text)))))) behind (274, refl), refl, refl, refl, own_behind)

-- where the page begins
abbrev there : State
there = with_asking 4 behind

abbrev end : State
end = far (open_shelter_step x [] (outline_of frame)) 19 (sheltered [] there (outline_of frame) (tokens (document_page us 0)))

abbrev picture : ℕ → List Painting
picture p = end.painted

page : OpenGuardedPagePaints x frame us there 0 (picture 0)
unfolding digits
page = (
  refl,
  refl,
  record {
    end = end;
    run = (19, refl);
    leaves = record { nothing_left = refl; operands = refl; dictionaries = refl; saves = refl; save_name = refl; restore_name = refl };
    picture_is = refl;
  },
)

-- so the sheet shows the page
shown : OpenRuns x false (begun_machine plain_work (tokens (output frame None half (units_of (guarded paper text)))))
    (state_after_sheets (asking 4 behind) None (units_of (guarded paper text)) picture (all_sheets frame None half us))
unfolding digits
shown = open_own_showpage_is_shown x x plain_work paper frame None half text us picture 4 behind placeless runs refl (omega arith) refl preamble_runs (omega arith) ((page, tt), tt)

-- one sheet with one painting, in its place
it_is_placed : outline (sheet_pictures None us picture behind (all_sheets frame None half us)) ≡ (placed ∷ []) ∷ []
unfolding digits
it_is_placed = refl
