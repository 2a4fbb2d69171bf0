-- What a machine prints of every sheet that impose writes of a guarded document.
use Rattle.std.proofs.Common.{false, List, [], ◌∷◌, ◌++◌, arith}
use Rattle.rules.specs.Papers.{Paper}
use Rattle.rules.specs.Parts.{NestedUnit, preamble, bytes_of}
use Rattle.dsc.specs.Units.{units_of}
use Rattle.guard.specs.Guard.{guarded}
use Rattle.guard.proofs.TheGuard.{guard_stays}
use Rattle.dressing.specs.declared.strokes.Stroke.{Stroke}
use Rattle.pictures.specs.Objects.{Token}
use Rattle.pictures.specs.Machine.{State, Painting, Runs}
use Rattle.pictures.specs.Documents.{started, page_frame}
use Rattle.pictures.proofs.Runs.{AreRuns, free_are_runs, runs_none}
use Rattle.pictures.proofs.Sheets.{still, fresh}
use Rattle.pictures.proofs.Output.{free_runs_on}
use Rattle.pictures.specs.Pages.{IsGuarded, GuardedPagePaints}
use Rattle.pictures.proofs.GuardedPlaced.{takes_pages}
use Rattle.pictures.proofs.GuardedSheets.{page_places, guarded_prints}
use Rattle.pictures.proofs.Documents.{body_places, page_again}
use Rattle.open_pictures.specs.Machine.{OpenRuns}
use Rattle.open_pictures.specs.Documents.{begun_machine}
use Rattle.open_pictures.proofs.Runs.{open_are_runs}
use Rattle.open_pictures.proofs.Output.{open_runs_on, still_body}
use Rattle.open_pictures.specs.Pages.{OpenGuardedPagePaints}
use Rattle.open_pictures.proofs.GuardedSheets.{body_places as open_body_places, page_again as open_page_again}
use Rattle.open_pictures.specs.Marks.{with_strokes}
use Rattle.open_pictures.specs.Sizes.{begun_on}
use Rattle.open_pictures.specs.DressedDocuments.{papers_reported_by, TakesLines, DressedDocumentIsShown, OpenDressedDocumentIsShown}
use Rattle.open_pictures.proofs.LinesRead.{mark_tokens, start_tokens}
use Rattle.open_pictures.proofs.Drawing.{marks_run}
use Rattle.open_pictures.proofs.Sizing.{size_runs, lines_still, guarded_still}
use Rattle.open_pictures.proofs.SheetsRun.{RunsLines, BodyBegun, on_begun, document_is_dressed}

-- The lines in a guarded state.

abbrev Takes : List Paper → List Stroke → State → Type 0
Takes told strokes s = IsGuarded s × TakesLines told strokes s

starts : (told : List Paper) (strokes : List Stroke) (paper : Paper) (s : State) (rest : List Token) (sheets : List (List Painting)) → Takes told strokes s
    → Runs false (fresh s (start_tokens told paper ++ rest) [] sheets) (fresh (begun_on told paper s) rest [] sheets)
starts [] strokes paper s rest sheets i = runs_none false (fresh s rest [] sheets)
starts (p ∷ []) strokes paper s rest sheets i = runs_none false (fresh s rest [] sheets)
starts (p ∷ q ∷ ps) strokes paper s rest sheets (g, t) = size_runs s paper rest sheets (t.sizes (omega arith)) g.flag_is g.graphics

stays : (told : List Paper) (strokes : List Stroke) (paper : Paper) (s : State) → Takes told strokes s → Takes told strokes (begun_on told paper s)
stays [] strokes paper s i = i
stays (p ∷ []) strokes paper s i = i
stays (p ∷ q ∷ ps) strokes paper s (g, t) = (guarded_still s paper g, lines_still (p ∷ q ∷ ps) strokes s paper t)

runs_lines : (R : State → State → Type 0) → AreRuns R → (told : List Paper) (strokes : List Stroke) → RunsLines R told strokes (Takes told strokes)
runs_lines R m told strokes = record {
  starts = λ paper s rest sheets i. m.free (fresh s (start_tokens told paper ++ rest) [] sheets) (fresh (begun_on told paper s) rest [] sheets) (starts told strokes paper s rest sheets i);
  stays = λ paper s i. stays told strokes paper s i;
  draws = λ s ps rest sheets i. m.free (fresh s (mark_tokens strokes ++ rest) ps sheets) (fresh s rest (with_strokes s.graphics strokes ps) sheets) (marks_run strokes s ps sheets rest i.1.marks);
  prints = λ s i. guarded_prints R m s i.0;
}

pub dressed_document_is_shown : DressedDocumentIsShown
dressed_document_is_shown sheet border strokes all text us picture s d few apart (complete, run, left, painted, printed, g) takes h =
    let again : List NestedUnit = units_of (guarded sheet text) in
    let told : List Paper = papers_reported_by all in
    let lines : RunsLines (Runs false) told strokes (Takes told strokes) = runs_lines (Runs false) free_are_runs told strokes in
    let document = guard_stays sheet text us d few in
    document_is_dressed (Runs false) free_are_runs started border told strokes all (guarded sheet text) again picture s (Takes told strokes) lines (g, takes) document.0 apart
    (free_runs_on (bytes_of (preamble again)) s complete run left) painted
    (on_begun told (Takes told strokes) (λ at own p. GuardedPagePaints (page_frame border own) us at p (picture p)) (BodyBegun (Runs false) border again picture) lines.stays
    (λ at own p i x. body_places (Runs false) (still at) (page_frame border own) again 0 p (picture p) (λ y j. page_places [] at y (takes_pages at i.0) j)
    (page_again (page_frame border own) us again at p (picture p) document.1.same_pages x)) all s (g, takes) h)

pub open_dressed_document_is_shown : OpenDressedDocumentIsShown
open_dressed_document_is_shown x z w sheet border strokes all text us picture s blind runs d few apart (complete, run, left, painted, printed, g) takes h =
    let again : List NestedUnit = units_of (guarded sheet text) in
    let told : List Paper = papers_reported_by all in
    let lines : RunsLines (OpenRuns z false) told strokes (Takes told strokes) = runs_lines (OpenRuns z false) (open_are_runs z) told strokes in
    let document = guard_stays sheet text us d few in
    document_is_dressed (OpenRuns z false) (open_are_runs z) (begun_machine w) border told strokes all (guarded sheet text) again picture s (Takes told strokes) lines (g, takes) document.0 apart
    (open_runs_on z w (bytes_of (preamble again)) s runs.sees_nothing_after complete run left) painted
    (on_begun told (Takes told strokes) (λ at own p. OpenGuardedPagePaints x (page_frame border own) us at p (picture p)) (BodyBegun (OpenRuns z false) border again picture) lines.stays
    (λ at own p i y. still_body x z (page_frame border own) again at 0 p (picture p) runs.extends
    (open_body_places x (page_frame border own) again at 0 p (picture p) blind i.0 (open_page_again x (page_frame border own) us again at p (picture p) document.1.same_pages y))) all s (g, takes) h)
