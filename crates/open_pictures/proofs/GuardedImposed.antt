-- What a machine with further operators prints of what is made of a guarded document.
use Rattle.std.specs.Prelude.{Option, Ok, slice_index_or}
use Rattle.std.proofs.Common.{◌≡◌, ℕ, ap, sym, subst, true, false, List, [], length}
use Rattle.rules.specs.Parts.{NestedUnit, pages, preamble, bytes_of}
use Rattle.rules.specs.Signatures.{sheets_in}
use Rattle.rules.specs.Run.{document_of}
use Rattle.rules.specs.Output.{Border}
use Rattle.rules.specs.Made.{MadeSheet, made_of}
use Rattle.rules.specs.Dress.{Dress, undressed}
use Rattle.dsc.specs.Units.{units_of}
use Rattle.guard.specs.Guard.{guarded}
use Rattle.guard.proofs.TheGuard.{guard_stays}
use Rattle.papers.specs.Reported.{reporting}
use Rattle.pictures.specs.Operators.{Work}
use Rattle.pictures.specs.Machine.{State, Painting}
use Rattle.pictures.specs.Scanner.{tokens, EndsBetweenTokens}
use Rattle.pictures.specs.Kept.{comments_apart_with, page_comments_apart}
use Rattle.pictures.specs.Documents.{page_frame, OnSheets, all_sheets}
use Rattle.pictures.specs.Imposed.{IsQuiet}
use Rattle.pictures.proofs.Sheets.{still}
use Rattle.pictures.proofs.Output.{Bodies, on_sheets, undressed_is_quiet, by_specification}
use Rattle.pictures.proofs.Imposed.{still_document_is_shown}
use Rattle.pictures.specs.Pages.{IsGuarded, outline_of}
use Rattle.pictures.proofs.GuardedSheets.{guarded_prints}
use Rattle.pictures.proofs.GuardedImposed.{reporting_is_quiet}
use Rattle.open_pictures.specs.Machine.{Further, OpenRuns}
use Rattle.open_pictures.specs.Blindness.{RunsPreambles}
use Rattle.open_pictures.specs.Documents.{begun_machine, OpenPreambleRuns, OpenMadeIsPrinted}
use Rattle.open_pictures.proofs.Runs.{open_are_runs}
use Rattle.open_pictures.proofs.Output.{open_runs_on, still_body}
use Rattle.open_pictures.specs.Shelter.{IsPlacelessThere, OpenPaintsSheltered}
use Rattle.open_pictures.specs.Pages.{OpenGuardedPagePaints, OpenGuardedSheetsShowThePages, OpenGuardedDocumentIsShown}
use Rattle.open_pictures.specs.Imposed.{OpenMadeDocumentIsShown}
use Rattle.open_pictures.proofs.GuardedSheets.{body_places}

-- an accepted document in whose preamble the guard has run
made_is_shown : (x z : Further) (w : Work) (border : Option Border) (dress : Dress) (all : List MadeSheet) (text : List ℕ) (us : List NestedUnit) (picture : ℕ → List Painting) (s : State)
    → IsPlacelessThere x → RunsPreambles x z → IsQuiet dress → document_of text ≡ Ok us → comments_apart_with dress.header us ≡ true → OpenPreambleRuns z w IsGuarded (bytes_of (preamble us)) s
    → OnSheets (λ own p. OpenGuardedPagePaints x (page_frame border own) us s p (picture p)) all → OpenMadeIsPrinted z w border dress all us picture s
made_is_shown x z w border dress all text us picture s blind runs q d apart (complete, run, left, painted, printed, guarded) h =
    still_document_is_shown (OpenRuns z false) (open_are_runs z) (begun_machine w) border dress all text us picture s q d apart
    (open_runs_on z w (bytes_of (preamble us)) s runs.sees_nothing_after complete run left) painted (guarded_prints (OpenRuns z false) (open_are_runs z) s guarded)
    (on_sheets (λ k own p. OpenGuardedPagePaints x (page_frame border own) us s p (picture p)) (Bodies (OpenRuns z false) (still s) border us picture)
    (λ k own p y. still_body x z (page_frame border own) us s k p (picture p) runs.extends (body_places x (page_frame border own) us s k p (picture p) blind guarded y)) 0 all h)

pub open_guarded_sheets_show_the_pages : OpenGuardedSheetsShowThePages
open_guarded_sheets_show_the_pages x z w frame sides spec text us picture s blind runs d apart run h =
    by_specification (OpenRuns z false) (begun_machine w) frame sides spec us _
    (made_is_shown x z w frame.border undressed (all_sheets frame sides spec us) text us picture s blind runs undressed_is_quiet d apart run h)

-- the pages are those of the document without the guard
again : (x : Further) (border : Option Border) (us units : List NestedUnit) (picture : ℕ → List Painting) (s : State) (all : List MadeSheet) → pages units ≡ pages us
    → OnSheets (λ own p. OpenGuardedPagePaints x (page_frame border own) us s p (picture p)) all → OnSheets (λ own p. OpenGuardedPagePaints x (page_frame border own) units s p (picture p)) all
again x border us units picture s all same h =
    subst (λ ps. OnSheets (λ own p. EndsBetweenTokens (slice_index_or ps p []) × (page_comments_apart (slice_index_or ps p []) ≡ true)
    × OpenPaintsSheltered x [] s (outline_of (page_frame border own)) (tokens (slice_index_or ps p [])) (picture p)) all) (sym same) h

pub open_made_document_is_shown : OpenMadeDocumentIsShown
open_made_document_is_shown x z w sheet border all text us picture s blind runs on d few apart run h =
    let stays = guard_stays sheet text us d few in
    made_is_shown x z w border (reporting all) all (guarded sheet text) (units_of (guarded sheet text)) picture s blind runs (reporting_is_quiet all on) stays.0 apart run
    (again x border us (units_of (guarded sheet text)) picture s all stays.1.same_pages h)

pub open_guarded_document_is_shown : OpenGuardedDocumentIsShown
open_guarded_document_is_shown x z w sheet frame sides spec text us picture s blind runs d few apart run h =
    let units : List NestedUnit = units_of (guarded sheet text) in
    let stays = guard_stays sheet text us d few in
    let same : all_sheets frame sides spec us ≡ all_sheets frame sides spec units = ap (λ ps. made_of frame.paper (sheets_in sides spec (length ps))) (sym stays.1.same_pages) in
    open_guarded_sheets_show_the_pages x z w frame sides spec (guarded sheet text) units picture s blind runs stays.0 apart run
    (subst (λ all. OnSheets (λ own p. OpenGuardedPagePaints x (page_frame frame.border own) units s p (picture p)) all) same
    (again x frame.border us units picture s (all_sheets frame sides spec us) stays.1.same_pages h))
