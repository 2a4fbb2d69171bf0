-- Given an output, a machine with further operators prints what the document's own pages print.
use Rattle.std.proofs.Common.{false}
use Rattle.rules.specs.Parts.{preamble, bytes_of}
use Rattle.rules.specs.Dress.{undressed}
use Rattle.pictures.specs.Documents.{page_frame, all_sheets}
use Rattle.pictures.proofs.Sheets.{still, ground_prints}
use Rattle.pictures.proofs.Output.{Bodies, on_sheets, undressed_is_quiet, by_specification}
use Rattle.pictures.proofs.Imposed.{still_document_is_shown}
use Rattle.open_pictures.specs.Machine.{OpenRuns}
use Rattle.open_pictures.specs.Documents.{begun_machine, OpenPagePrints, OpenSheetsShowThePages, OpenMadeSheetsShowThePages}
use Rattle.open_pictures.proofs.Runs.{open_are_runs}
use Rattle.open_pictures.proofs.Output.{open_runs_on, still_body}
use Rattle.open_pictures.proofs.Own.{own_body_places}

pub open_made_sheets_show_the_pages : OpenMadeSheetsShowThePages
open_made_sheets_show_the_pages x z w border dress all text us picture s blind runs q d apart (complete, run, left, painted, printed, ground) plain h =
    still_document_is_shown (OpenRuns z false) (open_are_runs z) (begun_machine w) border dress all text us picture s q d apart
    (open_runs_on z w (bytes_of (preamble us)) s runs.sees_nothing_after complete run left) painted (ground_prints (OpenRuns z false) (open_are_runs z) s ground)
    (on_sheets (λ k paper p. OpenPagePrints x us s p (picture p)) (Bodies (OpenRuns z false) (still s) border us picture)
    (λ k paper p y. still_body x z (page_frame border paper) us s k p (picture p) runs.extends (own_body_places x (page_frame border paper) us s k p (picture p) blind plain y)) 0 all h)

pub open_sheets_show_the_pages : OpenSheetsShowThePages
open_sheets_show_the_pages x z w frame sides spec text us picture s blind runs d apart run plain h =
    by_specification (OpenRuns z false) (begun_machine w) frame sides spec us _
    (open_made_sheets_show_the_pages x z w frame.border undressed (all_sheets frame sides spec us) text us picture s blind runs undressed_is_quiet d apart run plain h)
