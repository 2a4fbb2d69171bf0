-- What a document prints, page after page, in a machine with further operators.
use Rattle.std.proofs.Common.{false, List}
use Rattle.rules.specs.Parts.{preamble, bytes_of}
use Rattle.pictures.specs.Objects.{Token}
use Rattle.pictures.specs.Machine.{State, Painting}
use Rattle.pictures.specs.Scanner.{tokens}
use Rattle.pictures.specs.Sheets.{run_of}
use Rattle.pictures.specs.Documents.{document_page}
use Rattle.pictures.specs.DocumentRun.{PrintsSheetBy}
use Rattle.pictures.proofs.DocumentRun.{document_prints, on_all_sheets}
use Rattle.open_pictures.specs.Machine.{Further, OpenRuns}
use Rattle.open_pictures.specs.Blindness.{Extends}
use Rattle.open_pictures.specs.Documents.{begun_machine, OpenPagePrints}
use Rattle.open_pictures.specs.DocumentRun.{OpenSheetsShowTheDocument}
use Rattle.open_pictures.proofs.Runs.{open_are_runs}
use Rattle.open_pictures.proofs.More.{open_runs_with_more, extended_runs}
use Rattle.open_pictures.proofs.Output.{open_runs_on}
use Rattle.open_pictures.proofs.Own.{open_own_picture}
use Rattle.open_pictures.proofs.Imposed.{open_sheets_show_the_pages}

-- what prints a sheet with some operators prints it with more
more_print : (x z : Further) (s : State) (ts : List Token) (picture : List Painting) → Extends x z → PrintsSheetBy (OpenRuns x false) s ts picture → PrintsSheetBy (OpenRuns z false) s ts picture
more_print x z s ts picture q (t, (run, left), painted, sheets) = (t, (extended_runs x z (run_of ts s) t q run, left), painted, sheets)

pub open_sheets_show_the_document : OpenSheetsShowTheDocument
open_sheets_show_the_document x z w frame sides spec text us picture s blind runs e apart (complete, run, left, painted, printed, ground) plain h same = (
  document_prints (OpenRuns z false) (open_are_runs z) (λ more u t r. open_runs_with_more z more u t runs.sees_nothing_after r) (begun_machine w) text us picture s e
      (open_runs_on z w (bytes_of (preamble us)) s runs.sees_nothing_after complete run left) painted printed
      (λ p l. ((h p l).0, more_print x z s (tokens (document_page us p)) (picture p) runs.extends (open_own_picture x s (tokens (document_page us p)) (picture p) blind plain (h p l).2).0)) same,
  open_sheets_show_the_pages x z w frame sides spec text us picture s blind runs e apart (complete, run, left, painted, printed, ground) plain
      (on_all_sheets (λ p. OpenPagePrints x us s p (picture p)) frame sides spec us h),
)
