-- A document as it is, run page after page in a machine with further operators.
use Rattle.std.specs.Prelude.{◌≡◌, ℕ, List, Option, false, true, Ok}
use Rattle.rules.specs.Specification.{Spec}
use Rattle.rules.specs.Parts.{NestedUnit, preamble, bytes_of}
use Rattle.rules.specs.Run.{document_of}
use Rattle.rules.specs.Output.{Frame}
use Rattle.pictures.specs.Operators.{Work}
use Rattle.pictures.specs.Machine.{State, Painting}
use Rattle.pictures.specs.Sheets.{IsGround}
use Rattle.pictures.specs.Kept.{preamble_comments_apart}
use Rattle.pictures.specs.Unaware.{IsPlainGround}
use Rattle.pictures.specs.DocumentRun.{OnPages, AreIndependentBy, DocumentPrintsBy}
use Rattle.open_pictures.specs.Machine.{Further, OpenRuns}
use Rattle.open_pictures.specs.Blindness.{IsBlind, RunsPreambles}
use Rattle.open_pictures.specs.Documents.{begun_machine, OpenPreambleRuns, OpenPagePrints, OpenIsPrinted}

-- Of an accepted document whose pages are independent in a machine with the operators z, and print a picture of themselves
-- with x alone, which are blind: the document prints these pictures, and its output shows them, sheet by sheet, placed: a
-- law
abbrev pub OpenSheetsShowTheDocument : Type 0
OpenSheetsShowTheDocument =
    (x z : Further) (w : Work) (frame : Frame) (sides : Option ℕ) (spec : Spec) (text : List ℕ) (us : List NestedUnit)
    (picture : ℕ → List Painting) (s : State)
    → IsBlind x → RunsPreambles x z → document_of text ≡ Ok us
    → preamble_comments_apart us ≡ true → OpenPreambleRuns z w IsGround (bytes_of (preamble us)) s → IsPlainGround s
    → OnPages (λ p. OpenPagePrints x us s p (picture p)) us → AreIndependentBy (OpenRuns z false) us s
    → DocumentPrintsBy (OpenRuns z false) (begun_machine w) text us picture × OpenIsPrinted z w frame sides spec us picture s
