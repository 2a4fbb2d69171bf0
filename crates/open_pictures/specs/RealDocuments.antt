-- What is said of a document whose preamble and pages run by the machine with the table of operators on values, and no others.
use Rattle.std.specs.Prelude.{◌≡◌, ℕ, ◌<◌, List, Option, Ok, length}
use Rattle.rules.specs.Specification.{Spec}
use Rattle.rules.specs.Parts.{NestedUnit, pages, preamble, bytes_of}
use Rattle.rules.specs.Run.{document_of}
use Rattle.rules.specs.Output.{Border, Frame}
use Rattle.rules.specs.Dress.{Dress}
use Rattle.rules.specs.Made.{MadeSheet}
use Rattle.pictures.specs.Imposed.{IsQuiet}
use Rattle.pictures.specs.Machine.{State, Painting}
use Rattle.pictures.specs.Sheets.{IsGround}
use Rattle.pictures.specs.Documents.{OnSheets}
use Rattle.pictures.specs.DocumentRun.{OnPages}
use Rattle.open_pictures.specs.Documents.{plain_work, OpenPreambleRuns, OpenPagePrints, OpenIsPrinted, OpenMadeIsPrinted}
use Rattle.open_pictures.specs.Values.{values}

-- It is accepted, and has so many pages. A machine runs its preamble, and from the state after it each page prints a
-- picture of itself. Of the output by any specification, on any paper, in signatures or not, it prints those pictures,
-- placed, sheet by sheet; and so it does of any other sheets of these pages, to which no lines are added but comments
abbrev pub IsDocumentShown : (text : List ℕ) → (count : ℕ) → Type 0
IsDocumentShown text count =
    (us : List NestedUnit) × (s : State) × (picture : ℕ → List Painting) × (document_of text ≡ Ok us) × (length (pages us) ≡ count)
    × OpenPreambleRuns values plain_work IsGround (bytes_of (preamble us)) s
    × OnPages (λ p. OpenPagePrints values us s p (picture p)) us
    × ((frame : Frame) (sides : Option ℕ) (spec : Spec) → OpenIsPrinted values plain_work frame sides spec us picture s)
    × ((border : Option Border) (dress : Dress) (all : List MadeSheet) → IsQuiet dress → OnSheets (λ paper p. p < count) all
    → OpenMadeIsPrinted values plain_work border dress all us picture s)
