-- Documents in a machine with further operators.
use Rattle.std.specs.Prelude.{◌≡◌, ℕ, List, [], ◌∷◌, Option, false, true, Ok}
use Rattle.rules.specs.Specification.{Spec}
use Rattle.rules.specs.Parts.{NestedUnit, preamble, bytes_of}
use Rattle.rules.specs.Run.{document_of}
use Rattle.rules.specs.Filters.{trailer_text}
use Rattle.rules.specs.Output.{Border, Frame, output}
use Rattle.rules.specs.Made.{MadeSheet}
use Rattle.rules.specs.Dress.{Dress}
use Rattle.rules.specs.MadeOutput.{made_output}
use Rattle.pictures.specs.Imposed.{IsQuiet}
use Rattle.pictures.specs.Objects.{Token}
use Rattle.pictures.specs.Dictionaries.{userdict}
use Rattle.pictures.specs.Operators.{Work}
use Rattle.pictures.specs.Machine.{State, Painting}
use Rattle.pictures.specs.Scanner.{tokens, EndsBetweenTokens}
use Rattle.pictures.specs.Sheets.{IsGround}
use Rattle.pictures.specs.Documents.{started, OnSheets, all_sheets, sheet_pictures}
use Rattle.pictures.specs.DocumentRun.{PrintsSheetBy}
use Rattle.pictures.specs.Kept.{comments_apart_with, preamble_comments_apart}
use Rattle.pictures.specs.Unaware.{IsPlainGround, PrintsBy, PagePrintsBy}
use Rattle.open_pictures.specs.Machine.{Further, open_step, OpenRuns, open_unaware_step}
use Rattle.open_pictures.specs.Blindness.{IsBlind, RunsPreambles}
use Rattle.open_pictures.specs.Sheets.{OpenPaintsAlone}

-- A machine in which nothing has run yet. What its dictionaries and stacks have then is a parameter, since further
-- operators may have names and values there (statusdict, ISOLatin1Encoding)
abbrev pub begun_machine : Work → List Token → State
begun_machine w ts = record (started ts) { work = w }

-- as `started` of crates/pictures: userdict, and nothing in it
abbrev pub plain_work : Work
plain_work = record { operands = []; dictionaries = userdict ∷ []; entries = []; made = 0 }

-- the preamble ends between tokens, and the machine is then in a state of which this is so, with nothing painted or printed
abbrev pub OpenPreambleRuns : Further → Work → (State → Type 0) → List ℕ → State → Type 0
OpenPreambleRuns x w P text s =
    EndsBetweenTokens text × OpenRuns x false (begun_machine w (tokens text)) s × (s.left ≡ []) × (s.painted ≡ []) × (s.sheets ≡ [])
    × P s

-- after the preamble the page prints this of itself
abbrev pub OpenPrintsItself : Further → State → List Token → List Painting → Type 0
OpenPrintsItself x s body picture = PrintsBy (open_step x false) (open_unaware_step x) s body picture

abbrev pub OpenPagePrints : Further → List NestedUnit → State → ℕ → List Painting → Type 0
OpenPagePrints x us s p picture = PagePrintsBy (open_step x false) (open_unaware_step x) us s p picture

-- from the state s these tokens print one sheet, with this picture, and leave the next one empty
abbrev pub OpenPrintsSheet : Further → State → List Token → List Painting → Type 0
OpenPrintsSheet x s ts picture = PrintsSheetBy (OpenRuns x false) s ts picture

-- what a page prints of itself, after the preamble, is what it paints by itself, with any further operators that are
-- blind: a law
abbrev pub OpenOwnPicture : Type 0
OpenOwnPicture =
    (x : Further) (s : State) (body : List Token) (picture : List Painting) → IsBlind x → IsPlainGround s
    → OpenPrintsItself x s body picture → OpenPrintsSheet x s body picture × OpenPaintsAlone x s body picture

-- a machine runs the output up to the trailer, and has then printed these pictures
abbrev pub OpenIsPrinted :
    Further → Work → Frame → Option ℕ → Spec → List NestedUnit → (ℕ → List Painting) → State → Type 0
OpenIsPrinted x w frame sides spec us picture s =
    OpenRuns x false (begun_machine w (tokens (output frame sides spec us)))
    (record s {
      left = tokens (trailer_text us);
      sheets = sheet_pictures frame.border us picture s (all_sheets frame sides spec us);
    })

-- Of an accepted document, with any further operators x that are blind, and any z for the preamble: if a machine runs the
-- preamble, and each page prints a picture of itself, then it prints of the output, sheet by sheet, those pictures,
-- placed: a law
abbrev pub OpenSheetsShowThePages : Type 0
OpenSheetsShowThePages =
    (x z : Further) (w : Work) (frame : Frame) (sides : Option ℕ) (spec : Spec) (text : List ℕ) (us : List NestedUnit)
    (picture : ℕ → List Painting) (s : State)
    → IsBlind x → RunsPreambles x z → document_of text ≡ Ok us
    → preamble_comments_apart us ≡ true → OpenPreambleRuns z w IsGround (bytes_of (preamble us)) s → IsPlainGround s
    → OnSheets (λ paper p. OpenPagePrints x us s p (picture p)) (all_sheets frame sides spec us)
    → OpenIsPrinted z w frame sides spec us picture s

-- a machine runs the output of these made sheets up to the trailer, and has then printed these pictures
abbrev pub OpenMadeIsPrinted :
    Further → Work → Option Border → Dress → List MadeSheet → List NestedUnit → (ℕ → List Painting) → State → Type 0
OpenMadeIsPrinted x w border dress all us picture s =
    OpenRuns x false (begun_machine w (tokens (made_output border dress all us)))
    (record s { left = tokens (trailer_text us); sheets = sheet_pictures border us picture s all })

-- the same of any made sheets, each page on a paper of its own, if no lines are added but comments: a law
abbrev pub OpenMadeSheetsShowThePages : Type 0
OpenMadeSheetsShowThePages =
    (x z : Further) (w : Work) (border : Option Border) (dress : Dress) (all : List MadeSheet) (text : List ℕ)
    (us : List NestedUnit) (picture : ℕ → List Painting) (s : State)
    → IsBlind x → RunsPreambles x z → IsQuiet dress → document_of text ≡ Ok us
    → comments_apart_with dress.header us ≡ true → OpenPreambleRuns z w IsGround (bytes_of (preamble us)) s → IsPlainGround s
    → OnSheets (λ paper p. OpenPagePrints x us s p (picture p)) all
    → OpenMadeIsPrinted z w border dress all us picture s
