-- Pages, sheets and documents under the guard, in a machine with further operators.
use Rattle.std.specs.Prelude.{◌≡◌, ℕ, List, [], ◌++◌, Option, Ok, true, false, length, ◌≤◌}
use Rattle.rules.specs.Papers.{Paper}
use Rattle.rules.specs.Specification.{Spec}
use Rattle.rules.specs.Parts.{NestedUnit, preamble, bytes_of}
use Rattle.rules.specs.Run.{document_of, most_input_bytes}
use Rattle.rules.specs.Output.{Frame}
use Rattle.dsc.specs.Units.{units_of}
use Rattle.guard.specs.Guard.{guarded}
use Rattle.pictures.specs.Objects.{Token}
use Rattle.pictures.specs.Operators.{Work}
use Rattle.pictures.specs.Machine.{State, Painting}
use Rattle.pictures.specs.Scanner.{tokens, EndsBetweenTokens}
use Rattle.pictures.specs.Kept.{page_comments_apart, preamble_comments_apart}
use Rattle.pictures.specs.Sheets.{Shown, run_of, page_picture, placed_tokens}
use Rattle.pictures.specs.Documents.{page_frame, document_page, OnSheets, all_sheets}
use Rattle.pictures.specs.Shelter.{Outer, outline_tokens}
use Rattle.pictures.specs.Pages.{IsGuarded, TakesPages, outline_of}
use Rattle.open_pictures.specs.Machine.{Further, OpenRuns}
use Rattle.open_pictures.specs.Blindness.{RunsPreambles}
use Rattle.open_pictures.specs.Documents.{OpenPreambleRuns, OpenIsPrinted}
use Rattle.open_pictures.specs.Shelter.{IsPlacelessThere, OpenPaintsSheltered}

-- a placed page of a guarded document paints on the sheet what it paints by itself, placed, after its border, whatever
-- pages are round it; and all else is as it was: a law
abbrev pub OpenGuardedPageIsPlaced : Type 0
OpenGuardedPageIsPlaced =
    (x : Further) (outers : List Outer) (s : State) (y : Shown) (rest : List Token) → IsPlacelessThere x → TakesPages outers s
    → OpenPaintsSheltered x outers s (outline_tokens y.placed.numbers) y.placed.body y.picture
    → OpenRuns x false (run_of (placed_tokens y.placed ++ rest) s)
    (record s { left = rest; painted = page_picture s.graphics y ++ s.painted })

-- the page, as the document has it, paints this by itself; its text ends between tokens, and so does what is before each
-- of its lines that is dropped
abbrev pub OpenGuardedPagePaints : Further → Frame → List NestedUnit → State → ℕ → List Painting → Type 0
OpenGuardedPagePaints x frame us s p picture =
    EndsBetweenTokens (document_page us p) × (page_comments_apart (document_page us p) ≡ true)
    × OpenPaintsSheltered x [] s (outline_of frame) (tokens (document_page us p)) picture

-- Of an accepted document in whose preamble the guard has run, with any further operators x that are placeless there, and
-- any z for the preamble: if each page paints a picture by itself, then the machine prints of the output, sheet by sheet,
-- those pictures, placed: a law
abbrev pub OpenGuardedSheetsShowThePages : Type 0
OpenGuardedSheetsShowThePages =
    (x z : Further) (w : Work) (frame : Frame) (sides : Option ℕ) (spec : Spec) (text : List ℕ) (us : List NestedUnit)
    (picture : ℕ → List Painting) (s : State)
    → IsPlacelessThere x → RunsPreambles x z → document_of text ≡ Ok us → preamble_comments_apart us ≡ true
    → OpenPreambleRuns z w IsGuarded (bytes_of (preamble us)) s
    → OnSheets (λ own p. OpenGuardedPagePaints x (page_frame frame.border own) us s p (picture p)) (all_sheets frame sides spec us)
    → OpenIsPrinted z w frame sides spec us picture s

-- What impose makes of an accepted document, with the guard put in, with any such operators: its own pages are shown: a
-- law
abbrev pub OpenGuardedDocumentIsShown : Type 0
OpenGuardedDocumentIsShown =
    (x z : Further) (w : Work) (sheet : Option Paper) (frame : Frame) (sides : Option ℕ) (spec : Spec) (text : List ℕ)
    (us : List NestedUnit) (picture : ℕ → List Painting) (s : State)
    → IsPlacelessThere x → RunsPreambles x z → document_of text ≡ Ok us → length (guarded sheet text) ≤ most_input_bytes
    → preamble_comments_apart (units_of (guarded sheet text)) ≡ true
    → OpenPreambleRuns z w IsGuarded (bytes_of (preamble (units_of (guarded sheet text)))) s
    → OnSheets (λ own p. OpenGuardedPagePaints x (page_frame frame.border own) us s p (picture p)) (all_sheets frame sides spec us)
    → OpenIsPrinted z w frame sides spec (units_of (guarded sheet text)) picture s
