-- Guarded documents with a showpage of their own in a dictionary on the stack, in a machine with further operators.
use Rattle.std.specs.Prelude.{◌≡◌, ℕ, suc, ◌≤◌, List, [], ◌++◌, false, true, length, Option, Ok}
use Rattle.rules.specs.Papers.{Paper}
use Rattle.rules.specs.Specification.{Spec}
use Rattle.rules.specs.Parts.{NestedUnit, preamble, bytes_of}
use Rattle.rules.specs.Run.{document_of, most_input_bytes}
use Rattle.rules.specs.Output.{Border, Frame, output}
use Rattle.rules.specs.Made.{MadeSheet}
use Rattle.rules.specs.MadeOutput.{made_output}
use Rattle.dsc.specs.Units.{units_of}
use Rattle.guard.specs.Guard.{guarded}
use Rattle.papers.specs.Reported.{reporting}
use Rattle.pictures.specs.Objects.{Token}
use Rattle.pictures.specs.Operators.{Work}
use Rattle.pictures.specs.Machine.{State, Painting}
use Rattle.pictures.specs.Scanner.{tokens}
use Rattle.pictures.specs.Kept.{comments_apart_with, preamble_comments_apart}
use Rattle.pictures.specs.Sheets.{Shown, run_of, placed_tokens, page_picture}
use Rattle.pictures.specs.Documents.{page_frame, FirstHas, OnSheetsFrom, all_sheets}
use Rattle.pictures.specs.Shelter.{outline_tokens}
use Rattle.pictures.specs.Lines.{with_asking}
use Rattle.pictures.specs.Pages.{state_after_sheets}
use Rattle.pictures.specs.GuardedImposed.{AreReportedAsOne}
use Rattle.pictures.specs.OwnShowpage.{HasItsOwn, asking}
use Rattle.open_pictures.specs.Machine.{Further, OpenRuns}
use Rattle.open_pictures.specs.Blindness.{RunsPreambles}
use Rattle.open_pictures.specs.Documents.{begun_machine, OpenPreambleRuns}
use Rattle.open_pictures.specs.Shelter.{IsPlacelessThere, OpenPaintsSheltered}
use Rattle.open_pictures.specs.Pages.{OpenGuardedPagePaints}

-- a placed page paints what it paints by itself after the dictionary's showpage was made one that asks userdict, placed: a
-- law
abbrev pub OpenOwnPageIsPlaced : Type 0
OpenOwnPageIsPlaced =
    (x : Further) (d : ℕ) (s : State) (y : Shown) (rest : List Token) → IsPlacelessThere x → HasItsOwn d s
    → OpenPaintsSheltered x [] (with_asking d s) (outline_tokens y.placed.numbers) y.placed.body y.picture
    → OpenRuns x false (run_of (placed_tokens y.placed ++ rest) s)
    (record (with_asking d s) { left = rest; painted = page_picture s.graphics y ++ s.painted })

-- each page paints its picture by itself in the state in which it begins
abbrev pub OpenPaintsFrom :
    Further → Option Border → List NestedUnit → (ℕ → List Painting) → (ℕ → State) → ℕ → Paper → ℕ → Type 0
OpenPaintsFrom x border us picture at k own p =
    OpenGuardedPagePaints x (page_frame border own) us (at (suc k)) p (picture p)

-- Of what impose makes of such a document by a specification, with the guard put in: a machine prints, sheet by sheet, the
-- pictures of the document's pages, placed, if the first sheet has a page: a law
abbrev pub OpenOwnShowpageIsShown : Type 0
OpenOwnShowpageIsShown =
    (x z : Further) (w : Work) (sheet : Option Paper) (frame : Frame) (sides : Option ℕ) (spec : Spec) (text : List ℕ)
    (us : List NestedUnit) (picture : ℕ → List Painting) (d : ℕ) (s : State)
    → IsPlacelessThere x → RunsPreambles x z → document_of text ≡ Ok us → length (guarded sheet text) ≤ most_input_bytes
    → preamble_comments_apart (units_of (guarded sheet text)) ≡ true
    → OpenPreambleRuns z w (HasItsOwn d) (bytes_of (preamble (units_of (guarded sheet text)))) s
    → FirstHas 1 (all_sheets frame sides spec us)
    → OnSheetsFrom (OpenPaintsFrom x frame.border us picture (asking d s)) 0 (all_sheets frame sides spec us)
    → OpenRuns z false (begun_machine w (tokens (output frame sides spec (units_of (guarded sheet text)))))
    (state_after_sheets (asking d s) frame.border (units_of (guarded sheet text)) picture (all_sheets frame sides spec us))

-- and of all else that impose makes of it on sheets that are reported as one paper: a law
abbrev pub OpenOwnMadeDocumentIsShown : Type 0
OpenOwnMadeDocumentIsShown =
    (x z : Further) (w : Work) (sheet : Option Paper) (border : Option Border) (all : List MadeSheet) (text : List ℕ)
    (us : List NestedUnit) (picture : ℕ → List Painting) (d : ℕ) (s : State)
    → IsPlacelessThere x → RunsPreambles x z → AreReportedAsOne all → document_of text ≡ Ok us
    → length (guarded sheet text) ≤ most_input_bytes → comments_apart_with (reporting all).header (units_of (guarded sheet text)) ≡ true
    → OpenPreambleRuns z w (HasItsOwn d) (bytes_of (preamble (units_of (guarded sheet text)))) s
    → FirstHas 1 all → OnSheetsFrom (OpenPaintsFrom x border us picture (asking d s)) 0 all
    → OpenRuns z false (begun_machine w (tokens (made_output border (reporting all) all (units_of (guarded sheet text)))))
    (state_after_sheets (asking d s) border (units_of (guarded sheet text)) picture all)
