-- Guarded documents that leave userdict's showpage empty, in a machine with further operators.
use Rattle.std.specs.Prelude.{◌≡◌, ℕ, ◌≤◌, List, [], ◌++◌, false, true, length, Option, Ok}
use Rattle.rules.specs.Papers.{Paper}
use Rattle.rules.specs.Specification.{Spec}
use Rattle.rules.specs.Parts.{NestedUnit, preamble, bytes_of}
use Rattle.rules.specs.Run.{document_of, most_input_bytes}
use Rattle.rules.specs.Output.{Border, Frame, output}
use Rattle.rules.specs.Made.{MadeSheet}
use Rattle.rules.specs.MadeOutput.{made_output}
use Rattle.dsc.specs.Units.{units_of}
use Rattle.guard.specs.Guard.{guarded}
use Rattle.papers.specs.Reported.{reporting}
use Rattle.pictures.specs.Objects.{Token}
use Rattle.pictures.specs.Operators.{Work}
use Rattle.pictures.specs.Machine.{State, Painting}
use Rattle.pictures.specs.Scanner.{tokens}
use Rattle.pictures.specs.Kept.{comments_apart_with, preamble_comments_apart}
use Rattle.pictures.specs.Sheets.{Shown, run_of, placed_tokens, page_picture}
use Rattle.pictures.specs.Documents.{FirstHas, OnSheetsFrom, all_sheets}
use Rattle.pictures.specs.Shelter.{outline_tokens}
use Rattle.pictures.specs.Pages.{state_after_sheets}
use Rattle.pictures.specs.GuardedImposed.{AreReportedAsOne}
use Rattle.pictures.specs.Silenced.{IsSilenced, with_showpage, after_pages}
use Rattle.open_pictures.specs.Machine.{Further, OpenRuns}
use Rattle.open_pictures.specs.Blindness.{RunsPreambles}
use Rattle.open_pictures.specs.Documents.{begun_machine, OpenPreambleRuns}
use Rattle.open_pictures.specs.Shelter.{IsPlacelessThere, OpenPaintsSheltered}
use Rattle.open_pictures.specs.OwnShowpage.{OpenPaintsFrom}

-- a placed page paints what it paints by itself after the guard's showpage was put there again, placed: a law
abbrev pub OpenSilencedPageIsPlaced : Type 0
OpenSilencedPageIsPlaced =
    (x : Further) (s : State) (y : Shown) (rest : List Token) → IsPlacelessThere x → IsSilenced s
    → OpenPaintsSheltered x [] (with_showpage s) (outline_tokens y.placed.numbers) y.placed.body y.picture
    → OpenRuns x false (run_of (placed_tokens y.placed ++ rest) s)
    (record (with_showpage s) { left = rest; painted = page_picture s.graphics y ++ s.painted })

-- Of what impose makes of such a document by a specification, with the guard put in: a machine prints, sheet by sheet, the
-- pictures of the document's pages, placed, if the first sheet has a page: a law
abbrev pub OpenSilencedDocumentIsShown : Type 0
OpenSilencedDocumentIsShown =
    (x z : Further) (w : Work) (sheet : Option Paper) (frame : Frame) (sides : Option ℕ) (spec : Spec) (text : List ℕ)
    (us : List NestedUnit) (picture : ℕ → List Painting) (s : State)
    → IsPlacelessThere x → RunsPreambles x z → document_of text ≡ Ok us → length (guarded sheet text) ≤ most_input_bytes
    → preamble_comments_apart (units_of (guarded sheet text)) ≡ true
    → OpenPreambleRuns z w IsSilenced (bytes_of (preamble (units_of (guarded sheet text)))) s
    → FirstHas 1 (all_sheets frame sides spec us)
    → OnSheetsFrom (OpenPaintsFrom x frame.border us picture (after_pages s)) 0 (all_sheets frame sides spec us)
    → OpenRuns z false (begun_machine w (tokens (output frame sides spec (units_of (guarded sheet text)))))
    (state_after_sheets (after_pages s) frame.border (units_of (guarded sheet text)) picture (all_sheets frame sides spec us))

-- and of all else that impose makes of it on sheets that are reported as one paper: a law
abbrev pub OpenSilencedMadeDocumentIsShown : Type 0
OpenSilencedMadeDocumentIsShown =
    (x z : Further) (w : Work) (sheet : Option Paper) (border : Option Border) (all : List MadeSheet) (text : List ℕ)
    (us : List NestedUnit) (picture : ℕ → List Painting) (s : State)
    → IsPlacelessThere x → RunsPreambles x z → AreReportedAsOne all → document_of text ≡ Ok us
    → length (guarded sheet text) ≤ most_input_bytes → comments_apart_with (reporting all).header (units_of (guarded sheet text)) ≡ true
    → OpenPreambleRuns z w IsSilenced (bytes_of (preamble (units_of (guarded sheet text)))) s
    → FirstHas 1 all → OnSheetsFrom (OpenPaintsFrom x border us picture (after_pages s)) 0 all
    → OpenRuns z false (begun_machine w (tokens (made_output border (reporting all) all (units_of (guarded sheet text)))))
    (state_after_sheets (after_pages s) border (units_of (guarded sheet text)) picture all)
