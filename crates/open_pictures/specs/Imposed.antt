-- What impose makes of a guarded document on sheets that are reported as one paper, in a machine with further operators.
use Rattle.std.specs.Prelude.{◌≡◌, ℕ, ◌≤◌, List, true, length, Option, Ok}
use Rattle.rules.specs.Papers.{Paper}
use Rattle.rules.specs.Parts.{NestedUnit, preamble, bytes_of}
use Rattle.rules.specs.Run.{document_of, most_input_bytes}
use Rattle.rules.specs.Output.{Border}
use Rattle.rules.specs.Made.{MadeSheet}
use Rattle.dsc.specs.Units.{units_of}
use Rattle.guard.specs.Guard.{guarded}
use Rattle.papers.specs.Reported.{reporting}
use Rattle.pictures.specs.Operators.{Work}
use Rattle.pictures.specs.Machine.{State, Painting}
use Rattle.pictures.specs.Kept.{comments_apart_with}
use Rattle.pictures.specs.Documents.{page_frame, OnSheets}
use Rattle.pictures.specs.Pages.{IsGuarded}
use Rattle.pictures.specs.GuardedImposed.{AreReportedAsOne}
use Rattle.open_pictures.specs.Machine.{Further}
use Rattle.open_pictures.specs.Blindness.{RunsPreambles}
use Rattle.open_pictures.specs.Documents.{OpenPreambleRuns, OpenMadeIsPrinted}
use Rattle.open_pictures.specs.Shelter.{IsPlacelessThere}
use Rattle.open_pictures.specs.Pages.{OpenGuardedPagePaints}

-- What impose writes of such sheets, with the guard put in: the document's own pages are shown, each on its own paper,
-- with any further operators that are placeless there, and any for the preamble: a law
abbrev pub OpenMadeDocumentIsShown : Type 0
OpenMadeDocumentIsShown =
    (x z : Further) (w : Work) (sheet : Option Paper) (border : Option Border) (all : List MadeSheet) (text : List ℕ)
    (us : List NestedUnit) (picture : ℕ → List Painting) (s : State)
    → IsPlacelessThere x → RunsPreambles x z → AreReportedAsOne all → document_of text ≡ Ok us → length (guarded sheet text) ≤ most_input_bytes
    → comments_apart_with (reporting all).header (units_of (guarded sheet text)) ≡ true
    → OpenPreambleRuns z w IsGuarded (bytes_of (preamble (units_of (guarded sheet text)))) s
    → OnSheets (λ own p. OpenGuardedPagePaints x (page_frame border own) us s p (picture p)) all
    → OpenMadeIsPrinted z w border (reporting all) all (units_of (guarded sheet text)) picture s
