-- What impose makes of a guarded document on sheets that are reported as one paper, by whatever layout.
use Rattle.std.specs.Prelude.{◌≡◌, ℕ, ◌≤◌, List, [], ◌∷◌, true, false, length, map, Option, Ok}
use Rattle.rules.specs.Papers.{Paper}
use Rattle.rules.specs.Parts.{NestedUnit, preamble, bytes_of}
use Rattle.rules.specs.Run.{document_of, most_input_bytes}
use Rattle.rules.specs.Output.{Border}
use Rattle.rules.specs.Made.{MadeSheet}
use Rattle.rules.specs.MadeOutput.{made_output}
use Rattle.dsc.specs.Units.{units_of}
use Rattle.guard.specs.Guard.{guarded}
use Rattle.papers.specs.Reported.{papers_reported, reporting}
use Rattle.pictures.specs.Machine.{State, Painting, Runs}
use Rattle.pictures.specs.Scanner.{tokens}
use Rattle.pictures.specs.Kept.{comments_apart_with}
use Rattle.pictures.specs.Documents.{started, page_frame, PreambleRuns, FirstHas, OnSheets, OnSheetsFrom}
use Rattle.pictures.specs.Imposed.{IsQuiet, MadeIsPrinted}
use Rattle.pictures.specs.Pages.{IsGuarded, GuardedPagePaints, PaintsFrom, state_after_sheets}
use Rattle.pictures.specs.OwnShowpage.{HasItsOwn, asking}
use Rattle.pictures.specs.Silenced.{IsSilenced, after_pages}

-- all sheets have this paper
abbrev pub AreOn : Paper → List MadeSheet → Type 0
AreOn paper [] = Unit {0}
AreOn paper (sheet ∷ all) = (sheet.paper ≡ paper) × AreOn paper all

-- the sheets are reported as one paper, so in the header alone
abbrev pub AreReportedAsOne : List MadeSheet → Type 0
AreReportedAsOne all = length (papers_reported (map (λ sheet. sheet.paper) all)) ≤ 1

-- sheets of one paper are: a law
abbrev pub OnePaperIsReportedAsOne : Type 0
OnePaperIsReportedAsOne = (paper : Paper) (all : List MadeSheet) → AreOn paper all → AreReportedAsOne all

-- and of such sheets the lines that report their paper are comments: a law
abbrev pub ReportingIsQuiet : Type 0
ReportingIsQuiet = (all : List MadeSheet) → AreReportedAsOne all → IsQuiet (reporting all)

-- What impose writes of such sheets, with the lines by which they report their paper, and with the guard put in: the
-- document's own pages are shown, each on its own paper, under the premises of a specification's sheets: a law
abbrev pub MadeDocumentIsShown : Type 0
MadeDocumentIsShown =
    (sheet : Option Paper) (border : Option Border) (all : List MadeSheet) (text : List ℕ) (us : List NestedUnit)
    (picture : ℕ → List Painting) (s : State)
    → AreReportedAsOne all → document_of text ≡ Ok us → length (guarded sheet text) ≤ most_input_bytes
    → comments_apart_with (reporting all).header (units_of (guarded sheet text)) ≡ true
    → PreambleRuns IsGuarded (bytes_of (preamble (units_of (guarded sheet text)))) s
    → OnSheets (λ own p. GuardedPagePaints (page_frame border own) us s p (picture p)) all
    → MadeIsPrinted border (reporting all) all (units_of (guarded sheet text)) picture s

-- the same of a document with a showpage of its own, if the first sheet has a page: a law
abbrev pub OwnMadeDocumentIsShown : Type 0
OwnMadeDocumentIsShown =
    (sheet : Option Paper) (border : Option Border) (all : List MadeSheet) (text : List ℕ) (us : List NestedUnit)
    (picture : ℕ → List Painting) (d : ℕ) (s : State)
    → AreReportedAsOne all → document_of text ≡ Ok us → length (guarded sheet text) ≤ most_input_bytes
    → comments_apart_with (reporting all).header (units_of (guarded sheet text)) ≡ true
    → PreambleRuns (HasItsOwn d) (bytes_of (preamble (units_of (guarded sheet text)))) s
    → FirstHas 1 all → OnSheetsFrom (PaintsFrom border us picture (asking d s)) 0 all
    → Runs false (started (tokens (made_output border (reporting all) all (units_of (guarded sheet text)))))
    (state_after_sheets (asking d s) border (units_of (guarded sheet text)) picture all)

-- and of one that leaves userdict's showpage empty: a law
abbrev pub SilencedMadeDocumentIsShown : Type 0
SilencedMadeDocumentIsShown =
    (sheet : Option Paper) (border : Option Border) (all : List MadeSheet) (text : List ℕ) (us : List NestedUnit)
    (picture : ℕ → List Painting) (s : State)
    → AreReportedAsOne all → document_of text ≡ Ok us → length (guarded sheet text) ≤ most_input_bytes
    → comments_apart_with (reporting all).header (units_of (guarded sheet text)) ≡ true
    → PreambleRuns IsSilenced (bytes_of (preamble (units_of (guarded sheet text)))) s
    → FirstHas 1 all → OnSheetsFrom (PaintsFrom border us picture (after_pages s)) 0 all
    → Runs false (started (tokens (made_output border (reporting all) all (units_of (guarded sheet text)))))
    (state_after_sheets (after_pages s) border (units_of (guarded sheet text)) picture all)
