-- Every sheet that impose writes of a guarded document, on papers of any sizes, with marks and lines for notes: what a
-- machine prints of it.
use Rattle.std.specs.Prelude.{◌≡◌, ℕ, ◌<◌, ◌≤◌, List, [], ◌∷◌, false, true, length, map, Option, Ok}
use Rattle.rules.specs.Papers.{Paper}
use Rattle.rules.specs.Parts.{NestedUnit, preamble, bytes_of}
use Rattle.rules.specs.Filters.{trailer_text}
use Rattle.rules.specs.Run.{document_of, most_input_bytes}
use Rattle.rules.specs.Output.{Border}
use Rattle.rules.specs.Made.{MadeSheet}
use Rattle.rules.specs.MadeOutput.{made_output}
use Rattle.dsc.specs.Units.{units_of}
use Rattle.guard.specs.Guard.{guarded}
use Rattle.papers.specs.Reported.{papers_reported, reporting}
use Rattle.dressing.specs.Drawn.{strokes_added}
use Rattle.dressing.specs.declared.strokes.Stroke.{Stroke}
use Rattle.pictures.specs.Operators.{Work}
use Rattle.pictures.specs.Machine.{State, Graphics, Painting, Runs}
use Rattle.pictures.specs.Scanner.{tokens}
use Rattle.pictures.specs.Kept.{comments_apart_with}
use Rattle.pictures.specs.Sheets.{sheet_picture}
use Rattle.pictures.specs.Documents.{started, page_frame, shown_sheet, PreambleRuns, OnSlots}
use Rattle.pictures.specs.Pages.{IsGuarded, GuardedPagePaints}
use Rattle.open_pictures.specs.Machine.{Further, OpenRuns}
use Rattle.open_pictures.specs.Blindness.{RunsPreambles}
use Rattle.open_pictures.specs.Documents.{begun_machine, OpenPreambleRuns}
use Rattle.open_pictures.specs.Shelter.{IsPlacelessThere}
use Rattle.open_pictures.specs.Pages.{OpenGuardedPagePaints}
use Rattle.open_pictures.specs.Marks.{marking_names, with_strokes}
use Rattle.open_pictures.specs.Sizes.{MeanOperators, sizing_names, begun_on}

-- the papers as which sheets are reported
abbrev pub papers_reported_by : List MadeSheet → List Paper
papers_reported_by all = papers_reported (map (λ sheet. sheet.paper) all)

-- the operators that the lines of such sheets use are there
pub record TakesLines (reported : List Paper) (strokes : List Stroke) (s : State) : Type 0 where
  pub sizes : 2 ≤ length reported → MeanOperators sizing_names s
  pub marks : 0 < length strokes → MeanOperators marking_names s

-- this holds for each page on these sheets, in the state in which its sheet's pages begin, and its paper
abbrev pub OnSheetsBegun : (reported : List Paper) → (State → Paper → ℕ → Type 0) → State → List MadeSheet → Type 0
OnSheetsBegun reported P s [] = Unit {0}
OnSheetsBegun reported P s (sheet ∷ all) =
    OnSlots (P (begun_on reported sheet.paper s)) sheet.slots × OnSheetsBegun reported P (begun_on reported sheet.paper s) all

-- the state after them
abbrev pub after_sheets : (reported : List Paper) → State → List MadeSheet → State
after_sheets reported s [] = s
after_sheets reported s (sheet ∷ all) = after_sheets reported (begun_on reported sheet.paper s) all

-- the picture that each sheet should have, the latest sheet first: the pictures of its slots, in order, and its strokes
abbrev pub dressed_pictures :
    Option Border → List Stroke → List NestedUnit → (ℕ → List Painting) → Graphics → List MadeSheet
    → (before : List (List Painting)) → List (List Painting)
dressed_pictures border strokes us picture g [] before = before
dressed_pictures border strokes us picture g (sheet ∷ all) before =
    dressed_pictures border strokes us picture g all
    (with_strokes g strokes (sheet_picture g (shown_sheet border us picture sheet) []) ∷ before)

-- the state after the sheets of a document, with the trailer to run
abbrev pub dressed_at :
    Option Border → List Stroke → List NestedUnit → (ℕ → List Painting) → State → List MadeSheet → State
dressed_at border strokes us picture s all = record (after_sheets (papers_reported_by all) s all) {
  left = tokens (trailer_text us);
  painted = [];
  sheets = dressed_pictures border strokes us picture s.graphics all s.sheets;
}

-- Of all that impose writes of an accepted document, with the guard put in: if each page paints a picture by itself, then
-- the machine prints, sheet by sheet, those pictures, placed, each sheet's strokes after them: a law
abbrev pub DressedDocumentIsShown : Type 0
DressedDocumentIsShown =
    (sheet : Option Paper) (border : Option Border) (strokes : List Stroke) (all : List MadeSheet) (text : List ℕ)
    (us : List NestedUnit) (picture : ℕ → List Painting) (s : State)
    → document_of text ≡ Ok us → length (guarded sheet text) ≤ most_input_bytes
    → comments_apart_with (reporting all).header (units_of (guarded sheet text)) ≡ true
    → PreambleRuns IsGuarded (bytes_of (preamble (units_of (guarded sheet text)))) s
    → TakesLines (papers_reported_by all) strokes s
    → OnSheetsBegun (papers_reported_by all) (λ at own p. GuardedPagePaints (page_frame border own) us at p (picture p)) s all
    → Runs false (started (tokens (made_output border (strokes_added strokes (reporting all)) all (units_of (guarded sheet text)))))
    (dressed_at border strokes (units_of (guarded sheet text)) picture s all)

-- the same with any further operators that are placeless there, and any for the preamble: a law
abbrev pub OpenDressedDocumentIsShown : Type 0
OpenDressedDocumentIsShown =
    (x z : Further) (w : Work) (sheet : Option Paper) (border : Option Border) (strokes : List Stroke)
    (all : List MadeSheet) (text : List ℕ) (us : List NestedUnit) (picture : ℕ → List Painting) (s : State)
    → IsPlacelessThere x → RunsPreambles x z → document_of text ≡ Ok us → length (guarded sheet text) ≤ most_input_bytes
    → comments_apart_with (reporting all).header (units_of (guarded sheet text)) ≡ true
    → OpenPreambleRuns z w IsGuarded (bytes_of (preamble (units_of (guarded sheet text)))) s
    → TakesLines (papers_reported_by all) strokes s
    → OnSheetsBegun (papers_reported_by all) (λ at own p. OpenGuardedPagePaints x (page_frame border own) us at p (picture p)) s all
    → OpenRuns z false (begun_machine w (tokens (made_output border (strokes_added strokes (reporting all)) all (units_of (guarded sheet text)))))
    (dressed_at border strokes (units_of (guarded sheet text)) picture s all)
