-- Every sheet that impose writes without the guard: what a machine prints of it.
use Rattle.std.specs.Prelude.{◌≡◌, ℕ, ◌≤◌, List, [], ◌∷◌, false, true, length, Option, Ok, codes}
use Rattle.rules.specs.Papers.{Paper}
use Rattle.rules.specs.Parts.{NestedUnit, preamble, bytes_of}
use Rattle.rules.specs.Run.{document_of}
use Rattle.rules.specs.Output.{Border}
use Rattle.rules.specs.Made.{MadeSheet}
use Rattle.rules.specs.MadeOutput.{made_output}
use Rattle.papers.specs.Reported.{reporting}
use Rattle.dressing.specs.Drawn.{strokes_added}
use Rattle.dressing.specs.declared.strokes.Stroke.{Stroke}
use Rattle.pictures.specs.Operators.{Work}
use Rattle.pictures.specs.Machine.{State, Painting, Runs}
use Rattle.pictures.specs.Scanner.{tokens}
use Rattle.pictures.specs.Kept.{comments_apart_with}
use Rattle.pictures.specs.Documents.{started, PreambleRuns}
use Rattle.pictures.specs.Unaware.{IsPlainGround, PagePrints, absent}
use Rattle.open_pictures.specs.Machine.{Further, OpenRuns}
use Rattle.open_pictures.specs.Blindness.{IsBlind, RunsPreambles}
use Rattle.open_pictures.specs.Documents.{begun_machine, OpenPreambleRuns, OpenPagePrints}
use Rattle.open_pictures.specs.Sizes.{MeanOperators}
use Rattle.open_pictures.specs.DressedDocuments.{papers_reported_by, TakesLines, OnSheetsBegun, dressed_at}

-- the other operators that are asked whether userdict has a showpage
abbrev pub asking_names : List (List ℕ)
asking_names = codes "userdict" ∷ codes "copy" ∷ codes "true" ∷ []

-- the operators that the lines of such sheets use are there, and no dictionary on the stack has psutils' flag, which would
-- be asked first
pub record TakesPlainLines (reported : List Paper) (strokes : List Stroke) (s : State) : Type 0 where
  pub lines : TakesLines reported strokes s
  pub asks : 2 ≤ length reported → MeanOperators asking_names s
  pub no_flag : 2 ≤ length reported → absent s.work.dictionaries s.work.entries (codes "PStoPSenablepage") ≡ true

-- Of all that impose writes of an accepted document without the guard: if each page prints a picture of itself, then the
-- machine prints, sheet by sheet, those pictures, placed, each sheet's strokes after them: a law
abbrev pub DressedSheetsShowThePages : Type 0
DressedSheetsShowThePages =
    (border : Option Border) (strokes : List Stroke) (all : List MadeSheet) (text : List ℕ) (us : List NestedUnit)
    (picture : ℕ → List Painting) (s : State)
    → document_of text ≡ Ok us → comments_apart_with (reporting all).header us ≡ true
    → PreambleRuns IsPlainGround (bytes_of (preamble us)) s → TakesPlainLines (papers_reported_by all) strokes s
    → OnSheetsBegun (papers_reported_by all) (λ at own p. PagePrints us at p (picture p)) s all
    → Runs false (started (tokens (made_output border (strokes_added strokes (reporting all)) all us)))
    (dressed_at border strokes us picture s all)

-- the same with any further operators that are blind, and any for the preamble: a law
abbrev pub OpenDressedSheetsShowThePages : Type 0
OpenDressedSheetsShowThePages =
    (x z : Further) (w : Work) (border : Option Border) (strokes : List Stroke) (all : List MadeSheet) (text : List ℕ)
    (us : List NestedUnit) (picture : ℕ → List Painting) (s : State)
    → IsBlind x → RunsPreambles x z → document_of text ≡ Ok us → comments_apart_with (reporting all).header us ≡ true
    → OpenPreambleRuns z w IsPlainGround (bytes_of (preamble us)) s → TakesPlainLines (papers_reported_by all) strokes s
    → OnSheetsBegun (papers_reported_by all) (λ at own p. OpenPagePrints x us at p (picture p)) s all
    → OpenRuns z false (begun_machine w (tokens (made_output border (strokes_added strokes (reporting all)) all us)))
    (dressed_at border strokes us picture s all)
