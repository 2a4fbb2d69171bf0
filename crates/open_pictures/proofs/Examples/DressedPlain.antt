-- The law without the guard, at a document of two pages: both on a wide sheet, in the other order, and the first one on a sheet
-- of its own size, which is reported as a second paper. Each sheet has a stroke.
use Rattle.std.proofs.Common.{List, [], ◌∷◌, refl, None, false}
use Rattle.std.specs.Prelude.{codes, pos}
use Rattle.std.specs.Fmt.{digits}
use Rattle.rules.specs.Parts.{preamble, bytes_of}
use Rattle.rules.specs.Made.{Placed, MadeSheet}
use Rattle.rules.specs.MadeOutput.{made_output}
use Rattle.papers.specs.Reported.{reporting}
use Rattle.dressing.specs.Drawn.{strokes_added}
use Rattle.pictures.specs.Objects.{Call}
use Rattle.pictures.specs.Machine.{State, Graphics, Runs, step}
use Rattle.pictures.specs.Scanner.{tokens}
use Rattle.pictures.specs.Documents.{started, PreambleRuns}
use Rattle.pictures.specs.Unaware.{IsPlainGround, PagePrints, unaware_step}
use Rattle.pictures.proofs.Examples.Applied.{page_prints}
use Rattle.pictures.proofs.Examples.ByHand.{says}
use Rattle.pictures.proofs.Examples.OnTwoSheets.{document, us, ready, plain, picture}
use Rattle.pictures.proofs.Examples.AppliedMade.{stands, wide, own}
use Rattle.open_pictures.specs.Sizes.{sized}
use Rattle.open_pictures.specs.DressedDocuments.{papers_reported_by, dressed_at}
use Rattle.open_pictures.specs.Unguarded.{TakesPlainLines}
use Rattle.open_pictures.proofs.Unguarded.{ground_still, dressed_sheets_show_the_pages}
use Rattle.open_pictures.proofs.Examples.DressedApplied.{marks}

abbrev all : List MadeSheet
all =
    record { paper = wide; slots = Placed 1 (stands (pos 0)) own ∷ Placed 0 (stands (pos 200)) own ∷ [] }
    ∷ record { paper = own; slots = Placed 0 (stands (pos 0)) own ∷ [] } ∷ []

preamble_runs : PreambleRuns IsPlainGround (bytes_of (preamble us)) ready
unfolding digits
preamble_runs = (refl, (0, refl), refl, refl, refl, plain)

-- the document has defined nothing
takes : TakesPlainLines (papers_reported_by all) marks ready
takes = record {
  lines = record { sizes = λ le name m. refl; marks = λ lt name m. refl };
  asks = λ le name m. refl;
  no_flag = λ le. refl;
}

-- the states in which the sheets' pages begin
abbrev on_wide : State
on_wide = sized wide ready

abbrev on_its_own : State
on_its_own = sized own on_wide

plain_on_wide : IsPlainGround on_wide
plain_on_wide = ground_still ready wide plain

abbrev set_to : List Call → Graphics
set_to settings = record { chain = []; path = []; clip = []; settings = settings }

abbrev gray : Graphics
gray = set_to (says (codes ".5 setgray") ∷ [])

first_on_wide : PagePrints us on_wide 0 (picture 0)
unfolding digits
first_on_wide = page_prints (step false) unaware_step us on_wide 0 9 gray (picture 0) plain_on_wide refl refl refl refl refl refl

second_on_wide : PagePrints us on_wide 1 (picture 1)
unfolding digits
second_on_wide = page_prints (step false) unaware_step us on_wide 1 7 (set_to []) (picture 1) plain_on_wide refl refl refl refl refl refl

first_on_its_own : PagePrints us on_its_own 0 (picture 0)
unfolding digits
first_on_its_own =
    page_prints (step false) unaware_step us on_its_own 0 9 gray (picture 0) (ground_still on_wide own plain_on_wide) refl refl refl refl refl refl

-- so the sheets show the pages, each with its stroke
shown : Runs false (started (tokens (made_output None (strokes_added marks (reporting all)) all us))) (dressed_at None marks us picture ready all)
unfolding digits
shown =
    dressed_sheets_show_the_pages None marks all document us picture ready refl refl preamble_runs takes
    ((second_on_wide, (first_on_wide, tt)), ((first_on_its_own, tt), tt))
