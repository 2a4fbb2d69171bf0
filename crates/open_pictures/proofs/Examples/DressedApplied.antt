-- The law at the guarded document of two pages: both pages on a wide sheet, in the other order, and the first one on a sheet of its
-- own size, which is reported as a second paper. Each sheet has a stroke.
use Rattle.std.proofs.Common.{◌≡◌, ℕ, List, [], ◌∷◌, refl, None, false, arith}
use Rattle.std.specs.Prelude.{pos, ◌*ℤ◌}
use Rattle.std.specs.Fmt.{digits}
use Rattle.rules.specs.Made.{Placed, MadeSheet}
use Rattle.rules.specs.MadeOutput.{made_output}
use Rattle.dsc.specs.Units.{units_of}
use Rattle.guard.specs.Guard.{guarded}
use Rattle.papers.specs.Reported.{reporting}
use Rattle.dressing.specs.Drawn.{strokes_added}
use Rattle.dressing.specs.declared.strokes.Stroke.{Stroke}
use Rattle.pictures.specs.Machine.{State, Runs}
use Rattle.pictures.specs.Scanner.{tokens}
use Rattle.pictures.specs.Documents.{started, document_page}
use Rattle.pictures.proofs.Examples.Premises.{frame}
use Rattle.pictures.specs.Shelter.{sheltered}
use Rattle.pictures.specs.Pages.{GuardedPagePaints, outline_of}
use Rattle.pictures.proofs.Absent.{known}
use Rattle.pictures.proofs.Examples.GuardedApplied.{paper, text, us, behind, preamble_runs, picture, at_most}
use Rattle.pictures.proofs.Examples.AppliedMade.{stands, wide, own}
use Rattle.open_pictures.specs.Marks.{marking_names}
use Rattle.open_pictures.specs.Sizes.{sizing_names, sized}
use Rattle.open_pictures.specs.DressedDocuments.{papers_reported_by, TakesLines, dressed_at}
use Rattle.open_pictures.proofs.AllSheets.{dressed_document_is_shown}

abbrev all : List MadeSheet
all =
    record { paper = wide; slots = Placed 1 (stands (pos 0)) own ∷ Placed 0 (stands (pos 200)) own ∷ [] }
    ∷ record { paper = own; slots = Placed 0 (stands (pos 0)) own ∷ [] } ∷ []

abbrev pub marks : List Stroke
marks = record { start = (pos 200 *ℤ pos 127_000_000_000, pos 0); end = (pos 200 *ℤ pos 127_000_000_000, pos 10 *ℤ pos 127_000_000_000) } ∷ []

told : papers_reported_by all ≡ wide ∷ own ∷ []
told = refl

-- the lines' names mean the operators
takes : TakesLines (papers_reported_by all) marks behind
takes = record {
  sizes = λ le. known sizing_names behind.work.dictionaries behind.work.entries refl;
  marks = λ lt. known marking_names behind.work.dictionaries behind.work.entries refl;
}

-- the pages paint the same in the states in which they begin
abbrev end_in : State → ℕ → ℕ → State
end_in s p n = at_most [] (outline_of frame) n (sheltered [] s (outline_of frame) (tokens (document_page us p)))

first_on_wide : GuardedPagePaints frame us (sized wide behind) 0 (picture 0)
unfolding digits
first_on_wide = (
  refl,
  refl,
  record {
    end = end_in (sized wide behind) 0 12;
    run = (12, refl);
    leaves = record { nothing_left = refl; operands = refl; dictionaries = refl; saves = refl; save_name = refl; restore_name = refl };
    picture_is = refl;
  },
)

second_on_wide : GuardedPagePaints frame us (sized wide behind) 1 (picture 1)
unfolding digits
second_on_wide = (
  refl,
  refl,
  record {
    end = end_in (sized wide behind) 1 9;
    run = (9, refl);
    leaves = record { nothing_left = refl; operands = refl; dictionaries = refl; saves = refl; save_name = refl; restore_name = refl };
    picture_is = refl;
  },
)

first_on_its_own : GuardedPagePaints frame us (sized own (sized wide behind)) 0 (picture 0)
unfolding digits
first_on_its_own = (
  refl,
  refl,
  record {
    end = end_in (sized own (sized wide behind)) 0 12;
    run = (12, refl);
    leaves = record { nothing_left = refl; operands = refl; dictionaries = refl; saves = refl; save_name = refl; restore_name = refl };
    picture_is = refl;
  },
)

-- so the sheets show the pages, each with its stroke
shown : Runs false (started (tokens (made_output None (strokes_added marks (reporting all)) all (units_of (guarded paper text))))) (dressed_at None marks (units_of (guarded paper text)) picture behind all)
unfolding digits
shown = dressed_document_is_shown paper None marks all text us picture behind refl (omega arith) refl preamble_runs takes ((second_on_wide, (first_on_wide, tt)), ((first_on_its_own, tt), tt))
