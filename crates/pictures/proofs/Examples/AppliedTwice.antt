-- The law over two runs at a document whose one page resets, its clip again while there is a path: its premises hold.
use Rattle.std.proofs.Common.{ℕ, List, [], ◌∷◌, refl, None, arith}
use Rattle.std.specs.Prelude.{codes}
use Rattle.std.specs.Fmt.{digits}
use Rattle.rules.specs.Specification.{Item}
use Rattle.rules.specs.Parts.{NestedUnit, preamble, bytes_of}
use Rattle.guard.specs.Guard.{guarded}
use Rattle.pictures.specs.Machine.{State, Painting}
use Rattle.pictures.specs.Scanner.{tokens}
use Rattle.pictures.specs.Documents.{numbers_of, document_page, PreambleRuns, all_sheets, IsPrintedSheets}
use Rattle.pictures.proofs.Examples.Premises.{document_with, half, frame}
use Rattle.pictures.proofs.Examples.Applied.{units}
use Rattle.pictures.specs.Shelter.{Outer, sheltered}
use Rattle.pictures.specs.Pages.{IsGuarded, outline_of}
use Rattle.pictures.specs.SheetsOfSheets.{page_round, page_begun, TakesSheets, PagePaintsWithin}
use Rattle.pictures.specs.TwoMadeRuns.{made_run_picture, units_again}
use Rattle.pictures.proofs.GuardedPlaced.{takes_pages}
use Rattle.pictures.proofs.TwoMadeRuns.{two_runs_are_shown}
use Rattle.pictures.proofs.Examples.GuardedApplied.{paper, behind, guarded_behind, at_most}

abbrev pub text : List ℕ
text = guarded paper (document_with (codes "/e {showpage} bind def") (codes "initgraphics 0 0 moveto 9 9 lineto initclip stroke e" ∷ []))

abbrev pub us : List NestedUnit
us = units text

abbrev again : List NestedUnit
again = units_again paper frame None half us

-- there are two guards in the preamble, of which the second does nothing
preamble_runs : PreambleRuns IsGuarded (bytes_of (preamble again)) behind
unfolding digits
preamble_runs = (refl, (275, refl), refl, refl, refl, guarded_behind)

pub takes_sheets : TakesSheets [] behind
takes_sheets = record { takes = takes_pages behind guarded_behind; above = refl; outermost = refl; restore_is = refl; new = refl; older = tt }

abbrev round : Item → List Outer
round item = page_round [] behind (numbers_of frame item) ∷ []

abbrev begun : Item → State
begun item = sheltered (round item) (page_begun [] behind (numbers_of frame item)) (outline_of frame) (tokens (document_page us 0))

abbrev end : Item → State
end item = at_most (round item) (outline_of frame) 12 (begun item)

-- within another page it paints what it paints outside all
abbrev pub picture : ℕ → List Painting
picture p = (at_most [] (outline_of frame) 12 (sheltered [] behind (outline_of frame) (tokens (document_page us 0)))).painted

pub page_paints : PagePaintsWithin frame us frame behind 0 (picture 0)
unfolding digits
page_paints = (
  refl,
  refl,
  λ item. record {
    end = end item;
    run = (12, refl);
    leaves = record { nothing_left = refl; operands = refl; dictionaries = refl; saves = refl; save_name = refl; restore_name = refl };
    picture_is = refl;
  },
)

-- so the sheets of the second run show those of the first one
shown : IsPrintedSheets frame None half again (made_run_picture None us picture behind (all_sheets frame None half us)) behind
unfolding digits
shown =
    two_runs_are_shown paper frame frame None None half half text us picture behind refl refl (omega arith) (omega arith) (omega arith) (omega arith) refl preamble_runs takes_sheets
    ((page_paints, tt), tt) ((refl, tt), tt)
