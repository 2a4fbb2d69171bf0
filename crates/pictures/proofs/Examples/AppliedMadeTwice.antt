-- The law over two runs on made sheets, at the document of one page: the sheet of the first run is twice on the one of the second.
use Rattle.std.proofs.Common.{List, [], ◌∷◌, refl, None, arith}
use Rattle.std.specs.Prelude.{pos}
use Rattle.std.specs.Fmt.{digits}
use Rattle.rules.specs.Parts.{NestedUnit, preamble, bytes_of}
use Rattle.rules.specs.Made.{Placed, MadeSheet}
use Rattle.papers.specs.Reported.{reporting}
use Rattle.papers.proofs.Tame.{reporting_is_tame}
use Rattle.pictures.specs.Imposed.{MadeIsPrinted}
use Rattle.pictures.specs.Documents.{PreambleRuns}
use Rattle.pictures.specs.Pages.{IsGuarded}
use Rattle.pictures.specs.TwoMadeRuns.{written_again, made_run_picture}
use Rattle.pictures.proofs.GuardedImposed.{one_paper_is_reported_as_one, reporting_is_quiet}
use Rattle.pictures.proofs.TwoMadeRuns.{two_made_runs_are_shown}
use Rattle.pictures.proofs.Examples.GuardedApplied.{paper, behind, guarded_behind}
use Rattle.pictures.proofs.Examples.AppliedMade.{stands, wide, own}
use Rattle.pictures.proofs.Examples.AppliedTwice.{text, us, picture, takes_sheets, page_paints}

abbrev inner : List MadeSheet
inner = record { paper = own; slots = Placed 0 (stands (pos 50)) own ∷ [] } ∷ []

abbrev outer : List MadeSheet
outer = record { paper = wide; slots = Placed 0 (stands (pos 0)) own ∷ Placed 0 (stands (pos 200)) own ∷ [] } ∷ []

abbrev again : List NestedUnit
again = written_again paper None (reporting inner) inner us

preamble_runs : PreambleRuns IsGuarded (bytes_of (preamble again)) behind
unfolding digits
preamble_runs = (refl, (275, refl), refl, refl, refl, guarded_behind)

-- so the sheet of the second run shows that of the first one, twice
shown : MadeIsPrinted None (reporting outer) outer again (made_run_picture None us picture behind inner) behind
unfolding digits
shown =
    two_made_runs_are_shown paper None None (reporting inner) (reporting outer) inner outer text us picture behind (reporting_is_quiet inner (one_paper_is_reported_as_one own inner (refl, tt))) (reporting_is_tame inner)
    (reporting_is_quiet outer (one_paper_is_reported_as_one wide outer (refl, tt))) refl refl (omega arith) (omega arith) (omega arith) (omega arith) refl preamble_runs takes_sheets
    ((refl, (refl, tt)), tt) (((page_paints, tt), ((page_paints, tt), tt)), tt)
