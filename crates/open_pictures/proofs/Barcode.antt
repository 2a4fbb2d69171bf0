-- barcode.ps: its preamble and its pages, run.
use Rattle.std.proofs.Common.{◌≡◌, ℕ, zero, suc, ◌<◌, List, refl, arith, true, false}
use Rattle.std.specs.Prelude.{Option}
use Rattle.std.specs.Fmt.{digits}
use Rattle.rules.specs.Parts.{NestedUnit, preamble, bytes_of}
use Rattle.pictures.specs.Machine.{State, Painting, steps}
use Rattle.pictures.specs.Scanner.{tokens}
use Rattle.pictures.proofs.Examples.Applied.{units}
use Rattle.open_pictures.specs.Machine.{open_step, open_unaware_step}
use Rattle.open_pictures.specs.Documents.{begun_machine, plain_work, OpenPagePrints}
use Rattle.open_pictures.specs.Values.{values}
use Rattle.open_pictures.specs.Barcode.{barcode, BarcodeIsShown}
use Rattle.open_pictures.proofs.PageRuns.{painted_by, page_run, prints}
use Rattle.open_pictures.proofs.Preambles.{reached, is_ready}
use Rattle.open_pictures.proofs.RealDocuments.{shown}

abbrev us : List NestedUnit
us = units barcode

abbrev preamble_run : Option State
preamble_run = steps (open_step values false) 0 (begun_machine plain_work (tokens (bytes_of (preamble us))))

-- in so many steps each page comes to its showpage
abbrev count : ℕ → ℕ
count zero = 870
count (suc zero) = 757
count (suc (suc p)) = 757

abbrev picture : ℕ → List Painting
picture p = painted_by (page_run (open_unaware_step values) us (reached preamble_run) p (count p))

is_ready_then : is_ready preamble_run ≡ true
unfolding digits
is_ready_then = refl

first_page : OpenPagePrints values us (reached preamble_run) 0 (picture 0)
unfolding digits
first_page = prints (open_step values false) (open_unaware_step values) us (reached preamble_run) 0 870 refl refl refl refl refl

second_page : OpenPagePrints values us (reached preamble_run) 1 (picture 1)
unfolding digits
second_page = prints (open_step values false) (open_unaware_step values) us (reached preamble_run) 1 757 refl refl refl refl refl

third_page : OpenPagePrints values us (reached preamble_run) 2 (picture 2)
unfolding digits
third_page = prints (open_step values false) (open_unaware_step values) us (reached preamble_run) 2 757 refl refl refl refl refl

each_page : (p : ℕ) → p < 3 → OpenPagePrints values us (reached preamble_run) p (picture p)
each_page zero lt = first_page
each_page (suc zero) lt = second_page
each_page (suc (suc zero)) lt = third_page
each_page (suc (suc (suc p))) lt = absurd (omega (arith, lt))

pub barcode_is_shown : BarcodeIsShown
unfolding digits
barcode_is_shown = shown barcode us preamble_run 0 3 picture refl refl refl refl refl refl is_ready_then each_page
