-- Two runs, by whatever layouts or by specifications, one run on what the other wrote.
use Rattle.std.specs.Prelude.{◌≡◌, ℕ, ◌<◌, ◌≤◌, List, [], length, true, Option, Ok, pos, slice_index_or}
use Rattle.rules.specs.Papers.{Paper}
use Rattle.rules.specs.Specification.{Spec}
use Rattle.rules.specs.Output.{Border, Frame, output}
use Rattle.rules.specs.Parts.{NestedUnit, preamble, page_run, bytes_of}
use Rattle.rules.specs.Run.{document_of, most_input_bytes, most_pages}
use Rattle.rules.specs.Made.{MadeSheet}
use Rattle.rules.specs.Dress.{Dress}
use Rattle.rules.specs.MadeOutput.{made_output}
use Rattle.dsc.specs.Units.{units_of}
use Rattle.imposed_again.specs.Again.{open_depth}
use Rattle.imposed_again.specs.MadeAgain.{IsTameDress}
use Rattle.guard.specs.Guard.{guarded}
use Rattle.pictures.specs.Machine.{State, Painting}
use Rattle.pictures.specs.Sheets.{sheet_picture}
use Rattle.pictures.specs.Documents.{page_frame, document_page, shown_sheet, PreambleRuns, OnSlots, OnSheets, all_sheets, IsPrintedSheets}
use Rattle.pictures.specs.Kept.{comments_apart_with, page_comments_apart, preamble_comments_apart}
use Rattle.pictures.specs.Imposed.{IsQuiet, MadeIsPrinted}
use Rattle.pictures.specs.Shelter.{beginning}
use Rattle.pictures.specs.Pages.{IsGuarded}
use Rattle.pictures.specs.SheetsOfSheets.{TakesSheets, PagePaintsWithin}

-- the units of what a run wrote, with the guard put in
abbrev pub written_again : Option Paper → Option Border → Dress → List MadeSheet → List NestedUnit → List NestedUnit
written_again sheet border dress all us = units_of (guarded sheet (made_output border dress all us))

-- sheet p; a number that no sheet has means one with nothing on it
abbrev pub empty_sheet : MadeSheet
empty_sheet = record { paper = record { width = pos 0; height = pos 0 }; slots = [] }

abbrev pub sheet_at : List MadeSheet → ℕ → MadeSheet
sheet_at all p = slice_index_or all p empty_sheet

-- its own picture
abbrev pub made_run_picture : Option Border → List NestedUnit → (ℕ → List Painting) → State → List MadeSheet → ℕ → List Painting
made_run_picture border us picture s all p = sheet_picture (beginning s) (shown_sheet border us picture (sheet_at all p)) []

-- each page on a sheet of the first run paints its picture by itself within whatever place of a page with this paper
abbrev pub SheetPaintsWithin :
    Option Border → List MadeSheet → List NestedUnit → (ℕ → List Painting) → Option Border → State → Paper → ℕ → Type 0
SheetPaintsWithin border all us picture outer_border s paper q =
    OnSlots (λ own p. PagePaintsWithin (page_frame border own) us (page_frame outer_border paper) s p (picture p))
    (sheet_at all q).slots

-- Of an accepted document whose last page leaves no embedded document open, and of runs that add no lines but comments,
-- and begin nothing by them: what is written of what a run wrote, with the guard put in, shows the sheets of the first
-- run, each as the picture of its pages, placed, if each page of those that are on a sheet of the second run paints its
-- picture by itself there. A law
abbrev pub TwoMadeRunsAreShown : Type 0
TwoMadeRunsAreShown =
    (sheet : Option Paper) (border outer_border : Option Border) (dress outer_dress : Dress) (all outer_all : List MadeSheet)
    (text : List ℕ) (us : List NestedUnit) (picture : ℕ → List Painting) (s : State)
    → IsQuiet dress → IsTameDress dress → IsQuiet outer_dress
    → document_of text ≡ Ok us → open_depth (page_run us) ≡ 0
    → 0 < length all → length all ≤ most_pages → length (made_output border dress all us) ≤ most_input_bytes
    → length (guarded sheet (made_output border dress all us)) ≤ most_input_bytes
    → comments_apart_with outer_dress.header (written_again sheet border dress all us) ≡ true
    → PreambleRuns IsGuarded (bytes_of (preamble (written_again sheet border dress all us))) s → TakesSheets [] s
    → OnSheets (λ paper q. page_comments_apart (document_page (written_again sheet border dress all us) q) ≡ true) outer_all
    → OnSheets (SheetPaintsWithin border all us picture outer_border s) outer_all
    → MadeIsPrinted outer_border outer_dress outer_all (written_again sheet border dress all us)
    (made_run_picture border us picture s all) s

abbrev pub units_again : Option Paper → Frame → Option ℕ → Spec → List NestedUnit → List NestedUnit
units_again sheet frame sides spec us = units_of (guarded sheet (output frame sides spec us))

-- the same of two specifications, if each page that is on a sheet of the first run paints its picture by itself there
abbrev pub TwoRunsAreShown : Type 0
TwoRunsAreShown =
    (sheet : Option Paper) (inner outer : Frame) (sides outer_sides : Option ℕ) (spec outer_spec : Spec) (text : List ℕ)
    (us : List NestedUnit) (picture : ℕ → List Painting) (s : State)
    → document_of text ≡ Ok us → open_depth (page_run us) ≡ 0 → 0 < length (all_sheets inner sides spec us)
    → length (all_sheets inner sides spec us) ≤ most_pages
    → length (output inner sides spec us) ≤ most_input_bytes
    → length (guarded sheet (output inner sides spec us)) ≤ most_input_bytes
    → preamble_comments_apart (units_again sheet inner sides spec us) ≡ true
    → PreambleRuns IsGuarded (bytes_of (preamble (units_again sheet inner sides spec us))) s → TakesSheets [] s
    → OnSheets (λ own p. PagePaintsWithin (page_frame inner.border own) us outer s p (picture p)) (all_sheets inner sides spec us)
    → OnSheets (λ own p. page_comments_apart (document_page (units_again sheet inner sides spec us) p) ≡ true)
    (all_sheets outer outer_sides outer_spec (units_again sheet inner sides spec us))
    → IsPrintedSheets outer outer_sides outer_spec (units_again sheet inner sides spec us)
    (made_run_picture inner.border us picture s (all_sheets inner sides spec us)) s
