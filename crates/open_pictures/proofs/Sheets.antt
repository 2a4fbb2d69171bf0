-- Sheets are printed with the pictures of their pages, placed, with further operators too.
use Rattle.std.proofs.Common.{false}
use Rattle.pictures.specs.Machine.{State}
use Rattle.pictures.specs.Sheets.{IsGround, Shown}
use Rattle.pictures.proofs.Sheets.{Stays, still_ground, still_leaves, ground_prints, sheets_run, all_all_of}
use Rattle.open_pictures.specs.Machine.{Further, OpenRuns}
use Rattle.open_pictures.specs.Blindness.{IsPlaceless}
use Rattle.open_pictures.specs.Sheets.{OpenPaintsAlone, OpenSheetsArePrinted}
use Rattle.open_pictures.proofs.Runs.{open_are_runs}
use Rattle.open_pictures.proofs.Placed.{open_page_is_placed}

pub page_places : (x : Further) (s : State) (y : Shown) → IsPlaceless x → IsGround s → OpenPaintsAlone x s y.placed.body y.picture → Stays (OpenRuns x false) s y
page_places x s y p g h ps sheets rest =
    open_page_is_placed x (record s { painted = ps; sheets = sheets }) y rest p (still_ground s ps sheets g)
    (record { end = h.end; run = h.run; leaves = still_leaves s h.end ps sheets h.leaves; picture_is = h.picture_is })

pub open_sheets_are_printed : OpenSheetsArePrinted
open_sheets_are_printed x s ys rest p g e h =
    sheets_run (OpenRuns x false) (open_are_runs x) s ys rest (ground_prints (OpenRuns x false) (open_are_runs x) s g) e
    (all_all_of (λ (y : Shown). OpenPaintsAlone x s y.placed.body y.picture) (Stays (OpenRuns x false) s) (λ y k. page_places x s y p g k) ys h)
