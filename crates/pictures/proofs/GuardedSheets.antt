-- Sheets of a guarded document are printed with the pictures of their pages, placed.
use Rattle.std.specs.Prelude.{codes}
use Rattle.std.proofs.Common.{subst, false, List, [], ◌∷◌}
use Rattle.pictures.specs.Objects.{Token, Name}
use Rattle.pictures.specs.Machine.{State, Painting, Runs}
use Rattle.pictures.specs.Sheets.{Shown}
use Rattle.pictures.proofs.Runs.{AreRuns, free_are_runs}
use Rattle.pictures.proofs.Sheets.{Prints, Stays, fresh, still_leaves, sheets_run, all_all_of}
use Rattle.pictures.specs.Shelter.{Outer, outline_tokens, PaintsSheltered}
use Rattle.pictures.specs.Pages.{IsGuarded, Encloses, ShowsByGuard, TakesPages, GuardedSheetsArePrinted}
use Rattle.pictures.proofs.Lines.{loaded_showpage}
use Rattle.pictures.proofs.GuardedPlaced.{guarded_page_is_placed, takes_pages}

-- Whatever is painted and printed.

still_encloses : (outers : List Outer) (s : State) (ps : List Painting) (sheets : List (List Painting)) → Encloses outers s → Encloses outers (record s { painted = ps; sheets = sheets })
still_encloses [] s ps sheets h = h
still_encloses (o ∷ os) s ps sheets h = h

still_shows : (outers : List Outer) (s : State) (ps : List Painting) (sheets : List (List Painting)) → ShowsByGuard outers s → ShowsByGuard outers (record s { painted = ps; sheets = sheets })
still_shows [] s ps sheets h = h
still_shows (o ∷ os) s ps sheets h = h

pub still_takes : (outers : List Outer) (s : State) (ps : List Painting) (sheets : List (List Painting)) → TakesPages outers s → TakesPages outers (record s { painted = ps; sheets = sheets })
still_takes outers s ps sheets g = record {
  guard = g.guard;
  userdict_first = g.userdict_first;
  encloses = still_encloses outers s ps sheets g.encloses;
  shows = still_shows outers s ps sheets g.shows;
  clips = g.clips;
  numbers = g.numbers;
  held = g.held;
}

pub still_guarded : (s : State) (ps : List Painting) (sheets : List (List Painting)) → IsGuarded s → IsGuarded (record s { painted = ps; sheets = sheets })
still_guarded s ps sheets g = record { guard = g.guard; userdict_first = g.userdict_first; showpage_is = g.showpage_is; flag_is = g.flag_is; show_is = g.show_is; graphics = g.graphics }

pub still_paints : (outers : List Outer) (s : State) (ps : List Painting) (sheets : List (List Painting)) (outline body : List Token) (picture : List Painting)
    → PaintsSheltered outers s outline body picture → PaintsSheltered outers (record s { painted = ps; sheets = sheets }) outline body picture
still_paints [] s ps sheets outline body picture h = record { end = h.end; run = h.run; leaves = still_leaves s h.end ps sheets h.leaves; picture_is = h.picture_is }
still_paints (o ∷ os) s ps sheets outline body picture h = record { end = h.end; run = h.run; leaves = still_leaves s h.end ps sheets h.leaves; picture_is = h.picture_is }

pub page_places : (outers : List Outer) (s : State) (x : Shown) → TakesPages outers s → PaintsSheltered outers s (outline_tokens x.placed.numbers) x.placed.body x.picture → Stays (Runs false) s x
page_places outers s x g h ps sheets rest =
    guarded_page_is_placed outers (record s { painted = ps; sheets = sheets }) x rest (still_takes outers s ps sheets g)
    (still_paints outers s ps sheets (outline_tokens x.placed.numbers) x.placed.body x.picture h)

pub guarded_prints : (R : State → State → Type 0) → AreRuns R → (s : State) → IsGuarded s → Prints R s
guarded_prints R m s g ps sheets rest =
    let showing : State = fresh s (Name (codes "showpage") ∷ rest) ps sheets in
    let end : State = fresh s rest [] (ps ∷ sheets) in
    m.free showing end
    (subst (λ z. Runs false showing (record end { graphics = z })) g.graphics
    ((loaded_showpage (record s { painted = ps; sheets = sheets }) (codes "showpage") rest g.showpage_is).1 g.flag_is g.show_is))

pub guarded_sheets_are_printed : GuardedSheetsArePrinted
guarded_sheets_are_printed s xs rest g e h =
    sheets_run (Runs false) free_are_runs s xs rest (guarded_prints (Runs false) free_are_runs s g) e
    (all_all_of (λ (x : Shown). PaintsSheltered [] s (outline_tokens x.placed.numbers) x.placed.body x.picture) (Stays (Runs false) s)
    (λ x k. page_places [] s x (takes_pages s g) k) xs h)
