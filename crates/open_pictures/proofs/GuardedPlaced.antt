-- A placed page of a guarded document paints what it paints by itself, placed, with further operators too.
use Rattle.std.proofs.Common.{false, List, ◌++◌}
use Rattle.pictures.specs.Objects.{Token}
use Rattle.pictures.specs.Machine.{State}
use Rattle.pictures.specs.Sheets.{run_of, Numbers, closing_tokens}
use Rattle.pictures.specs.Shelter.{sheltered, outline_tokens}
use Rattle.pictures.specs.Pages.{AroundGuarded, around, placed_at}
use Rattle.pictures.proofs.Begins.{page_begins}
use Rattle.pictures.proofs.GuardedPlaced.{middle_tokens, placed_from, on_paper}
use Rattle.open_pictures.specs.Machine.{OpenRuns}
use Rattle.open_pictures.proofs.Runs.{open_are_runs, open_runs}
use Rattle.open_pictures.specs.Pages.{OpenGuardedPageIsPlaced}
use Rattle.open_pictures.proofs.Sheltering.{open_shelter_commutes}

pub open_guarded_page_is_placed : OpenGuardedPageIsPlaced
open_guarded_page_is_placed x outers s y rest blind g h =
    let n : Numbers = y.placed.numbers in
    let body : List Token = y.placed.body in
    let more : List Token = closing_tokens ++ rest in
    let a : AroundGuarded = around more n s in
    let begun : State = sheltered outers s (outline_tokens n) body in
    placed_from (OpenRuns x false) (open_are_runs x) outers s s h.end y rest g.guard
    (open_runs x (run_of (middle_tokens n body rest) s) (placed_at a begun) (page_begins outers s n body more g))
    (open_shelter_commutes x n outers a begun h.end blind (on_paper outers s n more g) h.run) h.leaves h.picture_is
