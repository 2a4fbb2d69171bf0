-- What a page does by itself, with further operators, the free machine does in the page's place.
use Rattle.std.specs.Prelude.{Option, Some, None}
use Rattle.std.proofs.Common.{◌≡◌, zero, refl, ap, ◌∙◌, false, List}
use Rattle.pictures.specs.Machine.{State, step, steps, and_then}
use Rattle.pictures.specs.Sheets.{Numbers}
use Rattle.pictures.proofs.Runs.{follow}
use Rattle.pictures.specs.Shelter.{Outer, shelter_step, outline_tokens}
use Rattle.pictures.specs.Pages.{AroundGuarded, placed_at, IsOnPaper}
use Rattle.pictures.proofs.Sheltering.{shelter_commutes}
use Rattle.open_pictures.specs.Machine.{Further, or_further, open_step, OpenRuns}
use Rattle.open_pictures.proofs.Runs.{open_none, open_one, open_runs}
use Rattle.open_pictures.specs.Shelter.{open_shelter_step, IsPlacelessThere, OpenShelterCommutes}

there : (x : Further) (n : Numbers) (outers : List Outer) (a : AroundGuarded) (s t : State) (r : Option State) → step false s ≡ r → IsPlacelessThere x → IsOnPaper n outers a
    → or_further r (shelter_step outers (outline_tokens n) s) (x s) ≡ Some t → OpenRuns x false (placed_at a s) (placed_at a t)
there x n outers a s t None e p q k =
    let z = p a s t e k in
    open_one x false (placed_at a s) (placed_at a t) (placed_at a t)
    (ap (λ r. or_further r (step false (placed_at a s)) (x (placed_at a s))) z.0 ∙ z.1)
    (open_none x false (placed_at a t))
there x n outers a s t (Some u) e p q k =
    open_runs x (placed_at a s) (placed_at a t) (shelter_commutes n outers a s t q (1, ap (and_then (steps (shelter_step outers (outline_tokens n)) zero)) k))

pub open_shelter_commutes : OpenShelterCommutes
open_shelter_commutes x n outers a s t p q run =
    follow (open_shelter_step x outers (outline_tokens n)) (open_step x false) (placed_at a) (λ u v e. there x n outers a u v (step false u) refl p q e) s t run
