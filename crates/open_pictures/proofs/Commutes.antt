-- A machine with further operators that are placeless does in a placed state what it does in the state, placed.
use Rattle.std.specs.Prelude.{Option, Some, None}
use Rattle.std.proofs.Common.{◌≡◌, refl, ap, ◌∙◌, subst, true, false}
use Rattle.pictures.specs.Machine.{State, step}
use Rattle.pictures.specs.Placing.{Around, state_at}
use Rattle.pictures.proofs.Runs.{follow_steps}
use Rattle.pictures.proofs.Commutes.{Follows, steps_there}
use Rattle.open_pictures.specs.Machine.{Further, or_further, open_step}
use Rattle.open_pictures.specs.Blindness.{IsPlaceless}
use Rattle.open_pictures.specs.Sheets.{OpenPlacingCommutes}
use Rattle.open_pictures.proofs.Runs.{own_step}

there : (x : Further) (a : Around) (s t : State) (r : Option State) → step false s ≡ r → IsPlaceless x
    → or_further r (step true s) (x s) ≡ Some t → open_step x false (state_at a s) ≡ Some (state_at a t)
there x a s t None e p k =
    let z = p a s t e k in
    ap (λ r. or_further r (step false (state_at a s)) (x (state_at a s))) z.0 ∙ z.1
there x a s t (Some u) e p k =
    own_step x (state_at a s) (state_at a t) (subst (λ r. Follows a r (step false (state_at a s))) k (steps_there a s))

open_step_there : (x : Further) (a : Around) (s t : State) → IsPlaceless x → open_step x true s ≡ Some t
    → open_step x false (state_at a s) ≡ Some (state_at a t)
open_step_there x a s t p k = there x a s t (step false s) refl p k

pub open_placing_commutes : OpenPlacingCommutes
open_placing_commutes x a s t p run = follow_steps (open_step x true) (open_step x false) (state_at a) (λ u v e. open_step_there x a u v p e) s t run
