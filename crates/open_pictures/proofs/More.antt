-- More tokens after those that are left, and more operators.
use Rattle.std.specs.Prelude.{Option, Some, None}
use Rattle.std.proofs.Common.{◌≡◌, zero, ap, ◌∙◌, refl, false, List}
use Rattle.pictures.specs.Objects.{Token}
use Rattle.pictures.specs.Machine.{State, step, steps, and_then}
use Rattle.pictures.specs.Sheets.{with_more}
use Rattle.pictures.proofs.Runs.{follow, follow_steps}
use Rattle.pictures.proofs.More.{runs_with_more}
use Rattle.open_pictures.specs.Machine.{Further, or_further, open_step, OpenRuns}
use Rattle.open_pictures.specs.Blindness.{Extends, SeesNothingAfter}
use Rattle.open_pictures.proofs.Runs.{own_step, open_none, open_one, open_runs}

-- Tokens.

more_there : (x : Further) (more : List Token) (s t : State) (r : Option State) → step false s ≡ r → SeesNothingAfter x
    → or_further r (step false s) (x s) ≡ Some t → OpenRuns x false (with_more more s) (with_more more t)
more_there x more s t None e p k =
    let y = p more s t e k in
    open_one x false (with_more more s) (with_more more t) (with_more more t)
    (ap (λ r. or_further r (step false (with_more more s)) (x (with_more more s))) y.0 ∙ y.1)
    (open_none x false (with_more more t))
more_there x more s t (Some u) e p k =
    open_runs x (with_more more s) (with_more more t) (runs_with_more more s t (1, ap (and_then (steps (step false) zero)) k))

pub open_runs_with_more : (x : Further) (more : List Token) (s t : State) → SeesNothingAfter x → OpenRuns x false s t → OpenRuns x false (with_more more s) (with_more more t)
open_runs_with_more x more s t p run =
    follow (open_step x false) (open_step x false) (with_more more) (λ u v e. more_there x more u v (step false u) refl p e) s t run

-- Operators.

extended_there : (x z : Further) (s t : State) (r : Option State) → step false s ≡ r → Extends x z → or_further r (step false s) (x s) ≡ Some t → open_step z false s ≡ Some t
extended_there x z s t None e q k = ap (λ r. or_further r (step false s) (z s)) e ∙ q s t e k
extended_there x z s t (Some u) e q k = own_step z s t k

pub extended_runs : (x z : Further) (s t : State) → Extends x z → OpenRuns x false s t → OpenRuns z false s t
extended_runs x z s t q run =
    follow_steps (open_step x false) (open_step z false) (λ u. u) (λ u v e. extended_there x z u v (step false u) refl q e) s t run
