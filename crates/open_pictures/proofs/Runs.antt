-- Runs of a machine with further operators, one after the other; and what the machine does without them.
use Rattle.std.specs.Prelude.{Some}
use Rattle.std.proofs.Common.{◌≡◌, ap, ◌∙◌, Bool, true, false}
use Rattle.pictures.specs.Machine.{State, step, Runs}
use Rattle.pictures.proofs.Runs.{by_join, by_none, by_one, follow_steps, AreRuns}
use Rattle.open_pictures.specs.Machine.{Further, or_further, open_step, OpenRuns}

pub open_join : (x : Further) (h : Bool) (s t u : State) → OpenRuns x h s t → OpenRuns x h t u → OpenRuns x h s u
open_join x h s t u a b = by_join (open_step x h) s t u a b

pub open_none : (x : Further) (h : Bool) (s : State) → OpenRuns x h s s
open_none x h s = by_none (open_step x h) s

pub open_one : (x : Further) (h : Bool) (s t u : State) → open_step x h s ≡ Some t → OpenRuns x h t u → OpenRuns x h s u
open_one x h s t u e b = by_one (open_step x h) s t u e b

-- where the free machine goes on, the open one does the same

pub own_step : (x : Further) (s t : State) → step false s ≡ Some t → open_step x false s ≡ Some t
own_step x s t e = ap (λ r. or_further r (step false s) (x s)) e ∙ e

pub own_held : (x : Further) (s t u : State) → step false s ≡ Some u → step true s ≡ Some t → open_step x true s ≡ Some t
own_held x s t u e k = ap (λ r. or_further r (step true s) (x s)) e ∙ k

pub open_runs : (x : Further) (s t : State) → Runs false s t → OpenRuns x false s t
open_runs x s t run = follow_steps (step false) (open_step x false) (λ u. u) (own_step x) s t run

pub open_are_runs : (x : Further) → AreRuns (OpenRuns x false)
open_are_runs x = record { stays = λ s. open_none x false s; joined = λ s t u e f. open_join x false s t u e f; free = λ s t e. open_runs x s t e }
