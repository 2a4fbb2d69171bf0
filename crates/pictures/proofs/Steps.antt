-- Runs, step by step.
use Rattle.std.specs.Prelude.{Option, Some}
use Rattle.std.proofs.Common.{◌≡◌, ℕ, ◌∙◌, false, List, ◌∷◌}
use Rattle.pictures.specs.Objects.{Token, Name, Object}
use Rattle.pictures.specs.Machine.{State, Runs, step, steps, meant}
use Rattle.pictures.specs.Sheets.{run_of}
use Rattle.pictures.proofs.Runs.{runs_one, runs_join, name_step}
use Rattle.pictures.specs.Shelter.{means}

-- so many steps, and on
pub some : (n : ℕ) (s t u : State) → steps (step false) n s ≡ Some t → Runs false t u → Runs false s u
some n s t u e r = runs_join false s t u (n, e) r

-- a name whose meaning is known, and on
pub by_name : (name : List ℕ) (l : List Token) (s t u : State) (o : Option Object) → means s name ≡ o → meant false o (run_of l s) ≡ Some t
    → Runs false t u → Runs false (run_of (Name name ∷ l) s) u
by_name name l s t u o e f r = runs_one false (run_of (Name name ∷ l) s) t u (name_step false name l s o e ∙ f) r
