-- With further operators that are blind: a held machine that asks for none of the names that the sheet's text puts does the
-- same with them, one save further in, and what a free machine does without them; and it prints nothing.
use Rattle.std.specs.Prelude.{Option, Some, None}
use Rattle.std.proofs.Common.{◌≡◌, ℕ, refl, ap, ◌∙◌, true, false, List, []}
use Rattle.pictures.specs.Dictionaries.{DictionaryEntry}
use Rattle.pictures.specs.Machine.{State, step}
use Rattle.pictures.specs.Placing.{state_at}
use Rattle.pictures.specs.Unaware.{unaware_step}
use Rattle.pictures.specs.Shifted.{AgreeShifted, AllAgree, up_state}
use Rattle.pictures.proofs.Unaware.{unaware_free, GoesOn, AlwaysGoesOn, always_goes}
use Rattle.pictures.proofs.Own.{unaware_keeps}
use Rattle.open_pictures.specs.Machine.{Further, or_further, open_step, open_unaware_step}
use Rattle.open_pictures.specs.Blindness.{IsPlaceless, IsUnaware}
use Rattle.open_pictures.proofs.Runs.{own_step, own_held}
use Rattle.open_pictures.proofs.Nowhere.{nowhere, free_step, further_prints_nothing}

-- Free.

free_there : (x : Further) (s t : State) (r : Option State) → step false s ≡ r → or_further r (unaware_step s) (x s) ≡ Some t → open_step x false s ≡ Some t
free_there x s t None e k = ap (λ r. or_further r (step false s) (x s)) e ∙ k
free_there x s t (Some u) e k = own_step x s t (unaware_free s t k)

pub open_free : (x : Further) (s t : State) → open_unaware_step x s ≡ Some t → open_step x false s ≡ Some t
open_free x s t e = free_there x s t (step false s) refl e

-- Nothing is printed.

prints_nothing : (x : Further) (s t : State) (r : Option State) → step false s ≡ r → IsPlaceless x → or_further r (unaware_step s) (x s) ≡ Some t → t.sheets ≡ s.sheets
prints_nothing x s t None e p k = further_prints_nothing x s t p e k
prints_nothing x s t (Some u) e p k = unaware_keeps s t k

pub open_keeps : (x : Further) → IsPlaceless x → (s t : State) → open_unaware_step x s ≡ Some t → t.sheets ≡ s.sheets
open_keeps x p s t e = prints_nothing x s t (step false s) refl p e

-- With the names, and without.

goes_there : (x : Further) (n : ℕ) (s t : State) (es : List DictionaryEntry) (ess : List (List DictionaryEntry)) (r : Option State) → step false s ≡ r → IsUnaware x
    → AgreeShifted n es s.work.entries → AllAgree n ess s.saves → or_further r (unaware_step s) (x s) ≡ Some t → GoesOn (open_step x true) n (up_state es ess s) t
goes_there x n s t es ess None e u a h k =
    let z = u n s t es ess e k a h in
    let there : State = up_state es ess s in
    (z.1.0, z.1.1, ap (λ r. or_further r (step true there) (x there)) z.0 ∙ z.1.2, z.1.3, z.1.4)
goes_there x n s t es ess (Some v) e u a h k =
    let there : State = up_state es ess s in
    let z = always_goes n s t es ess a h k in
    (z.0, z.1, own_held x there (up_state z.0 z.1 t) (state_at (nowhere [] there.sheets) (up_state z.0 z.1 t)) (free_step there (up_state z.0 z.1 t) z.2) z.2, z.3, z.4)

pub open_goes : (x : Further) → IsUnaware x → AlwaysGoesOn (open_step x true) (open_unaware_step x)
open_goes x u n s t es ess a h e = goes_there x n s t es ess (step false s) refl u a h e
