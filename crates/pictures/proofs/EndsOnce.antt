-- A run that comes to an end has only this end.
use Rattle.std.specs.Prelude.{Option, Some, None}
use Rattle.std.proofs.Common.{◌≡◌, ℕ, zero, suc, refl, ap, ◌∙◌, sym, false, List, [], ◌∷◌}
use Rattle.pictures.specs.Machine.{State, Painting, step, step_on, steps, and_then}
use Rattle.pictures.specs.Objects.{Token}
use Rattle.pictures.specs.DocumentRun.{ComesTo, PrintsSheet}
use Rattle.pictures.proofs.Runs.{nothing}

abbrev or_s : State → Option State → State
or_s s None = s
or_s s (Some t) = t

stands : (n : ℕ) (s u : State) → s.left ≡ [] → steps (step false) (suc n) s ≡ Some u → ⊥
stands n s u e f =
    nothing (steps (step false) (suc n) s) u (ap (λ l. and_then (steps (step false) n) (step_on false l s)) e) f

further : (m n : ℕ) (x : Option State) (t u : State)
    → ((s : State) → steps (step false) m s ≡ Some t → steps (step false) n s ≡ Some u → t ≡ u)
    → and_then (steps (step false) m) x ≡ Some t → and_then (steps (step false) n) x ≡ Some u → t ≡ u
further m n None t u h e f = absurd (nothing (and_then (steps (step false) m) None) t refl e)
further m n (Some s) t u h e f = h s e f

once : (m n : ℕ) (s t u : State) → steps (step false) m s ≡ Some t → t.left ≡ [] → steps (step false) n s ≡ Some u → u.left ≡ [] → t ≡ u
once zero zero s t u e p f q = sym (ap (or_s s) e) ∙ ap (or_s s) f
once zero (suc n) s t u e p f q = absurd (stands n s u (ap (λ x. (or_s s x).left) e ∙ p) f)
once (suc m) zero s t u e p f q = absurd (stands m s t (ap (λ x. (or_s s x).left) f ∙ q) e)
once (suc m) (suc n) s t u e p f q = further m n (step false s) t u (λ r k l. once m n r t u k p l q) e f

pub ends_once : (s : State) (ts : List Token) (t u : State) → ComesTo s ts t → ComesTo s ts u → t ≡ u
ends_once s ts t u ((m, e), p) ((n, f), q) = once m n (record s { left = ts }) t u e p f q

abbrev first_of : List Painting → List (List Painting) → List Painting
first_of p [] = p
first_of p (x ∷ xs) = x

-- what is printed is one picture
pub one_picture : (s : State) (ts : List Token) (p q : List Painting) → PrintsSheet s ts p → PrintsSheet s ts q → p ≡ q
one_picture s ts p q (t, a, _, e) (u, b, _, f) = sym (ap (first_of p) e) ∙ ap (λ r. first_of p r.sheets) (ends_once s ts t u a b) ∙ ap (first_of p) f
