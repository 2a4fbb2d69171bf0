-- One more text of those that are numbered.
use Rattle.std.proofs.Common.{ℕ, zero, suc, List, ◌+◌, ◌-◌, ◌≤◌, ◌++◌, ◌≡◌, ap, sym, ◌∙◌, arith, append_assoc, append-nil}
use Rattle.preview.specs.Naming.{each}

-- one more
more : (text : ℕ → List ℕ) (first n : ℕ) → each text first n ++ text (first + n) ≡ each text first (suc n)
more text first zero =
    let here : first + 0 ≡ first = omega arith in
    ap text here ∙ sym (append-nil (text first))
more text first (suc n) =
    let next : first + suc n ≡ suc first + n = omega arith in
    append_assoc (text first) (each text (suc first) n) (text (first + suc n))
    ∙ ap (λ t. text first ++ t) (ap (λ k. each text (suc first) n ++ text k) next ∙ more text (suc first) n)

pub one_text : (text : ℕ → List ℕ) (first k : ℕ) (o old new : List ℕ) → first ≤ k
    → old ≡ o ++ each text first (k - first) → new ≡ old ++ text k → new ≡ o ++ each text first ((k + 1) - first)
one_text text first k o old new le before step =
    let n : ℕ = k - first in
    let place : k ≡ first + (k - first) = omega (arith, le) in
    let next : suc (k - first) ≡ (k + 1) - first = omega (arith, le) in
    step
    ∙ ap (λ t. t ++ text k) before
    ∙ append_assoc o (each text first n) (text k)
    ∙ ap (λ t. o ++ t) (ap (λ j. each text first n ++ text j) place ∙ more text first n ∙ ap (λ j. each text first j) next)

-- the same of those that are numbered from 0
pub next_text : (text : ℕ → List ℕ) (k : ℕ) (o old new one : List ℕ) → old ≡ o ++ each text 0 k → new ≡ old ++ one → one ≡ text k → new ≡ o ++ each text 0 (k + 1)
next_text text k o old new one before step is =
    let place : k ≡ 0 + k = omega arith in
    let next : suc k ≡ k + 1 = omega arith in
    step
    ∙ ap (λ t. t ++ one) before
    ∙ append_assoc o (each text 0 k) one
    ∙ ap (λ t. o ++ t) (ap (λ t. each text 0 k ++ t) (is ∙ ap text place) ∙ more text 0 k ∙ ap (λ j. each text 0 j) next)
