-- Rows of parts with a byte between them.
use Rattle.std.proofs.Common.{inl, inr, arith, ◌≡◌, ℕ, zero, suc, ◌≤◌, List, [], ◌∷◌, ◌++◌, Option, Some, None, refl, sym, ap, subst, ◌∙◌, append_assoc, length}
use Rattle.std.specs.Prelude.{◌==◌}
use Rattle.std.proofs.lemmas.Grind.{common_steps}
use Rattle.std.proofs.lemmas.List.{length-append}
use Rattle.rules.specs.Specification.{IsJoined}
use Rattle.lengths.proofs.Digits.{by_test}
use Rattle.lengths.proofs.Numbers.{some_same}
use Rattle.pagespec.specs.Reading.{byte_at, joined_at, more_at, with_part}
use Rattle.pagespec.proofs.Measures.{bind_some, byte_found}
use Rattle.pagespec.proofs.Modifiers.{Stood}

pub cons_joined : {X : Type 0} (c : ℕ) (R : List ℕ → X → Type 0) (front rest : List ℕ) (x : X) (xs : List X) → R front x → IsJoined c R rest xs → IsJoined c R (front ++ c ∷ rest) (x ∷ xs)
cons_joined c R front rest x [] is joined = absurd joined
cons_joined c R front rest x (y ∷ xs) is joined = (front, rest, refl, is, joined)

abbrev Finds : {X : Type 0} → (List ℕ → X → Type 0) → (List ℕ → Option (X × List ℕ)) → Type 0
Finds {X = X} R part = (t : List ℕ) (x : X × List ℕ) → part t ≡ Some x → Stood R t x

more_found : {X : Type 0} (c : ℕ) (R : List ℕ → X → Type 0) (more : List ℕ → Option (List X × List ℕ)) → Finds (IsJoined c R) more → (t : List ℕ) (x : X × List ℕ) → Stood R t x
    → (o : Option (List ℕ)) → byte_at c x.1 ≡ o → (xs : List X × List ℕ) → more_at more x o ≡ Some xs → Stood (IsJoined c R) t xs
more_found c R more finds t x stood None b xs e = subst (Stood (IsJoined c R) t) (some_same _ _ e) stood
more_found c R more finds t x (front, t_is, is) (Some text) b xs e =
    let (ys, found, same) = bind_some (more text) (with_part x.0) xs e in
    let (rest, text_is, joined) = finds text ys found in
    subst (Stood (IsJoined c R) t) (some_same _ _ same)
    (front ++ c ∷ rest, t_is ∙ (ap (λ y. front ++ y) (byte_found c x.1 text b ∙ ap (λ y. c ∷ y) text_is) ∙ sym (append_assoc front (c ∷ rest) ys.1)), cons_joined c R front rest x.0 ys.0 is joined)

-- what is read is a row of parts, and the front of the text
pub joined_found : {X : Type 0} (c : ℕ) (R : List ℕ → X → Type 0) (part : List ℕ → Option (X × List ℕ)) → Finds R part → (k : ℕ) → Finds (IsJoined c R) (joined_at c part k)
unfolding joined_at
joined_found c R part finds zero t xs e = absurd (cc (e))
joined_found c R part finds (suc k) t xs e =
    let (x, found, more) = bind_some (part t) _ xs e in
    more_found c R (λ u. joined_at c part k u) (λ u ys f. joined_found c R part finds k u ys f) t x (finds t x found) (byte_at c x.1) refl xs more

-- a text of the relation is read whole, if what follows lets it end
abbrev pub Reads : {X : Type 0} → (List ℕ → X → Type 0) → (List ℕ → Type 0) → (List ℕ → Option (X × List ℕ)) → Type 0
Reads {X = X} R Closed part = (text rest : List ℕ) (x : X) → R text x → Closed rest → part (text ++ rest) ≡ Some (x, rest)

pub byte_here : (c : ℕ) (t : List ℕ) → byte_at c (c ∷ t) ≡ Some t
byte_here c t = elim (by_test (c == c)) [ inl e ↦ rw e refl | inr e ↦ absurd (grind (arith, common_steps)) ]

pub joined_read : {X : Type 0} (c : ℕ) (R : List ℕ → X → Type 0) (Closed : List ℕ → Type 0) (part : List ℕ → Option (X × List ℕ)) → Reads R Closed part → ((t : List ℕ) → Closed (c ∷ t))
    → (k : ℕ) (xs : List X) (text rest : List ℕ) → IsJoined c R text xs → Closed rest → byte_at c rest ≡ None → length xs ≤ k → joined_at c part k (text ++ rest) ≡ Some (xs, rest)
unfolding joined_at
joined_read c R Closed part reads sep k [] text rest joined closed none h = absurd joined
joined_read c R Closed part reads sep zero (x ∷ xs) text rest joined closed none h = absurd (omega arith)
joined_read c R Closed part reads sep (suc k) (x ∷ []) text rest joined closed none h = rw (reads text rest x joined closed) (rw none refl)
joined_read c R Closed part reads sep (suc k) (x ∷ y ∷ xs) text rest (front, more, e, is, joined) closed none h =
    ap (joined_at c part (suc k)) (ap (λ z. z ++ rest) e ∙ append_assoc front (c ∷ more) rest)
    ∙ (rw (reads front (c ∷ (more ++ rest)) x is (sep (more ++ rest))) (rw (byte_here c (more ++ rest)) (rw (joined_read c R Closed part reads sep k (y ∷ xs) more rest joined closed none (omega arith)) refl)))

pub few_parts : {X : Type 0} (c : ℕ) (R : List ℕ → X → Type 0) (xs : List X) (text : List ℕ) → IsJoined c R text xs → length xs ≤ suc (length text)
few_parts c R [] text joined = absurd joined
few_parts c R (x ∷ []) text joined = omega arith
few_parts c R (x ∷ y ∷ xs) text (front, more, e, is, joined) = omega (arith, ap length e, length-append front (c ∷ more), few_parts c R (y ∷ xs) more joined)
