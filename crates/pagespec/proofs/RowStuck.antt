-- Where a row of parts can't be read on.
use Rattle.std.proofs.Common.{arith, ◌≡◌, ℕ, zero, suc, ◌<◌, ◌≤◌, List, [], ◌∷◌, ◌++◌, Option, Some, None, refl, sym, ap, subst, ◌∙◌, append_assoc, append-nil, length}
use Rattle.std.proofs.lemmas.List.{length-append}
use Rattle.rules.specs.Specification.{IsJoined}
use Rattle.pagespec.specs.Reading.{byte_at, joined_at}
use Rattle.pagespec.specs.Places.{IsStuck, StuckIn, StuckAfter, ReadsBefore}
use Rattle.pagespec.proofs.Joined.{Reads, cons_joined, byte_here}
use Rattle.pagespec.proofs.NumberPlaces.{byte_alike}
use Rattle.pagespec.proofs.StuckPlaces.{stuck_behind}
use Rattle.pagespec.proofs.MeasureStuck.{IsSome, Nothing}

-- these parts, each with this byte after it
abbrev pub Row : {X : Type 0} → ℕ → (List ℕ → X → Type 0) → List ℕ → List X → Type 0
Row c R text [] = text ≡ []
Row c R text (x ∷ xs) = (front rest : List ℕ) × (text ≡ front ++ c ∷ rest) × R front x × Row c R rest xs

-- they come before this rest
abbrev pub RowBefore : {X : Type 0} → ℕ → (List ℕ → X → Type 0) → (bytes rest : List ℕ) → List X → Type 0
RowBefore c R bytes rest xs = (text : List ℕ) × (bytes ≡ text ++ rest) × Row c R text xs

pub row_first : {X : Type 0} (c : ℕ) (R : List ℕ → X → Type 0) (bytes : List ℕ) → RowBefore c R bytes bytes []
row_first c R bytes = ([], refl, refl)

row_longer : {X : Type 0} (c : ℕ) (R : List ℕ → X → Type 0) (text front : List ℕ) (xs : List X) (x : X) → Row c R text xs → R front x → Row c R (text ++ (front ++ c ∷ [])) (xs ++ x ∷ [])
row_longer c R text front [] x e is = (front, [], ap (λ y. y ++ (front ++ c ∷ [])) e, is, refl)
row_longer c R text front (y ∷ ys) x (first, rest, e, is_y, row) is =
    (first, rest ++ (front ++ c ∷ []), ap (λ z. z ++ (front ++ c ∷ [])) e ∙ append_assoc first (c ∷ rest) (front ++ c ∷ []), is_y, row_longer c R rest front ys x row is)

pub row_more : {X : Type 0} (c : ℕ) (R : List ℕ → X → Type 0) (bytes rest front behind next : List ℕ) (xs : List X) (x : X) → RowBefore c R bytes rest xs → rest ≡ front ++ behind → R front x → behind ≡ c ∷ next
    → RowBefore c R bytes next (xs ++ x ∷ [])
row_more c R bytes rest front behind next xs x (text, split, row) e is b = (
  text ++ (front ++ c ∷ []),
  split ∙ (ap (λ y. text ++ y) (e ∙ (ap (λ y. front ++ y) b ∙ sym (append_assoc front (c ∷ []) next))) ∙ sym (append_assoc text (front ++ c ∷ []) next)),
  row_longer c R text front xs x row is,
)

-- each part has a byte after it
pub row_length : {X : Type 0} (c : ℕ) (R : List ℕ → X → Type 0) (text : List ℕ) (xs : List X) → Row c R text xs → length xs ≤ length text
row_length c R text [] e = omega arith
row_length c R text (x ∷ xs) (front, rest, e, is, row) = omega (arith, ap length e, length-append front (c ∷ rest), row_length c R rest xs row)

row_joined : {X : Type 0} (c : ℕ) (R : List ℕ → X → Type 0) (text last : List ℕ) (xs : List X) (x : X) → Row c R text xs → R last x → IsJoined c R (text ++ last) (xs ++ x ∷ [])
row_joined c R text last [] x e is = subst (λ y. R (y ++ last) x) (sym e) is
row_joined c R text last (y ∷ ys) x (front, rest, e, is_y, row) is =
    subst (λ z. IsJoined c R z (y ∷ (ys ++ x ∷ []))) (sym (ap (λ z. z ++ last) e ∙ append_assoc front (c ∷ rest) last)) (cons_joined c R front (rest ++ last) y (ys ++ x ∷ []) is_y (row_joined c R rest last ys x row is))

-- the first part of a row is read before anything
step_on : {X : Type 0} (c : ℕ) (R : List ℕ → X → Type 0) (Closed : List ℕ → Type 0) (part : List ℕ → Option (X × List ℕ)) → Reads R Closed part → ((t : List ℕ) → Closed (c ∷ t)) → (text front rest u : List ℕ) (x : X)
    → text ≡ front ++ c ∷ rest → R front x → (part (text ++ u) ≡ Some (x, c ∷ (rest ++ u)))
step_on c R Closed part reads sep text front rest u x e is = ap (λ y. part (y ++ u)) e ∙ (ap part (append_assoc front (c ∷ rest) u) ∙ reads front (c ∷ (rest ++ u)) x is (sep (rest ++ u)))

row_fails : {X : Type 0} (c : ℕ) (R : List ℕ → X → Type 0) (Closed : List ℕ → Type 0) (part : List ℕ → Option (X × List ℕ)) → Reads R Closed part → ((t : List ℕ) → Closed (c ∷ t)) → (k : ℕ) (text u : List ℕ) (xs : List X)
    → Row c R text xs → part u ≡ None → joined_at c part k (text ++ u) ≡ None
unfolding joined_at
row_fails c R Closed part reads sep zero text u xs row e = refl
row_fails c R Closed part reads sep (suc k) text u [] row e = rw (ap (λ y. part (y ++ u)) row ∙ e) refl
row_fails c R Closed part reads sep (suc k) text u (x ∷ xs) (front, rest, same, is, row) e =
    rw (step_on c R Closed part reads sep text front rest u x same is) (rw (byte_here c (rest ++ u)) (rw (row_fails c R Closed part reads sep k rest u xs row e) refl))

row_ends : {X : Type 0} (c : ℕ) (R : List ℕ → X → Type 0) (Closed : List ℕ → Type 0) (part : List ℕ → Option (X × List ℕ)) → Reads R Closed part → ((t : List ℕ) → Closed (c ∷ t)) → (k : ℕ) (text u after : List ℕ) (xs : List X) (x : X)
    → Row c R text xs → part u ≡ Some (x, after) → byte_at c after ≡ None → length xs < k → joined_at c part k (text ++ u) ≡ Some (xs ++ x ∷ [], after)
unfolding joined_at
row_ends c R Closed part reads sep zero text u after xs x row e none h = absurd (omega arith)
row_ends c R Closed part reads sep (suc k) text u after [] x row e none h = rw (ap (λ y. part (y ++ u)) row ∙ e) (rw none refl)
row_ends c R Closed part reads sep (suc k) text u after (y ∷ ys) x (front, rest, same, is, row) e none h =
    rw (step_on c R Closed part reads sep text front rest u y same is) (rw (byte_here c (rest ++ u)) (rw (row_ends c R Closed part reads sep k rest u after ys x row e none (omega arith)) refl))

abbrev pub row_at : {X : Type 0} → ℕ → (List ℕ → Option (X × List ℕ)) → List ℕ → Option (List X × List ℕ)
row_at c part t = joined_at c part (suc (length t)) t

-- one part is stuck
pub row_stuck : {X : Type 0} (c : ℕ) (R : List ℕ → X → Type 0) (Closed : List ℕ → Type 0) (part : List ℕ → Option (X × List ℕ)) → Reads R Closed part → ((t : List ℕ) → Closed (c ∷ t))
    → (bytes rest : List ℕ) (left : ℕ) (xs : List X) → RowBefore c R bytes rest xs → StuckIn R part rest left → StuckIn (IsJoined c R) (row_at c part) bytes left
row_stuck c R Closed part reads sep bytes rest left xs (text, split, row) (none, s) = (
  ap (row_at c part) split ∙ row_fails c R Closed part reads sep _ text rest xs row none,
  subst (λ y. IsStuck (IsSome (IsJoined c R)) (Nothing (row_at c part)) y left) (sym split)
      (stuck_behind (IsSome R) (Nothing part) (IsSome (IsJoined c R)) (Nothing (row_at c part)) text rest left
      (λ t (x, is). ([], (xs ++ x ∷ [], subst (λ y. IsJoined c R (text ++ y) (xs ++ x ∷ [])) (sym (append-nil t)) (row_joined c R text t xs x row is))))
      (λ u l e. row_fails c R Closed part reads sep _ text u xs row e) s),
)

-- after the last part
pub row_ended : {X : Type 0} (c : ℕ) (R : List ℕ → X → Type 0) (Closed : List ℕ → Type 0) (part : List ℕ → Option (X × List ℕ)) → Reads R Closed part → ((t : List ℕ) → Closed (c ∷ t))
    → (bytes rest behind : List ℕ) (left : ℕ) (xs : List X) → RowBefore c R bytes rest xs → byte_at c behind ≡ None → StuckAfter R part rest behind left → StuckAfter (IsJoined c R) (row_at c part) bytes behind left
row_ended c R Closed part reads sep bytes rest behind left xs (text, split, row) none s =
    subst (λ y. StuckAfter (IsJoined c R) (row_at c part) y behind left) (sym split)
    (stuck_behind (IsSome R) (λ t. ReadsBefore behind (part t)) (IsSome (IsJoined c R)) (λ t. ReadsBefore behind (row_at c part t)) text rest left
    (λ t (x, is). ([], (xs ++ x ∷ [], subst (λ y. IsJoined c R (text ++ y) (xs ++ x ∷ [])) (sym (append-nil t)) (row_joined c R text t xs x row is))))
    (λ u l (x, after, e, begins). (
      xs ++ x ∷ [],
      after,
      row_ends c R Closed part reads sep (suc (length (text ++ u))) text u after xs x row e (byte_alike c behind after begins none) (omega (arith, row_length c R text xs row, length-append text u)),
      begins,
    ))
    s)
