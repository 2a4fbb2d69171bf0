-- A loop over parts with a byte between them.
use Rattle.std.proofs.Common.{◌≡◌, ℕ, suc, List, [], ◌∷◌, ◌++◌, Option, Some, None, refl, sym, ap, ◌∙◌, append_assoc, length}
use Rattle.std.specs.List.{AllZip}
use Rattle.pagespec.specs.Reading.{◌>>=◌, byte_at, joined_at, with_part}

-- parts that were read before, and those after them
abbrev pub with_parts : {X : Type 0} → List X → Option (List X × List ℕ) → Option (List X × List ℕ)
with_parts front None = None
with_parts front (Some x) = Some (front ++ x.0, x.1)

-- these parts were read so far, and reading the rest continues them
abbrev pub ReadsParts : {X : Type 0} → ℕ → (List ℕ → Option (X × List ℕ)) → (fuel : ℕ) → (bytes rest : List ℕ) → List X → Type 0
ReadsParts c part fuel bytes rest front = with_parts front (joined_at c part fuel rest) ≡ joined_at c part (suc (length bytes)) bytes

with_none : {X : Type 0} (o : Option (List X × List ℕ)) → with_parts [] o ≡ o
with_none None = refl
with_none (Some x) = refl

with_more : {X : Type 0} (front : List X) (x : X) (o : Option (List X × List ℕ)) → with_parts (front ++ x ∷ []) o ≡ with_parts front (o >>= λ xs. with_part x xs)
with_more front x None = refl
with_more front x (Some y) = ap (λ z. Some (z, y.1)) (append_assoc front (x ∷ []) y.0)

pub parts_first : {X : Type 0} (c : ℕ) (part : List ℕ → Option (X × List ℕ)) (n : ℕ) (bytes : List ℕ) → n ≡ suc (length bytes) → ReadsParts c part n bytes bytes []
parts_first c part n bytes e = with_none (joined_at c part n bytes) ∙ ap (λ k. joined_at c part k bytes) e

step_more : {X : Type 0} (c : ℕ) (part : List ℕ → Option (X × List ℕ)) (k : ℕ) (rest behind next : List ℕ) (x : X) → part rest ≡ Some (x, behind) → byte_at c behind ≡ Some next
    → joined_at c part (suc k) rest ≡ (joined_at c part k next >>= λ xs. with_part x xs)
unfolding joined_at
step_more c part k rest behind next x e b = rw e (rw b refl)

step_last : {X : Type 0} (c : ℕ) (part : List ℕ → Option (X × List ℕ)) (k : ℕ) (rest behind : List ℕ) (x : X) → part rest ≡ Some (x, behind) → byte_at c behind ≡ None
    → joined_at c part (suc k) rest ≡ Some (x ∷ [], behind)
unfolding joined_at
step_last c part k rest behind x e b = rw e (rw b refl)

pub parts_more : {X : Type 0} (c : ℕ) (part : List ℕ → Option (X × List ℕ)) (k n : ℕ) (bytes rest behind next : List ℕ) (front : List X) (x : X) → n ≡ suc k
    → part rest ≡ Some (x, behind) → byte_at c behind ≡ Some next → ReadsParts c part n bytes rest front → ReadsParts c part k bytes next (front ++ x ∷ [])
parts_more c part k n bytes rest behind next front x is e b reads =
    with_more front x (joined_at c part k next)
    ∙ (ap (with_parts front) (sym (ap (λ j. joined_at c part j rest) is ∙ step_more c part k rest behind next x e b)) ∙ reads)

pub parts_last : {X : Type 0} (c : ℕ) (part : List ℕ → Option (X × List ℕ)) (k n : ℕ) (bytes rest behind : List ℕ) (front : List X) (x : X) → n ≡ suc k
    → part rest ≡ Some (x, behind) → byte_at c behind ≡ None → ReadsParts c part n bytes rest front → joined_at c part (suc (length bytes)) bytes ≡ Some (front ++ x ∷ [], behind)
parts_last c part k n bytes rest behind front x is e b reads =
    sym reads ∙ ap (with_parts front) (ap (λ j. joined_at c part j rest) is ∙ step_last c part k rest behind x e b)

pub zip_append : {X Y : Type 0} (R : X → Y → Type 0) (xs us : List X) (ys vs : List Y) → AllZip R xs ys → AllZip R us vs → AllZip R (xs ++ us) (ys ++ vs)
zip_append R [] us [] vs h g = g
zip_append R [] us (y ∷ ys) vs h g = absurd h
zip_append R (x ∷ xs) us [] vs h g = absurd h
zip_append R (x ∷ xs) us (y ∷ ys) vs h g = (h.0, zip_append R xs us ys vs h.1 g)

pub zip_one : {X Y : Type 0} (R : X → Y → Type 0) (x : X) (y : Y) → R x y → AllZip R (x ∷ []) (y ∷ [])
zip_one R x y h = (h, tt)
