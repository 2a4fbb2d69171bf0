-- Cells that are filled one after the other.
use Rattle.std.proofs.Common.{arith, ◌≡◌, ℕ, ◌+◌, ◌<◌, ◌⊎◌, inl, inr, List, [], ◌∷◌, ◌++◌, sym, ap, subst, refl, append_assoc, ◌∙◌}
use Rattle.std.specs.Prelude.{map}
use Rattle.std.specs.List.{range_with_len}
use Rattle.std.proofs.Math.Nat.{eq-or-lt_of_le}
use Rattle.std.proofs.lemmas.List.FromFn.{map-range_with_len_more}
use Rattle.std.proofs.lemmas.List.{map-append}
use Rattle.rules.specs.Papers.{Paper}
use Rattle.rules.specs.Made.{MadeSlot, MadeSheet}

pub same_map : {X Y : Type 0} (f g : X → Y) → ((x : X) → f x ≡ g x) → (xs : List X) → map f xs ≡ map g xs
same_map f g h [] = refl
same_map f g h (x ∷ xs) = ap (λ y. y ∷ map f xs) (h x) ∙ ap (λ ys. g x ∷ ys) (same_map f g h xs)

-- one more of a range
pub pushed : {X Y : Type 0} (h : X → Y) (f : ℕ → Y) (xs ys : List X) (x : X) (k : ℕ) → map h xs ≡ map f (range_with_len 0 k) → h x ≡ f k → ys ≡ xs ++ x ∷ [] → map h ys ≡ map f (range_with_len 0 (k + 1))
pushed h f xs ys x k so_far here e =
    ap (map h) e ∙ (map-append h xs (x ∷ []) ∙ (ap (λ zs. zs ++ h x ∷ []) so_far ∙ (ap (λ z. map f (range_with_len 0 k) ++ z ∷ []) here ∙ sym (map-range_with_len_more f 0 k k (omega arith)))))

-- one more sheet
abbrev pub sheet : (paper : Paper) → (slots : List MadeSlot) → MadeSheet
sheet paper slots = record { paper = paper; slots = slots }

pub sheet_more : (paper : Paper) (slots_of : ℕ → List MadeSlot) (old new : List MadeSheet) (slots : List MadeSlot) (k : ℕ) → old ≡ map (λ s. sheet paper (slots_of s)) (range_with_len 0 k) → slots ≡ slots_of k → new ≡ old ++ sheet paper slots ∷ []
    → new ≡ map (λ s. sheet paper (slots_of s)) (range_with_len 0 (k + 1))
sheet_more paper slots_of old new slots k so_far here e =
    e ∙ (ap (λ zs. zs ++ sheet paper slots ∷ []) so_far ∙ (ap (λ z. map (λ s. sheet paper (slots_of s)) (range_with_len 0 k) ++ sheet paper z ∷ []) here
    ∙ sym (map-range_with_len_more (λ s. sheet paper (slots_of s)) 0 k k (omega arith))))

-- what holds of all numbers below k, and of k
pub one_more : (P : ℕ → Type 0) (k : ℕ) → ((n : ℕ) → n < k → P n) → P k → (n : ℕ) → n < k + 1 → P n
one_more P k so_far here n less = either (eq-or-lt_of_le (omega (arith, less)))
  where
    either : (n ≡ k) ⊎ (n < k) → P n
    either (inl e) = subst P (sym e) here
    either (inr h) = so_far n h

-- and after others
pub sheet_behind : (paper : Paper) (slots_of : ℕ → List MadeSlot) (first old new : List MadeSheet) (slots : List MadeSlot) (k : ℕ) → old ≡ first ++ map (λ s. sheet paper (slots_of s)) (range_with_len 0 k) → slots ≡ slots_of k
    → new ≡ old ++ sheet paper slots ∷ [] → new ≡ first ++ map (λ s. sheet paper (slots_of s)) (range_with_len 0 (k + 1))
sheet_behind paper slots_of first old new slots k so_far here e =
    let sheets = map (λ s. sheet paper (slots_of s)) (range_with_len 0 k) in
    e ∙ (ap (λ zs. zs ++ sheet paper slots ∷ []) so_far
    ∙ (append_assoc first sheets (sheet paper slots ∷ []) ∙ ap (λ zs. first ++ zs) (sheet_more paper slots_of sheets (sheets ++ sheet paper slots ∷ []) slots k refl here refl)))
