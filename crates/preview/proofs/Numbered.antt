-- Texts of things that are numbered: one more of them; and sheets, read one by one.
use Rattle.std.proofs.Common.{ℕ, zero, suc, List, [], ◌∷◌, Some, ◌+◌, ◌<◌, ◌++◌, ◌≡◌, ap, sym, refl, ◌∙◌, length, take, arith, append_assoc, append-nil}
use Rattle.std.specs.Prelude.{slice_get}
use Rattle.std.specs.List.{fold, sum_by}
use Rattle.std.proofs.lemmas.List.Sums.{fold_more, sum_by_more}
use Rattle.std.proofs.lemmas.Option.{same_Some, none-some, slice_get_within, get_or_from_slice_get}
use Rattle.rules.specs.Made.{MadeSheet}
use Rattle.sheet_plan.specs.OfSheets.{slots_at}
use Rattle.preview.specs.Naming.{numbered}

-- one more
pub more : {X : Type 0} (text : ℕ → X → List ℕ) (j i : ℕ) (xs : List X) (x : X) → slice_get xs i ≡ Some x
    → numbered text j (take i xs) ++ text (j + i) x ≡ numbered text j (take (suc i) xs)
more text j i [] x at = absurd (none-some x at)
more text j zero (y ∷ xs) x at =
    let here : j + 0 ≡ j = omega arith in
    ap (λ k. text k x) here ∙ ap (λ z. text j z) (sym (same_Some y x at)) ∙ sym (append-nil (text j y))
more text j (suc i) (y ∷ xs) x at =
    let next : j + suc i ≡ suc j + i = omega arith in
    append_assoc (text j y) (numbered text (suc j) (take i xs)) (text (j + suc i) x)
    ∙ ap (λ t. text j y ++ t) (ap (λ k. numbered text (suc j) (take i xs) ++ text k x) next ∙ more text (suc j) i xs x at)

-- the same after a text, of things among others
pub one_more : {X : Type 0} (text : ℕ → X → List ℕ) (front old new : List ℕ) (j i k : ℕ) (xs : List X) (x : X) → slice_get xs i ≡ Some x → k ≡ j + i
    → old ≡ front ++ numbered text j (take i xs) → new ≡ old ++ text k x → new ≡ front ++ numbered text j (take (i + 1) xs)
one_more text front old new j i k xs x at place before step =
    let next : suc i ≡ i + 1 = omega arith in
    step
    ∙ ap (λ t. t ++ text k x) before
    ∙ append_assoc front (numbered text j (take i xs)) (text k x)
    ∙ ap (λ t. front ++ t) (ap (λ n. numbered text j (take i xs) ++ text n x) place ∙ more text j i xs x at ∙ ap (λ n. numbered text j (take n xs)) next)

-- ---- sheets
pub there : {X : Type 0} (xs : List X) (k : ℕ) → k < length xs → (x : X) × (slice_get xs k ≡ Some x)
there [] k h = absurd (omega arith)
there (x ∷ xs) zero h = (x, refl)
there (x ∷ xs) (suc k) h = there xs k (omega arith)

-- the slots of a sheet
pub slots_are : (all : List MadeSheet) (s : ℕ) (it : MadeSheet) → slice_get all s ≡ Some it → slots_at all s ≡ it.slots
slots_are [] s it at = absurd (none-some it at)
slots_are (x ∷ all) zero it at = ap (λ (sheet : MadeSheet). sheet.slots) (same_Some x it at)
slots_are (x ∷ all) (suc s) it at = slots_are all s it at

-- ---- one more in a sum, and in a fold
pub sum_more : {X : Type 0} (f : X → ℕ) (xs : List X) (i : ℕ) (x : X) (sum part : ℕ) → slice_get xs i ≡ Some x
    → sum ≡ sum_by f (take i xs) → part ≡ f x → sum + part ≡ sum_by f (take (i + 1) xs)
sum_more f xs i x sum part at before step =
    ap (λ n. n + part) before
    ∙ ap (λ n. sum_by f (take i xs) + n) (step ∙ ap f (sym (get_or_from_slice_get xs i x x at)))
    ∙ sym (sum_by_more f xs i x (slice_get_within xs i x at))

pub fold_one : {X Y : Type 0} (f : Y → X → Y) (a old new : Y) (xs : List X) (i : ℕ) (x : X) → slice_get xs i ≡ Some x
    → old ≡ fold f a (take i xs) → new ≡ f old x → new ≡ fold f a (take (i + 1) xs)
fold_one f a old new xs i x at before step =
    step
    ∙ ap (λ y. f y x) before
    ∙ ap (λ z. f (fold f a (take i xs)) z) (sym (get_or_from_slice_get xs i x x at))
    ∙ sym (fold_more f a xs i x (slice_get_within xs i x at))
