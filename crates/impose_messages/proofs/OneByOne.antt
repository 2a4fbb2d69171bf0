-- Sheets and slots, read one by one.
use Rattle.std.proofs.Common.{ℕ, zero, suc, List, [], ◌∷◌, Some, ◌+◌, ◌<◌, ◌++◌, ◌≡◌, ◌∙◌, ap, sym, refl, length, take, arith, append_assoc, append-nil}
use Rattle.std.specs.Prelude.{flat_map, slice_get}
use Rattle.std.proofs.lemmas.Option.{none-some, same_Some}
use Rattle.rules.specs.Made.{MadeSheet}
use Rattle.sheet_plan.specs.OfSheets.{slots_at}

-- one more element's part of a list
pub flat_one : {X Y : Type 0} (part : X → List Y) (xs : List X) (i : ℕ) (x : X) → slice_get xs i ≡ Some x
    → flat_map part (take i xs) ++ part x ≡ flat_map part (take (i + 1) xs)
flat_one part xs i x at =
    let next : suc i ≡ i + 1 = omega arith in
    flat part xs i x at ∙ ap (λ n. flat_map part (take n xs)) next
  where
    flat : {X Y : Type 0} (part : X → List Y) (xs : List X) (i : ℕ) (x : X) → slice_get xs i ≡ Some x
        → flat_map part (take i xs) ++ part x ≡ flat_map part (take (suc i) xs)
    flat part [] i x at = absurd (none-some x at)
    flat part (y ∷ xs) zero x at = ap part (sym (same_Some y x at)) ∙ sym (append-nil (part y))
    flat part (y ∷ xs) (suc i) x at =
        append_assoc (part y) (flat_map part (take i xs)) (part x) ∙ ap (λ more. part y ++ more) (flat part xs i x at)

pub there : {X : Type 0} (xs : List X) (k : ℕ) → k < length xs → (x : X) × (slice_get xs k ≡ Some x)
there [] k h = absurd (omega arith)
there (x ∷ xs) zero h = (x, refl)
there (x ∷ xs) (suc k) h = there xs k (omega arith)

pub slots_are : (all : List MadeSheet) (s : ℕ) (it : MadeSheet) → slice_get all s ≡ Some it → slots_at all s ≡ it.slots
slots_are [] s it at = absurd (none-some it at)
slots_are (x ∷ all) zero it at = ap (λ (sheet : MadeSheet). sheet.slots) (same_Some x it at)
slots_are (x ∷ all) (suc s) it at = slots_are all s it at
