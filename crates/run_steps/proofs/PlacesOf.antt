-- The places of a page are slots that hold it.
use Rattle.std.proofs.Common.{◌≡◌, ℕ, zero, suc, ◌+◌, ◌<◌, if◌then◌else◌, List, [], ◌∷◌, ◌++◌, length, get_or, refl, sym, ap, ◌∙◌, subst, arith, eq-eqb, ne_eqb}
use Rattle.std.specs.Prelude.{Option, Some, None, slice_get, slice_index_or, All}
use mathlib.Core.Logic.{dite}
use native.Mathlib.Decide.{ℕ_discrete}
use Rattle.gather_table.specs.declared.answers.Published.{Published}
use Rattle.gather_table.specs.History.{Publish}
use Rattle.rules.specs.Sheets.{Layout}
use Rattle.gather_table.specs.Shared.{SeatView, MadeCall}
use Rattle.gather_table.proofs.Calls.{published_may_be_marked}
use Rattle.sheet_plan.specs.Places.{has_page, places_in, places_from, places_of}
use Rattle.run_steps.specs.Delivery.{IsReady}

abbrev pub Each : {A : Type 0} → (A → Type 0) → List A → Type 0
Each P [] = Unit {0}
Each P (x ∷ xs) = P x × Each P xs

pub each-append : {A : Type 0} (P : A → Type 0) (xs ys : List A) → Each P xs → Each P ys → Each P (xs ++ ys)
each-append P [] ys f g = g
each-append P (x ∷ xs) ys f g = (f.0, each-append P xs ys f.1 g)

pub each_at : {A : Type 0} (P : A → Type 0) (xs : List A) (i : ℕ) (d : A) → Each P xs → i < length xs → P (get_or xs i d)
each_at P [] i d f lt = absurd (omega arith)
each_at P (x ∷ xs) zero d f lt = f.0
each_at P (x ∷ xs) (suc i) d f lt = each_at P xs i d f.1 (omega arith)

pub each_map : {A : Type 0} (P Q : A → Type 0) (xs : List A) → ((x : A) → P x → Q x) → Each P xs → Each Q xs
each_map P Q [] h f = tt
each_map P Q (x ∷ xs) h f = (h x f.0, each_map P Q xs h f.1)

abbrev pub Stands : ℕ → ℕ → List (Option ℕ) → ℕ × ℕ → Type 0
Stands p s all x = (x.0 ≡ s) × (slice_get all x.1 ≡ Some (Some p))

one_place : (p s k : ℕ) (all : List (Option ℕ)) (x : Option ℕ) → slice_get all k ≡ Some x → Each (Stands p s all) (if has_page p x then (s, k) ∷ [] else [])
one_place p s k all None e = tt
one_place p s k all (Some q) e = dite (ℕ_discrete q p)
    (λ same. subst (λ b. Each (Stands p s all) (if b then (s, k) ∷ [] else [])) (sym (eq-eqb q p same)) ((refl, e ∙ ap (λ z. Some (Some z)) same), tt))
    (λ other. subst (λ b. Each (Stands p s all) (if b then (s, k) ∷ [] else [])) (sym (ne_eqb q p other)) tt)

places_in_stand : (p s k : ℕ) (xs all : List (Option ℕ)) → ((j : ℕ) → slice_get all (k + j) ≡ slice_get xs j) → Each (Stands p s all) (places_in p s k xs)
places_in_stand p s k [] all h = tt
places_in_stand p s k (x ∷ xs) all h =
    let zero_more : k + 0 ≡ k = omega arith in
    each-append (Stands p s all) _ _ (one_place p s k all x (ap (slice_get all) (sym zero_more) ∙ h 0))
    (places_in_stand p s (suc k) xs all (λ j. let e : suc k + j ≡ k + suc j = omega arith in ap (slice_get all) e ∙ h (suc j)))

abbrev pub StandsIn : ℕ → List (List (Option ℕ)) → ℕ × ℕ → Type 0
StandsIn p all x = (x.0 < length all) × (slice_get (slice_index_or all x.0 []) x.1 ≡ Some (Some p))

places_from_stand : (p s : ℕ) (xs all : List (List (Option ℕ))) → s + length xs ≡ length all → ((j : ℕ) → slice_index_or all (s + j) [] ≡ slice_index_or xs j []) → Each (StandsIn p all) (places_from p s xs)
places_from_stand p s [] all len h = tt
places_from_stand p s (x ∷ xs) all len h =
    let zero_more : s + 0 ≡ s = omega arith in
    let here : slice_index_or all s [] ≡ x = ap (λ n. slice_index_or all n []) (sym zero_more) ∙ h 0 in
    each-append (StandsIn p all) _ _
    (each_map (Stands p s x) (StandsIn p all) (places_in p s 0 x)
    (λ y st. (let e = st.0 in omega arith, ap (λ n. slice_get (slice_index_or all n []) y.1) st.0 ∙ ap (λ (l : List (Option ℕ)). slice_get l y.1) here ∙ st.1))
    (places_in_stand p s 0 x x (λ j. ap (slice_get x) (omega arith))))
    (places_from_stand p (suc s) xs all (omega arith) (λ j. let e : suc s + j ≡ s + suc j = omega arith in ap (λ n. slice_index_or all n []) e ∙ h (suc j)))

pub places_stand : (layout : Layout) (p : ℕ) → Each (StandsIn p layout.sheets) (places_of layout p)
places_stand layout p = places_from_stand p 0 layout.sheets layout.sheets (omega arith) (λ j. ap (λ n. slice_index_or layout.sheets n []) (omega arith))

-- once the page is published its places may be marked
pub ready_published : (layout : Layout) (old new : SeatView) (p i : ℕ) (r : Published) (places : List (ℕ × ℕ)) → old.key ≡ layout → MadeCall old (Publish p i r) new → places ≡ places_of layout p → All (IsReady layout new.front) places
ready_published layout old new p i r places is m e =
    subst (λ (l : Layout). places ≡ places_of l p → All (IsReady l new.front) places) is (λ e' k d lt.
    let st = each_at (StandsIn p old.key.sheets) (places_of old.key p) k d (places_stand old.key p) (let len = ap length e' in omega arith) in
    subst (λ (xs : List (ℕ × ℕ)). IsReady old.key new.front (get_or xs k d)) (sym e') (st.0, published_may_be_marked old new _ _ p i r m st.1)) e
