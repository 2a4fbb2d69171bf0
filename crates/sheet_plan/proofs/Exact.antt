-- The places of a page, and the sheets without pages, as relations.
use Rattle.std.proofs.Common.{arith, ◌≡◌, ◌⊎◌, inl, inr, ℕ, zero, suc, ◌+◌, ◌<◌, ◌≤◌, List, [], ◌∷◌, ◌++◌, length, Bool, true, false, true≢false, Option, Some, None, refl, sym, ap, subst, ◌∙◌, cond}
use Rattle.std.specs.Prelude.{◌==◌, is_none, filter, slice_get, slice_index_or, if◌then◌else◌}
use Rattle.std.specs.List.{AllByRecursion, list_all, range_with_len}
use Rattle.std.proofs.lemmas.Grind.{common_steps}
use Rattle.rules.specs.Sheets.{Layout}
use Rattle.sheet_plan.specs.Places.{has_page, places_in, places_from, places_of, is_blank_sheet, born_complete}
use Rattle.sheet_plan.specs.Laws.{IsAmong, Ascend, IsLower, ArePlaces, PlacesAreExact, AreWithoutPages, BornCompleteAreWithoutPages}

-- ---- rows one after another
among_either : {X : Type 0} (x : X) (xs ys : List X) → IsAmong x (xs ++ ys) → IsAmong x xs ⊎ IsAmong x ys
among_either x [] ys h = inr h
among_either x (y ∷ xs) ys (inl e) = inl (inl e)
among_either x (y ∷ xs) ys (inr h) = elim (among_either x xs ys h) [ inl a ↦ inl (inr a) | inr b ↦ inr b ]

among_front : {X : Type 0} (x : X) (xs ys : List X) → IsAmong x xs → IsAmong x (xs ++ ys)
among_front x [] ys h = absurd h
among_front x (y ∷ xs) ys (inl e) = inl e
among_front x (y ∷ xs) ys (inr h) = inr (among_front x xs ys h)

among_behind : {X : Type 0} (x : X) (xs ys : List X) → IsAmong x ys → IsAmong x (xs ++ ys)
among_behind x [] ys h = h
among_behind x (y ∷ xs) ys h = inr (among_behind x xs ys h)

all_append : {X : Type 0} (P : X → Type 0) (xs ys : List X) → AllByRecursion P xs → AllByRecursion P ys → AllByRecursion P (xs ++ ys)
all_append P [] ys a b = b
all_append P (x ∷ xs) ys a b = (a.0, all_append P xs ys a.1 b)

all_weaker : {X : Type 0} (P Q : X → Type 0) → ((x : X) → P x → Q x) → (xs : List X) → AllByRecursion P xs → AllByRecursion Q xs
all_weaker P Q f [] a = tt
all_weaker P Q f (x ∷ xs) a = (f x a.0, all_weaker P Q f xs a.1)

-- those of the first row come before those of the second
ascend_append : {X : Type 0} (R : X → X → Type 0) (P Q : X → Type 0) → ((x y : X) → P x → Q y → R x y) → (xs ys : List X) → AllByRecursion P xs → AllByRecursion Q ys
    → Ascend R xs → Ascend R ys → Ascend R (xs ++ ys)
ascend_append R P Q before [] ys p q a b = b
ascend_append R P Q before (x ∷ xs) ys p q a b =
    (all_append (R x) xs ys a.0 (all_weaker Q (R x) (λ y h. before x y p.0 h) ys q), ascend_append R P Q before xs ys p.1 q a.1 b)

-- ---- the places of a page on a sheet
same_page : (q p : ℕ) → (q == p) ≡ true → q ≡ p
same_page q p e = grind (arith, common_steps)

is_same : (q p : ℕ) → q ≡ p → (q == p) ≡ true
is_same q p e = grind (arith, common_steps)

abbrev here : Bool → ℕ × ℕ → List (ℕ × ℕ)
here b place = if b then place ∷ [] else []

in_stands : (p s t k j : ℕ) (xs : List (Option ℕ)) → IsAmong (t, j) (places_in p s k xs) → (i : ℕ) × (t ≡ s) × (j ≡ k + i) × (slice_get xs i ≡ Some (Some p))
in_stands p s t k j [] h = absurd h
in_stands p s t k j (None ∷ xs) h = let (i, same, at, found) = in_stands p s t (suc k) j xs h in (suc i, same, omega (arith, at), found)
in_stands p s t k j (Some q ∷ xs) h = by_page (q == p) refl (λ r. in_stands p s t (suc k) j xs r) h
  where
    by_page : (b : Bool) → (q == p) ≡ b → (IsAmong (t, j) (places_in p s (suc k) xs) → (i : ℕ) × (t ≡ s) × (j ≡ suc k + i) × (slice_get xs i ≡ Some (Some p)))
        → IsAmong (t, j) (here b (s, k) ++ places_in p s (suc k) xs) → (i : ℕ) × (t ≡ s) × (j ≡ k + i) × (slice_get (Some q ∷ xs) i ≡ Some (Some p))
    by_page true e behind (inl at) = (0, ap (λ (x : ℕ × ℕ). x.0) at, omega (arith, ap (λ (x : ℕ × ℕ). x.1) at), ap (λ n. Some (Some n)) (same_page q p e))
    by_page true e behind (inr h) = let (i, same, at, found) = behind h in (suc i, same, omega (arith, at), found)
    by_page false e behind h = let (i, same, at, found) = behind h in (suc i, same, omega (arith, at), found)

stands_in : (p s k i : ℕ) (xs : List (Option ℕ)) → slice_get xs i ≡ Some (Some p) → IsAmong (s, k + i) (places_in p s k xs)
stands_in p s k i [] e = absurd (cc (e))
stands_in p s k zero (None ∷ xs) e = absurd (cc (e))
stands_in p s k zero (Some q ∷ xs) e =
    subst (λ b. IsAmong (s, k + 0) (here b (s, k) ++ places_in p s (suc k) xs)) (sym (is_same q p (cc (e)))) (inl (ap (λ j. (s, j)) (omega arith)))
stands_in p s k (suc i) (x ∷ xs) e =
    among_behind (s, k + suc i) (here (has_page p x) (s, k)) (places_in p s (suc k) xs)
    (subst (λ j. IsAmong (s, j) (places_in p s (suc k) xs)) (omega arith) (stands_in p s (suc k) i xs e))

-- they are on this sheet, and in no slot below
abbrev IsFrom : (s k : ℕ) → ℕ × ℕ → Type 0
IsFrom s k place = (place.0 ≡ s) × (k ≤ place.1)

here_from : (b : Bool) (s k : ℕ) → AllByRecursion (IsFrom s k) (here b (s, k))
here_from true s k = ((refl, omega arith), tt)
here_from false s k = tt

in_from : (p s k : ℕ) (xs : List (Option ℕ)) → AllByRecursion (IsFrom s k) (places_in p s k xs)
in_from p s k [] = tt
in_from p s k (x ∷ xs) =
    all_append (IsFrom s k) (here (has_page p x) (s, k)) (places_in p s (suc k) xs) (here_from (has_page p x) s k)
    (all_weaker (IsFrom s (suc k)) (IsFrom s k) (λ place h. (h.0, omega (arith, h.1))) (places_in p s (suc k) xs) (in_from p s (suc k) xs))

in_ascend : (p s k : ℕ) (xs : List (Option ℕ)) → Ascend IsLower (places_in p s k xs)
in_ascend p s k [] = tt
in_ascend p s k (x ∷ xs) = by_page (has_page p x) (in_ascend p s (suc k) xs)
  where
    by_page : (b : Bool) → Ascend IsLower (places_in p s (suc k) xs) → Ascend IsLower (here b (s, k) ++ places_in p s (suc k) xs)
    by_page true behind =
        (all_weaker (IsFrom s (suc k)) (IsLower (s, k)) (λ place h. inr (sym h.0, omega (arith, h.1))) (places_in p s (suc k) xs) (in_from p s (suc k) xs), behind)
    by_page false behind = behind

-- ---- and on all sheets
abbrev OnSheet : (p i j : ℕ) → List (List (Option ℕ)) → Type 0
OnSheet p i j sheets = slice_get (slice_index_or sheets i []) j ≡ Some (Some p)

from_stands : (p s t j : ℕ) (sheets : List (List (Option ℕ))) → IsAmong (t, j) (places_from p s sheets) → (i : ℕ) × (t ≡ s + i) × OnSheet p i j sheets
from_stands p s t j [] h = absurd h
from_stands p s t j (x ∷ sheets) h = elim (among_either (t, j) (places_in p s 0 x) (places_from p (suc s) sheets) h) [
  | inl a ↦ on_first a
  | inr b ↦ (let (i, at, found) = from_stands p (suc s) t j sheets b in (suc i, omega (arith, at), found))
]
  where
    on_first : IsAmong (t, j) (places_in p s 0 x) → (i : ℕ) × (t ≡ s + i) × OnSheet p i j (x ∷ sheets)
    on_first a =
        let (i, same, at, found) = in_stands p s t 0 j x a in
        let slot : i ≡ j = omega (arith, at) in
        (0, omega (arith, same), subst (λ n. slice_get x n ≡ Some (Some p)) slot found)

stands_from : (p s i j : ℕ) (sheets : List (List (Option ℕ))) → OnSheet p i j sheets → IsAmong (s + i, j) (places_from p s sheets)
stands_from p s i j [] e = absurd (cc (e))
stands_from p s zero j (x ∷ sheets) e =
    among_front (s + 0, j) (places_in p s 0 x) (places_from p (suc s) sheets)
    (subst (λ t. IsAmong (t, j) (places_in p s 0 x)) (omega arith) (subst (λ k. IsAmong (s, k) (places_in p s 0 x)) (omega arith) (stands_in p s 0 j x e)))
stands_from p s (suc i) j (x ∷ sheets) e =
    among_behind (s + suc i, j) (places_in p s 0 x) (places_from p (suc s) sheets)
    (subst (λ t. IsAmong (t, j) (places_from p (suc s) sheets)) (omega arith) (stands_from p (suc s) i j sheets e))

abbrev IsFromSheet : (s : ℕ) → ℕ × ℕ → Type 0
IsFromSheet s place = s ≤ place.0

from_sheet : (p s : ℕ) (sheets : List (List (Option ℕ))) → AllByRecursion (IsFromSheet s) (places_from p s sheets)
from_sheet p s [] = tt
from_sheet p s (x ∷ sheets) =
    all_append (IsFromSheet s) (places_in p s 0 x) (places_from p (suc s) sheets)
    (all_weaker (IsFrom s 0) (IsFromSheet s) (λ place h. omega (arith, h.0)) (places_in p s 0 x) (in_from p s 0 x))
    (all_weaker (IsFromSheet (suc s)) (IsFromSheet s) (λ place h. omega (arith, h)) (places_from p (suc s) sheets) (from_sheet p (suc s) sheets))

from_ascend : (p s : ℕ) (sheets : List (List (Option ℕ))) → Ascend IsLower (places_from p s sheets)
from_ascend p s [] = tt
from_ascend p s (x ∷ sheets) =
    ascend_append IsLower (IsFrom s 0) (IsFromSheet (suc s)) (λ one other h k. inl (omega (arith, h.0, k))) (places_in p s 0 x) (places_from p (suc s) sheets)
    (in_from p s 0 x) (from_sheet p (suc s) sheets) (in_ascend p s 0 x) (from_ascend p (suc s) sheets)

pub places_exact : PlacesAreExact
places_exact layout p = record {
  ascend = from_ascend p 0 layout.sheets;
  exact = λ s k. (
    λ h. (let (i, at, found) = from_stands p 0 s k layout.sheets h in subst (λ t. OnSheet p t k layout.sheets) (omega (arith, at)) found),
    λ e. subst (λ t. IsAmong (t, k) (places_from p 0 layout.sheets)) (omega arith) (stands_from p 0 s k layout.sheets e),
  );
}

pub places_listed : (layout : Layout) (p : ℕ) (places : List (ℕ × ℕ)) → places ≡ places_of layout p → ArePlaces layout p places
places_listed layout p places e = subst (ArePlaces layout p) (sym e) (places_exact layout p)

-- ---- the sheets without pages
no_page : (xs : List (Option ℕ)) (p k : ℕ) → list_all is_none xs ≡ true → slice_get xs k ≡ Some (Some p) → ⊥
no_page [] p k e found = cc (found)
no_page (None ∷ xs) p zero e found = cc (found)
no_page (None ∷ xs) p (suc k) e found = no_page xs p k e found
no_page (Some q ∷ xs) p k e found = true≢false (sym e)

all_blank : (xs : List (Option ℕ)) → ((p k : ℕ) → slice_get xs k ≡ Some (Some p) → ⊥) → list_all is_none xs ≡ true
all_blank [] none = refl
all_blank (None ∷ xs) none = all_blank xs (λ p k found. none p (suc k) found)
all_blank (Some q ∷ xs) none = absurd (none q 0 refl)

-- the numbers of a range that pass a test
passing_pass : (test : ℕ → Bool) (a n s : ℕ) → IsAmong s (filter test (range_with_len a n)) → (test s ≡ true) × (a ≤ s) × (s < a + n)
passing_pass test a zero s h = absurd h
passing_pass test a (suc n) s h = by_test (test a) refl (λ r. passing_pass test (a + 1) n s r) h
  where
    lower : (test s ≡ true) × (a + 1 ≤ s) × (s < (a + 1) + n) → (test s ≡ true) × (a ≤ s) × (s < a + suc n)
    lower (pass, low, high) = (pass, omega (arith, low), omega (arith, high))

    by_test : (b : Bool) → test a ≡ b → (IsAmong s (filter test (range_with_len (a + 1) n)) → (test s ≡ true) × (a + 1 ≤ s) × (s < (a + 1) + n))
        → IsAmong s (cond b (a ∷ filter test (range_with_len (a + 1) n)) (filter test (range_with_len (a + 1) n))) → (test s ≡ true) × (a ≤ s) × (s < a + suc n)
    by_test true e behind (inl same) = (ap test same ∙ e, omega (arith, same), omega (arith, same))
    by_test true e behind (inr h) = lower (behind h)
    by_test false e behind h = lower (behind h)

passing_found : (test : ℕ → Bool) (a n i : ℕ) → i < n → test (a + i) ≡ true → IsAmong (a + i) (filter test (range_with_len a n))
passing_found test a zero i lt e = absurd (omega arith)
passing_found test a (suc n) zero lt e =
    let first : a + 0 ≡ a = omega arith in
    subst (λ b. IsAmong (a + 0) (cond b (a ∷ filter test (range_with_len (a + 1) n)) (filter test (range_with_len (a + 1) n)))) (sym (ap test (sym first) ∙ e)) (inl first)
passing_found test a (suc n) (suc i) lt e =
    let next : (a + 1) + i ≡ a + suc i = omega arith in
    by_test (test a) (subst (λ s. IsAmong s (filter test (range_with_len (a + 1) n))) next (passing_found test (a + 1) n i (omega arith) (ap test next ∙ e)))
  where
    by_test : (b : Bool) → IsAmong (a + suc i) (filter test (range_with_len (a + 1) n))
        → IsAmong (a + suc i) (cond b (a ∷ filter test (range_with_len (a + 1) n)) (filter test (range_with_len (a + 1) n)))
    by_test true behind = inr behind
    by_test false behind = behind

passing_above : (test : ℕ → Bool) (a n : ℕ) → AllByRecursion (λ s. a ≤ s) (filter test (range_with_len a n))
passing_above test a zero = tt
passing_above test a (suc n) =
    by_test (test a) (all_weaker (λ s. a + 1 ≤ s) (λ s. a ≤ s) (λ s h. omega (arith, h)) (filter test (range_with_len (a + 1) n)) (passing_above test (a + 1) n))
  where
    by_test : (b : Bool) → AllByRecursion (λ s. a ≤ s) (filter test (range_with_len (a + 1) n))
        → AllByRecursion (λ s. a ≤ s) (cond b (a ∷ filter test (range_with_len (a + 1) n)) (filter test (range_with_len (a + 1) n)))
    by_test true behind = (omega arith, behind)
    by_test false behind = behind

passing_ascend : (test : ℕ → Bool) (a n : ℕ) → Ascend (λ s t. s < t) (filter test (range_with_len a n))
passing_ascend test a zero = tt
passing_ascend test a (suc n) = by_test (test a) (passing_ascend test (a + 1) n)
  where
    by_test : (b : Bool) → Ascend (λ s t. s < t) (filter test (range_with_len (a + 1) n))
        → Ascend (λ s t. s < t) (cond b (a ∷ filter test (range_with_len (a + 1) n)) (filter test (range_with_len (a + 1) n)))
    by_test true behind =
        (all_weaker (λ s. a + 1 ≤ s) (λ s. a < s) (λ s h. omega (arith, h)) (filter test (range_with_len (a + 1) n)) (passing_above test (a + 1) n), behind)
    by_test false behind = behind

blank_found : (layout : Layout) (s : ℕ) → s < length layout.sheets → is_blank_sheet layout s ≡ true → IsAmong s (born_complete layout)
blank_found layout s lt blank =
    let from_0 : s ≡ 0 + s = omega arith in
    subst (λ t. IsAmong t (born_complete layout)) (sym from_0) (passing_found (is_blank_sheet layout) 0 (length layout.sheets) s lt (subst (λ t. is_blank_sheet layout t ≡ true) from_0 blank))

pub blank_exact : BornCompleteAreWithoutPages
blank_exact layout = record {
  ascend = passing_ascend (is_blank_sheet layout) 0 (length layout.sheets);
  exact = λ s. (
    λ h. (let (blank, low, high) = passing_pass (is_blank_sheet layout) 0 (length layout.sheets) s h in
        (omega (arith, high), λ p k found. no_page (slice_index_or layout.sheets s []) p k blank found)),
    λ h. blank_found layout s h.0 (all_blank (slice_index_or layout.sheets s []) h.1),
  );
}

pub blank_listed : (layout : Layout) (sheets : List ℕ) → sheets ≡ born_complete layout → AreWithoutPages layout sheets
blank_listed layout sheets e = subst (AreWithoutPages layout) (sym e) (blank_exact layout)
