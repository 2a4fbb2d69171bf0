-- Which slots have no page.
use Rattle.std.proofs.Common.{arith, ◌≡◌, ℕ, zero, suc, ◌+◌, ◌-◌, ◌*◌, ◌^◌, ◌%◌, ◌<◌, ◌≤◌, List, [], ◌∷◌, ◌++◌, take, refl, sym, ap, ◌∙◌, subst, Option, Some, None, true, false, Bool, inl, inr, cond}
use Rattle.std.specs.Prelude.{if◌then◌else◌, slice_get, is_none, is_some, bit_or, filter}
use Rattle.std.specs.List.{list_all, range_with_len}
use Rattle.std.proofs.lemmas.List.{map-id, append-nil}
use Rattle.std.proofs.lemmas.List.FromFn.{filter_of_map_range_with_len_more}
use Rattle.std.specs.Int.{bit_at, w64}
use Rattle.std.proofs.lemmas.Bool.{cases_lt, cases_eq}
use Rattle.std.proofs.lemmas.Nat.Bits.{bit_at_set_same, bit_at_set_other}
use Rattle.sheet_plan.specs.Plans.{is_page}

-- so far no slot has a page
pub blank_more : (k : ℕ) (xs : List (Option ℕ)) → list_all is_none (take k xs) ≡ true → slice_get xs k ≡ Some None → list_all is_none (take (k + 1) xs) ≡ true
blank_more k xs all e = let one : k + 1 ≡ suc k = omega arith in subst (λ n. list_all is_none (take n xs) ≡ true) (sym one) (go k xs all e)
  where
    go : (k : ℕ) (xs : List (Option ℕ)) → list_all is_none (take k xs) ≡ true → slice_get xs k ≡ Some None → list_all is_none (take (suc k) xs) ≡ true
    go k [] all e = cc
    go zero (None ∷ xs) all e = refl
    go zero (Some p ∷ xs) all e = cc
    go (suc k) (None ∷ xs) all e = go k xs all e
    go (suc k) (Some p ∷ xs) all e = all

-- a page breaks it
pub page_breaks : (k p : ℕ) (xs : List (Option ℕ)) → slice_get xs k ≡ Some (Some p) → list_all is_none xs ≡ false
page_breaks k p [] e = cc
page_breaks zero p (None ∷ xs) e = cc
page_breaks zero p (Some q ∷ xs) e = refl
page_breaks (suc k) p (None ∷ xs) e = page_breaks k p xs e
page_breaks (suc k) p (Some q ∷ xs) e = refl

abbrev bit_of : List (Option ℕ) → ℕ → ℕ
bit_of xs k = if is_page (slice_get xs k) then 1 else 0

-- the bits say which slots from the first of a group up to k have a page, and no other bits are set
pub record IsMarked (xs : List (Option ℕ)) (first k word : ℕ) : Type 0 where
  pub begun : first ≤ k
  pub told : (j : ℕ) → first + j < k → bit_at word j ≡ bit_of xs (first + j)
  pub rest : (j : ℕ) → k ≤ first + j → bit_at word j ≡ 0

pub marked_page : (xs : List (Option ℕ)) (first k p word : ℕ) → IsMarked xs first k word → k < first + 64 → slice_get xs k ≡ Some (Some p)
    → IsMarked xs first (k + 1) (bit_or word (1 * 2 ^ (k - first) % 2 ^ 64))
marked_page xs first k p word m in64 e =
    record {
      begun = let b = m.begun in omega arith;
      told = λ j lt. elim (cases_eq (first + j) k) [
        | inl same ↦ at_k j same
        | inr other ↦ bit_at_set_other w64 word (k - first) low j (λ same. let b = m.begun in other (omega arith)) ∙ m.told j (less (first + j) k (omega arith) other)
      ];
      rest = λ j le. bit_at_set_other w64 word (k - first) low j (λ same. let b = m.begun in omega arith) ∙ m.rest j (omega arith);
    }
  where
    low : k - first < 64
    low = let b = m.begun in omega arith

    less : (a b : ℕ) → a ≤ b → (a ≡ b → ⊥) → a < b
    less a b le ne = elim (cases_lt a b) [ inl lt ↦ lt | inr ge ↦ absurd (ne (omega arith)) ]

    at_k : (j : ℕ) → first + j ≡ k → bit_at (bit_or word (1 * 2 ^ (k - first) % 2 ^ 64)) j ≡ bit_of xs (first + j)
    at_k j same =
        let here : j ≡ k - first = omega arith in
        ap (bit_at (bit_or word (1 * 2 ^ (k - first) % 2 ^ 64))) here ∙ bit_at_set_same w64 word (k - first) low
        ∙ sym (ap (bit_of xs) same ∙ ap (λ o. if is_page o then 1 else 0) e)

pub marked_blank : (xs : List (Option ℕ)) (first k word : ℕ) → IsMarked xs first k word → slice_get xs k ≡ Some None → IsMarked xs first (k + 1) word
marked_blank xs first k word m e =
    record {
      begun = let b = m.begun in omega arith;
      told = λ j lt. elim (cases_lt (first + j) k) [
        | inl low ↦ m.told j low
        | inr high ↦ at_k j (omega arith)
      ];
      rest = λ j le. m.rest j (omega arith);
    }
  where
    at_k : (j : ℕ) → first + j ≡ k → bit_at word j ≡ bit_of xs (first + j)
    at_k j same = m.rest j (omega arith) ∙ sym (ap (bit_of xs) same ∙ ap (λ o. if is_page o then 1 else 0) e)

-- ---- by the test of a slot
pub none_more : (k : ℕ) (o : Option ℕ) (xs : List (Option ℕ)) → list_all is_none (take k xs) ≡ true → slice_get xs k ≡ Some o → is_some o ≡ false → list_all is_none (take (k + 1) xs) ≡ true
none_more k None xs all e b = blank_more k xs all e
none_more k (Some p) xs all e b = cc

pub some_breaks : (k : ℕ) (o : Option ℕ) (xs : List (Option ℕ)) → slice_get xs k ≡ Some o → is_some o ≡ true → list_all is_none xs ≡ false
some_breaks k None xs e b = cc
some_breaks k (Some p) xs e b = page_breaks k p xs e

pub marked_some : (xs : List (Option ℕ)) (first k word : ℕ) (o : Option ℕ) → IsMarked xs first k word → k < first + 64 → slice_get xs k ≡ Some o → is_some o ≡ true
    → IsMarked xs first (k + 1) (bit_or word (1 * 2 ^ (k - first) % 2 ^ 64))
marked_some xs first k word None m in64 e b = cc
marked_some xs first k word (Some p) m in64 e b = marked_page xs first k p word m in64 e

pub unmarked : (xs : List (Option ℕ)) (first k word : ℕ) (o : Option ℕ) → IsMarked xs first k word → slice_get xs k ≡ Some o → is_some o ≡ false → IsMarked xs first (k + 1) word
unmarked xs first k word None m e b = marked_blank xs first k word m e
unmarked xs first k word (Some p) m e b = cc

-- ---- the blank sheets
more : (p : ℕ → Bool) (n : ℕ) → filter p (range_with_len 0 (n + 1)) ≡ filter p (range_with_len 0 n) ++ cond (p n) (n ∷ []) []
more p n =
    ap (filter p) (sym (map-id (range_with_len 0 (n + 1)))) ∙ filter_of_map_range_with_len_more p (λ k. k) 0 n n (omega arith)
    ∙ ap (λ xs. filter p xs ++ cond (p n) (n ∷ []) []) (map-id (range_with_len 0 n))

pub filter_next_yes : (p : ℕ → Bool) (n : ℕ) → p n ≡ true → filter p (range_with_len 0 (n + 1)) ≡ filter p (range_with_len 0 n) ++ n ∷ []
filter_next_yes p n e = more p n ∙ ap (λ b. filter p (range_with_len 0 n) ++ cond b (n ∷ []) []) e

pub filter_next_no : (p : ℕ → Bool) (n : ℕ) → p n ≡ false → filter p (range_with_len 0 (n + 1)) ≡ filter p (range_with_len 0 n)
filter_next_no p n e = more p n ∙ ap (λ b. filter p (range_with_len 0 n) ++ cond b (n ∷ []) []) e ∙ append-nil (filter p (range_with_len 0 n))
