-- The numbers below a bound that pass a test, as a set; and the numbers whose bits are set.
use Rattle.std.proofs.Common.{◌≡◌, ◌≢◌, ℕ, zero, suc, ◌+◌, ◌*◌, ◌/◌, ◌%◌, ◌<◌, ◌≤◌, Bool, true, false, cond, not, ◌&&◌, ◌||◌, ◌==◌, ◌⊎◌, inl, inr, List, length, refl, sym, ap, ◌∙◌, arith, eq-eqb, ne_eqb}
use Rattle.std.specs.Int.{bit_at}
use Rattle.std.specs.Ordering.{nat_cmp}
use Rattle.std.specs.Cmp.{nat_cmp_total, unsigned_tied}
use Rattle.std.specs.FinSet.{FinSet, insert, remove, contains, len, contains-empty, contains-insert, contains-remove, len-empty, len-insert, same_set, nat_cmp-IsAntisymmetric}
use Rattle.std.proofs.lemmas.Bool.{cases_eq, cases_lt}
use Rattle.std.proofs.lemmas.List.{get_or_past}
use Rattle.std.proofs.lemmas.Nat.Bits.{bit_at-zero}
use Rattle.imposer.specs.SheetNumbers.{has_number, passing, numbers}

pub has_inserted : (s : FinSet nat_cmp) (n k : ℕ) → contains (insert s n) k ≡ ((k == n) || contains s k)
has_inserted s n k = contains-insert nat_cmp_total s n k ∙ ap (λ b. b || contains s k) (unsigned_tied k n)

pub has_removed : (s : FinSet nat_cmp) (n k : ℕ) → contains (remove s n) k ≡ (not (k == n) && contains s k)
has_removed s n k = contains-remove nat_cmp_total s n k ∙ ap (λ b. not b && contains s k) (unsigned_tied k n)

module _ (p : ℕ → Bool) where
  past_step : (n k : ℕ) → suc n ≤ k → contains (passing p n) k ≡ false → (b : Bool) → contains (cond b (insert (passing p n) n) (passing p n)) k ≡ false
  past_step n k le h true = has_inserted (passing p n) n k ∙ ap (λ b. b || contains (passing p n) k) (ne_eqb k n (λ (e : k ≡ n). omega (arith, le, e))) ∙ h
  past_step n k le h false = h

  pub past : (n k : ℕ) → n ≤ k → contains (passing p n) k ≡ false
  past zero k le = contains-empty nat_cmp k
  past (suc n) k le = past_step n k le (past n k (omega arith)) (p n)

  within_step : (n k : ℕ) → (k ≢ n → contains (passing p n) k ≡ p k) → (b : Bool) → p n ≡ b → (k ≡ n) ⊎ (k ≢ n)
      → contains (cond b (insert (passing p n) n) (passing p n)) k ≡ p k
  within_step n k h true e (inl is) = has_inserted (passing p n) n k ∙ ap (λ b. b || contains (passing p n) k) (eq-eqb k n is) ∙ sym (ap p is ∙ e)
  within_step n k h true e (inr other) = has_inserted (passing p n) n k ∙ ap (λ b. b || contains (passing p n) k) (ne_eqb k n other) ∙ h other
  within_step n k h false e (inl is) = past n k (omega arith) ∙ sym (ap p is ∙ e)
  within_step n k h false e (inr other) = h other

  pub within : (n k : ℕ) → k < n → contains (passing p n) k ≡ p k
  within zero k lt = absurd (omega arith)
  within (suc n) k lt = within_step n k (λ other. within n k (omega arith)) (p n) refl (cases_eq k n)

  one_at_most : (n : ℕ) (b : Bool) (k : ℕ) → k ≤ n → cond b k (k + 1) ≤ suc n
  one_at_most n true k le = omega arith
  one_at_most n false k le = omega arith

  few_step : (n : ℕ) → len (passing p n) ≤ n → (b : Bool) → len (cond b (insert (passing p n) n) (passing p n)) ≤ suc n
  few_step n h true = rw (len-insert nat_cmp_total (passing p n) n) (one_at_most n (contains (passing p n) n) (len (passing p n)) h)
  few_step n h false = omega (arith, h)

  pub few : (n : ℕ) → len (passing p n) ≤ n
  few zero = let e = len-empty nat_cmp in omega (arith, e)
  few (suc n) = few_step n (few n) (p n)

-- the members are the numbers whose bits are set
pub member : (words : List ℕ) (k : ℕ) → contains (numbers words) k ≡ has_number words k
member words k = by (cases_lt k (64 * length words))
  where
    by : (k < 64 * length words) ⊎ (64 * length words ≤ k) → contains (numbers words) k ≡ has_number words k
    by (inl lt) = within (has_number words) (64 * length words) k lt
    by (inr ge) =
        past (has_number words) (64 * length words) k ge
        ∙ sym (ap (λ (w : ℕ). bit_at w (k % 64) == 1) (get_or_past words (k / 64) 0 (omega arith)) ∙ ap (λ (b : ℕ). b == 1) (bit_at-zero (k % 64)))

pub same_numbers : (old new : List ℕ) → ((k : ℕ) → has_number new k ≡ has_number old k) → numbers new ≡ numbers old
same_numbers old new h = same_set nat_cmp_total nat_cmp-IsAntisymmetric _ _ (λ k. member new k ∙ h k ∙ sym (member old k))

pub one_more : (old new : List ℕ) (n : ℕ) → ((k : ℕ) → has_number new k ≡ ((k == n) || has_number old k)) → numbers new ≡ insert (numbers old) n
one_more old new n h =
    same_set nat_cmp_total nat_cmp-IsAntisymmetric _ _
    (λ k. member new k ∙ h k ∙ ap (λ b. (k == n) || b) (sym (member old k)) ∙ sym (has_inserted (numbers old) n k))

pub one_less : (old new : List ℕ) (n : ℕ) → ((k : ℕ) → has_number new k ≡ (not (k == n) && has_number old k)) → numbers new ≡ remove (numbers old) n
one_less old new n h =
    same_set nat_cmp_total nat_cmp-IsAntisymmetric _ _
    (λ k. member new k ∙ h k ∙ ap (λ b. not (k == n) && b) (sym (member old k)) ∙ sym (has_removed (numbers old) n k))

-- adding a number that is in the set changes nothing
pub there_already : (words : List ℕ) (n : ℕ) → has_number words n ≡ true → insert (numbers words) n ≡ numbers words
there_already words n is = same_set nat_cmp_total nat_cmp-IsAntisymmetric _ _ (λ k. has_inserted (numbers words) n k ∙ by k (cases_eq k n))
  where
    by : (k : ℕ) → (k ≡ n) ⊎ (k ≢ n) → ((k == n) || contains (numbers words) k) ≡ contains (numbers words) k
    by k (inl e) = ap (λ b. b || contains (numbers words) k) (eq-eqb k n e) ∙ sym (member words k ∙ ap (has_number words) e ∙ is)
    by k (inr other) = ap (λ b. b || contains (numbers words) k) (ne_eqb k n other)
