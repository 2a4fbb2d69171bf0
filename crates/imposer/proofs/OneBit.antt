-- Setting or clearing one bit of a row of words.
use Rattle.std.proofs.Common.{◌≡◌, ◌≢◌, ℕ, ◌-◌, ◌*◌, ◌/◌, ◌%◌, ◌<◌, ◌^◌, Bool, not, ◌&&◌, ◌||◌, ◌==◌, ◌⊎◌, inl, inr, List, length, get_or, sym, ap, ◌∙◌, arith, eq-eqb, ne_eqb, w64, bit_or, bit_and, slice_set}
use Rattle.std.specs.Int.{bit_at}
use Rattle.std.proofs.lemmas.Bool.{cases_eq}
use Rattle.std.proofs.lemmas.List.{get_or-set_other}
use Rattle.std.proofs.lemmas.Grind.{get_or-set_at}
use Rattle.std.proofs.lemmas.Nat.Bits.{bit_at_set_same, bit_at_set_other, bit_at_clear_same, bit_at_clear_other}
use Rattle.imposer.specs.SheetNumbers.{has_number}

-- the test of a bit, of its word
abbrev test : ℕ → ℕ → Bool
test word k = bit_at word (k % 64) == 1

elsewhere : (n k : ℕ) → k / 64 ≢ n / 64 → k ≢ n
elsewhere n k away e = away (ap (λ (x : ℕ). x / 64) e)

beside : (n k : ℕ) → k % 64 ≢ n % 64 → k ≢ n
beside n k apart e = apart (ap (λ (x : ℕ). x % 64) e)

module _ (words : List ℕ) (n k : ℕ) (within : n / 64 < length words) where
  set_here : k / 64 ≡ n / 64 → (k % 64 ≡ n % 64) ⊎ (k % 64 ≢ n % 64)
      → test (bit_or (get_or words (n / 64) 0) (1 * 2 ^ (n % 64) % 18446744073709551616)) k ≡ ((k == n) || has_number words k)
  set_here here (inl low) =
      ap (λ (i : ℕ). bit_at (bit_or (get_or words (n / 64) 0) (1 * 2 ^ (n % 64) % 18446744073709551616)) i == 1) low
      ∙ ap (λ (b : ℕ). b == 1) (bit_at_set_same w64 (get_or words (n / 64) 0) (n % 64) (omega arith))
      ∙ sym (ap (λ b. b || has_number words k) (eq-eqb k n (omega arith)))
  set_here here (inr apart) =
      ap (λ (b : ℕ). b == 1) (bit_at_set_other w64 (get_or words (n / 64) 0) (n % 64) (omega arith) (k % 64) apart)
      ∙ ap (λ (i : ℕ). test (get_or words i 0) k) (sym here)
      ∙ sym (ap (λ b. b || has_number words k) (ne_eqb k n (beside n k apart)))

  -- one more bit
  pub set_one : has_number (slice_set words (n / 64) (bit_or (get_or words (n / 64) 0) (1 * 2 ^ (n % 64) % 18446744073709551616))) k ≡ ((k == n) || has_number words k)
  set_one = by_word (cases_eq (k / 64) (n / 64))
    where
      by_word : (k / 64 ≡ n / 64) ⊎ (k / 64 ≢ n / 64)
          → has_number (slice_set words (n / 64) (bit_or (get_or words (n / 64) 0) (1 * 2 ^ (n % 64) % 18446744073709551616))) k ≡ ((k == n) || has_number words k)
      by_word (inl here) = ap (λ (w : ℕ). test w k) (get_or-set_at words (n / 64) (k / 64) _ 0 here within) ∙ set_here here (cases_eq (k % 64) (n % 64))
      by_word (inr away) = ap (λ (w : ℕ). test w k) (get_or-set_other words (n / 64) (k / 64) _ 0 away) ∙ sym (ap (λ b. b || has_number words k) (ne_eqb k n (elsewhere n k away)))

  clear_here : k / 64 ≡ n / 64 → (k % 64 ≡ n % 64) ⊎ (k % 64 ≢ n % 64)
      → test (bit_and (get_or words (n / 64) 0) (18446744073709551615 - 1 * 2 ^ (n % 64) % 18446744073709551616)) k ≡ (not (k == n) && has_number words k)
  clear_here here (inl low) =
      ap (λ (i : ℕ). bit_at (bit_and (get_or words (n / 64) 0) (18446744073709551615 - 1 * 2 ^ (n % 64) % 18446744073709551616)) i == 1) low
      ∙ ap (λ (b : ℕ). b == 1) (bit_at_clear_same w64 (get_or words (n / 64) 0) (n % 64) (omega arith))
      ∙ sym (ap (λ b. not b && has_number words k) (eq-eqb k n (omega arith)))
  clear_here here (inr apart) =
      ap (λ (b : ℕ). b == 1) (bit_at_clear_other w64 (get_or words (n / 64) 0) (n % 64) (omega arith) (k % 64) (omega arith) apart)
      ∙ ap (λ (i : ℕ). test (get_or words i 0) k) (sym here)
      ∙ sym (ap (λ b. not b && has_number words k) (ne_eqb k n (beside n k apart)))

  -- one bit fewer
  pub clear_one : has_number (slice_set words (n / 64) (bit_and (get_or words (n / 64) 0) (18446744073709551615 - 1 * 2 ^ (n % 64) % 18446744073709551616))) k ≡ (not (k == n) && has_number words k)
  clear_one = by_word (cases_eq (k / 64) (n / 64))
    where
      by_word : (k / 64 ≡ n / 64) ⊎ (k / 64 ≢ n / 64)
          → has_number (slice_set words (n / 64) (bit_and (get_or words (n / 64) 0) (18446744073709551615 - 1 * 2 ^ (n % 64) % 18446744073709551616))) k ≡ (not (k == n) && has_number words k)
      by_word (inl here) = ap (λ (w : ℕ). test w k) (get_or-set_at words (n / 64) (k / 64) _ 0 here within) ∙ clear_here here (cases_eq (k % 64) (n % 64))
      by_word (inr away) = ap (λ (w : ℕ). test w k) (get_or-set_other words (n / 64) (k / 64) _ 0 away) ∙ sym (ap (λ b. not b && has_number words k) (ne_eqb k n (elsewhere n k away)))
