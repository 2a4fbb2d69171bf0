-- What holds of the words of a set when it changes.
use Rattle.std.proofs.Common.{◌≡◌, ◌≢◌, ℕ, ◌+◌, ◌-◌, ◌*◌, ◌/◌, ◌%◌, ◌<◌, ◌≤◌, Bool, true, false, cond, not, ◌&&◌, ◌||◌, ◌==◌, ◌⊎◌, inl, inr, List, [], length, get_or, refl, sym, ap, ◌∙◌, subst, arith, eq-eqb, ne_eqb, true≢false, w64, min}
use Rattle.std.specs.Int.{bit_at, trailing_zeros}
use Rattle.std.specs.Ordering.{nat_cmp}
use Rattle.std.specs.Cmp.{nat_cmp_total}
use Rattle.std.specs.FinSet.{FinSet, empty, contains, len, contains-empty, len-empty, len-insert, len-remove, empty_of_len}
use Rattle.std.proofs.lemmas.Bool.{cases_eq, cases_lt}
use Rattle.std.proofs.lemmas.List.{get_or_past}
use Rattle.std.proofs.lemmas.Grind.{get_or_default_zero}
use Rattle.std.proofs.lemmas.Nat.Bits.{bit_at-zero, bit_at-trailing_zeros}
use Rattle.imposer.specs.SheetNumbers.{has_number, numbers, AreCounted, IsSmallest, HasNoneBelow}
use Rattle.imposer.proofs.Passing.{few, member, same_numbers, one_more, one_less}

-- there are no words at first
pub none_yet : AreCounted [] 0 0
none_yet = record { few = omega arith; blank = λ k lt. absurd (omega arith); counted = sym (len-empty nat_cmp) }

-- the count fits
pub count_is_small : (words : List ℕ) (first count : ℕ) → AreCounted words first count → count ≤ 4294967296
count_is_small words first count a = let f = few (has_number words) (64 * length words) in let l = a.few in let c = a.counted in omega (arith, f, l, c)

-- the count is 0 if the set is empty, and only then
pub empty_is : (words : List ℕ) (first count : ℕ) → AreCounted words first count → count ≡ 0 → numbers words ≡ empty
empty_is words first count a e = empty_of_len (numbers words) (sym a.counted ∙ e)

pub count_of_empty : (words : List ℕ) (first count : ℕ) → AreCounted words first count → numbers words ≡ empty → count ≡ 0
count_of_empty words first count a e = a.counted ∙ ap len e ∙ len-empty nat_cmp

pub blank_words_more : (old new : List ℕ) (first count : ℕ) → AreCounted old first count
    → ((k : ℕ) → has_number new k ≡ has_number old k) → (length old ≤ 67108864 → length new ≤ 67108864) → AreCounted new first count
blank_words_more old new first count a same few = record {
  few = few a.few;
  blank = λ k lt. same k ∙ a.blank k lt;
  counted = a.counted ∙ sym (ap len (same_numbers old new same));
}

before : (n k : ℕ) (first : ℕ) → k < 64 * min first (n / 64) → k ≢ n
before n k first lt e = omega (arith, lt, e)

pub counted_more : (old new : List ℕ) (first count n : ℕ) → AreCounted old first count → length new ≡ length old
    → ((k : ℕ) → has_number new k ≡ ((k == n) || has_number old k)) → has_number old n ≡ false → AreCounted new (min first (n / 64)) (count + 1)
counted_more old new first count n a same is absent = record {
  few = let l = a.few in omega (arith, l, same);
  blank = λ k lt. is k ∙ ap (λ b. b || has_number old k) (ne_eqb k n (before n k first lt)) ∙ a.blank k (omega (arith, lt));
  counted =
      ap (λ (c : ℕ). c + 1) a.counted
      ∙ sym (
      ap len (one_more old new n is)
      ∙ len-insert nat_cmp_total (numbers old) n
      ∙ ap (λ b. cond b (len (numbers old)) (len (numbers old) + 1)) (member old n ∙ absent)
      );
}

-- a set with a member isn't empty
pub some_counted : (words : List ℕ) (first count n : ℕ) → AreCounted words first count → contains (numbers words) n ≡ true → 1 ≤ count
some_counted words first count n a is = by (cases_eq count 0)
  where
    by : (count ≡ 0) ⊎ (count ≢ 0) → 1 ≤ count
    by (inl e) = absurd (true≢false (sym is ∙ ap (λ s. contains s n) (empty_is words first count a e) ∙ contains-empty nat_cmp n))
    by (inr other) = omega (arith, other)

pub counted_less : (old new : List ℕ) (first count n : ℕ) → AreCounted old first count → length new ≡ length old
    → ((k : ℕ) → has_number new k ≡ (not (k == n) && has_number old k)) → contains (numbers old) n ≡ true → AreCounted new first (count - 1)
counted_less old new first count n a same is there = record {
  few = let l = a.few in omega (arith, l, same);
  blank = λ k lt. is k ∙ ap (λ b. not (k == n) && b) (a.blank k lt) ∙ never (not (k == n));
  counted =
      ap (λ (c : ℕ). c - 1) a.counted
      ∙ sym (
      ap len (one_less old new n is)
      ∙ len-remove nat_cmp_total (numbers old) n
      ∙ ap (λ b. cond b (len (numbers old) - 1) (len (numbers old))) there
      );
}
  where
    never : (b : Bool) → (b && false) ≡ false
    never true = refl
    never false = refl

-- the first word in which a bit may be set moved on
pub moved_on : (words : List ℕ) (first next count : ℕ) → AreCounted words first count
    → ((k : ℕ) → 64 * first ≤ k → k < 64 * next → has_number words k ≡ false) → AreCounted words next count
moved_on words first next count a blank = record { few = a.few; blank = λ k lt. by k lt (cases_lt k (64 * first)); counted = a.counted }
  where
    by : (k : ℕ) → k < 64 * next → (k < 64 * first) ⊎ (64 * first ≤ k) → has_number words k ≡ false
    by k lt (inl low) = a.blank k low
    by k lt (inr high) = blank k high lt

not_there : (words : List ℕ) (k : ℕ) → length words ≤ k / 64 → has_number words k ≡ false
not_there words k past = ap (λ (w : ℕ). bit_at w (k % 64) == 1) (get_or_past words (k / 64) 0 past) ∙ ap (λ (b : ℕ). b == 1) (bit_at-zero (k % 64))

pub none_past : (words : List ℕ) (first count end : ℕ) → AreCounted words first count → length words ≤ first → HasNoneBelow (numbers words) end
none_past words first count end a past k is = absurd (true≢false (sym is ∙ member words k ∙ by (cases_lt k (64 * first))))
  where
    by : (k < 64 * first) ⊎ (64 * first ≤ k) → has_number words k ≡ false
    by (inl low) = a.blank k low
    by (inr high) = not_there words k (omega (arith, past, high))

pub none_before : (words : List ℕ) (first count end : ℕ) → AreCounted words first count → end ≤ 64 * first → HasNoneBelow (numbers words) end
none_before words first count end a le k is = by (cases_lt k (64 * first))
  where
    by : (k < 64 * first) ⊎ (64 * first ≤ k) → end ≤ k
    by (inl low) = absurd (true≢false (sym is ∙ member words k ∙ a.blank k low))
    by (inr high) = omega (arith, le, high)

-- the place of the lowest bit of the first word with one
module _ (words : List ℕ) (first count : ℕ) (a : AreCounted words first count) (some : 0 < get_or words first 0) (fits : get_or words first 0 < 18446744073709551616) where
  low : ℕ
  low = trailing_zeros w64 (get_or words first 0)

  pub lowest : IsSmallest (numbers words) (first * 64 + trailing_zeros w64 (get_or words first 0))
  lowest =
      let t = bit_at-trailing_zeros w64 (get_or words first 0) some fits in
      record {
        member = member words (first * 64 + trailing_zeros w64 (get_or words first 0)) ∙ set t.0 t.1;
        least = λ k is. at_least k (sym (member words k) ∙ is) t.2 (cases_lt k (first * 64 + trailing_zeros w64 (get_or words first 0))) (cases_lt k (64 * first));
      }
    where
      set : trailing_zeros w64 (get_or words first 0) < 64 → bit_at (get_or words first 0) (trailing_zeros w64 (get_or words first 0)) ≡ 1
          → has_number words (first * 64 + trailing_zeros w64 (get_or words first 0)) ≡ true
      set small one =
          let i : (first * 64 + trailing_zeros w64 (get_or words first 0)) / 64 ≡ first = omega arith in
          let j : (first * 64 + trailing_zeros w64 (get_or words first 0)) % 64 ≡ trailing_zeros w64 (get_or words first 0) = omega arith in
          ap (λ (x : ℕ). bit_at (get_or words x 0) ((first * 64 + trailing_zeros w64 (get_or words first 0)) % 64) == 1) i
          ∙ ap (λ (x : ℕ). bit_at (get_or words first 0) x == 1) j
          ∙ eq-eqb _ 1 one

      at_least : (k : ℕ) → has_number words k ≡ true → ((i : ℕ) → i < trailing_zeros w64 (get_or words first 0) → bit_at (get_or words first 0) i ≡ 0)
          → (k < first * 64 + trailing_zeros w64 (get_or words first 0)) ⊎ (first * 64 + trailing_zeros w64 (get_or words first 0) ≤ k)
          → (k < 64 * first) ⊎ (64 * first ≤ k)
          → first * 64 + trailing_zeros w64 (get_or words first 0) ≤ k
      at_least k is zeros (inr le) _ = le
      at_least k is zeros (inl less) (inl low) = absurd (true≢false (sym is ∙ a.blank k low))
      at_least k is zeros (inl less) (inr high) = absurd (true≢false (sym is ∙ (
          let t = bit_at-trailing_zeros w64 (get_or words first 0) some fits in
          let small = t.0 in
          let i : k / 64 ≡ first = omega (arith, less, high, small) in
          ap (λ (x : ℕ). bit_at (get_or words x 0) (k % 64) == 1) i
          ∙ ap (λ (b : ℕ). b == 1) (zeros (k % 64) (omega (arith, less, high, small)))
          )))

-- the same of a word that was read
pub filled : (words : List ℕ) (first count bits : ℕ) → AreCounted words first count → bits ≡ get_or words first bits → first < length words
    → (bits ≡ 0 → ⊥) → bits < 18446744073709551616 → IsSmallest (numbers words) (first * 64 + trailing_zeros w64 bits)
filled words first count bits a read there some fits =
    let e : bits ≡ get_or words first 0 = read ∙ get_or_default_zero words first bits there in
    let more : 0 < bits = omega (arith, some) in
    subst (λ (b : ℕ). IsSmallest (numbers words) (first * 64 + trailing_zeros w64 b)) (sym e) (lowest words first count a (omega (arith, more, e)) (omega (arith, fits, e)))

-- a word that was read and is 0
pub blank_word : (words : List ℕ) (first bits : ℕ) → bits ≡ get_or words first bits → first < length words → bits ≡ 0 → get_or words first 0 ≡ 0
blank_word words first bits read there none = sym (read ∙ get_or_default_zero words first bits there) ∙ none

pub none_below_first : (s : FinSet nat_cmp) (n end : ℕ) → IsSmallest s n → end ≤ n → HasNoneBelow s end
none_below_first s n end f le k is = let h = f.least k is in omega (arith, h, le)
