-- Signatures that are chosen by the number of entries.
use Rattle.std.proofs.Common.{arith, ◌≡◌, ℕ, zero, suc, ◌+◌, ◌-◌, ◌*◌, ◌%◌, ◌<◌, ◌≤◌, length, map, refl, sym, ap, subst, ◌∙◌}
use Rattle.std.specs.Prelude.{Option}
use Rattle.std.specs.List.{range_with_len}
use Rattle.std.proofs.lemmas.List.FromFn.{length-map-range_with_len}
use Rattle.std.proofs.lemmas.Nat.{div-add-mod', mod_below, div_below, le-div, mul-le}
use Rattle.rules.specs.Sheets.{blocks}
use Rattle.rules.specs.Signatures.{most_sides, entry_of, page_in_signature}
use Rattle.rules.proofs.Counts.{range_len, rows_len}
use Rattle.rules.specs.Rows.{AutoSignatures, Row, auto_count, auto_leaves, auto_sides, in_signatures, leaves_for, most_leaves}

-- signatures are filled up
pub signatures_len : (s : ℕ) (row : Row) → length (in_signatures s row) ≡ blocks s (length row) * s
signatures_len s row =
    rows_len {Y = Option ℕ} (λ b. map (λ i. entry_of row (b * s + page_in_signature s i)) (range_with_len 0 s)) s
    (λ b. length-map-range_with_len (λ i. entry_of row (b * s + page_in_signature s i)) 0 s) (range_with_len 0 (blocks s (length row)))
    ∙ ap (λ z. z * s) (range_len 0 (blocks s (length row)))

-- ---- blocks of k hold n, and no block is empty
covers : (p r n k : ℕ) → p + r ≡ n + (k - 1) → r < k → n ≤ p
covers p r n k e lt = omega (arith, e, lt)

close : (p r n k : ℕ) → p + r ≡ n + (k - 1) → 0 < k → p < n + k
close p r n k e low = omega (arith, e, low)

pub blocks_cover : (k n : ℕ) → 0 < k → n ≤ blocks k n * k
blocks_cover k n low = covers (blocks k n * k) ((n + (k - 1)) % k) n k (div-add-mod' (n + (k - 1)) k) (mod_below (n + (k - 1)) k low)

pub blocks_close : (k n : ℕ) → 0 < k → blocks k n * k < n + k
blocks_close k n low = close (blocks k n * k) ((n + (k - 1)) % k) n k (div-add-mod' (n + (k - 1)) k) low

-- ---- products
one_less : (m k : ℕ) → 0 < k → m * k ≡ m * (k - 1) + m
one_less m zero low = absurd (omega (arith, low))
one_less m (suc j) low =
    let e : suc j - 1 ≡ j = omega arith in
    times_suc m j ∙ ap (λ i. m * i + m) (sym e)
  where
    times_suc : (m j : ℕ) → m * suc j ≡ m * j + m
    times_suc m j = grind arith

by_leaves : (k m : ℕ) → k * (m * 4) ≡ m * k * 4
by_leaves k m = grind arith

one_more : (k s : ℕ) → (k + 1) * s ≡ k * s + s
one_more k s = grind arith

-- ---- l leaves, k signatures of m leaves each; p is the number of their leaves together
some_leaves : (n l : ℕ) → 0 < n → n ≤ l * 4 → 0 < l
some_leaves n l a b = omega (arith, a, b)

some_signatures : (l k : ℕ) → 0 < l → l ≤ k * 8 → 0 < k
some_signatures l k a b = omega (arith, a, b)

below_nine : (l k : ℕ) → 0 < k → l ≤ k * 8 → l + (k - 1) < 9 * k
below_nine l k a b = omega (arith, a, b)

from_one : (l k : ℕ) → 0 < l → 0 < k → 1 * k ≤ l + (k - 1)
from_one l k a b = omega (arith, a, b)

enough : (n l p s x y : ℕ) → n ≤ l * 4 → l ≤ p → 0 < s → x ≡ p * 4 → y ≡ x + s → n + (s - 1) < y
enough n l p s x y a b c e f = omega (arith, a, b, c, e, f)

tight : (n l k m t p s x : ℕ) → l * 4 < n + 4 → k * 8 < l + 8 → 0 < k → t ≤ 8 * (k - 1) → 0 < m → p ≡ t + m → s ≡ m * 4 → x ≡ p * 4 → x ≤ n + (s - 1)
tight n l k m t p s x a b c d e f g h = omega (arith, a, b, c, d, e, f, g, h)

same : (q k : ℕ) → k ≤ q → q < k + 1 → q ≡ k
same q k a b = omega (arith, a, b)

few_blanks : (n l k p x : ℕ) → l * 4 < n + 4 → p < l + k → x ≡ p * 4 → x < n + k * 4
few_blanks n l k p x a b e = omega (arith, a, b, e)

many : (n l p x : ℕ) → n ≤ l * 4 → l ≤ p → x ≡ p * 4 → n ≤ x
many n l p x a b e = omega (arith, a, b, e)

record Chosen (n : ℕ) : Type 0 where
  leaves : 0 < auto_leaves n
  thin : auto_leaves n ≤ 8
  count : blocks (auto_sides n) n ≡ auto_count n
  held : n ≤ auto_count n * auto_sides n
  few : auto_count n * auto_sides n < n + auto_count n * 4

chosen : (n : ℕ) → 0 < n → Chosen n
chosen n low =
    let l : ℕ = leaves_for n in
    let k : ℕ = auto_count n in
    let m : ℕ = auto_leaves n in
    let s : ℕ = auto_sides n in
    let l_covers : n ≤ l * 4 = blocks_cover 4 n (omega arith) in
    let l_close : l * 4 < n + 4 = blocks_close 4 n (omega arith) in
    let some_l : 0 < l = some_leaves n l low l_covers in
    let k_covers : l ≤ k * 8 = blocks_cover 8 l (omega arith) in
    let k_close : k * 8 < l + 8 = blocks_close 8 l (omega arith) in
    let some_k : 0 < k = some_signatures l k some_l k_covers in
    let m_covers : l ≤ m * k = blocks_cover k l some_k in
    let m_close : m * k < l + k = blocks_close k l some_k in
    let below : m < 9 = div_below (l + (k - 1)) k 9 some_k (below_nine l k some_k k_covers) in
    let above : 1 ≤ m = le-div 1 (l + (k - 1)) k some_k (from_one l k some_l some_k) in
    let some_m : 0 < m = omega (arith, above) in
    let thin : m ≤ 8 = omega (arith, below) in
    let some_s : 0 < s = omega (arith, some_m) in
    let whole : k * s ≡ m * k * 4 = by_leaves k m in
    let low_k : k ≤ blocks s n =
    le-div k (n + (s - 1)) s some_s
    (tight n l k m (m * (k - 1)) (m * k) s (k * s) l_close k_close some_k (mul-le m (k - 1) 8 (k - 1) thin (omega arith)) some_m (one_less m k some_k) refl whole) in
    let high_k : blocks s n < k + 1 =
    div_below (n + (s - 1)) s (k + 1) some_s (enough n l (m * k) s (k * s) ((k + 1) * s) l_covers m_covers some_s whole (one_more k s)) in
    record {
      leaves = some_m;
      thin = thin;
      count = same (blocks s n) k low_k high_k;
      held = many n l (m * k) (k * s) l_covers m_covers whole;
      few = few_blanks n l k (m * k) (k * s) l_close m_close whole;
    }

pub auto_signatures : AutoSignatures
auto_signatures row low =
    let n : ℕ = length row in
    let s : ℕ = auto_sides n in
    let c : Chosen n = chosen n low in
    let long : length (in_signatures s row) ≡ auto_count n * s = signatures_len s row ∙ ap (λ q. q * s) c.count in (
      (sides_some (auto_leaves n) c.leaves, by_four (auto_leaves n), allowed (auto_leaves n) c.thin),
      at_most (auto_leaves n) c.thin,
      c.count,
      subst (λ x. n ≤ x) (sym long) c.held,
      subst (λ x. x < n + auto_count n * 4) (sym long) c.few,
    )
  where
    sides_some : (m : ℕ) → 0 < m → 0 < m * 4
    sides_some m low = omega (arith, low)

    by_four : (m : ℕ) → m * 4 % 4 ≡ 0
    by_four m = omega arith

    allowed : (m : ℕ) → m ≤ 8 → m * 4 ≤ most_sides
    allowed m le = omega (arith, le)

    at_most : (m : ℕ) → m ≤ 8 → m * 4 ≤ most_leaves * 4
    at_most m le = omega (arith, le)
