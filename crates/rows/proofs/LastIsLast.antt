-- The last page of a booklet is read last.
use Rattle.std.proofs.Common.{ℕ, zero, suc, ◌+◌, ◌-◌, ◌*◌, ◌/◌, ◌<◌, ◌≤◌, min, ◌≡◌, ◌∙◌, refl, ap, ap₂, sym, subst, arith, [], ◌∷◌, ◌++◌, Option, None, Some, map, length, length-append, replicate}
use Rattle.std.specs.Prelude.{flat_map}
use Rattle.std.specs.List.{range_with_len}
use Rattle.std.proofs.lemmas.Nat.{div-mul-add, mul-le}
use Rattle.std.proofs.lemmas.List.{ext_get_or, length-replicate}
use Rattle.std.proofs.lemmas.List.FromFn.{get_or-map-range_with_len, length-map-range_with_len}
use Rattle.rules.specs.Choice.{Signing, InOne, OfSides, Auto, most_entries, sides_for, signed_if}
use Rattle.rules.specs.Leaves.{faces, read_signature}
use Rattle.rules.specs.Rows.{Row, auto_count, auto_leaves, auto_sides, leaves_for}
use Rattle.rules.specs.Sheets.{blocks}
use Rattle.rules.specs.Signatures.{AreSides, entry_of}
use Rattle.rules.proofs.Auto.{auto_signatures, blocks_close, blocks_cover}
use Rattle.rows.proofs.Sewn.{signed_is_read}
use Rattle.rows.specs.LastPage.{LastPageIsLast, before_last, last_at_back}
use Rattle.rows.proofs.LastPage.{blanks_before}

-- ---- a row that fills its signatures keeps their number of sides

-- so many blocks, if they hold n, and no block is empty
count_of : (m n q : ℕ) → 0 < m → n ≤ q * m → q * m < n + m → blocks m n ≡ q
count_of m n q pos low high =
    let split : q * m + (n + (m - 1) - q * m) ≡ n + (m - 1) = omega (arith, pos, low) in
    ap (λ k. k / m) (sym split) ∙ div-mul-add q m (n + (m - 1) - q * m) (omega (arith, pos, low, high))

pub whole_blocks : (m q : ℕ) → 0 < m → blocks m (q * m) ≡ q
whole_blocks m q pos = count_of m (q * m) q pos (omega arith) (omega (arith, pos))

one_signature : (n s q : ℕ) → 0 < n → n ≤ s → n ≤ q * s → q * s < n + s → q ≡ 1
one_signature n s zero some fits low high = absurd (omega (arith, some, low))
one_signature n s (suc zero) some fits low high = refl
one_signature n s (suc (suc q)) some fits low high = absurd (omega (arith, fits, high, twice s q))
  where
    twice : (s q : ℕ) → s + s ≤ suc (suc q) * s
    twice s q = grind arith

in_one : (n : ℕ) → 0 < n → leaves_for (blocks (leaves_for n * 4) n * (leaves_for n * 4)) * 4 ≡ leaves_for n * 4
in_one n some =
    let s = leaves_for n * 4 in
    let fits : n ≤ s = blocks_cover 4 n (omega arith) in
    let pos : 0 < s = omega (arith, some, fits) in
    let one = one_signature n s (blocks s n) some fits (blocks_cover s n pos) (blocks_close s n pos) in
    let same : 1 * s ≡ s = omega arith in
    ap (λ q. leaves_for (q * s) * 4) one ∙ ap (λ w. leaves_for w * 4) same ∙ ap (λ l. l * 4) (whole_blocks 4 (leaves_for n) (omega arith))

some_of : (k s n : ℕ) → 0 < n → n ≤ k * s → 0 < k
some_of zero s n some holds = absurd (omega (arith, some, holds))
some_of (suc k) s n some holds = omega arith

by_leaves : (k m : ℕ) → k * (m * 4) ≡ k * m * 4
by_leaves k m = grind arith

exchanged : (k m : ℕ) → k * m ≡ m * k
exchanged k m = grind arith

in_parts : (row : Row) → 0 < length row → auto_sides (blocks (auto_sides (length row)) (length row) * auto_sides (length row)) ≡ auto_sides (length row)
in_parts row some =
    let n = length row in
    let l = leaves_for n in
    let k = auto_count n in
    let m = auto_leaves n in
    let s = auto_sides n in
    let law = auto_signatures row some in
    let holds : n ≤ k * s = subst (λ q. n ≤ q * s) law.2 (blocks_cover s n law.0.0) in
    let some_k : 0 < k = some_of k s n some holds in
    let le : m * 4 ≤ 32 = law.1 in
    let thin : m ≤ 8 = omega (arith, le) in
    let covers : l ≤ m * k = blocks_cover k l some_k in
    let close : k * 8 < l + 8 = blocks_close 8 l (omega arith) in
    let at_most : k * m ≤ k * 8 = mul-le k m k 8 (omega arith) thin in
    let leaves : leaves_for (blocks s n * s) ≡ k * m = ap (λ q. leaves_for (q * s)) law.2 ∙ ap leaves_for (by_leaves k m) ∙ whole_blocks 4 (k * m) (omega arith) in
    let count : auto_count (blocks s n * s) ≡ k =
    ap (blocks 8) leaves ∙ count_of 8 (k * m) k (omega arith) at_most (omega (arith, close, covers, exchanged k m)) in
    ap₂ (λ q w. blocks q w * 4) count leaves ∙ ap (λ w. blocks k w * 4) (exchanged k m) ∙ ap (λ q. q * 4) (whole_blocks k m some_k)

sides_stay : (how : Signing) (row : Row) → 0 < length row → (let s = sides_for how (length row) in sides_for how (blocks s (length row) * s) ≡ s)
sides_stay InOne row some = in_one (length row) some
sides_stay (OfSides s) row some = refl
sides_stay Auto row some = in_parts row some

-- ---- such a row is read whole

each_entry : (row : Row) → map (entry_of row) (range_with_len 0 (length row)) ≡ row
each_entry row =
    let many = length-map-range_with_len (entry_of row) 0 (length row) in
    ext_get_or None (map (entry_of row) (range_with_len 0 (length row))) row many
    (λ i lt. get_or-map-range_with_len (entry_of row) 0 (length row) i i None (omega (arith, lt, many)) (omega arith))

read_whole : (how : Signing) (row : Row) (s q : ℕ) → sides_for how (length row) ≡ s → length row ≡ q * s → AreSides s
    → flat_map (read_signature (s / 4) (faces (signed_if (Some how) row))) (range_with_len 0 q) ≡ row
read_whole how row s q is count are =
    let many : blocks (sides_for how (length row)) (length row) ≡ q = ap₂ blocks is count ∙ whole_blocks s q are.0 in
    ap₂ (λ a n. flat_map (read_signature (a / 4) (faces (signed_if (Some how) row))) (range_with_len 0 n)) (sym is) (sym many)
    ∙ signed_is_read how row (subst AreSides (sym is) are)
    ∙ ap (λ n. map (entry_of row) (range_with_len 0 n)) (ap₂ (λ a b. a * b) many is ∙ sym count)
    ∙ each_entry row

blanks_len : (k : ℕ) (blank : Option ℕ) → length (replicate k blank) ≡ k
blanks_len k blank = length-replicate k blank

min_is : (w most : ℕ) → w ≤ most → min w most ≡ w
min_is w most fits = omega (arith, fits)

pub last_page_is_last : LastPageIsLast
last_page_is_last how front last are fits =
    let row = front ++ last ∷ [] in
    let n = length row in
    let s = sides_for how n in
    let q = blocks s n in
    let k = q * s - n in
    let ends : n ≡ length front + 1 = length-append front (last ∷ []) in
    let filled : last_at_back (Some how) row ≡ front ++ replicate k None ++ last ∷ [] =
    ap (λ w. before_last (w - n) row) (min_is (q * s) most_entries fits) ∙ sym (blanks_before front last k) in
    let holds : n ≤ q * s = blocks_cover s n are.0 in
    let count : length (front ++ replicate k None ++ last ∷ []) ≡ q * s =
    omega (arith, length-append (front ++ replicate k None) (last ∷ []), length-append front (replicate k None), blanks_len k None, ends, holds) in
    let stay : sides_for how (length (front ++ replicate k None ++ last ∷ [])) ≡ s = ap (sides_for how) count ∙ sides_stay how row (omega (arith, ends)) in
    ap (λ r. flat_map (read_signature (s / 4) (faces (signed_if (Some how) r))) (range_with_len 0 q)) filled
    ∙ read_whole how (front ++ replicate k None ++ last ∷ []) s q stay count are
