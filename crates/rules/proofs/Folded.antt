-- A folded signature is read in order.
use Rattle.std.specs.Prelude.{Option, None, length}
use Rattle.std.proofs.lemmas.List.FromFn.{get_or-map-range_with_len, length-map-range_with_len}
use Rattle.rules.specs.Sheets.{blocks}
use Rattle.rules.specs.Signatures.{entry_of}
use Rattle.rules.proofs.Counts.{row_at}
use Rattle.rules.specs.Rows.{Row, in_signatures}
use Rattle.rules.specs.Leaves.{ReadInOrder, RowIsRead, face_of, faces, outwards, read_inwards, read_outwards, read_signature, reading}
use Rattle.rules.proofs.Faces.{left_of, right_of}
use Rattle.std.proofs.Common.{arith, ◌≡◌, ℕ, zero, suc, ◌+◌, ◌-◌, ◌*◌, ◌%◌, ◌<◌, ◌≤◌, List, [], ◌∷◌, ◌++◌, map, refl, sym, ap, ◌∙◌}
use Rattle.std.specs.Prelude.{flat_map, ◌==◌, if◌then◌else◌}
use Rattle.std.specs.List.{range_with_len}
use Rattle.std.proofs.lemmas.Nat.{div-mul-add, mod-mul-add}
use Rattle.rules.specs.Signatures.{page_in_signature}

-- leaf j, and which of its four sides
abbrev side : (s j r : ℕ) → ℕ
side s j r = if r == 0 then s - 1 - 2 * j else (if r == 1 then 2 * j else (if r == 2 then 2 * j + 1 else s - 2 - 2 * j))

side_at : (s j r : ℕ) → r < 4 → page_in_signature s (j * 4 + r) ≡ side s j r
side_at s j r lt = ap (λ k. side s k ((j * 4 + r) % 4)) (div-mul-add j 4 r lt) ∙ ap (side s j) (mod-mul-add j 4 r lt)

abbrev Onto : (a b : ℕ) → (c d : ℕ) → List ℕ → List ℕ → Type 0
Onto a b c d xs ys = a ∷ b ∷ xs ≡ c ∷ d ∷ ys

onto : (a b c d : ℕ) (xs ys : List ℕ) → a ≡ c → b ≡ d → xs ≡ ys → Onto a b c d xs ys
onto a b c d xs ys e f g = ap (λ z. z ∷ b ∷ xs) e ∙ ap (λ z. c ∷ z ∷ xs) f ∙ ap (λ z. c ∷ d ∷ z) g

two_more : (a k : ℕ) → range_with_len a (2 * suc k) ≡ a ∷ (a + 1) ∷ range_with_len (a + 1 + 1) (2 * k)
two_more a k = let e : 2 * suc k ≡ suc (suc (2 * k)) = omega arith in ap (λ n. range_with_len a n) e

in_part : (s a m : ℕ) → map (page_in_signature s) (flat_map (λ j. (j * 4 + 1) ∷ (j * 4 + 2) ∷ []) (range_with_len a m)) ≡ range_with_len (2 * a) (2 * m)
in_part s a zero = refl
in_part s a (suc m) =
    let e : 2 * (a + 1) ≡ 2 * a + 1 + 1 = omega arith in
    onto (page_in_signature s (a * 4 + 1)) (page_in_signature s (a * 4 + 2)) (2 * a) (2 * a + 1)
    (map (page_in_signature s) (flat_map (λ j. (j * 4 + 1) ∷ (j * 4 + 2) ∷ []) (range_with_len (a + 1) m)))
    (range_with_len (2 * a + 1 + 1) (2 * m))
    (side_at s a 1 (omega arith)) (side_at s a 2 (omega arith))
    (in_part s (a + 1) m ∙ ap (λ b. range_with_len b (2 * m)) e)
    ∙ sym (two_more (2 * a) m)

out_part : (s m : ℕ) → 2 * m ≤ s → map (page_in_signature s) (flat_map (λ j. (j * 4 + 3) ∷ (j * 4 + 0) ∷ []) (outwards m)) ≡ range_with_len (s - 2 * m) (2 * m)
out_part s zero le = refl
out_part s (suc m) le =
    let c : s - 2 - 2 * m ≡ s - 2 * suc m = omega (arith, le) in
    let d : s - 1 - 2 * m ≡ s - 2 * suc m + 1 = omega (arith, le) in
    let e : s - 2 * m ≡ s - 2 * suc m + 1 + 1 = omega (arith, le) in
    onto (page_in_signature s (m * 4 + 3)) (page_in_signature s (m * 4 + 0)) (s - 2 * suc m) (s - 2 * suc m + 1)
    (map (page_in_signature s) (flat_map (λ j. (j * 4 + 3) ∷ (j * 4 + 0) ∷ []) (outwards m)))
    (range_with_len (s - 2 * suc m + 1 + 1) (2 * m))
    (side_at s m 3 (omega arith) ∙ c) (side_at s m 0 (omega arith) ∙ d)
    (out_part s m (omega (arith, le)) ∙ ap (λ b. range_with_len b (2 * m)) e)
    ∙ sym (two_more (s - 2 * suc m) m)

map_over : (f : ℕ → ℕ) (xs ys : List ℕ) → map f (xs ++ ys) ≡ map f xs ++ map f ys
map_over f [] ys = refl
map_over f (x ∷ xs) ys = ap (λ z. f x ∷ z) (map_over f xs ys)

range_over : (a m n : ℕ) → range_with_len a m ++ range_with_len (a + m) n ≡ range_with_len a (m + n)
range_over a zero n =
    let e : a + 0 ≡ a = omega arith in
    let f : n ≡ 0 + n = omega arith in
    ap (λ b. range_with_len b n) e ∙ ap (λ k. range_with_len a k) f
range_over a (suc m) n =
    let e : a + suc m ≡ a + 1 + m = omega arith in
    let f : suc m + n ≡ suc (m + n) = omega arith in
    ap (λ b. (a ∷ range_with_len (a + 1) m) ++ range_with_len b n) e
    ∙ ap (λ z. a ∷ z) (range_over (a + 1) m n)
    ∙ sym (ap (λ k. range_with_len a k) f)

pub read_in_order : ReadInOrder
read_in_order m =
    let s : ℕ = m * 4 in
    let inward : List ℕ = flat_map (λ j. (j * 4 + 1) ∷ (j * 4 + 2) ∷ []) (range_with_len 0 m) in
    let outward : List ℕ = flat_map (λ j. (j * 4 + 3) ∷ (j * 4 + 0) ∷ []) (outwards m) in
    let half : m * 4 - 2 * m ≡ 0 + 2 * m = omega arith in
    let whole : 2 * m + 2 * m ≡ m * 4 = omega arith in
    map_over (page_in_signature s) inward outward
    ∙ ap (λ z. z ++ map (page_in_signature s) outward) (in_part s 0 m)
    ∙ ap (λ z. range_with_len 0 (2 * m) ++ z) (out_part s m (omega arith) ∙ ap (λ b. range_with_len b (2 * m)) half)
    ∙ range_over 0 (2 * m) (2 * m)
    ∙ ap (λ k. range_with_len 0 k) whole

-- ---- whole rows: the entry at a position is the one that the row has there in its order
abbrev Agree : (s : ℕ) (f g : ℕ → Option ℕ) → Type 0
Agree s f g = (i : ℕ) → i < s → f i ≡ g (page_in_signature s i)

pair : (a b c d : Option ℕ) (xs ys : List (Option ℕ)) → a ≡ c → b ≡ d → xs ≡ ys → a ∷ b ∷ xs ≡ c ∷ d ∷ ys
pair a b c d xs ys e f g = ap (λ z. z ∷ b ∷ xs) e ∙ ap (λ z. c ∷ z ∷ xs) f ∙ ap (λ z. c ∷ d ∷ z) g

in_mapped : (s : ℕ) (f g : ℕ → Option ℕ) → Agree s f g → (a m : ℕ) → (a + m) * 4 ≤ s
    → map f (flat_map (λ j. (j * 4 + 1) ∷ (j * 4 + 2) ∷ []) (range_with_len a m)) ≡ map g (range_with_len (2 * a) (2 * m))
in_mapped s f g h a zero le = refl
in_mapped s f g h a (suc m) le =
    let e : 2 * (a + 1) ≡ 2 * a + 1 + 1 = omega arith in
    pair (f (a * 4 + 1)) (f (a * 4 + 2)) (g (2 * a)) (g (2 * a + 1))
    (map f (flat_map (λ j. (j * 4 + 1) ∷ (j * 4 + 2) ∷ []) (range_with_len (a + 1) m)))
    (map g (range_with_len (2 * a + 1 + 1) (2 * m)))
    (h (a * 4 + 1) (omega (arith, le)) ∙ ap g (side_at s a 1 (omega arith)))
    (h (a * 4 + 2) (omega (arith, le)) ∙ ap g (side_at s a 2 (omega arith)))
    (in_mapped s f g h (a + 1) m (omega (arith, le)) ∙ ap (λ b. map g (range_with_len b (2 * m))) e)
    ∙ ap (map g) (sym (two_more (2 * a) m))

out_mapped : (s : ℕ) (f g : ℕ → Option ℕ) → Agree s f g → (m : ℕ) → m * 4 ≤ s
    → map f (flat_map (λ j. (j * 4 + 3) ∷ (j * 4 + 0) ∷ []) (outwards m)) ≡ map g (range_with_len (s - 2 * m) (2 * m))
out_mapped s f g h zero le = refl
out_mapped s f g h (suc m) le =
    let c : s - 2 - 2 * m ≡ s - 2 * suc m = omega (arith, le) in
    let d : s - 1 - 2 * m ≡ s - 2 * suc m + 1 = omega (arith, le) in
    let e : s - 2 * m ≡ s - 2 * suc m + 1 + 1 = omega (arith, le) in
    pair (f (m * 4 + 3)) (f (m * 4 + 0)) (g (s - 2 * suc m)) (g (s - 2 * suc m + 1))
    (map f (flat_map (λ j. (j * 4 + 3) ∷ (j * 4 + 0) ∷ []) (outwards m)))
    (map g (range_with_len (s - 2 * suc m + 1 + 1) (2 * m)))
    (h (m * 4 + 3) (omega (arith, le)) ∙ ap g (side_at s m 3 (omega arith) ∙ c))
    (h (m * 4 + 0) (omega (arith, le)) ∙ ap g (side_at s m 0 (omega arith) ∙ d))
    (out_mapped s f g h m (omega (arith, le)) ∙ ap (λ b. map g (range_with_len b (2 * m))) e)
    ∙ ap (map g) (sym (two_more (s - 2 * suc m) m))

shown_over : (f : ℕ → Option ℕ) (xs ys : List ℕ) → map f (xs ++ ys) ≡ map f xs ++ map f ys
shown_over f [] ys = refl
shown_over f (x ∷ xs) ys = ap (λ z. f x ∷ z) (shown_over f xs ys)

signature_read : (m : ℕ) (f g : ℕ → Option ℕ) → Agree (m * 4) f g → map f (reading m) ≡ map g (range_with_len 0 (m * 4))
signature_read m f g h =
    let inward : List ℕ = flat_map (λ j. (j * 4 + 1) ∷ (j * 4 + 2) ∷ []) (range_with_len 0 m) in
    let outward : List ℕ = flat_map (λ j. (j * 4 + 3) ∷ (j * 4 + 0) ∷ []) (outwards m) in
    let half : m * 4 - 2 * m ≡ 0 + 2 * m = omega arith in
    let whole : 2 * m + 2 * m ≡ m * 4 = omega arith in
    shown_over f inward outward
    ∙ ap (λ z. z ++ map f outward) (in_mapped (m * 4) f g h 0 m (omega arith))
    ∙ ap (λ z. map g (range_with_len 0 (2 * m)) ++ z) (out_mapped (m * 4) f g h m (omega arith) ∙ ap (λ b. map g (range_with_len b (2 * m))) half)
    ∙ sym (shown_over g (range_with_len 0 (2 * m)) (range_with_len (0 + 2 * m) (2 * m)))
    ∙ ap (map g) (range_over 0 (2 * m) (2 * m) ∙ ap (λ k. range_with_len 0 k) whole)

shifted : (g : ℕ → Option ℕ) (c d n : ℕ) → map (λ p. g (c + p)) (range_with_len d n) ≡ map g (range_with_len (c + d) n)
shifted g c d zero = refl
shifted g c d (suc n) =
    let e : c + (d + 1) ≡ c + d + 1 = omega arith in
    ap (λ z. g (c + d) ∷ z) (shifted g c (d + 1) n ∙ ap (λ b. map g (range_with_len b n)) e)

one_more : (a s : ℕ) → (a + 1) * s ≡ a * s + s
one_more a s = grind arith

one_row_more : (k s : ℕ) → suc k * s ≡ s + k * s
one_row_more k s = grind arith

rows_read : (s : ℕ) (g : ℕ → Option ℕ) (F : ℕ → List (Option ℕ)) (n : ℕ) → ((b : ℕ) → b < n → F b ≡ map (λ p. g (b * s + p)) (range_with_len 0 s))
    → (a k : ℕ) → a + k ≤ n → flat_map F (range_with_len a k) ≡ map g (range_with_len (a * s) (k * s))
rows_read s g F n h a zero le =
    let e : 0 ≡ 0 * s = omega arith in
    ap (λ z. map g (range_with_len (a * s) z)) e
rows_read s g F n h a (suc k) le =
    let c : a * s + 0 ≡ a * s = omega arith in
    ap (λ z. z ++ flat_map F (range_with_len (a + 1) k))
    (h a (omega (arith, le)) ∙ shifted g (a * s) 0 s ∙ ap (λ b. map g (range_with_len b s)) c)
    ∙ ap (λ z. map g (range_with_len (a * s) s) ++ z)
    (rows_read s g F n h (a + 1) k (omega (arith, le)) ∙ ap (λ b. map g (range_with_len b (k * s))) (one_more a s))
    ∙ sym (shown_over g (range_with_len (a * s) s) (range_with_len (a * s + s) (k * s)))
    ∙ ap (map g) (range_over (a * s) s (k * s) ∙ ap (λ z. range_with_len (a * s) z) (sym (one_row_more k s)))

position : (s : ℕ) (row : Row) (b i : ℕ) → b < blocks s (length row) → i < s
    → entry_of (in_signatures s row) (b * s + i) ≡ entry_of row (b * s + page_in_signature s i)
position s row b i low lt =
    row_at (λ c. map (λ k. entry_of row (c * s + page_in_signature s k)) (range_with_len 0 s)) s
    (λ c. length-map-range_with_len (λ k. entry_of row (c * s + page_in_signature s k)) 0 s)
    0 (blocks s (length row)) b i b None low lt (omega arith)
    ∙ get_or-map-range_with_len (λ k. entry_of row (b * s + page_in_signature s k)) 0 s i i None lt (omega arith)

-- ---- the halves of leaves, as positions
front_right : (b m j : ℕ) → 2 * (2 * (b * m + j)) + 1 ≡ b * (m * 4) + (j * 4 + 1)
front_right b m j = grind arith

back_left : (b m j : ℕ) → 2 * (2 * (b * m + j) + 1) ≡ b * (m * 4) + (j * 4 + 2)
back_left b m j = grind arith

back_right : (b m j : ℕ) → 2 * (2 * (b * m + j) + 1) + 1 ≡ b * (m * 4) + (j * 4 + 3)
back_right b m j = grind arith

front_left : (b m j : ℕ) → 2 * (2 * (b * m + j)) ≡ b * (m * 4) + (j * 4 + 0)
front_left b m j = grind arith

abbrev shown_at : (r : Row) (m b : ℕ) → ℕ → Option ℕ
shown_at r m b i = entry_of r (b * (m * 4) + i)

inwards_shown : (r : Row) (m b : ℕ) (js : List ℕ) → flat_map (λ j. read_inwards (faces r) (b * m + j)) js
    ≡ map (shown_at r m b) (flat_map (λ j. (j * 4 + 1) ∷ (j * 4 + 2) ∷ []) js)
inwards_shown r m b [] = refl
inwards_shown r m b (j ∷ js) =
    pair (face_of (faces r) (2 * (b * m + j))).right (face_of (faces r) (2 * (b * m + j) + 1)).left
    (shown_at r m b (j * 4 + 1)) (shown_at r m b (j * 4 + 2))
    (flat_map (λ i. read_inwards (faces r) (b * m + i)) js)
    (map (shown_at r m b) (flat_map (λ i. (i * 4 + 1) ∷ (i * 4 + 2) ∷ []) js))
    (right_of r (2 * (b * m + j)) ∙ ap (entry_of r) (front_right b m j))
    (left_of r (2 * (b * m + j) + 1) ∙ ap (entry_of r) (back_left b m j))
    (inwards_shown r m b js)

outwards_shown : (r : Row) (m b : ℕ) (js : List ℕ) → flat_map (λ j. read_outwards (faces r) (b * m + j)) js
    ≡ map (shown_at r m b) (flat_map (λ j. (j * 4 + 3) ∷ (j * 4 + 0) ∷ []) js)
outwards_shown r m b [] = refl
outwards_shown r m b (j ∷ js) =
    pair (face_of (faces r) (2 * (b * m + j) + 1)).right (face_of (faces r) (2 * (b * m + j))).left
    (shown_at r m b (j * 4 + 3)) (shown_at r m b (j * 4 + 0))
    (flat_map (λ i. read_outwards (faces r) (b * m + i)) js)
    (map (shown_at r m b) (flat_map (λ i. (i * 4 + 3) ∷ (i * 4 + 0) ∷ []) js))
    (right_of r (2 * (b * m + j) + 1) ∙ ap (entry_of r) (back_right b m j))
    (left_of r (2 * (b * m + j)) ∙ ap (entry_of r) (front_left b m j))
    (outwards_shown r m b js)

leaves_shown : (r : Row) (m b : ℕ) → read_signature m (faces r) b ≡ map (shown_at r m b) (reading m)
leaves_shown r m b =
    let inward : List ℕ = flat_map (λ j. (j * 4 + 1) ∷ (j * 4 + 2) ∷ []) (range_with_len 0 m) in
    let outward : List ℕ = flat_map (λ j. (j * 4 + 3) ∷ (j * 4 + 0) ∷ []) (outwards m) in
    ap (λ z. z ++ flat_map (λ j. read_outwards (faces r) (b * m + j)) (outwards m)) (inwards_shown r m b (range_with_len 0 m))
    ∙ ap (λ z. map (shown_at r m b) inward ++ z) (outwards_shown r m b (outwards m))
    ∙ sym (shown_over (shown_at r m b) inward outward)

pub row_is_read : RowIsRead
row_is_read m row =
    let n : ℕ = blocks (m * 4) (length row) in
    let laid : Row = in_signatures (m * 4) row in
    let z : 0 * (m * 4) ≡ 0 = omega arith in
    rows_read (m * 4) (entry_of row) (read_signature m (faces laid)) n
    (λ b low. leaves_shown laid m b
    ∙ signature_read m (shown_at laid m b) (λ p. entry_of row (b * (m * 4) + p)) (λ i lt. position (m * 4) row b i low lt))
    0 n (omega arith)
    ∙ ap (λ a. map (entry_of row) (range_with_len a (n * (m * 4)))) z
