-- The order of a signature, and the row of all signatures.
use Rattle.std.proofs.Common.{arith, inl, inr, ◌≡◌, ℕ, zero, suc, ◌+◌, ◌-◌, ◌*◌, ◌/◌, ◌%◌, ◌<◌, ◌≤◌, List, [], ◌∷◌, ◌++◌, Option, Some, None, length, map, get_or, refl, sym, ap, ◌∙◌}
use Rattle.std.specs.Prelude.{flat_map, ◌==◌, if◌then◌else◌}
use Rattle.std.specs.List.{range_with_len}
use Rattle.std.proofs.lemmas.Bool.{cases_lt}
use Rattle.std.proofs.lemmas.Bool.Decides.{nat_tests}
use Rattle.std.proofs.lemmas.List.{get_or_past}
use Rattle.std.proofs.lemmas.List.FromFn.{get_or-map-range_with_len, length-map-range_with_len}
use Rattle.std.proofs.lemmas.Nat.{div-add-mod', div-mul-add, mod-mul-add, mod_below, div_below, mul-le}
use Rattle.rules.specs.Specification.{Item, Spec}
use Rattle.rules.specs.Sheets.{Slot, blocks, page_at, place, sheets_over}
use Rattle.rules.specs.Signatures.{AreSides, AreSidesIfGiven, EachPageOnce, IsPermutation, WholeSignatures, WithoutSides, entry_in, entry_of, page_in_signature, row_len, signature_row}
use Rattle.rules.proofs.Counts.{range_len, row_at, rows_len}

-- ---- one signature: leaf j, and which of its four sides
abbrev side : (s j r : ℕ) → ℕ
side s j r = if r == 0 then s - 1 - 2 * j else (if r == 1 then 2 * j else (if r == 2 then 2 * j + 1 else s - 2 - 2 * j))

by_side : (P : ℕ → Type 0) → P 0 → P 1 → P 2 → P 3 → (r : ℕ) → r < 4 → P r
by_side P a b c d zero lt = a
by_side P a b c d (suc zero) lt = b
by_side P a b c d (suc (suc zero)) lt = c
by_side P a b c d (suc (suc (suc zero))) lt = d
by_side P a b c d (suc (suc (suc (suc r)))) lt = absurd (omega arith)

-- this many leaves
leaves : (s : ℕ) → AreSides s → s ≡ s / 4 * 4
leaves s sides = let e = div-add-mod' s 4 in let z = sides.1 in omega arith

side_at : (s j r : ℕ) → r < 4 → page_in_signature s (j * 4 + r) ≡ side s j r
side_at s j r lt = ap (λ k. side s k ((j * 4 + r) % 4)) (div-mul-add j 4 r lt) ∙ ap (side s j) (mod-mul-add j 4 r lt)

side_within : (s m j : ℕ) → s ≡ m * 4 → j < m → (r : ℕ) → r < 4 → side s j r < s
side_within s m j e lt = by_side (λ r. side s j r < s) (omega arith) (omega arith) (omega arith) (omega arith)

abbrev Same : (s j r k q : ℕ) → Type 0
Same s j r k q = side s j r ≡ side s k q → (j ≡ k) × (r ≡ q)

side_once : (s m j k : ℕ) → s ≡ m * 4 → j < m → k < m → (r : ℕ) → r < 4 → (q : ℕ) → q < 4 → Same s j r k q
side_once s m j k e lj lk =
    by_side (λ r. (q : ℕ) → q < 4 → Same s j r k q)
    (by_side (Same s j 0 k) (λ h. (omega arith, refl)) (λ h. absurd (omega arith)) (λ h. absurd (omega arith)) (λ h. absurd (omega arith)))
    (by_side (Same s j 1 k) (λ h. absurd (omega arith)) (λ h. (omega arith, refl)) (λ h. absurd (omega arith)) (λ h. absurd (omega arith)))
    (by_side (Same s j 2 k) (λ h. absurd (omega arith)) (λ h. absurd (omega arith)) (λ h. (omega arith, refl)) (λ h. absurd (omega arith)))
    (by_side (Same s j 3 k) (λ h. absurd (omega arith)) (λ h. absurd (omega arith)) (λ h. absurd (omega arith)) (λ h. (omega arith, refl)))

leaf_below : (s i : ℕ) → AreSides s → i < s → i / 4 < s / 4
leaf_below s i sides lt = div_below i 4 (s / 4) (omega arith) (let e = leaves s sides in omega arith)

pub page_within : (s : ℕ) → AreSides s → (i : ℕ) → i < s → page_in_signature s i < s
page_within s sides i lt = side_within s (s / 4) (i / 4) (leaves s sides) (leaf_below s i sides lt) (i % 4) (mod_below i 4 (omega arith))

pub position_once : (s : ℕ) → AreSides s → (i k : ℕ) → i < s → k < s → page_in_signature s i ≡ page_in_signature s k → i ≡ k
position_once s sides i k li lk h =
    let same = side_once s (s / 4) (i / 4) (k / 4) (leaves s sides) (leaf_below s i sides li) (leaf_below s k sides lk) (i % 4) (mod_below i 4 (omega arith)) (k % 4) (mod_below k 4 (omega arith)) h in
    let a = div-add-mod' i 4 in
    let b = div-add-mod' k 4 in
    let first = same.0 in
    let second = same.1 in
    omega arith

-- where a page is: in the first half of the pages on the second or third side of a leaf, otherwise on the first or
-- fourth
abbrev Stands : (s p : ℕ) → Type 0
Stands s p = (i : ℕ) × (i < s) × (page_in_signature s i ≡ p)

stands_at : (s p j r : ℕ) → r < 4 → j * 4 + r < s → side s j r ≡ p → Stands s p
stands_at s p j r few lt e = (j * 4 + r, lt, side_at s j r few ∙ e)

in_first_half : (s m h t p : ℕ) → s ≡ m * 4 → h < m → t < 2 → h * 2 + t ≡ p → Stands s p
in_first_half s m h zero p e lt few is = stands_at s p h 1 (omega arith) (omega arith) (omega arith)
in_first_half s m h (suc zero) p e lt few is = stands_at s p h 2 (omega arith) (omega arith) (omega arith)
in_first_half s m h (suc (suc t)) p e lt few is = absurd (omega arith)

in_second_half : (s m h t p : ℕ) → s ≡ m * 4 → m ≤ h → p < s → t < 2 → h * 2 + t ≡ p → Stands s p
in_second_half s m h zero p e le lt few is = stands_at s p (2 * m - 1 - h) 3 (omega arith) (omega arith) (omega arith)
in_second_half s m h (suc zero) p e le lt few is = stands_at s p (2 * m - 1 - h) 0 (omega arith) (omega arith) (omega arith)
in_second_half s m h (suc (suc t)) p e le lt few is = absurd (omega arith)

pub page_stands : (s : ℕ) → AreSides s → (p : ℕ) → p < s → Stands s p
page_stands s sides p lt =
    elim (cases_lt (p / 2) (s / 4)) [
      | inl low ↦ in_first_half s (s / 4) (p / 2) (p % 2) p (leaves s sides) low (mod_below p 2 (omega arith)) (div-add-mod' p 2)
      | inr high ↦ in_second_half s (s / 4) (p / 2) (p % 2) p (leaves s sides) high lt (mod_below p 2 (omega arith)) (div-add-mod' p 2)
    ]

pub is_permutation : IsPermutation
is_permutation s sides = (page_within s sides, position_once s sides, page_stands s sides)

-- ---- the row
abbrev signature : (s n b : ℕ) → List (Option ℕ)
signature s n b = map (λ i. page_at n (b * s + page_in_signature s i)) (range_with_len 0 s)

signature_len : (s n b : ℕ) → length (signature s n b) ≡ s
signature_len s n b = length-map-range_with_len (λ i. page_at n (b * s + page_in_signature s i)) 0 s

pub whole_signatures : WholeSignatures
whole_signatures s n = rows_len (signature s n) s (signature_len s n) (range_with_len 0 (blocks s n)) ∙ ap (λ k. k * s) (range_len 0 (blocks s n))

-- the signatures have room for all pages
pub blocks_hold : (s n : ℕ) → 0 < s → n ≤ blocks s n * s
blocks_hold s n some = let e = div-add-mod' (n + (s - 1)) s in let lt = mod_below (n + (s - 1)) s some in omega arith

pub page_shown : (n p : ℕ) → p < n → page_at n p ≡ Some p
page_shown n p lt = grind (arith, nat_tests)

pub page_hidden : (n p : ℕ) → n ≤ p → page_at n p ≡ None
page_hidden n p le = grind (arith, nat_tests)

pub page_named : (n p q : ℕ) → page_at n p ≡ Some q → (p ≡ q) × (q < n)
page_named n p q e = grind (arith, nat_tests)

-- which page an entry names
abbrev pub page_of_entry : (s e : ℕ) → ℕ
page_of_entry s e = e / s * s + page_in_signature s (e % s)

-- an entry has the page that it names, or is blank where there is no such page; entries after the end of the row
-- are blank too
pub entry_at : (s n e : ℕ) → 0 < s → entry_of (signature_row s n) e ≡ page_at n (page_of_entry s e)
entry_at s n e some =
    elim (cases_lt (e / s) (blocks s n)) [
      | inl low ↦
          ap (λ k. get_or (signature_row s n) k None) (sym (div-add-mod' e s))
          ∙ row_at (signature s n) s (signature_len s n) 0 (blocks s n) (e / s) (e % s) (e / s) None low (mod_below e s some) (omega arith)
          ∙ get_or-map-range_with_len (λ i. page_at n (e / s * s + page_in_signature s i)) 0 s (e % s) (e % s) None (mod_below e s some) (omega arith)
      | inr high ↦
          let whole = whole_signatures s n in
          let split = div-add-mod' e s in
          let hold = blocks_hold s n some in
          let far : blocks s n * s ≤ e / s * s = mul-le (blocks s n) s (e / s) s high (omega arith) in
          get_or_past (signature_row s n) e None (omega arith) ∙ sym (page_hidden n (page_of_entry s e) (omega arith))
    ]

quotient_once : (s a b x y : ℕ) → x < s → y < s → a * s + x ≡ b * s + y → (a ≡ b) × (x ≡ y)
quotient_once s a b x y lx ly e =
    let q : a ≡ b = sym (div-mul-add a s x lx) ∙ ap (λ k. k / s) e ∙ div-mul-add b s y ly in
    let r : x ≡ y = sym (mod-mul-add a s x lx) ∙ ap (λ k. k % s) e ∙ mod-mul-add b s y ly in
    (q, r)

pub each_page_once : EachPageOnce
each_page_once s n p sides lt = (e, stands, once)
  where
    some : 0 < s
    some = sides.0

    found : Stands s (p % s)
    found = page_stands s sides (p % s) (mod_below p s some)

    e : ℕ
    e = p / s * s + found.0

    names : page_of_entry s e ≡ p
    names =
        ap (λ q. q * s + page_in_signature s (e % s)) (div-mul-add (p / s) s found.0 found.1)
        ∙ ap (λ i. p / s * s + page_in_signature s i) (mod-mul-add (p / s) s found.0 found.1)
        ∙ ap (λ q. p / s * s + q) found.2
        ∙ div-add-mod' p s

    stands : entry_of (signature_row s n) e ≡ Some p
    stands = entry_at s n e some ∙ ap (page_at n) names ∙ page_shown n p lt

    once : (k : ℕ) → entry_of (signature_row s n) k ≡ Some p → k ≡ e
    once k h =
        let named = (page_named n (page_of_entry s k) p (sym (entry_at s n k some) ∙ h)).0 in
        let both = quotient_once s (k / s) (p / s) (page_in_signature s (k % s)) (p % s) (page_within s sides (k % s) (mod_below k s some)) (mod_below p s some) (named ∙ sym (div-add-mod' p s)) in
        let same = position_once s sides (k % s) found.0 (mod_below k s some) found.1 (both.1 ∙ sym found.2) in
        sym (div-add-mod' k s) ∙ ap (λ q. q * s + k % s) both.0 ∙ ap (λ i. p / s * s + i) same

-- ---- without signatures
in_order : (n e : ℕ) → page_at n e ≡ entry_of (map Some (range_with_len 0 n)) e
in_order n e =
    elim (cases_lt e n) [
      | inl low ↦ page_shown n e low ∙ sym (get_or-map-range_with_len Some 0 n e e None low (omega arith))
      | inr high ↦ page_hidden n e high ∙ sym (get_or_past (map Some (range_with_len 0 n)) e None (let l = length-map-range_with_len {X = Option ℕ} Some 0 n in omega arith))
    ]

items_same : (f g : Item → Slot) → ((i : Item) → f i ≡ g i) → (is : List Item) → map f is ≡ map g is
items_same f g h [] = refl
items_same f g h (i ∷ is) = ap (λ x. x ∷ map f is) (h i) ∙ ap (λ xs. g i ∷ xs) (items_same f g h is)

groups_same : (f g : Item → Slot) → ((i : Item) → f i ≡ g i) → (gs : List (List Item)) → map (λ is. map f is) gs ≡ map (λ is. map g is) gs
groups_same f g h [] = refl
groups_same f g h (is ∷ gs) = ap (λ x. x ∷ map (λ js. map f js) gs) (items_same f g h is) ∙ ap (λ xs. map g is ∷ xs) (groups_same f g h gs)

rows_same : {Y : Type 0} (f g : ℕ → List Y) → ((b : ℕ) → f b ≡ g b) → (bs : List ℕ) → flat_map f bs ≡ flat_map g bs
rows_same f g h [] = refl
rows_same f g h (b ∷ bs) = ap (λ x. x ++ flat_map f bs) (h b) ∙ ap (λ xs. g b ++ xs) (rows_same f g h bs)

abbrev slot : Spec → ℕ → (ℕ → Option ℕ) → ℕ → Item → Slot
slot spec entries entry b i = record { page = entry (place spec.modulo entries b i); item = i }

pub over_same : (spec : Spec) (entries : ℕ) (f g : ℕ → Option ℕ) → ((e : ℕ) → f e ≡ g e) → sheets_over spec entries f ≡ sheets_over spec entries g
over_same spec entries f g h =
    rows_same (λ b. map (λ is. map (slot spec entries f b) is) spec.groups) (λ b. map (λ is. map (slot spec entries g b) is) spec.groups)
    (λ b. groups_same (slot spec entries f b) (slot spec entries g b) (λ i. ap (λ p. record { page = p; item = i }) (h (place spec.modulo entries b i))) spec.groups)
    (range_with_len 0 (blocks spec.modulo entries))

pub without_sides : WithoutSides
without_sides spec n = (refl, refl, over_same spec n (page_at n) (entry_of (map Some (range_with_len 0 n))) (in_order n) ∙ ap (λ l. sheets_over spec l (entry_of (map Some (range_with_len 0 n)))) (sym (length-map-range_with_len {X = Option ℕ} Some 0 n)))

-- ---- an entry of either row
pub row_holds : (sides : Option ℕ) (n : ℕ) → AreSidesIfGiven sides → n ≤ row_len sides n
row_holds None n valid = omega arith
row_holds (Some s) n valid = let whole = whole_signatures s n in let hold = blocks_hold s n valid.0 in omega arith

pub entry_named : (sides : Option ℕ) (n e p : ℕ) → AreSidesIfGiven sides → entry_in sides n e ≡ Some p → p < n
entry_named None n e p valid h = (page_named n e p h).1
entry_named (Some s) n e p valid h = (page_named n (page_of_entry s e) p (sym (entry_at s n e valid.0) ∙ h)).1
