-- What ranges name in all pages.
use Rattle.std.proofs.Common.{arith, ◌≡◌, ℕ, zero, suc, ◌+◌, ◌-◌, ◌<◌, ◌≤◌, true, false, List, [], ◌∷◌, Option, Some, None, length, map, refl, sym, ap, ◌∙◌, append-nil}
use Rattle.std.specs.Prelude.{nat_le, if◌then◌else◌, reverse}
use Rattle.std.specs.List.{range_with_len}
use Rattle.std.proofs.lemmas.Bool.Decides.{nat_tests}
use Rattle.std.proofs.lemmas.List.{get_or-reverse, length-reverse}
use Rattle.std.proofs.lemmas.List.FromFn.{fill_by_all, get_or-map-range_with_len, length-map-range_with_len}
use Rattle.rules.specs.Signatures.{entry_of}
use Rattle.rules.specs.Rows.{all_pages}
use Rattle.rules.specs.Ranges.{RangesOfAll, from_to}

is_le : (a b : ℕ) → a ≤ b → nat_le a b ≡ true
is_le a b h = grind (arith, nat_tests)

is_above : (a b : ℕ) → b < a → nat_le a b ≡ false
is_above a b h = grind (arith, nat_tests)

abbrev up : (first count : ℕ) → List ℕ
up first count = map (λ i. first + i) (range_with_len 0 count)

abbrev down : (first count : ℕ) → List ℕ
down first count = map (λ i. first - i) (range_with_len 0 count)

upward : (first last : ℕ) → first ≤ last → from_to first last ≡ up first (last - first + 1)
upward first last h = ap (λ t. if t then up first (last - first + 1) else down first (first - last + 1)) (is_le first last h)

downward : (first last : ℕ) → last < first → from_to first last ≡ down first (first - last + 1)
downward first last h = ap (λ t. if t then up first (last - first + 1) else down first (first - last + 1)) (is_above first last h)

abbrev entry : ℕ → Option ℕ
entry k = Some (k - 1)

maps_same : {X Y : Type 0} (f : ℕ → X) (g : X → Y) (h : ℕ → Y) (n : ℕ) → ((i : ℕ) → i < n → g (f i) ≡ h i) → (a k : ℕ) → a + k ≤ n
    → map g (map f (range_with_len a k)) ≡ map h (range_with_len a k)
maps_same f g h n same a zero le = refl
maps_same f g h n same a (suc k) le =
    ap (λ z. z ∷ map g (map f (range_with_len (a + 1) k))) (same a (omega (arith, le)))
    ∙ ap (λ z. h a ∷ z) (maps_same f g h n same (a + 1) k (omega (arith, le)))

all_len : (n : ℕ) → length (all_pages n) ≡ n
all_len n = length-map-range_with_len {X = Option ℕ} Some 0 n

page_at_place : (n e : ℕ) → e < n → entry_of (all_pages n) e ≡ Some e
page_at_place n e lt = get_or-map-range_with_len Some 0 n e e None lt (omega arith)

from_end : (n i : ℕ) → i < n → entry_of (reverse (all_pages n)) i ≡ Some (n - 1 - i)
from_end n i lt =
    get_or-reverse (all_pages n) i None (let l = all_len n in omega (arith, l, lt))
    ∙ ap (λ m. entry_of (all_pages n) (m - 1 - i)) (all_len n)
    ∙ page_at_place n (n - 1 - i) (omega (arith, lt))

reverse_is : (n : ℕ) → reverse (all_pages n) ≡ map (λ i. Some (n - 1 - i)) (range_with_len 0 n)
reverse_is n =
    fill_by_all (λ i. Some (n - 1 - i)) (reverse (all_pages n)) n None (length-reverse (all_pages n) ∙ all_len n) (λ i lt. from_end n i lt)

forwards : (n : ℕ) → 0 < n → map entry (from_to 1 (n + 1 - 1)) ≡ all_pages n
forwards n some =
    let last : n + 1 - 1 ≡ n = omega arith in
    let count : n - 1 + 1 ≡ n = omega (arith, some) in
    ap (λ z. map entry (from_to 1 z)) last
    ∙ ap (map entry) (upward 1 n some ∙ ap (up 1) count)
    ∙ maps_same (λ i. 1 + i) entry Some n (λ i lt. ap Some (back i)) 0 n (omega arith)
  where
    back : (i : ℕ) → 1 + i - 1 ≡ i
    back i = omega arith

-- a document of one page is read upward, a longer one downward
backwards : (n : ℕ) → 0 < n → map entry (from_to (n + 1 - 1) 1) ≡ reverse (all_pages n)
backwards zero some = absurd (omega (arith, some))
backwards (suc zero) some = refl
backwards (suc (suc m)) some =
    let n : ℕ = suc (suc m) in
    let first : n + 1 - 1 ≡ n = omega arith in
    let more : 1 < n = omega arith in
    let count : n - 1 + 1 ≡ n = omega arith in
    ap (λ z. map entry (from_to z 1)) first
    ∙ ap (map entry) (downward n 1 more ∙ ap (down n) count)
    ∙ maps_same (λ i. n - i) entry (λ i. Some (n - 1 - i)) n (λ i lt. ap Some (swapped n i)) 0 n (omega arith)
    ∙ sym (reverse_is n)
  where
    swapped : (n i : ℕ) → n - i - 1 ≡ n - 1 - i
    swapped n i = omega arith

alone : (a : ℕ) → map entry (from_to a a) ≡ Some (a - 1) ∷ []
alone a =
    let none : a - a + 1 ≡ 1 = omega arith in
    let same : a + 0 ≡ a = omega arith in
    ap (map entry) (upward a a (omega arith) ∙ ap (up a) none) ∙ ap (λ k. Some (k - 1) ∷ []) same

one_of : (n k : ℕ) → 0 < k → k ≤ n → map entry (from_to (n + 1 - k) (n + 1 - k)) ≡ entry_of (reverse (all_pages n)) (k - 1) ∷ []
one_of n k low high =
    let same : n + 1 - k - 1 ≡ n - 1 - (k - 1) = omega (arith, low, high) in
    alone (n + 1 - k) ∙ ap (λ p. Some p ∷ []) same ∙ ap (λ x. x ∷ []) (sym (from_end n (k - 1) (omega (arith, low, high))))

pub ranges_of_all : RangesOfAll
ranges_of_all n some = (
  append-nil (map entry (from_to 1 (n + 1 - 1))) ∙ forwards n some,
  append-nil (map entry (from_to (n + 1 - 1) 1)) ∙ backwards n some,
  λ k low high. append-nil (map entry (from_to (n + 1 - k) (n + 1 - k))) ∙ one_of n k low high,
)
