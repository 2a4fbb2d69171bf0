-- How many bytes pages and texts have, counted page by page up to the largest number that a word holds.
use Rattle.std.proofs.Common.{◌≡◌, ◌∙◌, ⊎_elim, ℕ, zero, suc, ◌+◌, ◌*◌, ◌<◌, ◌≤◌, min, List, [], length, take, slice_index_or, ap, subst, arith}
use Rattle.std.specs.Prelude.{sum_by}
use Rattle.std.specs.List.{range_with_len}
use Rattle.std.proofs.lemmas.Bool.{cases_lt}
use Rattle.std.proofs.lemmas.List.{take_all}
use Rattle.std.proofs.lemmas.List.Sums.{sum_by-cons, sum_by_more}
use Rattle.std.proofs.Math.Nat.{mul-zero, le-mul_of_pos_right, mul-le-mul_right}
use Rattle.rules.specs.Parts.{NestedUnit, pages}
use Rattle.rules.specs.Sheets.{Plan, layout}
use Rattle.sheet_plan.specs.Places.{places_of}
use Rattle.sheet_text.specs.Jobs.{JobView}
use Rattle.imposer.specs.Windows.{bytes_of_texts, bytes_together, text_bytes}

-- a sum over no page
pub none : (m : ℕ) → 0 ≡ min 0 m
none m = omega arith

-- a product whose first factor was too large is too large, but for the product with nothing
held : (m n k product : ℕ) → m ≤ n → product ≡ min (m * k) m → product ≡ min (n * k) m
held m n zero product large is =
    let left = mul-zero m in
    let right = mul-zero n in
    omega (arith, is, left, right)
held m n (suc k) product large is =
    let left : m ≤ m * suc k = le-mul_of_pos_right m (omega arith) in
    let right : m * suc k ≤ n * suc k = mul-le-mul_right (suc k) large in
    omega (arith, is, left, right)

least_product : (m n k held_n product : ℕ) → held_n ≡ min n m → product ≡ min (held_n * k) m → product ≡ min (n * k) m
least_product m n k held_n product is so = ⊎_elim
    (λ (small : n < m).
    let same : held_n ≡ n = omega (arith, is, small) in
    subst (λ x. product ≡ min (x * k) m) same so)
    (λ (large : m ≤ n).
    let same : held_n ≡ m = omega (arith, is, large) in
    held m n k product large (subst (λ x. product ≡ min (x * k) m) same so))
    (cases_lt n m)

-- a sum over the first numbers grows at its end
sum_from : (f : ℕ → ℕ) (a n : ℕ) → sum_by f (range_with_len a (suc n)) ≡ sum_by f (range_with_len a n) + f (a + n)
sum_from f a zero =
    let one = sum_by-cons f a [] in
    let at : f a ≡ f (a + 0) = ap f (omega arith) in
    omega (arith, one, at)
sum_from f a (suc n) =
    let first = sum_by-cons f a (range_with_len (a + 1) (suc n)) in
    let rest = sum_from f (a + 1) n in
    let back = sum_by-cons f a (range_with_len (a + 1) n) in
    let at : f (a + 1 + n) ≡ f (a + suc n) = ap f (omega arith) in
    omega (arith, first, rest, back, at)

sum_next : (f : ℕ → ℕ) (p : ℕ) → sum_by f (range_with_len 0 (p + 1)) ≡ sum_by f (range_with_len 0 p) + f p
sum_next f p =
    let up : p + 1 ≡ suc p = omega arith in
    let longer = ap (λ n. sum_by f (range_with_len 0 n)) up in
    let at : f (0 + p) ≡ f p = ap f (omega arith) in
    omega (arith, longer, sum_from f 0 p, at)

-- one page more
pub pages_next : (m : ℕ) (xs : List (List ℕ)) (p n old new : ℕ) → p < length xs → n ≡ length (slice_index_or xs p [])
    → old ≡ min (bytes_together (take p xs)) m → new ≡ min (old + n) m
    → new ≡ min (bytes_together (take (p + 1) xs)) m
pages_next m xs p n old new within is so next =
    let more : bytes_together (take (p + 1) xs) ≡ bytes_together (take p xs) + length (slice_index_or xs p []) =
    sum_by_more length xs p [] within in
    omega (arith, more, is, so, next)

-- the texts of one page more
pub texts_next : (m : ℕ) (f : ℕ → ℕ) (p n k old placed product new : ℕ) → n * k ≡ f p
    → old ≡ min (sum_by f (range_with_len 0 p)) m → placed ≡ min n m → product ≡ min (placed * k) m
    → new ≡ min (old + product) m → new ≡ min (sum_by f (range_with_len 0 (p + 1))) m
texts_next m f p n k old placed product new is so round times next =
    let more = sum_next f p in
    let added : product ≡ min (f p) m = subst (λ x. product ≡ min x m) is (least_product m n k placed product round times) in
    omega (arith, more, added, so, next)

-- what page p has in texts, read off its bytes and its places
pub read_off : (job : JobView) (p : ℕ) (units : List NestedUnit) (plan : Plan) (bytes : List ℕ) (places : List (ℕ × ℕ))
    → units ≡ job.units → plan ≡ job.plan → bytes ≡ slice_index_or (pages units) p [] → places ≡ places_of (layout plan) p
    → (length bytes + 256) * length places ≡ text_bytes job p
read_off job p units plan bytes places us pl bs ps =
    ap (λ (xs : List ℕ). (length xs + 256) * length places) (bs ∙ ap (λ (xs : List NestedUnit). slice_index_or (pages xs) p []) us)
    ∙ ap (λ (xs : List (ℕ × ℕ)). (length (slice_index_or (pages job.units) p []) + 256) * length xs)
    (ps ∙ ap (λ (x : Plan). places_of (layout x) p) pl)

pub length_read : (job : JobView) (p : ℕ) (units : List NestedUnit) (bytes : List ℕ)
    → units ≡ job.units → bytes ≡ slice_index_or (pages units) p [] → length bytes ≡ length (slice_index_or (pages job.units) p [])
length_read job p units bytes us bs = ap length (bs ∙ ap (λ (xs : List NestedUnit). slice_index_or (pages xs) p []) us)

-- all pages
pub pages_all : (m : ℕ) (xs : List (List ℕ)) (p n : ℕ) → p ≡ length xs → n ≡ min (bytes_together (take p xs)) m → n ≡ min (bytes_together xs) m
pages_all m xs p n end is =
    let whole = ap bytes_together (take_all p xs (omega (arith, end))) in
    omega (arith, whole, is)

pub texts_all : (m : ℕ) (job : JobView) (p n : ℕ) → p ≡ length (pages job.units)
    → n ≡ min (sum_by (text_bytes job) (range_with_len 0 p)) m → n ≡ min (bytes_of_texts job) m
texts_all m job p n end is = is ∙ ap (λ k. min (sum_by (text_bytes job) (range_with_len 0 k)) m) end
