-- How many sheets there are, and how many places on them; and what is where in rows of equal length.
use Rattle.std.proofs.Common.{arith, ◌≡◌, ℕ, zero, suc, ◌+◌, ◌*◌, ◌<◌, List, [], ◌∷◌, ◌++◌, get_or, refl, sym, ap, ◌∙◌, length, map, length-append}
use Rattle.std.specs.Prelude.{flat_map, sum_by, Option}
use Rattle.std.specs.List.{range_with_len}
use Rattle.std.proofs.lemmas.List.{get_or_append_left, get_or-append-add}
use Rattle.std.proofs.lemmas.List.Sums.{sum_by-append, sum_by-cons}
use Rattle.rules.specs.Specification.{Item, Spec}
use Rattle.rules.specs.Sheets.{SheetCount, Slot, blocks, place, sheets_over}

pub map_len : {X Y : Type 0} (f : X → Y) (xs : List X) → length (map f xs) ≡ length xs
map_len f [] = refl
map_len f (x ∷ xs) = ap suc (map_len f xs)

pub range_len : (a n : ℕ) → length (range_with_len a n) ≡ n
range_len a zero = refl
range_len a (suc n) = ap suc (range_len (a + 1) n)

zero_times : (g : ℕ) → 0 * g ≡ 0
zero_times g = omega arith

suc_times : (k g : ℕ) → suc k * g ≡ g + k * g
suc_times k g = grind arith

step : (a b k g : ℕ) → a ≡ g → b ≡ k * g → a + b ≡ suc k * g
step a b k g e f = rw e (rw f (sym (suc_times k g)))

pub rows_len : {Y : Type 0} (f : ℕ → List Y) (g : ℕ) → ((b : ℕ) → length (f b) ≡ g) → (bs : List ℕ) → length (flat_map f bs) ≡ length bs * g
rows_len f g h [] = sym (zero_times g)
rows_len f g h (b ∷ bs) = length-append (f b) (flat_map f bs) ∙ step (length (f b)) (length (flat_map f bs)) (length bs) g (h b) (rows_len f g h bs)

-- a group has one sheet in each block
pub sheet_count : SheetCount
sheet_count spec n entry =
    rows_len (λ b. map (λ g. map (λ i. record { page = entry (place spec.modulo n b i); item = i }) g) spec.groups) (length spec.groups) (λ b. map_len _ spec.groups) (range_with_len 0 (blocks spec.modulo n))
    ∙ ap (λ z. z * length spec.groups) (range_len 0 (blocks spec.modulo n))

-- a place for each item of the groups
group_places : (f : Item → Slot) (groups : List (List Item)) → sum_by length (map (λ g. map f g) groups) ≡ sum_by length groups
group_places f [] = refl
group_places f (g ∷ gs) =
    sum_by-cons length (map f g) (map (λ h. map f h) gs)
    ∙ (ap (λ k. k + sum_by length (map (λ h. map f h) gs)) (map_len f g)
    ∙ (ap (λ k. length g + k) (group_places f gs) ∙ sym (sum_by-cons length g gs)))

rows_places : {Y : Type 0} (f : ℕ → List (List Y)) (p : ℕ) → ((b : ℕ) → sum_by length (f b) ≡ p) → (bs : List ℕ) → sum_by length (flat_map f bs) ≡ length bs * p
rows_places f p h [] = sym (zero_times p)
rows_places f p h (b ∷ bs) = sum_by-append length (f b) (flat_map f bs) ∙ step (sum_by length (f b)) (sum_by length (flat_map f bs)) (length bs) p (h b) (rows_places f p h bs)

-- an item has one place in each block
pub place_count : (spec : Spec) (n : ℕ) (entry : ℕ → Option ℕ) → sum_by length (sheets_over spec n entry) ≡ blocks spec.modulo n * sum_by length spec.groups
place_count spec n entry =
    rows_places (λ b. map (λ g. map (λ i. record { page = entry (place spec.modulo n b i); item = i }) g) spec.groups) (sum_by length spec.groups) (λ b. group_places _ spec.groups) (range_with_len 0 (blocks spec.modulo n))
    ∙ ap (λ z. z * sum_by length spec.groups) (range_len 0 (blocks spec.modulo n))

-- rows of g elements each: the j-th of the i-th row
pub row_at : {Y : Type 0} (f : ℕ → List Y) (g : ℕ) → ((b : ℕ) → length (f b) ≡ g) → (a n i j b : ℕ) (d : Y) → i < n → j < g → a + i ≡ b → get_or (flat_map f (range_with_len a n)) (i * g + j) d ≡ get_or (f b) j d
row_at f g h a zero i j b d lt lj is = absurd (omega arith)
row_at f g h a (suc n) zero j b d lt lj is =
    let e : 0 * g + j ≡ j = omega arith in
    let z : a ≡ b = omega arith in
    ap (λ k. get_or (f a ++ flat_map f (range_with_len (a + 1) n)) k d) e
    ∙ get_or_append_left (f a) (flat_map f (range_with_len (a + 1) n)) d j (let l = h a in omega arith)
    ∙ ap (λ k. get_or (f k) j d) z
row_at f g h a (suc n) (suc i) j b d lt lj is =
    let l = h a in
    let e : suc i * g + j ≡ length (f a) + (i * g + j) = next i g j (length (f a)) l in
    ap (λ k. get_or (f a ++ flat_map f (range_with_len (a + 1) n)) k d) e
    ∙ get_or-append-add (f a) (flat_map f (range_with_len (a + 1) n)) (i * g + j) d
    ∙ row_at f g h (a + 1) n i j b d (omega arith) lj (omega arith)
  where
    next : (i g j len : ℕ) → len ≡ g → suc i * g + j ≡ len + (i * g + j)
    next i g j len l = grind arith
