-- The canonical text of what was read is short enough.
use Rattle.std.proofs.Common.{arith, rules, ◌≡◌, ◌⊎◌, inl, inr, ℕ, suc, ◌+◌, ◌^◌, ◌<◌, ◌≤◌, List, [], ◌∷◌, ◌++◌, Bool, true, false, None, refl, sym, ap, subst, ◌∙◌, length}
use Rattle.std.specs.Prelude.{ℤ, nat_lt, ◌||◌, ◌&&◌, ◌==◌, map, flat_map, decimal, if◌then◌else◌}
use Rattle.std.specs.List.{list_any}
use Rattle.std.proofs.lemmas.List.{length-append}
use Rattle.std.proofs.lemmas.List.Folds.{list_any-append}
use Rattle.std.proofs.lemmas.Fmt.{length-decimal-le_wide}
use Rattle.rules.specs.Numbers.{greatest_whole, is_large, number_text}
use Rattle.rules.specs.Papers.{LengthUnit, Pt, Cm, Mm, In, Width, Height}
use Rattle.rules.specs.Specification.{Measure, Modifier, Quarters, Scaled, Moved, WrittenItem, WrittenSpec, Turn, Upright, Left, Half, Right, IsJoined, IsDigits, IsMeasure, AreModifiers, IsItem, IsBareItem, AreGroups, IsSpec, minus_text, unit_name, unit_text, measure_text, turn_text, quarter_turn, quarters, scale, offset_x, offset_y, scale_part, is_one, offset_part, is_zero_points, item_text, joined_by, modulo_text, settled_item, settled, canonical}
use Rattle.rules.specs.Admissible.{fault_of, has_large, items, most_slots, most_spec_bytes}
use Rattle.pagespec.specs.Canonical.{LeavesPageOut, CanonicalIsShort}
use Rattle.pagespec.proofs.Letters.{turn_letter}
use Rattle.pagespec.proofs.Faults.{no_fault, neither}
use Rattle.pagespec.specs.Groups.{IsGroup}
use Rattle.pagespec.proofs.NumberLengths.{number_short, number_few, digits_short}

unit_short : (u : LengthUnit) → length (unit_text u) ≤ length (unit_name u)
unit_short Pt = omega arith
unit_short Cm = omega arith
unit_short Mm = omega arith
unit_short In = omega arith
unit_short Width = omega arith
unit_short Height = omega arith

unit_few : (u : LengthUnit) → length (unit_text u) ≤ 2
unit_few Pt = omega arith
unit_few Cm = omega arith
unit_few Mm = omega arith
unit_few In = omega arith
unit_few Width = omega arith
unit_few Height = omega arith

unit_stands : (text : List ℕ) (u : LengthUnit) → (text ≡ unit_name u) ⊎ ((text ≡ []) × (u ≡ Pt)) → length (unit_text u) ≤ length text
unit_stands text u (inl e) = omega (arith, ap length e, unit_short u)
unit_stands text u (inr (e, p)) = omega (arith, ap (λ x. length (unit_text x)) p)

measure_short : (text : List ℕ) (m : Measure) → IsMeasure text m → is_large m.number ≡ false → length (measure_text m) ≤ length text
measure_short text m (number, unit, e, is, is_unit) small =
    omega (arith, ap length e, length-append number unit, length-append (number_text m.number) (unit_text m.unit), number_short number m.number is small, unit_stands unit m.unit is_unit)

pub measure_few : (m : Measure) → is_large m.number ≡ false → length (measure_text m) ≤ 18
measure_few m small = omega (arith, length-append (number_text m.number) (unit_text m.unit), number_few m.number small, unit_few m.unit)

unless : (b : Bool) (xs : List ℕ) (k : ℕ) → length xs ≤ k → length (if b then [] else xs) ≤ k
unless true xs k h = omega arith
unless false xs k h = h

pub scale_short : (v : ℤ) (k : ℕ) → length (number_text v) ≤ k → length (scale_part v) ≤ suc k
scale_short v k h = unless (is_one v) (64 ∷ number_text v) (suc k) (omega (arith, h))

pair_length : (a b : List ℕ) → length (40 ∷ a ++ 44 ∷ b ++ 41 ∷ []) ≡ length a + length b + 3
pair_length a b = omega (arith, length-append (40 ∷ a ++ 44 ∷ b) (41 ∷ []), length-append (40 ∷ a) (44 ∷ b))

pub offset_short : (x y : Measure) (k : ℕ) → length (measure_text x) + length (measure_text y) + 3 ≤ k → length (offset_part x y) ≤ k
offset_short x y k h =
    unless (is_zero_points x && is_zero_points y) (40 ∷ measure_text x ++ 44 ∷ measure_text y ++ 41 ∷ []) k (omega (arith, h, pair_length (measure_text x) (measure_text y)))

pub turn_few : (t : Turn) → length (turn_text t) ≤ 1
turn_few Upright = omega arith
turn_few Left = omega arith
turn_few Half = omega arith
turn_few Right = omega arith

pub either : (a b : Bool) → (a || b) ≡ false → (a ≡ false) × (b ≡ false)
either true b e = absurd (cc (e))
either false b e = (refl, e)

-- modifiers are written no longer than in the text
modifiers_short : (ms : List Modifier) (text : List ℕ) → AreModifiers text ms → list_any has_large ms ≡ false
    → length (turn_text (quarter_turn (quarters ms))) + length (scale_part (scale ms)) + length (offset_part (offset_x ms) (offset_y ms)) ≤ length text
modifiers_short [] text are small = omega arith
modifiers_short (Quarters n ∷ ms) text (front, rest, e, is, are) small =
    let (letter, one, q, h) = turn_letter front n is in
    omega (arith, ap length e, length-append front rest, ap length one, turn_few (quarter_turn (quarters (Quarters n ∷ ms))), modifiers_short ms rest are small)
modifiers_short (Scaled v ∷ ms) text (front, rest, e, (number, one, is), are) small =
    let (here, behind) = either (is_large v) (list_any has_large ms) small in
    omega (arith, ap length e, length-append front rest, ap length one, scale_short v (length number) (number_short number v is here), modifiers_short ms rest are behind)
modifiers_short (Moved x y ∷ ms) text (front, rest, e, (first, second, one, is_x, is_y), are) small =
    let (here, behind) = either (is_large x.number || is_large y.number) (list_any has_large ms) small in
    let (small_x, small_y) = either (is_large x.number) (is_large y.number) here in
    omega (
      arith,
      ap length e,
      length-append front rest,
      ap length one,
      pair_length first second,
      offset_short x y (length first + length second + 3) (omega (arith, measure_short first x is_x small_x, measure_short second y is_y small_y)),
      modifiers_short ms rest are behind,
    )

pub scale_small : (ms : List Modifier) → list_any has_large ms ≡ false → is_large (scale ms) ≡ false
scale_small [] e = refl
scale_small (Quarters n ∷ ms) e = scale_small ms e
scale_small (Scaled v ∷ ms) e = (either (is_large v) (list_any has_large ms) e).0
scale_small (Moved x y ∷ ms) e = scale_small ms (either (is_large x.number || is_large y.number) (list_any has_large ms) e).1

pub offset_small : (ms : List Modifier) → list_any has_large ms ≡ false → (is_large (offset_x ms).number ≡ false) × (is_large (offset_y ms).number ≡ false)
offset_small [] e = (refl, refl)
offset_small (Quarters n ∷ ms) e = offset_small ms e
offset_small (Scaled v ∷ ms) e = offset_small ms (either (is_large v) (list_any has_large ms) e).1
offset_small (Moved x y ∷ ms) e = either (is_large x.number) (is_large y.number) (either (is_large x.number || is_large y.number) (list_any has_large ms) e).0

abbrev pub large_item : WrittenItem → Bool
large_item i = nat_lt greatest_whole i.page || list_any has_large i.modifiers

-- the parts of an item's text
item_length : (i : WrittenItem) → length (item_text (settled_item i))
    ≡ length (minus_text i.from_end) + length (decimal i.page) + (length (turn_text (quarter_turn (quarters i.modifiers))) + length (scale_part (scale i.modifiers)) + length (offset_part (offset_x i.modifiers) (offset_y i.modifiers)))
item_length i = five (minus_text i.from_end) (decimal i.page) (turn_text (quarter_turn (quarters i.modifiers))) (scale_part (scale i.modifiers)) (offset_part (offset_x i.modifiers) (offset_y i.modifiers))
  where
    five : (a b c d e : List ℕ) → length (a ++ b ++ c ++ d ++ e) ≡ length a + length b + (length c + length d + length e)
    five a b c d e = omega (arith, length-append (a ++ b ++ c ++ d) e, length-append (a ++ b ++ c) d, length-append (a ++ b) c, length-append a b)

pub page_small : (n : ℕ) → nat_lt greatest_whole n ≡ false → n < 10 ^ 5
page_small n e = search (rules, e)

digits_stand : (ds : List ℕ) (n : ℕ) → IsDigits ds n → n < 10 ^ 5 → length (decimal n) ≤ length ds
digits_stand ds n (pass, some, is) h =
    subst (λ k. length (decimal k) ≤ length ds) (sym is) (digits_short ds pass some (omega (arith, h, is)))

-- an item is written no longer than in the text
item_short : (text : List ℕ) (i : WrittenItem) → IsItem text i → large_item i ≡ false → length (item_text (settled_item i)) ≤ length text
item_short text i (ds, rest, e, is, are) small =
    let (page, behind) = either (nat_lt greatest_whole i.page) (list_any has_large i.modifiers) small in
    omega (
      arith,
      item_length i,
      ap length e,
      length-append (minus_text i.from_end ++ ds) rest,
      length-append (minus_text i.from_end) ds,
      digits_stand ds i.page is (page_small i.page page),
      modifiers_short i.modifiers rest are behind,
    )

pub minus_few : (b : Bool) → length (minus_text b) ≤ 1
minus_few true = omega arith
minus_few false = omega arith

-- an item without its page number is written with few bytes, and at most one byte longer than in the text
bare_zero : (i : WrittenItem) → i.page ≡ 0 → length (decimal i.page) ≤ 1
bare_zero i page = subst (λ n. length (decimal n) ≤ 1) (sym page) (length-decimal-le_wide 1 0 (omega arith) (omega arith) (omega arith))

bare_few : (text : List ℕ) (i : WrittenItem) → IsBareItem text i → large_item i ≡ false → length (item_text (settled_item i)) ≤ 60
bare_few text i (rest, e, page, some, are) small =
    let (low, behind) = either (nat_lt greatest_whole i.page) (list_any has_large i.modifiers) small in
    let (small_x, small_y) = offset_small i.modifiers behind in
    omega (
      arith,
      item_length i,
      bare_zero i page,
      minus_few i.from_end,
      turn_few (quarter_turn (quarters i.modifiers)),
      scale_short (scale i.modifiers) 16 (number_few (scale i.modifiers) (scale_small i.modifiers behind)),
      offset_short (offset_x i.modifiers) (offset_y i.modifiers) 39 (omega (arith, measure_few (offset_x i.modifiers) small_x, measure_few (offset_y i.modifiers) small_y)),
    )

bare_short : (text : List ℕ) (i : WrittenItem) → IsBareItem text i → large_item i ≡ false → length (item_text (settled_item i)) ≤ suc (length text)
bare_short text i (rest, e, page, some, are) small =
    let (low, behind) = either (nat_lt greatest_whole i.page) (list_any has_large i.modifiers) small in
    omega (arith, item_length i, bare_zero i page, ap length e, length-append (minus_text i.from_end) rest, modifiers_short i.modifiers rest are behind)

-- rows are written no longer than in the text if their parts are
joined_short : {X Y : Type 0} (c : ℕ) (R : List ℕ → X → Type 0) (f : Y → List ℕ) (g : X → Y) (large : X → Bool)
    → ((t : List ℕ) (x : X) → R t x → large x ≡ false → length (f (g x)) ≤ length t)
    → (xs : List X) (text : List ℕ) → IsJoined c R text xs → list_any large xs ≡ false → length (joined_by c (map f (map g xs))) ≤ length text
joined_short c R f g large short [] text joined small = omega arith
joined_short c R f g large short (x ∷ []) text joined small = short text x joined (either (large x) false small).0
joined_short c R f g large short (x ∷ y ∷ xs) text (front, rest, e, is, joined) small =
    let (here, behind) = either (large x) (list_any large (y ∷ xs)) small in
    omega (
      arith,
      ap length e,
      length-append front (c ∷ rest),
      length-append (f (g x)) (c ∷ joined_by c (map f (map g (y ∷ xs)))),
      short front x is here,
      joined_short c R f g large short (y ∷ xs) rest joined behind,
    )

group_short : (text : List ℕ) (g : List WrittenItem) → IsGroup text g → list_any large_item g ≡ false → length (joined_by 43 (map item_text (map settled_item g))) ≤ length text
group_short text g joined small = joined_short 43 IsItem item_text settled_item large_item item_short g text joined small

pub any_row : {X : Type 0} (p : X → Bool) (gs : List (List X)) → list_any p (flat_map (λ g. g) gs) ≡ list_any (λ g. list_any p g) gs
any_row p [] = refl
any_row p (g ∷ gs) = list_any-append p g (flat_map (λ h. h) gs) ∙ ap (λ b. list_any p g || b) (any_row p gs)

abbrev groups_text : List (List WrittenItem) → List ℕ
groups_text gs = joined_by 44 (map (λ g. joined_by 43 (map item_text g)) (map (λ g. map settled_item g) gs))

-- the text is one item without its page number, which is written with few bytes
record IsBare (text : List ℕ) (written : ℕ) : Type 0 where
  pub item : WrittenItem
  pub is : IsBareItem text item
  pub few : written ≤ 60
  pub short : written ≤ suc (length text)

-- groups are written no longer than in the text, except an item without its page number
groups_short : (text : List ℕ) (gs : List (List WrittenItem)) → AreGroups text gs → list_any large_item (flat_map (λ g. g) gs) ≡ false → (length (groups_text gs) ≤ length text) ⊎ IsBare text (length (groups_text gs))
groups_short text gs (inl joined) small =
    inl (joined_short 44 IsGroup (λ g. joined_by 43 (map item_text g)) (λ g. map settled_item g) (λ g. list_any large_item g) group_short gs text joined (sym (any_row large_item gs) ∙ small))
groups_short text gs (inr (i, e, bare)) small =
    let here : list_any large_item (i ∷ []) ≡ false = sym (ap (λ x. list_any large_item (flat_map (λ g. g) x)) e) ∙ small in
    let low = (either (large_item i) false here).0 in
    inr (subst (λ x. IsBare text (length (groups_text x))) (sym e) (record { item = i; is = bare; few = bare_few text i bare low; short = bare_short text i bare low }))

pub modulo_short : (m k : ℕ) → length (decimal m) ≤ k → length (modulo_text m) ≤ suc k
modulo_short m k h = unless (m == 1) (decimal m ++ 58 ∷ []) (suc k) (omega (arith, h, length-append (decimal m) (58 ∷ [])))

canonical_length : (spec : WrittenSpec) → length (canonical (settled spec)) ≡ length (modulo_text spec.modulo) + length (groups_text spec.groups)
canonical_length spec = length-append (modulo_text spec.modulo) (groups_text spec.groups)

-- what the canonical text of a text of this many bytes keeps to
record IsShort (text : List ℕ) (written : ℕ) : Type 0 where
  pub enough : written ≤ most_spec_bytes
  pub one_more : written ≤ length text + 1
  pub bare : length text < written → LeavesPageOut text

spec_short : (t : List ℕ) (spec : WrittenSpec) → IsSpec t spec → fault_of most_slots spec ≡ None → length t ≤ most_spec_bytes → IsShort t (length (canonical (settled spec)))
spec_short t spec (inl (one, are)) none h =
    let (modulo, small) = neither (nat_lt greatest_whole spec.modulo) (list_any large_item (items spec)) (no_fault spec none) in
    let nothing : length (modulo_text spec.modulo) ≡ 0 = ap (λ m. length (modulo_text m)) one in
    let long : length (canonical (settled spec)) ≡ length (groups_text spec.groups) = omega (arith, canonical_length spec, nothing) in
    subst (IsShort t) (sym long) (by_groups (length (groups_text spec.groups)) (groups_short t spec.groups are small))
  where
    by_groups : (a : ℕ) → (a ≤ length t) ⊎ IsBare t a → IsShort t a
    by_groups a (inl k) = record { enough = omega (arith, h, k); one_more = omega (arith, k); bare = λ more. absurd (omega (arith, more, k)) }
    by_groups a (inr k) = record { enough = omega (arith, k.few); one_more = omega (arith, k.short); bare = λ more. (k.item, inl k.is) }
spec_short t spec (inr (ds, rest, e, is, are)) none h =
    let (modulo, small) = neither (nat_lt greatest_whole spec.modulo) (list_any large_item (items spec)) (no_fault spec none) in
    let low = page_small spec.modulo modulo in
    let few : length (modulo_text spec.modulo) ≤ 6 = modulo_short spec.modulo 5 (length-decimal-le_wide 5 spec.modulo (omega arith) low (omega (arith, low))) in
    let stands : length (modulo_text spec.modulo) ≤ suc (length ds) = modulo_short spec.modulo (length ds) (digits_stand ds spec.modulo is low) in
    let whole : length t ≡ suc (length ds) + length rest = omega (arith, ap length e, length-append ds (58 ∷ rest)) in
    subst (IsShort t) (sym (canonical_length spec)) (by_groups (length (modulo_text spec.modulo)) (length (groups_text spec.groups)) few stands whole (groups_short rest spec.groups are small))
  where
    by_groups : (b a : ℕ) → b ≤ 6 → b ≤ suc (length ds) → length t ≡ suc (length ds) + length rest → (a ≤ length rest) ⊎ IsBare rest a → IsShort t (b + a)
    by_groups b a few stands whole (inl k) =
        record { enough = omega (arith, h, k, stands, whole); one_more = omega (arith, k, stands, whole); bare = λ more. absurd (omega (arith, more, k, stands, whole)) }
    by_groups b a few stands whole (inr k) =
        record { enough = omega (arith, k.few, few); one_more = omega (arith, k.short, stands, whole); bare = λ more. (k.item, inr (ds, rest, spec.modulo, e, is, k.is)) }

pub short_enough : (t : List ℕ) (spec : WrittenSpec) → IsSpec t spec → fault_of most_slots spec ≡ None → length t ≤ most_spec_bytes → length (canonical (settled spec)) ≤ most_spec_bytes
short_enough t spec is none h = (spec_short t spec is none h).enough

pub canonical_short : CanonicalIsShort
canonical_short text spec (h, written, stands, right, e) =
    subst (λ s. (length (canonical s) ≤ length text + 1) × (length text < length (canonical s) → LeavesPageOut text)) (sym e)
    (let short = spec_short text written stands right h in (short.one_more, short.bare))
