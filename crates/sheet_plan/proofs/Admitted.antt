-- What an admissible specification keeps to.
use Rattle.std.proofs.Common.{arith, ◌≡◌, ℕ, ◌+◌, ◌<◌, ◌≤◌, Bool, true, false, ◌||◌, List, [], ◌∷◌, length, map, get_or, refl, sym, Option, Some, None, subst, inl, inr}
use Rattle.std.specs.Prelude.{if◌then◌else◌, nat_lt, nat_le, position, flat_map, All, ◌==◌}
use Rattle.std.proofs.lemmas.Bool.Decides.{nat_tests}
use Rattle.std.proofs.lemmas.List.{length-map, get_or_append_left, get_or-append-add, length-append}
use Rattle.std.proofs.lemmas.List.Sums.{fails_before_first}
use Rattle.std.proofs.lemmas.List.Elements.{All-nil, All-cons, All-map}
use Rattle.rules.specs.Bytes.{comma, plus_sign}
use Rattle.rules.specs.Specification.{IsJoined, IsItem, IsSpec, AreGroups, WrittenSpec, WrittenItem, Spec, settled, settled_item}
use Rattle.rules.specs.Admissible.{Takes, Fault, TooLarge, ModuloZero, PageOutOfBlock, ScaleZero, Repeated, TooManySlots, TooManyGroups, IsAdmissible, fault_of, else_first, only_if, at_lowest, any_too_large, has_large, items, repeats, is_flat, most_slots, most_groups}
use Rattle.std.specs.List.{list_any, position_or_len}

-- a list of checks without a fault
first_none : (a b : Option Fault) → else_first a b ≡ None → a ≡ None
first_none None b e = refl
first_none (Some f) b e = e

later_none : (a b : Option Fault) → else_first a b ≡ None → b ≡ None
later_none None b e = e
later_none (Some f) b e = cc

not_found : (o : Option ℕ) (f : ℕ → Fault) → at_lowest o f ≡ None → o ≡ None
not_found None f e = refl
not_found (Some i) f e = cc

not_met : (b : Bool) (f : Fault) → only_if b f ≡ None → b ≡ false
not_met true f e = cc
not_met false f e = refl

first_or : (a b : Bool) → (a || b) ≡ false → a ≡ false
first_or true b e = e
first_or false b e = refl

at_most : (a b : ℕ) → nat_lt a b ≡ false → b ≤ a
at_most a b e = grind (arith, nat_tests)

below : (a b : ℕ) → nat_le a b ≡ false → b < a
below a b e = grind (arith, nat_tests)

pub none_passes : {X : Type 0} (p : X → Bool) (xs : List X) → position p xs ≡ None → All (λ x. p x ≡ false) xs
none_passes p xs e k d lt = fails_before_first p xs k d (past (position_or_len p xs) (length xs) k e lt)
  where
    past : (n m k : ℕ) → (if nat_lt n m then Some n else None) ≡ None → k < m → k < n
    past n m k e lt = grind (arith, nat_tests)

-- a property of all items holds in each group
of_flat : {X : Type 0} (P : X → Type 0) (gs : List (List X)) → All P (flat_map (λ g. g) gs) → All (λ g. All P g) gs
of_flat P [] h = All-nil (λ g. All P g)
of_flat P (g ∷ gs) h =
    All-cons (λ g. All P g) g gs
    (λ k d lt. let low : k < length g = lt in subst P (get_or_append_left g (flat_map (λ g. g) gs) d k low) (h k d (let l = length-append g (flat_map (λ g. g) gs) in omega arith)))
    (of_flat P gs (λ k d lt. subst P (get_or-append-add g (flat_map (λ g. g) gs) k d) (h (length g + k) d (let l = length-append g (flat_map (λ g. g) gs) in omega arith))))

-- the bounds of an admissible specification
pub record IsBounded (spec : Spec) : Type 0 where
  pub modulo : 0 < spec.modulo
  pub few_pages : spec.modulo ≤ 99_999
  pub few_groups : length spec.groups ≤ most_groups
  pub few_slots : All (λ g. length g ≤ most_slots) spec.groups
  pub paged : All (λ g. All (λ i. i.page < spec.modulo) g) spec.groups

map_all : {X Y : Type 0} (P : Y → Type 0) (f : X → Y) (xs : List X) → All (λ x. P (f x)) xs → All P (map f xs)
map_all P f xs h = All-map P f xs h

abbrev page_fault : WrittenSpec → Option ℕ
page_fault w = position (λ i. nat_le w.modulo i.page) (items w)

abbrev wide_fault : WrittenSpec → Option ℕ
wide_fault w = position (λ g. nat_lt most_slots (length g)) w.groups

abbrev from_groups : WrittenSpec → Option Fault
from_groups w = else_first (at_lowest (wide_fault w) TooManySlots) (only_if (nat_lt most_groups (length w.groups)) TooManyGroups)

abbrev from_repeats : WrittenSpec → Option Fault
from_repeats w = else_first (at_lowest (position repeats (items w)) Repeated) (from_groups w)

abbrev from_scales : WrittenSpec → Option Fault
from_scales w = else_first (at_lowest (position (λ i. list_any is_flat i.modifiers) (items w)) ScaleZero) (from_repeats w)

abbrev from_pages : WrittenSpec → Option Fault
from_pages w = else_first (at_lowest (page_fault w) PageOutOfBlock) (from_scales w)

abbrev from_zero : WrittenSpec → Option Fault
from_zero w = else_first (only_if (w.modulo == 0) ModuloZero) (from_pages w)

bounded_written : (w : WrittenSpec) → fault_of most_slots w ≡ None → IsBounded (settled w)
bounded_written w e =
    let past_large : from_zero w ≡ None = later_none (only_if (any_too_large w) TooLarge) (from_zero w) e in
    let past_zero : from_pages w ≡ None = later_none (only_if (w.modulo == 0) ModuloZero) (from_pages w) past_large in
    let past_page : from_scales w ≡ None = later_none (at_lowest (page_fault w) PageOutOfBlock) (from_scales w) past_zero in
    let past_scale : from_repeats w ≡ None = later_none (at_lowest (position (λ i. list_any is_flat i.modifiers) (items w)) ScaleZero) (from_repeats w) past_page in
    let past_repeat : from_groups w ≡ None = later_none (at_lowest (position repeats (items w)) Repeated) (from_groups w) past_scale in
    let wide : wide_fault w ≡ None = not_found (wide_fault w) TooManySlots (first_none (at_lowest (wide_fault w) TooManySlots) (only_if (nat_lt most_groups (length w.groups)) TooManyGroups) past_repeat) in
    let many : nat_lt most_groups (length w.groups) ≡ false = not_met (nat_lt most_groups (length w.groups)) TooManyGroups (later_none (at_lowest (wide_fault w) TooManySlots) (only_if (nat_lt most_groups (length w.groups)) TooManyGroups) past_repeat) in
    let large : any_too_large w ≡ false = not_met (any_too_large w) TooLarge (first_none (only_if (any_too_large w) TooLarge) (from_zero w) e) in
    let zero : (w.modulo == 0) ≡ false = not_met (w.modulo == 0) ModuloZero (first_none (only_if (w.modulo == 0) ModuloZero) (from_pages w) past_large) in
    let page : page_fault w ≡ None = not_found (page_fault w) PageOutOfBlock (first_none (at_lowest (page_fault w) PageOutOfBlock) (from_scales w) past_zero) in
    let many_groups : length w.groups ≤ most_groups = at_most most_groups (length w.groups) many in
    let wide_none : All (λ (g : List WrittenItem). nat_lt most_slots (length g) ≡ false) w.groups = none_passes (λ (g : List WrittenItem). nat_lt most_slots (length g)) w.groups wide in
    let page_none : All (λ (i : WrittenItem). nat_le w.modulo i.page ≡ false) (items w) = none_passes (λ (i : WrittenItem). nat_le w.modulo i.page) (items w) page in
    record {
      modulo = grind (arith, nat_tests);
      few_pages = at_most 99_999 w.modulo (first_or (nat_lt 99_999 w.modulo) (list_any (λ i. nat_lt 99_999 i.page || list_any has_large i.modifiers) (items w)) large);
      few_groups = let l = length-map w.groups (λ g. map settled_item g) in omega arith;
      few_slots = map_all (λ g. length g ≤ most_slots) (λ g. map settled_item g) w.groups (λ k d lt. let l = length-map (get_or w.groups k d) settled_item in let b = at_most _ _ (wide_none k d lt) in omega arith);
      paged = map_all (λ g. All (λ i. i.page < w.modulo) g) (λ g. map settled_item g) w.groups (λ k d lt. map_all (λ i. i.page < w.modulo) settled_item (get_or w.groups k d) (λ j c lt'. below _ _ (of_flat (λ i. nat_le w.modulo i.page ≡ false) w.groups page_none k d lt j c lt')));
    }

pub bounded : (spec : Spec) → IsAdmissible most_slots spec → IsBounded spec
bounded spec a =
    let (short, written, stands, faultless, settles) = a.taken in
    subst IsBounded (sym settles) (bounded_written written faultless)

-- ---- a group of a text has an item
joined_some : {X : Type 0} (c : ℕ) (R : List ℕ → X → Type 0) (text : List ℕ) (xs : List X) → IsJoined c R text xs → 0 < length xs
joined_some c R text [] j = absurd j
joined_some c R text (x ∷ xs) j = omega arith

joined_all : {X : Type 0} (P : X → Type 0) (c : ℕ) (R : List ℕ → X → Type 0) → ((t : List ℕ) (x : X) → R t x → P x) → (text : List ℕ) (xs : List X) → IsJoined c R text xs → All P xs
joined_all P c R h text [] j = All-nil P
joined_all P c R h text (x ∷ []) j = All-cons P x [] (h text x j) (All-nil P)
joined_all P c R h text (x ∷ y ∷ xs) (front, rest, is, first, more) = All-cons P x (y ∷ xs) (h front x first) (joined_all P c R h rest (y ∷ xs) more)

abbrev HasItem : List WrittenItem → Type 0
HasItem g = 0 < length g

groups_some : (text : List ℕ) (groups : List (List WrittenItem)) → AreGroups text groups → All HasItem groups
groups_some text groups (inl j) = joined_all HasItem comma (IsJoined plus_sign IsItem) (λ t g k. joined_some plus_sign IsItem t g k) text groups j
groups_some text groups (inr (i, is, bare)) = subst (All HasItem) (sym is) (All-cons HasItem (i ∷ []) [] (let one : 0 < length (i ∷ []) = omega arith in one) (All-nil HasItem))

written_some : (text : List ℕ) (w : WrittenSpec) → IsSpec text w → All HasItem w.groups
written_some text w (inl (one, groups)) = groups_some text w.groups groups
written_some text w (inr (digits, rest, is, number, groups)) = groups_some rest w.groups groups

filled_written : (text : List ℕ) (w : WrittenSpec) → IsSpec text w → All (λ g. 0 < length g) (settled w).groups
filled_written text w s = map_all (λ g. 0 < length g) (λ g. map settled_item g) w.groups (λ k d lt. let h = written_some text w s k d lt in let l = length-map (get_or w.groups k d) settled_item in omega arith)

pub filled : (spec : Spec) → IsAdmissible most_slots spec → All (λ g. 0 < length g) spec.groups
filled spec a = from_text a.text spec a.taken
  where
    from_text : (text : List ℕ) (spec : Spec) → Takes most_slots text spec → All (λ g. 0 < length g) spec.groups
    from_text text spec (short, written, stands, faultless, settles) = subst (λ (s : Spec). All (λ g. 0 < length g) s.groups) (sym settles) (filled_written text written stands)
