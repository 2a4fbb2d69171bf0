-- The checks of a specification. Each is tried with items that count from the end and with numbers below zero, just
-- taken and just refused. Each two that follow one another are tried with the earlier one's fault before and after
-- the later one's.
use Rattle.std.proofs.Common.{ℕ, ℤ, List, [], ◌∷◌, ◌++◌, refl, ◌≡◌, true, false, Option, Some, None}
use Rattle.std.specs.Prelude.{pos, neg_ℤ, replicate}
use Rattle.rules.specs.Papers.{Pt, Cm, Width}
use Rattle.rules.specs.Specification.{Modifier, Quarters, Scaled, Moved, WrittenItem}
use Rattle.rules.specs.Admissible.{Fault, fault_of, TooLarge, TooManyGroups, ModuloZero, PageOutOfBlock, ScaleZero, Repeated, TooManySlots, most_slots}
use Rattle.rules.proofs.Examples.Written.{item, measure, written}

abbrev fault_in : (modulo : ℕ) → List (List WrittenItem) → Option Fault
fault_in modulo groups = fault_of most_slots (written modulo groups)

-- one item in one group, without a modulo
abbrev fault_of_item : WrittenItem → Option Fault
fault_of_item i = fault_in 1 ((i ∷ []) ∷ [])

abbrev page : ℕ → List Modifier → WrittenItem
page p modifiers = item false p modifiers

abbrev from_end : ℕ → List Modifier → WrittenItem
from_end p modifiers = item true p modifiers

-- the scales 1, 0 and -1, and one above the greatest
abbrev one : Modifier
one = Scaled (pos 1_000_000_000)

abbrev zero_scale : Modifier
zero_scale = Scaled (pos 0)

abbrev minus_one : Modifier
minus_one = Scaled (neg_ℤ (pos 1_000_000_000))

abbrev too_large_scale : Modifier
too_large_scale = Scaled (pos 100_000_000_000_000)

-- an offset in points
abbrev moved_by : ℤ → ℤ → Modifier
moved_by x y = Moved (measure x Pt) (measure y Pt)

abbrev nowhere : Modifier
nowhere = moved_by (pos 0) (pos 0)

-- ---- numbers of 100,000
-- `0@100000`, and `0@99999.999999999` is taken
scale_too_large : fault_of_item (page 0 (too_large_scale ∷ [])) ≡ Some TooLarge
scale_too_large = refl

greatest_scale : fault_of_item (page 0 (Scaled (pos 99_999_999_999_999) ∷ [])) ≡ None
greatest_scale = refl

-- `0@-100000`: reported as too large, not as a scale that isn't above zero; `0@-99999.999999999` has only the
-- second fault
scale_too_large_below_zero : fault_of_item (page 0 (Scaled (neg_ℤ (pos 100_000_000_000_000)) ∷ [])) ≡ Some TooLarge
scale_too_large_below_zero = refl

greatest_scale_below_zero : fault_of_item (page 0 (Scaled (neg_ℤ (pos 99_999_999_999_999)) ∷ [])) ≡ Some (ScaleZero 0)
greatest_scale_below_zero = refl

-- `0(-100000,0)` and `0(0,100000)`: in each of the two lengths, on both sides of zero
offset_too_large_to_the_left : fault_of_item (page 0 (moved_by (neg_ℤ (pos 100_000_000_000_000)) (pos 0) ∷ [])) ≡ Some TooLarge
offset_too_large_to_the_left = refl

offset_too_large_upward : fault_of_item (page 0 (moved_by (pos 0) (pos 100_000_000_000_000) ∷ [])) ≡ Some TooLarge
offset_too_large_upward = refl

-- `-100000`: the page of an item that counts from the end
page_from_end_too_large : fault_in 99_999 ((from_end 100_000 [] ∷ []) ∷ []) ≡ Some TooLarge
page_from_end_too_large = refl

-- `0,0L@1+-0R(0,0)(100000w,0)`: in the last modifier of the last item
last_modifier_too_large : fault_in 1 ((page 0 [] ∷ []) ∷ (page 0 (Quarters 1 ∷ one ∷ []) ∷ from_end 0 (Quarters 3 ∷ nowhere ∷ Moved (measure (pos 100_000_000_000_000) Width) (measure (pos 0) Cm) ∷ []) ∷ []) ∷ []) ≡ Some TooLarge
last_modifier_too_large = refl

-- ---- the modulo
-- `0:0`, and `1:0` is taken
modulo_of_zero : fault_in 0 ((page 0 [] ∷ []) ∷ []) ≡ Some ModuloZero
modulo_of_zero = refl

modulo_of_one : fault_in 1 ((page 0 [] ∷ []) ∷ []) ≡ None
modulo_of_one = refl

-- `0:0(100000,0)`: a number that is too large comes first, even at the end of the text
too_large_before_modulo : fault_in 0 ((page 0 (moved_by (pos 100_000_000_000_000) (pos 0) ∷ []) ∷ []) ∷ []) ≡ Some TooLarge
too_large_before_modulo = refl

-- `0:-0`: the modulo comes before a page from the end
modulo_before_page_from_end : fault_in 0 ((from_end 0 [] ∷ []) ∷ []) ≡ Some ModuloZero
modulo_before_page_from_end = refl

-- ---- page numbers
-- `2:-2`, and `2:-1` is taken
page_from_end_is_modulo : fault_in 2 ((from_end 2 [] ∷ []) ∷ []) ≡ Some (PageOutOfBlock 0)
page_from_end_is_modulo = refl

page_from_end_below_modulo : fault_in 2 ((from_end 1 [] ∷ []) ∷ []) ≡ None
page_from_end_below_modulo = refl

-- `-1`: also without a modulo
page_one_without_modulo : fault_of_item (from_end 1 []) ≡ Some (PageOutOfBlock 0)
page_one_without_modulo = refl

-- `2:-0+-1,3,-2`: the lowest of two, one of which counts from the end
page_before_page_from_end : fault_in 2 ((from_end 0 [] ∷ from_end 1 [] ∷ []) ∷ (page 3 [] ∷ []) ∷ (from_end 2 [] ∷ []) ∷ []) ≡ Some (PageOutOfBlock 2)
page_before_page_from_end = refl

-- `2:-3,2`: the other way round
page_from_end_before_page : fault_in 2 ((from_end 3 [] ∷ []) ∷ (page 2 [] ∷ []) ∷ []) ≡ Some (PageOutOfBlock 0)
page_from_end_before_page = refl

-- `2:2,0@100000`: a number that is too large comes first, also after such a page
page_behind_too_large : fault_in 2 ((page 2 [] ∷ []) ∷ (page 0 (too_large_scale ∷ []) ∷ []) ∷ []) ≡ Some TooLarge
page_behind_too_large = refl

-- ---- scales
-- `0@-.000000001`, and `0@.000000001` is taken
greatest_below_zero : fault_of_item (page 0 (Scaled (neg_ℤ (pos 1)) ∷ [])) ≡ Some (ScaleZero 0)
greatest_below_zero = refl

least_above_zero : fault_of_item (from_end 0 (Scaled (pos 1) ∷ [])) ≡ None
least_above_zero = refl

-- `-0@-1`: of an item that counts from the end
scale_from_end : fault_of_item (from_end 0 (minus_one ∷ [])) ≡ Some (ScaleZero 0)
scale_from_end = refl

-- `-0@1,0@-1+-0@0`: the lowest of two
lowest_scale : fault_in 1 ((from_end 0 (one ∷ []) ∷ []) ∷ (page 0 (minus_one ∷ []) ∷ from_end 0 (zero_scale ∷ []) ∷ []) ∷ []) ≡ Some (ScaleZero 1)
lowest_scale = refl

-- `0(0,-1)`: the check of scales doesn't look at offsets, which may be zero or below
offset_below_zero : fault_of_item (page 0 (moved_by (pos 0) (neg_ℤ (pos 1_000_000_000)) ∷ [])) ≡ None
offset_below_zero = refl

-- the page before the scale: `2:2+0@0`, `2:0@0+2`, `2:-2@-1`
page_then_scale : fault_in 2 ((page 2 [] ∷ page 0 (zero_scale ∷ []) ∷ []) ∷ []) ≡ Some (PageOutOfBlock 0)
page_then_scale = refl

scale_then_page : fault_in 2 ((page 0 (zero_scale ∷ []) ∷ page 2 [] ∷ []) ∷ []) ≡ Some (PageOutOfBlock 1)
scale_then_page = refl

page_and_scale : fault_in 2 ((from_end 2 (minus_one ∷ []) ∷ []) ∷ []) ≡ Some (PageOutOfBlock 0)
page_and_scale = refl

-- ---- modifiers repeated
-- `-0@1@1` and `-0(0,0)(0,0)`: of an item that counts from the end
scale_repeated_from_end : fault_of_item (from_end 0 (one ∷ one ∷ [])) ≡ Some (Repeated 0)
scale_repeated_from_end = refl

offset_repeated_from_end : fault_of_item (from_end 0 (nowhere ∷ nowhere ∷ [])) ≡ Some (Repeated 0)
offset_repeated_from_end = refl

-- `0(-1,-1)(-1,-1)`: offsets below zero
offset_below_zero_repeated : fault_of_item (page 0 (moved_by (neg_ℤ (pos 1_000_000_000)) (neg_ℤ (pos 1_000_000_000)) ∷ moved_by (neg_ℤ (pos 1_000_000_000)) (neg_ℤ (pos 1_000_000_000)) ∷ [])) ≡ Some (Repeated 0)
offset_below_zero_repeated = refl

-- `0@1(0,0)@1` and `0(0,0)@1L(0,0)`: with others between
scale_repeated_later : fault_of_item (page 0 (one ∷ nowhere ∷ one ∷ [])) ≡ Some (Repeated 0)
scale_repeated_later = refl

offset_repeated_later : fault_of_item (page 0 (nowhere ∷ one ∷ Quarters 1 ∷ nowhere ∷ [])) ≡ Some (Repeated 0)
offset_repeated_later = refl

-- `0@1@1@1`: three times
scale_three_times : fault_of_item (page 0 (one ∷ one ∷ one ∷ [])) ≡ Some (Repeated 0)
scale_three_times = refl

-- `0@1+0@1,-0@1(0,0),0(0,0)`: once in each item
once_in_each_item : fault_in 1 ((page 0 (one ∷ []) ∷ page 0 (one ∷ []) ∷ []) ∷ (from_end 0 (one ∷ nowhere ∷ []) ∷ []) ∷ (page 0 (nowhere ∷ []) ∷ []) ∷ []) ≡ None
once_in_each_item = refl

-- `0LLLLL`: turns may be repeated
turns_repeated : fault_of_item (page 0 (replicate 5 (Quarters 1))) ≡ None
turns_repeated = refl

-- the scale before a repeated modifier: `0@0,0@1@1`, `0@1@1,-0@-1`, `0@1@1,0(0,0)(0,0)@0`
scale_then_repeated : fault_in 1 ((page 0 (zero_scale ∷ []) ∷ []) ∷ (page 0 (one ∷ one ∷ []) ∷ []) ∷ []) ≡ Some (ScaleZero 0)
scale_then_repeated = refl

repeated_then_scale : fault_in 1 ((page 0 (one ∷ one ∷ []) ∷ []) ∷ (from_end 0 (minus_one ∷ []) ∷ []) ∷ []) ≡ Some (ScaleZero 1)
repeated_then_scale = refl

repeated_and_scale : fault_in 1 ((page 0 (one ∷ one ∷ []) ∷ []) ∷ (page 0 (nowhere ∷ nowhere ∷ zero_scale ∷ []) ∷ []) ∷ []) ≡ Some (ScaleZero 1)
repeated_and_scale = refl

-- the page before a repeated modifier: `0@1@1+1`
repeated_then_page : fault_in 1 ((page 0 (one ∷ one ∷ []) ∷ page 1 [] ∷ []) ∷ []) ≡ Some (PageOutOfBlock 1)
repeated_then_page = refl

-- ---- items in a group
-- 4,097 items that count from the end, and 4,096
items_from_end : fault_in 1 (replicate 4_097 (from_end 0 []) ∷ []) ≡ Some (TooManySlots 0)
items_from_end = refl

most_items_from_end : fault_in 1 (replicate 4_096 (from_end 0 []) ∷ []) ≡ None
most_items_from_end = refl

-- two groups of 4,096 items: each is counted by itself
groups_counted_alone : fault_in 1 (replicate 2 (replicate 4_096 (page 0 []))) ≡ None
groups_counted_alone = refl

-- a repeated modifier before a group of 4,097 items, which may come after it or before it
repeated_then_items : fault_in 1 ((page 0 (one ∷ one ∷ []) ∷ []) ∷ replicate 4_097 (page 0 []) ∷ []) ≡ Some (Repeated 0)
repeated_then_items = refl

items_then_repeated : fault_in 1 (replicate 4_097 (page 0 []) ∷ (from_end 0 (nowhere ∷ nowhere ∷ []) ∷ []) ∷ []) ≡ Some (Repeated 4_097)
items_then_repeated = refl

-- a page before a group of 4,097 items, even if the group comes first
items_then_page : fault_in 1 (replicate 4_097 (page 0 []) ∷ (from_end 1 [] ∷ []) ∷ []) ≡ Some (PageOutOfBlock 4_097)
items_then_page = refl

-- ---- groups
-- a group of 4,097 items before the number of groups, if it is the first of 10,001
items_then_groups : fault_in 1 (replicate 4_097 (page 0 []) ∷ replicate 10_000 (page 0 [] ∷ [])) ≡ Some (TooManySlots 0)
items_then_groups = refl

-- 10,001 groups of items that count from the end
groups_from_end : fault_in 1 (replicate 10_001 (from_end 0 [] ∷ [])) ≡ Some TooManyGroups
groups_from_end = refl

-- 10,001 groups, the last one with two offsets: items come first
groups_then_repeated : fault_in 1 (replicate 10_000 (page 0 [] ∷ []) ++ (page 0 (nowhere ∷ nowhere ∷ []) ∷ []) ∷ []) ≡ Some (Repeated 10_000)
groups_then_repeated = refl
