-- The first fault of what a specification stands for.
use Rattle.std.proofs.Common.{[], ◌∷◌, ◌++◌, refl, ◌≡◌, true, false, Some, None}
use Rattle.std.specs.Prelude.{pos, neg_ℤ, replicate}
use Rattle.rules.specs.Papers.{Pt, Cm, Width}
use Rattle.rules.specs.Specification.{Quarters, Scaled, Moved}
use Rattle.rules.specs.Admissible.{fault_of, TooLarge, TooManyGroups, ModuloZero, PageOutOfBlock, ScaleZero, Repeated, TooManySlots, most_slots}
use Rattle.rules.proofs.Examples.Written.{item, measure, written}

-- `0@1@0`: the check of scales comes first
zero_scale_before_repeated : fault_of most_slots (written 1 (((item false 0 (Scaled (pos 1_000_000_000) ∷ Scaled (pos 0) ∷ [])) ∷ []) ∷ [])) ≡ Some (ScaleZero 0)
zero_scale_before_repeated = refl

-- `0@0@1`: each scale is checked
first_scale_zero : fault_of most_slots (written 1 (((item false 0 (Scaled (pos 0) ∷ Scaled (pos 1_000_000_000) ∷ [])) ∷ []) ∷ [])) ≡ Some (ScaleZero 0)
first_scale_zero = refl

-- `0@0`, and `0@.0000000009` too: nine decimals count, and its value is in Texts
scale_of_zero : fault_of most_slots (written 1 (((item false 0 (Scaled (pos 0) ∷ [])) ∷ []) ∷ [])) ≡ Some (ScaleZero 0)
scale_of_zero = refl

-- `0@.000000001`: the least scale is above zero
least_scale : fault_of most_slots (written 1 (((item false 0 (Scaled (pos 1) ∷ [])) ∷ []) ∷ [])) ≡ None
least_scale = refl

-- `0,0@1@1`: a scale is repeated
two_scales : fault_of most_slots (written 1 (((item false 0 ([])) ∷ []) ∷ ((item false 0 (Scaled (pos 1_000_000_000) ∷ Scaled (pos 1_000_000_000) ∷ [])) ∷ []) ∷ [])) ≡ Some (Repeated 1)
two_scales = refl

-- `0(0,0)L(0,0)`: an offset is repeated
two_offsets : fault_of most_slots (written 1 (((item false 0 (Moved (measure (pos 0) Pt) (measure (pos 0) Pt) ∷ Quarters 1 ∷ Moved (measure (pos 0) Pt) (measure (pos 0) Pt) ∷ [])) ∷ []) ∷ [])) ≡ Some (Repeated 0)
two_offsets = refl

-- `0@1LL(0,0)R`: one of each, and any turns
scale_and_offset : fault_of most_slots (written 1 (((item false 0 (Scaled (pos 1_000_000_000) ∷ Quarters 1 ∷ Quarters 1 ∷ Moved (measure (pos 0) Pt) (measure (pos 0) Pt) ∷ Quarters 3 ∷ [])) ∷ []) ∷ [])) ≡ None
scale_and_offset = refl

-- `99999:99998,-0`: the greatest page
page_below_modulo : fault_of most_slots (written 99_999 (((item false 99_998 ([])) ∷ []) ∷ ((item true 0 ([])) ∷ []) ∷ [])) ≡ None
page_below_modulo = refl

-- `99999:0,99999`: a page number of the modulo
page_is_modulo : fault_of most_slots (written 99_999 (((item false 0 ([])) ∷ []) ∷ ((item false 99_999 ([])) ∷ []) ∷ [])) ≡ Some (PageOutOfBlock 1)
page_is_modulo = refl

-- `100000:100000`: before the check of the page
modulo_too_large : fault_of most_slots (written 100_000 (((item false 100_000 ([])) ∷ []) ∷ [])) ≡ Some TooLarge
modulo_too_large = refl

-- `100000:0`: the modulo counts by itself
modulo_alone_too_large : fault_of most_slots (written 100_000 (((item false 0 ([])) ∷ []) ∷ [])) ≡ Some TooLarge
modulo_alone_too_large = refl

-- `0@99999.999999999`: the greatest number
greatest_scale : fault_of most_slots (written 1 (((item false 0 (Scaled (pos 99_999_999_999_999) ∷ [])) ∷ []) ∷ [])) ≡ None
greatest_scale = refl

-- `0:100000`: before the check of the modulo
page_too_large : fault_of most_slots (written 0 (((item false 100_000 ([])) ∷ []) ∷ [])) ≡ Some TooLarge
page_too_large = refl

-- `0(0,-100000cm)`: in an offset, below zero, in centimetres
number_too_large : fault_of most_slots (written 1 (((item false 0 (Moved (measure (pos 0) Pt) (measure (neg_ℤ (pos 100_000_000_000_000)) Cm) ∷ [])) ∷ []) ∷ [])) ≡ Some TooLarge
number_too_large = refl

-- `0(100000,0)`: in the first of two lengths too
first_number_too_large : fault_of most_slots (written 1 (((item false 0 (Moved (measure (pos 100_000_000_000_000) Pt) (measure (pos 0) Pt) ∷ [])) ∷ []) ∷ [])) ≡ Some TooLarge
first_number_too_large = refl

-- `0(99999.9999999999,-99999.9999999999w)`: the integer part counts
number_not_too_large : fault_of most_slots (written 1 (((item false 0 (Moved (measure (pos 99_999_999_999_999) Pt) (measure (neg_ℤ (pos 99_999_999_999_999)) Width) ∷ [])) ∷ []) ∷ [])) ≡ None
number_not_too_large = refl

-- `0:0@0`: before the page, which is not below 0
modulo_zero_first : fault_of most_slots (written 0 (((item false 0 (Scaled (pos 0) ∷ [])) ∷ []) ∷ [])) ≡ Some ModuloZero
modulo_zero_first = refl

-- `2:0@0+2`: each check goes over the whole text
page_before_scale : fault_of most_slots (written 2 (((item false 0 (Scaled (pos 0) ∷ [])) ∷ (item false 2 ([])) ∷ []) ∷ [])) ≡ Some (PageOutOfBlock 1)
page_before_scale = refl

-- `2:0+3,2`: the lowest of two pages
lowest_page : fault_of most_slots (written 2 (((item false 0 ([])) ∷ (item false 3 ([])) ∷ []) ∷ ((item false 2 ([])) ∷ []) ∷ [])) ≡ Some (PageOutOfBlock 1)
lowest_page = refl

-- `0,0@1@1,0(0,0)(0,0)`: the lowest of two items with a modifier repeated
lowest_repeated : fault_of most_slots (written 1 (((item false 0 ([])) ∷ []) ∷ ((item false 0 (Scaled (pos 1_000_000_000) ∷ Scaled (pos 1_000_000_000) ∷ [])) ∷ []) ∷ ((item false 0 (Moved (measure (pos 0) Pt) (measure (pos 0) Pt) ∷ Moved (measure (pos 0) Pt) (measure (pos 0) Pt) ∷ [])) ∷ []) ∷ [])) ≡ Some (Repeated 1)
lowest_repeated = refl

-- `2:0+1,1+0,1@-1+0@0`: items are counted over all groups
lowest_item : fault_of most_slots (written 2 (((item false 0 ([])) ∷ (item false 1 ([])) ∷ []) ∷ ((item false 1 ([])) ∷ (item false 0 ([])) ∷ []) ∷ ((item false 1 (Scaled (neg_ℤ (pos 1_000_000_000)) ∷ [])) ∷ (item false 0 (Scaled (pos 0) ∷ [])) ∷ []) ∷ [])) ≡ Some (ScaleZero 4)
lowest_item = refl

-- a group of 4,097 items, after one of one item
one_slot_too_many : fault_of most_slots (written 1 ((item false 0 [] ∷ []) ∷ replicate 4_097 (item false 0 []) ∷ [])) ≡ Some (TooManySlots 1)
one_slot_too_many = refl

-- a group of 4,096 items, and one of 65
most_slots_taken : fault_of most_slots (written 1 (replicate 4_096 (item false 0 []) ∷ [])) ≡ None
most_slots_taken = refl

sixty_five_slots : fault_of most_slots (written 1 (replicate 65 (item false 0 []) ∷ [])) ≡ None
sixty_five_slots = refl

-- three groups of 4,097 items: the lowest one is named
lowest_group : fault_of most_slots (written 1 (replicate 3 (replicate 4_097 (item false 0 [])))) ≡ Some (TooManySlots 0)
lowest_group = refl

-- 4,097 items, the last one with two scales: the check of items comes first
repeated_before_slots : fault_of most_slots (written 1 ((replicate 4_096 (item false 0 []) ++ item false 0 (Scaled (pos 1) ∷ Scaled (pos 1) ∷ []) ∷ []) ∷ [])) ≡ Some (Repeated 4_096)
repeated_before_slots = refl

-- 10,001 groups, the last one of 4,097 items: each group is checked before groups are counted
slots_before_groups : fault_of most_slots (written 1 (replicate 10_000 (item false 0 [] ∷ []) ++ replicate 4_097 (item false 0 []) ∷ [])) ≡ Some (TooManySlots 10_000)
slots_before_groups = refl

-- 10,000 groups
ten_thousand_groups : fault_of most_slots (written 1 (replicate 10_000 (item false 0 [] ∷ []))) ≡ None
ten_thousand_groups = refl

-- and one more group
too_many_groups : fault_of most_slots (written 1 (replicate 10_001 (item false 0 [] ∷ []))) ≡ Some TooManyGroups
too_many_groups = refl
