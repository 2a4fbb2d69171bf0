-- Canonical texts.
use Rattle.std.proofs.Common.{[], ◌∷◌, refl, ◌≡◌, true, false}
use Rattle.std.specs.Prelude.{codes, pos, neg_ℤ}
use Rattle.std.specs.Fmt.{digits}
use Rattle.rules.specs.Papers.{Pt, Cm, Mm, In, Width, Height}
use Rattle.rules.specs.Specification.{Quarters, Scaled, Moved, settled, canonical}
use Rattle.rules.proofs.Examples.Written.{item, measure, written}

-- `4:-3l@0.70(21.0cm,0pt)+0LLLL@1(0,0)`: full turns, the scale 1 and the offset 0 are left out
booklet_written_loosely : canonical (settled (written 4 (((item true 3 (Quarters 1 ∷ Scaled (pos 700_000_000) ∷ Moved (measure (pos 21_000_000_000) Cm) (measure (pos 0) Pt) ∷ [])) ∷ (item false 0 (Quarters 1 ∷ Quarters 1 ∷ Quarters 1 ∷ Quarters 1 ∷ Scaled (pos 1_000_000_000) ∷ Moved (measure (pos 0) Pt) (measure (pos 0) Pt) ∷ [])) ∷ []) ∷ []))) ≡ codes "4:-3L@.7(21cm,0)+0"
unfolding digits
booklet_written_loosely = refl

-- `1:0UR(0cm,0)`: an offset of 0 cm is written
zero_centimetres : canonical (settled (written 1 (((item false 0 (Quarters 2 ∷ Quarters 3 ∷ Moved (measure (pos 0) Cm) (measure (pos 0) Pt) ∷ [])) ∷ []) ∷ []))) ≡ codes "0L(0cm,0)"
unfolding digits
zero_centimetres = refl

-- `0(0pt,-0.50in)`: one of two numbers is 0 points
half_offset : canonical (settled (written 1 (((item false 0 (Moved (measure (pos 0) Pt) (measure (neg_ℤ (pos 500_000_000)) In) ∷ [])) ∷ []) ∷ []))) ≡ codes "0(0,-.5in)"
unfolding digits
half_offset = refl

-- `0LL`: half a turn
two_quarters : canonical (settled (written 1 (((item false 0 (Quarters 1 ∷ Quarters 1 ∷ [])) ∷ []) ∷ []))) ≡ codes "0U"
unfolding digits
two_quarters = refl

-- `3:00,1+2`: groups and items
two_groups : canonical (settled (written 3 (((item false 0 ([])) ∷ []) ∷ ((item false 1 ([])) ∷ (item false 2 ([])) ∷ []) ∷ []))) ≡ codes "3:0,1+2"
unfolding digits
two_groups = refl

-- `-`: the page number is written
lone_minus : canonical (settled (written 1 (((item true 0 ([])) ∷ []) ∷ []))) ≡ codes "-0"
unfolding digits
lone_minus = refl

-- `00012:-011(+1.50w,.5h)@00.250r`: in one order: page, turn, scale, offset
all_parts : canonical (settled (written 12 (((item true 11 (Moved (measure (pos 1_500_000_000) Width) (measure (pos 500_000_000) Height) ∷ Scaled (pos 250_000_000) ∷ Quarters 3 ∷ [])) ∷ []) ∷ []))) ≡ codes "12:-11R@.25(1.5w,.5h)"
unfolding digits
all_parts = refl

-- `0@.000000001(-99999.999999999mm,99999)`: numbers in full
least_and_greatest : canonical (settled (written 1 (((item false 0 (Scaled (pos 1) ∷ Moved (measure (neg_ℤ (pos 99_999_999_999_999)) Mm) (measure (pos 99_999_000_000_000) Pt) ∷ [])) ∷ []) ∷ []))) ≡ codes "0@.000000001(-99999.999999999mm,99999)"
unfolding digits
least_and_greatest = refl

-- `0(0,0cm)`: the second of two numbers is 0 cm
zero_centimetres_upward : canonical (settled (written 1 (((item false 0 (Moved (measure (pos 0) Pt) (measure (pos 0) Cm) ∷ [])) ∷ []) ∷ []))) ≡ codes "0(0,0cm)"
unfolding digits
zero_centimetres_upward = refl

-- `0(.000000001,0)` and `0(0,-.000000001)`: the least offsets are written
least_offset : canonical (settled (written 1 (((item false 0 (Moved (measure (pos 1) Pt) (measure (pos 0) Pt) ∷ [])) ∷ []) ∷ []))) ≡ codes "0(.000000001,0)"
unfolding digits
least_offset = refl

least_offset_downward : canonical (settled (written 1 (((item false 0 (Moved (measure (pos 0) Pt) (measure (neg_ℤ (pos 1)) Pt) ∷ [])) ∷ []) ∷ []))) ≡ codes "0(0,-.000000001)"
unfolding digits
least_offset_downward = refl

-- `0@.999999999` and `0@1.000000001`: a scale next to 1 is written
scale_below_one : canonical (settled (written 1 (((item false 0 (Scaled (pos 999_999_999) ∷ [])) ∷ []) ∷ []))) ≡ codes "0@.999999999"
unfolding digits
scale_below_one = refl

scale_above_one : canonical (settled (written 1 (((item false 0 (Scaled (pos 1_000_000_001) ∷ [])) ∷ []) ∷ []))) ≡ codes "0@1.000000001"
unfolding digits
scale_above_one = refl

-- `10:-0@10`: a modulo and a scale of ten, and a page 0 from the end
modulo_of_ten : canonical (settled (written 10 (((item true 0 (Scaled (pos 10_000_000_000) ∷ [])) ∷ []) ∷ []))) ≡ codes "10:-0@10"
unfolding digits
modulo_of_ten = refl
