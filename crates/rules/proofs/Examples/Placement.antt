-- Where a point of a page goes, and the matrix that is written for it.
use Rattle.std.proofs.Common.{[], ◌∷◌, refl, ◌≡◌, false}
use Rattle.std.specs.Prelude.{codes, ℤ, pos, neg_ℤ}
use Rattle.std.specs.Fmt.{digits}
use Rattle.rules.specs.Papers.{Pt, Cm, In, Width, Height, Paper, points}
use Rattle.rules.specs.Specification.{Quarters, Scaled, Moved, settled_item}
use Rattle.rules.specs.Placement.{Point, put, matrix_of, applied, matrix_text}
use Rattle.rules.proofs.Examples.Written.{item, measure}

abbrev a4 : Paper
a4 = points 595 842

abbrev point : ℤ → ℤ → Point
point x y = record { x = x; y = y }

-- `0L`: a quarter turn to the left
left : put a4 (settled_item (item false 0 (Quarters 1 ∷ []))) (point (pos 3) (pos 5)) ≡ point (neg_ℤ (pos 635_000_000_000)) (pos 381_000_000_000)
left = refl

-- its matrix does the same
left_applied : applied (matrix_of a4 (settled_item (item false 0 (Quarters 1 ∷ [])))) (point (pos 3) (pos 5)) ≡ point (neg_ℤ (pos 635_000_000_000)) (pos 381_000_000_000)
left_applied = refl

-- the text of its matrix
left_text : matrix_text (matrix_of a4 (settled_item (item false 0 (Quarters 1 ∷ [])))) ≡ codes "[0 1 -1 0 0 0]"
unfolding digits
left_text = refl

-- `0U`: two quarters
half : put a4 (settled_item (item false 0 (Quarters 2 ∷ []))) (point (pos 3) (pos 5)) ≡ point (neg_ℤ (pos 381_000_000_000)) (neg_ℤ (pos 635_000_000_000))
half = refl

-- its matrix does the same
half_applied : applied (matrix_of a4 (settled_item (item false 0 (Quarters 2 ∷ [])))) (point (pos 3) (pos 5)) ≡ point (neg_ℤ (pos 381_000_000_000)) (neg_ℤ (pos 635_000_000_000))
half_applied = refl

-- the text of its matrix
half_text : matrix_text (matrix_of a4 (settled_item (item false 0 (Quarters 2 ∷ [])))) ≡ codes "[-1 0 0 -1 0 0]"
unfolding digits
half_text = refl

-- `0r`: three quarters
right : put a4 (settled_item (item false 0 (Quarters 3 ∷ []))) (point (pos 3) (neg_ℤ (pos 5))) ≡ point (neg_ℤ (pos 635_000_000_000)) (neg_ℤ (pos 381_000_000_000))
right = refl

-- its matrix does the same
right_applied : applied (matrix_of a4 (settled_item (item false 0 (Quarters 3 ∷ [])))) (point (pos 3) (neg_ℤ (pos 5))) ≡ point (neg_ℤ (pos 635_000_000_000)) (neg_ℤ (pos 381_000_000_000))
right_applied = refl

-- the text of its matrix
right_text : matrix_text (matrix_of a4 (settled_item (item false 0 (Quarters 3 ∷ [])))) ≡ codes "[0 -1 1 0 0 0]"
unfolding digits
right_text = refl

-- `0RULL`: turns add up
five_quarters : put a4 (settled_item (item false 0 (Quarters 3 ∷ Quarters 2 ∷ Quarters 1 ∷ Quarters 1 ∷ []))) (point (pos 3) (pos 5)) ≡ point (pos 635_000_000_000) (neg_ℤ (pos 381_000_000_000))
five_quarters = refl

-- its matrix does the same
five_quarters_applied : applied (matrix_of a4 (settled_item (item false 0 (Quarters 3 ∷ Quarters 2 ∷ Quarters 1 ∷ Quarters 1 ∷ [])))) (point (pos 3) (pos 5)) ≡ point (pos 635_000_000_000) (neg_ℤ (pos 381_000_000_000))
five_quarters_applied = refl

-- the text of its matrix
five_quarters_text : matrix_text (matrix_of a4 (settled_item (item false 0 (Quarters 3 ∷ Quarters 2 ∷ Quarters 1 ∷ Quarters 1 ∷ [])))) ≡ codes "[0 -1 1 0 0 0]"
unfolding digits
five_quarters_text = refl

-- `0RUU`: and may pass a full turn
seven_quarters : put a4 (settled_item (item false 0 (Quarters 3 ∷ Quarters 2 ∷ Quarters 2 ∷ []))) (point (neg_ℤ (pos 3)) (pos 5)) ≡ point (pos 635_000_000_000) (pos 381_000_000_000)
seven_quarters = refl

-- its matrix does the same
seven_quarters_applied : applied (matrix_of a4 (settled_item (item false 0 (Quarters 3 ∷ Quarters 2 ∷ Quarters 2 ∷ [])))) (point (neg_ℤ (pos 3)) (pos 5)) ≡ point (pos 635_000_000_000) (pos 381_000_000_000)
seven_quarters_applied = refl

-- the text of its matrix
seven_quarters_text : matrix_text (matrix_of a4 (settled_item (item false 0 (Quarters 3 ∷ Quarters 2 ∷ Quarters 2 ∷ [])))) ≡ codes "[0 -1 1 0 0 0]"
unfolding digits
seven_quarters_text = refl

-- `0(1in,-2cm)@.5L`: the shift is not scaled, wherever it is written
scale_before_shift : put a4 (settled_item (item false 0 (Moved (measure (pos 1_000_000_000) In) (measure (neg_ℤ (pos 2_000_000_000)) Cm) ∷ Scaled (pos 500_000_000) ∷ Quarters 1 ∷ []))) (point (pos 1) (pos 2)) ≡ point (pos 9_017_000_000_000) (neg_ℤ (pos 7_136_500_000_000))
scale_before_shift = refl

-- its matrix does the same
scale_before_shift_applied : applied (matrix_of a4 (settled_item (item false 0 (Moved (measure (pos 1_000_000_000) In) (measure (neg_ℤ (pos 2_000_000_000)) Cm) ∷ Scaled (pos 500_000_000) ∷ Quarters 1 ∷ [])))) (point (pos 1) (pos 2)) ≡ point (pos 9_017_000_000_000) (neg_ℤ (pos 7_136_500_000_000))
scale_before_shift_applied = refl

-- the text of its matrix
scale_before_shift_text : matrix_text (matrix_of a4 (settled_item (item false 0 (Moved (measure (pos 1_000_000_000) In) (measure (neg_ℤ (pos 2_000_000_000)) Cm) ∷ Scaled (pos 500_000_000) ∷ Quarters 1 ∷ [])))) ≡ codes "[0 0.5 -0.5 0 72 -56.69291]"
unfolding digits
scale_before_shift_text = refl

-- `0(-.5w,1h)`: in parts of the paper
shift_by_paper : put a4 (settled_item (item false 0 (Moved (measure (neg_ℤ (pos 500_000_000)) Width) (measure (pos 1_000_000_000) Height) ∷ []))) (point (pos 0) (pos 0)) ≡ point (neg_ℤ (pos 37_782_500_000_000)) (pos 106_934_000_000_000)
shift_by_paper = refl

-- its matrix does the same
shift_by_paper_applied : applied (matrix_of a4 (settled_item (item false 0 (Moved (measure (neg_ℤ (pos 500_000_000)) Width) (measure (pos 1_000_000_000) Height) ∷ [])))) (point (pos 0) (pos 0)) ≡ point (neg_ℤ (pos 37_782_500_000_000)) (pos 106_934_000_000_000)
shift_by_paper_applied = refl

-- the text of its matrix
shift_by_paper_text : matrix_text (matrix_of a4 (settled_item (item false 0 (Moved (measure (neg_ℤ (pos 500_000_000)) Width) (measure (pos 1_000_000_000) Height) ∷ [])))) ≡ codes "[1 0 0 1 -297.5 842]"
unfolding digits
shift_by_paper_text = refl

-- `0(.3333333333w,-.0000000001h)`: a shift that is no whole number of the printed decimals
uneven_shift : put a4 (settled_item (item false 0 (Moved (measure (pos 333_333_333) Width) (measure (pos 0) Height) ∷ []))) (point (pos 7) (pos 11)) ≡ point (pos 26_077_333_308_145) (pos 1_397_000_000_000)
uneven_shift = refl

-- its matrix does the same
uneven_shift_applied : applied (matrix_of a4 (settled_item (item false 0 (Moved (measure (pos 333_333_333) Width) (measure (pos 0) Height) ∷ [])))) (point (pos 7) (pos 11)) ≡ point (pos 26_077_333_308_145) (pos 1_397_000_000_000)
uneven_shift_applied = refl

-- the text of its matrix
uneven_shift_text : matrix_text (matrix_of a4 (settled_item (item false 0 (Moved (measure (pos 333_333_333) Width) (measure (pos 0) Height) ∷ [])))) ≡ codes "[1 0 0 1 198.33333 0]"
unfolding digits
uneven_shift_text = refl

-- `0(-.000004,.000005)`: a shift that prints as zero is made all the same
least_shift : put a4 (settled_item (item false 0 (Moved (measure (neg_ℤ (pos 4_000)) Pt) (measure (pos 5_000) Pt) ∷ []))) (point (pos 0) (pos 0)) ≡ point (neg_ℤ (pos 508_000)) (pos 635_000)
least_shift = refl

-- its matrix does the same
least_shift_applied : applied (matrix_of a4 (settled_item (item false 0 (Moved (measure (neg_ℤ (pos 4_000)) Pt) (measure (pos 5_000) Pt) ∷ [])))) (point (pos 0) (pos 0)) ≡ point (neg_ℤ (pos 508_000)) (pos 635_000)
least_shift_applied = refl

-- the text of its matrix
least_shift_text : matrix_text (matrix_of a4 (settled_item (item false 0 (Moved (measure (neg_ℤ (pos 4_000)) Pt) (measure (pos 5_000) Pt) ∷ [])))) ≡ codes "[1 0 0 1 0 0.00001]"
unfolding digits
least_shift_text = refl

-- `0(.5w,-1in)`: half the width to the right and an inch down
half_width_and_inch : put a4 (settled_item (item false 0 (Moved (measure (pos 500_000_000) Width) (measure (neg_ℤ (pos 1_000_000_000)) In) ∷ []))) (point (pos 10) (pos 20)) ≡ point (pos 39_052_500_000_000) (neg_ℤ (pos 6_604_000_000_000))
half_width_and_inch = refl

-- the text of its matrix
half_width_and_inch_text : matrix_text (matrix_of a4 (settled_item (item false 0 (Moved (measure (pos 500_000_000) Width) (measure (neg_ℤ (pos 1_000_000_000)) In) ∷ [])))) ≡ codes "[1 0 0 1 297.5 -72]"
unfolding digits
half_width_and_inch_text = refl

-- `0R@2`: to the right, and twice as large
right_and_double_text : matrix_text (matrix_of a4 (settled_item (item false 0 (Quarters 3 ∷ Scaled (pos 2_000_000_000) ∷ [])))) ≡ codes "[0 -2 2 0 0 0]"
unfolding digits
right_and_double_text = refl

-- `0LRU`: the three turns add up to half a turn
all_turns_text : matrix_text (matrix_of a4 (settled_item (item false 0 (Quarters 1 ∷ Quarters 3 ∷ Quarters 2 ∷ [])))) ≡ codes "[-1 0 0 -1 0 0]"
unfolding digits
all_turns_text = refl

-- `0LLLL`: a full turn is none
full_turn_text : matrix_text (matrix_of a4 (settled_item (item false 0 (Quarters 1 ∷ Quarters 1 ∷ Quarters 1 ∷ Quarters 1 ∷ [])))) ≡ codes "[1 0 0 1 0 0]"
unfolding digits
full_turn_text = refl
