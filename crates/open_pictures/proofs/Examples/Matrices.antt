-- Matrices of numbers; and at which matrices the machine stops.
use Rattle.std.proofs.Common.{◌≡◌, [], ◌∷◌, refl, Some, None}
use Rattle.std.specs.Prelude.{codes}
use Rattle.std.specs.Fmt.{digits}
use Rattle.pictures.proofs.Examples.TwoUp.{number}
use Rattle.open_pictures.proofs.Examples.Values.{left_by}

filled : left_by (codes "3 4 matrix translate dup 4 get exch 5 get") ≡ Some (number (codes "4") ∷ number (codes "3") ∷ [])
unfolding digits
filled = refl

-- the first matrix is applied first
combined : left_by (codes "3 4 matrix translate [2 0 0 5 1 1] matrix concatmatrix dup 4 get exch 5 get")
    ≡ Some (number (codes "21") ∷ number (codes "7") ∷ [])
unfolding digits
combined = refl

moved : left_by (codes "3 4 [2 0 0 5 1 1] transform") ≡ Some (number (codes "21") ∷ number (codes "7") ∷ [])
unfolding digits
moved = refl

distance : left_by (codes "3 4 2 5 matrix scale dtransform") ≡ Some (number (codes "20") ∷ number (codes "6") ∷ [])
unfolding digits
distance = refl

-- what was put into an array is concatenated
concatenated : left_by (codes "1 0 0 1 3 4 6 array astore concat 10 20 moveto currentpoint") ≡ Some (number (codes "20") ∷ number (codes "10") ∷ [])
unfolding digits
concatenated = refl

-- the current one, and what it filled, has no numbers
by_the_current_one : left_by (codes "3 4 transform") ≡ None
unfolding digits
by_the_current_one = refl

of_a_transformation : left_by (codes "[1 0 0 1 3 4] matrix currentmatrix matrix concatmatrix") ≡ None
unfolding digits
of_a_transformation = refl

-- only the matrix that was made last is filled
made_before : left_by (codes "matrix matrix pop 3 4 3 -1 roll translate") ≡ None
unfolding digits
made_before = refl
