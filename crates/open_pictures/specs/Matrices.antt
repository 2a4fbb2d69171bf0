-- Matrices of numbers (PostScript Language Reference, third edition, 4.3.3), each by its name in 8.2: arrays of six. The matrix
-- that was made last becomes one when numbers are put into it. A matrix with a transformation is the machine's own, and no array.
use Rattle.std.specs.Prelude.{ℕ, List, [], ◌∷◌, map, ◌==◌, if◌then◌else◌, Option, Some, None, codes, bytes_eq}
use Rattle.pictures.specs.Objects.{Token, Number, Bound, Object, Plain, Array, Matrix, Add, Multiply}
use Rattle.pictures.specs.Calculations.{calculated}
use Rattle.open_pictures.specs.Points.{PathPoint}
use Rattle.open_pictures.specs.Stores.{Store, Given, Change}
use Rattle.open_pictures.specs.Composites.{array_tag, array_of, run_next, making, point_left}

pub record Affine : Type 0 where
  pub a : List ℕ
  pub b : List ℕ
  pub c : List ℕ
  pub d : List ℕ
  pub x : List ℕ
  pub y : List ℕ

abbrev pub matrix_tokens : Affine → List Token
matrix_tokens m = Number m.a ∷ Number m.b ∷ Number m.c ∷ Number m.d ∷ Number m.x ∷ Number m.y ∷ []

abbrev pub six_of : Option (List Object) → Option Affine
six_of (Some (Plain (Number a) ∷ Plain (Number b) ∷ Plain (Number c) ∷ Plain (Number d) ∷ Plain (Number x) ∷ Plain (Number y) ∷ [])) =
    Some (record { a = a; b = b; c = c; d = d; x = x; y = y })
six_of os = None

abbrev pub affine_of : Store → Object → Option Affine
affine_of store o = six_of (array_of store o)

abbrev pub nought : List ℕ
nought = codes "0"

abbrev pub one : List ℕ
one = codes "1"

abbrev pub identity : Affine
identity = record { a = one; b = nought; c = nought; d = one; x = nought; y = nought }

abbrev pub products : (a b c d : List ℕ) → List ℕ
products a b c d = calculated Add (calculated Multiply a b) (calculated Multiply c d)

-- a distance, and a point
abbrev pub distance_by : Affine → PathPoint → PathPoint
distance_by m p = record { x = products p.x m.a p.y m.c; y = products p.x m.b p.y m.d }

abbrev pub shifted : Affine → PathPoint → PathPoint
shifted m p = record { x = calculated Add p.x m.x; y = calculated Add p.y m.y }

abbrev pub point_by : Affine → PathPoint → PathPoint
point_by m p = shifted m (distance_by m p)

abbrev pub with_columns : (first second third : PathPoint) → Affine
with_columns p q r = record { a = p.x; b = p.y; c = q.x; d = q.y; x = r.x; y = r.y }

-- by the first one, and then by the other
abbrev pub combined : Affine → Affine → Affine
combined m n =
    with_columns (distance_by n (record { x = m.a; y = m.b })) (distance_by n (record { x = m.c; y = m.d }))
    (point_by n (record { x = m.x; y = m.y }))

-- these numbers are put into this matrix
abbrev pub matrix_filled : ℕ → Option Affine → List Object → Given → Option Change
matrix_filled number None os given = None
matrix_filled number (Some m) os given =
    if number == given.made then making array_tag 6 (map (λ t. Plain t) (matrix_tokens m)) os given else None

-- `identmatrix`
abbrev pub fill_identity : List Object → Given → Option Change
fill_identity (Matrix number ∷ os) given = matrix_filled number (Some identity) os given
fill_identity os given = None

-- `translate` and `scale` of a matrix
abbrev pub fill_by : List ℕ → (x y : List ℕ) → Option Affine
fill_by name x y =
    if bytes_eq name (codes "translate") then Some (record identity { x = x; y = y })
    else if bytes_eq name (codes "scale") then Some (record identity { a = x; d = y })
    else None

abbrev pub fill_matrix : List ℕ → List Object → Given → Option Change
fill_matrix name (Matrix number ∷ Plain (Number y) ∷ Plain (Number x) ∷ os) given = matrix_filled number (fill_by name x y) os given
fill_matrix name os given = None

abbrev pub both : Option Affine → Option Affine → Option Affine
both (Some m) (Some n) = Some (combined m n)
both m n = None

-- `concatmatrix`
abbrev pub combine : List Object → Given → Option Change
combine (Matrix number ∷ n ∷ m ∷ os) given = matrix_filled number (both (affine_of given.store m) (affine_of given.store n)) os given
combine os given = None

abbrev pub moved_if : (Affine → PathPoint → PathPoint) → Option Affine → PathPoint → Option PathPoint
moved_if by None p = None
moved_if by (Some m) p = Some (by m p)

-- `transform` and `dtransform` by a matrix
abbrev pub move_by : (Affine → PathPoint → PathPoint) → List Object → Given → Option Change
move_by by (o ∷ Plain (Number y) ∷ Plain (Number x) ∷ os) given = point_left (moved_if by (affine_of given.store o) (record { x = x; y = y })) os given
move_by by os given = None

-- `concat` of an array that can be changed: by what it has then
abbrev pub transforming : List ℕ → Option Affine → List Object → Given → Option Change
transforming name None os given = None
transforming name (Some m) os given = run_next (Bound name ∷ []) (Array (matrix_tokens m) ∷ os) given

abbrev pub transform_more : List ℕ → List Object → Given → Option Change
transform_more name (Plain (Bound ref) ∷ os) given = transforming name (affine_of given.store (Plain (Bound ref))) os given
transform_more name os given = None
