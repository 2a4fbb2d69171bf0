-- What is read from a printed matrix, and how far that is from the matrix.
use Rattle.std.specs.Prelude.{◌≡◌, ℕ, ◌≤◌, ℤ, pos, nat_abs, ◌*ℤ◌, ◌-ℤ◌, List, [], ◌∷◌, ◌++◌, codes}
use Rattle.rules.specs.Bytes.{space}
use Rattle.rules.specs.Numbers.{IsNumber, rounded}
use Rattle.rules.specs.Specification.{IsJoined}
use Rattle.rules.specs.Placement.{Point, Matrix, applied, matrix_text}
use Rattle.lengths.specs.Ranges.{FitsNumber, FitsGrains}

-- the text is these numbers, in 10^-9, in brackets and with a space between them
abbrev pub IsRow : List ℕ → List ℤ → Type 0
IsRow text numbers = (inner : List ℕ) × (text ≡ codes "[" ++ inner ++ codes "]") × IsJoined space IsNumber inner numbers

-- a matrix of numbers and lengths in range
pub record FitsMatrix (m : Matrix) : Type 0 where
  pub a : FitsNumber m.a
  pub b : FitsNumber m.b
  pub c : FitsNumber m.c
  pub d : FitsNumber m.d
  pub tx : FitsGrains m.tx
  pub ty : FitsGrains m.ty

-- a length to the nearest 10^-5 of a point, in 10^-9 of a point
abbrev pub nearest : ℤ → ℤ
nearest g = rounded g 1_270_000 *ℤ pos 10_000

-- a matrix is printed as its four scales, and its shift to the nearest 10^-5 of a point
abbrev pub PrintedIsRow : Type 0
PrintedIsRow = (m : Matrix) → FitsMatrix m
    → IsRow (matrix_text m) (m.a ∷ m.b ∷ m.c ∷ m.d ∷ nearest m.tx ∷ nearest m.ty ∷ [])

-- a text is at most one row of numbers
abbrev pub OneRow : Type 0
OneRow = (text : List ℕ) (numbers others : List ℤ) → IsRow text numbers → IsRow text others → numbers ≡ others

-- the matrix that is printed; 127 grains are 10^-9 of a point
abbrev pub printed_matrix : Matrix → Matrix
printed_matrix m = record m { tx = pos 127 *ℤ nearest m.tx; ty = pos 127 *ℤ nearest m.ty }

-- at most this many grains apart, across and in height
pub record IsWithin (most : ℕ) (p q : Point) : Type 0 where
  pub x : nat_abs (p.x -ℤ q.x) ≤ most
  pub y : nat_abs (p.y -ℤ q.y) ≤ most

-- the printed matrix sends each point to within 635,000 grains (half of 10^-5 of a point) of where the matrix does
abbrev pub PrintedIsNear : Type 0
PrintedIsNear = (m : Matrix) (p : Point) → IsWithin 635_000 (applied (printed_matrix m) p) (applied m p)
