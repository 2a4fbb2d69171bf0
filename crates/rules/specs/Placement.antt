-- Where a page is on its sheet, in grains, and the matrix that is written for it.
-- The effect on a page is of pstops(1), DESCRIPTION: scaled from the lower left corner, then turned about it, then
-- moved. What a matrix does to a point, and its text, are of the PostScript Language Reference, coordinate systems
-- and transformations.
use Rattle.std.specs.Prelude.{◌≡◌, ℕ, ℤ, pos, ◌+ℤ◌, ◌*ℤ◌, neg_ℤ, List, [], ◌∷◌, ◌++◌, codes}
use Rattle.rules.specs.Bytes.{space}
use Rattle.rules.specs.Numbers.{points_text, scale_text}
use Rattle.rules.specs.Papers.{Paper, grains}
use Rattle.rules.specs.Specification.{Item, Turn, Upright, Left, Half, Right}

-- a point: of a page in whole points, of a sheet in grains
pub record Point : Type 0 where
  pub x : ℤ
  pub y : ℤ

-- how far a page is moved, in grains
abbrev pub offset : Paper → Item → Point
offset paper item = record { x = grains paper item.x.number item.x.unit; y = grains paper item.y.number item.y.unit }

-- a quarter turn to the left
abbrev pub quarter : Point → Point
quarter p = record { x = neg_ℤ p.y; y = p.x }

abbrev pub turned : Turn → Point → Point
turned Upright p = p
turned Left p = quarter p
turned Half p = quarter (quarter p)
turned Right p = quarter (quarter (quarter p))

-- a whole point by a scale in 10^-9, in grains: 127 of them are 10^-9 of a point
abbrev pub scaled : ℤ → Point → Point
scaled s p = record { x = pos 127 *ℤ (s *ℤ p.x); y = pos 127 *ℤ (s *ℤ p.y) }

abbrev pub moved : Point → Point → Point
moved by p = record { x = p.x +ℤ by.x; y = p.y +ℤ by.y }

-- where a whole point of the page goes: it is scaled, then turned, then moved
abbrev pub put : Paper → Item → Point → Point
put paper item p = moved (offset paper item) (turned item.turn (scaled item.scale p))

-- the matrix [a b c d tx ty]: four numbers in 10^-9 and a shift in grains
pub record Matrix : Type 0 where
  pub a : ℤ
  pub b : ℤ
  pub c : ℤ
  pub d : ℤ
  pub tx : ℤ
  pub ty : ℤ

-- where a matrix sends a whole point, in grains: (a x + c y + tx, b x + d y + ty)
abbrev pub applied : Matrix → Point → Point
applied m p = record {
  x = m.tx +ℤ pos 127 *ℤ (m.a *ℤ p.x +ℤ m.c *ℤ p.y);
  y = m.ty +ℤ pos 127 *ℤ (m.b *ℤ p.x +ℤ m.d *ℤ p.y);
}

-- the matrix of a turn, a scale and an offset
abbrev pub matrix : Turn → ℤ → Point → Matrix
matrix Upright s by = record { a = s; b = pos 0; c = pos 0; d = s; tx = by.x; ty = by.y }
matrix Left s by = record { a = pos 0; b = s; c = neg_ℤ s; d = pos 0; tx = by.x; ty = by.y }
matrix Half s by = record { a = neg_ℤ s; b = pos 0; c = pos 0; d = neg_ℤ s; tx = by.x; ty = by.y }
matrix Right s by = record { a = pos 0; b = neg_ℤ s; c = s; d = pos 0; tx = by.x; ty = by.y }

abbrev pub matrix_of : Paper → Item → Matrix
matrix_of paper item = matrix item.turn item.scale (offset paper item)

-- a law, which the contracts of the matrix carry: a matrix sends each whole point where its item puts it
abbrev pub MatrixPuts : Type 0
MatrixPuts = (paper : Paper) (item : Item) (p : Point) → applied (matrix_of paper item) p ≡ put paper item p

-- texts with a space between them
abbrev pub spaced : List (List ℕ) → List ℕ
spaced [] = []
spaced (text ∷ []) = text
spaced (text ∷ next ∷ more) = text ++ space ∷ spaced (next ∷ more)

-- the six values in brackets
abbrev pub matrix_text : Matrix → List ℕ
matrix_text m =
    codes "[" ++ spaced (scale_text m.a ∷ scale_text m.b ∷ scale_text m.c ∷ scale_text m.d ∷ points_text m.tx
    ∷ points_text m.ty ∷ []) ++ codes "]"
