-- The meaning of the code's matrices, and the points to which they send those of a page.
use Rattle.std.specs.Prelude.{ℤ}
use Rattle.rules.specs.Placement as rules
use Rattle.placement.specs.declared.matrix.Matrix.{Matrix}

abbrev pub matrix_value : Matrix → rules.Matrix
matrix_value m = record { a = m.a; b = m.b; c = m.c; d = m.d; tx = m.tx; ty = m.ty }

abbrev pub point : ℤ → ℤ → rules.Point
point x y = record { x = x; y = y }
