-- Units of length and papers. A length is a whole number of grains; 127,000,000,000 of them are a point. cm, in, w
-- and h are the units of pstops(1), DESCRIPTION; a point is 1/72 inch (PostScript Language Reference, default user
-- space). pt, mm, the grain, the papers' sizes in whole points and the greatest side are rules of this project.
use Rattle.std.specs.Prelude.{ℕ, ◌+◌, ◌^◌, ℤ, pos, ◌*ℤ◌, int_le, Bool, ◌&&◌, nat_le, if◌then◌else◌, List, [], ◌∷◌, map}
use Rattle.std.specs.Prelude.{codes, Option, Some, None}
use Rattle.std.specs.Str.{bytes_eq}
use Rattle.rules.specs.Numbers.{rounded}

-- points, centimetres, millimetres, inches, and parts of the paper's width and height
pub data LengthUnit : Type 0 where
  Pt : LengthUnit
  Cm : LengthUnit
  Mm : LengthUnit
  In : LengthUnit
  Width : LengthUnit
  Height : LengthUnit

-- the sides of a paper, in grains
pub record Paper : Type 0 where
  pub width : ℤ
  pub height : ℤ

-- the length, in grains, of a value in 10^-9 of a unit: exact, except that parts of a paper are rounded
abbrev pub grains : Paper → ℤ → LengthUnit → ℤ
grains paper v Pt = v *ℤ pos 127
grains paper v Cm = v *ℤ pos 3_600
grains paper v Mm = v *ℤ pos 360
grains paper v In = v *ℤ pos 9_144
grains paper v Width = rounded (v *ℤ paper.width) (10 ^ 9)
grains paper v Height = rounded (v *ℤ paper.height) (10 ^ 9)

-- the longest side of a paper: the greatest length that a number of inches can name
abbrev pub longest_side : ℕ
longest_side = 914_399_999_999_990_856

-- a side that a paper may have: one grain or more
abbrev pub is_side : ℤ → Bool
is_side g = int_le (pos 1) g && int_le g (pos longest_side)

abbrev pub is_paper : ℤ → ℤ → Bool
is_paper width height = is_side width && is_side height

-- a paper of this many points
abbrev pub points : ℕ → ℕ → Paper
points width height = record { width = pos width *ℤ pos 127_000_000_000; height = pos height *ℤ pos 127_000_000_000 }

pub record NamedPaper : Type 0 where
  pub name : List ℕ
  pub paper : Paper

-- the papers that have a name: some of those of pstops(1), option -p
abbrev pub papers : List NamedPaper
papers =
    record { name = codes "a3"; paper = points 842 1_191 }
    ∷ record { name = codes "a4"; paper = points 595 842 }
    ∷ record { name = codes "a5"; paper = points 420 595 }
    ∷ record { name = codes "letter"; paper = points 612 792 }
    ∷ record { name = codes "legal"; paper = points 612 1_008 }
    ∷ record { name = codes "tabloid"; paper = points 792 1_224 }
    ∷ record { name = codes "statement"; paper = points 396 612 }
    ∷ record { name = codes "10x14"; paper = points 720 1_008 }
    ∷ []

-- a letter from A to Z as a small letter, and any other byte unchanged
abbrev pub small : ℕ → ℕ
small b = if nat_le 65 b && nat_le b 90 then b + 32 else b

-- the first of these papers that has this name, in capitals or small letters
abbrev pub paper_among : List NamedPaper → List ℕ → Option Paper
paper_among [] name = None
paper_among (p ∷ ps) name = if bytes_eq (map small name) p.name then Some p.paper else paper_among ps name

abbrev pub paper_with_name : List ℕ → Option Paper
paper_with_name name = paper_among papers name
