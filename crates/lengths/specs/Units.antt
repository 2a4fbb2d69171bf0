-- The units of the code as those of the definitions.
use Rattle.rules.specs.Papers.{LengthUnit, Width, Height}
use Rattle.rules.specs.Papers.{Pt as Point, Cm as Centimetre, Mm as Millimetre, In as Inch}
use Rattle.lengths.specs.declared.unit.Unit.{Unit as WrittenUnit}
use Rattle.lengths.specs.declared.unit.Unit.TheVariants.{Pt, Cm, Mm, In, W, H}

abbrev pub length_unit : WrittenUnit → LengthUnit
length_unit Pt = Point
length_unit Cm = Centimetre
length_unit Mm = Millimetre
length_unit In = Inch
length_unit W = Width
length_unit H = Height
