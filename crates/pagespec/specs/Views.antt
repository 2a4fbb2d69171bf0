-- What the readers found, in terms of the definitions.
use Rattle.std.specs.Prelude.{◌≡◌, ℕ, true, false, List, Option, Some, None}
use Rattle.rules.specs.Numbers.{is_large}
use Rattle.rules.specs.Specification as rules
use Rattle.rules.specs.Admissible.{has_large}
use Rattle.pagespec.specs.Items.{measure_of}
use Rattle.pagespec.specs.Reading.{measure_at, modifier_at}
use Rattle.pagespec.specs.declared.item.Measure.{Measure}
use Rattle.pagespec.specs.declared.scan.Modifier.{Modifier}
use Rattle.pagespec.specs.declared.scan.Modifier.TheVariants.{Turn, Scale, Offset, TooLarge}

-- a number that is too large isn't kept
abbrev pub IsMeasureOf : Option Measure → rules.Measure → Type 0
IsMeasureOf None a = is_large a.number ≡ true
IsMeasureOf (Some m) a = (a ≡ measure_of m) × (is_large a.number ≡ false)

-- the measure at the front of a text
abbrev pub MeasureRead : List ℕ → Option Measure → List ℕ → Type 0
MeasureRead bytes m rest = (a : rules.Measure) × (measure_at bytes ≡ Some (a, rest)) × IsMeasureOf m a

abbrev pub StandsFor : Modifier → rules.Modifier → Type 0
StandsFor (Turn n) m = m ≡ rules.Quarters n
StandsFor (Scale n) m = (m ≡ rules.Scaled n) × (has_large m ≡ false)
StandsFor (Offset x y) m = (m ≡ rules.Moved (measure_of x) (measure_of y)) × (has_large m ≡ false)
StandsFor TooLarge m = has_large m ≡ true

-- the modifier at the front of a text
abbrev pub ModifierRead : List ℕ → Modifier → List ℕ → Type 0
ModifierRead bytes part rest = (m : rules.Modifier) × (modifier_at bytes ≡ Some (m, rest)) × StandsFor part m
