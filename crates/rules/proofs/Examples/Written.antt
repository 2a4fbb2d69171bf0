-- Specifications as they are written, in short.
use Rattle.std.proofs.Common.{ℕ, List, Bool}
use Rattle.std.specs.Prelude.{ℤ}
use Rattle.rules.specs.Papers.{LengthUnit}
use Rattle.rules.specs.Specification.{Modifier, Measure, WrittenItem, WrittenSpec}

abbrev pub item : (from_end : Bool) → (page : ℕ) → List Modifier → WrittenItem
item from_end page modifiers = record { from_end = from_end; page = page; modifiers = modifiers }

abbrev pub measure : ℤ → LengthUnit → Measure
measure number unit = record { number = number; unit = unit }

abbrev pub written : (modulo : ℕ) → List (List WrittenItem) → WrittenSpec
written modulo groups = record { modulo = modulo; groups = groups }
