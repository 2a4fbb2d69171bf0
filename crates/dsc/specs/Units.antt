-- The units of a text that is cut.
use Rattle.std.specs.Prelude.{ℕ, List, [], Result, Ok, Err}
use Rattle.rules.specs.Units.{BlockFault, FaultyBlock, cut}
use Rattle.rules.specs.Parts.{NestedUnit, nested}

abbrev pub or_none : {A E : Type 0} → Result (List A) E → List A
or_none (Ok xs) = xs
or_none (Err e) = []

abbrev pub units_of : List ℕ → List NestedUnit
units_of text = nested (or_none (cut text))

abbrev pub faulty_block : ℕ → BlockFault → FaultyBlock
faulty_block at fault = record { at = at; fault = fault }
