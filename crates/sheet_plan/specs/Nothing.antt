-- The item that the plan of made sheets has for a blank slot. It places nothing.
use Rattle.std.specs.Prelude.{false, pos}
use Rattle.rules.specs.Specification.{Item, Upright, zero_points}

abbrev pub nothing : Item
nothing = record { page = 0; from_end = false; turn = Upright; scale = pos 1_000_000_000; x = zero_points; y = zero_points }
