-- What a world was asked for.
use Rattle.std.specs.Prelude.{List, Option, map, option_map, string_bytes}
use Rattle.world.specs.Worlds.{Access}
use Rattle.test_tools.specs.declared.trace.Asked.{Asked}
use Rattle.test_tools.specs.declared.trace.Trace.{Trace}

abbrev pub access_of : Asked → Access
access_of asked = record { creates = asked.creates; name = option_map string_bytes asked.name }

-- what was asked for, in order, if all of it is remembered
abbrev pub accesses_in : Trace → Option (List Access)
accesses_in trace = option_map (λ all. map access_of all.items) trace.all
