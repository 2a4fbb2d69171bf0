-- The bytes of a body.
use Rattle.std.specs.Prelude.{ℕ, List}
use Rattle.dsc.specs.declared.bodies.Bytes.{Bytes}
use Rattle.dsc.specs.declared.bodies.Bytes.TheVariants.{Part, Copy}

abbrev pub bytes_in : Bytes → List ℕ
bytes_in (Part part) = part.now
bytes_in (Copy copy) = copy.value.items
