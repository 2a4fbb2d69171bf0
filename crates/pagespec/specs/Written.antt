-- A whole text, as it was read.
use Rattle.std.specs.Prelude.{◌≡◌, ℕ, min, List, Option, Some, None}
use Rattle.rules.specs.Numbers.{number_of}
use Rattle.rules.specs.Specification.{WrittenSpec}
use Rattle.lengths.specs.Reading.{least_large, digits}
use Rattle.pagespec.specs.Reading.{spec_at}
use Rattle.pagespec.specs.Groups.{IsParseOf}
use Rattle.pagespec.specs.declared.groups.ParsedGroups.{ParsedGroups}

-- the modulo of a text with this after its colon, and what is left to read
abbrev pub ModuloRead : List ℕ → Option (List ℕ) → ℕ → List ℕ → Type 0
ModuloRead bytes None modulo rest = (modulo ≡ 1) × (rest ≡ bytes)
ModuloRead bytes (Some after) modulo rest = (modulo ≡ min least_large (number_of (digits bytes))) × (rest ≡ after)

-- the groups that were parsed of a text, by its meaning
pub record WrittenRead (bytes : List ℕ) (modulo : ℕ) (parsed : ParsedGroups) : Type 0 where
  pub spec : WrittenSpec
  pub found : spec_at bytes ≡ Some spec
  pub modulo_is : modulo ≡ min least_large spec.modulo
  pub groups : IsParseOf spec.groups parsed
