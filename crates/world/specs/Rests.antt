-- What is left of a world.
use Rattle.std.specs.Prelude.{ℕ, Bool, true, false, List, Option, None}
use Rattle.world.specs.Outputs.{OutputView}
use Rattle.world.specs.declared.rest.Rest.{Rest}
use Rattle.world.specs.declared.rest.Rest.TheVariants.{World, Output}

-- an output was created in it
abbrev pub has_output : {W O : Type 0} → Rest W O → Bool
has_output (World world) = false
has_output (Output output) = true

-- what that output reports
abbrev pub shown : {W O : Type 0} → (seen : O → OutputView) → Rest W O → Option (List ℕ)
shown seen (World world) = None
shown seen (Output output) = (seen output).bytes

-- how often that output failed
abbrev pub failures_in : {W O : Type 0} → (seen : O → OutputView) → Rest W O → ℕ
failures_in seen (World world) = 0
failures_in seen (Output output) = (seen output).failures
