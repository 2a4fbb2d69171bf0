-- What is seen of a world: what it was asked for, and how often it failed.
use Rattle.std.specs.Prelude.{◌≡◌, ◌+◌, ◌∷◌, ◌++◌, [], ℕ, Bool, true, false, List, Option, Some, None, IfSome}
use Rattle.std.below.std_io.specs.declared.io.error.Error.{Error}
use Rattle.std.below.std_io.specs.declared.io.kind.ErrorKind.{ErrorKind}
use Rattle.world.specs.declared.source.ReadSource.{ReadSource}

-- an input of this name is to be opened, or an output to be created
pub record Access : Type 0 where
  pub creates : Bool
  pub name : Option (List ℕ)

abbrev pub opening : (name : Option (List ℕ)) → Access
opening name = record { creates = false; name = name }

abbrev pub creating : (name : Option (List ℕ)) → Access
creating name = record { creates = true; name = name }

pub record WorldView : Type 0 where
  -- what it was asked for, in order, if it remembers all of it
  pub asked : Option (List Access)
  -- how often it refused what it was asked for, or an input that it opened and closed had failed
  pub failures : ℕ
  -- of which kind its last failure was, if there was one
  pub cause : Option ErrorKind

-- one that was asked for nothing, as far as it remembers
abbrev pub fresh_world : WorldView
fresh_world = record { asked = None; failures = 0; cause = None }

-- how often a source has failed
abbrev pub failures_of : {T : Type 0} → ReadSource T → ℕ
failures_of source = source.failures

-- why it failed last, if it did
abbrev pub cause_of : {T : Type 0} → ReadSource T → Option Error
cause_of source = source.cause

-- it was asked for this, and for nothing else, as far as it remembers
abbrev pub WasAsked : Access → (old new : WorldView) → Type 0
WasAsked access old new = IfSome new.asked (λ all. (before : List Access) × (old.asked ≡ Some before) × (all ≡ before ++ access ∷ []))

-- it was asked for this, and refused it with an error of this kind
abbrev pub HasRefused : Access → ErrorKind → (old new : WorldView) → Type 0
HasRefused access cause old new = WasAsked access old new × (new.failures ≡ old.failures + 1) × (new.cause ≡ Some cause)

-- it was asked for this, and granted it
abbrev pub HasGranted : Access → (old new : WorldView) → Type 0
HasGranted access old new = WasAsked access old new × (new.failures ≡ old.failures)
