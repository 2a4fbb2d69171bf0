-- Why an output wasn't created.
use Rattle.std.specs.Prelude.{◌≡◌, ◌⊎◌, ◌+◌, ◌∷◌, ◌++◌, [], ℕ, List, Option, Some, option_map}
use Rattle.std.specs.Option.{ForSome}
use Rattle.std.specs.IoError.{error_kind}
use Rattle.std.below.std_io.specs.declared.io.error.Error.{Error}
use Rattle.std.below.std_io.specs.declared.io.kind.ErrorKind.TheVariants.{OutOfMemory}
use Rattle.world.specs.Worlds.{HasRefused, WorldView, creating}

-- there was no memory for its buffer, and the world wasn't asked; or it was asked, and refused
abbrev pub IsUncreated : {W : Type 0} → (seen : W → WorldView) → (name : Option (List ℕ)) → (old new : W) → Error → Type 0
IsUncreated seen name old new cause =
    ((new ≡ old) × (error_kind cause ≡ OutOfMemory)) ⊎ HasRefused (creating name) (error_kind cause) (seen old) (seen new)

-- it was asked for an output of this name, and for nothing else, and refused it for this cause: `HasRefused` as equations
abbrev pub IsAskedOnce : (name : Option (List ℕ)) → Error → (old new : WorldView) → Type 0
IsAskedOnce name cause old new =
    ForSome new.asked (λ all. Some all ≡ option_map (λ before. before ++ creating name ∷ []) old.asked)
    × (new.failures ≡ old.failures + 1) × (new.cause ≡ Some (error_kind cause))
