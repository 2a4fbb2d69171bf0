-- What is seen of a sink.
use Rattle.std.specs.Prelude.{◌≡◌, ℕ, ◌+◌, ◌<◌, List, Option}
use Rattle.std.specs.Io.KnownBytes.{Appends, Keeps}
use Rattle.std.below.core.specs.declared.int.u64.TheConstants.{MAX as most_failures}

-- which bytes it has taken, if it reports them, and how many calls it has refused
pub record SinkView : Type 0 where
  pub bytes : Option (List ℕ)
  pub failures : ℕ

-- one that reports these bytes and hasn't failed
abbrev pub fresh_sink : Option (List ℕ) → SinkView
fresh_sink bytes = record { bytes = bytes; failures = 0 }

-- one more failure can be counted
abbrev pub IsCountable : SinkView → Type 0
IsCountable sink = sink.failures < most_failures

-- a sink took these bytes
abbrev pub Took : (old new : SinkView) → List ℕ → Type 0
Took old new text = Appends old.bytes new.bytes text × (new.failures ≡ old.failures)

-- a sink took these bytes, and failed once
abbrev pub FailedBehind : (old new : SinkView) → List ℕ → Type 0
FailedBehind old new text = Appends old.bytes new.bytes text × (new.failures ≡ old.failures + 1)

-- a sink took nothing, and didn't fail
abbrev pub IsUntouched : (old new : SinkView) → Type 0
IsUntouched old new = Keeps old.bytes new.bytes × (new.failures ≡ old.failures)
