-- What is seen of an output: its name with the bytes that were written to it, whether it took any, and how often it failed.
use Rattle.std.specs.Prelude.{⊤, ◌≡◌, ◌+◌, ◌++◌, ◌∷◌, ◌==◌, ℕ, Bool, false, true, if◌then◌else◌, List, []}
use Rattle.std.specs.Prelude.{Option, Some, None, Result, Ok, Err, is_some, map, option_and_then}
use Rattle.std.below.std_io.specs.declared.io.error.Error.{Error}

-- A file's name, or none for standard output, as a list that no other name's list begins: so name and bytes can be
-- in one list, and whoever appends bytes to it keeps the name.
abbrev pub spelled : (name : Option (List ℕ)) → List ℕ
spelled None = 0 ∷ []
spelled (Some name) = 1 ∷ (map (λ byte. byte + 1) name ++ 0 ∷ [])

-- what an output of this name reports, after these bytes
abbrev pub reported_at : (name : Option (List ℕ)) → (bytes : List ℕ) → List ℕ
reported_at name bytes = spelled name ++ bytes

-- the same, if it reports anything
abbrev pub reported_if : (reports_outputs : Bool) → (name : Option (List ℕ)) → (bytes : List ℕ) → Option (List ℕ)
reported_if reports_outputs name bytes = if reports_outputs then Some (reported_at name bytes) else None

-- what is reported now is a first part of what was reported in all, if that is known
abbrev pub IsFrontOf : (now all : Option (List ℕ)) → Type 0
IsFrontOf now None = ⊤
IsFrontOf now (Some all) = (front rest : List ℕ) × (now ≡ Some front) × (all ≡ front ++ rest)

-- the bytes after the name that an output reports, if it reports one
abbrev pub reported_bytes : (reported : List ℕ) → Option (List ℕ)
reported_bytes [] = None
reported_bytes (b ∷ bs) = if b == 0 then Some bs else reported_bytes bs

-- what is reported, if it begins with a name
abbrev pub named : (reported : Option (List ℕ)) → Option (List ℕ)
named reported = option_and_then (λ all. if is_some (reported_bytes all) then Some all else None) reported

-- ---- what is seen of it

pub record OutputView : Type 0 where
  -- its name and the bytes that were written to it, if it reports them
  pub bytes : Option (List ℕ)
  -- whether it has taken a byte
  pub has_taken : Bool
  -- how often it failed
  pub failures : ℕ
  -- why it failed last, if it did
  pub cause : Option Error

-- one to which nothing was written
abbrev pub fresh_output : (reported : Option (List ℕ)) → OutputView
fresh_output reported = record { bytes = reported; has_taken = false; failures = 0; cause = None }

-- it didn't fail
abbrev pub IsSteady : (old new : OutputView) → Type 0
IsSteady old new = (new.failures ≡ old.failures) × (new.cause ≡ old.cause)

-- it failed once, with this error, and took nothing
abbrev pub HasFailed : Error → (old new : OutputView) → Type 0
HasFailed error old new = (new.failures ≡ old.failures + 1) × (new.cause ≡ Some error) × (new.has_taken ≡ old.has_taken)

-- a write: it took a byte at least, or failed
abbrev pub CountsWrite : (old new : OutputView) → Result ℕ Error → Type 0
CountsWrite old new (Ok count) = IsSteady old new × (new.has_taken ≡ true)
CountsWrite old new (Err error) = HasFailed error old new

-- another call, which writes nothing
abbrev pub CountsCall : {T : Type 0} → (old new : OutputView) → Result T Error → Type 0
CountsCall old new (Ok x) = IsSteady old new × (new.has_taken ≡ old.has_taken)
CountsCall old new (Err error) = HasFailed error old new
