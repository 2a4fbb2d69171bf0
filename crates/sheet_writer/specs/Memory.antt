-- A sink that keeps its bytes in memory.
use Rattle.std.specs.Prelude.{◌≡◌, ℕ, ◌-◌, ◌++◌, List, length, min, ◌⊎◌}

pub record MemoryState : Type 0 where
  pub bytes : List ℕ
  -- the number of bytes in all
  pub room : ℕ
  pub per_call : ℕ
  -- the number of calls that it will still answer with Ok
  pub calls : ℕ
  pub failures : ℕ

-- how many of n bytes the next call takes
abbrev pub acceptable : MemoryState → ℕ → ℕ
acceptable s n = min (min n s.per_call) (s.room - length s.bytes)

-- a memory sink takes none of n bytes
abbrev pub IsSpent : MemoryState → ℕ → Type 0
IsSpent s n = (acceptable s n ≡ 0) ⊎ (s.calls ≡ 0)

abbrev pub after_taking : MemoryState → List ℕ → MemoryState
after_taking s bytes = record s { bytes = s.bytes ++ bytes; calls = s.calls - 1 }
