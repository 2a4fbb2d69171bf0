-- Bytes of a text with more bytes before it.
use Rattle.std.specs.Prelude.{ℕ, ◌+◌, ◌==◌, if◌then◌else◌}

abbrev pub later : (by at : ℕ) → ℕ
later by at = at + by

-- 0 means that there is none
abbrev pub later_found : (by at : ℕ) → ℕ
later_found by at = if at == 0 then 0 else at + by
