-- What the width of a border means.
use Rattle.std.specs.Prelude.{ℕ, ℤ, pos, int_le, option_and_then, if◌then◌else◌, List, Option, Some, None}
use Rattle.rules.specs.Papers.{Paper}
use Rattle.lengths.specs.Lengths.{length_named}

-- the border of this width: 0 means no border, and no width is below 0
abbrev pub border_of : (width : ℤ) → Option (Option ℤ)
border_of width = if int_le (pos 1) width then Some (Some width) else (if int_le (pos 0) width then Some None else None)

abbrev pub border_named : Paper → Option (List ℕ) → Option (Option ℤ)
border_named paper None = Some None
border_named paper (Some text) = option_and_then border_of (length_named paper text)
