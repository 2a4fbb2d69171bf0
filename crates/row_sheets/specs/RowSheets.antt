-- Each entry of a row on a sheet of its own.
use Rattle.std.specs.Prelude.{ℕ, pos, false, List, [], ◌∷◌, map, Option, Some, None, slice_index_or}
use Rattle.rules.specs.Papers.{Paper}
use Rattle.rules.specs.Specification.{Item, Upright, zero_points}
use Rattle.rules.specs.Made.{Blank, Placed, MadeSheet}
use Rattle.rules.specs.Rows.{Row}

-- the paper of a page, and another one if the page isn't there
abbrev pub paper_of : (papers : List Paper) → (other : Paper) → (page : ℕ) → Paper
paper_of papers other p = slice_index_or papers p other

-- a page as it is
abbrev pub as_it_is : Item
as_it_is = record { page = 0; from_end = false; turn = Upright; scale = pos 1_000_000_000; x = zero_points; y = zero_points }

-- a page as it is, on a sheet of its own paper; a blank on a sheet of this paper (RULES, 14)
abbrev pub selected_sheet : (papers : List Paper) → (blank : Paper) → Option ℕ → MadeSheet
selected_sheet papers blank None = record { paper = blank; slots = Blank ∷ [] }
selected_sheet papers blank (Some p) =
    let paper = paper_of papers blank p in record { paper = paper; slots = Placed p as_it_is paper ∷ [] }

abbrev pub selected : (papers : List Paper) → (blank : Paper) → Row → List MadeSheet
selected papers blank row = map (selected_sheet papers blank) row
