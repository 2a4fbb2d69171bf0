-- How much room the text of a sheet is given, in memory of its own.
use Rattle.std.specs.Prelude.{ℕ, ◌+◌, List, [], length, sum_by, slice_index_or}
use Rattle.rules.specs.Parts.{pages}
use Rattle.rules.specs.Made.{MadeSlot, Blank, Placed}
use Rattle.sheet_text.specs.Jobs.{JobView, slots_of}

-- for a slot that has a page: as many bytes as the page has, and 256 for the texts round it
abbrev pub slot_room : List (List ℕ) → MadeSlot → ℕ
slot_room texts Blank = 0
slot_room texts (Placed p item paper) = length (slice_index_or texts p []) + 256

-- for a sheet: 64 bytes, and its slots
abbrev pub most_room : JobView → ℕ → ℕ
most_room job s = 64 + sum_by (slot_room (pages job.units)) (slots_of job s)
