-- How many sheets may be imposed ahead of the one that is written next. All here is this project's own choice
-- (docs/DECISIONS.md, 'The run').
use Rattle.std.specs.Prelude.{ℕ, ◌+◌, ◌*◌, ◌/◌, List, [], length, min, max, slice_index_or, sum_by}
use Rattle.std.specs.List.{range_with_len}
use Rattle.rules.specs.Parts.{pages}
use Rattle.rules.specs.Sheets.{layout}
use Rattle.sheet_plan.specs.Places.{places_of}
use Rattle.sheet_text.specs.Jobs.{JobView}

-- how many bytes these pages have together
abbrev pub bytes_together : List (List ℕ) → ℕ
bytes_together pages = sum_by length pages

-- about how many bytes page p has in the texts of sheets: in each slot that it fills its own, and 256 round them
abbrev pub text_bytes : JobView → (p : ℕ) → ℕ
text_bytes job p =
    (length (slice_index_or (pages job.units) p []) + 256) * length (places_of (layout job.plan) p)

-- about how many bytes the texts of all slots have together
abbrev pub bytes_of_texts : JobView → ℕ
bytes_of_texts job = sum_by (text_bytes job) (range_with_len 0 (length (pages job.units)))

-- the text that a sheet has: an even share of the bytes of all slots; three quarters of a megabyte if it has more
abbrev pub text_share : (sheets bytes : ℕ) → ℕ
text_share sheets bytes = min (bytes / max sheets 1) 786_432

-- as many sheets as have three quarters of a megabyte together, each with 32 bytes of work beside it, and 4,096 at most;
-- one for each imposer at least, and two
abbrev pub window_len : (sheets imposers bytes : ℕ) → ℕ
window_len sheets imposers bytes = max (max (min (786_432 / (text_share sheets bytes + 32)) 4_096) imposers) 2
