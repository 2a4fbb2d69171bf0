-- How ranges are counted before they are kept.
use Rattle.std.specs.Prelude.{ℕ, ◌+◌, nat_lt, if◌then◌else◌, List, [], ◌∷◌, length, Option, Some, None, is_some, Result, Ok, Err}
use Rattle.rules.specs.Units.{◌>>=◌}
use Rattle.rules.specs.Ranges.{Range, range_at}
use Rattle.rows.specs.declared.found_ranges.ResolvedRange.{ResolvedRange}
use Rattle.rows.specs.declared.tallies.Tally.{Tally}
use Rattle.rows.specs.Found.{found_in, is_missing, entries_found}

abbrev pub tally_of : (missing over : Option ℕ) → (entries : ℕ) → Tally
tally_of missing over entries = record { missing = missing; over = over; entries = entries }

abbrev pub no_tally : Tally
no_tally = tally_of None None 0

-- with one more range, which begins at this byte, under this limit of entries
abbrev pub with_range : (most at : ℕ) → ResolvedRange → Tally → Tally
with_range most at range t =
    let n = t.entries + length (entries_found range) in
    if is_some t.missing then t
    else (if is_missing range then tally_of (Some at) t.over t.entries
    else (if is_some t.over then t
    else (if nat_lt most n then tally_of t.missing (Some at) t.entries else tally_of t.missing t.over n)))

abbrev pub tally_piece : (most pages at : ℕ) → Option Range → Tally → Result Tally ℕ
tally_piece most pages at None t = Err at
tally_piece most pages at (Some range) t = Ok (with_range most at (found_in pages range) t)

-- with the ranges of these pieces, the first of which begins at this byte; or where the first piece begins that is
-- not a range
abbrev pub tally_from : (most pages at : ℕ) → List (List ℕ) → Tally → Result Tally ℕ
tally_from most pages at [] t = Ok t
tally_from most pages at (piece ∷ pieces) t =
    tally_piece most pages at (range_at piece) t >>= λ u. tally_from most pages (at + length piece + 1) pieces u
