-- The last page at the back of a booklet: the blanks that fill up the last signature come before it (RULES, 14.1).
use Rattle.std.specs.Prelude.{◌≡◌, ℕ, ◌-◌, ◌*◌, ◌/◌, ◌≤◌, min, Bool, if◌then◌else◌, [], ◌∷◌, ◌++◌, length, flat_map, replicate, Option, Some, None}
use Rattle.std.specs.List.{range_with_len}
use Rattle.rules.specs.Sheets.{blocks}
use Rattle.rules.specs.Rows.{Row}
use Rattle.rules.specs.Choice.{Signing, most_entries, sides_for, signed_if}
use Rattle.rules.specs.Leaves.{faces, read_signature}
use Rattle.rules.specs.Signatures.{AreSides}

-- the entries of whole signatures for this many entries, but no more than a row may have
abbrev pub filled_length : Signing → (entries : ℕ) → ℕ
filled_length how n = let s = sides_for how n in min (blocks s n * s) most_entries

-- the row with this many blanks before its last entry
abbrev pub before_last : (blanks : ℕ) → Row → Row
before_last n [] = []
before_last n (last ∷ []) = replicate n None ++ last ∷ []
before_last n (entry ∷ next ∷ row) = entry ∷ before_last n (next ∷ row)

-- a row in signatures, with the blanks that fill up the last one before the last entry
abbrev pub last_at_back : Option Signing → Row → Row
last_at_back None row = row
last_at_back (Some how) row = before_last (filled_length how (length row) - length row) row

abbrev pub last_at_back_if : (is_asked : Bool) → Option Signing → Row → Row
last_at_back_if is_asked how row = if is_asked then last_at_back how row else row

-- a booklet with these blanks, in signatures, folded and read signature by signature, has the pages before the last one, the blanks, and at its back the
-- last page, if a row may have so many entries: a law
abbrev pub LastPageIsLast : Type 0
LastPageIsLast = (how : Signing) (front : Row) (last : Option ℕ) → (
    let row = front ++ last ∷ [] in
    let sides = sides_for how (length row) in
    let signatures = blocks sides (length row) in
    AreSides sides → signatures * sides ≤ most_entries
    → flat_map (read_signature (sides / 4) (faces (signed_if (Some how) (last_at_back (Some how) row)))) (range_with_len 0 signatures)
    ≡ front ++ replicate (signatures * sides - length row) None ++ last ∷ [])
