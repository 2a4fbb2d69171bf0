-- Where the pages of a plan are, and which of its sheets have none.
use Rattle.std.specs.Prelude.{ℕ, suc, ◌==◌, Bool, false, if◌then◌else◌, List, [], ◌∷◌, ◌++◌, length, Option, Some, None}
use Rattle.std.specs.Prelude.{is_none, slice_index_or, filter}
use Rattle.std.specs.List.{list_all, range_with_len}
use Rattle.rules.specs.Sheets.{Layout}

abbrev pub has_page : ℕ → Option ℕ → Bool
has_page p None = false
has_page p (Some q) = q == p

-- the places of page p in these slots of sheet s, the first of which is slot k
abbrev pub places_in : (p s k : ℕ) → List (Option ℕ) → List (ℕ × ℕ)
places_in p s k [] = []
places_in p s k (x ∷ xs) = (if has_page p x then (s, k) ∷ [] else []) ++ places_in p s (suc k) xs

-- the places of page p on these sheets, the first of which is sheet s
abbrev pub places_from : (p s : ℕ) → List (List (Option ℕ)) → List (ℕ × ℕ)
places_from p s [] = []
places_from p s (x ∷ xs) = places_in p s 0 x ++ places_from p (suc s) xs

-- all places of page p, ascending by sheet, then slot
abbrev pub places_of : Layout → ℕ → List (ℕ × ℕ)
places_of layout p = places_from p 0 layout.sheets

-- all slots of sheet s are blank
abbrev pub is_blank_sheet : Layout → ℕ → Bool
is_blank_sheet layout s = list_all is_none (slice_index_or layout.sheets s [])

-- the sheets that are complete before any page has come, ascending
abbrev pub born_complete : Layout → List ℕ
born_complete layout = filter (is_blank_sheet layout) (range_with_len 0 (length layout.sheets))
