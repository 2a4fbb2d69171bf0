-- Where the pages of a document begin, and where its trailer does.
use Rattle.std.specs.Prelude.{ℕ, ◌+◌, Bool, true, ◌&&◌, ◌||◌, nat_lt, if◌then◌else◌, List, [], ◌∷◌, ◌++◌, length, take}
use Rattle.std.specs.Prelude.{Option, Some, None, Result}
use Rattle.rules.specs.Units.{FaultyBlock, cut_from}
use Rattle.dsc.specs.Filters.{of_units}
use Rattle.rules.specs.Parts.{NestedUnit, nested_from, begins_page, begins_trailer, bytes_of, preamble, page_run}

-- where the page lines are in these units, the first of which begins at this byte
abbrev pub page_starts : ℕ → List NestedUnit → List ℕ
page_starts at [] = []
page_starts at (u ∷ us) = let next = at + length u.unit.bytes
    in if begins_page u then at ∷ page_starts next us else page_starts next us

abbrev pub starts_of : List NestedUnit → List ℕ
starts_of us = page_starts (length (bytes_of (preamble us))) (page_run us)

abbrev pub pages_end : List NestedUnit → ℕ
pages_end us = length (bytes_of (preamble us)) + length (bytes_of (page_run us))

-- One pass over the units: a trailer line within the pages ends them.

abbrev pub starts_from : Bool → ℕ → List NestedUnit → List ℕ
starts_from inside at [] = []
starts_from inside at (u ∷ us) =
    if inside && begins_trailer u then []
    else (if begins_page u then at ∷ starts_from true (at + length u.unit.bytes) us
    else starts_from inside (at + length u.unit.bytes) us)

abbrev pub end_from : Bool → ℕ → List NestedUnit → ℕ
end_from inside at [] = at
end_from inside at (u ∷ us) = if inside && begins_trailer u then at
    else end_from (inside || begins_page u) (at + length u.unit.bytes) us

-- the first starts, as many as are kept, and where the pages end
pub record Marks : Type 0 where
  pub starts : List ℕ
  pub stop : ℕ

abbrev pub marks_on : ℕ → List ℕ → Option ℕ → ℕ → List NestedUnit → Marks
marks_on most starts (Some e) at us = record { starts = take most starts; stop = e }
marks_on most starts None at us = let inside = nat_lt 0 (length starts)
    in record { starts = take most (starts ++ starts_from inside at us); stop = end_from inside at us }

-- what is noted of a unit
abbrev pub noted_starts : ℕ → List ℕ → Option ℕ → Bool → Bool → ℕ → List ℕ
noted_starts most starts (Some e) page ends at = starts
noted_starts most starts None page ends at =
    if nat_lt 0 (length starts) && ends then starts
    else (if page && nat_lt (length starts) most then starts ++ at ∷ [] else starts)

abbrev pub noted_end : List ℕ → Option ℕ → Bool → ℕ → Option ℕ
noted_end starts (Some e) ends at = Some e
noted_end starts None ends at = if nat_lt 0 (length starts) && ends then Some at else None

-- what a pass over the rest of a text finds, if this was noted up to there
abbrev pub scan_on : ℕ → List ℕ → Option ℕ → ℕ → ℕ → List ℕ → Result Marks FaultyBlock
scan_on most starts stop depth at text =
    of_units (λ ps. marks_on most starts stop at (nested_from depth ps)) (cut_from (length text) at text)

abbrev pub stop_at : Option ℕ → ℕ → ℕ
stop_at (Some e) at = e
stop_at None at = at
