-- Where the bodies of pages begin in the text, if they are the rest of their page.
use Rattle.std.specs.Prelude.{◌≡◌, ℕ, ◌+◌, ◌-◌, ◌<◌, ◌≤◌, Bool, true, false, ◌&&◌, ◌||◌, ◌==◌, if◌then◌else◌}
use Rattle.std.specs.Prelude.{List, [], ◌∷◌, ◌++◌, length, drop, slice_index_or}
use Rattle.rules.specs.Units.{is_end}
use Rattle.rules.specs.Parts.{NestedUnit, page_run, split_pages, bytes_of}
use Rattle.rules.specs.Filters.{kept, drops_in_page}
use Rattle.dsc.specs.Marks.{starts_of}

-- whether bytes end with a line end; without bytes the answer stays what it was
abbrev pub ends_line : (was : Bool) → List ℕ → Bool
ends_line was [] = was
ends_line was (b ∷ bs) = ends_line (is_end b) bs

-- what is kept of a page that begins at the byte `at` is everything in it from the byte n on, and the page ends
-- with a line end. For n = 0 this says nothing
abbrev pub IsBodyStart : (at n : ℕ) → List NestedUnit → Type 0
IsBodyStart at n us = 0 < n → (at ≤ n) × (n ≤ at + length (bytes_of us))
    × (bytes_of (kept drops_in_page us) ≡ drop (n - at) (bytes_of us))
    × (ends_line false (bytes_of us) ≡ true)

-- there is one for each page
pub record AreBodyStarts (us : List NestedUnit) (starts : List ℕ) : Type 0 where
  pub count : length starts ≡ length (split_pages (page_run us))
  pub each : (p : ℕ) → p < length starts → IsBodyStart (slice_index_or (starts_of us) p 0) (slice_index_or starts p 0)
      (slice_index_or (split_pages (page_run us)) p [])

-- What a pass over the units has found: where the bodies of the pages before the current one begin, and where that
-- of the current one does; whether the unit before was dropped, whether a page has begun, whether the pages have
-- ended, and whether the current page ends with a line end as far as it has been read.
pub record Sought : Type 0 where
  pub found : List ℕ
  pub current : ℕ
  pub was : Bool
  pub in_pages : Bool
  pub ended : Bool
  pub line : Bool

abbrev pub none_sought : Sought
none_sought = record { found = []; current = 0; was = false; in_pages = false; ended = false; line = false }

-- where a body begins after one more unit: a dropped unit moves it past itself if nothing was kept before, and
-- otherwise leaves it without a start
abbrev pub body_start_after : (dropped : Bool) → (start at after : ℕ) → ℕ
body_start_after dropped start at after = if dropped then (if start == at then after else 0) else start

-- the start counts if the page ends with a line end
abbrev pub closed : (line : Bool) → (start : ℕ) → ℕ
closed line start = if line then start else 0

abbrev pub starts_in : Sought → List ℕ
starts_in s = if s.in_pages then s.found ++ closed s.line s.current ∷ [] else s.found

-- one more page has begun, by these bytes, which end before this one
abbrev pub with_page : Sought → (after : ℕ) → List ℕ → Sought
with_page s after bytes = record {
  found = starts_in s;
  current = after;
  was = s.was;
  in_pages = true;
  ended = s.ended;
  line = ends_line false bytes;
}

-- what is found with one more unit, which has these bytes and begins at the byte `at`
abbrev pub noted : Sought → (at after : ℕ) → (page ends dropped : Bool) → List ℕ → Sought
noted s at after page ends dropped bytes =
    if s.ended || (s.in_pages && ends)
    then record { found = s.found; current = s.current; was = dropped; in_pages = s.in_pages; ended = true; line = s.line }
    else (if page
    then record {
      found = starts_in s;
      current = after;
      was = dropped;
      in_pages = true;
      ended = false;
      line = ends_line false bytes;
    }
    else record {
      found = s.found;
      current = body_start_after dropped s.current at after;
      was = dropped;
      in_pages = s.in_pages;
      ended = false;
      line = ends_line s.line bytes;
    })
