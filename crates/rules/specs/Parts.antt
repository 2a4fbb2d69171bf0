-- The parts of a document: what comes before its pages, its pages, and what comes after them. The comments are of
-- DSC: %%Page of General Page Comments, %%Trailer and %%EOF of General Trailer Comments, %%BeginDocument and
-- %%EndDocument for a document inside a document. Rules of this project are that neither labels and ordinals of
-- pages nor the document's own count of pages are read, and where the trailer begins.
use Rattle.std.specs.Prelude.{◌≡◌, ℕ, ◌+◌, ◌-◌, Bool, not, ◌&&◌, ◌==◌, if◌then◌else◌, List, [], ◌∷◌, ◌++◌, drop, map}
use Rattle.std.specs.Prelude.{flat_map, codes, Ok}
use Rattle.std.specs.List.{prefix_len, take_while}
use Rattle.rules.specs.Units.{TextUnit, has_key, is_comment, cut}

-- a unit, and how many embedded documents it is in
pub record NestedUnit : Type 0 where
  pub depth : ℕ
  pub unit : TextUnit

-- the depth after a unit: data don't change it, and the end of a document never takes it below 0
abbrev pub depth_after : ℕ → TextUnit → ℕ
depth_after d u =
    if u.is_block then d
    else (if has_key (codes "%%BeginDocument" ∷ []) u.content then d + 1
    else (if has_key (codes "%%EndDocument" ∷ []) u.content then d - 1
    else d))

abbrev pub nested_from : ℕ → List TextUnit → List NestedUnit
nested_from d [] = []
nested_from d (u ∷ us) = record { depth = d; unit = u } ∷ nested_from (depth_after d u) us

-- the units of a text of its own
abbrev pub nested : List TextUnit → List NestedUnit
nested us = nested_from 0 us

-- a line that is in no embedded document
abbrev pub is_outermost_line : NestedUnit → Bool
is_outermost_line u = (u.depth == 0) && not u.unit.is_block

abbrev pub begins_page : NestedUnit → Bool
begins_page u = is_outermost_line u && is_comment (codes "%%Page") u.unit.content

-- the first such line after a page line begins the trailer
abbrev pub begins_trailer : NestedUnit → Bool
begins_trailer u = is_outermost_line u && has_key (codes "%%Trailer" ∷ codes "%%EOF" ∷ []) u.unit.content

-- the units before the first one that passes the test
abbrev pub up_to : (NestedUnit → Bool) → List NestedUnit → List NestedUnit
up_to p us = take_while (λ u. not (p u)) us

-- the first one that passes, and all after it
abbrev pub starting_at : (NestedUnit → Bool) → List NestedUnit → List NestedUnit
starting_at p us = drop (prefix_len (λ u. not (p u)) us) us

abbrev pub preamble : List NestedUnit → List NestedUnit
preamble us = up_to begins_page us

-- from the first page's line to the trailer
abbrev pub page_run : List NestedUnit → List NestedUnit
page_run us = up_to begins_trailer (starting_at begins_page us)

-- from the first trailer line after the first page's line to the end; no page begins there
abbrev pub trailer : List NestedUnit → List NestedUnit
trailer us = starting_at begins_trailer (starting_at begins_page us)

-- a page is its line and what comes before the next page's line
abbrev pub split_pages : List NestedUnit → List (List NestedUnit)
split_pages [] = []
split_pages (u ∷ us) = if begins_page u then (u ∷ up_to begins_page us) ∷ split_pages us else split_pages us

abbrev pub bytes_of : List NestedUnit → List ℕ
bytes_of us = flat_map (λ u. u.unit.bytes) us

-- the bytes of each page
abbrev pub pages : List NestedUnit → List (List ℕ)
pages us = map bytes_of (split_pages (page_run us))

-- a law: the preamble, the pages and the trailer of a text, one after the other, are the text
abbrev pub PartsMakeText : Type 0
PartsMakeText =
    (text : List ℕ) (us : List TextUnit) → cut text ≡ Ok us
    → bytes_of (preamble (nested us)) ++ flat_map (λ page. page) (pages (nested us))
    ++ bytes_of (trailer (nested us)) ≡ text
