-- What is kept of a preamble, a page and a trailer, which is a rule of this project. Comments of DSC are dropped if
-- they describe the pages or the size of the whole document, which imposition changes (General Header Comments,
-- %%DocumentMedia, and %%HiResBoundingBox, which came after DSC 3.0). Of a page, the comments on that page are
-- dropped too (General Page Comments).
use Rattle.std.specs.Prelude.{ℕ, Bool, true, false, not, ◌&&◌, ◌||◌, nat_eq, if◌then◌else◌, List, [], ◌∷◌, ◌++◌, codes}
use Rattle.std.specs.Prelude.{decimal, Result, Ok}
use Rattle.std.specs.List.{starts_with}
use Rattle.rules.specs.Bytes.{line_feed, line}
use Rattle.rules.specs.Units.{is_end, key, has_key, cut, FaultyBlock, ◌>>=◌}
use Rattle.rules.specs.Parts.{NestedUnit, nested, is_outermost_line, bytes_of, preamble, trailer}

-- a line that continues the comment before it: DSC, %%+
abbrev pub continues : NestedUnit → Bool
continues u = not u.unit.is_block && starts_with nat_eq u.unit.content (codes "%%+")

-- what is kept: all but the outermost lines that the filter drops, and the lines that continue a dropped one
abbrev pub kept_after : (was_dropped : Bool) → (List ℕ → Bool) → List NestedUnit → List NestedUnit
kept_after was_dropped drops [] = []
kept_after was_dropped drops (u ∷ us) =
    if (is_outermost_line u && drops u.unit.content) || (was_dropped && continues u) then kept_after true drops us
    else u ∷ kept_after false drops us

abbrev pub kept : (List ℕ → Bool) → List NestedUnit → List NestedUnit
kept drops us = kept_after false drops us

-- dropped from a preamble and a trailer
abbrev pub drops_in_header : List ℕ → Bool
drops_in_header content =
    has_key
    (codes "%%Pages" ∷ codes "%%PageOrder" ∷ codes "%%BoundingBox" ∷ codes "%%HiResBoundingBox"
    ∷ codes "%%DocumentMedia" ∷ codes "%%Orientation" ∷ [])
    content

-- dropped from a page: each key that begins with %%Page, and the lines around a page's setup
abbrev pub drops_in_page : List ℕ → Bool
drops_in_page content =
    starts_with nat_eq (key content) (codes "%%Page")
    || has_key (codes "%%BeginPageSetup" ∷ codes "%%EndPageSetup" ∷ []) content

-- the bytes, with a line feed after them unless there are none or they end in a line end
abbrev pub ended : List ℕ → List ℕ
ended [] = []
ended (b ∷ []) = if is_end b then b ∷ [] else b ∷ line_feed ∷ []
ended (b ∷ c ∷ bs) = b ∷ ended (c ∷ bs)

-- the number of sheets, %%Pages of DSC, General Header Comments, is put after the first line
abbrev pub with_count : (sheets : ℕ) → List NestedUnit → List ℕ
with_count sheets [] = []
with_count sheets (first ∷ us) = first.unit.bytes ++ line (codes "%%Pages: " ++ decimal sheets) ++ bytes_of us

abbrev pub preamble_text : (sheets : ℕ) → List NestedUnit → List ℕ
preamble_text sheets us = ended (with_count sheets (kept drops_in_header (preamble us)))

abbrev pub trailer_text : List NestedUnit → List ℕ
trailer_text us = bytes_of (kept drops_in_header (trailer us))

-- the prepared body of a page. The page is cut as a text of its own, and may be faulty as one
abbrev pub prepared : List ℕ → Result (List ℕ) FaultyBlock
prepared page = cut page >>= λ us. Ok (ended (bytes_of (kept drops_in_page (nested us))))
