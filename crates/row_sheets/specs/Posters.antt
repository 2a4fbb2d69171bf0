-- Posters: one page over several sheets, which are its tiles. All here is this project's own rules.
use Rattle.std.specs.Prelude.{◌≡◌, ◌⊎◌, ⊤, ℕ, ◌+◌, ◌-◌, ◌*◌, ◌/◌, ◌%◌, ◌<◌, min, pos, ◌+ℤ◌, ◌-ℤ◌, ◌≤ℤ◌, ◌≤◌, nat_abs, nat_le, nat_lt, ◌&&◌}
use Rattle.std.specs.Prelude.{if◌then◌else◌, List, [], ◌∷◌, length, map, flat_map, slice_get, slice_index_or, Option, Some, None, ℤ, unwrap_or}
use Rattle.std.specs.List.{range_with_len}
use Rattle.rules.specs.Papers.{Paper}
use Rattle.rules.specs.Specification.{Item, Upright}
use Rattle.rules.specs.Placement.{Point}
use Rattle.layouts.specs.Placed.{fine, stands, IsOfPage}
use Rattle.layouts.specs.Cells.{fitting, item_at, slack, whole_parts}
use Rattle.layouts.specs.Grids.{above_zero, scale_for}
use Rattle.layouts.specs.Refusals.{is_paper_reached, is_scale_in_range, most_on_sheet}
use Rattle.layouts.specs.Laws.{Cell, IsInMiddle, IsPaper}
use Rattle.rules.specs.Signatures.{entry_of}
use Rattle.rules.specs.Made.{MadeSheet, Blank, Placed}
use Rattle.rules.specs.Rows.{Row}
use Rattle.row_sheets.specs.FirstFault.{first_fault}
use Rattle.row_sheets.specs.declared.poster.Poster.{Poster}
use Rattle.row_sheets.specs.declared.poster.PosterFit.{PosterFit}
use Rattle.row_sheets.specs.declared.poster.PosterError.{PosterError}
use Rattle.row_sheets.specs.declared.poster.PosterError.TheVariants as why

-- what the margins leave of a side (RULES, 14.3)
abbrev pub tile : (side edge : ℕ) → ℕ
tile side edge = whole_parts side - 2 * edge

-- from where a tile begins to where the next one begins
abbrev pub stride : (side edge overlap : ℕ) → ℕ
stride side edge overlap = tile side edge - overlap

-- how long so many tiles are
abbrev pub tiles_length : (side edge overlap tiles : ℕ) → ℕ
tiles_length side edge overlap tiles = (tiles - 1) * stride side edge overlap + tile side edge

abbrev pub poster_width : Poster → ℕ
poster_width p = tiles_length (nat_abs p.sheet.width) p.edge p.overlap p.columns

abbrev pub poster_height : Poster → ℕ
poster_height p = tiles_length (nat_abs p.sheet.height) p.edge p.overlap p.rows

-- the largest scale with which the page fits its tiles, in 10^-9
abbrev pub largest_scale : (page : Paper) → Poster → ℕ
largest_scale page p =
    min (fitting (poster_width p) (nat_abs page.width)) (fitting (poster_height p) (nat_abs page.height))

-- the scale that is asked for, and the largest one without a request
abbrev pub asked_scale : (page : Paper) → Poster → ℕ
asked_scale page p = scale_for p.scale (largest_scale page p)

-- the scale of the page: the one that is asked for, unless the page is too large for its tiles at that scale; then it is refused
abbrev pub poster_scale : (page : Paper) → Poster → ℕ
poster_scale page p = min (asked_scale page p) (largest_scale page p)

-- the page on the tile in this column, and in this row from the foot: the same for all pages of a paper. It is in the middle of the poster
abbrev pub tile_item : (page : Paper) → Poster → (column row : ℕ) → Item
tile_item page p column row = let s = poster_scale page p in item_at 0 Upright s
    (pos (p.edge + slack (poster_width p) (nat_abs page.width) s) -ℤ pos (column * stride (nat_abs p.sheet.width) p.edge p.overlap))
    (pos (p.edge + slack (poster_height p) (nat_abs page.height) s) -ℤ pos (row * stride (nat_abs p.sheet.height) p.edge p.overlap))

-- the sheets of a page: row by row from the head, and each from the left
abbrev pub poster_sheets : (page : Paper) → Poster → (page_number : ℕ) → List MadeSheet
poster_sheets page p k = map (λ n. record {
  paper = p.sheet;
  slots = Placed k (tile_item page p (n % p.columns) (p.rows - (n / p.columns + 1))) page ∷ [];
}) (range_with_len 0 (p.rows * p.columns))

-- how many sheets a poster has at most: as many as a sheet has cells
abbrev pub most_tiles : ℕ
most_tiles = most_on_sheet

-- the first reason why there is no such poster, if there is one (RULES, 16, steps 9 and 12)
abbrev pub why_no_poster : (page : Paper) → Poster → Option PosterError
why_no_poster page p =
    if nat_le 1 (p.rows * p.columns) && nat_le (p.rows * p.columns) most_tiles
    then (if is_paper_reached p.sheet
    then (if nat_lt p.overlap (tile (nat_abs p.sheet.width) p.edge) && nat_lt p.overlap (tile (nat_abs p.sheet.height) p.edge)
    then (if nat_lt (poster_width p) 10_000_000_000 && nat_lt (poster_height p) 10_000_000_000
    then (if is_scale_in_range (asked_scale page p)
    then (if nat_le (asked_scale page p) (largest_scale page p) then None else Some why.ScaleTooLarge)
    else Some why.ScaleOutOfRange)
    else Some why.SideTooLong)
    else Some why.NothingButOverlap)
    else Some why.SideTooLong)
    else Some why.TilesOutOfRange

-- how long a side of a page is at this scale, in 10^-5 of a point
abbrev pub scaled_length : (side : ℕ) → (scale : ℤ) → ℕ
scaled_length side scale = (above_zero scale * side + 1_269_999_999_999_999) / 1_270_000_000_000_000

-- the fewest tiles that are so long together. More than a poster may have count as one more than that (RULES, 14.3)
abbrev pub fewest_tiles : (side edge overlap needed : ℕ) → ℕ
fewest_tiles side edge overlap needed =
    min ((needed - tile side edge + (stride side edge overlap - 1)) / stride side edge overlap) most_tiles + 1

-- the scale that a poster on the fewest sheets has: the one that is asked for, and else 1
abbrev pub scale_or_one : Poster → ℤ
scale_or_one p = unwrap_or p.scale (pos 1_000_000_000)

-- the poster with the fewest columns and the fewest rows that hold the page at its scale
abbrev pub on_fewest : (page : Paper) → Poster → Poster
on_fewest page p = record p {
  columns = fewest_tiles (nat_abs p.sheet.width) p.edge p.overlap (scaled_length (nat_abs page.width) (scale_or_one p));
  rows = fewest_tiles (nat_abs p.sheet.height) p.edge p.overlap (scaled_length (nat_abs page.height) (scale_or_one p));
  scale = Some (scale_or_one p);
}

-- the error is that one; want of memory only if there is none
abbrev pub IsNoPoster : Option PosterError → PosterError → Type 0
IsNoPoster found e = ((e ≡ why.NoMemory) × (found ≡ None)) ⊎ (found ≡ Some e)

-- ---- the pages of a row

-- as many blank sheets
abbrev pub blank_tiles : Poster → List MadeSheet
blank_tiles p = map (λ n. record { paper = p.sheet; slots = Blank ∷ [] }) (range_with_len 0 (p.rows * p.columns))

-- the paper of a page; one whose paper isn't known has the sheets'
abbrev pub poster_paper : Poster → List Paper → (page : ℕ) → Paper
poster_paper p papers page = slice_index_or papers page p.sheet

-- a page on its tiles; for a blank they are blank
abbrev pub entry_tiles : Poster → List Paper → Option ℕ → List MadeSheet
entry_tiles p papers None = blank_tiles p
entry_tiles p papers (Some page) = poster_sheets (poster_paper p papers page) p page

-- the tiles of all entries, one entry after the other
abbrev pub row_tiles : Poster → List Paper → Row → List MadeSheet
row_tiles p papers row = flat_map (entry_tiles p papers) row

-- why an entry can't be a poster, if it can't
abbrev pub why_no_tiles : Poster → List Paper → (entry : Option ℕ) → Option PosterError
why_no_tiles p papers None = None
why_no_tiles p papers (Some page) = why_no_poster (poster_paper p papers page) p

-- the reason for the first page of the row that can't be a poster
abbrev pub first_no_poster : Poster → List Paper → Row → Option PosterError
first_no_poster p papers row = first_fault (λ i. why_no_tiles p papers (entry_of row i)) (length row)

-- a poster of a row is refused for its first reason, and for memory only if there is none
abbrev pub IsNoPosterFor : Poster → List Paper → Row → PosterError → Type 0
IsNoPosterFor p papers row e = IsNoPoster (first_no_poster p papers row) e

-- ---- the page on the tiles

-- the page on the tiles: its scale, where it begins on the first one, and how far the next ones are
abbrev pub laid_of : (page : Paper) → Poster → PosterFit
laid_of page p = let s = poster_scale page p in record {
  scale = s;
  left = p.edge + slack (poster_width p) (nat_abs page.width) s;
  bottom = p.edge + slack (poster_height p) (nat_abs page.height) s;
  across = stride (nat_abs p.sheet.width) p.edge p.overlap;
  down = stride (nat_abs p.sheet.height) p.edge p.overlap;
}

abbrev pub laid_item : PosterFit → (column row : ℕ) → Item
laid_item l column row = item_at 0 Upright l.scale (pos l.left -ℤ pos (column * l.across)) (pos l.bottom -ℤ pos (row * l.down))

-- its offsets can be written
abbrev pub IsNear : PosterFit → (column row : ℕ) → Type 0
IsNear l column row =
    (l.left < 10_000_000_000) × (column * l.across < 10_000_000_000) × (l.bottom < 10_000_000_000)
    × (row * l.down < 10_000_000_000)

-- a tile shows what is between its margins
pub record IsShown (p : Poster) (at : Point) : Type 0 where
  pub left : fine p.edge ≤ℤ at.x
  pub right : at.x ≤ℤ fine (p.edge + tile (nat_abs p.sheet.width) p.edge)
  pub bottom : fine p.edge ≤ℤ at.y
  pub top : at.y ≤ℤ fine (p.edge + tile (nat_abs p.sheet.height) p.edge)

-- there are tiles, and they are longer than they overlap
pub record HasTiles (p : Poster) : Type 0 where
  pub some_columns : 0 < p.columns
  pub some_rows : 0 < p.rows
  pub wide : p.overlap < tile (nat_abs p.sheet.width) p.edge
  pub high : p.overlap < tile (nat_abs p.sheet.height) p.edge

-- each point of the page is shown on a tile: a law
abbrev pub PosterCovers : Type 0
PosterCovers = (page : Paper) (p : Poster) (at : Point) → IsPaper page → HasTiles p → IsOfPage 0 page at
    → (column row : ℕ) × (column < p.columns) × (row < p.rows) × IsShown p (stands page (tile_item page p column row) at)

-- what is on one tile is on the next one to the right too, farther to the left by a tile less the overlap: so
-- neighbours share exactly the overlap. And likewise upward: a law
abbrev pub TilesOverlap : Type 0
TilesOverlap = (page : Paper) (p : Poster) (column row : ℕ) (at : Point) → HasTiles p
    → ((stands page (tile_item page p column row) at).x
    ≡ (stands page (tile_item page p (column + 1) row) at).x
    +ℤ (fine (tile (nat_abs p.sheet.width) p.edge) -ℤ fine p.overlap))
    × ((stands page (tile_item page p column row) at).y
    ≡ (stands page (tile_item page p column (row + 1)) at).y
    +ℤ (fine (tile (nat_abs p.sheet.height) p.edge) -ℤ fine p.overlap))

-- ---- what such sheets rest on

-- a page of this paper can be such a poster
pub record MayBePoster (p : Poster) (page : Paper) : Type 0 where
  pub page_is : IsPaper page
  pub fits : why_no_poster page p ≡ None

abbrev pub EntryMayBePoster : Poster → List Paper → (entry : Option ℕ) → Type 0
EntryMayBePoster p papers None = ⊤
EntryMayBePoster p papers (Some page) = MayBePoster p (poster_paper p papers page)

-- each page of a row can be one: nothing had to be refused
abbrev pub AllMayBePosters : Poster → List Paper → Row → Type 0
AllMayBePosters p papers row = (i : ℕ) → EntryMayBePoster p papers (entry_of row i)

-- a poster that a page can be has tiles: a law
abbrev pub PosterHasTiles : Type 0
PosterHasTiles = (page : Paper) (p : Poster) → why_no_poster page p ≡ None → HasTiles p

-- the first of the sheets of entry i is sheet i times so many
abbrev pub first_tile : Poster → (i : ℕ) → ℕ
first_tile p i = i * (p.rows * p.columns)

-- the page on tile n of its poster, counted row by row from the upper left one
abbrev pub item_on : Poster → (paper : Paper) → (n : ℕ) → Item
item_on p paper n = tile_item paper p (n % p.columns) (p.rows - (n / p.columns + 1))

-- these sheets show a point of a page: one of the entry's sheets has the page as that tile of its poster has it, by the
-- page's own paper, and shows the point between its margins
pub record IsOnTile (p : Poster) (made : List MadeSheet) (i page : ℕ) (paper : Paper) (at : Point) : Type 0 where
  pub n : ℕ
  pub is_one : n < p.rows * p.columns
  pub sheet : slice_get made (first_tile p i + n) ≡ Some (record { paper = p.sheet; slots = Placed page (item_on p paper n) paper ∷ [] })
  pub shown : IsShown p (stands paper (item_on p paper n) at)

-- each point of each page of a row is shown on one of its sheets, if each page can be a poster: a law
abbrev pub RowIsShown : Type 0
RowIsShown = (p : Poster) (papers : List Paper) (row : Row) (i page : ℕ) (at : Point) → AllMayBePosters p papers row
    → entry_of row i ≡ Some page → IsOfPage 0 (poster_paper p papers page) at
    → IsOnTile p (row_tiles p papers row) i page (poster_paper p papers page) at

-- ---- as large as its tiles, and in their middle

-- a page of this scale, in 10^-9, fits the tiles, which have whole 10^-5 of a point
pub record FitsTiles (page : Paper) (p : Poster) (scale : ℕ) : Type 0 where
  pub wide : scale * nat_abs page.width ≤ 1_270_000_000_000_000 * poster_width p
  pub high : scale * nat_abs page.height ≤ 1_270_000_000_000_000 * poster_height p

-- how long so many tiles are if nothing is rounded, in 10^-9 of a grain
abbrev pub exact_length : (side edge overlap tiles : ℕ) → ℕ
exact_length side edge overlap tiles =
    (tiles - 1) * (1_000_000_000 * side - 1_270_000_000_000_000 * (2 * edge + overlap)) + (1_000_000_000 * side - 1_270_000_000_000_000 * (2 * edge))

-- the tiles allow this scale, if nothing is rounded
pub record AllowTiles (page : Paper) (p : Poster) (scale : ℕ) : Type 0 where
  pub wide : scale * nat_abs page.width ≤ exact_length (nat_abs p.sheet.width) p.edge p.overlap p.columns
  pub high : scale * nat_abs page.height ≤ exact_length (nat_abs p.sheet.height) p.edge p.overlap p.rows

-- the sides of a page are 11 points or more
pub record IsNoTinyPage (page : Paper) : Type 0 where
  pub wide : 1_397_000_000_000 ≤ nat_abs page.width
  pub high : 1_397_000_000_000 ≤ nat_abs page.height

-- the page of a poster fits its tiles. It has their largest scale if no other is asked for, and fits them at no larger one. If nothing is
-- rounded they allow no scale that is larger by 10^-6 for each column and row
pub record IsLarge (page : Paper) (p : Poster) : Type 0 where
  pub fits : FitsTiles page p (poster_scale page p)
  pub unasked : p.scale ≡ None → poster_scale page p ≡ largest_scale page p
  pub largest : (scale : ℕ) → FitsTiles page p scale → scale ≤ largest_scale page p
  pub large : (scale : ℕ) → IsNoTinyPage page → HasTiles p → AllowTiles page p scale → scale < largest_scale page p + 1_000 * (p.columns + p.rows)

-- the page of a poster is as large as its tiles allow, as by `impose poster 2x2 --overlap 1cm`: a law
abbrev pub PosterIsLarge : Type 0
PosterIsLarge = (page : Paper) (p : Poster) → IsPaper page → IsLarge page p

-- a page of a poster that isn't refused has the scale that is asked for, on each tile: a law
abbrev pub PosterHasScale : Type 0
PosterHasScale = (page : Paper) (p : Poster) (scale : ℤ) (column row : ℕ) → p.scale ≡ Some scale → why_no_poster page p ≡ None
    → (tile_item page p column row).scale ≡ scale

-- these columns and rows hold the page at this scale, and no fewer columns and no fewer rows do
pub record HoldsOnFewest (page : Paper) (p : Poster) (scale : ℕ) : Type 0 where
  pub fits : p.columns ≤ most_tiles → p.rows ≤ most_tiles → FitsTiles page p scale
  pub columns : (fewer : ℕ) → 0 < fewer → fewer < p.columns
      → 1_270_000_000_000_000 * tiles_length (nat_abs p.sheet.width) p.edge p.overlap fewer < scale * nat_abs page.width
  pub rows : (fewer : ℕ) → 0 < fewer → fewer < p.rows
      → 1_270_000_000_000_000 * tiles_length (nat_abs p.sheet.height) p.edge p.overlap fewer < scale * nat_abs page.height

-- the grid that is found for a scale has the fewest columns and rows that hold the page: a law
abbrev pub FewestHold : Type 0
FewestHold = (page : Paper) (p : Poster) → HasTiles (on_fewest page p)
    → HoldsOnFewest page (on_fewest page p) (above_zero (scale_or_one p))

-- all tiles together as one cell, measured from the corner of the lower left sheet
abbrev pub poster_cell : Poster → Cell
poster_cell p = record { left = p.edge; bottom = p.edge; width = poster_width p; height = poster_height p }

-- the middle of the page is the middle of the poster, to 10^-5 of a point: a law
abbrev pub PosterIsInMiddle : Type 0
PosterIsInMiddle = (page : Paper) (p : Poster) → IsPaper page → IsInMiddle page (poster_cell p) (tile_item page p 0 0)
