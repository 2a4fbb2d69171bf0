-- Posters of a size: at which scale a page has it, and on how many sheets (RULES, 14.3).
use Rattle.std.specs.Prelude.{ℕ, ℤ, pos, nat_abs, nat_lt, ◌+◌, ◌*◌, ◌/◌, ◌<◌, ◌≤◌, ◌⊎◌, min, max, if◌then◌else◌, Some}
use Rattle.rules.specs.Numbers.{greatest_number}
use Rattle.rules.specs.Papers.{Paper}
use Rattle.layouts.specs.Laws.{IsPaper}
use Rattle.layouts.specs.declared.arrangement.Cells.TheVariants.{AtLeast, Exactly}
use Rattle.impose_words.specs.declared.request.PosterSize.{PosterSize}
use Rattle.impose_words.specs.declared.request.PosterSize.TheVariants.{Sheets, Scaled, Fitting}
use Rattle.row_sheets.specs.Posters.{on_fewest}
use Rattle.row_sheets.specs.declared.poster.Poster.{Poster}

-- the poster on the fewest sheets that hold a page of this paper at this scale
abbrev pub at_scale : (page : Paper) → Poster → (scale : ℤ) → Poster
at_scale page p scale = on_fewest page (record p { scale = Some scale })

-- its sheets; the scale is in 10^-9, as all that follow
abbrev pub sheets_at : (page : Paper) → Poster → (scale : ℕ) → ℕ
sheets_at page p scale = (at_scale page p (pos scale)).rows * (at_scale page p (pos scale)).columns

-- the largest scale at which a side isn't longer than that
abbrev pub scale_along : (longest side : ℤ) → ℕ
scale_along longest side = 1_000_000_000 * nat_abs longest / nat_abs side

-- a page isn't wider and not higher than that
abbrev pub scale_within : (width height : ℤ) → (page : Paper) → ℕ
scale_within width height page = min (scale_along width page.width) (scale_along height page.height)

-- a page fits this paper, upright or on its side
abbrev pub exact_scale : (size page : Paper) → ℕ
exact_scale size page = min (max (scale_within size.width size.height page) (scale_within size.height size.width page)) greatest_number

-- the whole percentage of a scale
abbrev pub in_percent : (scale : ℕ) → ℕ
in_percent scale = scale / 10_000_000 * 10_000_000

-- the largest scale at which a page fits this paper, or the whole percentage below it if that takes fewer sheets
abbrev pub scale_on : (size page : Paper) → Poster → ℕ
scale_on size page p = let exact = exact_scale size page in
    if nat_lt (sheets_at page p (in_percent exact)) (sheets_at page p exact) then in_percent exact else exact

-- a poster in this size: the columns and rows that are named, or the fewest that hold a page of this paper at its scale
abbrev pub poster_of : PosterSize → (page : Paper) → Poster → Poster
poster_of (Sheets (Exactly columns rows)) page p = record p { columns = columns; rows = rows }
poster_of (Sheets (AtLeast n)) page p = on_fewest page p
poster_of (Scaled scale) page p = at_scale page p scale
poster_of (Fitting size) page p = at_scale page p (pos (scale_on size page p))

-- ---- a poster on a paper

-- a page at this scale isn't wider and not higher than that
pub record IsWithin (width height : ℤ) (page : Paper) (scale : ℕ) : Type 0 where
  pub wide : scale * nat_abs page.width ≤ 1_000_000_000 * nat_abs width
  pub high : scale * nat_abs page.height ≤ 1_000_000_000 * nat_abs height

-- it fits this paper, upright or on its side
abbrev pub FitsOn : (size page : Paper) → (scale : ℕ) → Type 0
FitsOn size page scale = IsWithin size.width size.height page scale ⊎ IsWithin size.height size.width page scale

-- a page of this scale fits the paper, and of a scale that is larger by 0.01 it doesn't
pub record IsOfSize (size page : Paper) (scale : ℕ) : Type 0 where
  pub fits : FitsOn size page scale
  pub large : (larger : ℕ) → larger ≤ greatest_number → FitsOn size page larger → larger < scale + 10_000_000

-- so does the page of a poster whose size is a paper: a law
abbrev pub PosterIsOfSize : Type 0
PosterIsOfSize = (size page : Paper) (p : Poster) → IsPaper page → IsOfSize size page (scale_on size page p)
