-- How large a poster is, as people write it: by its sheets, by a scale in per cent, or by a paper.
use Rattle.std.specs.Prelude.{ℕ, ℤ, pos, negsuc, ◌/◌, ◌||◌, Bool, true, false, not, if◌then◌else◌, List, Option, Some, None, codes, option_map}
use Rattle.std.specs.Str.{bytes_eq}
use Rattle.rules.specs.Numbers.{is_large}
use Rattle.rules.specs.Papers.{Paper}
use Rattle.lengths.specs.Reading.{number_at}
use Rattle.layouts.specs.declared.arrangement.Cells.{Cells}
use Rattle.layouts.specs.declared.arrangement.Cells.TheVariants.{AtLeast}
use Rattle.impose_words.specs.Arranging.{tiles_named}
use Rattle.impose_words.specs.Sizes.{size_named}
use Rattle.impose_words.specs.declared.request.PosterSize.{PosterSize}
use Rattle.impose_words.specs.declared.request.PosterSize.TheVariants.{Sheets, Scaled, Fitting}

-- the hundredth part of a number that is not below 0, rounded down to 10^-9
abbrev pub hundredth : ℤ → Option ℤ
hundredth (pos n) = Some (pos (n / 100))
hundredth (negsuc n) = None

-- that of a number before a per cent sign
abbrev pub before_sign : Option (ℤ × List ℕ) → Option ℤ
before_sign None = None
before_sign (Some (number, rest)) = if is_large number || not (bytes_eq rest (codes "%")) then None else hundredth number

abbrev pub percent_named : List ℕ → Option ℤ
percent_named text = before_sign (number_at text)

abbrev pub scale_or_paper : Option ℤ → Option Paper → Option PosterSize
scale_or_paper (Some scale) paper = Some (Scaled scale)
scale_or_paper None paper = option_map (λ p. Fitting p) paper

abbrev pub sheets_or : Option Cells → Option PosterSize → Option PosterSize
sheets_or (Some cells) other = Some (Sheets cells)
sheets_or None other = other

-- what is a grid is no paper: 10x14 are 140 sheets (RULES, 14.3)
abbrev pub poster_size_named : List ℕ → Option PosterSize
poster_size_named text = sheets_or (tiles_named text) (scale_or_paper (percent_named text) (size_named text))

-- the scale of the page is that of the size, and no other is asked for
abbrev pub gives_scale : PosterSize → Bool
gives_scale (Sheets cells) = false
gives_scale other = true

-- the sheets that are named, or as many as the size takes, and at least one
abbrev pub sheets_of_size : PosterSize → Cells
sheets_of_size (Sheets cells) = cells
sheets_of_size other = AtLeast 1
