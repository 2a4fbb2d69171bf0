-- Options that would do nothing.
use Rattle.std.specs.Prelude.{◌==◌, ℤ, pos, ◌+ℤ◌, int_lt, int_le, Bool, true, false, ◌&&◌, not, if◌then◌else◌, is_some, Option, None, Some}
use Rattle.std.specs.Ordering.{int_eq}
use Rattle.layouts.specs.Grids.{cells_per_sheet}
use Rattle.layouts.specs.declared.arrangement.Free.{Free}
use Rattle.impose_words.specs.PosterSizes.{gives_scale}
use Rattle.impose_words.specs.declared.request.Spacing.{Spacing}
use Rattle.impose_words.specs.declared.request.Layout.{Layout}
use Rattle.impose_words.specs.declared.request.Layout.TheVariants as layout
use Rattle.impose_words.specs.declared.request.Product.{Product}
use Rattle.impose_words.specs.declared.request.Product.TheVariants as product
use Rattle.impose_words.specs.declared.request.ImposeRequest.{ImposeRequest}
use Rattle.impose_words.specs.declared.idle.IdleOption.{IdleOption}
use Rattle.impose_words.specs.declared.idle.IdleOption.TheVariants.{Outfile, Sheet, Scale, CutMarks, Inner, InnerMarks, Left}

-- sheets are shown in place of being imposed
abbrev pub shows_sheets : Product → Bool
shows_sheets product.Plan = true
shows_sheets (product.Picture file) = true
shows_sheets other = false

-- each page is left on its own paper
abbrev pub keeps_papers : Layout → Bool
keeps_papers layout.Selection = true
keeps_papers other = false

-- its pages have a scale already
abbrev pub has_own_scale : Layout → Bool
has_own_scale (layout.Poster size) = gives_scale size
has_own_scale other = false

-- a sheet is cut outside its cells alone: it has one cell or is a tile, or is folded between them
abbrev pub is_cut_outside : Layout → Bool
is_cut_outside (layout.NUp cells) = cells_per_sheet cells == 1
is_cut_outside (layout.Cards cells) = cells_per_sheet cells == 1
is_cut_outside (layout.Stack cells duplex) = cells_per_sheet cells == 1
is_cut_outside (layout.Booklet signing long_edge) = true
is_cut_outside (layout.Poster cells) = true
is_cut_outside other = false

-- there is a margin, of half the gap at least
abbrev pub fits_half_gap : (margin gap : ℤ) → Bool
fits_half_gap margin gap = int_lt (pos 0) margin && int_le gap (margin +ℤ margin)

-- along all edges
abbrev pub has_margins : Free → Bool
has_margins f = (fits_half_gap f.left f.across && fits_half_gap f.right f.across) && (fits_half_gap f.bottom f.up && fits_half_gap f.top f.up)

-- what is laid so is bound, and has an inner edge there
abbrev pub is_bound : Layout → Bool
is_bound (layout.NUp cells) = true
is_bound (layout.Booklet signing long_edge) = true
is_bound other = false

-- a left margin is asked for, and the left edge is the inner one of fronts, which has its own
abbrev pub has_two_left : Layout → Spacing → Bool
has_two_left (layout.NUp cells) s = is_some s.inner && not (int_eq s.free.left (pos 0))
has_two_left other s = false

-- the first option that would do nothing: a file, though sheets are only shown; a paper, though sheets keep their own; a scale of
-- pages that have one; an inner margin without an inner edge, or with a left margin too; cut marks with an inner margin, or without margins to hold them
-- (RULES, 16, step 4)
abbrev pub idle_option : ImposeRequest → Option IdleOption
idle_option r = if shows_sheets r.product && is_some r.outfile then Some Outfile
    else (if keeps_papers r.layout && is_some r.sheet_paper then Some Sheet
    else (if is_some r.spacing.scale && has_own_scale r.layout then Some Scale
    else (if is_some r.spacing.inner && not (is_bound r.layout) then Some Inner
    else (if has_two_left r.layout r.spacing then Some Left
    else (if r.marks.cut && is_some r.spacing.inner then Some InnerMarks
    else (if r.marks.cut && (is_cut_outside r.layout && not (has_margins r.spacing.free)) then Some CutMarks else None))))))
