-- Worked examples: the marks of layings, how many leaves a signature has, and how many pages a document.
use Rattle.std.proofs.Common.{◌≡◌, [], ◌∷◌, false, true, map, refl}
use Rattle.std.specs.Prelude.{codes, pos, ℕ, ℤ, List, None, Some}
use Rattle.std.specs.Fmt.{digits}
use Rattle.rules.specs.Papers.{Paper, points}
use Rattle.rules.specs.Specification.{Turn, Upright, Left, Half}
use Rattle.rules.specs.Rows.{Row, all_pages}
use Rattle.rules.specs.Made.{MadeSlot, Blank, Placed, MadeSheet}
use Rattle.rules.specs.Choice.{OfSides}
use Rattle.pagespec.specs.declared.item.Turn.TheVariants as by
use Rattle.layouts.specs.Cells.{in_points}
use Rattle.layouts.specs.Grids.{plain_order}
use Rattle.layouts.specs.Placed.{Room}
use Rattle.layouts.specs.declared.setting.Setting.{Setting}
use Rattle.row_sheets.specs.SameScale.{at_one_scale}
use Rattle.row_sheets.specs.Shapes.{filling}
use Rattle.row_sheets.specs.declared.poster.Poster.{Poster}
use Rattle.dressing.specs.Drawn.{stroke_line}
use Rattle.dressing.specs.declared.strokes.Marks.{Marks}
use Rattle.row_runs.specs.declared.sheet_request.Laying.TheVariants as laying
use Rattle.row_sheets.specs.declared.fill.Scheme.TheVariants as scheme
use Rattle.row_runs.specs.Evened.{at_common_scale}
use Rattle.row_runs.specs.Marked.{strokes_in, tile_room}
use Rattle.row_runs.specs.SwappedMargins.{swapped}
use Rattle.row_runs.specs.Turning.{turn_on, turned_slot}
use Rattle.row_runs.specs.Numbers.{below_middle}
use Rattle.row_runs.specs.Sheets.{leaves_in}
use Rattle.row_runs.specs.DeclaredPages.{declared_page_count}

-- a sheet of 100 by 200 points with a margin of 10 points and a gap of 4, in two columns
abbrev halves : Setting
halves = record {
  room = record {
    paper = points 100 200;
    left = 1_000_000;
    right = 1_000_000;
    bottom = 1_000_000;
    top = 1_000_000;
    gutter_across = 400_000;
    gutter_up = 400_000;
    trim = 0;
  };
  grid = record { rows = 1; columns = 2; turned = false };
  order = plain_order;
  scale = None;
}

abbrev fold_and_cut : Marks
fold_and_cut = record { fold = true; cut = true; ruled = false; numbers = None }

-- a booklet's leaf is folded in the middle, and cut 2 points outside of its halves; it isn't cut at the fold
booklet_marks : map stroke_line (strokes_in fold_and_cut (laying.InCells halves (scheme.Booklet false 0)))
    ≡ codes "newpath 50 0 moveto 50 10 lineto stroke"
    ∷ codes "newpath 50 200 moveto 50 190 lineto stroke"
    ∷ codes "newpath 8 0 moveto 8 10 lineto stroke"
    ∷ codes "newpath 8 200 moveto 8 190 lineto stroke"
    ∷ codes "newpath 92 0 moveto 92 10 lineto stroke"
    ∷ codes "newpath 92 200 moveto 92 190 lineto stroke"
    ∷ codes "newpath 0 8 moveto 10 8 lineto stroke"
    ∷ codes "newpath 100 8 moveto 90 8 lineto stroke"
    ∷ codes "newpath 0 192 moveto 10 192 lineto stroke"
    ∷ codes "newpath 100 192 moveto 90 192 lineto stroke"
    ∷ []
unfolding digits
booklet_marks = refl

-- a sheet of a poster has its margin along all edges, and no gaps
abbrev poster : Poster
poster = record { sheet = points 100 200; columns = 2; rows = 1; edge = 1_000_000; overlap = 0; scale = None }

poster_margins : tile_room poster ≡ record halves.room { gutter_across = 0; gutter_up = 0 }
poster_margins = refl

-- cards have one scale, if that is asked for
cards_have_one : (papers : List Paper) (row : Row) → at_common_scale true (laying.InCells halves (scheme.Cards 2)) papers row
    ≡ laying.InCells (at_one_scale (filling halves papers) row) (scheme.Cards 2)
cards_have_one papers row = refl

-- with 20 points at the inner edge and 10 at the outer one a page that begins 20 points from the left of fronts begins 10 from
-- the left of backs
abbrev bound : Room
bound = record halves.room { left = 2_000_000 }

abbrev side : MadeSheet
side = record {
  paper = bound.paper;
  slots = Placed 0 (record { page = 0; from_end = false; turn = Upright; scale = pos 1_000_000_000; x = in_points (pos 2_000_000); y = in_points (pos 0) }) (points 70 200)
      ∷ Blank ∷ [];
}

abbrev across : MadeSlot → ℤ
across Blank = pos 0
across (Placed page item paper) = item.x.number

backs_are_moved : map (λ (sheet : MadeSheet). map across sheet.slots) (swapped (Some bound) (side ∷ side ∷ side ∷ []))
    ≡ (pos 20_000_000_000 ∷ pos 0 ∷ []) ∷ (pos 10_000_000_000 ∷ pos 0 ∷ []) ∷ (pos 20_000_000_000 ∷ pos 0 ∷ []) ∷ []
backs_are_moved = refl

-- each page has its own turn
abbrev placed : (page : ℕ) → MadeSlot
placed page = Placed page (record { page = page; from_end = false; turn = Upright; scale = pos 1_000_000_000; x = in_points (pos 0); y = in_points (pos 0) }) (points 70 200)

abbrev turn_in : MadeSlot → Turn
turn_in Blank = Upright
turn_in (Placed page item paper) = item.turn

each_has_its_turn : map turn_in (map (turned_slot (turn_on (by.None ∷ by.Left ∷ by.Half ∷ []))) (placed 1 ∷ placed 0 ∷ placed 3 ∷ placed 2 ∷ []))
    ≡ Left ∷ Upright ∷ Upright ∷ Half ∷ []
each_has_its_turn = refl

-- the foot of a cell that is 180 points high is 90 points below the middle of its page
foot_of_cell : below_middle (laying.InCells halves (scheme.Grid 2)) ≡ Some (pos 11_430_000_000_000)
foot_of_cell = refl

-- signatures of eight sides have two leaves each
eight_sides : leaves_in (Some (OfSides 8)) (all_pages 20) ≡ 2
eight_sides = refl

-- the number of pages that a document says
told : declared_page_count (codes "%!\n%%Pages: 4 1\n%%EndComments\n%%Pages: 5\n") ≡ Some 4
told = refl

told_by_no_number : map declared_page_count (codes "%!\n" ∷ codes "%!\n%%Pages:\n" ∷ codes "%!\n%%Pages: -1\n" ∷ codes "%!\n%%Pages: 4x\n" ∷ codes "%!\n\n%%Pages: 4\n" ∷ []) ≡ None ∷ None ∷ None ∷ None ∷ None ∷ []
told_by_no_number = refl
