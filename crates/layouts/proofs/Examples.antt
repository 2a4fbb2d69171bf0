-- Worked examples.
use Rattle.std.proofs.Common.{◌≡◌, [], ◌∷◌, refl, map}
use Rattle.std.specs.Prelude.{codes, ◌+◌, ℕ, pos, negsuc, Bool, true, false, None, Some}
use Rattle.std.specs.List.{range_with_len}
use Rattle.std.specs.Fmt.{digits}
use Rattle.rules.specs.Papers.{Paper, points}
use Rattle.rules.specs.Specification.{Spec, canonical}
use Rattle.layouts.specs.declared.arrangement.Arrangement.{Arrangement}
use Rattle.layouts.specs.declared.arrangement.Binding.{Binding}
use Rattle.layouts.specs.declared.arrangement.Cells.{Cells}
use Rattle.layouts.specs.declared.arrangement.Cells.TheVariants.{AtLeast, Exactly}
use Rattle.layouts.specs.declared.arrangement.FillOrder.TheVariants.{Rows, Columns}
use Rattle.layouts.specs.declared.arrangement.Turned.TheVariants as sideways
use Rattle.layouts.specs.declared.arrangement.Order.{Order}
use Rattle.layouts.specs.declared.error.ArrangementError.TheVariants as why
use Rattle.layouts.specs.declared.setting.Setting.{Setting}
use Rattle.layouts.specs.Placed.{Room, bare}
use Rattle.layouts.specs.Cells.{along_width, cells_across, gap_at}
use Rattle.layouts.specs.Laws.{cell_at}
use Rattle.layouts.specs.Fitted.{binding_setting_of, fitted, fitted_back, setting_of}
use Rattle.layouts.specs.Grids.{cells_per_sheet, nothing_free, plain, plain_binding, plain_order}
use Rattle.layouts.specs.Refusals.{is_count, is_scale_in_range, is_length, leaves_room, why_no_scale, why_not_bound}

-- the specification of pages of one paper in the cells of an arrangement, and in the halves of leaves
abbrev arranged : (page sheet : Paper) → Arrangement → Spec
arranged page sheet a = record {
  modulo = cells_per_sheet a.cells;
  groups = map (fitted (setting_of page sheet a) page) (range_with_len 0 (cells_per_sheet a.cells)) ∷ [];
}

abbrev halves : Setting → (page : Paper) → (long_edge : Bool) → Spec
halves t page false = record { modulo = 2; groups = map (fitted t page) (range_with_len 0 2) ∷ [] }
halves t page true = record {
  modulo = 4;
  groups = map (fitted t page) (range_with_len 0 2)
      ∷ map (λ k. record (fitted_back t page k) { page = 2 + k }) (range_with_len 0 2) ∷ [];
}

abbrev bound : (page sheet : Paper) → Binding → Spec
bound page sheet b = halves (binding_setting_of sheet b) page b.long_edge

more_than_twice_as_high : why_not_bound (points 100 201) (points 100 201) (plain_binding false) ≡ Some why.FoldOnLongEdge
more_than_twice_as_high = refl

wider_than_high : why_not_bound (points 842 595) (points 842 595) (plain_binding false) ≡ Some why.FoldOnLongEdge
wider_than_high = refl

-- a square folds as well one way as the other
square : why_not_bound (points 100 100) (points 100 100) (plain_binding false) ≡ None
square = refl

-- the backs of a booklet are turned by half, about the middle of the sheet
backs_text : canonical (bound (points 595 842) (points 595 842) (plain_binding true)) ≡ codes "4:0L@.706650831(595,.27137)+1L@.706650831(595,421.27137),2R@.706650831(0,841.72863)+3R@.706650831(0,420.72863)"
unfolding digits
backs_text = refl

wider_sheet_text : canonical (arranged (points 595 842) (points 597 842) (plain (AtLeast 1))) ≡ codes "0(1,0)"
unfolding digits
wider_sheet_text = refl

-- what is asked for

a4 : Paper
a4 = points 595 842

four : Order → Arrangement
four order = record { cells = AtLeast 4; free = nothing_free; order = order; scale = None }

by_columns : canonical (arranged a4 a4 (four (record { run = Columns; right_to_left = false; turned = sideways.Upright }))) ≡ codes "4:0@.5(0,421)+1@.5+2@.5(297.5,421)+3@.5(297.5,0)"
unfolding digits a4 four
by_columns = refl

from_the_right : canonical (arranged a4 a4 (four (record { run = Rows; right_to_left = true; turned = sideways.Upright }))) ≡ codes "4:0@.5(297.5,421)+1@.5(0,421)+2@.5(297.5,0)+3@.5"
unfolding digits a4 four
from_the_right = refl

-- what stands on the pages is read if the sheet is turned to the left: its first row is the last column
read_to_the_left : canonical (arranged a4 a4 (four (record { run = Rows; right_to_left = false; turned = sideways.Left }))) ≡ codes "4:0@.5(297.5,421)+1@.5(297.5,0)+2@.5(0,421)+3@.5"
unfolding digits a4 four
read_to_the_left = refl

read_to_the_right : canonical (arranged a4 a4 (four (record { run = Rows; right_to_left = false; turned = sideways.Right }))) ≡ codes "4:0@.5+1@.5(0,421)+2@.5(297.5,0)+3@.5(297.5,421)"
unfolding digits a4 four
read_to_the_right = refl

-- leaves whose pages have the scale that is asked for, each in the middle of its half
half_as_large : canonical (bound a4 a4 (record (plain_binding true) { scale = Some (pos 500_000_000) })) ≡ codes "4:0L@.5(508,61.75)+1L@.5(508,482.75),2R@.5(87,780.25)+3R@.5(87,359.25)"
unfolding digits a4
half_as_large = refl

-- 10, 20, 30 and 40 pt at the left, the right, the foot and the head, and 6 and 8 pt between cells side by side and one above
-- another; on a sheet that is held turned too
each_edge : Cells → Arrangement
each_edge cells = record {
  cells = cells;
  free = record {
    left = pos 1_270_000_000_000;
    right = pos 2_540_000_000_000;
    bottom = pos 3_810_000_000_000;
    top = pos 5_080_000_000_000;
    across = pos 762_000_000_000;
    up = pos 1_016_000_000_000;
    trim = pos 0;
  };
  order = plain_order;
  scale = None;
}

edges_text : canonical (arranged (points 100 100) (points 236 386) (each_edge (Exactly 2 3))) ≡ codes "6:0(10,246)+1(116,246)+2(10,138)+3(116,138)+4(10,30)+5(116,30)"
unfolding digits each_edge
edges_text = refl

turned_edges_text : canonical (arranged (points 200 100) (points 236 478) (each_edge (Exactly 2 1))) ≡ codes "2:0L(163,30)+1L(163,238)"
unfolding digits each_edge
turned_edges_text = refl

longest_length : is_length (pos 12_699_999_999_999_999) ≡ true
longest_length = refl

-- margins of half the width leave nothing of it, whatever the pages are; 10^-5 of a point less do, and so does what is no length
rooms : map (λ margin. leaves_room a4 (record nothing_free { left = margin; right = margin })) (pos 37_782_500_000_000 ∷ pos 37_782_498_730_000 ∷ negsuc 0 ∷ [])
    ≡ false ∷ true ∷ true ∷ []
unfolding a4
rooms = refl

-- a scale that no layout has is told as such, though it is larger than the cells too
no_scale_and_larger_than_cells : why_no_scale (bare (points 595 842)) 99_999_000_000_001 500_000_000 ≡ Some why.ScaleOutOfRange
no_scale_and_larger_than_cells = refl

one_page_more : is_count 1_025 ≡ false
one_page_more = refl

least_scale : is_scale_in_range 1 ≡ true
least_scale = refl

greatest_scale : is_scale_in_range 99_999_000_000_000 ≡ true
greatest_scale = refl

scale_past_greatest : is_scale_in_range 99_999_000_000_001 ≡ false
scale_past_greatest = refl

-- a sheet of 100 by 200 points with margins of 10 points and gaps of 4, of whose pages so much is trimmed
abbrev with_gaps : (trim : ℕ) → Room
with_gaps trim = record {
  paper = points 100 200;
  left = 1_000_000;
  right = 1_000_000;
  bottom = 1_000_000;
  top = 1_000_000;
  gutter_across = 400_000;
  gutter_up = 400_000;
  trim = trim;
}

-- in two columns the gap between them is in the middle of the sheet, and half a gap outside of them there are 8 points to its edges
gaps_are_in_the_middle : map (gap_at (along_width (with_gaps 0)) 12_700_000_000_000 2) (0 ∷ 1 ∷ 2 ∷ [])
    ≡ 1_016_000_000_000 ∷ 6_350_000_000_000 ∷ 11_684_000_000_000 ∷ []
gaps_are_in_the_middle = refl

-- if pages are trimmed, margins and gaps are kept with 10^-5 of a point more
trimmed_gap : gap_at (along_width (with_gaps 1)) 12_700_000_000_000 2 1 ≡ 6_349_999_365_000
trimmed_gap = refl

-- the second cell of the first row: on the right, or above the other one if the sheet is held on its side
second_cells : map (λ turned. cell_at (with_gaps 0) (record { rows = 1; columns = 2; turned = turned }) 0 1) (false ∷ true ∷ [])
    ≡ record { left = 5_200_000; bottom = 1_000_000; width = 3_800_000; height = 18_000_000 }
    ∷ record { left = 1_000_000; bottom = 10_200_000; width = 8_000_000; height = 8_800_000 }
    ∷ []
second_cells = refl

-- such a grid has two cells side by side, or one above the other
cells_as_the_sheet_lies : map (λ turned. cells_across (record { rows = 1; columns = 2; turned = turned })) (false ∷ true ∷ []) ≡ 2 ∷ 1 ∷ []
cells_as_the_sheet_lies = refl
