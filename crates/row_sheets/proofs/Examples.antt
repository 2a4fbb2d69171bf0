-- Worked examples.
use Rattle.std.proofs.Common.{◌≡◌, refl}
use Rattle.std.specs.Prelude.{ℕ, ◌+◌, ◌*◌, ℤ, pos, false, map, [], ◌∷◌, Option, Some, None}
use Rattle.std.specs.List.{range_with_len}
use Rattle.layouts.specs.declared.arrangement.FillOrder.TheVariants.{Rows, Columns}
use Rattle.layouts.specs.Grids.{leaf_order}
use Rattle.layouts.specs.Placed.{bare}
use Rattle.layouts.specs.declared.setting.Setting.{Setting}
use Rattle.rules.specs.Made.{MadeSlot, Blank, Placed}
use Rattle.row_sheets.specs.Filled.{Filling, cell_behind, zine_slot}
use Rattle.row_sheets.specs.Zine.{in_hand, zine_grid}
use Rattle.row_sheets.specs.Creep.{creep_of}
use Rattle.rules.specs.Papers.{points}
use Rattle.rules.specs.Specification.{Turn, Half, Upright}

-- which cell is behind one, if cells are filled row by row
abbrev behind_cell : (rows columns cell : ℕ) → ℕ
behind_cell rows columns cell = cell_behind Rows rows columns cell

-- behind the first cell of two rows and three columns is the last one of its row
behind_rows : map (behind_cell 2 3) (range_with_len 0 6) ≡ 2 ∷ 1 ∷ 0 ∷ 5 ∷ 4 ∷ 3 ∷ []
behind_rows = refl

behind_columns : map (cell_behind Columns 2 3) (range_with_len 0 6) ≡ 4 ∷ 5 ∷ 2 ∷ 3 ∷ 0 ∷ 1 ∷ []
behind_columns = refl

-- five leaves that creep by 3 mm in all, rounded down to whole 10^-5 pt
creep : map (creep_of 850_393 5) (range_with_len 0 5) ≡ 0 ∷ 212_598 ∷ 425_196 ∷ 637_794 ∷ 850_393 ∷ []
creep = refl

one_leaf : creep_of 850_393 1 0 ≡ 0
one_leaf = refl

-- folded and cut, one reads from the right of the lower row to that of the upper one, along that, and along the lower one
zine_in_hand : map (λ p. p.row * 4 + p.column) in_hand ≡ 7 ∷ 3 ∷ 2 ∷ 1 ∷ 0 ∷ 4 ∷ 5 ∷ 6 ∷ []
zine_in_hand = refl

-- on a sheet of 400 by 200 points, without margins, pages of 100 by 100 points are as large as the cells. The upper row is upside
-- down: the page of its first cell is turned by half about its upper right corner, which is 100 points from the left
abbrev zine_cells : Setting
zine_cells = record { room = bare (points 400 200); grid = zine_grid false; order = leaf_order false; scale = None }

abbrev squares : Filling
squares = record { setting = zine_cells; paper_of = λ page. points 100 100 }

abbrev turn_on : MadeSlot → Option (Turn × ℤ × ℤ)
turn_on Blank = None
turn_on (Placed page item paper) = Some (item.turn, item.x.number, item.y.number)

upside_down : map (λ c. turn_on (zine_slot squares c (Some 0))) (range_with_len 0 8)
    ≡ Some (Half, pos 100_000_000_000, pos 200_000_000_000) ∷ Some (Half, pos 200_000_000_000, pos 200_000_000_000)
    ∷ Some (Half, pos 300_000_000_000, pos 200_000_000_000) ∷ Some (Half, pos 400_000_000_000, pos 200_000_000_000)
    ∷ Some (Upright, pos 0, pos 0) ∷ Some (Upright, pos 100_000_000_000, pos 0)
    ∷ Some (Upright, pos 200_000_000_000, pos 0) ∷ Some (Upright, pos 300_000_000_000, pos 0) ∷ []
upside_down = refl
