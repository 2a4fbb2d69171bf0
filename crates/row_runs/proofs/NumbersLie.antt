-- The number of each page stands at the foot of the page's cell.
use Rattle.std.proofs.Common.{◌≡◌, ◌∙◌, ℕ, Bool, true, false, true≢false, Some, None, ap, refl, subst, sym}
use Rattle.std.specs.Prelude.{pos, ◌*◌, ◌&&◌, ◌==◌, is_none, not}
use Rattle.std.proofs.lemmas.Bool.{cond-false, cond-true}
use Rattle.rules.specs.Papers.{Paper}
use Rattle.rules.specs.Specification.{Item, Upright}
use Rattle.layouts.specs.declared.setting.Setting.{Setting}
use Rattle.layouts.specs.Cells.{Grid, column_of, high, item_in_cell, row_of, size, turn_in}
use Rattle.layouts.specs.Fitted.{fitted, is_whole, scale_on}
use Rattle.layouts.specs.Grids.{page_alone, has_bare_edges, is_same}
use Rattle.layouts.specs.Laws.{cell_at}
use Rattle.layouts.specs.Placed.{Room}
use Rattle.layouts.proofs.Fitting.{fitted_stands}
use Rattle.row_sheets.specs.Creep.{AreHalves, creeping}
use Rattle.row_sheets.specs.Halves.{creeping_half, side_turn}
use Rattle.row_sheets.proofs.Halves.{slot_lies}
use Rattle.dressing.specs.AtFoot.{IsAtFoot, high_as_held, number_point}
use Rattle.dressing.proofs.AtFoot.{numbers_are_at_foot}
use Rattle.row_runs.specs.NumbersLie.{NumbersInCells, NumbersInHalves}
use Rattle.row_runs.proofs.InHalves.{page_is_whole}

-- a page in a cell is turned as the grid is, also one that is left as it is
second : (x y : Bool) → (x && y) ≡ true → y ≡ true
second true y e = e
second false y e = absurd (true≢false (sym e))

upright_if : (b : Bool) → not b ≡ true → turn_in (record { rows = 1; columns = 1; turned = b }) ≡ Upright
upright_if true e = absurd (true≢false (sym e))
upright_if false e = refl

turn_is : (b : Bool) (t : Setting) (page : Paper) (c : ℕ) → is_whole t page ≡ b → (fitted t page c).turn ≡ turn_in t.grid
turn_is true t page c e =
    ap (λ (i : Item). i.turn) (cond-true (is_whole t page) (page_alone c) (item_in_cell page t.room t.grid t.order (scale_on t page) c) e)
    ∙ sym (upright_if t.grid.turned (second (((size t.grid == 1) && is_same page t.room.paper) && has_bare_edges t.room && is_none t.scale) (not t.grid.turned) e))
turn_is false t page c e = ap (λ (i : Item). i.turn) (cond-false (is_whole t page) (page_alone c) (item_in_cell page t.room t.grid t.order (scale_on t page) c) e)

-- a cell is as high as it is held
high_is : (room : Room) (rows columns : ℕ) (b : Bool) (row column : ℕ) → (let g : Grid = record { rows = rows; columns = columns; turned = b } in
    high_as_held (turn_in g) (cell_at room g row column) ≡ high room g)
high_is room rows columns true row column = refl
high_is room rows columns false row column = refl

pub numbers_in_cells : NumbersInCells
numbers_in_cells f cells c None within has = tt
numbers_in_cells f cells c (Some page) within has =
    let t = f.setting in
    let paper = f.paper_of page in
    let row = row_of t.order t.grid c in
    let column = column_of t.order t.grid c in
    let cell = cell_at t.room t.grid row column in
    let at = fitted_stands t paper c has.page_is has.sheet_is within has.fits in
    subst (λ n. IsAtFoot (turn_in t.grid) cell (number_point (Some (pos (635_000 * n))) paper (fitted t paper c))) (high_is t.room t.grid.rows t.grid.columns t.grid.turned row column)
    (numbers_are_at_foot (turn_in t.grid) paper cell (fitted t paper c) at.scale has.page_is (turn_is (is_whole t paper) t paper c refl) at.scale_is at.middle)

-- and so is a half, whose pages are turned by a quarter
wide_is : (room : Room) (rows columns : ℕ) (b : Bool) (row column : ℕ) → b ≡ true → (let g : Grid = record { rows = rows; columns = columns; turned = b } in
    (cell_at room g row column).width ≡ high room g)
wide_is room rows columns true row column e = refl
wide_is room rows columns false row column e = absurd (true≢false (sym e))

half_high : (t : Setting) (by_half : Bool) (k creep : ℕ) → AreHalves t → high_as_held (side_turn by_half) (creeping_half t by_half k creep) ≡ high t.room t.grid
half_high t true k creep halved = wide_is t.room t.grid.rows t.grid.columns t.grid.turned (row_of t.order t.grid k) (column_of t.order t.grid k) (ap (λ (g : Grid). g.turned) halved.grid_is)
half_high t false k creep halved = wide_is t.room t.grid.rows t.grid.columns t.grid.turned (row_of t.order t.grid k) (column_of t.order t.grid k) (ap (λ (g : Grid). g.turned) halved.grid_is)

pub numbers_in_halves : NumbersInHalves
numbers_in_halves f turned_backs by_half k creep None less halved has = tt
numbers_in_halves f turned_backs by_half k creep (Some page) less halved has =
    let t = f.setting in
    let paper = f.paper_of page in
    let lies = slot_lies f by_half k creep (Some page) less halved has in
    let is = page_is_whole f by_half k creep page halved has in
    let half = creeping_half t by_half k creep in
    let item = creeping t by_half paper k creep in
    subst (λ n. IsAtFoot (side_turn by_half) half (number_point (Some (pos (635_000 * n))) paper item)) (half_high t by_half k creep halved)
    (numbers_are_at_foot (side_turn by_half) paper half item is.scale is.sides lies.turn is.scale_is lies.middle)
