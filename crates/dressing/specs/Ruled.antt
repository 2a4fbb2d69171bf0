-- Lines for notes: pages are in the first columns of a sheet's cells, and beside them, in the last one, are lines to write on.
use Rattle.std.specs.Prelude.{ℕ, ◌+◌, ◌-◌, ◌*◌, ◌/◌, pos, Bool, true, false, List, map, flat_map}
use Rattle.std.specs.List.{range_with_len}
use Rattle.layouts.specs.Placed.{Room}
use Rattle.layouts.specs.Cells.{Grid, high, grains_in}
use Rattle.layouts.specs.Laws.{Cell, cell_at}
use Rattle.dressing.specs.declared.strokes.Stroke.{Stroke}

-- lines are 24 points apart; in 10^-5 of a point (RULES, 15)
abbrev pub line_step : ℕ
line_step = 2_400_000

-- the cell for notes in a row of cells: its last one
abbrev pub note_cell : Room → Grid → (row : ℕ) → Cell
note_cell room g row = cell_at room g row (g.columns - 1)

-- a line through a cell, from its left to its right side, so far below its upper one, as one reads the sheet: if it lies on
-- its side, its left edge is read as its upper one
abbrev pub line_below : (turned : Bool) → Cell → (depth : ℕ) → Stroke
line_below false cell depth = record {
  start = (pos (grains_in cell.left), pos (grains_in (cell.bottom + cell.height - depth)));
  end = (pos (grains_in (cell.left + cell.width)), pos (grains_in (cell.bottom + cell.height - depth)));
}
line_below true cell depth = record {
  start = (pos (grains_in (cell.left + depth)), pos (grains_in cell.bottom));
  end = (pos (grains_in (cell.left + depth)), pos (grains_in (cell.bottom + cell.height)));
}

-- as many as lie in a cell, without its lower side
abbrev pub line_count : Room → Grid → ℕ
line_count room g = (high room g - 1) / line_step

-- line k of a row's cell, counted from 1 at its upper side
abbrev pub note_line : Room → Grid → (row k : ℕ) → Stroke
note_line room g row k = line_below g.turned (note_cell room g row) (k * line_step)

abbrev pub row_lines : Room → Grid → (row : ℕ) → List Stroke
row_lines room g row = map (note_line room g row) (range_with_len 1 (line_count room g))

-- the lines of all rows
abbrev pub note_lines : Room → Grid → List Stroke
note_lines room g = flat_map (row_lines room g) (range_with_len 0 g.rows)
