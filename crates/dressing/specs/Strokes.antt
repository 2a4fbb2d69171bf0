-- Which strokes mark where a sheet is cut or folded: short ones along each such line, at both of its ends.
use Rattle.std.specs.Prelude.{ℕ, ◌+◌, ◌-◌, ◌*◌, ◌==◌, min, nat_le, nat_lt, nat_abs, ℤ, pos, ◌-ℤ◌, not, Bool, false, ◌&&◌, if◌then◌else◌}
use Rattle.std.specs.Prelude.{List, [], ◌∷◌, ◌++◌, flat_map}
use Rattle.std.specs.List.{range_with_len}
use Rattle.layouts.specs.Placed.{Room}
use Rattle.layouts.specs.Cells.{Grid, along_height, along_width, cells_across, cells_up, gap_at, grains_in}
use Rattle.layouts.specs.Laws.{Cell, cell_at}
use Rattle.dressing.specs.declared.strokes.Stroke.{Stroke}

-- the longest stroke has 18 points; in 10^-5 of a point (RULES, 15)
abbrev pub longest : ℕ
longest = 1_800_000

-- how far from an edge of the sheet strokes end, in grains: where its margin ends, if there is one
abbrev pub far_end : (edge : ℕ) → ℕ
far_end edge = grains_in (if edge == 0 then longest else edge)

-- where strokes at the near edge begin: they are as long as the margin is wide, but no longer than the longest
abbrev pub near_end : (edge : ℕ) → ℕ
near_end edge = far_end edge - grains_in longest

-- at both ends of a line, of which each point is so far along a side of the sheet
abbrev pub both_ends : (point : ℤ → ℤ × ℤ) → (first last : ℕ) → (side : ℤ) → List Stroke
both_ends point first last side =
    record { start = point (pos (near_end first)); end = point (pos (far_end first)) }
    ∷ record { start = point (side -ℤ pos (near_end last)); end = point (side -ℤ pos (far_end last)) } ∷ []

-- along a line that is so far from the left edge, or so far from the lower one
abbrev pub upright_strokes : Room → (x : ℤ) → List Stroke
upright_strokes room x = both_ends (λ y. (x, y)) room.bottom room.top room.paper.height

abbrev pub level_strokes : Room → (y : ℤ) → List Stroke
level_strokes room y = both_ends (λ x. (x, y)) room.left room.right room.paper.width

-- along the line before cell k of so many side by side, or one above another
abbrev pub upright_at : Room → (parts k : ℕ) → List Stroke
upright_at room parts k = upright_strokes room (pos (gap_at (along_width room) (nat_abs room.paper.width) parts k))

abbrev pub level_at : Room → (parts k : ℕ) → List Stroke
level_at room parts k = level_strokes room (pos (gap_at (along_height room) (nat_abs room.paper.height) parts k))

-- between all cells
abbrev pub upright_between : Room → (parts : ℕ) → List Stroke
upright_between room parts = flat_map (upright_at room parts) (range_with_len 1 (parts - 1))

abbrev pub level_between : Room → (parts : ℕ) → List Stroke
level_between room parts = flat_map (level_at room parts) (range_with_len 1 (parts - 1))

abbrev pub marks_between : Room → Grid → List Stroke
marks_between room g = upright_between room (cells_across g) ++ level_between room (cells_up g)

-- marks round all cells, as far from them as the middle of a gap
abbrev pub marks_round : Room → Grid → List Stroke
marks_round room g =
    (upright_at room (cells_across g) 0 ++ upright_at room (cells_across g) (cells_across g))
    ++ (level_at room (cells_up g) 0 ++ level_at room (cells_up g) (cells_up g))

-- there is a margin, and it has room for half a gap
abbrev pub has_half_gap : (edge gap : ℕ) → Bool
has_half_gap edge gap = not (edge == 0) && nat_le gap (2 * edge)

-- along all edges
abbrev pub has_room_round : Room → Bool
has_room_round room =
    (has_half_gap room.left room.gutter_across && has_half_gap room.right room.gutter_across)
    && (has_half_gap room.bottom room.gutter_up && has_half_gap room.top room.gutter_up)

-- a sheet is folded between its cells
abbrev pub fold_marks : Room → Grid → List Stroke
fold_marks room g = marks_between room g

-- one that is folded there is cut round its cells alone, if the margins have room for it
abbrev pub outer_cut_marks : Room → Grid → List Stroke
outer_cut_marks room g = if has_room_round room then marks_round room g else []

-- marks round all cells, and between them
abbrev pub cut_marks : Room → Grid → List Stroke
cut_marks room g = marks_between room g ++ outer_cut_marks room g

-- ---- posters: the tile is the only cell of its sheet

abbrev pub one_cell : Grid
one_cell = record { rows = 1; columns = 1; turned = false }

abbrev pub tile_of : Room → Cell
tile_of room = cell_at room one_cell 0 0

-- along the lines that are an overlap inside a tile that begins here and is so long, if it has neighbours
abbrev pub overlaps_at : (strokes : ℤ → List Stroke) → (begin long tiles overlap : ℕ) → List Stroke
overlaps_at strokes begin long tiles overlap =
    if nat_lt 1 tiles && nat_lt 0 overlap
    then strokes (pos (grains_in (begin + min overlap long))) ++ strokes (pos (grains_in (begin + (long - overlap)))) else []

-- along the lines where the tiles of the neighbours at the left and at the right end: an overlap inside the tile
abbrev pub overlaps_beside : Room → (columns overlap : ℕ) → List Stroke
overlaps_beside room = let tile = tile_of room in overlaps_at (upright_strokes room) tile.left tile.width

-- where those of the neighbours below and above end
abbrev pub overlaps_above : Room → (rows overlap : ℕ) → List Stroke
overlaps_above room = let tile = tile_of room in overlaps_at (level_strokes room) tile.bottom tile.height

-- the marks on each sheet of a poster: round its tile, where it is cut, and where the tiles of its neighbours end
abbrev pub tile_marks : Room → (tiles : Grid) → (overlap : ℕ) → List Stroke
tile_marks room tiles overlap =
    outer_cut_marks room one_cell ++ (overlaps_beside room tiles.columns overlap ++ overlaps_above room tiles.rows overlap)
