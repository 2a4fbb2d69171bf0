-- The marks on the sheets of a laying.
use Rattle.std.specs.Prelude.{Bool, if◌then◌else◌, List, [], ◌++◌}
use Rattle.layouts.specs.Cells.{Grid}
use Rattle.layouts.specs.Placed.{Room, bare}
use Rattle.layouts.specs.declared.setting.Setting.{Setting}
use Rattle.row_sheets.specs.declared.poster.Poster.{Poster}
use Rattle.dressing.specs.Strokes.{cut_marks, fold_marks, outer_cut_marks, tile_marks}
use Rattle.dressing.specs.Ruled.{note_lines}
use Rattle.dressing.specs.declared.strokes.Marks.{Marks}
use Rattle.dressing.specs.declared.strokes.Stroke.{Stroke}
use Rattle.row_runs.specs.Readings.{tiles_in}
use Rattle.row_runs.specs.declared.sheet_request.Laying.{Laying}
use Rattle.row_runs.specs.declared.sheet_request.Laying.TheVariants as laying
use Rattle.row_sheets.specs.declared.fill.Scheme.TheVariants as scheme

-- these strokes by the cells of a sheet, if they are asked for
abbrev pub if_asked : Bool → (strokes : Room → Grid → List Stroke) → Setting → List Stroke
if_asked asked strokes setting = if asked then strokes setting.room setting.grid else []

-- a sheet of a poster, with its margins
abbrev pub tile_room : Poster → Room
tile_room p = record (bare p.sheet) { left = p.edge; right = p.edge; bottom = p.edge; top = p.edge }

-- the strokes on each sheet of a laying, of the marks that are asked for: booklets are folded between their halves, and
-- cut round them; posters are cut round their tiles; other sheets are cut between their cells; pages as they are, zines and specifications have
-- no marks. Lines for notes are on sheets whose cells are filled in turn (RULES, 15)
abbrev pub strokes_in : Marks → Laying → List Stroke
strokes_in marks (laying.InCells t (scheme.Grid cells)) = if_asked marks.cut cut_marks t ++ if_asked marks.ruled note_lines t
strokes_in marks (laying.InCells t (scheme.Booklet turned_backs creep)) = if_asked marks.fold fold_marks t ++ if_asked marks.cut outer_cut_marks t
strokes_in marks (laying.InCells t scheme.Zine) = []
strokes_in marks (laying.InCells t other) = if_asked marks.cut cut_marks t
strokes_in marks (laying.Poster p) = if marks.cut then tile_marks (tile_room p) (tiles_in p) p.overlap else []
strokes_in marks other = []
