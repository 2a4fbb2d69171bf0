-- Worked examples: on which edge sheets are flipped, and how they are cut.
use Rattle.std.proofs.Common.{◌≡◌, [], ◌∷◌, Bool, false, true, map, refl}
use Rattle.std.specs.Prelude.{None, Some, length}
use Rattle.rules.specs.Papers.{Paper, points}
use Rattle.layouts.specs.Grids.{plain_order}
use Rattle.layouts.specs.Placed.{bare}
use Rattle.layouts.specs.declared.arrangement.Turned.{Turned}
use Rattle.layouts.specs.declared.arrangement.Turned.TheVariants as sideways
use Rattle.layouts.specs.declared.setting.Setting.{Setting}
use Rattle.dressing.specs.declared.strokes.Marks.{Marks}
use Rattle.preview.specs.declared.naming.Edge.TheVariants.{Short, Long}
use Rattle.preview.specs.declared.naming.Sides.{Sides}
use Rattle.preview.specs.declared.naming.Sides.TheVariants as sides
use Rattle.row_runs.specs.Marked.{strokes_in}
use Rattle.row_runs.specs.Readings.{sides_by}
use Rattle.row_runs.specs.declared.sheet_request.Laying.TheVariants as laying
use Rattle.row_sheets.specs.declared.fill.Scheme.TheVariants as scheme

-- Edges.

-- two columns on a sheet without margins, whose pages are turned to the left or aren't, and whose content lies so
abbrev columns : Paper → (turned : Bool) → Turned → Setting
columns paper turned side = record {
  room = bare paper;
  grid = record { rows = 1; columns = 2; turned = turned };
  order = record plain_order { turned = side };
  scale = None;
}

abbrev leaves_of : Paper → (turned : Bool) → Turned → Sides
leaves_of paper turned side = sides_by None (laying.InCells (columns paper turned side) scheme.Leaves)

-- leaves are turned over like the page of a book, about an upright edge as one reads them: a high sheet about its long edges, a wide
-- one about its short ones, and a square one about edges that are called long
leaves_are_flipped : map (λ paper. leaves_of paper false sideways.Upright) (points 100 200 ∷ points 200 100 ∷ points 100 100 ∷ [])
    ≡ sides.Both Long ∷ sides.Both Short ∷ sides.Both Long ∷ []
leaves_are_flipped = refl

-- a high sheet that is held on its side is wide
held_on_its_side : leaves_of (points 100 200) true sideways.Upright ≡ sides.Both Short
held_on_its_side = refl

-- and so is one that is read so
read_on_its_side : map (leaves_of (points 100 200) false) (sideways.Left ∷ sideways.Right ∷ []) ≡ sides.Both Short ∷ sides.Both Short ∷ []
read_on_its_side = refl

-- a booklet's backs are turned by half for printers that flip on the long edge
booklets_are_flipped : map (λ turned_backs. sides_by None (laying.InCells (columns (points 100 200) true sideways.Upright) (scheme.Booklet turned_backs 0))) (true ∷ false ∷ [])
    ≡ sides.Both Long ∷ sides.Both Short ∷ []
booklets_are_flipped = refl

-- sheets with an inner edge are flipped about an upright edge as they lie, also if their pages lie on their side
inner_edges_are_flipped : map (λ paper. sides_by (Some (bare paper)) (laying.InCells (columns paper true sideways.Left) (scheme.Grid 2))) (points 100 200 ∷ points 200 100 ∷ points 100 100 ∷ [])
    ≡ sides.Both Long ∷ sides.Both Short ∷ sides.Both Long ∷ []
inner_edges_are_flipped = refl

-- Cuts.

abbrev all_marks : Marks
all_marks = record { fold = true; cut = true; ruled = false; numbers = None }

-- how many strokes the sheets of a scheme have, of one row and two columns without margins: two at each end of a line between cells
cut_or_folded : map (λ how. length (strokes_in all_marks (laying.InCells (columns (points 200 100) false sideways.Upright) how))) (scheme.Grid 2 ∷ scheme.Cards 2 ∷ scheme.Stack 2 ∷ scheme.Leaves ∷ scheme.Booklet false 0 ∷ scheme.Zine ∷ [])
    ≡ 2 ∷ 2 ∷ 2 ∷ 2 ∷ 2 ∷ 0 ∷ []
cut_or_folded = refl
