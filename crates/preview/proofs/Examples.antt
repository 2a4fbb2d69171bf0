-- Sheets as they are listed, worked out.
use Rattle.std.proofs.Common.{◌≡◌, List, [], ◌∷◌, true, false, refl}
use Rattle.std.specs.Prelude.{codes, pos}
use Rattle.std.specs.Fmt.{digits}
use Rattle.rules.specs.Papers.{Paper, Pt, points}
use Rattle.rules.specs.Specification.{Item, Left}
use Rattle.rules.specs.Made.{MadeSlot, Placed}
use Rattle.layouts.specs.Cells.{Grid}
use Rattle.layouts.specs.declared.arrangement.FillOrder.TheVariants.{Rows, Columns}
use Rattle.layouts.specs.declared.arrangement.Turned.TheVariants as sideways
use Rattle.preview.specs.Listing.{cells_text}

abbrev a4 : Paper
a4 = points 595 842

-- a page that is turned to the left, on the lower half of a sheet
abbrev lower : Item
lower = record {
  page = 0;
  from_end = false;
  turn = Left;
  scale = pos 706_650_831;
  x = record { number = pos 595_000_000_000; unit = Pt };
  y = record { number = pos 271_370_000; unit = Pt };
}

-- ---- five places in the six cells of three columns and two rows

abbrev six : Grid
six = record { rows = 2; columns = 3; turned = false }

abbrev five : List MadeSlot
five = Placed 0 lower a4 ∷ Placed 1 lower a4 ∷ Placed 2 lower a4 ∷ Placed 3 lower a4 ∷ Placed 4 lower a4 ∷ []

from_the_right : cells_text five (record { run = Rows; right_to_left = true; turned = sideways.Upright }) six ≡ codes "3 | 2 | 1 / - | 5 | 4"
unfolding digits
from_the_right = refl

in_columns : cells_text five (record { run = Columns; right_to_left = false; turned = sideways.Upright }) six ≡ codes "1 | 3 | 5 / 2 | 4 | -"
unfolding digits
in_columns = refl

-- read when it is turned to the left, the sheet has two columns and three rows
on_its_side : cells_text five (record { run = Rows; right_to_left = false; turned = sideways.Left }) six ≡ codes "5 | 3 | 1 / - | 4 | 2"
unfolding digits
on_its_side = refl
