-- How the pages of the sheets that are asked for lie.
use Rattle.std.specs.Prelude.{◌≡◌, ⊤, List, [], ◌∷◌, All}
use Rattle.rules.specs.Papers.{Paper}
use Rattle.rules.specs.Made.{MadeSlot, Blank, Placed, MadeSheet}
use Rattle.layouts.specs.Placed.{bare}
use Rattle.row_sheets.specs.RowSheets.{as_it_is}
use Rattle.row_sheets.specs.Schemes.{StandBy}
use Rattle.row_sheets.specs.Standing.{StandsInRoom}
use Rattle.row_runs.specs.declared.sheet_request.Laying.{Laying}
use Rattle.row_runs.specs.declared.sheet_request.Laying.TheVariants as laying

-- a page as it is, on a sheet of this paper
abbrev pub SlotIsAsItIs : (sheet : Paper) → MadeSlot → Type 0
SlotIsAsItIs sheet Blank = ⊤
SlotIsAsItIs sheet (Placed page item paper) = (item ≡ as_it_is) × (paper ≡ sheet)

-- a sheet with one page, which is as it is and on a sheet of its own paper, or with a blank. So no point of the page lies
-- outside of the sheet
pub record HoldsOnePage (sheet : MadeSheet) : Type 0 where
  pub slot : MadeSlot
  pub alone : sheet.slots ≡ slot ∷ []
  pub is_as_it_is : SlotIsAsItIs sheet.paper slot
  pub stands : StandsInRoom (bare sheet.paper) sheet

-- the sheets of a laying: in cells they stand by their scheme; a page that is left as it is lies alone. Other laws say
-- what is on a poster's tiles; a specification itself says where its pages are
abbrev pub StandAsLaid : Laying → List MadeSheet → Type 0
StandAsLaid (laying.AsTheyAre blank) made = All HoldsOnePage made
StandAsLaid (laying.InCells t how) made = StandBy how t made
StandAsLaid (laying.Poster poster) made = ⊤
StandAsLaid (laying.BySpec spec sheet page) made = ⊤
