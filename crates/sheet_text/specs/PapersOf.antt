-- The sheets and the header of a job.
use Rattle.std.specs.Prelude.{ℕ, List, []}
use Rattle.rules.specs.Sheets.{Plan}
use Rattle.rules.specs.Made.{made_of}
use Rattle.rules.specs.Dress.{undressed}
use Rattle.rules.specs.Dressed.{DressedSheet, dressed_sheets}
use Rattle.sheet_text.specs.Dressings.{dress_in}
use Rattle.sheet_text.specs.declared.sheet_papers.SheetPapers.{SheetPapers}
use Rattle.sheet_text.specs.declared.sheet_papers.SheetPapers.TheVariants.{One, Made}

abbrev pub sheets_on : SheetPapers → Plan → List DressedSheet
sheets_on (One paper) plan = dressed_sheets undressed (made_of paper plan.sheets)
sheets_on (Made sheets dress) plan = dressed_sheets (dress_in dress.now) sheets.now

abbrev pub header_on : SheetPapers → List (List ℕ)
header_on (One paper) = []
header_on (Made sheets dress) = dress.now.header
