-- Made sheets together with the lines of their dress, as lists alone: this is what a program keeps.
use Rattle.std.specs.Prelude.{◌≡◌, ℕ, ◌+◌, ◌++◌, List, length, map, flat_map, codes, decimal, Option}
use Rattle.std.specs.List.{enumerate_from}
use Rattle.rules.specs.Bytes.{line}
use Rattle.rules.specs.Parts.{NestedUnit, pages}
use Rattle.rules.specs.Filters.{trailer_text}
use Rattle.rules.specs.Output.{Border}
use Rattle.rules.specs.Made.{MadeSheet, MadeSlot}
use Rattle.rules.specs.Dress.{Dress, lines_text}
use Rattle.rules.specs.MadeOutput.{dressed_preamble, made_output, made_slot_text}

-- a sheet's slots, and the lines at its start and at its end
pub record DressedSheet : Type 0 where
  pub start : List (List ℕ)
  pub slots : List MadeSlot
  pub finish : List (List ℕ)

abbrev pub dressed_in : Dress → (s : ℕ) → MadeSheet → DressedSheet
dressed_in dress s sheet = record { start = dress.start s sheet.paper; slots = sheet.slots; finish = dress.finish s sheet.paper }

abbrev pub dressed_sheets : Dress → List MadeSheet → List DressedSheet
dressed_sheets dress all = map (λ (s, sheet). dressed_in dress s sheet) (enumerate_from 0 all)

abbrev pub dressed_sheet_text : (border : Option Border) → List (List ℕ) → (s : ℕ) → DressedSheet → List ℕ
dressed_sheet_text border pages s sheet =
    line (codes "%%Page: " ++ decimal (s + 1) ++ codes " " ++ decimal (s + 1))
    ++ lines_text sheet.start
    ++ flat_map (made_slot_text border pages) sheet.slots
    ++ lines_text sheet.finish
    ++ line (codes "showpage")

-- the output of sheets with their lines, and of lines in the header
abbrev pub dressed_output : (border : Option Border) → (header : List (List ℕ)) → List DressedSheet → List NestedUnit → List ℕ
dressed_output border header all us =
    dressed_preamble (length all) header us
    ++ flat_map (λ (s, sheet). dressed_sheet_text border (pages us) s sheet) (enumerate_from 0 all)
    ++ trailer_text us

-- a law: it is the output of the made sheets with their dress
abbrev pub DressedIsMade : Type 0
DressedIsMade = (border : Option Border) (dress : Dress) (all : List MadeSheet) (us : List NestedUnit)
    → dressed_output border dress.header (dressed_sheets dress all) us ≡ made_output border dress all us
