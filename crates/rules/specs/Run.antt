-- Which documents and plans are taken, and the first fault of the others. The limits and the order of the checks
-- are rules of this project. A PostScript text begins with %! by DSC, General Header Comments, %!PS-Adobe.
use Rattle.std.specs.Prelude.{ℕ, ◌==◌, nat_lt, not, Bool, if◌then◌else◌, List, length, sum_by, codes, nat_eq, Option}
use Rattle.std.specs.Prelude.{Result, Ok, Err}
use Rattle.std.specs.List.{starts_with}
use Rattle.rules.specs.Specification.{Spec}
use Rattle.rules.specs.Sheets.{Slot, sheets}
use Rattle.rules.specs.Signatures.{row_len, sheets_in}
use Rattle.rules.specs.Units.{cut, FaultyBlock, ◌>>=◌}
use Rattle.rules.specs.Parts.{NestedUnit, nested, pages}

-- the limits: the most bytes of an input; the most pages of a document, and of the row of a plan; the most sheets
-- of a plan, and the most slots in all
abbrev pub most_input_bytes : ℕ
most_input_bytes = 1_073_741_824

abbrev pub most_pages : ℕ
most_pages = 1_000_000

abbrev pub most_sheets : ℕ
most_sheets = 1_000_000

abbrev pub most_places : ℕ
most_places = 4_000_000

-- why an input is refused
pub data DocumentFault : Type 0 where
  InputTooLong : DocumentFault
  NotPostScript : DocumentFault
  BadBlock : FaultyBlock → DocumentFault
  InputTooManyPages : DocumentFault
  NoPages : DocumentFault

-- a faulty block is a document's fault
abbrev pub of_block : {A : Type 0} → Result A FaultyBlock → Result A DocumentFault
of_block (Ok x) = Ok x
of_block (Err block) = Err (BadBlock block)

-- the fault if the test is met, and otherwise what follows
abbrev pub refuse_if : {A E : Type 0} → Bool → E → Result A E → Result A E
refuse_if b fault next = if b then Err fault else next

-- the units, if there are pages and not too many
abbrev pub with_pages : List NestedUnit → Result (List NestedUnit) DocumentFault
with_pages us = refuse_if (nat_lt most_pages (length (pages us))) InputTooManyPages
    (refuse_if (length (pages us) == 0) NoPages (Ok us))

-- the units of an accepted input, or its first fault
abbrev pub document_of : List ℕ → Result (List NestedUnit) DocumentFault
document_of input =
    refuse_if (nat_lt most_input_bytes (length input)) InputTooLong
    (refuse_if (not (starts_with nat_eq input (codes "%!"))) NotPostScript
    (of_block (cut input) >>= λ us. with_pages (nested us)))

-- why no plan is made
pub data PlanFault : Type 0 where
  PlanTooManyPages : PlanFault
  TooManySheets : PlanFault
  TooManyPlaces : PlanFault

-- the sheets of a row with this many entries, if they are within the limits
abbrev pub within_limits : (entries : ℕ) → List (List Slot) → Result (List (List Slot)) PlanFault
within_limits entries all =
    refuse_if (nat_lt most_pages entries) PlanTooManyPages
    (refuse_if (nat_lt most_sheets (length all)) TooManySheets
    (refuse_if (nat_lt most_places (sum_by length all)) TooManyPlaces (Ok all)))

-- the sheets of an accepted plan, or its first fault
abbrev pub plan_of : Spec → (pages : ℕ) → Result (List (List Slot)) PlanFault
plan_of spec pages = within_limits pages (sheets spec pages)

-- the same, in signatures if a number of sides is given; the blanks that fill up the last signature count too
abbrev pub plan_in : (sides : Option ℕ) → Spec → (pages : ℕ) → Result (List (List Slot)) PlanFault
plan_in sides spec pages = within_limits (row_len sides pages) (sheets_in sides spec pages)
