-- What is to be imposed: a plan of the pages of a document, and what its sheets are made of.
use Rattle.std.specs.Prelude.{◌≡◌, ℕ, ◌+◌, List, [], ◌++◌, map, length, flat_map, slice_index_or, codes, decimal}
use Rattle.std.specs.Prelude.{ℤ, pos, int_lt, Bool, true, Option, Some, None}
use Rattle.std.specs.List.{range_with_len}
use Rattle.rules.specs.Bytes.{line}
use Rattle.rules.specs.Sheets.{Plan, layout}
use Rattle.rules.specs.Parts.{NestedUnit, pages}
use Rattle.rules.specs.Filters.{trailer_text}
use Rattle.rules.specs.Output.{Border, Frame}
use Rattle.rules.specs.Made.{MadeSlot, made_of}
use Rattle.rules.specs.Dress.{undressed}
use Rattle.rules.specs.Dressed.{DressedSheet, dressed_sheets, dressed_sheet_text}
use Rattle.rules.specs.MadeOutput.{made_slot_text, dressed_preamble}
use Rattle.rules.specs.MadePlans.{page_of}

-- the plan's sheets, each with its slots and with the lines at its start and at its end; and the lines of the header
pub record JobView : Type 0 where
  pub plan : Plan
  pub units : List NestedUnit
  pub border : Option Border
  pub header : List (List ℕ)
  pub sheets : List DressedSheet

-- one paper for all pages, and no lines
abbrev pub of_frame : Plan → List NestedUnit → Frame → JobView
of_frame plan us frame = record {
  plan = plan;
  units = us;
  border = frame.border;
  header = [];
  sheets = dressed_sheets undressed (made_of frame.paper plan.sheets);
}

-- the sheets have the pages of the plan
abbrev pub AreOfPlan : Plan → List DressedSheet → Type 0
AreOfPlan plan sheets = map (λ sheet. map page_of sheet.slots) sheets ≡ (layout plan).sheets

-- a border is wider than nothing, if there is one
abbrev pub is_border : Option ℤ → Bool
is_border None = true
is_border (Some width) = int_lt (pos 0) width

abbrev pub no_sheet : DressedSheet
no_sheet = record { start = []; slots = []; finish = [] }

-- a sheet, and its slots
abbrev pub sheet_of : JobView → ℕ → DressedSheet
sheet_of job s = slice_index_or job.sheets s no_sheet

abbrev pub slots_of : JobView → ℕ → List MadeSlot
slots_of job s = (sheet_of job s).slots

-- the texts of slots, one after the other
abbrev pub slots_text : JobView → List MadeSlot → List ℕ
slots_text job slots = flat_map (made_slot_text job.border (pages job.units)) slots

-- the line that begins a sheet; sheets are counted from 0, and from 1 in the text
abbrev pub page_line : ℕ → List ℕ
page_line s = line (codes "%%Page: " ++ decimal (s + 1) ++ codes " " ++ decimal (s + 1))

-- the text of a sheet
abbrev pub text_of : JobView → ℕ → List ℕ
text_of job s = dressed_sheet_text job.border (pages job.units) s (sheet_of job s)

-- the header with the number of sheets and its lines, the sheets in order, the trailer
abbrev pub output_of : JobView → List ℕ
output_of job =
    dressed_preamble (length job.plan.sheets) job.header job.units
    ++ flat_map (text_of job) (range_with_len 0 (length job.plan.sheets))
    ++ trailer_text job.units
