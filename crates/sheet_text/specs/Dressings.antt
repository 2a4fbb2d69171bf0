-- The dress of an output, as it is kept.
use Rattle.std.specs.Prelude.{ℕ, Bool, true, false, List, [], ◌++◌, Option, Some, None}
use Rattle.rules.specs.Papers.{Paper}
use Rattle.rules.specs.Dress.{Dress}
use Rattle.papers.specs.Reported.{sheet_lines}
use Rattle.sheet_text.specs.PageNumbers.{number_lines}
use Rattle.sheet_text.specs.declared.dress.SheetDress as code
use Rattle.sheet_text.specs.declared.numbers.Numbers.{Numbers}

-- at the start of a sheet of this paper: the lines that report it, if sheets are to
abbrev pub report_lines_if : Bool → Paper → List (List ℕ)
report_lines_if true paper = sheet_lines paper
report_lines_if false paper = []

-- at the end of sheet s: these lines, and the numbers of its pages, if they have some
abbrev pub with_numbers : Option Numbers → List (List ℕ) → (s : ℕ) → List (List ℕ)
with_numbers None lines s = lines
with_numbers (Some n) lines s = lines ++ number_lines n s

-- the dress that is kept so
abbrev pub dress_in : code.SheetDress → Dress
dress_in d = record {
  header = d.header;
  start = λ s paper. report_lines_if d.reports_papers paper;
  finish = λ s paper. with_numbers d.numbers d.finish s;
}
