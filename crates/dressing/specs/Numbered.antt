-- The dress that has numbers of pages too, and what is drawn on sheets.
use Rattle.std.specs.Prelude.{◌≡◌, List, [], ◌++◌, Option, Some, None}
use Rattle.rules.specs.Papers.{Paper}
use Rattle.rules.specs.Dress.{Dress}
use Rattle.sheet_text.specs.PageNumbers.{number_lines}
use Rattle.sheet_text.specs.declared.numbers.Numbers.{Numbers}
use Rattle.papers.specs.Reported.{reporting_of}
use Rattle.dressing.specs.Drawn.{strokes_added}
use Rattle.dressing.specs.declared.strokes.Stroke.{Stroke}

-- the dress with these numbers at the end of each sheet, after its own lines there
abbrev pub with_page_numbers : Option Numbers → Dress → Dress
with_page_numbers None dress = dress
with_page_numbers (Some n) dress = record dress { finish = λ s paper. dress.finish s paper ++ number_lines n s }

-- what is drawn on sheets: the same strokes on each, and on each its numbers, if there are some
pub record Drawn : Type 0 where
  pub strokes : List Stroke
  pub numbers : Option Numbers

abbrev pub nothing_drawn : Drawn
nothing_drawn = record { strokes = []; numbers = None }

abbrev pub drawn_on : Drawn → Dress → Dress
drawn_on drawn dress = with_page_numbers drawn.numbers (strokes_added drawn.strokes dress)

-- if nothing is drawn the lines are those that report papers, and no others: a law
abbrev pub NoMarksAddNothing : Type 0
NoMarksAddNothing = (reported : List Paper) → drawn_on nothing_drawn (reporting_of reported) ≡ reporting_of reported
