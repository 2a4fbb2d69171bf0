-- Sheets with strokes and numbers at their ends report their papers as they do without.
use Rattle.std.specs.Prelude.{◌≡◌, ℕ, ◌<◌, ◌≤◌, List, ◌++◌, length, map, Option, None, Some, Ok}
use Rattle.std.specs.List.{AllByRecursion}
use Rattle.rules.specs.Output.{Border}
use Rattle.rules.specs.Papers.{Paper}
use Rattle.rules.specs.Parts.{NestedUnit, page_run}
use Rattle.rules.specs.Run.{document_of, most_input_bytes, most_pages}
use Rattle.dsc.specs.Units.{units_of}
use Rattle.rules.specs.Made.{MadeSheet}
use Rattle.rules.specs.MadeOutput.{made_output}
use Rattle.imposed_again.specs.Again.{open_depth}
use Rattle.papers.specs.Found.{AreQuiet, Finish, IsReportablePaper, as_printed, reporting_and}
use Rattle.papers.specs.Own.{papers_of_each_page}
use Rattle.papers.specs.Reported.{reporting}
use Rattle.sheet_text.specs.PageNumbers.{number_lines}
use Rattle.sheet_text.specs.declared.numbers.Numbers.{Numbers}
use Rattle.dressing.specs.Drawn.{mark_lines}
use Rattle.dressing.specs.Numbered.{Drawn, drawn_on}

-- the lines at the end of sheet s, followed by those of its numbers, if there are some
abbrev pub lines_and_numbers : Option Numbers → (lines : List (List ℕ)) → (s : ℕ) → List (List ℕ)
lines_and_numbers None lines s = lines
lines_and_numbers (Some n) lines s = lines ++ number_lines n s

-- the lines that draw strokes and numbers
abbrev pub drawing_lines : Drawn → Finish
drawing_lines drawn s paper = lines_and_numbers drawn.numbers (mark_lines drawn.strokes) s

-- they are quiet lines at the ends of sheets, so papers are found in what has them too: a law
abbrev pub DrawnIsQuiet : Type 0
DrawnIsQuiet = (drawn : Drawn) (all : List MadeSheet)
    → (drawn_on drawn (reporting all) ≡ reporting_and (drawing_lines drawn) all) × AreQuiet (drawing_lines drawn)

-- in an output whose sheets report their papers, and on which this is drawn, each sheet's own paper is found, as it is
-- printed, if the document's last page leaves no embedded document open: a law
abbrev pub DrawnAreFound : Type 0
DrawnAreFound =
    (named : List ℕ → Option Paper) (home : Paper) (border : Option Border) (drawn : Drawn) (all : List MadeSheet)
    (text : List ℕ) (us : List NestedUnit)
    → AllByRecursion (λ sheet. IsReportablePaper sheet.paper) all
    → document_of text ≡ Ok us → open_depth (page_run us) ≡ 0 → 0 < length all → length all ≤ most_pages
    → length (made_output border (drawn_on drawn (reporting all)) all us) ≤ most_input_bytes
    → papers_of_each_page None named home (made_output border (drawn_on drawn (reporting all)) all us)
    (units_of (made_output border (drawn_on drawn (reporting all)) all us))
    ≡ map (λ sheet. as_printed sheet.paper) all
