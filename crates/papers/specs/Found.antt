-- What is found of papers that were reported.
use Rattle.std.specs.Prelude.{◌≡◌, ℕ, ◌*◌, ◌<◌, ◌≤◌, ℤ, pos, nat_abs, false, List, ◌++◌, length, map, codes, Option, None, Ok}
use Rattle.std.specs.List.{AllByRecursion}
use Rattle.rules.specs.Bytes.{line}
use Rattle.rules.specs.Output.{Border}
use Rattle.rules.specs.Papers.{Paper}
use Rattle.rules.specs.Parts.{NestedUnit, page_run}
use Rattle.rules.specs.Run.{document_of, most_input_bytes, most_pages}
use Rattle.rules.specs.Units.{content_of}
use Rattle.dsc.specs.Units.{units_of}
use Rattle.rules.specs.Dress.{Dress, lines_text}
use Rattle.rules.specs.Made.{MadeSheet}
use Rattle.rules.specs.MadeOutput.{made_output}
use Rattle.imposed_again.specs.Again.{open_depth}
use Rattle.imposed_again.specs.MadeAgain.{AreTame}
use Rattle.papers.specs.Comments.{is_in_head}
use Rattle.papers.specs.Own.{papers_of_each_page}
use Rattle.papers.specs.Reported.{in_print, reporting}

-- a side that is read again as it is printed: from one point up to 99,999.99999 points
pub record IsReportable (side : ℤ) : Type 0 where
  pub parts : ℕ
  pub is : in_print side ≡ pos parts
  pub some : 100_000 ≤ parts
  pub few : parts ≤ 9_999_999_999

abbrev pub IsReportablePaper : Paper → Type 0
IsReportablePaper paper = IsReportable paper.width × IsReportable paper.height

-- a side as it is printed, in whole 10^-5 points; it is above 0
abbrev pub printed_side : ℤ → ℤ
printed_side side = pos (nat_abs (in_print side) * 1_270_000)

abbrev pub as_printed : Paper → Paper
as_printed paper = record { width = printed_side paper.width; height = printed_side paper.height }

-- the lines at the end of a sheet, as a dress gives them
abbrev pub Finish : Type 0
Finish = (sheet : ℕ) → Paper → List (List ℕ)

-- sheets report their papers, and have these lines at their ends
abbrev pub reporting_and : Finish → List MadeSheet → Dress
reporting_and finish all = record { header = (reporting all).header; start = (reporting all).start; finish = finish }

-- such lines begin nothing: no part, no data, no embedded document; nor does the first of them, or `showpage` if there is
-- none, belong to the comments at a page's head
pub record AreQuiet (finish : Finish) : Type 0 where
  pub tame : (s : ℕ) (paper : Paper) → AreTame (finish s paper)
  pub no_head : (s : ℕ) (paper : Paper) → is_in_head (content_of (lines_text (finish s paper) ++ line (codes "showpage"))) ≡ false

-- In what was written of any number of sheets, of any papers, each has its own paper, as printed, where it is read again. This
-- holds if the document's last page leaves no embedded document open: then the pages that are read are the sheets
abbrev pub PapersAreFound : Type 0
PapersAreFound =
    (named : List ℕ → Option Paper) (home : Paper) (border : Option Border) (finish : Finish) (all : List MadeSheet)
    (text : List ℕ) (us : List NestedUnit)
    → AllByRecursion (λ sheet. IsReportablePaper sheet.paper) all → AreQuiet finish
    → document_of text ≡ Ok us → open_depth (page_run us) ≡ 0 → 0 < length all → length all ≤ most_pages
    → length (made_output border (reporting_and finish all) all us) ≤ most_input_bytes
    → papers_of_each_page None named home (made_output border (reporting_and finish all) all us)
    (units_of (made_output border (reporting_and finish all) all us))
    ≡ map (λ sheet. as_printed sheet.paper) all
