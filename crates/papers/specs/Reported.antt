-- How sheets report their paper: the lines that are added to an output for it. Their comments are of DSC 3.0
-- (%%BoundingBox, %%DocumentMedia and %%+ of General Header Comments, %%PageMedia of Page Requirement Comments), their
-- operators of the PostScript Language Reference. The rest is this project's own rules.
use Rattle.std.specs.Prelude.{ℕ, ◌+◌, ◌*◌, ◌/◌, ◌%◌, ◌==◌, ℤ, pos, nat_abs, Bool, ◌&&◌, if◌then◌else◌, List, [], ◌∷◌, ◌++◌, map, fold, codes}
use Rattle.std.specs.Ordering.{int_eq}
use Rattle.std.specs.List.{list_any}
use Rattle.rules.specs.Numbers.{points_text, rounded}
use Rattle.rules.specs.Papers.{Paper}
use Rattle.rules.specs.Made.{MadeSheet}
use Rattle.rules.specs.Dress.{Dress, undressed}
use Rattle.imposed_again.specs.MadeAgain.{IsTameDress}
use Rattle.papers.specs.Own.{smallest_cover}

-- both sides of a paper, in points
abbrev pub size_text : Paper → List ℕ
size_text paper = points_text paper.width ++ (codes " " ++ points_text paper.height)

abbrev pub box_line : (whole : Paper) → List ℕ
box_line whole = codes "%%BoundingBox: 0 0 " ++ size_text whole

abbrev pub exact_box_line : Paper → List ℕ
exact_box_line paper = codes "%%HiResBoundingBox: 0 0 " ++ size_text paper

-- a medium of this name; its weight is given as 0, and its colour and its kind as nothing
abbrev pub medium_text : (name : List ℕ) → Paper → List ℕ
medium_text name paper = name ++ (codes " " ++ (size_text paper ++ codes " 0 () ()"))

-- the name of a medium if there are several: its sides
abbrev pub size_name : Paper → List ℕ
size_name paper = points_text paper.width ++ (codes "x" ++ points_text paper.height)

-- a side in whole 10^-5 points, as it is printed
abbrev pub in_print : ℤ → ℤ
in_print side = rounded side 1_270_000

-- a side, which is above 0, in whole 10^-5 points, as it is printed; and in whole points, rounded up from that
abbrev pub printed_parts : ℤ → ℕ
printed_parts side = nat_abs (in_print side)

abbrev pub whole_up : ℤ → ℤ
whole_up side = pos ((printed_parts side + 99_999) / 100_000 * 127_000_000_000)

-- the least paper with sides of whole points that covers this one, as it is printed
abbrev pub whole_paper : Paper → Paper
whole_paper paper = record { width = whole_up paper.width; height = whole_up paper.height }

abbrev pub is_in_whole_points : Paper → Bool
is_in_whole_points paper = (printed_parts paper.width % 100_000 == 0) && (printed_parts paper.height % 100_000 == 0)

-- the box of a paper, in whole numbers (DSC 3.0); and after it as it is, if its sides aren't whole
abbrev pub exact_box_lines : Paper → List (List ℕ)
exact_box_lines paper = if is_in_whole_points paper then [] else exact_box_line paper ∷ []

abbrev pub box_lines : Paper → List (List ℕ)
box_lines paper = box_line (whole_paper paper) ∷ exact_box_lines paper

-- two papers whose sides are printed alike are reported as one
abbrev pub is_reported_alike : (a b : Paper) → Bool
is_reported_alike a b = int_eq (in_print a.width) (in_print b.width) && int_eq (in_print a.height) (in_print b.height)

-- with those found before, each paper that is reported otherwise than all before it
abbrev pub different_from : (found : List Paper) → List Paper → List Paper
different_from found [] = found
different_from found (p ∷ ps) =
    if list_any (is_reported_alike p) found then different_from found ps else different_from (found ++ p ∷ []) ps

-- the papers that are reported, however many: each that is reported otherwise than all before it
abbrev pub papers_reported : List Paper → List Paper
papers_reported all = different_from [] all

-- the line that sets the device's page size, if the interpreter has `setpagedevice`, and what is on the stack says so
abbrev pub setting_line : Paper → List ℕ
setting_line paper =
    codes "systemdict /setpagedevice known and {1 dict dup /PageSize ["
    ++ (size_text paper ++ codes "] put systemdict /setpagedevice get exec} if")

-- the lines that set the device's page size, if the interpreter has `setpagedevice`. A page that is placed on a sheet may
-- itself be a sheet with these lines, where they mustn't do anything: there `PStoPSenablepage`, if there is such a name,
-- is false (psutils' name, which the guard takes over), and else `showpage` is an empty procedure of userdict
-- (RULES, 15)
abbrev pub page_size_lines : Paper → List (List ℕ)
page_size_lines paper =
    codes "/PStoPSenablepage where {pop PStoPSenablepage}"
    ∷ codes "{userdict /showpage 2 copy known {get dup type /operatortype eq {pop true} {length 0 ne} ifelse} {pop pop true} ifelse} ifelse"
    ∷ setting_line paper
    ∷ []

abbrev pub medium_line : (key name : List ℕ) → Paper → List ℕ
medium_line key name paper = key ++ medium_text name paper

-- the header's lines if all sheets have one paper, and if they have several
abbrev pub one_header : Paper → List (List ℕ)
one_header p = box_lines p ++ medium_line (codes "%%DocumentMedia: ") (codes "Plain") p ∷ []

abbrev pub several_header : Paper → List Paper → List (List ℕ)
several_header p ps =
    box_lines (fold smallest_cover p ps) ++ medium_line (codes "%%DocumentMedia: ") (size_name p) p
    ∷ map (λ r. medium_line (codes "%%+ ") (size_name r) r) ps

-- the lines of a sheet that is one of several papers
abbrev pub sheet_lines : Paper → List (List ℕ)
sheet_lines paper = (codes "%%PageMedia: " ++ size_name paper) ∷ page_size_lines paper

-- Sheets of one paper report it in the header. If they have several, the header has them all, and each sheet names its own
-- and sets the device's page size
abbrev pub reporting_of : List Paper → Dress
reporting_of [] = undressed
reporting_of (p ∷ []) = record { header = one_header p; start = λ s paper. []; finish = λ s paper. [] }
reporting_of (p ∷ q ∷ ps) = record {
  header = several_header p (q ∷ ps);
  start = λ s paper. sheet_lines paper;
  finish = λ s paper. [];
}

-- the dress that reports the papers of these sheets
abbrev pub reporting : List MadeSheet → Dress
reporting all = reporting_of (papers_reported (map (λ sheet. sheet.paper) all))

-- its lines begin no page, no data and no embedded document, so what it is added to is a document again: a law
abbrev pub ReportingIsTame : Type 0
ReportingIsTame = (all : List MadeSheet) → IsTameDress (reporting all)
