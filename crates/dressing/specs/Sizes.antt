-- The sizes of papers as they are printed.
use Rattle.std.specs.Prelude.{◌≡◌, if◌then◌else◌, List, [], ◌∷◌, ◌++◌, map}
use Rattle.std.specs.List.{list_any}
use Rattle.std.specs.BTreeSet.{BTreeSet, contains}
use Rattle.std.specs.declared.cmp.Ordering.{Ordering}
use Rattle.std.specs.Ordering.{int_cmp, ordering_then}
use Rattle.rules.specs.Papers.{Paper}
use Rattle.rules.specs.Made.{MadeSheet}
use Rattle.papers.specs.Reported.{in_print, is_reported_alike}
use Rattle.dressing.specs.declared.reported.Size.{Size}

-- the papers of sheets
abbrev pub papers_of : List MadeSheet → List Paper
papers_of all = map (λ sheet. sheet.paper) all

-- the size of a paper (RULES, 15)
abbrev pub size_of : Paper → Size
size_of paper = record { width = in_print paper.width; height = in_print paper.height }

-- sizes by their widths, and those of one width by their heights
abbrev pub size_order : (a b : Size) → Ordering
size_order a b = ordering_then (int_cmp a.width b.width) (int_cmp a.height b.height)

-- a set has the sizes of these papers, and no others
abbrev pub AreSizesOf : List Paper → BTreeSet Size → Type 0
AreSizesOf reported sizes = (p : Paper) → contains size_order sizes (size_of p) ≡ list_any (is_reported_alike p) reported

-- a paper after these, if it is reported otherwise than each of them
abbrev pub with_paper : List Paper → Paper → List Paper
with_paper reported p = if list_any (is_reported_alike p) reported then reported else reported ++ p ∷ []
