-- The paper of the sheets of a request.
use Rattle.std.specs.Prelude.{int_lt, if◌then◌else◌, unwrap_or, Option}
use Rattle.rules.specs.Papers.{Paper}
use Rattle.impose_words.specs.declared.request.Layout.{Layout}
use Rattle.impose_words.specs.declared.request.Layout.TheVariants as layout

-- a paper held upright: it is no wider than high
abbrev pub held_upright : Paper → Paper
held_upright paper = if int_lt paper.height paper.width then record { width = paper.height; height = paper.width } else paper

-- the paper of the sheets of a layout, for pages of this paper: that of the pages. A booklet's sheets are held upright, so that two
-- pages are side by side in their halves
abbrev pub paper_for_pages : Layout → (page_paper : Paper) → Paper
paper_for_pages (layout.Booklet signing long_edge) page_paper = held_upright page_paper
paper_for_pages other page_paper = page_paper

-- the one that is named, if one is (RULES, 12.5)
abbrev pub sheet_paper_for : Layout → (named : Option Paper) → (page_paper : Paper) → Paper
sheet_paper_for l named page_paper = unwrap_or named (paper_for_pages l page_paper)
