-- A page's own paper, which papers are near to one another, and which covers which. All here is this project's own rules.
use Rattle.std.specs.Prelude.{ℕ, ◌*◌, ℤ, ◌-ℤ◌, nat_abs, int_le, Bool, ◌&&◌, nat_le}
use Rattle.std.specs.Prelude.{if◌then◌else◌, List, map, Option, Some, None}
use Rattle.rules.specs.Papers.{Paper}
use Rattle.rules.specs.Parts.{NestedUnit, pages}
use Rattle.papers.specs.Media.{header, trailer_lines, usual_in}
use Rattle.papers.specs.Comments.{media, page_head, paper_of_medium, given_by_document, given_by_page}

-- what is said, and else this
abbrev pub or_this : Option Paper → Paper → Paper
or_this (Some paper) other = paper
or_this None other = other

-- what a page says itself, where its document has this paper, and else that one
abbrev pub page_or : (known : List ℕ → Option Paper) → (head : List (List ℕ)) → Paper → Paper
page_or known head document = or_this (given_by_page known document head) document

-- the paper of the medium with this name, by header comments
abbrev pub medium_by : (header : List (List ℕ)) → (name : List ℕ) → Option Paper
medium_by header name = paper_of_medium name (media header)

-- a page's own paper: what it says itself, else what its document says, else the one at home. The header comments, and
-- the lines of the trailer, are the document's (RULES, 12.3)
abbrev pub own_paper : (named : List ℕ → Option Paper) → (home : Paper) → (header trailer : List (List ℕ)) → (page : List ℕ) → Paper
own_paper named home header trailer page =
    page_or (medium_by header) (page_head page) (or_this (given_by_document named home header trailer) home)

-- the papers of a document's pages, in order: the one that was asked for, if one was, and else each page's own, where the one that the document's
-- setup asks for goes before the one at home
abbrev pub papers_of_each_page : (asked : Option Paper) → (named : List ℕ → Option Paper) → (home : Paper) → (text : List ℕ)
    → List NestedUnit → List Paper
papers_of_each_page (Some paper) named home text us = map (λ page. paper) (pages us)
papers_of_each_page None named home text us = map (own_paper named (usual_in home text) (header text) (trailer_lines us)) (pages us)

-- ---- two papers

-- by so much, 15 points, programs' sizes of one paper may differ (RULES, 12.4)
abbrev pub nearness : ℕ
nearness = 15 * 127_000_000_000

abbrev pub counts_as_one : Paper → Paper → Bool
counts_as_one a b = nat_le (nat_abs (a.width -ℤ b.width)) nearness && nat_le (nat_abs (a.height -ℤ b.height)) nearness

-- the larger side
abbrev pub larger : ℤ → ℤ → ℤ
larger a b = if int_le a b then b else a

-- the least paper that covers both
abbrev pub smallest_cover : Paper → Paper → Paper
smallest_cover a b = record { width = larger a.width b.width; height = larger a.height b.height }

-- a paper covers another one: no side is shorter
abbrev pub covers : (large small : Paper) → Bool
covers large small = int_le small.width large.width && int_le small.height large.height
