-- Pages that reach beyond the papers by which they are placed, by their boxes (DSC 3.0, %%PageBoundingBox and %%BoundingBox) or
-- their own papers. Which of them counts, and by how much, is this project's own rules.
use Rattle.std.specs.Prelude.{ℕ, ◌+◌, ℤ, pos, ◌+ℤ◌, int_lt, Bool, false, ◌||◌, if◌then◌else◌, List, [], ◌∷◌, ◌++◌, length, map, get_or, codes}
use Rattle.std.specs.Prelude.{Option, Some, None, option_and_then}
use Rattle.rules.specs.Papers.{Paper}
use Rattle.rules.specs.Parts.{NestedUnit, pages}
use Rattle.papers.specs.Media.{box_of, comment_fields, edges_of, header, trailer_lines}
use Rattle.papers.specs.Comments.{page_head}
use Rattle.papers.specs.Cuts.{is_cut}
use Rattle.papers.specs.declared.boxes.Edges.{Edges}
use Rattle.papers.specs.declared.reach.Reach.{Reach}

-- ---- boxes

-- the first of two, if there is one
abbrev pub own_or : (own document : Option (List (List ℕ))) → Option (List (List ℕ))
own_or (Some own) document = Some own
own_or None document = document

-- a document's box is of no page that names a medium: with several media it covers them all
abbrev pub unless_named : (medium document : Option (List (List ℕ))) → Option (List (List ℕ))
unless_named None document = document
unless_named (Some medium) document = None

-- a page's box: its own, and else its document's, unless it names a medium
abbrev pub page_box : (document : Option (List (List ℕ))) → (page : List ℕ) → Option Edges
page_box document page = option_and_then edges_of (own_or (comment_fields (codes "%%PageBoundingBox") (page_head page))
    (unless_named (comment_fields (codes "%%PageMedia") (page_head page)) document))

-- the boxes of a document's pages, in order, where this is the document's
abbrev pub boxes_or : (document : Option (List (List ℕ))) → List NestedUnit → List (Option Edges)
boxes_or document us = map (page_box document) (pages us)

abbrev pub page_boxes : (text : List ℕ) → List NestedUnit → List (Option Edges)
page_boxes text us = boxes_or (box_of (header text) (trailer_lines us)) us

-- ---- which reach beyond papers

-- a point is left for rounding
abbrev pub rounding : ℤ
rounding = pos 127_000_000_000

-- edges are beyond a paper by more than that: to the left of it or below it, to the right of it or above it
abbrev pub is_beyond : Paper → Edges → Bool
is_beyond paper edges =
    (int_lt (edges.left +ℤ rounding) (pos 0) || int_lt (edges.bottom +ℤ rounding) (pos 0))
    || (int_lt (paper.width +ℤ rounding) edges.right || int_lt (paper.height +ℤ rounding) edges.top)

-- which pages are taken, which papers they have of their own, and their boxes; whether those that their papers cut are
-- reported apart
pub record Placing : Type 0 where
  pub taken : ℕ → Bool
  pub own : List Paper
  pub boxes : List (Option Edges)
  pub cut_apart : Bool

-- the same, with a list of which are taken
abbrev pub placing : (taken : List Bool) → (own : List Paper) → (boxes : List (Option Edges)) → (cut_apart : Bool) → Placing
placing taken own boxes apart = record { taken = λ n. get_or taken n false; own = own; boxes = boxes; cut_apart = apart }

-- all of a paper
abbrev pub paper_edges : Paper → Edges
paper_edges paper = record { left = pos 0; bottom = pos 0; right = paper.width; top = paper.height }

-- how far a page reaches: as its own paper, if that is cut and not reported apart, else as its box
abbrev pub extent_of : (cut_apart : Bool) → (placed own : Paper) → (box : Option Edges) → Option Edges
extent_of apart placed own box = if is_cut placed own then (if apart then None else Some (paper_edges own)) else box

-- how far a page reaches beyond its paper, if it is taken
abbrev pub extent : Placing → (page : ℕ) → (placed : Paper) → Option Edges
extent pages n placed = if pages.taken n
    then extent_of pages.cut_apart placed (get_or pages.own n placed) (get_or pages.boxes n None) else None

-- a page, with its paper and how far it reaches, if that is beyond it
abbrev pub if_beyond : (page : ℕ) → Paper → Option Edges → List (ℕ × Paper × Edges)
if_beyond n placed None = []
if_beyond n placed (Some edges) = if is_beyond placed edges then (n, placed, edges) ∷ [] else []

-- of pages from this number on, that are placed by these papers, those that reach beyond them
abbrev pub reaching : Placing → (first : ℕ) → (placed : List Paper) → List (ℕ × Paper × Edges)
reaching pages n [] = []
reaching pages n (p ∷ ps) = if_beyond n p (extent pages n p) ++ reaching pages (n + 1) ps

-- pages, and after them one more
abbrev pub with_reaching_page : Option Reach → (page : ℕ × Paper × Edges) → Reach
with_reaching_page None page = record { first = page.0; paper = page.1; edges = page.2; pages = 1 }
with_reaching_page (Some r) page = record { first = r.first; paper = r.paper; edges = r.edges; pages = r.pages + 1 }

-- the reach with that of the first of these pages, if there is one
abbrev pub with_all : Option Reach → List (ℕ × Paper × Edges) → Option Reach
with_all reach [] = reach
with_all reach (page ∷ more) = Some (with_reaching_page reach page)

-- the first of some pages, and how many they are
abbrev pub reach_summary : List (ℕ × Paper × Edges) → Option Reach
reach_summary [] = None
reach_summary (page ∷ more) = Some (record { first = page.0; paper = page.1; edges = page.2; pages = length more + 1 })

abbrev pub reach_of : Placing → (placed : List Paper) → Option Reach
reach_of pages placed = reach_summary (reaching pages 0 placed)
