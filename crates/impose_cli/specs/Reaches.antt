-- Pages that reach beyond the papers by which they are placed, of those that a request takes.
use Rattle.std.specs.Prelude.{ℕ, Bool, List, unwrap_or, Option, None}
use Rattle.rules.specs.Papers.{Paper}
use Rattle.rules.specs.Parts.{NestedUnit}
use Rattle.rules.specs.Rows.{Row}
use Rattle.paper_names.specs.Names.{paper_named}
use Rattle.papers.specs.Own.{papers_of_each_page}
use Rattle.papers.specs.Reach.{page_boxes, reach_of}
use Rattle.papers.specs.declared.boxes.Edges.{Edges}
use Rattle.papers.specs.declared.reach.Reach.{Reach}
use Rattle.impose_words.specs.declared.request.ImposeRequest.{ImposeRequest}
use Rattle.impose_cli.specs.Taken.{row_in, takes}

-- those of a row
abbrev pub reach_on : (cut_apart : Bool) → Row → (placed own : List Paper) → (boxes : List (Option Edges)) → Option Reach
reach_on apart row placed own boxes = reach_of (record { taken = takes row; own = own; boxes = boxes; cut_apart = apart }) placed

-- what pages have of their own: one that names no paper has the one that is named for all, else the document's
abbrev pub reported_own : ImposeRequest → (input : List ℕ) → List NestedUnit → List Paper
reported_own r input us = papers_of_each_page None paper_named (unwrap_or r.page_paper r.default_paper) input us

-- RULES, 17
abbrev pub reach_in : (cut_apart : Bool) → ImposeRequest → (placed : List Paper) → (input : List ℕ) → List NestedUnit → Option Reach
reach_in apart r placed input us =
    reach_on apart (row_in r us) placed (reported_own r input us) (page_boxes input us)
