-- Comments outside of embedded documents, a line at a time.
use Rattle.std.proofs.Common.{◌≡◌, ℕ, List, [], ◌∷◌, drop, refl, ap}
use Rattle.rules.specs.Units.{content_of, line_len}
use Rattle.dsc.specs.TrailerBoxes.{first_there}
use Rattle.papers.specs.Media.{contents}
use Rattle.papers.proofs.Contents.{contents_step}
use Rattle.row_runs.specs.DeclaredPages.{depth_after_line, pages_at, pages_outside}

pub pages_here : (depth : ℕ) (text : List ℕ)
    → pages_outside depth (contents text)
    ≡ first_there (pages_at depth (content_of text)) (pages_outside (depth_after_line depth (content_of text)) (contents (drop (line_len text) text)))
pages_here depth [] = refl
pages_here depth (b ∷ bs) = ap (pages_outside depth) (contents_step b bs)
