-- Papers that setups ask for, a line at a time.
use Rattle.std.specs.Prelude.{if◌then◌else◌, Option, None, codes}
use Rattle.std.proofs.Common.{Bool, ◌≡◌, ℕ, List, [], ◌∷◌, drop, refl, ap}
use Rattle.rules.specs.Papers.{Paper}
use Rattle.rules.specs.Units.{content_of, is_comment, line_len}
use Rattle.papers.specs.Media.{contents, else_take, set_size, size_of_line}
use Rattle.papers.proofs.Contents.{contents_step}

-- what a line asks for, or the lines after it, unless it begins a page
abbrev pub size_or : (content : List ℕ) → (rest : Option Paper) → (page : Bool) → Option Paper
size_or content rest page = if page then None else else_take (size_of_line content) rest

pub set_here : (text : List ℕ)
    → set_size (contents text) ≡ size_or (content_of text) (set_size (contents (drop (line_len text) text))) (is_comment (codes "%%Page") (content_of text))
set_here [] = refl
set_here (b ∷ bs) = ap set_size (contents_step b bs)
