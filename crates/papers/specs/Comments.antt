-- Papers that comments give. The comments are of DSC 3.0: %%DocumentMedia and %%+ of General Header Comments,
-- %%PageMedia and %%PageBoundingBox of Page Requirement and General Page Comments; %%DocumentPaperSizes is of DSC 2.1.
-- Which of them count, and in which order, is this project's own rules.
use Rattle.std.specs.Prelude.{ℕ, zero, suc, Bool, not, ◌&&◌, ◌||◌, nat_eq, if◌then◌else◌, List, [], ◌∷◌}
use Rattle.std.specs.Prelude.{length, drop, flat_map, codes, Option, Some, None, option_and_then, option_map}
use Rattle.std.specs.List.{starts_with}
use Rattle.std.specs.Str.{bytes_eq}
use Rattle.rules.specs.Papers.{Paper}
use Rattle.rules.specs.Units.{content_of, line_len, key, has_key}
use Rattle.dsc.specs.Header.{is_header}
use Rattle.dsc.specs.Fields.{fields_in}
use Rattle.papers.specs.Media.{box_of, box_paper, comment_fields, comment_value, comment_values, else_take, lying_as, media_paper, name_and_rest, name_in}
use Rattle.papers.specs.Media.{name_meant, paper_of_box, sides_paper}

-- ---- where they are

-- a line of a page's head: a comment, the one that begins its setup too, but none that begins anything else
-- (RULES, 12.3)
abbrev pub is_in_head : List ℕ → Bool
is_in_head content =
    is_header content
    && (not (starts_with nat_eq (key content) (codes "%%Begin")) || has_key (codes "%%BeginPageSetup" ∷ []) content)

-- the run of such lines that a text begins with, of at most so many
abbrev pub head_of : (most : ℕ) → List ℕ → List (List ℕ)
head_of zero text = []
head_of (suc most) text =
    let content = content_of text in
    if is_in_head content then content ∷ head_of most (drop (line_len text) text) else []

-- the head of a page: that run after its first line; a line has a byte, so there are no more lines than bytes
abbrev pub page_head : List ℕ → List (List ℕ)
page_head page = head_of (length page) (drop (line_len page) page)

-- ---- media

-- a medium, and its paper, if its sides may be a paper's
pub record Medium : Type 0 where
  pub name : List ℕ
  pub paper : Option Paper

-- that of a name as it is written, its width, its height, and more
abbrev pub medium_of : Option (List ℕ × List ℕ) → List Medium
medium_of None = []
medium_of (Some (written, rest)) = record { name = name_meant written; paper = sides_paper (fields_in rest) } ∷ []

abbrev pub medium_in : (value : List ℕ) → List Medium
medium_in value = medium_of (name_and_rest value)

-- the media of a document, by its header comments: that of the first %%DocumentMedia, and those of the lines that
-- continue it
abbrev pub media : List (List ℕ) → List Medium
media lines = flat_map medium_in (comment_values (codes "%%DocumentMedia") lines)

-- the paper of the first medium with this name
abbrev pub paper_of_medium : List ℕ → List Medium → Option Paper
paper_of_medium name [] = None
paper_of_medium name (m ∷ ms) = if bytes_eq m.name name then m.paper else paper_of_medium name ms

-- ---- what they say

-- the name that a value begins with, as it is written, without its parentheses
abbrev pub first_name : (value : List ℕ) → Option (List ℕ)
first_name value = option_map (λ p. name_in p.0) (name_and_rest value)

-- the medium that a value names first
abbrev pub first_medium : (value : List ℕ) → Option (List ℕ)
first_medium value = option_map (λ p. name_meant p.0) (name_and_rest value)

-- its paper, by the papers of media
abbrev pub named_medium : (known : List ℕ → Option Paper) → (value : List ℕ) → Option Paper
named_medium known value = option_and_then known (first_medium value)

-- the medium that a page names in its head
abbrev pub medium_of_page : (head : List (List ℕ)) → Option (List ℕ)
medium_of_page head = option_and_then first_medium (comment_value (codes "%%PageMedia") head)

-- the paper of a page's medium, if it names one that is known; a page that names its medium has a box of what is
-- painted. Else the paper of its box, where this paper would be taken without it
abbrev pub given_by_page : (known : List ℕ → Option Paper) → (other : Paper) → (head : List (List ℕ)) → Option Paper
given_by_page known other head =
    else_take (option_and_then (named_medium known) (comment_value (codes "%%PageMedia") head))
    (option_and_then (paper_of_box other) (comment_fields (codes "%%PageBoundingBox") head))

-- the first field that is the name of a paper
abbrev pub first_named : (named : List ℕ → Option Paper) → List (List ℕ) → Option Paper
first_named named [] = None
first_named named (field ∷ more) = else_take (named (name_in field)) (first_named named more)

-- that of the first in these values
abbrev pub first_named_in : (named : List ℕ → Option Paper) → List (List ℕ) → Option Paper
first_named_in named [] = None
first_named_in named (names ∷ more) = else_take (first_named named (fields_in names)) (first_named_in named more)

-- the document's paper: its first medium's; else the first of its papers' names that is known, on its side if the box
-- at 0 0 has its sides exchanged; else that of the box, where this paper is usual (RULES, 12.2)
abbrev pub given_by_document : (named : List ℕ → Option Paper) → (usual : Paper) → (header trailer : List (List ℕ)) → Option Paper
given_by_document named usual header trailer =
    let box = box_of header trailer in
    else_take (option_and_then media_paper (comment_value (codes "%%DocumentMedia") header))
    (else_take (option_map (lying_as (option_and_then box_paper box)) (first_named_in named (comment_values (codes "%%DocumentPaperSizes") header)))
    (option_and_then (paper_of_box usual) box))
