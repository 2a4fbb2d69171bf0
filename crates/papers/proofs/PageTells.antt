-- What a page says in its head.
use Rattle.std.specs.Prelude.{option_and_then, codes}
use Rattle.std.proofs.Common.{◌≡◌, ℕ, List, Option, Some, None, drop, refl, ap, sym, ◌∙◌}
use Rattle.rules.specs.Papers.{Paper}
use Rattle.rules.specs.Units.{line_len}
use Rattle.papers.specs.Media.{comment_fields, comment_value, else_take, paper_of_box}
use Rattle.papers.specs.Comments.{first_medium, named_medium, page_head, given_by_page}
use Rattle.papers.proofs.Heads.{head, page_head_is}

-- the head of a page, after its first line
told_there : (known : List ℕ → Option Paper) (other : Paper) (page text : List ℕ) → text ≡ drop (line_len page) page
    → given_by_page known other (head text) ≡ given_by_page known other (page_head page)
told_there known other page text at = ap (given_by_page known other) (sym (page_head_is page ∙ ap head (sym at)))

pub by_medium : (known : List ℕ → Option Paper) (other : Paper) (page text : List ℕ) (named : Option Paper) (p : Paper) → text ≡ drop (line_len page) page
    → named ≡ option_and_then (named_medium known) (comment_value (codes "%%PageMedia") (head text)) → named ≡ Some p
    → Some p ≡ given_by_page known other (page_head page)
by_medium known other page text named p at e is =
    ap (λ n. else_take n (option_and_then (paper_of_box other) (comment_fields (codes "%%PageBoundingBox") (head text)))) (sym is ∙ e)
    ∙ told_there known other page text at

pub by_box : (known : List ℕ → Option Paper) (other : Paper) (page text : List ℕ) (named boxed : Option Paper) → text ≡ drop (line_len page) page
    → named ≡ option_and_then (named_medium known) (comment_value (codes "%%PageMedia") (head text)) → named ≡ None
    → boxed ≡ option_and_then (paper_of_box other) (comment_fields (codes "%%PageBoundingBox") (head text))
    → boxed ≡ given_by_page known other (page_head page)
by_box known other page text named boxed at e is b =
    b ∙ ap (λ n. else_take n (option_and_then (paper_of_box other) (comment_fields (codes "%%PageBoundingBox") (head text)))) (sym is ∙ e)
    ∙ told_there known other page text at

-- a page without a medium's name, and one with it
pub names_none : (known : List ℕ → Option Paper) (value : Option (List ℕ)) → option_and_then first_medium value ≡ None → option_and_then (named_medium known) value ≡ None
names_none known None is = refl
names_none known (Some value) is = ap (option_and_then known) is

pub names_one : (known : List ℕ → Option Paper) (value : Option (List ℕ)) (name : List ℕ) → option_and_then first_medium value ≡ Some name → option_and_then (named_medium known) value ≡ known name
names_one known None name is = cc
names_one known (Some value) name is = ap (option_and_then known) is
