-- Whether a document was drawn again, a line at a time.
use Rattle.std.specs.Prelude.{◌||◌, codes, nat_eq}
use Rattle.std.specs.List.{starts_with}
use Rattle.std.proofs.Common.{true, false, ◌≡◌, ℕ, ◌<◌, List, [], ◌∷◌, length, drop, ap, arith, ◌∙◌}
use Rattle.rules.specs.Units.{content_of, line_len}
use Rattle.papers.specs.Media.{contents}
use Rattle.papers.proofs.Contents.{contents_step}
use Rattle.impose_cli.specs.Claims.{is_drawn_again}

pub here : (text : List ℕ) → 0 < length text → starts_with nat_eq (content_of text) (codes "%Produced by") ≡ true → is_drawn_again (contents text) ≡ true
here [] l is = absurd (omega (arith, l))
here (b ∷ bs) l is = let text : List ℕ = b ∷ bs in
    ap is_drawn_again (contents_step b bs) ∙ ap (λ t. t || is_drawn_again (contents (drop (line_len text) text))) is

pub behind : (text : List ℕ) → 0 < length text → starts_with nat_eq (content_of text) (codes "%Produced by") ≡ false
    → is_drawn_again (contents text) ≡ is_drawn_again (contents (drop (line_len text) text))
behind [] l is = absurd (omega (arith, l))
behind (b ∷ bs) l is = let text : List ℕ = b ∷ bs in
    ap is_drawn_again (contents_step b bs) ∙ ap (λ t. t || is_drawn_again (contents (drop (line_len text) text))) is
