-- The head of a page, a line at a time.
use Rattle.std.specs.Prelude.{if◌then◌else◌}
use Rattle.std.proofs.Common.{Bool, true, false, ◌≡◌, ℕ, zero, suc, ◌<◌, ◌≤◌, List, [], ◌∷◌, Option, Some, None, length, length-drop, drop, refl, sym, ap, arith, ◌∙◌}
use Rattle.std.proofs.lemmas.Bool.{true≢false}
use Rattle.rules.specs.Units.{content_of, is_comment, line_len}
use Rattle.dsc.proofs.LineByLine.{by_line}
use Rattle.dsc.proofs.LineLengths.{line_len-pos}
use Rattle.papers.specs.Media.{comment_value, value_of}
use Rattle.papers.specs.Comments.{head_of, is_in_head, page_head}

abbrev pub head : List ℕ → List (List ℕ)
head text = head_of (length text) text

no_head : (k : ℕ) → head_of k [] ≡ head_of 0 []
no_head zero = refl
no_head (suc k) = refl

abbrev pub with_content : (content : List ℕ) → List (List ℕ) → Bool → List (List ℕ)
with_content content rest test = if test then content ∷ rest else []

pub head_step : (b : ℕ) (bs : List ℕ) → head (b ∷ bs) ≡ with_content (content_of (b ∷ bs)) (head (drop (line_len (b ∷ bs)) (b ∷ bs))) (is_in_head (content_of (b ∷ bs)))
head_step b bs = by_line head_of (λ b bs rest. with_content (content_of (b ∷ bs)) rest (is_in_head (content_of (b ∷ bs)))) no_head (λ k b bs. refl) b bs

abbrev choose : (name content : List ℕ) → List (List ℕ) → Bool → Option (List ℕ)
choose name content rest test = if test then Some (value_of content) else comment_value name rest

pub found_in_head : (name text : List ℕ) → 0 < length text → is_in_head (content_of text) ≡ true → is_comment name (content_of text) ≡ true → comment_value name (head text) ≡ Some (value_of (content_of text))
found_in_head name [] l goes is = absurd (omega (arith, l))
found_in_head name (b ∷ bs) l goes is =
    let rest = head (drop (line_len (b ∷ bs)) (b ∷ bs)) in
    ap (comment_value name) (head_step b bs ∙ ap (with_content (content_of (b ∷ bs)) rest) goes) ∙ ap (choose name (content_of (b ∷ bs)) rest) is

pub found_behind : (name text : List ℕ) → 0 < length text → is_in_head (content_of text) ≡ true → is_comment name (content_of text) ≡ false
    → comment_value name (head text) ≡ comment_value name (head (drop (line_len text) text))
found_behind name [] l goes is = absurd (omega (arith, l))
found_behind name (b ∷ bs) l goes is =
    let rest = head (drop (line_len (b ∷ bs)) (b ∷ bs)) in
    ap (comment_value name) (head_step b bs ∙ ap (with_content (content_of (b ∷ bs)) rest) goes) ∙ ap (choose name (content_of (b ∷ bs)) rest) is

pub head_ends : (name text : List ℕ) → 0 < length text → is_in_head (content_of text) ≡ false → comment_value name (head text) ≡ None
head_ends name [] l ends = absurd (omega (arith, l))
head_ends name (b ∷ bs) l ends =
    let rest = head (drop (line_len (b ∷ bs)) (b ∷ bs)) in
    ap (comment_value name) (head_step b bs ∙ ap (with_content (content_of (b ∷ bs)) rest) ends)

-- more lines than the text has bytes are never there
enough : (k m : ℕ) (text : List ℕ) → length text ≤ k → length text ≤ m → head_of k text ≡ head_of m text
enough k m [] h g = no_head k ∙ sym (no_head m)
enough zero m (b ∷ bs) h g = absurd (omega (arith, h))
enough (suc k) zero (b ∷ bs) h g = absurd (omega (arith, g))
enough (suc k) (suc m) (b ∷ bs) h g =
    let text : List ℕ = b ∷ bs in
    let n : ℕ = line_len text in
    let moves = line_len-pos b bs in
    let less : length (drop n text) ≤ length bs = omega (arith, moves, length-drop n text) in
    ap (λ rest. with_content (content_of text) rest (is_in_head (content_of text))) (enough k m (drop n text) (omega (arith, h, less)) (omega (arith, g, less)))

pub page_head_is : (page : List ℕ) → page_head page ≡ head (drop (line_len page) page)
page_head_is page = enough (length page) (length (drop (line_len page) page)) (drop (line_len page) page) (omega (arith, length-drop (line_len page) page)) (omega arith)
