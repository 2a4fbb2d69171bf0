-- The header comments of a document: its first line and the comments after it. The rule is one of this project; the
-- form of header comments, and that %%EndComments ends them, is of DSC, General Header Comments.
use Rattle.std.specs.Prelude.{ℕ, zero, suc, ◌+◌, Bool, false, not, ◌&&◌, ◌||◌, ◌==◌, nat_eq, nat_le, if◌then◌else◌}
use Rattle.std.specs.Prelude.{List, [], ◌∷◌, length, drop, codes}
use Rattle.std.specs.List.{starts_with}
use Rattle.rules.specs.Units.{content_of, line_len, key, has_key, is_comment}

-- a percent sign and a printable character
abbrev pub is_header : List ℕ → Bool
is_header [] = false
is_header (a ∷ []) = false
is_header (a ∷ b ∷ rest) = (a == 37) && (nat_le 33 b && nat_le b 126)

-- the header comments end before such a line
abbrev pub ends_header : List ℕ → Bool
ends_header content =
    starts_with nat_eq (key content) (codes "%%Begin")
    || (is_comment (codes "%%Page") content || has_key (codes "%%Trailer" ∷ codes "%%EOF" ∷ []) content)

-- such a line continues the header comments
abbrev pub stays : List ℕ → Bool
stays content = is_header content && not (ends_header content)

-- the header comments end with such a line
abbrev pub is_last : List ℕ → Bool
is_last content = has_key (codes "%%EndComments" ∷ []) content

-- the length of the run of header comments at the start of these bytes, with at most this many lines
abbrev pub run_len : ℕ → List ℕ → ℕ
run_len zero text = 0
run_len (suc most) text =
    let content = content_of text in
    let n = line_len text in
    if stays content then (if is_last content then n else n + run_len most (drop n text)) else 0

-- the length of that run; a line has at least one byte, so there are no more lines than bytes
abbrev pub header_run : List ℕ → ℕ
header_run text = run_len (length text) text

-- the length of the header comments: the first line, and the run after it
abbrev pub header_len : List ℕ → ℕ
header_len text = let n = line_len text in n + header_run (drop n text)
