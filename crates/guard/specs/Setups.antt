-- Whether a document's setup scales, turns or moves its pages: by an operator that it calls outside procedures (PostScript Language
-- Reference, third edition: 3.2 has the syntax of tokens, 8.1 the operators on coordinate systems and on saved states).
use Rattle.std.specs.Prelude.{ℕ, zero, suc, ◌+◌, ◌-◌, ◌==◌, nat_le, nat_lt, Bool, not, ◌&&◌, ◌||◌, is_some, if◌then◌else◌, List, [], ◌∷◌, length, take}
use Rattle.std.specs.Prelude.{codes, Some, None, option_and_then, unwrap_or}
use Rattle.std.specs.List.{prefix_len}
use Rattle.std.specs.Str.{bytes_eq}
use Rattle.rules.specs.Bytes.{closing_parenthesis, line_feed, carriage_return, opening_parenthesis, space, tab}
use Rattle.rules.specs.Units.{begins_block, is_comment}
use Rattle.dsc.specs.Strings.{string_len}
use Rattle.guard.specs.declared.setup.Level.{Level}

-- ---- tokens

-- a comment ends at a newline or a form feed
abbrev pub ends_comment : ℕ → Bool
ends_comment b = (b == line_feed) || ((b == carriage_return) || (b == 12))

-- white-space characters; null and form feed are two of them
abbrev pub is_white : ℕ → Bool
is_white b = (b == space) || ((b == tab) || (ends_comment b || (b == 0)))

-- parentheses, angle brackets, square brackets, braces, the slash and the percent sign
abbrev pub is_delimiter : ℕ → Bool
is_delimiter b = (b == opening_parenthesis) || ((b == closing_parenthesis) || ((b == 60) || ((b == 62) || ((b == 91) || ((b == 93)
    || ((b == 123) || ((b == 125) || ((b == 47) || (b == 37)))))))))

abbrev pub is_regular : ℕ → Bool
is_regular b = not (is_white b) && not (is_delimiter b)

-- how many bytes of the rest belong to a string that begins with this byte: all, if the string isn't closed
abbrev pub in_string : (first : ℕ) → (rest : List ℕ) → ℕ
in_string first rest = unwrap_or (string_len (first ∷ rest)) (length (first ∷ rest)) - 1

-- how many bytes are before the first tilde, with which a string in base 85 ends
abbrev pub before_tilde : List ℕ → ℕ
before_tilde text = prefix_len (λ b. not (b == 126)) text

-- the same of a string in base 85: its first tilde, and its digits
abbrev pub in_base_85 : (rest : List ℕ) → ℕ
in_base_85 [] = 0
in_base_85 (b ∷ digits) = if b == 126 then 1 + before_tilde digits else 0

-- the same of a token or a comment, by its first byte: a percent sign, a parenthesis, an angle bracket, a slash or a byte of a name. All
-- others are by themselves
abbrev pub more_bytes : (text : List ℕ) → ℕ
more_bytes [] = 0
more_bytes (first ∷ rest) =
    if first == 37 then prefix_len (λ b. not (ends_comment b)) rest
    else if first == opening_parenthesis then in_string first rest
    else if first == 60 then in_base_85 rest
    else if (first == 47) || is_regular first then prefix_len is_regular rest
    else 0

-- the tokens and comments of a text, after so many bytes of it; a byte of white space counts as one, and so does each bracket
abbrev pub tokens_after : ℕ → List ℕ → List (List ℕ)
tokens_after passed [] = []
tokens_after zero (b ∷ rest) = let n = more_bytes (b ∷ rest) in (b ∷ take n rest) ∷ tokens_after n rest
tokens_after (suc passed) (b ∷ rest) = tokens_after passed rest

abbrev pub tokens : List ℕ → List (List ℕ)
tokens text = tokens_after 0 text

-- ---- operators at the setup's own level

-- a graphics state is saved
abbrev pub is_save : List ℕ → Bool
is_save token = bytes_eq token (codes "gsave") || bytes_eq token (codes "save")

-- and comes back
abbrev pub is_restore : List ℕ → Bool
is_restore token = bytes_eq token (codes "grestore") || bytes_eq token (codes "restore")

-- the axes of the page are scaled, turned or moved
abbrev pub is_move : List ℕ → Bool
is_move token = bytes_eq token (codes "scale") || (bytes_eq token (codes "translate") || (bytes_eq token (codes "rotate")
    || (bytes_eq token (codes "concat") || bytes_eq token (codes "setmatrix"))))

-- the last saved state comes back: no move is left that was made in a state saved later
abbrev pub restored : Level → Level
restored l = let saves = l.saves - 1 in
    record { procedures = l.procedures; saves = saves; moved = option_and_then (λ at. if nat_le at saves then Some at else None) l.moved }

-- a token outside procedures
abbrev pub called : Level → List ℕ → Level
called l token =
    if is_save token then record { procedures = l.procedures; saves = l.saves + 1; moved = l.moved }
    else if is_restore token then restored l
    else if is_move token then record { procedures = l.procedures; saves = l.saves; moved = Some (unwrap_or l.moved l.saves) }
    else l

-- any token
abbrev pub after : Level → List ℕ → Level
after l token =
    if bytes_eq token (codes "{") then record { procedures = l.procedures + 1; saves = l.saves; moved = l.moved }
    else if bytes_eq token (codes "}") then record { procedures = l.procedures - 1; saves = l.saves; moved = l.moved }
    else if nat_lt 0 l.procedures then l else called l token

-- a comment after which no more is looked at: the first page's, or one that begins data
abbrev pub ends_setup : List ℕ → Bool
ends_setup token = is_comment (codes "%%Page") token || begins_block token

abbrev pub at_end : Level → List (List ℕ) → Level
at_end l [] = l
at_end l (token ∷ rest) = if ends_setup token then l else at_end (after l token) rest

abbrev pub outermost : Level
outermost = record { procedures = 0; saves = 0; moved = None }

-- the axes are scaled, turned or moved where the first page begins
abbrev pub places_pages : List ℕ → Bool
places_pages text = is_some (at_end outermost (tokens text)).moved
