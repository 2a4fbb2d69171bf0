-- The paper at home, as papersize(5) has it: the variable PAPERSIZE goes before the file /etc/papersize, of which white space and all from a # to the
-- end of its line are left out. That only the names of this crate are known, and that a4 is taken if none of the two names one, is this project's own
-- rule.
use Rattle.std.specs.Prelude.{ℕ, not, ◌||◌, ◌&&◌, ◌==◌, Bool, false, if◌then◌else◌, List, [], ◌∷◌, take, Option, Some, None}
use Rattle.std.specs.List.{prefix_len}
use Rattle.std.specs.Char.{is_ascii_whitespace}
use Rattle.rules.specs.Papers.{Paper}
use Rattle.lengths.specs.Lengths.{a4}
use Rattle.paper_names.specs.Names.{paper_named}

abbrev pub begins_comment : ℕ → Bool
begins_comment b = b == 35

-- a byte belongs to a word
abbrev pub is_of_word : ℕ → Bool
is_of_word b = not (is_ascii_whitespace b || begins_comment b)

-- whether what follows a byte is in a comment
abbrev pub is_comment_after : (comment : Bool) → ℕ → Bool
is_comment_after comment b = if comment then not (b == 10) else begins_comment b

-- a text, which may begin in a comment, from its first word on
abbrev pub from_word : (comment : Bool) → List ℕ → List ℕ
from_word comment [] = []
from_word comment (b ∷ rest) =
    if not comment && is_of_word b then b ∷ rest else from_word (is_comment_after comment b) rest

abbrev pub word_len : List ℕ → ℕ
word_len text = prefix_len is_of_word text

-- the word that a text begins with
abbrev pub word_at : List ℕ → List ℕ
word_at text = take (word_len text) text

abbrev pub first_word : List ℕ → List ℕ
first_word text = word_at (from_word false text)

abbrev pub first_of : Option Paper → Option Paper → Paper
first_of (Some paper) other = paper
first_of None (Some paper) = paper
first_of None None = a4

-- by the value of the variable and the text of the file, each of which is empty if it isn't there (RULES, 12.1)
abbrev pub default_paper : (variable file : List ℕ) → Paper
default_paper variable file = first_of (paper_named variable) (paper_named (first_word file))
