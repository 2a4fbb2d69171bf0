-- Lines that mean nothing for the parts of a document, and that no filter drops.
use Rattle.std.specs.Prelude.{◌≡◌, ℕ, zero, suc, ◌+◌, ◌-◌, ◌<◌, ◌≤◌, false, nat_eq, if◌then◌else◌, codes, List, length}
use Rattle.std.specs.Prelude.{drop, slice_index}
use Rattle.std.specs.List.{starts_with}
use Rattle.rules.specs.Units.{is_end, content_of, line_len}

-- this many first lines of the text, none of which begins with two percent signs, have n bytes
abbrev pub ArePlain : (lines : ℕ) → (n : ℕ) → List ℕ → Type 0
ArePlain zero n text = n ≡ 0
ArePlain (suc lines) n text =
    (0 < length text) × (starts_with nat_eq (content_of text) (codes "%%") ≡ false) × (line_len text ≤ n)
    × ArePlain lines (n - line_len text) (drop (line_len text) text)

-- the first n bytes are whole lines, none of which begins with two percent signs
abbrev pub BeginsPlain : ℕ → List ℕ → Type 0
BeginsPlain n text = (lines : ℕ) × ArePlain lines n text

-- where the next line begins, from a byte on that is no line feed: at that byte, if it follows a line end
abbrev pub next_line : ℕ → List ℕ → ℕ
next_line zero text = 0
next_line (suc k) text = if is_end (slice_index text k) then suc k else suc k + line_len (drop (suc k) text)
