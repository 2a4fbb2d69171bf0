-- The first unit of a text, as the code finds it.
use Rattle.std.specs.Prelude.{Ok, not}
use Rattle.std.specs.List.{prefix_len}
use Rattle.std.proofs.Common.{false, if◌then◌else◌, ◌≡◌, ℕ, List, length, take, drop, ap, sym, ◌∙◌}
use Rattle.rules.specs.Units.{is_end, content_of, line_len, fields, begins_block, data_len, block, first_unit}
use Rattle.dsc.proofs.Rows.{taken}

-- the content of the first line
found_content : (text content : List ℕ) (n : ℕ) → n ≡ length (content_of text) → content ≡ take n text → content ≡ content_of text
found_content text content n size front = front ∙ ap (λ k. take k text) size ∙ taken (prefix_len (λ b. not (is_end b)) text) text

-- a line that begins no data
pub found_line : (text content bytes : List ℕ) (n m : ℕ) → n ≡ length (content_of text) → content ≡ take n text → m ≡ line_len text → bytes ≡ take m text
    → begins_block content ≡ false → first_unit text ≡ Ok (record { content = content; bytes = bytes; is_block = false })
found_line text content bytes n m size front len line none =
    let is = sym (found_content text content n size front) in
    ap (λ t. if t then block text (line_len text) (data_len (content_of text) (drop (line_len text) text) (fields (content_of text))) else Ok (record { content = content_of text; bytes = take (line_len text) text; is_block = false })) (ap begins_block is ∙ none)
    ∙ ap (λ c. Ok (record { content = c; bytes = take (line_len text) text; is_block = false })) is
    ∙ ap (λ b. Ok (record { content = content; bytes = b; is_block = false })) (sym (line ∙ ap (λ k. take k text) len))
