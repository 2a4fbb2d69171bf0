-- The dress of an output: lines that are added to its text, in three places. These are rules of this project.
use Rattle.std.specs.Prelude.{ℕ, List, [], flat_map}
use Rattle.rules.specs.Bytes.{line}
use Rattle.rules.specs.Papers.{Paper}

-- lines after the line %%Pages; lines at the start of each sheet, after its page line; and lines at its end, before
-- its showpage. The lines of a sheet depend on its number, counted from 0, and on its paper
pub record Dress : Type 0 where
  pub header : List (List ℕ)
  pub start : (sheet : ℕ) → Paper → List (List ℕ)
  pub finish : (sheet : ℕ) → Paper → List (List ℕ)

-- no lines
abbrev pub undressed : Dress
undressed = record { header = []; start = λ s paper. []; finish = λ s paper. [] }

abbrev pub lines_text : List (List ℕ) → List ℕ
lines_text lines = flat_map line lines
