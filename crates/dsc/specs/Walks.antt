-- The place of a walk over the units of a text, and what it takes for one unit.
use Rattle.std.specs.Prelude.{◌≡◌, ℕ, ◌+◌, ◌<◌, ◌≤◌, ◌⊎◌, false, List, [], length, take, drop, Ok}
use Rattle.rules.specs.Units.{TextUnit, first_unit}
use Rattle.rules.specs.Parts.{depth_after}
use Rattle.dsc.specs.Plain.{BeginsPlain}

-- a place in a text: what is left from there on, the byte at which that begins, and the depth there
pub record WalkPlace : Type 0 where
  pub rest : List ℕ
  pub at : ℕ
  pub depth : ℕ

abbrev pub walk_start : List ℕ → WalkPlace
walk_start text = record { rest = text; at = 0; depth = 0 }

abbrev pub past_unit : TextUnit → WalkPlace → WalkPlace
past_unit u p = record { rest = drop (length u.bytes) p.rest; at = p.at + length u.bytes; depth = depth_after p.depth u }

-- a text has under 2^64 bytes, and there are at most as many open documents as bytes that were passed
abbrev pub IsShallow : List ℕ → (at depth : ℕ) → Type 0
IsShallow rest at depth = (depth ≤ at) × (at + length rest < 18_446_744_073_709_551_616)

-- the first n bytes as one line without content
abbrev pub passed : ℕ → List ℕ → TextUnit
passed n text = record { content = []; bytes = take n text; is_block = false }

-- the text begins with this unit, or with lines that mean nothing, taken together
abbrev pub IsPiece : TextUnit → List ℕ → Type 0
IsPiece u text = (first_unit text ≡ Ok u)
    ⊎ ((n : ℕ) × (u ≡ passed n text) × (0 < n) × (n ≤ length text) × BeginsPlain n text)

pub record IsPieceOf (u : TextUnit) (text : List ℕ) : Type 0 where
  pub is : IsPiece u text
  pub some : 0 < length u.bytes
  pub within : length u.bytes ≤ length text
