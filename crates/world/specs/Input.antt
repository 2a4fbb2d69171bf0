-- What a source of bytes does, and what is read of it.
use Rattle.std.specs.Prelude.{◌≡◌, ◌+◌, ◌≤◌, ◌==◌, ◌||◌, if◌then◌else◌, Bool, codes, nat_eq, nat_lt, length, ℕ, List, Option, Result, MatchResult, take, drop, IfSome}
use Rattle.std.specs.List.{prefix_len, starts_with}
use Rattle.std.specs.Io.KnownBytes.{Consumes, IsAtEnd, Keeps}
use Rattle.rules.specs.Run.{most_input_bytes}
use Rattle.world.specs.declared.read.ReadFault.{ReadFault}
use Rattle.world.specs.declared.read.ReadFault.TheVariants.{Device, NoMemory}

pub record SourceView : Type 0 where
  -- the bytes still to come, if it reports them
  pub bytes : Option (List ℕ)
  -- how often it has failed
  pub failures : ℕ

-- as many bytes as are read at most: one more than a document may have, so that a longer one is seen to be too long
abbrev pub most_bytes : ℕ
most_bytes = most_input_bytes + 1

-- at Ok the first bytes that remained were moved to the buffer's front, 0 of them only if none remained; at Err none
abbrev pub Fills : {E : Type 0} → (old new : Option (List ℕ)) → Result ℕ E → (buffer : List ℕ) → Type 0
Fills old new r buffer = MatchResult r (λ k. Consumes old new (take k buffer)
    × (k ≡ 0 → IsAtEnd new)) (λ _. Keeps old new)

-- the failures after a call: one more at Err
abbrev pub Counts : {T E : Type 0} → (old new : ℕ) → Result T E → Type 0
Counts old new r = MatchResult r (λ _. new ≡ old) (λ _. new ≡ old + 1)

-- white space (PostScript Language Reference, 3.2)
abbrev pub is_white : ℕ → Bool
is_white b = b == 0 || (b == 9 || (b == 10 || (b == 12 || (b == 13 || b == 32))))

-- white space, or the control character that ends a job for a printer (Ctrl-D), which drivers also write before the first one
abbrev pub is_padding : ℕ → Bool
is_padding b = b == 4 || is_white b

-- a text without its padding before %!, which Ghostscript passes over
abbrev pub unpadded : (text : List ℕ) → List ℕ
unpadded text =
    let after = drop (prefix_len is_padding text) text in if starts_with nat_eq after (codes "%!") then after else text

-- the document in an input: what is too long isn't read whole, and stays so
abbrev pub document_in : (input : List ℕ) → List ℕ
document_in input = if nat_lt most_input_bytes (length input) then input else unpadded input

-- the first n of the bytes that remained, all if there were fewer
abbrev pub IsFirst : (n : ℕ) → Option (List ℕ) → List ℕ → Type 0
IsFirst n remaining bytes = IfSome remaining (λ all. bytes ≡ take n all)

-- n bytes at most were taken from the front of those that remained
abbrev pub ConsumesAtMost : (n : ℕ) → (old new : Option (List ℕ)) → Type 0
ConsumesAtMost n old new = (bytes : List ℕ) × (length bytes ≤ n) × Consumes old new bytes

-- the source failed, or it didn't and memory ran out
abbrev pub IsFaultOf : (old new : ℕ) → ReadFault → Type 0
IsFaultOf old new Device = new ≡ old + 1
IsFaultOf old new NoMemory = new ≡ old
