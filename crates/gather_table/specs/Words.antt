-- The meaning of words: the slots of a sheet, bit k for slot k, and the index of a page.
use Rattle.std.specs.Prelude.{ℕ, zero, suc, Option, Some, None, ◌/◌, ◌%◌, ◌^◌, ◌==◌, Bool, if◌then◌else◌, bit_and}
use Rattle.std.specs.Prelude.{bit_or}
use Rattle.gather_table.specs.declared.answers.Reply.{Reply}
use Rattle.gather_table.specs.declared.answers.Reply.TheVariants.{Fresh, Repeated, Completing}

-- bit i of the number is set
abbrev pub has_bit : ℕ → ℕ → Bool
has_bit n i = n / 2 ^ i % 2 == 1

-- the reply to a mark, given the bits that it found, its own bit, and the bits of a complete sheet
abbrev pub reply_in : ℕ → ℕ → ℕ → Reply
reply_in found bit full = if bit_and found bit == 0
    then (if bit_or found bit == full then Completing else Fresh) else Repeated

-- the index that the word of a page has
abbrev pub index_in : ℕ → Option ℕ
index_in zero = None
index_in (suc i) = Some i
