-- A text that is a number as a whole is read as a whole.
use Rattle.std.proofs.Common.{arith, ℕ, List, length, sym, subst}
use Rattle.std.specs.Prelude.{ℤ, Ok}
use Rattle.std.proofs.lemmas.List.{take_all}
use Rattle.rules.specs.Numbers.{IsNumber, IsNumberRead, scale_text, number_text}
use Rattle.rules.proofs.Printed.{printed_is_number, number_text_is_number}
use Rattle.lengths.specs.Ranges.{FitsNumber}
use Rattle.lengths.specs.Printed.{IsReadAgain}
use Rattle.lengths.proofs.Scans.{not_large}

read_whole : (text : List ℕ) (v : ℤ) → FitsNumber v → IsNumber text v → IsNumberRead text (Ok (v, length text))
read_whole text v fits is = (
  record {
    within = omega arith;
    number = subst (λ t. IsNumber t v) (sym (take_all (length text) text (omega arith))) is;
    longest = λ k other more within other_is. omega arith;
  },
  not_large v fits,
)

pub scale_read : IsReadAgain scale_text
scale_read v fits = read_whole (scale_text v) v fits (printed_is_number v (omega arith))

pub number_read : IsReadAgain number_text
number_read v fits = read_whole (number_text v) v fits (number_text_is_number v (omega arith))
