use Rattle.std.proofs.Common.{◌≡◌, ◌++◌, take, drop}
use Rattle.lengths.specs.Reading.{digits, past_digits}
use Rattle.lengths.proofs.read.digits_len.Given as goal

abbrev pub invariant-loop-i : goal.invariant-loop-i
invariant-loop-i l = record { front : digits l.bytes ≡ take l.i l.bytes ++ digits (drop l.i l.bytes); rest : past_digits l.bytes ≡ past_digits (drop l.i l.bytes) }
