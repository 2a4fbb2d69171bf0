use Rattle.std.proofs.Common.{sym, subst}
use Rattle.std.specs.List.{AllPass}
use Rattle.std.specs.Char.{is_ascii_digit}
use Rattle.lengths.proofs.Digits.{digits_pass}
use Rattle.lengths.proofs.read.read_digits.Goals as goal

pub capped-requires : goal.capped-requires
capped-requires c = subst (AllPass is_ascii_digit) (sym c.split_digits.ensures.front) (digits_pass c.args.bytes.now)
