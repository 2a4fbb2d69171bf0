use Rattle.std.proofs.Common.{◌≡◌, take}
use Rattle.std.specs.Prelude.{fold}
use Rattle.dsc.specs.Strings.{code_with}
use Rattle.dsc.proofs.strings.code_of.Given as goal

abbrev pub invariant-loop-digit : goal.invariant-loop-digit
invariant-loop-digit l = l.code ≡ fold code_with 0 (take l.digit-index l.digits)
