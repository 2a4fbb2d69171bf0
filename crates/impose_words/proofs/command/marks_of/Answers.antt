use Rattle.std.proofs.Common.{ap₂}
use Rattle.impose_words.specs.Arranging.{marks_and_numbers}
use Rattle.impose_words.proofs.Found.{at_once, next}
use Rattle.impose_words.proofs.Values.{handed_wrong}
use Rattle.impose_words.proofs.command.marks_of.Goals as goal

pub returns-in_err-lines-clause-wrong : goal.returns-in_err-lines-clause-wrong
returns-in_err-lines-clause-wrong c = handed_wrong c.from_residual.result _ c.from_residual.ensures.1 (at_once _ c.in_err-lines.ensures.wrong)

pub returns-in_err-numbers-clause-wrong : goal.returns-in_err-numbers-clause-wrong
returns-in_err-numbers-clause-wrong c =
    handed_wrong c.from_residual-in_err-numbers.result _ c.from_residual-in_err-numbers.ensures.1
    (next c.in_ok-lines.ensures.wrong c.in_err-numbers.ensures.wrong)

pub returns-clause-read : goal.returns-clause-read
returns-clause-read c = ap₂ marks_and_numbers c.in_ok-lines.ensures.read c.in_ok-numbers.ensures.read

pub returns-clause-wrong : goal.returns-clause-wrong
returns-clause-wrong c = next c.in_ok-lines.ensures.wrong c.in_ok-numbers.ensures.wrong
