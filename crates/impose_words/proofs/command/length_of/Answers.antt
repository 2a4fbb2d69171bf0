use Rattle.std.proofs.Common.{pos}
use Rattle.impose_words.specs.Sizes.{length_with_unit}
use Rattle.impose_words.specs.Words.{given, rows_in}
use Rattle.impose_words.proofs.Values.{handed_or}
use Rattle.impose_words.proofs.command.length_of.Goals as goal

pub returns-in_err-length : goal.returns-in_err-length
returns-in_err-length c =
    handed_or length_with_unit (given c.args.option (rows_in c.args.found.now)) c.args.option _ (pos 0) c.from_residual.result (λ p v h. h) c.in_err-length.ensures
    c.from_residual.ensures.1
