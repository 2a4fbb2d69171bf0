use Rattle.std.proofs.Common.{None}
use Rattle.impose_words.specs.Signatures.{signing_named}
use Rattle.impose_words.specs.Words.{given, rows_in}
use Rattle.impose_words.specs.declared.fault.OptionId.TheVariants as opt
use Rattle.impose_words.proofs.Values.{fails}
use Rattle.impose_words.proofs.command.booklet_of.Goals as goal

pub returns-in-Err-clause-refused : goal.returns-in-Err-clause-refused
returns-in-Err-clause-refused c =
    c.bad_value.ensures _ (fails signing_named (given opt.Signature (rows_in c.args.found.now)) opt.Signature _ None (λ p v h. h) c.in-Err.ensures)
