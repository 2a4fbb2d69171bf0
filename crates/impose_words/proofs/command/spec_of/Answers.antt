use Rattle.std.proofs.Common.{None, sym}
use Rattle.impose_words.specs.Signatures.{signing_named}
use Rattle.impose_words.specs.Words.{given, rows_in}
use Rattle.impose_words.specs.declared.fault.OptionId.TheVariants as opt
use Rattle.impose_words.proofs.Values.{fails, specs_wrong}
use Rattle.impose_words.proofs.command.spec_of.Goals as goal

pub returns-in-Err-clause-refused : goal.returns-in-Err-clause-refused
returns-in-Err-clause-refused c =
    let found = rows_in c.args.found.now in
    c.bad_value.ensures _
    (specs_wrong found c.in-Some.specs.now (sym c.in-Some.ensures.text)
    (fails signing_named (given opt.Signature found) opt.Signature _ None (λ p v h. h) c.in-Err.ensures))
