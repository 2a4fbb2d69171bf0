use Rattle.std.proofs.Common.{rules, ◌∙◌, None, ap, refl}
use Rattle.std.specs.Option.{ok_or}
use Rattle.impose_words.specs.Arranging.{number_size_named}
use Rattle.impose_words.specs.Words.{first_found, given, has_numbers, rows_in}
use Rattle.impose_words.specs.declared.fault.OptionId.TheVariants as opt
use Rattle.impose_words.proofs.Values.{err_is, handed_wrong, numbers_wrong, ok_is, past, reads}
use Rattle.impose_words.proofs.command.numbering_option.Goals as goal

pub returns-in_err-first-clause-wrong : goal.returns-in_err-first-clause-wrong
returns-in_err-first-clause-wrong c =
    let found = rows_in c.args.found.now in
    handed_wrong c.from_residual-in_err-first.result _ c.from_residual-in_err-first.ensures.1
    (numbers_wrong (has_numbers c.args.layout.now) found (search rules)
    (past _ (reads number_size_named (given opt.Numbers found) opt.Numbers _ (λ p v h. h) c.in_ok-size.ensures)
    (err_is (first_found found) opt.NumbersFrom _ None (c.in_err-first.ensures.value ∙ ap (λ v. ok_or v opt.NumbersFrom) c.first_of.ensures))))

pub returns-clause-wrong : goal.returns-clause-wrong
returns-clause-wrong c =
    let found = rows_in c.args.found.now in
    numbers_wrong (has_numbers c.args.layout.now) found (search rules)
    (past _ (reads number_size_named (given opt.Numbers found) opt.Numbers _ (λ p v h. h) c.in_ok-size.ensures)
    (past _ (ok_is (first_found found) opt.NumbersFrom _ (c.in_ok-first.ensures.value ∙ ap (λ v. ok_or v opt.NumbersFrom) c.first_of.ensures)) refl))
