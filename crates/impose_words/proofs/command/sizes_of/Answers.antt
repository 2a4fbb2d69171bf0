use Rattle.std.proofs.Common.{None, refl}
use Rattle.pagespec.specs.declared.item.Turn.TheVariants as turn
use Rattle.impose_words.specs.Arranging.{turn_named}
use Rattle.impose_words.specs.Sizes.{border_with_unit, size_named}
use Rattle.impose_words.specs.Words.{given, rows_in}
use Rattle.impose_words.specs.declared.fault.OptionId.TheVariants as opt
use Rattle.impose_words.specs.declared.request.Turning.TheVariants as turning
use Rattle.impose_words.proofs.Values.{fails_or, handed_wrong, past, reads, reads_or}
use Rattle.impose_words.proofs.command.sizes_of.Goals as goal

pub returns-in_err-border-clause-wrong : goal.returns-in_err-border-clause-wrong
returns-in_err-border-clause-wrong c =
    let found = rows_in c.args.found.now in
    handed_wrong c.from_residual-in_err-border.result _ c.from_residual-in_err-border.ensures.1
    (past _ (reads size_named (given opt.Paper found) opt.Paper _ (λ p v h. h) c.in_ok-page_paper.ensures)
    (past _ (reads size_named (given opt.Sheet found) opt.Sheet _ (λ p v h. h) c.in_ok-sheet_paper.ensures)
    (fails_or border_with_unit (given opt.Border found) opt.Border _ None _ (λ p v h. h) c.in_err-border.ensures)))

pub returns-in_err-turn-clause-wrong : goal.returns-in_err-turn-clause-wrong
returns-in_err-turn-clause-wrong c =
    let found = rows_in c.args.found.now in
    handed_wrong c.from_residual-in_err-turn.result _ c.from_residual-in_err-turn.ensures.1
    (past _ (reads size_named (given opt.Paper found) opt.Paper _ (λ p v h. h) c.in_ok-page_paper.ensures)
    (past _ (reads size_named (given opt.Sheet found) opt.Sheet _ (λ p v h. h) c.in_ok-sheet_paper.ensures)
    (past _ (reads_or border_with_unit (given opt.Border found) opt.Border _ None (λ p v h. h) c.in_ok-border.ensures)
    (fails_or turn_named (given opt.Turn found) opt.Turn _ (turning.All turn.None) _ (λ p v h. h) c.in_err-turn.ensures))))

pub returns-clause-wrong : goal.returns-clause-wrong
returns-clause-wrong c =
    let found = rows_in c.args.found.now in
    past _ (reads size_named (given opt.Paper found) opt.Paper _ (λ p v h. h) c.in_ok-page_paper.ensures)
    (past _ (reads size_named (given opt.Sheet found) opt.Sheet _ (λ p v h. h) c.in_ok-sheet_paper.ensures)
    (past _ (reads_or border_with_unit (given opt.Border found) opt.Border _ None (λ p v h. h) c.in_ok-border.ensures)
    (past _ (reads_or turn_named (given opt.Turn found) opt.Turn _ (turning.All turn.None) (λ p v h. h) c.in_ok-turn.ensures) refl)))
