use Rattle.std.proofs.Common.{arith, ap, ◌+◌}
use Rattle.sheet_writer.proofs.Fronts.{sheets_handed}
use Rattle.sheet_writer.proofs.writing.write_sheets.Goals as goal

pub overflow_add-result : goal.overflow_add-result
overflow_add-result g c = omega (arith, c.requires.few, c.write_in_pieces-progress.ensures.next)

pub returns-clause-goes_on : goal.returns-clause-goes_on
returns-clause-goes_on g c = λ start stands.
    let given = c.write_in_pieces-progress.result in
    sheets_handed c.args.job.now start _ _ c.args.progress (record given { next = given.next + c.args.count }) c.args.text c.args.count
    (ap (λ n. n + c.args.count) c.write_in_pieces-progress.ensures.next)
    c.requires.within c.requires.text c.requires.going c.write_in_pieces-progress.ensures.handed stands
