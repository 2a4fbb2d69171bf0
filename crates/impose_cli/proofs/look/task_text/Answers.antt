use Rattle.std.proofs.Common.{ap, inl}
use Rattle.impose_messages.specs.declared.fault.ImposeFault.TheVariants as fault
use Rattle.impose_cli.specs.Refusals.{IsDocumentRefused}
use Rattle.impose_cli.proofs.look.task_text.Goals as goal

pub returns-in-Err-clause-refused : goal.returns-in-Err-clause-refused
returns-in-Err-clause-refused c =
    let why : IsDocumentRefused c.args.task.now.text.items c.in-Err.error = rw c.as_slice.ensures.value at c.in-Err.ensures.answer in
    inl (c.in-Err.error, ap fault.Run c.from.ensures, why)
