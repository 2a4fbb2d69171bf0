use Rattle.std.proofs.Common.{arith, ap, sym, ◌∙◌, append-nil}
use Rattle.sheet_text.specs.Jobs.{text_of}
use Rattle.sheet_writer.proofs.Fronts.{starves}
use Rattle.sheet_writer.proofs.Places.{one_without}
use Rattle.sheet_writer.proofs.writing.write_next.Goals as goal

pub write_sheets-requires-clause-within : goal.write_sheets-requires-clause-within
write_sheets-requires-clause-within g c = let few = c.in-Some.ensures.count in let within = c.requires.within in omega (arith, few, within)

pub write_sheets-requires-clause-text : goal.write_sheets-requires-clause-text
write_sheets-requires-clause-text g c = c.in-Some.ensures.text c.args.job.now c.requires.early

pub returns-in-Some-clause-goes_on : goal.returns-in-Some-clause-goes_on
returns-in-Some-clause-goes_on g c = c.write_sheets.ensures.goes_on

pub returns-in-Some-clause-next : goal.returns-in-Some-clause-next
returns-in-Some-clause-next g c = λ going. let one = c.in-Some.ensures.count in let next = c.write_sheets.ensures.next in omega (arith, one, next)

pub returns-in-Some-clause-swept : goal.returns-in-Some-clause-swept
returns-in-Some-clause-swept g c = let none = ap one_without c.in-Some.ensures.came in let swept = c.write_sheets.ensures.swept in omega (arith, none, swept)

pub write_sheets-requires-in-Ok-clause-text : goal.write_sheets-requires-in-Ok-clause-text
write_sheets-requires-in-Ok-clause-text g c = c.pieces.ensures ∙ (c.in-Ok.ensures ∙ sym (append-nil (text_of c.args.job.now c.args.progress.next)))

pub returns-in-Ok-clause-goes_on : goal.returns-in-Ok-clause-goes_on
returns-in-Ok-clause-goes_on g c = c.write_sheets-in-Ok.ensures.goes_on

pub returns-in-Ok-clause-swept : goal.returns-in-Ok-clause-swept
returns-in-Ok-clause-swept g c = let one = ap one_without c.in_default.ensures.came in let swept = c.write_sheets-in-Ok.ensures.swept in omega (arith, one, swept)

pub returns-in-Err-clause-goes_on : goal.returns-in-Err-clause-goes_on
returns-in-Err-clause-goes_on g c = λ start stands.
    starves c.args.job.now start _ c.args.progress _ _ c.requires.going c.halted.ensures stands

pub returns-in-Err-clause-swept : goal.returns-in-Err-clause-swept
returns-in-Err-clause-swept g c = let one = ap one_without c.in_default.ensures.came in let swept = ap (λ p. p.swept) c.halted.ensures in omega (arith, one, swept)
