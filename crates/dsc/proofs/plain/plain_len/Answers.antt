use Rattle.std.proofs.Common.{sym, subst}
use Rattle.dsc.specs.Plain.{BeginsPlain}
use Rattle.dsc.proofs.PlainLines.{passed_all, passed_some}
use Rattle.dsc.proofs.plain.plain_len.Goals as goal

pub returns-in-None-clause-plain : goal.returns-in-None-clause-plain
returns-in-None-clause-plain c = passed_all c.args.text.now c.args.percent_signs.now c.requires c.in-None.ensures

pub returns-in-Some-clause-plain : goal.returns-in-Some-clause-plain
returns-in-Some-clause-plain c =
    subst (λ n. BeginsPlain n c.args.text.now) (sym c.next_line.ensures.value) (passed_some c.args.text.now c.args.percent_signs.now c.in-Some.at c.requires c.in-Some.ensures)
