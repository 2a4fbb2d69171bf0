use Rattle.dsc.proofs.DataLengths.{data_short}
use Rattle.dsc.proofs.units.data_len.Goals as goal

pub returns-then-rest-count-clause-length : goal.returns-then-rest-count-clause-length
returns-then-rest-count-clause-length c = data_short c.args.may_count_lines c.args.rest.now _ _ _ _ _ c.in-Some.ensures c.in-Some-count_in.ensures c.if-rest-count.true
