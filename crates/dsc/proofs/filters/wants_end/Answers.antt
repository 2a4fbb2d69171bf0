use Rattle.dsc.proofs.Filtering.{end_wanted}
use Rattle.dsc.proofs.filters.wants_end.Goals as goal

pub returns-in-Some : goal.returns-in-Some
returns-in-Some c =
    let i = c.in-Some.ensures.item in
    end_wanted c.args.bytes.now c.in-Some.byte.now 0 c.is_line_end.result i.3.0 (i.3.1 0) c.is_line_end.ensures
