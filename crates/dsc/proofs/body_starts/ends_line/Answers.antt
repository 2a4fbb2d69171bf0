use Rattle.dsc.proofs.BodyMarks.{line_of_last}
use Rattle.dsc.proofs.body_starts.ends_line.Goals as goal

pub returns-in-Some : goal.returns-in-Some
returns-in-Some c =
    let i = c.in-Some.ensures.item in
    line_of_last c.args.bytes.now c.in-Some.byte.now 0 c.args.was c.is_line_end.result i.3.0 (i.3.1 0) c.is_line_end.ensures
