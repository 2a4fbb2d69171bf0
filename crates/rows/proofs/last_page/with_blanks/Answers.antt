use Rattle.std.proofs.Common.{arith}
use Rattle.rows.proofs.LastPage.{filled_before}
use Rattle.rows.proofs.last_page.with_blanks.Goals as goal

pub returns-in_ok-push-in-Some-clause-row : goal.returns-in_ok-push-in-Some-clause-row
returns-in_ok-push-in-Some-clause-row c =
    filled_before c.pop.new.self.items c.args.row.items c.resize.new.self.items c.push.new.self.items c.in-Some.last c.args.filled c.pop.new.self.len
    c.in-Some.ensures.items c.requires.more (omega (arith, c.pop.new.self.ok.0)) c.in_ok-resize-in-Some.ensures.items c.in_ok-push-in-Some.ensures.items
