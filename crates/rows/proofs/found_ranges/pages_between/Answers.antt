use Rattle.std.proofs.Common.{arith}
use Rattle.rows.proofs.Between.{pages_up, pages_down}
use Rattle.rows.proofs.found_ranges.pages_between.Goals as goal

pub returns-then-first-last-clause-value : goal.returns-then-first-last-clause-value
returns-then-first-last-clause-value c = omega (arith, pages_up c.args.first c.args.last c.if-first-last.true, c.from.ensures)

pub returns-else-first-last-clause-value : goal.returns-else-first-last-clause-value
returns-else-first-last-clause-value c = omega (arith, pages_down c.args.first c.args.last (omega (arith, c.if-first-last.false)), c.from-else-first-last.ensures)
