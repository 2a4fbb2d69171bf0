use Rattle.std.proofs.Common.{subst, ℕ}
use Rattle.rules.specs.Sheets.{Layout}
use Rattle.gather_table.specs.Table.{IsClosable}
use Rattle.gather_table.specs.History.{LookGroup, after_history}
use Rattle.gather_table.specs.Shared.{MadeCall}
use Rattle.gather_table.proofs.GroupLooks.{looked_may_be_closed}
use Rattle.test_runs.proofs.tests.callers.tables.close_checked.Goals as goal

pub close_group-requires-clause-group : goal.close_group-requires-clause-group
close_group-requires-clause-group c =
    subst (λ (l : Layout). IsClosable l (after_history l c.look_group.new.seat.front) c.args.sheet c.args.group) c.requires.seat.1
    (looked_may_be_closed c.args.seat.now c.look_group.new.seat c.args.sheet c.args.group
    (subst (λ (n : ℕ). MadeCall c.args.seat.now (LookGroup c.args.sheet c.args.group n) c.look_group.new.seat) c.if-look_group-ne0.false c.look_group.ensures))
