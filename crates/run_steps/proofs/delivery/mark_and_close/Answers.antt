use Rattle.std.proofs.Common.{subst}
use Rattle.rules.specs.Sheets.{Layout}
use Rattle.gather_table.specs.declared.answers.Reply.{Reply}
use Rattle.gather_table.specs.History.{Mark, after_history}
use Rattle.gather_table.specs.Shared.{MadeCall}
use Rattle.gather_table.specs.Table.{IsClosable}
use Rattle.gather_table.proofs.Calls.{filled_may_be_closed}
use Rattle.run_steps.proofs.delivery.mark_and_close.Goals as goal

pub close_group-closing-requires-clause-group : goal.close_group-closing-requires-clause-group
close_group-closing-requires-clause-group c =
    let old = c.args.seat.now in
    let new = c.mark-reply.new.seat in
    subst (λ (l : Layout). IsClosable l (after_history l new.front) c.args.place.0 c.in-Fills.group) c.requires.seat.1
    (filled_may_be_closed old new c.args.place.0 c.args.place.1 c.in-Fills.group
    (subst (λ (r : Reply). MadeCall old (Mark c.args.place.0 c.args.place.1 r) new) c.in-Fills.is c.mark-reply.ensures))
