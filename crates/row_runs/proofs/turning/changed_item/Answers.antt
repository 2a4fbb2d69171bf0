use Rattle.std.proofs.Common.{◌∙◌}
use Rattle.row_runs.proofs.Reach.{unchanged_turn}
use Rattle.row_runs.proofs.turning.changed_item.Goals as goal

pub returns-clause-unchanged : goal.returns-clause-unchanged
returns-clause-unchanged c same = c.turned_item.ensures.upright (c.turn_on.ensures ∙ unchanged_turn c.args.turns.now c.args.swap.now c.args.placed.page same)
