use Rattle.std.proofs.Common.{rules, ◌∙◌, ◌≤◌, length, sym}
use Rattle.rules.specs.Run.{most_sheets}
use Rattle.row_runs.specs.Reaching.{is_changed}
use Rattle.row_runs.proofs.Reach.{changed_if}
use Rattle.row_runs.proofs.reaching.check_reach.Goals as goal

pub returns-else-are_reached-clause-refused : goal.returns-else-are_reached-clause-refused
returns-else-are_reached-clause-refused c =
    let few : length c.args.sheets.now ≤ most_sheets = search rules in (
      changed_if (is_changed c.args.turns.now c.args.swap.now) c.are_reached.result c.if-are_reached.false c.are_reached.ensures.unchanged,
      few,
      sym c.are_reached.ensures.reached ∙ c.if-are_reached.false,
    )
