use Rattle.rules.specs.Choice.{most_entries}
use Rattle.rows.specs.Choices.{part_named, named_found}
use Rattle.rows.proofs.Alternate.{chosen_few}
use Rattle.rows.proofs.choices.chosen_row.Goals as goal

pub returns-in-Ok-clause-few : goal.returns-in-Ok-clause-few
returns-in-Ok-clause-few c =
    let choice = c.args.choice.now in
    chosen_few choice.backwards (part_named choice.part) (named_found c.args.pages choice.ranges) _ c.in_ok-entries.entries most_entries c.in-Ok.ensures c.in_ok-entries.ensures.count c.in_ok-entries.ensures.few
