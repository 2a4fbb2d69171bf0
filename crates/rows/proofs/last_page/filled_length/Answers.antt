use Rattle.std.proofs.Common.{◌∙◌, ◌*◌, ap, min}
use Rattle.rules.specs.Choice.{most_entries}
use Rattle.rules.specs.Sheets.{blocks}
use Rattle.rows.proofs.InBlocks.{ceil}
use Rattle.rows.proofs.last_page.filled_length.Goals as goal

pub returns-clause-value : goal.returns-clause-value
returns-clause-value c =
    let n = c.args.entries in
    c.min.ensures
    ∙ ap (λ q. min (q * c.sides-sides.result) most_entries)
    (c.div_ceil.ensures ∙ ceil n c.sides-sides.result c.sides-sides.ensures.are_sides.0)
    ∙ ap (λ s. min (blocks s n * s) most_entries) c.sides-sides.ensures.value
