use Rattle.std.proofs.Common.{◌∙◌, ap, length}
use Rattle.rules.specs.Choice.{part_of}
use Rattle.rows.specs.Choices.{part_named}
use Rattle.rows.proofs.Alternate.{odd_count, even_count}
use Rattle.rows.proofs.choices.part_count.Goals as goal

pub returns-in-Odd : goal.returns-in-Odd
returns-in-Odd c = λ row len. ap (λ p. length (part_of (part_named p) row)) c.in-Odd.is ∙ odd_count row c.args.entries c.div_ceil.result len c.div_ceil.ensures

pub returns-in-Even : goal.returns-in-Even
returns-in-Even c = λ row len. ap (λ p. length (part_of (part_named p) row)) c.in-Even.is ∙ even_count row c.args.entries len
