use Rattle.std.proofs.Common.{take}
use Rattle.impose_cli.proofs.program.home_of.Goals as goal

pub returns-clause-home : goal.returns-clause-home
returns-clause-home g c =
    (take c.front_of-count.result c.front_of-count.new.front, c.front_of-count.ensures.looks, c.default_paper.ensures)
