use Rattle.gather_table.specs.Steps.{close_of}
use Rattle.gather_table.proofs.table.GatherTable.close_group.Given as goal

abbrev pub ghosts-close_as : goal.ghosts-close_as
ghosts-close_as a = record { entry = close_of a.self.now.layout a.sheet a.group }
