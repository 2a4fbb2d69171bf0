use Rattle.gather_table.specs.Steps.{look_group_of}
use Rattle.gather_table.proofs.table.GatherTable.look_group.Given as goal

abbrev pub ghosts-look_group_as : goal.ghosts-look_group_as
ghosts-look_group_as a = record { entry = look_group_of a.self.now.layout a.sheet a.group }
