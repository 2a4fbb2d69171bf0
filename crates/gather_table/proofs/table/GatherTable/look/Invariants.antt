use Rattle.gather_table.specs.Steps.{look_of, wide_look_of}
use Rattle.gather_table.proofs.table.GatherTable.look.Given as goal

abbrev pub ghosts-look_wide : goal.ghosts-look_wide
ghosts-look_wide a = record { entry = wide_look_of a.self.now.layout a.sheet }

abbrev pub ghosts-look_narrow : goal.ghosts-look_narrow
ghosts-look_narrow a = record { entry = look_of a.self.now.layout a.sheet }
