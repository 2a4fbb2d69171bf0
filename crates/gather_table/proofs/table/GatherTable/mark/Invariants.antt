use Rattle.gather_table.specs.Steps.{mark_of, wide_mark_of}
use Rattle.gather_table.proofs.table.GatherTable.mark.Given as goal

abbrev pub ghosts-mark_wide : goal.ghosts-mark_wide
ghosts-mark_wide a = record { entry = wide_mark_of a.self.now.layout a.sheet a.slot }

abbrev pub ghosts-mark_narrow : goal.ghosts-mark_narrow
ghosts-mark_narrow a = record { entry = mark_of a.self.now.layout a.sheet a.slot }
