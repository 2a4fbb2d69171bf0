use Rattle.gather_table.proofs.table.GatherTable.meet.Given as goal

abbrev pub ghosts-meet_as : goal.ghosts-meet_as
ghosts-meet_as a = record { first = a.one.own; second = a.two.own; share = a.two.share }
