use Rattle.std.proofs.Common.{Some}
use Rattle.handover.proofs.ready.Ready.split_with_room.Given as goal

abbrev pub ghosts-cut : goal.ghosts-cut
ghosts-cut a = record { number = a.give; room = Some a.room }
