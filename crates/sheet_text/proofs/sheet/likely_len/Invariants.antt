use Rattle.std.proofs.Common.{◌+◌, ◌≤◌, sum_by, take}
use Rattle.rules.specs.Parts.{pages}
use Rattle.sheet_text.specs.Jobs.{slots_of}
use Rattle.sheet_text.specs.Rooms.{slot_room}
use Rattle.sheet_text.proofs.sheet.likely_len.Given as goal

abbrev pub invariant-loop-slot : goal.invariant-loop-slot
invariant-loop-slot l = l.len ≤ 64 + sum_by (slot_room (pages l.job.units)) (take l.slot (slots_of l.job l.sheet))
