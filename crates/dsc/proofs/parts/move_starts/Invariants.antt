use Rattle.std.proofs.Common.{◌≡◌, ◌++◌, map, take, drop}
use Rattle.dsc.specs.Later.{later}
use Rattle.dsc.proofs.parts.move_starts.Given as goal

abbrev pub invariant-loop-start : goal.invariant-loop-start
invariant-loop-start l = l.start-items ≡ map (later l.by) (take l.start-index l.initial.start-items) ++ drop l.start-index l.initial.start-items
