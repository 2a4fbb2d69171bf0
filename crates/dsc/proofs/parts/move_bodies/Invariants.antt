use Rattle.std.proofs.Common.{◌≡◌, ◌++◌, map, take, drop}
use Rattle.dsc.specs.Later.{later_found}
use Rattle.dsc.proofs.parts.move_bodies.Given as goal

abbrev pub invariant-loop-body : goal.invariant-loop-body
invariant-loop-body l = l.body-items ≡ map (later_found l.by) (take l.body-index l.initial.body-items) ++ drop l.body-index l.initial.body-items
