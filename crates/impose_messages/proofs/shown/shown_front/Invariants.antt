use Rattle.std.proofs.Common.{◌≡◌, map, take}
use Rattle.impose_messages.specs.Said.{shown_byte}
use Rattle.impose_messages.proofs.shown.shown_front.Given as goal

abbrev pub invariant-loop-b : goal.invariant-loop-b
invariant-loop-b l = l.shown.items ≡ map shown_byte (take l.b-index l.front)
