use Rattle.std.proofs.Common.{◌-◌}
use Rattle.pagespec.proofs.GroupLoops.{KeepsOn}
use Rattle.pagespec.proofs.groups.read_group.Given as goal

abbrev pub invariant-loop-i : goal.invariant-loop-i
invariant-loop-i l = KeepsOn (l.i-end - l.i) l.bytes l.rest l.initial.items.items l.items.items l.i
