use Rattle.std.proofs.Common.{◌-◌}
use Rattle.pagespec.proofs.GroupLoops.{GroupsOn}
use Rattle.pagespec.proofs.groups.read_groups.Given as goal

abbrev pub invariant-loop : goal.invariant-loop
invariant-loop l = GroupsOn (l.end - l.counter) l.bytes l.rest l.items.items l.lengths.items
