use Rattle.std.proofs.Common.{drop}
use Rattle.pagespec.specs.Items.{groups_of}
use Rattle.pagespec.proofs.Settling.{SettlesOn}
use Rattle.pagespec.proofs.settle.settled_groups.Given as goal

abbrev pub invariant-loop-length : goal.invariant-loop-length
invariant-loop-length l = SettlesOn l.lengths (drop l.length-index l.lengths) l.parsed l.rest (groups_of l.groups.items)
