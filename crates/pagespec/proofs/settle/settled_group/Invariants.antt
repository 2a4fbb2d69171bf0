use Rattle.std.proofs.Common.{◌≡◌, map, take}
use Rattle.pagespec.specs.Items.{item_of}
use Rattle.pagespec.specs.Settled.{item_of_parsed}
use Rattle.pagespec.proofs.settle.settled_group.Given as goal

abbrev pub invariant-loop-item : goal.invariant-loop-item
invariant-loop-item l = map item_of l.group.items ≡ map item_of_parsed (take l.item-index l.parsed)
