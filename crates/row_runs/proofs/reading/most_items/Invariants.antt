use Rattle.std.proofs.Common.{◌≡◌, ◌≤◌, take}
use Rattle.pagespec.specs.Items.{groups_of}
use Rattle.row_runs.specs.Readings.{most_items}
use Rattle.row_runs.proofs.reading.most_items.Given as goal

abbrev pub invariant-loop-group : goal.invariant-loop-group
invariant-loop-group l = (l.most ≡ most_items 1 (groups_of (take l.group-index l.groups))) × (1 ≤ l.most)
