use Rattle.std.proofs.Common.{◌≡◌, length, take}
use Rattle.std.specs.Prelude.{sum_by}
use Rattle.pagespec.specs.Items.{groups_of}
use Rattle.row_sheets.proofs.by_spec.slots_per_block.Given as goal

abbrev pub invariant-loop-group : goal.invariant-loop-group
invariant-loop-group l = l.slots ≡ sum_by length (groups_of (take l.group-index l.groups))
