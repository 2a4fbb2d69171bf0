use Rattle.std.proofs.Common.{◌≡◌, ◌++◌, map, take}
use Rattle.pagespec.specs.Items.{groups_of}
use Rattle.row_sheets.specs.BySpec.{sheet_by}
use Rattle.row_sheets.proofs.by_spec.push_block.Given as goal

abbrev pub invariant-loop-group : goal.invariant-loop-group
invariant-loop-group l = l.made ≡ l.initial.made ++ map (sheet_by l.on.sheet l.on.page l.on.row.now l.on.spec.now.modulo l.block) (groups_of (take l.group-index l.group-items))
