use Rattle.std.proofs.Common.{◌≡◌, map, take}
use Rattle.pagespec.specs.Items.{item_of}
use Rattle.sheet_plan.specs.OfSheets.{slot_of}
use Rattle.row_sheets.specs.BySpec.{item_slot}
use Rattle.row_sheets.proofs.by_spec.fill_sheet.Given as goal

abbrev pub invariant-loop-item : goal.invariant-loop-item
invariant-loop-item l = map slot_of l.slots.items ≡ map (item_slot l.on.page l.on.row.now l.on.spec.now.modulo l.block) (map item_of (take l.item-index l.group))
