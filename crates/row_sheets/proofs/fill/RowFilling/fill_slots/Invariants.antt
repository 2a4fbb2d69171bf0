use Rattle.std.proofs.Common.{◌≡◌, ℕ, ◌<◌, length}
use Rattle.std.specs.Prelude.{map}
use Rattle.std.specs.List.{range_with_len}
use Rattle.sheet_plan.specs.OfSheets.{slot_of}
use Rattle.row_sheets.specs.Schemes.{CellFits, slot_by}
use Rattle.row_sheets.specs.Shapes.{filling, entry_in_cell}
use Rattle.row_sheets.proofs.fill.RowFilling.fill_slots.Given as goal

abbrev pub invariant-loop-c : goal.invariant-loop-c
invariant-loop-c l = record {
  filled : map slot_of l.slots.items ≡ map (λ c. slot_by l.shape.scheme (filling l.self.setting.now l.self.papers.now) l.shape.leaves (length l.made) c (entry_in_cell l.shape l.self.setting.now l.self.row.now (length l.made) c)) (range_with_len 0 l.c);
  fits : (c : ℕ) → c < l.c → CellFits l.shape (filling l.self.setting.now l.self.papers.now) l.self.row.now (length l.made) c;
}
