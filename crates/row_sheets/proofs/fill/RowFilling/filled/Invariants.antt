use Rattle.std.proofs.Common.{◌≡◌, ℕ, ◌<◌}
use Rattle.row_sheets.specs.Schemes.{CellFits, shaped}
use Rattle.row_sheets.specs.Shapes.{filling}
use Rattle.row_sheets.proofs.fill.RowFilling.filled.Given as goal

abbrev pub invariant-loop : goal.invariant-loop
invariant-loop l = record {
  made : l.made ≡ shaped l.shape (filling l.self.setting.now l.self.papers.now) l.self.row.now l.counter;
  fits : (s c : ℕ) → s < l.counter → c < l.shape.cells → CellFits l.shape (filling l.self.setting.now l.self.papers.now) l.self.row.now s c;
}
