use Rattle.std.proofs.Common.{◌≡◌, ◌<◌, ℕ, take}
use Rattle.std.specs.Prelude.{flat_map}
use Rattle.rules.specs.Signatures.{entry_of}
use Rattle.row_sheets.specs.Posters.{EntryMayBePoster, entry_tiles}
use Rattle.row_sheets.proofs.poster_rows.tiles_of_row.Given as goal

abbrev pub invariant-loop-entry : goal.invariant-loop-entry
invariant-loop-entry l = record {
  made : l.made ≡ flat_map (entry_tiles l.poster l.papers) (take l.entry-index l.row);
  fits : (i : ℕ) → i < l.entry-index → EntryMayBePoster l.poster l.papers (entry_of l.row i);
}
