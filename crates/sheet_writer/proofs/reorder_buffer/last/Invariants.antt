use Rattle.std.proofs.Common.{◌≡◌, drop, max}
use Rattle.sheet_text.specs.Texts.{sheets_of}
use Rattle.sheet_writer.specs.Places.{last_entry}
use Rattle.sheet_writer.proofs.reorder_buffer.last.Given as goal

abbrev pub invariant-loop-nth : goal.invariant-loop-nth
invariant-loop-nth l = max l.last (last_entry (drop l.nth (sheets_of l.finished))) ≡ last_entry (sheets_of l.finished)
