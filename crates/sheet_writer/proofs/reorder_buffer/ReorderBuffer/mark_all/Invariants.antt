use Rattle.std.proofs.Common.{◌≡◌, ◌<◌, ℕ, length}
use Rattle.std.specs.Prelude.{◌≢◌, All, slice_get}
use Rattle.sheet_text.specs.Texts.{sheets_of}
use Rattle.sheet_writer.specs.Places.{buffer_place}
use Rattle.sheet_writer.proofs.Marked.{AreMarked}
use Rattle.sheet_writer.proofs.reorder_buffer.ReorderBuffer.mark_all.Given as goal

abbrev pub invariant-loop-nth : goal.invariant-loop-nth
invariant-loop-nth l = record {
  groups : l.self.groups ≡ l.initial.self.groups;
  count : length l.self.places.items ≡ length l.initial.self.places.items;
  marked : 0 < length l.initial.self.groups.items → AreMarked l.initial.self (sheets_of l.finished) l.group l.nth l.self.places.items;
  others : 0 < length l.initial.self.groups.items → (k : ℕ) → All (λ sheet. k ≢ buffer_place l.initial.self sheet) (sheets_of l.finished)
      → slice_get l.self.places.items k ≡ slice_get l.initial.self.places.items k;
}
