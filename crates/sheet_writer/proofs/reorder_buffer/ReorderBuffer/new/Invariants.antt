use Rattle.std.proofs.Common.{◌≡◌, ◌≤◌, length, vec_capacity}
use Rattle.sheet_writer.proofs.Fronts.{AreNone}
use Rattle.sheet_writer.proofs.reorder_buffer.ReorderBuffer.new.Given as goal

abbrev pub invariant-loop : goal.invariant-loop
invariant-loop l = record {
  places : length l.places.items ≡ l.counter;
  groups : length l.groups.items ≡ l.counter;
  places_room : l.count ≤ vec_capacity l.places;
  groups_room : l.count ≤ vec_capacity l.groups;
  none : AreNone l.groups.items;
}
