use Rattle.std.proofs.Common.{◌≡◌, ◌≤◌, length, take, vec_capacity}
use Rattle.std.below.core.specs.Mem.Slots.{slots_items}
use Rattle.gather_table.proofs.table.words_of.Given as goal

abbrev pub invariant-loop-k : goal.invariant-loop-k
invariant-loop-k l = record {
  items : l.words.items ≡ take l.k (slots_items l.closed.words);
  count : length l.words.items ≡ l.k;
  room : l.count ≤ vec_capacity l.words;
}
