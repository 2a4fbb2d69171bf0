use Rattle.std.proofs.Common.{◌≡◌, ◌≤◌, drop, length, take}
use Rattle.impose_words.specs.Edges.{is_list, lengths_in, parts_of}
use Rattle.impose_words.proofs.Listed.{with_more}
use Rattle.impose_words.proofs.edges.lengths_named.Given as goal

abbrev pub invariant-loop-part : goal.invariant-loop-part
invariant-loop-part l =
    (l.is_list ≡ is_list l.text) × (l.count ≡ length l.yielded) × (l.count ≤ 4) × (length l.lengths ≡ 4)
    × (with_more l.is_list (take l.count l.lengths) (drop l.count (parts_of l.text)) ≡ lengths_in l.is_list (parts_of l.text))
