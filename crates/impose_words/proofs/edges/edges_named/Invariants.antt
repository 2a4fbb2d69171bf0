use Rattle.std.proofs.Common.{◌≡◌, Some, drop, length}
use Rattle.std.specs.List.{fold}
use Rattle.impose_words.specs.Edges.{edge_in, edges_named, is_list, parts_of}
use Rattle.impose_words.proofs.edges.edges_named.Given as goal

abbrev pub invariant-loop-part : goal.invariant-loop-part
invariant-loop-part l =
    (l.is_list ≡ is_list l.text)
    × (fold (edge_in l.is_list) (Some l.edges) (drop (length l.yielded) (parts_of l.text)) ≡ edges_named l.text)
