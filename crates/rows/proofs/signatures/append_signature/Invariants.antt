use Rattle.std.proofs.Common.{◌≡◌, ◌+◌, ◌++◌, map}
use Rattle.std.specs.List.{range_with_len}
use Rattle.rules.specs.Signatures.{entry_of, page_in_signature}
use Rattle.rows.proofs.signatures.append_signature.Given as goal

abbrev pub invariant-loop-position : goal.invariant-loop-position
invariant-loop-position l = l.printed.items ≡ l.fn.printed.items ++ map (λ i. entry_of l.row (l.first + page_in_signature l.sides i)) (range_with_len 0 l.position)
