use Rattle.std.proofs.Common.{◌≡◌}
use Rattle.std.specs.Prelude.{flat_map}
use Rattle.std.specs.List.{range_with_len}
use Rattle.rows.proofs.InBlocks.{signature_of}
use Rattle.rows.proofs.signatures.in_signatures.Given as goal

abbrev pub invariant-loop-signature : goal.invariant-loop-signature
invariant-loop-signature l = l.printed.items ≡ flat_map (signature_of l.row l.sides) (range_with_len 0 l.signature)
