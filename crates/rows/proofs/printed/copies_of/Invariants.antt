use Rattle.std.proofs.Common.{◌≡◌, replicate, take}
use Rattle.std.specs.Prelude.{flat_map}
use Rattle.rows.proofs.printed.copies_of.Given as goal

abbrev pub invariant-loop-entry : goal.invariant-loop-entry
invariant-loop-entry l = l.copies.items ≡ flat_map (replicate l.cells) (take l.entry-index l.row)
