use Rattle.std.proofs.Common.{◌≡◌, drop}
use Rattle.std.specs.Prelude.{map}
use Rattle.rules.specs.Papers.{paper_with_name, paper_among}
use Rattle.lengths.proofs.Table.{entry}
use Rattle.lengths.proofs.named.paper_by_name.Given as goal

abbrev pub invariant-loop-known : goal.invariant-loop-known
invariant-loop-known l = paper_among (map entry (drop l.known-index l.known-items)) l.name ≡ paper_with_name l.name
