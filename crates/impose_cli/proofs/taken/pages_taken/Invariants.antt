use Rattle.std.proofs.Common.{◌≡◌, ◌<◌, ℕ, length, take, false}
use Rattle.std.specs.Prelude.{get_or}
use Rattle.impose_cli.specs.Taken.{takes}
use Rattle.impose_cli.proofs.taken.pages_taken.Given as goal

abbrev pub invariant-loop-entry : goal.invariant-loop-entry
invariant-loop-entry l = record {
  len : length l.taken.items ≡ l.pages;
  each : (k : ℕ) → k < l.pages → get_or l.taken.items k false ≡ takes (take l.entry-index l.row) k;
}
