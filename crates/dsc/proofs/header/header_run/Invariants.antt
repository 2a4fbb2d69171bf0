use Rattle.std.proofs.Common.{◌≡◌, ◌+◌, length}
use Rattle.dsc.specs.Header.{header_run}
use Rattle.dsc.proofs.header.header_run.Given as goal

abbrev pub invariant-loop-rest : goal.invariant-loop-rest
invariant-loop-rest l = record {
  placed : l.end + length l.rest ≡ length l.text;
  so_far : l.end + header_run l.rest ≡ header_run l.text;
}

abbrev pub decreases-loop-rest : goal.decreases-loop-rest
decreases-loop-rest l = length l.rest
