use Rattle.std.specs.List.{count_by}
use Rattle.std.proofs.Common.{◌≡◌, ◌==◌, take}
use Rattle.dsc.proofs.lines.ends_in.Given as goal

abbrev pub invariant-loop-byte : goal.invariant-loop-byte
invariant-loop-byte l = record {
  feeds : l.feeds ≡ count_by (λ b. b == 10) (take l.byte-index l.block);
  returns : l.returns ≡ count_by (λ b. b == 13) (take l.byte-index l.block);
}
