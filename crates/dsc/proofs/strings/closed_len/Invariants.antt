use Rattle.std.specs.Prelude.{option_map}
use Rattle.std.proofs.Common.{◌≡◌, ◌+◌, ◌≤◌, length, false}
use Rattle.dsc.specs.Strings.{rest_len}
use Rattle.dsc.proofs.strings.closed_len.Given as goal

abbrev pub invariant-loop-byte : goal.invariant-loop-byte
invariant-loop-byte l = record {
  few : l.opened ≤ l.len;
  placed : l.len + length l.rest ≡ length l.text;
  so_far : option_map (λ n. n + l.len) (rest_len l.opened l.is_escaped l.rest) ≡ rest_len 0 false l.text;
}

abbrev pub decreases-loop-byte : goal.decreases-loop-byte
decreases-loop-byte l = length l.rest
