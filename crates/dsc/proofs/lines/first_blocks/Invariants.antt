use Rattle.std.specs.Prelude.{option_map}
use Rattle.std.proofs.Common.{◌≡◌, ◌+◌, ◌-◌, ◌≤◌, drop, length}
use Rattle.rules.specs.Units.{lines_len}
use Rattle.dsc.proofs.lines.first_blocks.Given as goal

abbrev pub invariant-loop-rest : goal.invariant-loop-rest
invariant-loop-rest l = record {
  fewer : l.lines ≤ l.count;
  within : l.passed ≤ length l.text;
  after : l.rest ≡ drop l.passed l.text;
  so_far : option_map (λ n. l.passed + n) (lines_len (l.count - l.lines) l.rest) ≡ lines_len l.count l.text;
}

abbrev pub decreases-loop-rest : goal.decreases-loop-rest
decreases-loop-rest l = length l.rest
