use Rattle.std.specs.Prelude.{option_map}
use Rattle.std.proofs.Common.{◌≡◌, ◌+◌, length, ◌-◌}
use Rattle.rules.specs.Units.{lines_len}
use Rattle.dsc.proofs.lines.lines_end.Given as goal

abbrev pub invariant-loop-i : goal.invariant-loop-i
invariant-loop-i l = record {
  placed : l.end + length l.rest ≡ length l.text;
  so_far : option_map (λ n. l.end + n) (lines_len (l.count - l.i) l.rest) ≡ lines_len l.count l.text;
}
