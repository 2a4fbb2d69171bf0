use Rattle.std.proofs.Common.{◌≡◌, ◌-◌, ◌≤◌, ◌++◌}
use Rattle.std.specs.Prelude.{flat_map}
use Rattle.std.specs.List.{range_with_len}
use Rattle.dressing.specs.Strokes.{upright_at}
use Rattle.dressing.proofs.strokes.push_upright_between.Given as goal

abbrev pub invariant-loop-k : goal.invariant-loop-k
invariant-loop-k l = record {
  some : 1 ≤ l.k;
  pushed : l.strokes.items ≡ l.initial.strokes.items ++ flat_map (upright_at l.room l.parts) (range_with_len 1 (l.k - 1));
}
