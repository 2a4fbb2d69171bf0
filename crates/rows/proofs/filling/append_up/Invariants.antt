use Rattle.std.proofs.Common.{◌≡◌, ◌+◌, ◌-◌, ◌++◌, map, Some}
use Rattle.std.specs.Prelude.{vec_len, vec_capacity}
use Rattle.std.specs.List.{range_with_len}
use Rattle.rows.proofs.filling.append_up.Given as goal

abbrev pub invariant-loop-i : goal.invariant-loop-i
invariant-loop-i l = (l.row.items ≡ l.fn.row.items ++ map (λ i. Some (l.first - 1 + i)) (range_with_len 0 l.i))
    × (vec_len l.row ≡ vec_len l.fn.row + l.i) × (vec_capacity l.row ≡ vec_capacity l.fn.row)
