use Rattle.std.proofs.Common.{◌≡◌, ◌++◌, [], ◌∷◌}
use Rattle.std.specs.Prelude.{map}
use Rattle.std.specs.List.{range_with_len}
use Rattle.rules.specs.Made.{Blank}
use Rattle.row_sheets.proofs.Filling.{sheet}
use Rattle.row_sheets.proofs.poster_rows.push_blanks.Given as goal

abbrev pub invariant-loop-n : goal.invariant-loop-n
invariant-loop-n l = l.made ≡ l.initial.made ++ map (λ n. sheet l.poster.sheet (Blank ∷ [])) (range_with_len 0 l.n)
