use Rattle.std.proofs.Common.{◌≡◌, ◌++◌, ◌+◌, ◌-◌, ◌/◌, ◌%◌, [], ◌∷◌}
use Rattle.std.specs.Prelude.{map}
use Rattle.std.specs.List.{range_with_len}
use Rattle.rules.specs.Made.{Placed}
use Rattle.row_sheets.specs.Posters.{tile_item}
use Rattle.row_sheets.proofs.Filling.{sheet}
use Rattle.row_sheets.proofs.poster.push_poster.Given as goal

abbrev pub invariant-loop-n : goal.invariant-loop-n
invariant-loop-n l =
    l.made ≡ l.initial.made ++ map (λ n. sheet l.poster.sheet (Placed l.page (tile_item l.page_paper l.poster (n % l.poster.columns) (l.poster.rows - (n / l.poster.columns + 1))) l.page_paper ∷ [])) (range_with_len 0 l.n)
