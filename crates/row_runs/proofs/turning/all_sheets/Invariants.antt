use Rattle.std.proofs.Common.{◌≡◌, map, take}
use Rattle.row_runs.specs.SwappedMargins.{swapped}
use Rattle.row_runs.specs.Turning.{turn_on, turned_sheet}
use Rattle.row_runs.proofs.turning.all_sheets.Given as goal

abbrev pub invariant-loop-sheet : goal.invariant-loop-sheet
invariant-loop-sheet l = l.turned ≡ map (turned_sheet (turn_on l.turns)) (swapped l.swap (take l.sheet l.sheets))
