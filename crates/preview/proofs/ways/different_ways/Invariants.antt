use Rattle.std.proofs.Common.{◌≡◌, take, []}
use Rattle.std.specs.List.{fold}
use Rattle.preview.specs.Ways.{with_sheet}
use Rattle.preview.proofs.ways.different_ways.Given as goal

abbrev pub invariant-loop-sheet : goal.invariant-loop-sheet
invariant-loop-sheet l = l.ways.items ≡ fold with_sheet [] (take l.sheet l.sheets)
