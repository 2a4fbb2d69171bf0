use Rattle.std.specs.Prelude.{◌≡◌}
use Rattle.rules.specs.Sheets.{layout}
use Rattle.gather_table.specs.Lanes.{free}
use Rattle.gather_table.proofs.making.lane_words.Given as goal

abbrev pub invariant-loop-sheet : goal.invariant-loop-sheet
invariant-loop-sheet l = l.next ≡ free (layout l.plan) l.sheet
