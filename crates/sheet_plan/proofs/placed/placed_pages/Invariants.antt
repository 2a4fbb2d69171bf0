use Rattle.std.proofs.Common.{◌≡◌, take}
use Rattle.rules.specs.Sheets.{layout}
use Rattle.sheet_plan.specs.Placed.{placed_from}
use Rattle.sheet_plan.specs.Sources.{plan_from}
use Rattle.sheet_plan.proofs.placed.placed_pages.Given as goal

abbrev pub invariant-loop-sheet : goal.invariant-loop-sheet
invariant-loop-sheet l = l.placed.items ≡ placed_from 0 (take l.sheet (layout (plan_from l.source)).sheets)
