use Rattle.std.proofs.Common.{◌≡◌}
use Rattle.std.specs.Prelude.{filter}
use Rattle.std.specs.List.{range_with_len}
use Rattle.rules.specs.Sheets.{layout}
use Rattle.sheet_plan.specs.Places.{is_blank_sheet}
use Rattle.sheet_plan.specs.Sources.{plan_from}
use Rattle.sheet_plan.proofs.blank_sheets.blank_sheets_in.Given as goal

abbrev pub invariant-loop-sheet : goal.invariant-loop-sheet
invariant-loop-sheet l = l.blank_sheets.items ≡ filter (is_blank_sheet (layout (plan_from l.source))) (range_with_len 0 l.sheet)
