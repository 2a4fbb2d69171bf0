use Rattle.std.proofs.Common.{◌≡◌, ◌-◌, ◌++◌}
use Rattle.preview.specs.Listing.{rows_text}
use Rattle.preview.proofs.listing.append_rows.Given as goal

abbrev pub invariant-loop-row : goal.invariant-loop-row
invariant-loop-row l = l.out.items ≡ l.initial.out.items ++ rows_text l.reading l.sheets l.first (l.row - l.first)
