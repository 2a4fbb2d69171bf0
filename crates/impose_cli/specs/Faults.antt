-- What an error of its run makes of a request.
use Rattle.std.specs.Prelude.{ℕ}
use Rattle.rows.specs.declared.error.RowError.{RowError}
use Rattle.rows.specs.declared.error.RowError.TheVariants as row
use Rattle.row_runs.specs.declared.error.SheetError.{SheetError}
use Rattle.row_runs.specs.declared.error.SheetError.TheVariants as asked
use Rattle.impose_messages.specs.Faults.{without_memory}
use Rattle.impose_messages.specs.declared.fault.ImposeFault.{ImposeFault}
use Rattle.impose_messages.specs.declared.fault.ImposeFault.TheVariants as fault

-- of a row of pages of a document that has so many
abbrev pub row_fault : (pages : ℕ) → RowError → ImposeFault
row_fault pages (row.NotInDocument place) = fault.NoSuchPage place pages
row_fault pages other = fault.Row other

-- of a run on a row of pages of a document that has so many (RULES, 16, steps 11 to 14)
abbrev pub of_asked : (pages : ℕ) → SheetError → ImposeFault
of_asked pages (asked.Row e) = row_fault pages e
of_asked pages (asked.Arrangement e) = fault.Layout e
of_asked pages (asked.Poster e) = fault.Poster e
of_asked pages (asked.Sheets e) = fault.Sheets e
of_asked pages asked.OutOfReach = fault.OutOfReach
of_asked pages asked.NoMemory = without_memory
