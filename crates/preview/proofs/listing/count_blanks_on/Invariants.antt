use Rattle.std.proofs.Common.{◌≡◌, ◌≤◌, take}
use Rattle.sheet_plan.specs.OfSheets.{slots_at}
use Rattle.preview.specs.Listing.{blanks_on}
use Rattle.preview.proofs.listing.count_blanks_on.Given as goal

abbrev pub invariant-loop-slot : goal.invariant-loop-slot
invariant-loop-slot l = record {
  is : l.blanks ≡ blanks_on (take l.slot (slots_at l.sheets l.sheet));
  few : l.blanks ≤ l.slot;
}
