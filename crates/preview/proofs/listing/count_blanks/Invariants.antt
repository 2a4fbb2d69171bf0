use Rattle.std.proofs.Common.{◌≡◌, ◌≤◌, ◌*◌, take}
use Rattle.preview.specs.Listing.{blanks_of}
use Rattle.preview.proofs.listing.count_blanks.Given as goal

abbrev pub invariant-loop-sheet : goal.invariant-loop-sheet
invariant-loop-sheet l = record {
  is : l.blanks ≡ blanks_of (take l.sheet l.sheets);
  few : l.blanks ≤ l.sheet * 4_294_967_296;
}
