use Rattle.std.proofs.Common.{◌≡◌, ◌≤◌, length}
use Rattle.std.specs.Prelude.{IfSome}
use Rattle.rules.specs.Ranges.{pieces_of}
use Rattle.rules.specs.Choice.{most_entries}
use Rattle.rows.specs.Tallies.{tally_from, no_tally}
use Rattle.rows.proofs.Walked.{bytes_left, tally_left}
use Rattle.rows.proofs.tallies.tally_ranges.Given as goal

abbrev pub invariant-loop-left : goal.invariant-loop-left
invariant-loop-left l = record {
  rest : tally_left most_entries l.pages (length l.text) l.left l.tally ≡ tally_from most_entries l.pages 0 (pieces_of l.text) no_tally;
  within : IfSome l.left (λ r. length r.now ≤ length l.text);
  few : l.tally.entries ≤ most_entries;
}

abbrev pub decreases-loop-left : goal.decreases-loop-left
decreases-loop-left l = bytes_left l.left
