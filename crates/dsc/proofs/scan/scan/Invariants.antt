use Rattle.std.specs.Prelude.{None}
use Rattle.std.proofs.Common.{◌≡◌, ◌+◌, ◌<◌, [], length}
use Rattle.dsc.specs.Marks.{scan_on}
use Rattle.dsc.specs.BodyStarts.{none_sought}
use Rattle.dsc.proofs.BodyMarks.{sought_on}
use Rattle.dsc.proofs.scan.scan.Given as goal

abbrev pub invariant-loop-walk : goal.invariant-loop-walk
invariant-loop-walk l = record {
  placed : l.walk.at + length l.walk.rest ≡ length l.text;
  so_far : scan_on 1_000_001 l.seen.starts.items l.seen.stop l.walk.depth l.walk.at l.walk.rest ≡ scan_on 1_000_001 [] None 0 0 l.text;
  bodies : length l.seen.starts.items < 1_000_001 → sought_on l.bodies l.walk.depth l.walk.at l.walk.rest ≡ sought_on none_sought 0 0 l.text;
}

abbrev pub decreases-loop-walk : goal.decreases-loop-walk
decreases-loop-walk l = length l.walk.rest
