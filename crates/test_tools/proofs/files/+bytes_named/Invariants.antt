use Rattle.std.proofs.Common.{length}
use Rattle.test_tools.proofs.files.+bytes_named.Given as goal

abbrev pub decreases-bytes_named : goal.decreases-bytes_named
decreases-bytes_named l = length l.files.now
