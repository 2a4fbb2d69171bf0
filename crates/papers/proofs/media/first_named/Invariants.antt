use Rattle.std.proofs.Common.{◌≡◌, length}
use Rattle.dsc.specs.Fields.{fields_in}
use Rattle.papers.specs.Media.{paper_of_first_name}
use Rattle.papers.proofs.media.first_named.Given as goal

abbrev pub invariant-loop-field : goal.invariant-loop-field
invariant-loop-field l = paper_of_first_name (fields_in l.rest) ≡ paper_of_first_name (fields_in l.value)

abbrev pub decreases-loop-field : goal.decreases-loop-field
decreases-loop-field l = length (fields_in l.rest)
