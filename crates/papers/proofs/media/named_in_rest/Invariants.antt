use Rattle.std.proofs.Common.{◌≡◌, length}
use Rattle.papers.specs.Media.{contents, continued, paper_of_first_name_in}
use Rattle.papers.proofs.media.named_in_rest.Given as goal

abbrev pub invariant-loop-value : goal.invariant-loop-value
invariant-loop-value l = paper_of_first_name_in (continued (contents l.rest)) ≡ paper_of_first_name_in (continued (contents l.text))

abbrev pub decreases-loop-value : goal.decreases-loop-value
decreases-loop-value l = length l.rest
