use Rattle.std.proofs.Common.{◌≡◌, length}
use Rattle.papers.specs.Media.{comment_values, contents}
use Rattle.papers.proofs.comments.first_comment.Given as goal

abbrev pub invariant-loop-rest : goal.invariant-loop-rest
invariant-loop-rest l = comment_values l.key (contents l.rest) ≡ comment_values l.key (contents l.header)

abbrev pub decreases-loop-rest : goal.decreases-loop-rest
decreases-loop-rest l = length l.rest
