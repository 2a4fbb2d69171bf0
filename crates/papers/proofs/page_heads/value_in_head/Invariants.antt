use Rattle.std.proofs.Common.{◌≡◌, length}
use Rattle.papers.specs.Media.{comment_value}
use Rattle.papers.proofs.Heads.{head}
use Rattle.papers.proofs.page_heads.value_in_head.Given as goal

abbrev pub invariant-loop-rest : goal.invariant-loop-rest
invariant-loop-rest l = comment_value l.key (head l.rest) ≡ comment_value l.key (head l.text)

abbrev pub decreases-loop-rest : goal.decreases-loop-rest
decreases-loop-rest l = length l.rest
