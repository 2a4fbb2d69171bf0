use Rattle.std.proofs.Common.{◌≡◌, map, take}
use Rattle.papers.specs.AsOne.{kind_paper}
use Rattle.papers.proofs.kinds.merge_near_sizes.Given as goal

abbrev pub invariant-loop-paper : goal.invariant-loop-paper
invariant-loop-paper l = l.papers.items ≡ map (kind_paper l.kinds.items) (take l.paper-index l.own)
