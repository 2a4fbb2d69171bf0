use Rattle.std.proofs.Common.{◌≡◌, drop}
use Rattle.papers.specs.AsOne.{kind_paper}
use Rattle.papers.proofs.kinds.paper_among.Given as goal

abbrev pub invariant-loop-kind : goal.invariant-loop-kind
invariant-loop-kind l = kind_paper (drop l.kind-index l.kinds) l.paper ≡ kind_paper l.kinds l.paper
