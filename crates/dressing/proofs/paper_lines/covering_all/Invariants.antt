use Rattle.std.proofs.Common.{◌≡◌, drop, fold}
use Rattle.papers.specs.Own.{smallest_cover}
use Rattle.dressing.proofs.paper_lines.covering_all.Given as goal

abbrev pub invariant-loop-paper : goal.invariant-loop-paper
invariant-loop-paper l = fold smallest_cover l.large (drop l.paper-index l.others) ≡ fold smallest_cover l.first l.others
