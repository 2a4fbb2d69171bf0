use Rattle.std.proofs.Common.{◌≡◌, ◌++◌, take, map}
use Rattle.dressing.proofs.Given.{other_medium}
use Rattle.dressing.proofs.paper_lines.push_others.Given as goal

abbrev pub invariant-loop-paper : goal.invariant-loop-paper
invariant-loop-paper l = l.lines ≡ l.initial.lines ++ map other_medium (take l.paper-index l.others)
