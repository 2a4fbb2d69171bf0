use Rattle.std.proofs.Common.{◌≡◌, map, take}
use Rattle.impose_words.specs.Arranging.{turn_for}
use Rattle.impose_cli.specs.RowTasks.{paper_turned}
use Rattle.impose_cli.proofs.row_task.each_turned.Given as goal

abbrev pub invariant-loop-paper : goal.invariant-loop-paper
invariant-loop-paper l = (l.turns.items ≡ map (turn_for l.turning) (take l.paper-index l.papers)) × (l.turned.items ≡ map (paper_turned l.turning) (take l.paper-index l.papers))
