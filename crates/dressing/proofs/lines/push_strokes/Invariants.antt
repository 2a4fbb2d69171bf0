use Rattle.std.proofs.Common.{◌≡◌, ◌++◌, map, take}
use Rattle.dressing.specs.Drawn.{stroke_line}
use Rattle.dressing.proofs.lines.push_strokes.Given as goal

abbrev pub invariant-loop-stroke : goal.invariant-loop-stroke
invariant-loop-stroke l = l.lines ≡ l.initial.lines ++ map stroke_line (take l.stroke-index l.strokes)
