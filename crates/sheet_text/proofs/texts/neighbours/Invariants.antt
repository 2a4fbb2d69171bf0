use Rattle.std.proofs.Common.{◌≡◌, ◌+◌, ◌≤◌}
use Rattle.sheet_text.proofs.TextsBehind.{AreNeighbours}
use Rattle.sheet_text.proofs.texts.neighbours.Given as goal

abbrev pub invariant-loop-next : goal.invariant-loop-next
invariant-loop-next l = (l.count ≤ l.most) × (l.nth + l.count ≡ l.next) × AreNeighbours l.own l.parts l.sheet l.slices l.nth l.count l.start l.end
