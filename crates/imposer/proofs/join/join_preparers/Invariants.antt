use Rattle.std.proofs.Common.{◌≡◌, ℕ, ◌<◌, ◌≤◌, ◌+◌, ◌-◌, get_or, IfSome}
use Rattle.std.specs.Vec.Iter.{into_iter_items, into_iter_len}
use Rattle.imposer.specs.HandlePromises.{IsPreparer}
use Rattle.imposer.proofs.join.join_preparers.Given as goal

abbrev pub invariant-loop-handle : goal.invariant-loop-handle
invariant-loop-handle g l =
    let rest = l.handle-iterator in
    let joined = l.count - into_iter_len rest in
    (into_iter_len rest ≤ l.count)
    × ((k : ℕ) (d : _) → k < into_iter_len rest → IsPreparer l.shared l.count (joined + k) (get_or (into_iter_items rest) k d).promise)
    × IfSome l.all (g.W.Work.is_held l.shared)
    × IfSome l.all (λ h. g.W.Work.share l.shared h ≡ g.W.Work.share l.shared l.fn.held + joined)
    × ((first : _) → g.W.Work.has_gathered l.shared first l.count 0 l.fn.held → IfSome l.all (g.W.Work.has_gathered l.shared first l.count joined))
