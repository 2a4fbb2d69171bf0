use Rattle.std.proofs.Common.{◌≡◌, ℕ, ◌<◌, ◌≤◌, ◌+◌, ◌-◌, get_or, IfSome}
use Rattle.std.specs.Vec.Iter.{into_iter_items, into_iter_len}
use Rattle.imposer.proofs.join.join_imposers.Given as goal

abbrev pub invariant-loop-handle : goal.invariant-loop-handle
invariant-loop-handle g l =
    let rest = l.handle-iterator in
    let joined = l.count - into_iter_len rest in
    (into_iter_len rest ≤ l.count)
    × ((k : ℕ) (d : _) → k < into_iter_len rest → (get_or (into_iter_items rest) k d).promise.shared.now ≡ l.shared)
    × IfSome l.all (g.W.Work.is_held l.shared)
    × ((n : ℕ) → IfSome l.fn.prepared (λ a. g.W.Work.share l.shared a ≡ n) → IfSome l.all (λ h. g.W.Work.share l.shared h ≡ n + joined))
    × ((first : _) (n k : ℕ) → IfSome l.fn.prepared (g.W.Work.has_gathered l.shared first n k) → IfSome l.all (g.W.Work.has_gathered l.shared first n k))
