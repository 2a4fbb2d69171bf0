use Rattle.std.proofs.Common.{◌≡◌, ℕ, ◌<◌, ◌≤◌, ◌-◌, get_or, vec_len, vec_items, vec_capacity}
use Rattle.imposer.specs.HandlePromises.{IsPreparer}
use Rattle.imposer.proofs.start.start_preparers.Given as goal

abbrev pub invariant-loop-number : goal.invariant-loop-number
invariant-loop-number g l = record {
  len : vec_len l.handles ≡ l.number;
  room : l.fn.counts.preparers ≤ vec_capacity l.handles;
  each : (k : ℕ) (d : _) → k < l.number → IsPreparer l.shared l.fn.counts.preparers k (get_or (vec_items l.handles) k d).promise;
  held : g.W.Work.is_held l.shared l.held;
  enough : g.W.Work.is_enough l.shared l.fn.counts.preparers l.number l.held;
  share : g.W.Work.share l.shared l.held ≡ g.W.Work.share l.shared l.initial.held - l.number;
  gathered : (first : _) (n : ℕ) → g.W.Work.has_gathered l.shared first n 0 l.initial.held → g.W.Work.has_gathered l.shared first n 0 l.held;
}
