use Rattle.std.proofs.Common.{◌≡◌, ℕ, ◌<◌, ◌≤◌, ◌-◌, get_or, vec_len, vec_items, vec_capacity}
use Rattle.imposer.proofs.start.start_imposers.Given as goal

abbrev pub invariant-loop : goal.invariant-loop
invariant-loop g l = record {
  len : vec_len l.handles ≡ l.counter;
  room : l.fn.counts.imposers ≤ vec_capacity l.handles;
  ticket : g.W.Imposing.sends l.shared l.ticket;
  each : (k : ℕ) (d : _) → k < l.counter → (get_or (vec_items l.handles) k d).promise.shared.now ≡ l.shared;
  held : g.W.Work.is_held l.shared l.held;
  share : g.W.Work.share l.shared l.held ≡ g.W.Work.share l.shared l.initial.held - l.counter;
  gathered : (first : _) (n : ℕ) → g.W.Work.has_gathered l.shared first n 0 l.initial.held → g.W.Work.has_gathered l.shared first n 0 l.held;
}
