-- What each step reveals, as clauses see it; and a pass between two calls stays one.
use Rattle.std.proofs.Common.{◌≡◌, inl, inr, ℕ, zero, suc, ◌+◌, Option, Some, None, refl, sym, ap, ◌∙◌, subst, arith}
use Rattle.std.specs.Prelude.{IfSome, MatchOption}
use Rattle.atomic_table.specs.Seated.{TableId}
use Rattle.rules.specs.Seats.{Learned, whole_share}
use Rattle.handover.specs.Queue.{Move, Take, IsQueueHistory}
use Rattle.handover.specs.Passes.{PassView, seat_of, puts_in, MadeMove, PassesJoined, opening_pass, room_after, both_rooms}
use Rattle.handover.specs.Rule.{PassSight, PassStands, pass_view}
use Rattle.handover.specs.Steps.{AddsMove, both_of, first_pass}
use Rattle.handover.proofs.RuleKept.{MayTry}

abbrev pub Held : PassSight → Type 0
Held v = Rattle.rules.proofs.SeatViews.Held IsQueueHistory v.seat

-- a move
pub stands_after : (v w : PassSight) (share : ℕ) (room left : Option ℕ) (m : Move) → AddsMove v m w → left ≡ room_after m room → PassStands v share room → PassStands w share left
stands_after v w share room left m is after s = record {
  seat = Rattle.rules.proofs.SeatViews.stands_after IsQueueHistory v.seat w.seat share m is.seat s.seat;
  room = after ∙ ap (room_after m) s.room ∙ sym is.room;
}

pub made : (t t' : TableId) (v w : PassSight) (m : Move) (old : PassView) → AddsMove v m w → Held v → t' ≡ t → pass_view t v ≡ old → MadeMove old m (pass_view t' w)
made t t' v w m old is h same is_old = (
  Rattle.rules.proofs.SeatViews.made IsQueueHistory t t' v.seat w.seat m m (seat_of old) is.seat h same refl (ap seat_of is_old),
  is.room ∙ ap (λ (p : PassView). room_after m p.room) is_old,
)

-- after a take the pass is as between two calls, whether it got a sheet or not
pub take_stands : (r : Option ℕ) (v w : PassSight) (share : ℕ) (room : Option ℕ) (P : Type 0) → MatchOption r ((w ≡ v) × P) (λ x. AddsMove v (Take x) w) → PassStands v share room → PassStands w share room
take_stands None v w share room P is s = subst (λ (u : PassSight). PassStands u share room) (sym is.0) s
take_stands (Some x) v w share room P is s = stands_after v w share room room (Take x) is refl s

-- a take that returned a sheet is a move
pub take_made : (r : Option ℕ) (t t' : TableId) (v w : PassSight) (old : PassView) (P : Type 0) → MatchOption r ((w ≡ v) × P) (λ x. AddsMove v (Take x) w) → Held v → t' ≡ t → pass_view t v ≡ old → IfSome r (λ x. MadeMove old (Take x) (pass_view t' w))
take_made None t t' v w old P is h same is_old = tt
take_made (Some x) t t' v w old P is h same is_old = made t t' v w (Take x) old is h same is_old

-- a pass may try to put
pub may_try : (v : PassSight) (share : ℕ) (room : Option ℕ) → PassStands v share room → (room ≡ Some 0 → share ≡ whole_share) → MayTry v
may_try v share room s may = by_room v.room refl
  where
    by_room : (r : Option ℕ) → v.room ≡ r → MayTry v
    by_room None e = inr (inl e)
    by_room (Some zero) e = inr (inr (sym s.seat.share ∙ may (s.room ∙ e), ap puts_in e))
    by_room (Some (suc n)) e = inl (let some : puts_in v.room ≡ suc n = ap puts_in e in omega (arith, some))

-- the pass with which a queue is made
pub view_opens : (t t' : TableId) (v : PassSight) (key key' : ℕ) (room : Option ℕ) → t ≡ t' → v ≡ first_pass key room → key ≡ key'
    → pass_view t v ≡ record (opening_pass (record { queue = t'; capacity = key' })) { room = room }
view_opens t t' v key key' room same is same_key = (λ i. pass_view (same i) (is i)) ∙ (λ i. record (opening_pass (record { queue = t'; capacity = same_key i })) { room = room })

-- a join
pub stands_joined : (v w u : PassSight) (share part sum : ℕ) (one two all : Option ℕ) → u ≡ both_of v w → Learned u.seat → w.seat.key ≡ v.seat.key → sum ≡ share + part → all ≡ both_rooms one two
    → PassStands v share one → PassStands w part two → PassStands u sum all
stands_joined v w u share part sum one two all is l key is_sum is_all sv sw = record {
  seat = Rattle.rules.proofs.SeatViews.stands_joined IsQueueHistory v.seat w.seat u.seat share part sum (ap (λ (z : PassSight). z.seat) is) l key is_sum sv.seat sw.seat;
  room = is_all ∙ (λ i. both_rooms (sv.room i) (sw.room i)) ∙ sym (ap (λ (z : PassSight). z.room) is);
}

pub joined : (t tw t' : TableId) (v w u : PassSight) (a b : PassView) → pass_view t v ≡ a → pass_view tw w ≡ b → u ≡ both_of v w → Learned u.seat → t' ≡ t → w.seat.key ≡ v.seat.key → Held v → Held w → PassesJoined a b (pass_view t' u)
joined t tw t' v w u a b is_a is_b is l same key hv hw = (
  Rattle.rules.proofs.SeatViews.joined IsQueueHistory t tw t' v.seat w.seat u.seat (seat_of a) (seat_of b) (ap seat_of is_a) (ap seat_of is_b) (ap (λ (z : PassSight). z.seat) is) l same key hv hw,
  ap (λ (z : PassSight). z.room) is ∙ (λ i. both_rooms (ap (λ (p : PassView). p.room) is_a i) (ap (λ (p : PassView). p.room) is_b i)),
)
