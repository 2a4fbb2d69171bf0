-- Each step keeps the rule.
use Rattle.std.proofs.Common.{◌≡◌, ◌≢◌, ◌⊎◌, ⊎_elim, ℕ, zero, suc, ◌+◌, ◌<◌, ◌≤◌, List, [], ◌∷◌, ◌++◌, length, set, Option, None, is_some, refl, sym, ap, ◌∙◌, arith, subst, length-append}
use mathlib.Core.Option.{some}
use lib.ListN.{get_elem?}
use Rattle.crossbeam_queue.specs.Fifo.{Pushes, Pops, Forks, Merges}
use Rattle.atomic_table.proofs.Lists.{at_set, set_else}
use Rattle.rules.specs.Seats.{AreSeats, whole_share, opening_sight, keeps_back, given, absorbed, added, total}
use Rattle.rules.specs.Seats as sights
use Rattle.rules.proofs.SeatShares.{adds, splits, absorbs, opens, whole_front, rekeys}
use Rattle.rules.proofs.SeatTotals.{total_set, total-append, total_has}
use Rattle.handover.specs.Queue.{Move, Put, Take, content, after_move, MoveFits, IsQueueHistory}
use Rattle.handover.specs.Passes.{puts_in, room_after}
use Rattle.handover.specs.Rule.{PassSight, SeatSight, HasPassHistory, AreRooms, IsRoomed, first_sight, spent_pass, seats_of, puts_allowed}
use Rattle.handover.specs.Steps.{AddsMove, Sees, Learns, keeps_of, gets_of, both_of, first_pass, spent_of}
use Rattle.handover.proofs.Histories.{after_push, AllFit_push}
use Rattle.handover.proofs.Rooms.{kind_after, one_less, no_more, parts, kind_kept, kind_given, sum_of_both, kind_both, seat_at, seats_set, seats_snoc, shares_of_seats, its_share, each_set, each_snoc, each_one, none_else, none_at_all}

-- a move that fits the content, and whose pass has the room for it, keeps the rule
pub moves : (items : List ℕ) (views : List PassSight) (port : ℕ) (v : PassSight) (m : Move) (h : HasPassHistory items views) → get_elem? views port ≡ some v → 0 < v.seat.share → MoveFits h.0 items m
    → total puts_allowed views + puts_in (room_after m v.room) + length (after_move items m) ≤ h.0 + puts_allowed v
    → (w : PassSight) × HasPassHistory (after_move items m) (set views port w) × AddsMove v m w
moves items views port v m h at pos fits enough = (w, (capacity, log ++ m ∷ [], kept), record { seat = step.1; room = refl })
  where
    capacity : ℕ
    capacity = h.0

    log : List Move
    log = h.1

    w : PassSight
    w = record { seat = added v.seat log m; room = room_after m v.room }

    legal : IsQueueHistory capacity (log ++ m ∷ [])
    legal = AllFit_push capacity [] log m h.2.legal (subst (λ c. MoveFits capacity c m) (sym h.2.holds) fits)

    step : AreSeats capacity (log ++ m ∷ []) (set (seats_of views) port (added v.seat log m)) × sights.Adds IsQueueHistory v.seat m (added v.seat log m)
    step = adds IsQueueHistory capacity log (seats_of views) port v.seat m h.2.seats (seat_at views port v at) pos legal

    roomed : IsRoomed h.2.by_right w
    roomed = record {
      alike = λ _. kind_after m v.room ∙ (h.2.rooms.each port v at).alike pos;
      idle = λ none. absurd (omega (arith, none, pos));
    }

    kept : Rattle.handover.specs.Rule.IsPassHistory (after_move items m) (set views port w) capacity (log ++ m ∷ [])
    kept = record {
      legal = legal;
      holds = after_push [] log m ∙ ap (λ c. after_move c m) h.2.holds;
      seats = subst (AreSeats capacity (log ++ m ∷ [])) (sym (seats_set views port w)) step.0;
      small = h.2.small;
      by_right = h.2.by_right;
      rooms = record {
        each = each_set (IsRoomed h.2.by_right) views port w h.2.rooms.each roomed;
        enough = let t = total_set puts_allowed views port v w at in omega (arith, t, enough);
      };
    }

-- a pass may try to put by right, or if no room belongs to others
abbrev pub MayTry : PassSight → Type 0
MayTry v = (0 < puts_allowed v) ⊎ (v.room ≡ None) ⊎ ((v.seat.share ≡ whole_share) × (puts_allowed v ≡ 0))

all_of_it : (items : List ℕ) (views : List PassSight) (v : PassSight) → HasPassHistory items views → v.seat.share ≡ whole_share → total its_share views ≤ v.seat.share
all_of_it items views v h whole = let s = h.2.seats.shares in let e = shares_of_seats views in omega (arith, s, e, whole)

-- no pass has room
nobody : (items : List ℕ) (views : List PassSight) (port : ℕ) (v : PassSight) (h : HasPassHistory items views) → get_elem? views port ≡ some v → 0 < v.seat.share
    → (v.room ≡ None) ⊎ ((v.seat.share ≡ whole_share) × (puts_allowed v ≡ 0)) → total puts_allowed views ≡ 0
nobody items views port v h at pos why = ⊎_elim
    (λ (without : v.room ≡ None). none_at_all h.2.by_right h.0 (length items) views port v h.2.rooms at pos without)
    (λ (x : (v.seat.share ≡ whole_share) × (puts_allowed v ≡ 0)).
    let le = none_else h.2.by_right h.0 (length items) views port v h.2.rooms at (all_of_it items views v h x.0) in
    omega (arith, le, x.1))
    why

pub puts : (n port : ℕ) (v : PassSight) (x : ℕ) → 0 < v.seat.share → v.seat.key ≡ n → MayTry v → Pushes HasPassHistory n port v x (λ w. AddsMove v (Put x) w)
puts n port v x pos is may items views room h at =
    let same : h.0 ≡ n = sym ((h.2.seats.seats port v.seat (seat_at views port v at)).same_key pos) ∙ is in
    let longer : length (items ++ x ∷ []) ≡ length items + 1 = length-append items (x ∷ []) in
    moves items views port v (Put x) h at pos (subst (λ c. length items < c) (sym same) room)
    (⊎_elim
    (λ (some_room : 0 < puts_allowed v).
    let one = one_less x v.room some_room in let enough = h.2.rooms.enough in omega (arith, one, enough, longer))
    (λ (why : (v.room ≡ None) ⊎ ((v.seat.share ≡ whole_share) × (puts_allowed v ≡ 0))).
    let none = nobody items views port v h at pos why in
    let few = no_more x v.room in
    let mine = total_has puts_allowed views port v at in
    omega (arith, none, few, mine, longer, same, room))
    may)

pub takes : (port : ℕ) (v : PassSight) → 0 < v.seat.share → Pops HasPassHistory port v (λ x w. AddsMove v (Take x) w)
takes port v pos x items views h at =
    moves (x ∷ items) views port v (Take x) h at pos refl (let enough = h.2.rooms.enough in omega (arith, enough))

pub sees : (port : ℕ) (v : PassSight) → Rattle.crossbeam_queue.specs.Fifo.Learns HasPassHistory port v (Sees v)
sees port v items views h at = record {
  whole = λ all. ap content (whole_front h.0 h.1 (seats_of views) port v.seat h.2.seats (seat_at views port v at) all) ∙ h.2.holds;
  by_right = λ some_room.
      let key = (h.2.seats.seats port v.seat (seat_at views port v at)).same_key (shared v.seat.share refl some_room) in
      let mine = total_has puts_allowed views port v at in
      let enough = h.2.rooms.enough in
      omega (arith, key, mine, enough, some_room);
}
  where
    shared : (n : ℕ) → v.seat.share ≡ n → 0 < puts_allowed v → 0 < v.seat.share
    shared zero is some_room = let none = (h.2.rooms.each port v at).idle is in absurd (omega (arith, none, some_room))
    shared (suc n) is some_room = omega (arith, is)

pub learns : (port : ℕ) (v : PassSight) → Rattle.crossbeam_queue.specs.Fifo.Learns HasPassHistory port v (Learns v)
learns port v items views h at = record {
  seat = Rattle.rules.proofs.SeatShares.learns h.0 h.1 (seats_of views) port v.seat h.2.seats (seat_at views port v at);
  few = let mine = total_has puts_allowed views port v at in let enough = h.2.rooms.enough in let small = h.2.small in omega (arith, mine, enough, small);
}

pub forks : (port : ℕ) (v : PassSight) (give room : ℕ) → 0 < give → give < v.seat.share → room ≤ puts_allowed v → Forks HasPassHistory port v (keeps_of give room v) (gets_of give room v)
forks port v give room pos less few items views h at = (
  h.0,
  h.1,
  record {
    legal = h.2.legal;
    holds = h.2.holds;
    seats = subst (AreSeats h.0 h.1) (sym (seats_snoc (set views port left) right ∙ ap (λ l. l ++ right.seat ∷ []) (seats_set views port left)))
        (splits h.0 h.1 (seats_of views) port v.seat v.seat.own [] give (λ x. omega arith) pos less h.2.seats (seat_at views port v at));
    small = h.2.small;
    by_right = h.2.by_right;
    rooms = record {
      each = each_snoc (IsRoomed h.2.by_right) (set views port left) right
          (each_set (IsRoomed h.2.by_right) views port left h.2.rooms.each (record { alike = λ _. kind_kept room v.room ∙ mine.alike (omega arith); idle = λ none. absurd (omega arith) }))
          (record { alike = λ _. kind_given room v.room ∙ mine.alike (omega arith); idle = λ none. absurd (omega arith) });
      enough =
          let t = total_set puts_allowed views port v left at in
          let a = total-append puts_allowed (set views port left) (right ∷ []) in
          let p = parts room v.room few in
          let e = h.2.rooms.enough in
          omega (arith, t, a, p, e);
    };
  },
)
  where
    left : PassSight
    left = keeps_of give room v

    right : PassSight
    right = gets_of give room v

    mine : IsRoomed h.2.by_right v
    mine = h.2.rooms.each port v at

pub merges : (port : ℕ) (v : PassSight) (other : ℕ) (u : PassSight) → 0 < v.seat.share → 0 < u.seat.share → Merges HasPassHistory port v other u (both_of v u) spent_pass
merges port v other u pos pos' items views h at two at' = (
  h.0,
  h.1,
  record {
    legal = h.2.legal;
    holds = h.2.holds;
    seats = subst (AreSeats h.0 h.1) (sym (seats_set (set views port both) other spent_pass ∙ ap (λ l. set l other spent_pass.seat) (seats_set views port both)))
        (absorbs h.0 0 h.1 (seats_of views) port other v.seat u.seat pos h.2.seats (seat_at views port v at) two
        (subst (λ l. get_elem? l other ≡ some u.seat) (seats_set views port both) (seat_at (set views port both) other u at')));
    small = h.2.small;
    by_right = h.2.by_right;
    rooms = record {
      each = each_set (IsRoomed h.2.by_right) (set views port both) other spent_pass
          (each_set (IsRoomed h.2.by_right) views port both h.2.rooms.each
          (record {
            alike = λ _. kind_both h.2.by_right v.room u.room ((h.2.rooms.each port v at).alike pos) ((h.2.rooms.each other u there).alike pos');
            idle = λ none. absurd (omega arith);
          }))
          (record { alike = λ has. absurd (omega arith); idle = λ _. refl });
      enough =
          let s = total_set puts_allowed views port v both at in
          let t = total_set puts_allowed (set views port both) other u spent_pass at' in
          let p = sum_of_both v.room u.room in
          let e = h.2.rooms.enough in
          omega (arith, s, t, p, e);
    };
  },
)
  where
    both : PassSight
    both = both_of v u

    there : get_elem? views other ≡ some u
    there = sym (set_else views port other both two) ∙ at'

pub begins : HasPassHistory [] (first_sight ∷ [])
begins = (
  0,
  [],
  record {
    legal = tt;
    holds = refl;
    seats = opens 0;
    small = omega arith;
    by_right = is_some first_sight.room;
    rooms = record {
      each = each_one (IsRoomed (is_some first_sight.room)) first_sight (record { alike = λ _. refl; idle = λ _. refl });
      enough = omega arith;
    };
  },
)

-- the opening pass learns the capacity, and gets its room
pub tells : (port : ℕ) (v : PassSight) (capacity : ℕ) (room : Option ℕ) → v ≡ first_sight → capacity ≤ 4_294_967_295 → puts_in room ≤ capacity
    → Forks HasPassHistory port v (first_pass capacity room) (spent_of capacity)
tells port v capacity room is small few items views h at = (
  capacity,
  [],
  record {
    legal = tt;
    holds = ap content (sym front) ∙ h.2.holds;
    seats = subst (AreSeats capacity []) (sym (seats_snoc (set views port left) right ∙ ap (λ l. l ++ right.seat ∷ []) (seats_set views port left)))
        (rekeys 0 capacity (seats_of views) port v.seat (ap (λ (y : PassSight). y.seat) is) seats_now (seat_at views port v at));
    small = small;
    by_right = is_some room;
    rooms = record {
      each = each_snoc (IsRoomed (is_some room)) (set views port left) right others (record { alike = λ has. absurd (omega arith); idle = λ _. refl });
      enough =
          let t = total_set puts_allowed views port v left at in
          let a = total-append puts_allowed (set views port left) (right ∷ []) in
          let none = none_else h.2.by_right h.0 (length items) views port v h.2.rooms at (all_of_it items views v h whole) in
          let mine : puts_allowed v ≡ 0 = ap puts_allowed is in
          let empty : 0 ≡ length items = ap length (ap content (sym front) ∙ h.2.holds) in
          omega (arith, t, a, none, mine, empty, few);
    };
  },
)
  where
    left : PassSight
    left = first_pass capacity room

    right : PassSight
    right = spent_of capacity

    whole : v.seat.share ≡ whole_share
    whole = ap (λ (y : PassSight). y.seat.share) is

    front : h.1 ≡ []
    front = sym (whole_front h.0 h.1 (seats_of views) port v.seat h.2.seats (seat_at views port v at) whole) ∙ ap (λ (y : PassSight). y.seat.front) is

    key : h.0 ≡ 0
    key = sym ((h.2.seats.seats port v.seat (seat_at views port v at)).same_key (omega (arith, whole))) ∙ ap (λ (y : PassSight). y.seat.key) is

    seats_now : AreSeats 0 [] (seats_of views)
    seats_now = subst (λ (z : ℕ × List Move). AreSeats z.0 z.1 (seats_of views)) (λ i. (key i, front i)) h.2.seats

    others : (j : ℕ) (u : PassSight) → get_elem? (set views port left) j ≡ some u → IsRoomed (is_some room) u
    others j u at' = ⊎_elim
        (λ (x : (j ≡ port) × (left ≡ u)). subst (IsRoomed (is_some room)) x.1 (record { alike = λ _. refl; idle = λ none. absurd (omega arith) }))
        (λ (x : (j ≢ port) × (get_elem? views j ≡ some u)).
        let t = total_set its_share views port v right at in
        let b = total_has its_share (set views port right) j u (set_else views port j right x.0 ∙ x.1) in
        let all = all_of_it items views v h whole in
        record { alike = λ has. absurd (omega (arith, has, t, b, all)); idle = (h.2.rooms.each j u x.1).idle })
        (at_set views port j left u at')
