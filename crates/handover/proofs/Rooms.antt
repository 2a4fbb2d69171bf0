-- The rooms of passes, one by one and together.
use Rattle.std.proofs.Common.{◌≡◌, ◌≢◌, ⊎_elim, ℕ, zero, suc, ◌+◌, ◌-◌, ◌<◌, ◌≤◌, Bool, false, true≢false, List, [], ◌∷◌, ◌++◌, length, set, Option, Some, None, is_some, refl, sym, ap, ◌∙◌, subst, arith}
use mathlib.Core.Option.{some, some-injective, some-ne-none}
use lib.ListN.{get_elem?}
use Rattle.atomic_table.proofs.Lists.{at_set, at_snoc}
use Rattle.rules.specs.Seats.{total, share_of}
use Rattle.rules.proofs.SeatTotals.{total_zero, total_alone}
use Rattle.handover.specs.Queue.{Move, Put, Take, sheets_put}
use Rattle.handover.specs.Passes.{PassView, MakesMoves, puts_in, room_after, room_kept, room_given, both_rooms}
use Rattle.handover.specs.Laws.{RoomIsUsedUp}
use Rattle.handover.specs.Rule.{PassSight, seats_of, puts_allowed, IsRoomed, AreRooms}

-- one room
pub kind_after : (m : Move) (r : Option ℕ) → is_some (room_after m r) ≡ is_some r
kind_after (Put s) None = refl
kind_after (Put s) (Some n) = refl
kind_after (Take s) r = refl

pub one_less : (s : ℕ) (r : Option ℕ) → 0 < puts_in r → puts_in (room_after (Put s) r) + 1 ≡ puts_in r
one_less s None has = absurd (omega arith)
one_less s (Some n) has = omega (arith, has)

pub no_more : (s : ℕ) (r : Option ℕ) → puts_in (room_after (Put s) r) ≤ puts_in r
no_more s None = omega arith
no_more s (Some n) = omega arith

pub parts : (g : ℕ) (r : Option ℕ) → g ≤ puts_in r → puts_in (room_kept g r) + puts_in (room_given g r) ≡ puts_in r
parts g None le = omega arith
parts g (Some n) le = omega arith

pub kind_kept : (g : ℕ) (r : Option ℕ) → is_some (room_kept g r) ≡ is_some r
kind_kept g None = refl
kind_kept g (Some n) = refl

pub kind_given : (g : ℕ) (r : Option ℕ) → is_some (room_given g r) ≡ is_some r
kind_given g None = refl
kind_given g (Some n) = refl

pub kept_all : (r : Option ℕ) → room_kept 0 r ≡ r
kept_all None = refl
kept_all (Some n) = ap (λ k. Some k) (omega arith)

pub sum_of_both : (r q : Option ℕ) → puts_in (both_rooms r q) ≡ puts_in r + puts_in q
sum_of_both None q = omega arith
sum_of_both (Some n) None = omega arith
sum_of_both (Some n) (Some m) = refl

pub kind_both : (b : Bool) (r q : Option ℕ) → is_some r ≡ b → is_some q ≡ b → is_some (both_rooms r q) ≡ b
kind_both b None q here there = there
kind_both b (Some n) None here there = here
kind_both b (Some n) (Some m) here there = here

pub none_without : (r : Option ℕ) → is_some r ≡ false → puts_in r ≡ 0
none_without None e = refl
none_without (Some n) e = absurd (true≢false e)

-- the seats of all passes
pub seat_at : (views : List PassSight) (id : ℕ) (v : PassSight) → get_elem? views id ≡ some v → get_elem? (seats_of views) id ≡ some v.seat
seat_at [] id v e = absurd (some-ne-none v (sym e))
seat_at (x ∷ xs) zero v e = ap (λ (u : PassSight). some u.seat) (some-injective x v e)
seat_at (x ∷ xs) (suc id) v e = seat_at xs id v e

pub seats_set : (views : List PassSight) (id : ℕ) (w : PassSight) → seats_of (set views id w) ≡ set (seats_of views) id w.seat
seats_set [] id w = refl
seats_set (x ∷ xs) zero w = refl
seats_set (x ∷ xs) (suc id) w = ap (λ l. x.seat ∷ l) (seats_set xs id w)

pub seats_snoc : (views : List PassSight) (w : PassSight) → seats_of (views ++ w ∷ []) ≡ seats_of views ++ w.seat ∷ []
seats_snoc [] w = refl
seats_snoc (x ∷ xs) w = ap (λ l. x.seat ∷ l) (seats_snoc xs w)

abbrev pub its_share : PassSight → ℕ
its_share v = v.seat.share

pub shares_of_seats : (views : List PassSight) → total share_of (seats_of views) ≡ total its_share views
shares_of_seats [] = refl
shares_of_seats (x ∷ xs) = let h = shares_of_seats xs in omega arith

-- what is known of each pass, when one is changed, and when one more comes
abbrev Each : (PassSight → Type 0) → List PassSight → Type 0
Each P views = (id : ℕ) (v : PassSight) → get_elem? views id ≡ some v → P v

pub each_set : (P : PassSight → Type 0) (views : List PassSight) (id : ℕ) (w : PassSight) → Each P views → P w → Each P (set views id w)
each_set P views id w each mine j u at = ⊎_elim
    (λ (x : (j ≡ id) × (w ≡ u)). subst P x.1 mine)
    (λ (x : (j ≢ id) × (get_elem? views j ≡ some u)). each j u x.1)
    (at_set views id j w u at)

pub each_snoc : (P : PassSight → Type 0) (views : List PassSight) (w : PassSight) → Each P views → P w → Each P (views ++ w ∷ [])
each_snoc P views w each mine j u at = ⊎_elim
    (λ (x : get_elem? views j ≡ some u). each j u x)
    (λ (x : w ≡ u). subst P x mine)
    (at_snoc views w u j at)

pub each_one : (P : PassSight → Type 0) (w : PassSight) → P w → Each P (w ∷ [])
each_one P w mine zero u at = subst P (some-injective w u at) mine
each_one P w mine (suc j) u at = absurd (some-ne-none u (sym at))

-- if one pass has all shares, or puts aren't made by right, no other has room
pub none_else : (b : Bool) (cap held : ℕ) (views : List PassSight) (id : ℕ) (v : PassSight) → AreRooms b cap held views → get_elem? views id ≡ some v
    → total its_share views ≤ v.seat.share → total puts_allowed views ≤ puts_allowed v
none_else b cap held views id v k at all =
    total_alone its_share puts_allowed views id v at all (λ j u at' none. (k.each j u at').idle none)

pub none_at_all : (b : Bool) (cap held : ℕ) (views : List PassSight) (id : ℕ) (v : PassSight) → AreRooms b cap held views → get_elem? views id ≡ some v
    → 0 < v.seat.share → v.room ≡ None → total puts_allowed views ≡ 0
none_at_all b cap held views id v k at pos without = total_zero puts_allowed views (λ j u at'. one u (k.each j u at') u.seat.share refl)
  where
    kind : b ≡ false
    kind = sym ((k.each id v at).alike pos) ∙ ap is_some without

    one : (u : PassSight) → IsRoomed b u → (n : ℕ) → u.seat.share ≡ n → puts_allowed u ≡ 0
    one u r zero is = r.idle is
    one u r (suc n) is = none_without u.room (r.alike (omega (arith, is)) ∙ kind)

-- how a room is used up
lowered : (old : PassView) (moves : List Move) (new : PassView) → MakesMoves old moves new → puts_in new.room ≡ puts_in old.room - length (sheets_put moves)
lowered old [] new made = let e = ap (λ (z : PassView). puts_in z.room) made in omega arith
lowered old (Put s ∷ moves) new made =
    let rest = lowered made.0 moves new made.2 in
    let one : puts_in made.0.room ≡ puts_in (room_after (Put s) old.room) = ap puts_in made.1.1 in
    let less : puts_in (room_after (Put s) old.room) ≡ puts_in old.room - 1 = after_put s old.room in
    omega arith
  where
    after_put : (s : ℕ) (r : Option ℕ) → puts_in (room_after (Put s) r) ≡ puts_in r - 1
    after_put s None = omega arith
    after_put s (Some n) = refl
lowered old (Take s ∷ moves) new made =
    let rest = lowered made.0 moves new made.2 in
    let one : puts_in made.0.room ≡ puts_in old.room = ap puts_in made.1.1 in
    omega arith

pub room_is_used_up : RoomIsUsedUp
room_is_used_up = (
  (λ old new moves made. lowered old moves new made),
  (λ one two new joined. ap puts_in joined.1 ∙ sum_of_both one.room two.room),
)
