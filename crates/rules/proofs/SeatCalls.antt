-- The calls of a seat, one after the other.
use Rattle.std.proofs.Common.{◌≡◌, ℕ, ◌+◌, ◌-◌, ◌≤◌, List, [], ◌∷◌, ◌++◌, refl, sym, ap, ◌∙◌, subst, arith}
use mathlib.Core.List.{IsPrefix}
use Rattle.rules.specs.Seats.{longer, occurrences, total}
use Rattle.rules.specs.SeatCalls.{HistorySeat, IsSeat, Agree, Made, Makes, Split, own_entries}
use Rattle.rules.specs.SeatLaws.{CallsStandInOneHistory, OwnEntriesAreKept, WholeSeatMadeAll, OwnEntriesAreOfTheFront, SharesAreKept}
use Rattle.rules.proofs.SeatRules.{entries_joined, entries_longer, whole_weight, part_weight, joined_inside}
use Rattle.rules.proofs.SeatRuns.{Runs, run_begins, run_places, run_owns, run_stands, run_alone, run_entries}
use Rattle.rules.proofs.SeatTotals.{total-append, times-append}

module _ {K E : Type 0} (Legal : K → List E → Type 0) where
  -- one more call, and calls after calls
  pub makes_push : (old mid new : HistorySeat K E) (es : List E) (e : E) → Makes Legal old es mid → Made Legal mid e new → Makes Legal old (es ++ e ∷ []) new
  makes_push old mid new [] e m d = (new, subst (λ z. Made Legal z e new) (sym m) d, refl)
  makes_push old mid new (x ∷ es) e m d = (m.0, m.1, makes_push m.0 mid new es e m.2 d)

  pub makes-append : (a b c : HistorySeat K E) (xs ys : List E) → Makes Legal a xs b → Makes Legal b ys c → Makes Legal a (xs ++ ys) c
  makes-append a b c [] ys m n = subst (λ z. Makes Legal z ys c) (sym m) n
  makes-append a b c (x ∷ xs) ys m n = (m.0, m.1, makes-append m.0 b c xs ys m.2 n)

  -- the calls as entries of the front
  pub runs : (old new : HistorySeat K E) (es : List E) → Makes Legal old es new → Runs old.share old.front old.own es new.front new.own
  runs old new [] m = (ap (λ (z : HistorySeat K E). z.front) m, ap (λ (z : HistorySeat K E). z.own) m)
  runs old new (e ∷ es) m = (m.1.between, m.1.alone, m.1.before.inside, subst (λ (z : HistorySeat K E). Runs z.share z.front z.own es new.front new.own) m.1.grown (runs m.0 new es m.2))

  -- what was seen is still seen after the calls
  pub begins_makes : (old new : HistorySeat K E) (es : List E) → Makes Legal old es new → IsPrefix old.front new.front
  begins_makes old new es m = run_begins old.share old.front old.own es new.front new.own (runs old new es m)

  pub seat_makes : (old new : HistorySeat K E) (es : List E) → IsSeat Legal old → Makes Legal old es new → IsSeat Legal new
  seat_makes old new [] k m = subst (IsSeat Legal) m k
  seat_makes old new (e ∷ es) k m = seat_makes m.0 new es m.1.after m.2

  -- the table, the subject and the share stay
  pub same_makes : (old new : HistorySeat K E) (es : List E) → Makes Legal old es new → new ≡ record old { front = new.front; own = new.own }
  same_makes old new [] m = subst (λ (z : HistorySeat K E). z ≡ record old { front = z.front; own = z.own }) m refl
  same_makes old new (e ∷ es) m =
      let g = m.1.grown in
      same_makes m.0 new es m.2 ∙ (λ i. record { table = (g i).table; key = (g i).key; front = new.front; own = new.own; share = (g i).share })

  pub key_makes : (old new : HistorySeat K E) (es : List E) → Makes Legal old es new → new.key ≡ old.key
  key_makes old new es m = ap (λ (z : HistorySeat K E). z.key) (same_makes old new es m)

  pub calls_stand : CallsStandInOneHistory Legal
  calls_stand old new es k m =
      let r = runs old new es m in
      record {
        legal = subst (λ (key : K). Legal key new.front) (key_makes old new es m) (seat_makes old new es k m).legal;
        begins = begins_makes old new es m;
        places = run_places old.share old.front old.own es new.front new.own r;
        own = run_owns old.share old.front old.own es new.front new.own r;
        calls = run_stands old.share old.front old.own es new.front new.own r;
        others = run_alone old.share old.front old.own es new.front new.own r;
        same = same_makes old new es m;
      }

  -- own entries
  entries_seen : (old new : HistorySeat K E) (front : List E) → IsSeat Legal old → IsPrefix old.front front → new ≡ record old { front = front } → own_entries new ≡ own_entries old
  entries_seen old new front k p is = ap own_entries is ∙ entries_longer old.front front old.own p k.inside

  pub own_entries_are_kept : OwnEntriesAreKept Legal
  own_entries_are_kept = (
    λ old new es m. run_entries old.share old.front old.own es new.front new.own (runs old new es m),
    λ a b new ka kb j. ap own_entries j.joined ∙ entries_joined a.front b.front a.own b.own j.agree.one j.agree.two ka.inside kb.inside,
    λ a b a' b' ka kb m. (entries_seen a a' (longer a.front b.front) ka m.agree.one m.one, entries_seen b b' (longer a.front b.front) kb m.agree.two m.two),
    λ old kept given s. (ap own_entries s.keeps, ap own_entries s.gives),
  )

  pub whole_seat_made_all : WholeSeatMadeAll Legal
  whole_seat_made_all seat weight k whole = whole_weight weight (Legal seat.key) seat.front seat.own seat.share k whole

  pub own_entries_are_of_the_front : OwnEntriesAreOfTheFront Legal
  own_entries_are_of_the_front = (λ seat weight k. part_weight weight seat.front seat.own k.inside k.once, both)
    where
      both : (a b : HistorySeat K E) (weight : E → ℕ) → IsSeat Legal a → IsSeat Legal b → Agree a b → total weight (own_entries a) + total weight (own_entries b) ≤ total weight (longer a.front b.front)
      both a b weight ka kb g =
          let sum = ap (total weight) (entries_joined a.front b.front a.own b.own g.one g.two ka.inside kb.inside) in
          let cut = total-append weight (own_entries a) (own_entries b) in
          let most = part_weight weight (longer a.front b.front) (a.own ++ b.own) (joined_inside a.front b.front a.own b.own g.one g.two ka.inside kb.inside)
          (λ x. let t : occurrences x (a.own ++ b.own) ≡ occurrences x a.own + occurrences x b.own = times-append x a.own b.own in let one = g.apart x in omega arith) in
          omega arith

  pub shares_are_kept : SharesAreKept Legal
  shares_are_kept = (
    λ old new es m. ap (λ (z : HistorySeat K E). z.share) (same_makes old new es m),
    λ a b new j. ap (λ (z : HistorySeat K E). z.share) j.joined,
    λ a b a' b' m. (ap (λ (z : HistorySeat K E). z.share) m.one, ap (λ (z : HistorySeat K E). z.share) m.two),
    λ old kept given s. parted old kept given s,
  )
    where
      parted : (old kept given : HistorySeat K E) → Split Legal old kept given → kept.share + given.share ≡ old.share
      parted old kept given s =
          let one : kept.share ≡ old.share - s.share = ap (λ (z : HistorySeat K E). z.share) s.keeps in
          let two : given.share ≡ s.share = ap (λ (z : HistorySeat K E). z.share) s.gives in
          let less = s.some_share.1 in
          omega arith
