-- All seats at one moment, and their own entries together.
use Rattle.std.proofs.Common.{◌≡◌, ⊎_elim, ℕ, suc, ◌<◌, List, [], ◌∷◌, ◌++◌, length, refl, ap, arith}
use mathlib.Core.Option.{some}
use lib.ListN.{get_elem?}
use Rattle.rules.specs.Seats.{Sight, total, occurrences, owned, IsSightOf}
use Rattle.rules.specs.SeatRules.{entries_at}
use Rattle.rules.specs.SeatLaws.{SeatsStandTogether}
use Rattle.rules.proofs.SeatTotals.{total-append, times-append, pos_or}
use Rattle.rules.proofs.SeatFronts.{length_begins}
use Rattle.rules.proofs.SeatRules.{entries_at-append, entries_longer, part_weight}

module _ {K E : Type 0} where
  -- the own places of all of them
  abbrev owns : List (Sight K E) → List ℕ
  owns [] = []
  owns (v ∷ vs) = v.own ++ owns vs

  times_owns : (x : ℕ) (vs : List (Sight K E)) → occurrences x (owns vs) ≡ total (owned x) vs
  times_owns x [] = refl
  times_owns x (v ∷ vs) = let h = times_owns x vs in let t = times-append x v.own (owns vs) in omega arith

  abbrev Begin : K → List E → List (Sight K E) → Type 0
  Begin key log vs = (id : ℕ) (v : Sight K E) → get_elem? vs id ≡ some v → IsSightOf key log v

  inside : (key : K) (log : List E) (vs : List (Sight K E)) → Begin key log vs → (x : ℕ) → 0 < occurrences x (owns vs) → x < length log
  inside key log [] h x has = absurd (omega arith)
  inside key log (v ∷ vs) h x has =
      let t = times-append x v.own (owns vs) in
      let f = h 0 v refl in
      ⊎_elim
      (λ (a : 0 < occurrences x v.own). let i = f.inside x a in let le = length_begins v.front log (f.rest, f.begins) in omega arith)
      (λ (b : 0 < occurrences x (owns vs)). inside key log vs (λ id w e. h (suc id) w e) x b)
      (pos_or (occurrences x v.own) (occurrences x (owns vs)) (omega arith))

  weighed : (key : K) (log : List E) (weight : E → ℕ) (vs : List (Sight K E)) → Begin key log vs
      → total (λ (v : Sight K E). total weight (entries_at v.front v.own)) vs ≡ total weight (entries_at log (owns vs))
  weighed key log weight [] h = refl
  weighed key log weight (v ∷ vs) h =
      let f = h 0 v refl in
      let here : total weight (entries_at log v.own) ≡ total weight (entries_at v.front v.own) = ap (total weight) (entries_longer v.front log v.own (f.rest, f.begins) f.inside) in
      let rest = weighed key log weight vs (λ id w e. h (suc id) w e) in
      let cut : total weight (entries_at log (v.own ++ owns vs)) ≡ total weight (entries_at log v.own ++ entries_at log (owns vs)) = ap (total weight) (entries_at-append log v.own (owns vs)) in
      let sum = total-append weight (entries_at log v.own) (entries_at log (owns vs)) in
      omega arith

module _ {K E : Type 0} (Legal : K → List E → Type 0) where
  pub seats_stand_together : SeatsStandTogether Legal
  seats_stand_together key log views legal seats = record {
    legal = legal;
    begins = λ id v e. (let f = seats.seats id v e in (f.rest, f.begins));
    apart = seats.apart;
    counted = λ weight.
        let all = weighed key log weight views seats.seats in
        let part = part_weight weight log (owns views) (inside key log views seats.seats) (λ x. let t = times_owns x views in let a = seats.apart x in omega arith) in
        omega arith;
  }
