-- The own entries of a seat, and what every seat keeps to.
use Rattle.std.proofs.Common.{◌≡◌, ⊎_elim, ℕ, zero, suc, ◌+◌, ◌-◌, ◌<◌, ◌≤◌, ◌==◌, List, [], ◌∷◌, ◌++◌, length, refl, sym, ap, ◌∙◌, subst, arith, append_assoc, append-nil, length-append, Bool, true, false, if◌then◌else◌, eq-eqb, ne_eqb}
use Rattle.std.specs.Prelude.{nat_lt}
use mathlib.Core.List.{IsPrefix}
use mathlib.Core.Logic.{dite}
use native.Mathlib.Decide.{ℕ_discrete}
use Rattle.rules.specs.Seats.{whole_share, longer, total, occurrences}
use Rattle.rules.specs.SeatRules.{entry_at, entries_at, IsHeld}
use Rattle.rules.proofs.SeatTotals.{total-append, times-append, times_push, times_same, times_else, not_pos, pos_or}
use Rattle.rules.proofs.SeatFronts.{length_begins}

-- what is before the end stays where it is if the list grows
module _ {E : Type 0} (log more : List E) where
  entry_stays : (x : ℕ) → x < length log → entry_at (log ++ more) x ≡ entry_at log x
  entry_stays x lt = early log x lt
    where
      early : (l : List E) (x : ℕ) → x < length l → entry_at (l ++ more) x ≡ entry_at l x
      early [] x lt = absurd (omega arith)
      early (y ∷ l) zero lt = refl
      early (y ∷ l) (suc x) lt = early l x (omega arith)

  pub entries_stay : (places : List ℕ) → ((x : ℕ) → 0 < occurrences x places → x < length log) → entries_at (log ++ more) places ≡ entries_at log places
  entries_stay [] h = refl
  entries_stay (p ∷ ps) h =
      let here : p < length log = h p (let t = times_same p in omega arith) in
      let one = entry_stays p here in
      let rest = entries_stay ps (λ x has. h x (omega arith)) in
      λ i. one i ++ rest i

module _ {E : Type 0} where
  pub entries_at-append : (log : List E) (xs ys : List ℕ) → entries_at log (xs ++ ys) ≡ entries_at log xs ++ entries_at log ys
  entries_at-append log [] ys = refl
  entries_at-append log (x ∷ xs) ys = ap (λ l. entry_at log x ++ l) (entries_at-append log xs ys) ∙ sym (append_assoc (entry_at log x) (entries_at log xs) (entries_at log ys))

  entry_last : (log : List E) (e : E) → entry_at (log ++ e ∷ []) (length log) ≡ e ∷ []
  entry_last [] e = refl
  entry_last (x ∷ log) e = entry_last log e

  -- one more entry
  pub entries_added : (front between : List E) (own : List ℕ) (e : E) → ((x : ℕ) → 0 < occurrences x own → x < length front)
      → entries_at ((front ++ between) ++ e ∷ []) (own ++ length (front ++ between) ∷ []) ≡ entries_at front own ++ e ∷ []
  entries_added front between own e inside =
      let log : List E = front ++ between in
      let first : entries_at (log ++ e ∷ []) own ≡ entries_at front own =
      entries_stay log (e ∷ []) own (λ x has. let i = inside x has in omega (arith, length-append front between))
      ∙ entries_stay front between own inside in
      let last : entries_at (log ++ e ∷ []) (length log ∷ []) ≡ e ∷ [] = append-nil (entry_at (log ++ e ∷ []) (length log)) ∙ entry_last log e in
      entries_at-append (log ++ e ∷ []) own (length log ∷ []) ∙ (λ i. first i ++ last i)

  pub entries_longer : (a b : List E) (own : List ℕ) → IsPrefix a b → ((x : ℕ) → 0 < occurrences x own → x < length a) → entries_at b own ≡ entries_at a own
  entries_longer a b own p h = ap (λ l. entries_at l own) (sym p.1) ∙ entries_stay a p.0 own h

  -- two seats in one
  pub entries_joined : (a b : List E) (own mine : List ℕ) → IsPrefix a (longer a b) → IsPrefix b (longer a b) → ((x : ℕ) → 0 < occurrences x own → x < length a) → ((x : ℕ) → 0 < occurrences x mine → x < length b)
      → entries_at (longer a b) (own ++ mine) ≡ entries_at a own ++ entries_at b mine
  entries_joined a b own mine p q h k = entries_at-append (longer a b) own mine ∙ (λ i. entries_longer a (longer a b) own p h i ++ entries_longer b (longer a b) mine q k i)

  -- the own places of both are places of the longer front
  pub joined_inside : (a b : List E) (own mine : List ℕ) → IsPrefix a (longer a b) → IsPrefix b (longer a b) → ((x : ℕ) → 0 < occurrences x own → x < length a) → ((x : ℕ) → 0 < occurrences x mine → x < length b)
      → (x : ℕ) → 0 < occurrences x (own ++ mine) → x < length (longer a b)
  joined_inside a b own mine p q h k x has = let t = times-append x own mine in ⊎_elim
      (λ (here : 0 < occurrences x own). let i = h x here in let le = length_begins a (longer a b) p in omega arith)
      (λ (there : 0 < occurrences x mine). let i = k x there in let le = length_begins b (longer a b) q in omega arith)
      (pos_or (occurrences x own) (occurrences x mine) (omega arith))

module _ {E : Type 0} (Legal : List E → Type 0) where
  -- a seat that made an entry
  pub held_added : (front between : List E) (own : List ℕ) (share : ℕ) (e : E) → IsHeld Legal front own share → Legal ((front ++ between) ++ e ∷ []) → (share ≡ whole_share → between ≡ [])
      → IsHeld Legal ((front ++ between) ++ e ∷ []) (own ++ length (front ++ between) ∷ []) share
  held_added front between own share e k legal alone = record {
    legal = legal;
    inside = λ x has. within x has (times_push x own n) (length-append log (e ∷ []));
    once = λ x. told x (times_push x own n);
    some_share = k.some_share;
    most_share = k.most_share;
    every = λ whole x lt. all whole x (times_push x own n) (omega (arith, length-append log (e ∷ [])));
  }
    where
      log : List E
      log = front ++ between

      n : ℕ
      n = length log

      le : length front ≤ n
      le = omega (arith, length-append front between)

      within : (x : ℕ) → 0 < occurrences x (own ++ n ∷ []) → occurrences x (own ++ n ∷ []) ≡ occurrences x own + occurrences x (n ∷ []) → length (log ++ e ∷ []) ≡ n + 1 → x < length (log ++ e ∷ [])
      within x has t len = ⊎_elim
          (λ (h : 0 < occurrences x own). let i = k.inside x h in let l = le in omega arith)
          (λ (h : 0 < occurrences x (n ∷ [])). dite (ℕ_discrete n x) (λ same. omega arith) (λ other. let z = times_else x n other in absurd (omega arith)))
          (pos_or (occurrences x own) (occurrences x (n ∷ [])) (omega arith))

      told : (x : ℕ) → occurrences x (own ++ n ∷ []) ≡ occurrences x own + occurrences x (n ∷ []) → occurrences x (own ++ n ∷ []) ≤ 1
      told x t = dite (ℕ_discrete n x)
          (λ same. let z : occurrences x own ≡ 0 = not_pos _ (λ pos. let i = k.inside x pos in let l = le in absurd (omega arith)) in
          let one : occurrences x (n ∷ []) ≡ 1 = subst (λ y. occurrences x (y ∷ []) ≡ 1) (sym same) (times_same x) in omega arith)
          (λ other. let z = times_else x n other in let o = k.once x in omega arith)

      all : share ≡ whole_share → (x : ℕ) → occurrences x (own ++ n ∷ []) ≡ occurrences x own + occurrences x (n ∷ []) → x < n + 1 → 0 < occurrences x (own ++ n ∷ [])
      all whole x t lt = dite (ℕ_discrete n x)
          (λ same. let one : occurrences x (n ∷ []) ≡ 1 = subst (λ y. occurrences x (y ∷ []) ≡ 1) (sym same) (times_same x) in omega arith)
          (λ other. let l : length log ≡ length front = ap length (ap (λ b. front ++ b) (alone whole) ∙ append-nil front) in
          let ev = k.every whole x (omega arith) in omega arith)

  longer_legal : (a b : List E) → Legal a → Legal b → Legal (longer a b)
  longer_legal a b la lb = two (nat_lt (length a) (length b))
    where
      two : (c : Bool) → Legal (if c then b else a)
      two true = lb
      two false = la

  -- two seats in one
  pub held_joined : (a b : List E) (own mine : List ℕ) (share part : ℕ) → IsHeld Legal a own share → IsHeld Legal b mine part → IsPrefix a (longer a b) → IsPrefix b (longer a b)
      → ((x : ℕ) → occurrences x own + occurrences x mine ≤ 1) → share + part ≤ whole_share → (share + part ≡ whole_share → (x : ℕ) → x < length (longer a b) → 0 < occurrences x own + occurrences x mine)
      → IsHeld Legal (longer a b) (own ++ mine) (share + part)
  held_joined a b own mine share part ka kb p q apart small every = record {
    legal = longer_legal a b ka.legal kb.legal;
    inside = joined_inside a b own mine p q ka.inside kb.inside;
    once = λ x. let t : occurrences x (own ++ mine) ≡ occurrences x own + occurrences x mine = times-append x own mine in let one = apart x in omega arith;
    some_share = let s = ka.some_share in omega arith;
    most_share = small;
    every = λ whole x lt. let t : occurrences x (own ++ mine) ≡ occurrences x own + occurrences x mine = times-append x own mine in let e = every whole x lt in omega arith;
  }

  -- a seat that has seen more, and doesn't have all shares
  pub held_further : (a b : List E) (own : List ℕ) (share : ℕ) → IsHeld Legal a own share → Legal b → IsPrefix a b → share < whole_share → IsHeld Legal b own share
  held_further a b own share k legal p less = record {
    legal = legal;
    inside = λ x has. let i = k.inside x has in let le = length_begins a b p in omega arith;
    once = k.once;
    some_share = k.some_share;
    most_share = k.most_share;
    every = λ whole. absurd (omega arith);
  }

  -- two seats that meet
  pub held_met : (a b : List E) (own mine : List ℕ) (share part : ℕ) → IsHeld Legal a own share → IsHeld Legal b mine part → IsPrefix a (longer a b) → IsPrefix b (longer a b) → share + part ≤ whole_share
      → IsHeld Legal (longer a b) own share × IsHeld Legal (longer a b) mine part
  held_met a b own mine share part ka kb p q small =
      let s = ka.some_share in let t = kb.some_share in
      let legal = longer_legal a b ka.legal kb.legal in
      (held_further a (longer a b) own share ka legal p (omega arith), held_further b (longer a b) mine part kb legal q (omega arith))

  -- a seat that gives a part of its share, and the seat that gets it
  pub held_keeps : (front : List E) (own : List ℕ) (share give : ℕ) → IsHeld Legal front own share → 0 < give → give < share → IsHeld Legal front own (share - give)
  held_keeps front own share give k some less = record {
    legal = k.legal;
    inside = k.inside;
    once = k.once;
    some_share = omega arith;
    most_share = let s = k.most_share in omega arith;
    every = λ whole. absurd (let s = k.most_share in omega arith);
  }

  pub held_given : (front : List E) (own : List ℕ) (share give : ℕ) → IsHeld Legal front own share → 0 < give → give < share → IsHeld Legal front [] give
  held_given front own share give k some less = record {
    legal = k.legal;
    inside = λ x has. absurd (omega arith);
    once = λ x. omega arith;
    some_share = some;
    most_share = let s = k.most_share in omega arith;
    every = λ whole. absurd (let s = k.most_share in omega arith);
  }

  pub held_opens : Legal [] → IsHeld Legal [] [] whole_share
  held_opens legal = record { legal = legal; inside = λ x has. absurd (omega arith); once = λ x. omega arith; some_share = omega arith; most_share = omega arith; every = λ whole x lt. absurd (omega arith) }

-- with all shares, each entry of the front is an own one, once
abbrev below : (ℕ → ℕ) → ℕ → ℕ
below f zero = 0
below f (suc n) = below f n + f n

below_first : (f : ℕ → ℕ) (n : ℕ) → below f (suc n) ≡ f 0 + below (λ x. f (suc x)) n
below_first f zero = omega arith
below_first f (suc n) = let h = below_first f n in omega arith

below_same : (f g : ℕ → ℕ) (n : ℕ) → ((x : ℕ) → x < n → f x ≡ g x) → below f n ≡ below g n
below_same f g zero h = refl
below_same f g (suc n) h = let r = below_same f g n (λ x lt. h x (omega arith)) in let e = h n (omega arith) in omega arith

below_sum : (f g : ℕ → ℕ) (n : ℕ) → below (λ x. f x + g x) n ≡ below f n + below g n
below_sum f g zero = omega arith
below_sum f g (suc n) = let h = below_sum f g n in omega arith

below_zero : (n : ℕ) → below (λ x. 0) n ≡ 0
below_zero zero = refl
below_zero (suc n) = let h = below_zero n in omega arith

-- f at y, and 0 elsewhere
abbrev only : ℕ → (ℕ → ℕ) → ℕ → ℕ
only y f x = if y == x then f x else 0

below_only : (y : ℕ) (f : ℕ → ℕ) (n : ℕ) → n ≤ y → below (only y f) n ≡ 0
below_only y f zero le = refl
below_only y f (suc n) le =
    let h = below_only y f n (omega arith) in
    let z : only y f n ≡ 0 = ap (λ b. if b then f n else 0) (ne_eqb y n (λ e. absurd (omega arith))) in
    omega arith

below_one : (y : ℕ) (f : ℕ → ℕ) (n : ℕ) → y < n → below (only y f) n ≡ f y
below_one y f zero lt = absurd (omega arith)
below_one y f (suc n) lt = dite (ℕ_discrete y n)
    (λ same. let h = below_only y f n (omega arith) in
    let o : only y f n ≡ f n = ap (λ b. if b then f n else 0) (eq-eqb y n same) in
    let e : f y ≡ f n = ap f same in omega arith)
    (λ other. let h = below_one y f n (omega arith) in
    let z : only y f n ≡ 0 = ap (λ b. if b then f n else 0) (ne_eqb y n other) in omega arith)

-- the weight of x, as many times as x is in the list
abbrev each : (ℕ → ℕ) → List ℕ → ℕ → ℕ
each f [] x = 0
each f (y ∷ ys) x = only y f x + each f ys x

each_total : (f : ℕ → ℕ) (n : ℕ) (ys : List ℕ) → ((x : ℕ) → 0 < occurrences x ys → x < n) → total f ys ≡ below (each f ys) n
each_total f n [] h = sym (below_zero n)
each_total f n (y ∷ ys) h =
    let rest = each_total f n ys (λ x has. h x (omega arith)) in
    let one = below_one y f n (h y (let t = times_same y in omega arith)) in
    let cut = below_sum (only y f) (each f ys) n in
    omega arith

each_none : (f : ℕ → ℕ) (ys : List ℕ) (x : ℕ) → occurrences x ys ≡ 0 → each f ys x ≡ 0
each_none f [] x t = refl
each_none f (y ∷ ys) x t = dite (ℕ_discrete y x)
    (λ same. let o : occurrences x (y ∷ []) ≡ 1 = subst (λ z. occurrences x (z ∷ []) ≡ 1) (sym same) (times_same x) in absurd (omega arith))
    (λ other. let o : only y f x ≡ 0 = ap (λ b. if b then f x else 0) (ne_eqb y x other) in
    let r = each_none f ys x (omega arith) in omega arith)

each_once : (f : ℕ → ℕ) (ys : List ℕ) (x : ℕ) → occurrences x ys ≡ 1 → each f ys x ≡ f x
each_once f [] x t = absurd (omega arith)
each_once f (y ∷ ys) x t = dite (ℕ_discrete y x)
    (λ same. let o : occurrences x (y ∷ []) ≡ 1 = subst (λ z. occurrences x (z ∷ []) ≡ 1) (sym same) (times_same x) in
    let v : only y f x ≡ f x = ap (λ b. if b then f x else 0) (eq-eqb y x same) in
    let r = each_none f ys x (omega arith) in omega arith)
    (λ other. let o : occurrences x (y ∷ []) ≡ 0 = times_else x y other in
    let v : only y f x ≡ 0 = ap (λ b. if b then f x else 0) (ne_eqb y x other) in
    let r = each_once f ys x (omega arith) in omega arith)

each_most : (f : ℕ → ℕ) (ys : List ℕ) (x : ℕ) → occurrences x ys ≤ 1 → each f ys x ≤ f x
each_most f ys x le = two (occurrences x ys) refl le
  where
    two : (n : ℕ) → occurrences x ys ≡ n → n ≤ 1 → each f ys x ≤ f x
    two zero e l = let z = each_none f ys x e in omega arith
    two (suc zero) e l = let o = each_once f ys x e in omega arith
    two (suc (suc n)) e l = absurd (omega arith)

below_least : (f g : ℕ → ℕ) (n : ℕ) → ((x : ℕ) → f x ≤ g x) → below f n ≤ below g n
below_least f g zero h = omega arith
below_least f g (suc n) h = let r = below_least f g n h in let e = h n in omega arith

module _ {E : Type 0} (h : E → ℕ) where
  -- the weight of the entry at a place
  abbrev weight_at : List E → ℕ → ℕ
  weight_at log x = total h (entry_at log x)

  weighed_places : (log : List E) (places : List ℕ) → total h (entries_at log places) ≡ total (weight_at log) places
  weighed_places log [] = refl
  weighed_places log (x ∷ xs) = let r = weighed_places log xs in let a = total-append h (entry_at log x) (entries_at log xs) in omega arith

  weighed_all : (log : List E) → below (weight_at log) (length log) ≡ total h log
  weighed_all [] = refl
  weighed_all (e ∷ log) = let r = weighed_all log in let f = below_first (weight_at (e ∷ log)) (length log) in omega arith

  pub whole_weight : (Legal : List E → Type 0) (front : List E) (own : List ℕ) (share : ℕ) → IsHeld Legal front own share → share ≡ whole_share → total h (entries_at front own) ≡ total h front
  whole_weight Legal front own share k whole =
      let places = weighed_places front own in
      let sums = each_total (weight_at front) (length front) own k.inside in
      let same = below_same (each (weight_at front) own) (weight_at front) (length front) (λ x lt. each_once (weight_at front) own x (let e = k.every whole x lt in let o = k.once x in omega arith)) in
      let all = weighed_all front in
      omega arith

  -- own entries, each once, weigh no more than all entries
  pub part_weight : (front : List E) (own : List ℕ) → ((x : ℕ) → 0 < occurrences x own → x < length front) → ((x : ℕ) → occurrences x own ≤ 1) → total h (entries_at front own) ≤ total h front
  part_weight front own inside once =
      let places = weighed_places front own in
      let sums = each_total (weight_at front) (length front) own inside in
      let least = below_least (each (weight_at front) own) (weight_at front) (length front) (λ x. each_most (weight_at front) own x (once x)) in
      let all = weighed_all front in
      omega arith
