-- What a step reveals, as clauses see it; and a seat between two calls stays one.
use Rattle.std.proofs.Common.{◌≡◌, ℕ, ◌+◌, ◌-◌, ◌<◌, List, [], refl, sym, ap, ◌∙◌, subst, arith}
use Rattle.atomic_table.specs.Seated.{TableId}
use Rattle.rules.specs.Seats.{Sight, Adds, Learned, keeps_back, given, absorbed, opening_sight, longer}
use Rattle.rules.specs.SeatRules.{IsHeld, StandsAlone}
use Rattle.rules.specs.SeatCalls.{HistorySeat, seat_view, Agree, Made, Met, Joined, opening}
use Rattle.rules.proofs.SeatFronts.{both_begin}
use Rattle.rules.proofs.SeatRules.{held_added, held_keeps, held_given, held_opens, held_joined, held_met}
use Rattle.rules.proofs.SeatTotals.{times-append}

module _ {K E : Type 0} where
  -- the seat that a table is made with
  pub view_opens : (t t' : TableId) (v : Sight K E) (key key' : K) → t ≡ t' → v ≡ opening_sight key → key ≡ key' → seat_view t v ≡ opening t' key'
  view_opens t t' v key key' same is same_key = (λ i. seat_view (same i) (is i)) ∙ (λ i. opening t' (same_key i))

  agree : (t u : TableId) (v w : Sight K E) → Learned (absorbed v w) → Agree (seat_view t v) (seat_view u w)
  agree t u v w l =
      let both = both_begin v.front w.front l.log l.met.0 l.met.1.0 in
      record { one = both.0; two = both.1; apart = λ x. (let s = times-append x v.own w.own in let o = l.once x in omega arith); shares = l.shares }

module _ {K E : Type 0} (Legal : K → List E → Type 0) where
  abbrev pub Held : Sight K E → Type 0
  Held v = IsHeld (Legal v.key) v.front v.own v.share

  -- an entry
  held_after : (v w : Sight K E) (e : E) → Adds Legal v e w → Held v → Held w
  held_after v w e a h = subst Held (sym a.grown)
      (held_added (Legal v.key) v.front a.between v.own v.share e h (subst (λ (u : Sight K E). Legal v.key u.front) a.grown a.legal) a.alone)

  pub stands_after : (v w : Sight K E) (share : ℕ) (e : E) → Adds Legal v e w → StandsAlone Legal v share → StandsAlone Legal w share
  stands_after v w share e a s = record { share = s.share ∙ sym (ap (λ (u : Sight K E). u.share) a.grown); held = held_after v w e a s.held }

  pub made : (t t' : TableId) (v w : Sight K E) (e e' : E) (old : HistorySeat K E) → Adds Legal v e w → Held v → t' ≡ t → e ≡ e' → seat_view t v ≡ old → Made Legal old e' (seat_view t' w)
  made t t' v w e e' old a h same call is =
      subst (λ (z : TableId × E × HistorySeat K E). Made Legal z.2 z.1 (seat_view z.0 w)) (λ i. (sym same i, call i, is i))
      (record { between = a.between; grown = ap (seat_view t) a.grown; alone = a.alone; before = h; after = held_after v w e a h })

  -- a split
  pub stands_kept : (v w : Sight K E) (share rest give : ℕ) → w ≡ keeps_back v.own give v → 0 < give → give < v.share → rest ≡ share - give → StandsAlone Legal v share → StandsAlone Legal w rest
  stands_kept v w share rest give is some less is_rest s = record {
    share = is_rest ∙ ap (λ (n : ℕ). n - give) s.share ∙ sym (ap (λ (u : Sight K E). u.share) is);
    held = subst Held (sym is) (held_keeps (Legal v.key) v.front v.own v.share give s.held some less);
  }

  pub stands_given : (v w : Sight K E) (share give : ℕ) → w ≡ given [] give v → 0 < give → give < v.share → StandsAlone Legal v share → StandsAlone Legal w give
  stands_given v w share give is some less s = record { share = sym (ap (λ (u : Sight K E). u.share) is); held = subst Held (sym is) (held_given (Legal v.key) v.front v.own v.share give s.held some less) }

  -- the first seat
  pub stands_open : (w : Sight K E) (key : K) (share : ℕ) → Legal key [] → w ≡ opening_sight key → share ≡ 4_294_967_296 → StandsAlone Legal w share
  stands_open w key share legal is all = record { share = all ∙ sym (ap (λ (u : Sight K E). u.share) is); held = subst Held (sym is) (held_opens (Legal key) legal) }

  -- a join
  moved : (v w : Sight K E) → w.key ≡ v.key → Held w → IsHeld (Legal v.key) w.front w.own w.share
  moved v w key h = subst (λ (k : K). IsHeld (Legal k) w.front w.own w.share) key h

  held_absorbed : (v w : Sight K E) → Learned (absorbed v w) → w.key ≡ v.key → Held v → Held w → Held (absorbed v w)
  held_absorbed v w l key hv hw =
      let both = both_begin v.front w.front l.log l.met.0 l.met.1.0 in
      held_joined (Legal v.key) v.front w.front v.own w.own v.share w.share hv (moved v w key hw) both.0 both.1
      (λ x. (let s = times-append x v.own w.own in let o = l.once x in omega arith))
      l.shares
      (λ whole x lt. (let s = times-append x v.own w.own in let e = l.every whole x lt in omega arith))

  pub stands_joined : (v w u : Sight K E) (share part sum : ℕ) → u ≡ absorbed v w → Learned u → w.key ≡ v.key → sum ≡ share + part → StandsAlone Legal v share → StandsAlone Legal w part → StandsAlone Legal u sum
  stands_joined v w u share part sum is l key is_sum sv sw = record {
    share = is_sum ∙ (λ i. sv.share i + sw.share i) ∙ sym (ap (λ (z : Sight K E). z.share) is);
    held = subst Held (sym is) (held_absorbed v w (subst Learned is l) key sv.held sw.held);
  }

  joined_base : (t tw : TableId) (v w : Sight K E) → Learned (absorbed v w) → w.key ≡ v.key → Held v → Held w → Joined Legal (seat_view t v) (seat_view tw w) (seat_view t (absorbed v w))
  joined_base t tw v w l key hv hw = record { joined = refl; agree = agree t tw v w l; seat = held_absorbed v w l key hv hw }

  pub joined : (t tw t' : TableId) (v w u : Sight K E) (a b : HistorySeat K E) → seat_view t v ≡ a → seat_view tw w ≡ b → u ≡ absorbed v w → Learned u → t' ≡ t → w.key ≡ v.key → Held v → Held w → Joined Legal a b (seat_view t' u)
  joined t tw t' v w u a b is_a is_b is l same key hv hw =
      subst (λ (z : HistorySeat K E × HistorySeat K E × TableId × Sight K E). Joined Legal z.0 z.1 (seat_view z.2 z.3)) (λ i. (is_a i, is_b i, sym same i, sym is i))
      (joined_base t tw v w (subst Learned is l) key hv hw)

  -- a meeting: two seats are joined, and split again, each with its own places and its share
  held_both : (v w : Sight K E) → Learned (absorbed v w) → w.key ≡ v.key → Held v → Held w
      → IsHeld (Legal v.key) (longer v.front w.front) v.own v.share × IsHeld (Legal v.key) (longer v.front w.front) w.own w.share
  held_both v w l key hv hw =
      let both = both_begin v.front w.front l.log l.met.0 l.met.1.0 in
      held_met (Legal v.key) v.front w.front v.own w.own v.share w.share hv (moved v w key hw) both.0 both.1 l.shares

  -- the first and the second of two that met
  first_again : (v w x p : Sight K E) (places : List ℕ) (give : ℕ) → x ≡ absorbed v w → p ≡ keeps_back places give x → places ≡ v.own → give ≡ w.share
      → p ≡ record { key = v.key; front = longer v.front w.front; own = v.own; share = v.share; met = (absorbed v w).met }
  first_again v w x p places give is_x is_p mine share =
      let back : v.share + w.share - w.share ≡ v.share = omega arith in
      is_p ∙ (λ i. keeps_back (mine i) (share i) (is_x i)) ∙ (λ i. record { key = v.key; front = longer v.front w.front; own = v.own; share = back i; met = (absorbed v w).met })

  second_again : (v w x q : Sight K E) (places : List ℕ) (give : ℕ) → x ≡ absorbed v w → q ≡ given places give x → places ≡ w.own → give ≡ w.share
      → q ≡ record { key = v.key; front = longer v.front w.front; own = w.own; share = w.share; met = (absorbed v w).met }
  second_again v w x q places give is_x is_q theirs share = is_q ∙ (λ i. given (theirs i) (share i) (is_x i))

  pub stands_first : (v w x p : Sight K E) (places : List ℕ) (give share : ℕ) → x ≡ absorbed v w → Learned x → p ≡ keeps_back places give x → places ≡ v.own → give ≡ w.share → w.key ≡ v.key
      → StandsAlone Legal v share → Held w → StandsAlone Legal p share
  stands_first v w x p places give share is_x l is_p mine gives key sv hw =
      let e = first_again v w x p places give is_x is_p mine gives in
      record { share = sv.share ∙ sym (ap (λ (u : Sight K E). u.share) e); held = subst Held (sym e) (held_both v w (subst Learned is_x l) key sv.held hw).0 }

  pub stands_second : (v w x q : Sight K E) (places : List ℕ) (give part : ℕ) → x ≡ absorbed v w → Learned x → q ≡ given places give x → places ≡ w.own → give ≡ w.share → w.key ≡ v.key
      → Held v → StandsAlone Legal w part → StandsAlone Legal q part
  stands_second v w x q places give part is_x l is_q theirs gives key hv sw =
      let e = second_again v w x q places give is_x is_q theirs gives in
      record { share = sw.share ∙ sym (ap (λ (u : Sight K E). u.share) e); held = subst Held (sym e) (held_both v w (subst Learned is_x l) key hv sw.held).1 }

  met_base : (t tb : TableId) (v w : Sight K E) → Learned (absorbed v w) → w.key ≡ v.key → Held v → Held w
      → Met Legal (seat_view t v) (seat_view tb w) (record { table = t; key = v.key; front = longer v.front w.front; own = v.own; share = v.share })
      (record { table = tb; key = v.key; front = longer v.front w.front; own = w.own; share = w.share })
  met_base t tb v w l key hv hw = record {
    one = refl;
    two = λ i. record { table = tb; key = sym key i; front = longer v.front w.front; own = w.own; share = w.share };
    agree = agree t tb v w l;
    seats = held_both v w l key hv hw;
  }

  pub met : (t tb t' t'' : TableId) (v w x p q : Sight K E) (places theirs : List ℕ) (give : ℕ) (a b : HistorySeat K E) → seat_view t v ≡ a → seat_view tb w ≡ b → x ≡ absorbed v w → Learned x
      → p ≡ keeps_back places give x → q ≡ given theirs give x → places ≡ v.own → theirs ≡ w.own → give ≡ w.share → t' ≡ t → t'' ≡ tb → w.key ≡ v.key → Held v → Held w
      → Met Legal a b (seat_view t' p) (seat_view t'' q)
  met t tb t' t'' v w x p q places theirs give a b is_a is_b is_x l is_p is_q mine others gives same same' key hv hw =
      let first : seat_view t' p ≡ record { table = t; key = v.key; front = longer v.front w.front; own = v.own; share = v.share } = (λ i. seat_view (same i) (first_again v w x p places give is_x is_p mine gives i)) in
      let second : seat_view t'' q ≡ record { table = tb; key = v.key; front = longer v.front w.front; own = w.own; share = w.share } = (λ i. seat_view (same' i) (second_again v w x q theirs give is_x is_q others gives i)) in
      subst (λ (z : HistorySeat K E × HistorySeat K E × HistorySeat K E × HistorySeat K E). Met Legal z.0 z.1 z.2 z.3) (λ i. (is_a i, is_b i, sym first i, sym second i))
      (met_base t tb v w (subst Learned is_x l) key hv hw)
