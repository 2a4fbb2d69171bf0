-- Papers that count as one: as the code finds them, and what holds of them.
use Rattle.std.proofs.Common.{arith, ◌≡◌, ◌⊎◌, inl, inr, ℕ, zero, suc, ◌+◌, ◌<◌, ◌-◌, List, [], ◌∷◌, ◌++◌, true, false, refl, sym, ap, ◌∙◌, subst, length, get_or, cond}
use Rattle.std.specs.Prelude.{not, if◌then◌else◌, fold}
use Rattle.std.specs.List.{Contains}
use Rattle.std.proofs.lemmas.List.{get_or-map}
use Rattle.rules.specs.Papers.{Paper}
use Rattle.papers.specs.Own.{smallest_cover, covers, counts_as_one}
use Rattle.papers.specs.declared.kinds.PaperKind.{PaperKind}
use Rattle.papers.specs.AsOne.{IsOfKind, NearAreOne, NothingIsCut, apart_from, kind_of, kinds, larger_of, most_kinds, kind_paper, with_near}
use Rattle.papers.proofs.Covered.{by_test, covers_first, covers_second, covers_self, covers_through}

-- ---- as the code finds them

-- one turn of many
pub one_turn : (room n : ℕ) (ks old : List PaperKind) (ps qs : List Paper) → n < room
    → ((m : ℕ) → ks ++ kinds m ps ≡ old ++ kinds (suc m) qs) → ks ++ kinds (room - (n + 1)) ps ≡ old ++ kinds (room - n) qs
one_turn room n ks old ps qs less took = let same : suc (room - (n + 1)) ≡ room - n = omega (arith, less) in
    took (room - (n + 1)) ∙ ap (λ m. old ++ kinds m qs) same

-- ---- nothing is cut

-- a paper is one of these
abbrev pub In : Paper → List Paper → Type 0
In p [] = ⊥
In p (q ∷ qs) = (p ≡ q) ⊎ In p qs

pub in_at : (ps : List Paper) (k : ℕ) (d : Paper) → k < length ps → In (get_or ps k d) ps
in_at [] k d less = absurd (omega (arith, less))
in_at (p ∷ ps) zero d less = inl refl
in_at (p ∷ ps) (suc k) d less = inr (in_at ps k d (omega (arith, less)))

pub contained : (ps : List Paper) (p : Paper) → Contains ps p → In p ps
contained ps p has = subst (λ q. In q ps) has.2 (in_at ps has.0 p has.1)

-- what is covered so far stays covered
with_near_covers : (f a q : Paper) → covers (with_near f a q) a ≡ true
with_near_covers f a q = by_test (counts_as_one q f)
    (λ is. ap (λ b. covers (if b then smallest_cover a q else a) a) is ∙ covers_first a q)
    (λ isnt. ap (λ b. covers (if b then smallest_cover a q else a) a) isnt ∙ covers_self a)

pub stays_covered : (f a : Paper) (ps : List Paper) → covers (fold (with_near f) a ps) a ≡ true
stays_covered f a [] = covers_self a
stays_covered f a (q ∷ qs) =
    covers_through (fold (with_near f) (with_near f a q) qs) (with_near f a q) a (stays_covered f (with_near f a q) qs) (with_near_covers f a q)

-- and a near one is covered
pub near_covered : (f a : Paper) (ps : List Paper) (p : Paper) → In p ps → counts_as_one p f ≡ true → covers (fold (with_near f) a ps) p ≡ true
near_covered f a [] p has near = absurd has
near_covered f a (q ∷ qs) p (inl same) near =
    let taken : covers (with_near f a q) p ≡ true = subst (λ r. covers (with_near f a r) p ≡ true) same (ap (λ b. covers (if b then smallest_cover a p else a) p) near ∙ covers_second a p) in
    covers_through (fold (with_near f) (with_near f a q) qs) (with_near f a q) p (stays_covered f (with_near f a q) qs) taken
near_covered f a (q ∷ qs) p (inr has) near = near_covered f (with_near f a q) qs p has near

-- one that isn't near is left
pub left_over : (f : Paper) (ps : List Paper) (p : Paper) → In p ps → counts_as_one p f ≡ false → In p (apart_from f ps)
left_over f [] p has isnt = absurd has
left_over f (q ∷ qs) p (inl same) isnt =
    let other : not (counts_as_one q f) ≡ true = subst (λ r. not (counts_as_one r f) ≡ true) same (ap not isnt) in
    subst (λ b. In p (cond b (q ∷ apart_from f qs) (apart_from f qs))) (sym other) (inl same)
left_over f (q ∷ qs) p (inr has) isnt = by_test (not (counts_as_one q f))
    (λ stays. subst (λ b. In p (cond b (q ∷ apart_from f qs) (apart_from f qs))) (sym stays) (inr (left_over f qs p has isnt)))
    (λ goes. subst (λ b. In p (cond b (q ∷ apart_from f qs) (apart_from f qs))) (sym goes) (left_over f qs p has isnt))

covered : (room : ℕ) (ps : List Paper) (p : Paper) → In p ps → covers (kind_paper (kinds room ps) p) p ≡ true
covered zero ps p has = covers_self p
covered (suc room) [] p has = absurd has
covered (suc room) (q ∷ qs) p has =
    let f : Paper = fold larger_of q qs in
    let k : PaperKind = kind_of f (q ∷ qs) in
    let ks : List PaperKind = kinds room (apart_from f (q ∷ qs)) in
    by_test (counts_as_one p f)
    (λ is. ap (λ b. covers (if b then k.paper else kind_paper ks p) p) is ∙ near_covered f f (q ∷ qs) p has is)
    (λ isnt. ap (λ b. covers (if b then k.paper else kind_paper ks p) p) isnt ∙ covered room (apart_from f (q ∷ qs)) p (left_over f (q ∷ qs) p has isnt))

pub nothing_is_cut : NothingIsCut
nothing_is_cut taken own k d less has =
    ap (λ q. covers q (get_or own k d)) (get_or-map (kind_paper (kinds most_kinds taken)) own k d d less)
    ∙ covered most_kinds taken (get_or own k d) (contained taken (get_or own k d) has)

-- ---- papers of one kind

of_kind : (ks : List PaperKind) (i : ℕ) (d : PaperKind) (q : Paper) → IsOfKind ks i d q → kind_paper ks q ≡ (get_or ks i d).paper
of_kind [] i d q h = absurd (let there = h.is_there in omega (arith, there))
of_kind (k ∷ ks) zero d q h = ap (λ b. if b then k.paper else kind_paper ks q) h.near
of_kind (k ∷ ks) (suc i) d q h =
    ap (λ b. if b then k.paper else kind_paper ks q) (h.of_no_earlier 0 (omega arith))
    ∙ of_kind ks i d q (record {
      is_there = let there = h.is_there in omega (arith, there);
      near = h.near;
      of_no_earlier = λ g less. h.of_no_earlier (suc g) (omega (arith, less));
    })

pub near_are_one : NearAreOne
near_are_one taken own i j k d e less_j less_k of_j of_k =
    let ks = kinds most_kinds taken in
    get_or-map (kind_paper ks) own j e e less_j ∙ of_kind ks i d (get_or own j e) of_j
    ∙ sym (get_or-map (kind_paper ks) own k e e less_k ∙ of_kind ks i d (get_or own k e) of_k)
