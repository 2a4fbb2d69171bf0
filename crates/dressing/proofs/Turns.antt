-- One sheet more: what is left of a list, and what is known of papers so far.
use Rattle.std.proofs.Common.{ℕ, suc, ◌+◌, ◌≡◌, ◌∙◌, refl, ap, sym, subst, arith, [], ◌∷◌, ◌++◌, List, Some, drop, Bool, true, false, ℤ, int_eq, Ordering, Less, Equal, Greater}
use Rattle.std.specs.Prelude.{cond, slice_get, if◌then◌else◌, ◌&&◌, ◌||◌}
use Rattle.std.specs.BTreeMap.{is_at}
use Rattle.std.specs.BTreeSet.{BTreeSet, Updates, contains}
use Rattle.std.specs.List.{list_any}
use Rattle.std.specs.Ordering.{int_cmp, is_eq, ordering_then}
use Rattle.std.proofs.Math.Seq.{drop-cons}
use Rattle.std.proofs.lemmas.Bool.Decides.{Decides-int_eq}
use Rattle.std.proofs.lemmas.List.Folds.{list_any-append}
use Rattle.std.proofs.lemmas.Option.{slice_get_within, get_or_from_slice_get}
use Rattle.rules.specs.Papers.{Paper}
use Rattle.papers.specs.Reported.{different_from, in_print, is_reported_alike}
use Rattle.dressing.specs.Sizes.{AreSizesOf, size_of, size_order, with_paper}
use Rattle.dressing.specs.declared.reported.Size.{Size}

-- the entry that is next
pub next : {A : Type 0} (xs : List A) (i : ℕ) (x : A) → slice_get xs i ≡ Some x → drop i xs ≡ x ∷ drop (i + 1) xs
next xs i x is =
    let lt = slice_get_within xs i x is in
    let at : suc i ≡ i + 1 = omega arith in
    drop-cons xs i x lt ∙ ap (λ y. y ∷ drop (suc i) xs) (get_or_from_slice_get xs i x x is) ∙ ap (λ k. x ∷ drop k xs) at

turned : (b : Bool) (f : List Paper → List Paper) (xs ys : List Paper) → (if b then f xs else f ys) ≡ f (if b then xs else ys)
turned true f xs ys = refl
turned false f xs ys = refl

-- one paper more
pub paper_more : (all reported : List Paper) (s : ℕ) (p : Paper) → slice_get all s ≡ Some p → different_from reported (drop s all) ≡ different_from (with_paper reported p) (drop (s + 1) all)
paper_more all reported s p is =
    ap (different_from reported) (next all s p is)
    ∙ turned (list_any (is_reported_alike p) reported) (λ found. different_from found (drop (s + 1) all)) reported (reported ++ p ∷ [])

chosen : (b : Bool) (x y : List Paper) → b ≡ true → (if b then x else y) ≡ x
chosen true x y e = refl
chosen false x y e = cc

other : (b : Bool) (x y : List Paper) → b ≡ false → (if b then x else y) ≡ y
other true x y e = cc
other false x y e = refl

-- ---- sizes in their order
then_eq : (o p : Ordering) → is_eq (ordering_then o p) ≡ (is_eq o && is_eq p)
then_eq Less p = refl
then_eq Equal p = refl
then_eq Greater p = refl

by_each : (s t : Bool) → (s ≡ true → t ≡ true) → (t ≡ true → s ≡ true) → s ≡ t
by_each true t there back = sym (there refl)
by_each false true there back = back refl
by_each false false there back = refl

swapped : (a b : ℤ) → int_eq a b ≡ int_eq b a
swapped a b =
    by_each (int_eq a b) (int_eq b a) (λ e. (Decides-int_eq b a).1 (sym ((Decides-int_eq a b).0 e))) (λ e. (Decides-int_eq a b).1 (sym ((Decides-int_eq b a).0 e)))

-- papers that are reported alike have equal sizes
same_order : (p q : Paper) → is_at (size_order (size_of q)) (size_of p) ≡ is_reported_alike p q
same_order p q =
    let wide : int_eq (in_print q.width) (in_print p.width) ≡ int_eq (in_print p.width) (in_print q.width) = swapped (in_print q.width) (in_print p.width) in
    let high : int_eq (in_print q.height) (in_print p.height) ≡ int_eq (in_print p.height) (in_print q.height) = swapped (in_print q.height) (in_print p.height) in
    then_eq (int_cmp (in_print q.width) (in_print p.width)) (int_cmp (in_print q.height) (in_print p.height))
    ∙ (ap (λ b. b && int_eq (in_print q.height) (in_print p.height)) wide
    ∙ ap (λ b. int_eq (in_print p.width) (in_print q.width) && b) high)

one_more : (t c : Bool) → cond t true c ≡ (c || (t || false))
one_more true true = refl
one_more true false = refl
one_more false true = refl
one_more false false = refl

pub sizes_more : (reported : List Paper) (q : Paper) (old new : BTreeSet Size) (z : Size) → z ≡ size_of q → AreSizesOf reported old → Updates size_order old new z true → AreSizesOf (reported ++ q ∷ []) new
sizes_more reported q old new z is so_far updated p =
    let here = subst (λ (k : Size). contains size_order new (size_of p) ≡ cond (is_at (size_order k) (size_of p)) true (contains size_order old (size_of p))) is (updated.0 (size_of p)) in
    here
    ∙ (ap (λ t. cond t true (contains size_order old (size_of p))) (same_order p q)
    ∙ (ap (λ c. cond (is_reported_alike p q) true c) (so_far p)
    ∙ (one_more (is_reported_alike p q) (list_any (is_reported_alike p) reported)
    ∙ sym (list_any-append (is_reported_alike p) reported (q ∷ [])))))

known : (reported : List Paper) (p : Paper) (sizes : BTreeSet Size) (z : Size) (b : Bool) → b ≡ contains size_order sizes z → z ≡ size_of p → AreSizesOf reported sizes → list_any (is_reported_alike p) reported ≡ b
known reported p sizes z b is of all = sym (is ∙ (ap (λ k. contains size_order sizes k) of ∙ all p))

-- a paper whose size is among theirs is reported already, and another isn't
pub told_already : (reported : List Paper) (p : Paper) (sizes : BTreeSet Size) (z : Size) (b : Bool) → b ≡ contains size_order sizes z → z ≡ size_of p → AreSizesOf reported sizes → b ≡ true → with_paper reported p ≡ reported
told_already reported p sizes z b is of all e = chosen (list_any (is_reported_alike p) reported) reported (reported ++ p ∷ []) (known reported p sizes z b is of all ∙ e)

pub not_told_yet : (reported : List Paper) (p : Paper) (sizes : BTreeSet Size) (z : Size) (b : Bool) → b ≡ contains size_order sizes z → z ≡ size_of p → AreSizesOf reported sizes → b ≡ false → with_paper reported p ≡ reported ++ p ∷ []
not_told_yet reported p sizes z b is of all e = other (list_any (is_reported_alike p) reported) reported (reported ++ p ∷ []) (known reported p sizes z b is of all ∙ e)
