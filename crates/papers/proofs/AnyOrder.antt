-- Papers that count as one don't depend on the order of pages, nor on how often a page is taken.
use Rattle.std.proofs.Common.{arith, ◌≡◌, inl, inr, ℕ, zero, suc, List, [], ◌∷◌, Bool, true, false, refl, sym, ap, ap₂, ◌∙◌, subst, cond, true≢false}
use Rattle.std.specs.Prelude.{ℤ, pos, negsuc, int_lt, int_le, nat_lt, nat_le, not, ◌&&◌, ◌||◌, if◌then◌else◌, fold, map}
use Rattle.std.specs.List.{Contains}
use Rattle.std.specs.Ordering.{int_eq}
use Rattle.std.proofs.lemmas.Bool.Decides.{Decides-int_eq, nat_tests}
use Rattle.rules.specs.Papers.{Paper}
use Rattle.papers.specs.Own.{smallest_cover, covers, counts_as_one, larger}
use Rattle.papers.specs.declared.kinds.PaperKind.{PaperKind}
use Rattle.papers.specs.AsOne.{OrderIsNothing, apart_from, is_larger, kind_of, kinds, larger_of, most_kinds, kind_paper, with_near}
use Rattle.papers.proofs.Covered.{both, by_test}
use Rattle.papers.proofs.CountedAsOne.{In, contained, left_over, near_covered, stays_covered}

-- ---- the order of numbers

nat_asym : (a b : ℕ) → nat_lt a b ≡ true → nat_lt b a ≡ false
nat_asym a b e = grind (arith, nat_tests)

nat_onward : (a b c : ℕ) → nat_lt a b ≡ false → nat_lt b c ≡ false → nat_lt a c ≡ false
nat_onward a b c e f = grind (arith, nat_tests)

nat_tie : (a b : ℕ) → nat_lt a b ≡ false → nat_lt b a ≡ false → a ≡ b
nat_tie a b e f = grind (arith, nat_tests)

le_tie : (a b : ℕ) → nat_le a b ≡ true → nat_le b a ≡ true → a ≡ b
le_tie a b e f = grind (arith, nat_tests)

asym : (a b : ℤ) → int_lt a b ≡ true → int_lt b a ≡ false
asym (pos a) (pos b) e = nat_asym a b e
asym (pos a) (negsuc b) e = absurd (true≢false (sym e))
asym (negsuc a) (pos b) e = refl
asym (negsuc a) (negsuc b) e = nat_asym b a e

onward : (a b c : ℤ) → int_lt a b ≡ false → int_lt b c ≡ false → int_lt a c ≡ false
onward (pos a) (pos b) (pos c) e f = nat_onward a b c e f
onward (pos a) b (negsuc c) e f = refl
onward (pos a) (negsuc b) (pos c) e f = absurd (true≢false f)
onward (negsuc a) (pos b) c e f = absurd (true≢false e)
onward (negsuc a) (negsuc b) (pos c) e f = absurd (true≢false f)
onward (negsuc a) (negsuc b) (negsuc c) e f = nat_onward c b a f e

tie : (a b : ℤ) → int_lt a b ≡ false → int_lt b a ≡ false → a ≡ b
tie (pos a) (pos b) e f = ap pos (nat_tie a b e f)
tie (pos a) (negsuc b) e f = absurd (true≢false f)
tie (negsuc a) (pos b) e f = absurd (true≢false e)
tie (negsuc a) (negsuc b) e f = ap negsuc (nat_tie a b f e)

tie_le : (a b : ℤ) → int_le a b ≡ true → int_le b a ≡ true → a ≡ b
tie_le (pos a) (pos b) e f = ap pos (le_tie a b e f)
tie_le (pos a) (negsuc b) e f = absurd (true≢false (sym e))
tie_le (negsuc a) (pos b) e f = absurd (true≢false (sym f))
tie_le (negsuc a) (negsuc b) e f = ap negsuc (le_tie a b f e)

equal : (a b : ℤ) → a ≡ b → int_eq a b ≡ true
equal a b e = (Decides-int_eq a b).1 e

not_itself : (a : ℤ) → int_lt a a ≡ false
not_itself a = by_test (int_lt a a) (λ is. asym a a is) (λ isnt. isnt)

-- ---- the order of papers

or_first : (x y : Bool) → (x || y) ≡ false → x ≡ false
or_first true y e = e
or_first false y e = refl

or_second : (x y : Bool) → (x || y) ≡ false → y ≡ false
or_second true y e = absurd (true≢false e)
or_second false y e = e

neither : (x y : Bool) → x ≡ false → y ≡ false → (x || y) ≡ false
neither true y e f = e
neither false y e f = f

and_second : (x y : Bool) → x ≡ true → (x && y) ≡ false → y ≡ false
and_second true y e f = f
and_second false y e f = absurd (true≢false (sym e))

not_both : (x y : Bool) → (x ≡ true → y ≡ false) → (x && y) ≡ false
not_both true y f = f refl
not_both false y f = refl

-- what a paper that isn't larger is: not wider, and if as wide, not higher
not_wider : (a b : Paper) → is_larger a b ≡ false → int_lt b.width a.width ≡ false
not_wider a b e = or_first (int_lt b.width a.width) (int_eq a.width b.width && int_lt b.height a.height) e

not_higher : (a b : Paper) → is_larger a b ≡ false → a.width ≡ b.width → int_lt b.height a.height ≡ false
not_higher a b e same = and_second (int_eq a.width b.width) (int_lt b.height a.height) (equal a.width b.width same)
    (or_second (int_lt b.width a.width) (int_eq a.width b.width && int_lt b.height a.height) e)

not_larger : (a b : Paper) → int_lt b.width a.width ≡ false → (a.width ≡ b.width → int_lt b.height a.height ≡ false) → is_larger a b ≡ false
not_larger a b e f = neither (int_lt b.width a.width) (int_eq a.width b.width && int_lt b.height a.height) e
    (not_both (int_eq a.width b.width) (int_lt b.height a.height) (λ same. f ((Decides-int_eq a.width b.width).0 same)))

through : (a b c : Paper) → is_larger a b ≡ false → is_larger b c ≡ false → is_larger a c ≡ false
through a b c e f = let ab = not_wider a b e in let bc = not_wider b c f in
    not_larger a c (onward c.width b.width a.width bc ab)
    (λ same.
    let between : a.width ≡ b.width = tie a.width b.width (subst (λ w. int_lt w b.width ≡ false) (sym same) bc) ab in
    onward c.height b.height a.height (not_higher b c f (sym between ∙ same)) (not_higher a b e between))

larger_once : (a b : Paper) → is_larger a b ≡ true → is_larger b a ≡ false
larger_once a b e = by_test (int_lt b.width a.width)
    (λ wider. not_larger b a (asym b.width a.width wider) (λ same. absurd (true≢false (sym wider ∙ subst (λ w. int_lt b.width w ≡ false) same (not_itself b.width)))))
    (λ isnt.
    let higher : (int_eq a.width b.width && int_lt b.height a.height) ≡ true = sym (ap (λ t. t || (int_eq a.width b.width && int_lt b.height a.height)) isnt) ∙ e in
    let same : a.width ≡ b.width = (Decides-int_eq a.width b.width).0 (first_of (int_eq a.width b.width) (int_lt b.height a.height) higher) in
    not_larger b a (subst (λ w. int_lt a.width w ≡ false) same (not_itself a.width))
    (λ again. asym b.height a.height (second_of (int_eq a.width b.width) (int_lt b.height a.height) higher)))
  where
    first_of : (x y : Bool) → (x && y) ≡ true → x ≡ true
    first_of true y t = refl
    first_of false y t = t

    second_of : (x y : Bool) → (x && y) ≡ true → y ≡ true
    second_of true y t = t
    second_of false y t = absurd (true≢false (sym t))

not_larger_itself : (a : Paper) → is_larger a a ≡ false
not_larger_itself a = by_test (is_larger a a) (λ is. larger_once a a is) (λ isnt. isnt)

abbrev sides : ℤ → ℤ → Paper
sides w h = record { width = w; height = h }

neither_larger : (a b : Paper) → is_larger a b ≡ false → is_larger b a ≡ false → a ≡ b
neither_larger a b e f = let wide : a.width ≡ b.width = tie a.width b.width (not_wider b a f) (not_wider a b e) in
    ap₂ sides wide (tie a.height b.height (not_higher b a f (sym wide)) (not_higher a b e wide))

-- ---- the largest

pub largest_in : (p : Paper) (ps : List Paper) → In (fold larger_of p ps) (p ∷ ps)
largest_in p [] = inl refl
largest_in p (x ∷ xs) = by_test (is_larger x p)
    (λ is. subst (λ b. In (fold larger_of (if b then x else p) xs) (p ∷ x ∷ xs)) (sym is) (inr (largest_in x xs)))
    (λ isnt. subst (λ b. In (fold larger_of (if b then x else p) xs) (p ∷ x ∷ xs)) (sym isnt) (elim (largest_in p xs) [ inl same ↦ inl same | inr has ↦ inr (inr has) ]))

pub none_larger : (p : Paper) (ps : List Paper) (q : Paper) → In q (p ∷ ps) → is_larger q (fold larger_of p ps) ≡ false
none_larger p [] q (inl same) = ap (λ r. is_larger r p) same ∙ not_larger_itself p
none_larger p [] q (inr has) = absurd has
none_larger p (x ∷ xs) q has = by_test (is_larger x p)
    (λ is. subst (λ b. is_larger q (fold larger_of (if b then x else p) xs) ≡ false) (sym is) (taken (λ r. none_larger x xs r) is has))
    (λ isnt. subst (λ b. is_larger q (fold larger_of (if b then x else p) xs) ≡ false) (sym isnt) (kept (λ r. none_larger p xs r) isnt has))
  where
    taken : ((r : Paper) → In r (x ∷ xs) → is_larger r (fold larger_of x xs) ≡ false) → is_larger x p ≡ true → In q (p ∷ x ∷ xs) → is_larger q (fold larger_of x xs) ≡ false
    taken none is (inl same) = ap (λ r. is_larger r (fold larger_of x xs)) same ∙ through p x (fold larger_of x xs) (larger_once x p is) (none x (inl refl))
    taken none is (inr more) = none q more

    kept : ((r : Paper) → In r (p ∷ xs) → is_larger r (fold larger_of p xs) ≡ false) → is_larger x p ≡ false → In q (p ∷ x ∷ xs) → is_larger q (fold larger_of p xs) ≡ false
    kept none isnt (inl same) = none q (inl same)
    kept none isnt (inr (inl same)) = ap (λ r. is_larger r (fold larger_of p xs)) same ∙ through x p (fold larger_of p xs) isnt (none p (inl refl))
    kept none isnt (inr (inr more)) = none q (inr more)

-- ---- the same papers

abbrev SameIn : List Paper → List Paper → Type 0
SameIn ps qs = ((p : Paper) → In p ps → In p qs) × ((p : Paper) → In p qs → In p ps)

same_largest : (p q : Paper) (ps qs : List Paper) → SameIn (p ∷ ps) (q ∷ qs) → fold larger_of p ps ≡ fold larger_of q qs
same_largest p q ps qs same = neither_larger (fold larger_of p ps) (fold larger_of q qs)
    (none_larger q qs (fold larger_of p ps) (same.0 (fold larger_of p ps) (largest_in p ps)))
    (none_larger p ps (fold larger_of q qs) (same.1 (fold larger_of q qs) (largest_in q qs)))

covers_larger : (c a b : ℤ) → int_le a c ≡ true → int_le b c ≡ true → int_le (larger a b) c ≡ true
covers_larger c a b e f = by_test (int_le a b)
    (λ is. ap (λ t. int_le (if t then b else a) c) is ∙ f)
    (λ isnt. ap (λ t. int_le (if t then b else a) c) isnt ∙ e)

wide_enough : (a b : Paper) → covers a b ≡ true → int_le b.width a.width ≡ true
wide_enough a b e = first_of (int_le b.width a.width) (int_le b.height a.height) e
  where
    first_of : (x y : Bool) → (x && y) ≡ true → x ≡ true
    first_of true y t = refl
    first_of false y t = t

high_enough : (a b : Paper) → covers a b ≡ true → int_le b.height a.height ≡ true
high_enough a b e = second_of (int_le b.width a.width) (int_le b.height a.height) e
  where
    second_of : (x y : Bool) → (x && y) ≡ true → y ≡ true
    second_of true y t = t
    second_of false y t = absurd (true≢false (sym t))

covers_covering : (c a b : Paper) → covers c a ≡ true → covers c b ≡ true → covers c (smallest_cover a b) ≡ true
covers_covering c a b e f = both (int_le (larger a.width b.width) c.width) (int_le (larger a.height b.height) c.height)
    (covers_larger c.width a.width b.width (wide_enough c a e) (wide_enough c b f))
    (covers_larger c.height a.height b.height (high_enough c a e) (high_enough c b f))

-- what covers the first and each near one covers the kind
least : (f a c : Paper) (ps : List Paper) → covers c a ≡ true → ((p : Paper) → In p ps → counts_as_one p f ≡ true → covers c p ≡ true) → covers c (fold (with_near f) a ps) ≡ true
least f a c [] base each = base
least f a c (q ∷ qs) base each = least f (with_near f a q) c qs
    (by_test (counts_as_one q f)
    (λ is. ap (λ b. covers c (if b then smallest_cover a q else a)) is ∙ covers_covering c a q base (each q (inl refl) is))
    (λ isnt. ap (λ b. covers c (if b then smallest_cover a q else a)) isnt ∙ base))
    (λ p has near. each p (inr has) near)

covers_tie : (a b : Paper) → covers a b ≡ true → covers b a ≡ true → a ≡ b
covers_tie a b e f = ap₂ sides (tie_le a.width b.width (wide_enough b a f) (wide_enough a b e)) (tie_le a.height b.height (high_enough b a f) (high_enough a b e))

abbrev kind_at : Paper → Paper → PaperKind
kind_at f p = record { first = f; paper = p }

same_kind : (f : Paper) (ps qs : List Paper) → SameIn ps qs → kind_of f ps ≡ kind_of f qs
same_kind f ps qs same = ap (kind_at f) (covers_tie (fold (with_near f) f ps) (fold (with_near f) f qs)
    (least f f (fold (with_near f) f ps) qs (stays_covered f f ps) (λ p has near. near_covered f f ps p (same.1 p has) near))
    (least f f (fold (with_near f) f qs) ps (stays_covered f f qs) (λ p has near. near_covered f f qs p (same.0 p has) near)))

pub was_left : (f : Paper) (ps : List Paper) (p : Paper) → In p (apart_from f ps) → In p ps × (counts_as_one p f ≡ false)
was_left f [] p has = absurd has
was_left f (q ∷ qs) p has = by_test (counts_as_one q f)
    (λ is. let w = was_left f qs p (subst (λ b. In p (cond (not b) (q ∷ apart_from f qs) (apart_from f qs))) is has) in (inr w.0, w.1))
    (λ isnt. elim (subst (λ b. In p (cond (not b) (q ∷ apart_from f qs) (apart_from f qs))) isnt has) [
      | inl same ↦ (inl same, ap (λ r. counts_as_one r f) same ∙ isnt)
      | inr more ↦ let w = was_left f qs p more in (inr w.0, w.1)
    ])

same_left : (f : Paper) (ps qs : List Paper) → SameIn ps qs → SameIn (apart_from f ps) (apart_from f qs)
same_left f ps qs same = (
  λ p has. let w = was_left f ps p has in left_over f qs p (same.0 p w.0) w.1,
  λ p has. let w = was_left f qs p has in left_over f ps p (same.1 p w.0) w.1,
)

same_kinds : (room : ℕ) (ps qs : List Paper) → SameIn ps qs → kinds room ps ≡ kinds room qs
same_kinds zero ps qs same = refl
same_kinds (suc room) [] [] same = refl
same_kinds (suc room) [] (q ∷ qs) same = absurd (same.1 q (inl refl))
same_kinds (suc room) (p ∷ ps) [] same = absurd (same.0 p (inl refl))
same_kinds (suc room) (p ∷ ps) (q ∷ qs) same =
    let f : Paper = fold larger_of p ps in
    ap₂ (λ (k : PaperKind) (ks : List PaperKind). k ∷ ks) (same_kind f (p ∷ ps) (q ∷ qs) same)
    (same_kinds room (apart_from f (p ∷ ps)) (apart_from f (q ∷ qs)) (same_left f (p ∷ ps) (q ∷ qs) same))
    ∙ ap (λ g. kind_of g (q ∷ qs) ∷ kinds room (apart_from g (q ∷ qs))) (same_largest p q ps qs same)

pub found : (ps : List Paper) (p : Paper) → In p ps → Contains ps p
found [] p has = absurd has
found (q ∷ qs) p (inl same) = (0, omega arith, sym same)
found (q ∷ qs) p (inr has) = let w = found qs p has in (suc w.0, (let l = w.1 in omega (arith, l)), w.2)

pub order_is_nothing : OrderIsNothing
order_is_nothing taken others own same = ap (λ ks. map (kind_paper ks) own) (same_kinds most_kinds taken others (
  λ p has. contained others p ((same p).0 (found taken p has)),
  λ p has. contained taken p ((same p).1 (found others p has)),
))
