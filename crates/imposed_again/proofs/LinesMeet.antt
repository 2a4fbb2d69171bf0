-- The length of a line, by its first byte, and how it depends on the bytes after a text.
use mathlib.Core.Logic.{◌⊎◌, inl, inr}
use Rattle.std.specs.Prelude.{Option, Some, None, not, option_map, if◌then◌else◌}
use Rattle.std.proofs.Common.{Bool, true, false, cond, ◌==◌, ◌&&◌, ◌≡◌, ℕ, zero, suc, ◌+◌, ◌<◌, ◌≤◌, List, [], ◌∷◌, ◌++◌, length, drop, refl, ap, arith, length-drop, sym, ◌∙◌, subst, true≢false}
use Rattle.std.proofs.lemmas.List.Sums.{take_while-cons}
use Rattle.std.proofs.Math.Seq.{drop-append-le}
use Rattle.rules.specs.Units.{is_end, content_of, end_len, line_len, lines_len}
use Rattle.imposed_again.specs.Seams.{lf, ends}
use Rattle.dsc.proofs.Cases.{by_test}
use Rattle.dsc.proofs.LineLengths.{content_len, line_len_is, line_len-pos, lines_len-least, line_len-within}

pub stop_content : (b : ℕ) (bs : List ℕ) → is_end b ≡ true → content_of (b ∷ bs) ≡ []
stop_content b bs h = take_while-cons (λ x. not (is_end x)) b bs ∙ ap (λ t. cond (not t) (b ∷ content_of bs) []) h

pub go_content : (b : ℕ) (bs : List ℕ) → is_end b ≡ false → content_of (b ∷ bs) ≡ b ∷ content_of bs
go_content b bs h = take_while-cons (λ x. not (is_end x)) b bs ∙ ap (λ t. cond (not t) (b ∷ content_of bs) []) h

none_len : (b : ℕ) (bs : List ℕ) → is_end b ≡ true → content_len (b ∷ bs) ≡ 0
none_len b bs h = ap (λ t. cond (not t) (1 + content_len bs) 0) h

more_len : (b : ℕ) (bs : List ℕ) → is_end b ≡ false → content_len (b ∷ bs) ≡ suc (content_len bs)
more_len b bs h = let e : content_len (b ∷ bs) ≡ 1 + content_len bs = ap (λ t. cond (not t) (1 + content_len bs) 0) h in omega (arith, e)

zero_plus : (n : ℕ) → 0 + n ≡ n
zero_plus n = omega arith

suc_plus : (n m : ℕ) → suc n + m ≡ suc (n + m)
suc_plus n m = omega arith

pub stop_line : (b : ℕ) (bs : List ℕ) → is_end b ≡ true → line_len (b ∷ bs) ≡ end_len (b ∷ bs)
stop_line b bs h = line_len_is (b ∷ bs) ∙ ap (λ n. n + end_len (drop n (b ∷ bs))) (none_len b bs h) ∙ zero_plus (end_len (b ∷ bs))

pub go_line : (b : ℕ) (bs : List ℕ) → is_end b ≡ false → line_len (b ∷ bs) ≡ suc (line_len bs)
go_line b bs h =
    line_len_is (b ∷ bs) ∙ ap (λ n. n + end_len (drop n (b ∷ bs))) (more_len b bs h)
    ∙ suc_plus (content_len bs) (end_len (drop (content_len bs) bs)) ∙ ap suc (sym (line_len_is bs))

pub clash : {P : Type 0} (t : Bool) → t ≡ true → t ≡ false → P
clash true a b = absurd (true≢false b)
clash false a b = absurd (true≢false (sym a))

tail_ends : (b : ℕ) (bs : List ℕ) → is_end b ≡ false → ends (b ∷ bs) ≡ true → ends bs ≡ true
tail_ends b [] n e = clash (is_end b) e n
tail_ends b (c ∷ bs) n e = e

one_or_two : (t s z : Bool) → (if t && s then 2 else 1) ≤ 1 → (z ≡ true → s ≡ true) → ◌≡◌ {A = ℕ} (if t && z then 2 else 1) (if t && s then 2 else 1)
one_or_two false s z h j = refl
one_or_two true true z h j = absurd (omega (arith, h))
one_or_two true false true h j = absurd (true≢false (sym (j refl)))
one_or_two true false false h j = refl

end_same : (b : ℕ) (bs r s : List ℕ) → end_len (b ∷ (bs ++ r)) ≤ suc (length bs) → (lf s ≡ true → lf r ≡ true) → end_len (b ∷ (bs ++ s)) ≡ end_len (b ∷ (bs ++ r))
end_same b (c ∷ bs) r s h j = refl
end_same b [] r s h j = one_or_two (b == 13) (lf r) (lf s) h j

-- a line that ends within a text stays the same before other bytes, if these begin with no line feed, or the first
-- ones did too
pub line_same : (x r s : List ℕ) → line_len (x ++ r) ≤ length x → (lf s ≡ true → lf r ≡ true) → (r ≡ [] → ends x ≡ true)
    → (content_of (x ++ s) ≡ content_of (x ++ r)) × (line_len (x ++ s) ≡ line_len (x ++ r))
line_same [] [] s h j k = absurd (true≢false (sym (k refl)))
line_same [] (c ∷ cs) s h j k = absurd (omega (arith, h, line_len-pos c cs))
line_same (b ∷ bs) r s h j k = by_test (is_end b)
    (λ is. (
      stop_content b (bs ++ s) is ∙ sym (stop_content b (bs ++ r) is),
      stop_line b (bs ++ s) is ∙ end_same b bs r s (let e = stop_line b (bs ++ r) is in omega (arith, e, h)) j ∙ sym (stop_line b (bs ++ r) is),
    ))
    (λ isnt.
    let i = line_same bs r s (let e = go_line b (bs ++ r) isnt in omega (arith, e, h)) j (λ e. tail_ends b bs isnt (k e)) in (
      go_content b (bs ++ s) isnt ∙ ap (λ c. b ∷ c) i.0 ∙ sym (go_content b (bs ++ r) isnt),
      go_line b (bs ++ s) isnt ∙ ap suc i.1 ∙ sym (go_line b (bs ++ r) isnt),
    ))

none_left : (n : ℕ) (xs : List ℕ) → xs ≡ [] → 0 < length (drop n xs) → ⊥
none_left n xs e l = let size : length xs ≡ 0 = ap length e in omega (arith, size, l, length-drop n xs)

pub ends_drop : (n : ℕ) (x : List ℕ) → ends x ≡ true → 0 < length (drop n x) → ends (drop n x) ≡ true
ends_drop zero [] e l = e
ends_drop zero (b ∷ bs) e l = e
ends_drop (suc n) [] e l = e
ends_drop (suc n) (b ∷ []) e l = absurd (none_left n [] refl l)
ends_drop (suc n) (b ∷ c ∷ bs) e l = ends_drop n (c ∷ bs) e l

pub more_than : (n : ℕ) (o : Option ℕ) (m : ℕ) → option_map (λ k. n + k) o ≡ Some m → (k : ℕ) × (o ≡ Some k) × (m ≡ n + k)
more_than n None m e = cc
more_than n (Some k) m e = (k, refl, cc)

-- so are lines
pub lines_same : (count : ℕ) (x r s : List ℕ) (m : ℕ) → lines_len count (x ++ r) ≡ Some m → m ≤ length x → (lf s ≡ true → lf r ≡ true)
    → (r ≡ [] → 0 < length x → ends x ≡ true) → lines_len count (x ++ s) ≡ Some m
lines_same zero x r s m e h j k = e
lines_same (suc c) [] [] s m e h j k = cc
lines_same (suc c) [] (b ∷ bs) s m e h j k = let least = lines_len-least (suc c) (b ∷ bs) m e in absurd (omega (arith, h, least.0))
lines_same (suc c) (b ∷ bs) r s m e h j k =
    let x : List ℕ = b ∷ bs in
    let n : ℕ = line_len (x ++ r) in
    let w = more_than n (lines_len c (drop n (x ++ r))) m e in
    let within : n ≤ length x = omega (arith, w.2, h) in
    let same = line_same x r s within j (λ e. k e (omega arith)) in
    let first : lines_len c (drop n x ++ r) ≡ Some w.0 = sym (ap (lines_len c) (drop-append-le n x r within)) ∙ w.1 in
    let left : w.0 ≤ length (drop n x) = omega (arith, w.2, h, length-drop n x) in
    let i : lines_len c (drop n x ++ s) ≡ Some w.0 = lines_same c (drop n x) r s w.0 first left j (λ e l. ends_drop n x (k e (omega arith)) l) in
    ap (λ z. option_map (λ q. z + q) (lines_len c (drop z (x ++ s)))) same.1
    ∙ ap (λ t. option_map (λ q. n + q) (lines_len c t)) (drop-append-le n x s within)
    ∙ ap (option_map (λ q. n + q)) i ∙ ap Some (sym w.2)

-- Before a line feed.

pub feed_content : (x ys : List ℕ) → content_of (x ++ 10 ∷ ys) ≡ content_of x
feed_content [] ys = stop_content 10 ys refl
feed_content (b ∷ bs) ys = by_test (is_end b)
    (λ is. stop_content b (bs ++ 10 ∷ ys) is ∙ sym (stop_content b bs is))
    (λ isnt. go_content b (bs ++ 10 ∷ ys) isnt ∙ ap (λ c. b ∷ c) (feed_content bs ys) ∙ sym (go_content b bs isnt))

-- the line stays the same, or it is the whole text and takes the line feed too
abbrev pub Fed : (old new most : ℕ) → Type 0
Fed old new most = (new ≡ old) ⊎ ((old ≡ most) × (new ≡ suc most))

fed_end : (b : ℕ) (bs ys : List ℕ) → Fed (end_len (b ∷ bs)) (end_len (b ∷ (bs ++ 10 ∷ ys))) (suc (length bs))
fed_end b (c ∷ bs) ys = inl refl
fed_end b [] ys = split (b == 13)
  where
    split : (t : Bool) → Fed (if t && lf [] then 2 else 1) (if t && true then 2 else 1) 1
    split true = inr (refl, refl)
    split false = inl refl

fed_by : (a b c d most : ℕ) → a ≡ c → b ≡ d → Fed c d most → Fed a b most
fed_by a b c d most e f (inl p) = inl (f ∙ p ∙ sym e)
fed_by a b c d most e f (inr p) = inr (e ∙ p.0, f ∙ p.1)

fed_suc : (c d most : ℕ) → Fed c d most → Fed (suc c) (suc d) (suc most)
fed_suc c d most (inl p) = inl (ap suc p)
fed_suc c d most (inr p) = inr (ap suc p.0, ap suc p.1)

pub fed_line : (x ys : List ℕ) → Fed (line_len x) (line_len (x ++ 10 ∷ ys)) (length x)
fed_line [] ys = inr (refl, stop_line 10 ys refl)
fed_line (b ∷ bs) ys = by_test (is_end b)
    (λ is. fed_by _ _ (end_len (b ∷ bs)) (end_len (b ∷ (bs ++ 10 ∷ ys))) _ (stop_line b bs is) (stop_line b (bs ++ 10 ∷ ys) is) (fed_end b bs ys))
    (λ isnt. fed_by _ _ (suc (line_len bs)) (suc (line_len (bs ++ 10 ∷ ys))) _ (go_line b bs isnt) (go_line b (bs ++ 10 ∷ ys) isnt) (fed_suc _ _ _ (fed_line bs ys)))

abbrev pub FedLines : (old : ℕ) (new : Option ℕ) (most : ℕ) → Type 0
FedLines old new most = (new ≡ Some old) ⊎ ((old ≡ most) × (new ≡ Some (suc most)))

fed_count : (n most left : ℕ) (o : Option ℕ) (k : ℕ) → left + n ≡ most → FedLines k o left → FedLines (n + k) (option_map (λ q. n + q) o) most
fed_count n most left o k e (inl p) = inl (ap (option_map (λ q. n + q)) p)
fed_count n most left o k e (inr p) = inr (omega (arith, e, p.0), ap (option_map (λ q. n + q)) p.1 ∙ ap Some (let f : n + suc left ≡ suc most = omega (arith, e) in f))

fed_first : (n next : ℕ) (c : ℕ) (x ys : List ℕ) (k : ℕ) → n ≤ length x → lines_len c (drop n x) ≡ Some k → ((next ≡ n) ⊎ ((n ≡ length x) × (next ≡ suc (length x))))
    → FedLines k (lines_len c (drop n x ++ 10 ∷ ys)) (length (drop n x)) → FedLines (n + k) (option_map (λ q. next + q) (lines_len c (drop next (x ++ 10 ∷ ys)))) (length x)
fed_first n next c x ys k within e (inl p) later =
    subst (λ z. FedLines (n + k) (option_map (λ q. z + q) (lines_len c (drop z (x ++ 10 ∷ ys)))) (length x)) (sym p)
    (subst (λ t. FedLines (n + k) (option_map (λ q. n + q) (lines_len c t)) (length x)) (sym (drop-append-le n x (10 ∷ ys) within))
    (fed_count n (length x) (length (drop n x)) (lines_len c (drop n x ++ 10 ∷ ys)) k (omega (arith, within, length-drop n x)) later))
fed_first n next c x ys k within e (inr p) later =
    let none : length (drop n x) ≡ 0 = omega (arith, p.0, length-drop n x) in
    let least = lines_len-least c (drop n x) k e in
    let zeroth : c ≡ 0 = omega (arith, least.0, least.1, none) in
    let nothing : k ≡ 0 = omega (arith, least.1, none) in
    inr (
      omega (arith, p.0, nothing),
      ap (λ z. option_map (λ q. next + q) (lines_len z (drop next (x ++ 10 ∷ ys)))) zeroth ∙ ap Some (let f : next + 0 ≡ suc (length x) = omega (arith, p.1) in f),
    )

pub fed_lines : (count : ℕ) (x ys : List ℕ) (m : ℕ) → lines_len count x ≡ Some m → FedLines m (lines_len count (x ++ 10 ∷ ys)) (length x)
fed_lines zero x ys m e = inl e
fed_lines (suc c) [] ys m e = cc
fed_lines (suc c) (b ∷ bs) ys m e =
    let x : List ℕ = b ∷ bs in
    let n : ℕ = line_len x in
    let w = more_than n (lines_len c (drop n x)) m e in
    subst (λ z. FedLines z (lines_len (suc c) (x ++ 10 ∷ ys)) (length x)) (sym w.2)
    (fed_first n (line_len (x ++ 10 ∷ ys)) c x ys w.0 (line_len-within x) w.1 (fed_line x ys) (fed_lines c (drop n x) ys w.0 w.1))
