-- Lines that are passed by a search for two percent signs.
use Rattle.std.specs.Prelude.{codes, slice_index, Some, None}
use Rattle.std.specs.List.{starts_with}
use Rattle.std.proofs.Common.{Bool, true, false, nat_eq, ltb, ◌&&◌, ◌==◌, if◌then◌else◌, ◌≡◌, ℕ, zero, suc, ◌+◌, ◌-◌, ◌<◌, ◌≤◌, List, [], ◌∷◌, length, take, drop, refl, ap, arith, length-drop, length-take, sym, ◌∙◌, subst}
use Rattle.std.proofs.lemmas.Bool.{ltb-false, ltb-true}
use Rattle.std.proofs.lemmas.List.{take-take, drop-drop, get_or-drop}
use Rattle.std.proofs.lemmas.Slice.Eq.{bytes_eq-Decides}
use Rattle.memchr.specs.Find.{FindsNeedle, OccursAt}
use Rattle.rules.specs.Units.{is_end, content_of, end_len, line_len}
use Rattle.dsc.specs.Plain.{ArePlain, BeginsPlain, next_line}
use Rattle.dsc.proofs.Cases.{by_test}
use Rattle.dsc.proofs.LineLengths.{content_len, line_len-pos, line_len-within, line_len_is}

abbrev pub PAIR : List ℕ
PAIR = 37 ∷ 37 ∷ []

abbrev NoPair : ℕ → List ℕ → Type 0
NoPair k text = (i : ℕ) → i < k → OccursAt text PAIR i → ⊥

pair_reads : (b c : ℕ) (bs : List ℕ) (j : ℕ) → b ≡ 37 → c ≡ 37 → j < 2 → slice_index (b ∷ c ∷ bs) (0 + j) ≡ slice_index PAIR j
pair_reads b c bs zero e f lt = e
pair_reads b c bs (suc zero) e f lt = f
pair_reads b c bs (suc (suc j)) e f lt = absurd (omega (arith, lt))

pair_found : (text : List ℕ) → PAIR ≡ take 2 text → OccursAt text PAIR 0
pair_found [] e = cc
pair_found (b ∷ []) e = let two : 2 ≡ 1 = ap length e in absurd (omega (arith, two))
pair_found (b ∷ c ∷ bs) e =
    let first : 37 ≡ b = ap (λ t. slice_index t 0) e in
    let second : 37 ≡ c = ap (λ t. slice_index t 1) e in
    record { fits = omega arith; reads = λ j lt. pair_reads b c bs j (sym first) (sym second) lt }

pub content_begins : (n : ℕ) (text : List ℕ) → PAIR ≡ take 2 (take n text) → PAIR ≡ take 2 text
content_begins n text e =
    let size : 2 ≡ length (take 2 (take n text)) = ap length e in
    let fits : 2 ≤ n = omega (arith, size, length-take 2 (take n text), length-take n text) in
    e ∙ take-take 2 n text fits

pub content_plain : (text : List ℕ) → (OccursAt text PAIR 0 → ⊥) → starts_with nat_eq (content_of text) (codes "%%") ≡ false
content_plain text h = by_test (starts_with nat_eq (content_of text) (codes "%%"))
    (λ is. absurd (h (pair_found text (content_begins (content_len text) text ((bytes_eq-Decides PAIR (take 2 (content_of text))).0 is)))))
    (λ isnt. isnt)

occurs_behind : (l : ℕ) (text : List ℕ) (i : ℕ) → l ≤ length text → OccursAt (drop l text) PAIR i → OccursAt text PAIR (l + i)
occurs_behind l text i h o =
    let fits = o.fits in
    let left = length-drop l text in
    record {
      fits = omega (arith, fits, left, h);
      reads = λ j lt. (let same : l + i + j ≡ l + (i + j) = omega arith in ap (slice_index text) same ∙ sym (get_or-drop l text (i + j) 0) ∙ o.reads j lt);
    }

-- the first line that begins at this byte or after it
abbrev to_line : (most : ℕ) → ℕ → List ℕ → ℕ
to_line most zero text = 0
to_line zero (suc k) text = 0
to_line (suc most) (suc k) text = line_len text + to_line most (suc k - line_len text) (drop (line_len text) text)

to_line_plain : (m k : ℕ) (text : List ℕ) → length text ≤ m → k ≤ length text → NoPair k text → BeginsPlain (to_line m k text) text
to_line_plain m zero text h w p = (0, refl)
to_line_plain zero (suc k) text h w p = absurd (omega (arith, h, w))
to_line_plain (suc m) (suc k) [] h w p = absurd (omega (arith, w))
to_line_plain (suc m) (suc k) (b ∷ bs) h w p =
    let text : List ℕ = b ∷ bs in
    let l : ℕ = line_len text in
    let moves : 0 < l = line_len-pos b bs in
    let fits : l ≤ length text = line_len-within text in
    let left = length-drop l text in
    let later : BeginsPlain (to_line m (suc k - l) (drop l text)) (drop l text) =
    to_line_plain m (suc k - l) (drop l text) (omega (arith, moves, left, h)) (omega (arith, left, w)) (λ i lt o. p (l + i) (omega (arith, lt)) (occurs_behind l text i fits o)) in
    let x : ℕ = to_line m (suc k - l) (drop l text) in
    let same : x ≡ l + x - l = omega arith in
    (suc later.0, (omega arith, content_plain text (λ o. p 0 (omega arith) o), omega arith, subst (λ n. ArePlain later.0 n (drop l text)) same later.1))

inside_content : (text : List ℕ) (i : ℕ) → i < content_len text → is_end (slice_index text i) ≡ false
inside_content [] i h = absurd (omega (arith, h))
inside_content (b ∷ bs) zero h = by_test (is_end b) (λ yes_. absurd (let h = (rw yes_ at h) in omega (arith, h))) (λ no_. no_)
inside_content (b ∷ bs) (suc i) h = by_test (is_end b)
    (λ yes_. absurd (let h = (rw yes_ at h) in omega (arith, h)))
    (λ no_. inside_content bs i (let h = (rw no_ at h) in omega (arith, h)))

behind_content : (text : List ℕ) → content_len text < length text → is_end (slice_index text (content_len text)) ≡ true
behind_content [] h = absurd (omega (arith, h))
behind_content (b ∷ bs) h = by_test (is_end b)
    (λ yes_. rw yes_ yes_)
    (λ no_.
    let h = (rw no_ at h) in
    let n : ℕ = content_len bs in
    let same : 1 + n ≡ suc n = omega arith in
    rw no_ (ap (λ k. is_end (slice_index (b ∷ bs) k)) same ∙ behind_content bs (omega (arith, h))))

content_split : (text : List ℕ) (k : ℕ) → k ≤ content_len text → content_len text ≡ k + content_len (drop k text)
content_split [] zero h = refl
content_split [] (suc k) h = absurd (omega (arith, h))
content_split (b ∷ bs) zero h = omega arith
content_split (b ∷ bs) (suc k) h = by_test (is_end b)
    (λ yes_. absurd (let h = (rw yes_ at h) in omega (arith, h)))
    (λ no_.
    let h = (rw no_ at h) in
    let same : 1 + content_len bs ≡ suc k + content_len (drop k bs) = (let i = content_split bs k (omega (arith, h)) in omega (arith, i)) in
    rw no_ same)

pub line_split : (text : List ℕ) (k : ℕ) → k ≤ content_len text → line_len text ≡ k + line_len (drop k text)
line_split text k h =
    let n : ℕ = content_len (drop k text) in
    let c : content_len text ≡ k + n = content_split text k h in
    let whole : line_len text ≡ k + n + end_len (drop (k + n) text) = line_len_is text ∙ ap (λ j. j + end_len (drop j text)) c in
    let part : line_len (drop k text) ≡ n + end_len (drop (k + n) text) = line_len_is (drop k text) ∙ ap (λ t. n + end_len t) (drop-drop n k text) in
    omega (arith, whole, part)

feed_behind : (t : Bool) (x y : ℕ) → (t ≡ true → x ≡ y) → ◌≡◌ {A = ℕ} (if t then 2 else 1) 2 → x ≡ y
feed_behind true x y h e = h refl
feed_behind false x y h e = absurd (omega (arith, e))

both_second : (s t : Bool) → (s && t) ≡ true → t ≡ true
both_second true t e = e
both_second false t e = cc

-- an end of two bytes ends in a line feed
feed_second : (rest : List ℕ) → end_len rest ≡ 2 → slice_index rest 1 ≡ 10
feed_second [] e = absurd (omega (arith, e))
feed_second (b ∷ rest) e = feed_behind ((b == 13) && starts_with nat_eq rest (10 ∷ [])) (slice_index rest 0) 10 (λ is. fed rest (both_second (b == 13) _ is)) e
  where
    fed : (rest : List ℕ) → starts_with nat_eq rest (10 ∷ []) ≡ true → slice_index rest 0 ≡ 10
    fed rest is = let front : 10 ∷ [] ≡ take 1 rest = (bytes_eq-Decides (10 ∷ []) (take 1 rest)).0 is in one rest front
      where
        one : (rest : List ℕ) → 10 ∷ [] ≡ take 1 rest → slice_index rest 0 ≡ 10
        one [] e = cc
        one (c ∷ cs) e = sym (ap (λ t. slice_index t 0) e)

two_at_most : (t : Bool) → (if t then 2 else 1) ≤ 2
two_at_most true = omega arith
two_at_most false = omega arith

end_len-most : (rest : List ℕ) → end_len rest ≤ 2
end_len-most [] = omega arith
end_len-most (b ∷ rest) = two_at_most ((b == 13) && starts_with nat_eq rest (10 ∷ []))

-- the byte after the first one of an end of two bytes
feed_at : (text : List ℕ) (k : ℕ) → end_len (drop (content_len text) text) ≡ 2 → k ≡ content_len text + 1 → slice_index text k ≡ 10
feed_at text k e h = ap (slice_index text) h ∙ sym (get_or-drop (content_len text) text 1 0) ∙ feed_second (drop (content_len text) text) e

-- the last byte of a line that has an end
last_is_end : (text : List ℕ) (k : ℕ) → content_len text ≤ k → k < length text → line_len text ≡ suc k → is_end (slice_index text k) ≡ true
last_is_end text k h w e =
    let c : ℕ = content_len text in
    let whole : line_len text ≡ c + end_len (drop c text) = line_len_is text in
    by_test (ltb c k)
    (λ more.
    let less : c < k = ltb-true c k more in
    let most = end_len-most (drop c text) in
    let two : end_len (drop c text) ≡ 2 = omega (arith, less, most, whole, e) in
    ap is_end (feed_at text k two (omega (arith, less, most, whole, e))))
    (λ same.
    let le : k ≤ c = ltb-false c k same in
    let at : k ≡ c = omega (arith, le, h) in
    ap (λ j. is_end (slice_index text j)) at ∙ behind_content text (omega (arith, at, w)))

-- no line begins with the second byte of an end
not_within_end : (text : List ℕ) (k : ℕ) → content_len text ≤ k → suc k < line_len text → (suc k < length text → slice_index text (suc k) ≡ 37) → ⊥
not_within_end text k h less sign =
    let c : ℕ = content_len text in
    let whole : line_len text ≡ c + end_len (drop c text) = line_len_is text in
    let most = end_len-most (drop c text) in
    let fits = line_len-within text in
    let two : end_len (drop c text) ≡ 2 = omega (arith, h, less, most, whole) in
    let feed : slice_index text (suc k) ≡ 10 = feed_at text (suc k) two (omega (arith, h, less, most, whole)) in
    let bad : ◌≡◌ {A = ℕ} 10 37 = sym feed ∙ sign (omega (arith, less, fits)) in
    absurd (omega (arith, bad))

further : (t : Bool) (l k n x y : ℕ) → l + n ≡ k → x ≡ y → l + (if t then n else n + x) ≡ (if t then k else k + y)
further true l k n x y e h = e
further false l k n x y e h = omega (arith, e, h)

to_line_is : (m k : ℕ) (text : List ℕ) → length text ≤ m → k ≤ length text → (k < length text → slice_index text k ≡ 37) → to_line m k text ≡ next_line k text
to_line_is m zero text h w sign = refl
to_line_is zero (suc k) text h w sign = absurd (omega (arith, h, w))
to_line_is (suc m) (suc k) [] h w sign = absurd (omega (arith, w))
to_line_is (suc m) (suc k) (b ∷ bs) h w sign =
    let text : List ℕ = b ∷ bs in
    let c : ℕ = content_len text in
    let l : ℕ = line_len text in
    let whole : l ≡ c + end_len (drop c text) = line_len_is text in
    let moves : 0 < l = line_len-pos b bs in
    let fits : l ≤ length text = line_len-within text in
    let left = length-drop l text in
    by_test (ltb k c)
    (λ in_content.
    let less : k < c = ltb-true k c in_content in
    let none : suc k - l ≡ 0 = omega (arith, less, whole) in
    let split : line_len text ≡ suc k + line_len (drop (suc k) text) = line_split text (suc k) (omega (arith, less)) in
    let zero_more : l + 0 ≡ suc k + line_len (drop (suc k) text) = omega (arith, split) in
    ap (λ j. l + to_line m j (drop l text)) none ∙ zero_more ∙ sym (ap (λ t. if t then suc k else suc k + line_len (drop (suc k) text)) (inside_content text k less)))
    (λ behind.
    let le : c ≤ k = ltb-false k c behind in
    by_test (ltb (suc k) l)
    (λ inside. absurd (not_within_end text k le (ltb-true (suc k) l inside) sign))
    (λ past.
    let fit : l ≤ suc k = ltb-false (suc k) l past in
    by_test (ltb l (suc k))
    (λ more.
    let less : l < suc k = ltb-true l (suc k) more in
    let one : suc k - l ≡ suc (k - l) = omega (arith, less) in
    let place : l + (k - l) ≡ k = omega (arith, less) in
    let next : l + suc (k - l) ≡ suc k = omega (arith, less) in
    let same : slice_index (drop l text) (k - l) ≡ slice_index text k = get_or-drop l text (k - l) 0 ∙ ap (slice_index text) place in
    let rest : drop (suc (k - l)) (drop l text) ≡ drop (suc k) text = drop-drop (suc (k - l)) l text ∙ ap (λ j. drop j text) next in
    let sign_on : suc (k - l) < length (drop l text) → slice_index (drop l text) (suc (k - l)) ≡ 37 =
    (λ lt. get_or-drop l text (suc (k - l)) 0 ∙ ap (slice_index text) next ∙ sign (omega (arith, lt, left, less))) in
    let later : to_line m (suc (k - l)) (drop l text) ≡ next_line (suc (k - l)) (drop l text) =
    to_line_is m (suc (k - l)) (drop l text) (omega (arith, moves, left, h)) (omega (arith, left, w, less)) sign_on in
    ap (λ j. l + to_line m j (drop l text)) one ∙ ap (λ j. l + j) later
    ∙ ap (λ t. l + (if is_end t then suc (k - l) else suc (k - l) + line_len (drop (suc (k - l)) (drop l text)))) same
    ∙ further (is_end (slice_index text k)) l (suc k) (suc (k - l)) (line_len (drop (suc (k - l)) (drop l text))) (line_len (drop (suc k) text)) next (ap line_len rest))
    (λ whole_line.
    let ge : suc k ≤ l = ltb-false l (suc k) whole_line in
    let same : l ≡ suc k = omega (arith, ge, fit) in
    let none : suc k - l ≡ 0 = omega (arith, ge) in
    let zero_more : l + 0 ≡ suc k = omega (arith, same) in
    ap (λ j. l + to_line m j (drop l text)) none ∙ zero_more
    ∙ sym (ap (λ t. if t then suc k else suc k + line_len (drop (suc k) text)) (last_is_end text k le (omega (arith, w)) same)))))

plain_from : (k : ℕ) (text : List ℕ) → k ≤ length text → NoPair k text → (k < length text → slice_index text k ≡ 37) → BeginsPlain (next_line k text) text
plain_from k text w p sign =
    let same : to_line (length text) k text ≡ next_line k text = to_line_is (length text) k text (omega arith) w sign in
    subst (λ n. BeginsPlain n text) same (to_line_plain (length text) k text (omega arith) w p)

next_at_end : (text : List ℕ) → next_line (length text) text ≡ length text
next_at_end [] = refl
next_at_end (b ∷ bs) = same (is_end (slice_index (b ∷ bs) (length bs))) (ap (λ t. line_len t) (none bs))
  where
    none : (xs : List ℕ) → drop (length xs) xs ≡ []
    none [] = refl
    none (x ∷ xs) = none xs

    same : (t : Bool) → line_len (drop (length bs) bs) ≡ 0 → (if t then suc (length bs) else suc (length bs) + line_len (drop (length bs) bs)) ≡ suc (length bs)
    same true e = refl
    same false e = omega (arith, e)

-- what a search for the two percent signs finds
pub passed_all : (text needle : List ℕ) → needle ≡ codes "%%" → FindsNeedle text needle 0 None → BeginsPlain (length text) text
passed_all text needle e h =
    let none : FindsNeedle text PAIR 0 None = subst (λ n. FindsNeedle text n 0 None) e h in
    subst (λ n. BeginsPlain n text) (next_at_end text) (plain_from (length text) text (omega arith) (λ i lt o. none i (omega arith) (omega (arith, lt)) o) (λ lt. absurd (omega (arith, lt))))

pub passed_some : (text needle : List ℕ) (k : ℕ) → needle ≡ codes "%%" → FindsNeedle text needle 0 (Some k) → BeginsPlain (next_line k text) text
passed_some text needle k e h =
    let found : FindsNeedle text PAIR 0 (Some k) = subst (λ n. FindsNeedle text n 0 (Some k)) e h in
    let fits = found.1.fits in
    plain_from k text (omega (arith, fits)) (λ i lt o. found.0.before i (omega arith) lt o) (λ lt. (let same : k + 0 ≡ k = omega arith in sym (ap (slice_index text) same) ∙ found.1.reads 0 (omega arith)))
