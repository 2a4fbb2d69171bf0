-- Laws of lines.
use Rattle.std.specs.Prelude.{Option, Some, None, not, slice_index, option_map}
use Rattle.std.specs.List.{starts_with, prefix_len}
use Rattle.std.proofs.Common.{Bool, true, false, ◌==◌, ◌&&◌, nat_eq, if◌then◌else◌, lit<, ◌≡◌, ℕ, zero, suc, ◌+◌, ◌-◌, ◌<◌, ◌≤◌, List, [], ◌∷◌, length, take, drop, refl, ap, arith, length-drop, sym, ◌∙◌}
use Rattle.std.proofs.lemmas.List.{take-take, drop-take}
use Rattle.std.proofs.lemmas.List.Folds.{length-prefix_len}
use Rattle.std.proofs.lemmas.List.Sums.{prefix_len-le-length}
use Rattle.std.proofs.lemmas.Grind.{common_steps}
use Rattle.memchr.specs.Find.{IsFirstByte, is_byte2}
use Rattle.rules.specs.Units.{is_end, content_of, end_len, line_len, lines_len}
use Rattle.dsc.proofs.Cases.{by_test}

-- the length of the content
abbrev pub content_len : List ℕ → ℕ
content_len text = prefix_len (λ b. not (is_end b)) text

pub length-content : (text : List ℕ) → length (content_of text) ≡ content_len text
length-content text = length-prefix_len (λ b. not (is_end b)) text

-- the content stops at the first line end
pub nowhere_end : (text : List ℕ) → ((k : ℕ) → k < length text → is_end (slice_index text k) ≡ true → ⊥) → content_len text ≡ length text
nowhere_end [] h = refl
nowhere_end (b ∷ bs) h = by_test (is_end b)
    (λ yes. absurd (h 0 (omega arith) yes))
    (λ no. rw no (ap (λ n. 1 + n) (nowhere_end bs (λ k at is. h (suc k) (omega arith) is)) ∙ omega arith))

pub first_end : (text : List ℕ) (n : ℕ) → n < length text → ((k : ℕ) → k < n → is_end (slice_index text k) ≡ true → ⊥) → is_end (slice_index text n) ≡ true → content_len text ≡ n
first_end [] n w h e = absurd (omega arith)
first_end (b ∷ bs) zero w h e = rw e refl
first_end (b ∷ bs) (suc n) w h e = by_test (is_end b)
    (λ yes. absurd (h 0 (omega arith) yes))
    (λ no. rw no (ap (λ n. 1 + n) (first_end bs n (omega arith) (λ k at is. h (suc k) (omega arith) is) e) ∙ omega arith))

pub two_or_one : (b : Bool) → 0 < (if b then 2 else 1)
two_or_one true = lit< tt
two_or_one false = lit< tt

pub end_len-pos : (b : ℕ) (bs : List ℕ) → 0 < end_len (b ∷ bs)
end_len-pos b bs = two_or_one ((b == 13) && starts_with nat_eq bs (10 ∷ []))

-- a line of a text that isn't empty has a byte: if its content is empty, its end comes first
pub line_len-pos : (b : ℕ) (bs : List ℕ) → 0 < line_len (b ∷ bs)
line_len-pos b bs = grind (arith, common_steps, end_len-pos b bs)

two_or_one-within : (b : Bool) (n : ℕ) → (b ≡ true → 2 ≤ n) → 1 ≤ n → (if b then 2 else 1) ≤ n
two_or_one-within true n h g = h refl
two_or_one-within false n h g = g

ends_short : (b : ℕ) → ((b == 13) && starts_with nat_eq [] (10 ∷ [])) ≡ false
ends_short b = by_test (b == 13) (λ yes. rw yes refl) (λ no. rw no refl)

pub end_len-within : (text : List ℕ) → end_len text ≤ length text
end_len-within [] = omega arith
end_len-within (b ∷ []) = rw (ends_short b) (omega arith)
end_len-within (b ∷ c ∷ bs) = two_or_one-within ((b == 13) && starts_with nat_eq (c ∷ bs) (10 ∷ [])) _ (λ _. omega arith) (omega arith)

pub line_len_is : (text : List ℕ) → line_len text ≡ content_len text + end_len (drop (content_len text) text)
line_len_is text = ap (λ n. n + end_len (drop n text)) (length-content text)

pub line_len-within : (text : List ℕ) → line_len text ≤ length text
line_len-within text =
    let first : content_len text ≤ length text = prefix_len-le-length (λ b. not (is_end b)) text in
    let more : end_len (drop (content_len text) text) ≤ length (drop (content_len text) text) = end_len-within _ in
    rw line_len_is (omega (arith, first, more, length-drop (content_len text) text))

-- What a line is doesn't depend on what follows it.

pub content_len-take : (k : ℕ) (text : List ℕ) → content_len text ≤ k → content_len (take k text) ≡ content_len text
content_len-take zero [] h = refl
content_len-take (suc k) [] h = refl
content_len-take zero (b ∷ bs) h = omega (arith, h)
content_len-take (suc k) (b ∷ bs) h = by_test (is_end b)
    (λ yes. rw yes refl)
    (λ no. let less : content_len bs ≤ k = (let h = (rw no at h) in omega (arith, h)) in rw no (ap (λ n. 1 + n) (content_len-take k bs less)))

pub content_of-take : (k : ℕ) (text : List ℕ) → content_len text ≤ k → content_of (take k text) ≡ content_of text
content_of-take k text h = ap (λ n. take n (take k text)) (content_len-take k text h) ∙ take-take (content_len text) k text h

end_len-one : (b c : ℕ) (bs : List ℕ) → (t : Bool) → ((b == 13) && starts_with nat_eq (c ∷ bs) (10 ∷ [])) ≡ t → (if t then 2 else 1) ≤ 1 → end_len (b ∷ []) ≡ (if t then 2 else 1)
end_len-one b c bs true e h = absurd (omega (arith, h))
end_len-one b c bs false e h = rw (ends_short b) refl

pub end_len-take : (k : ℕ) (text : List ℕ) → end_len text ≤ k → end_len (take k text) ≡ end_len text
end_len-take zero [] h = refl
end_len-take (suc k) [] h = refl
end_len-take zero (b ∷ bs) h = absurd (omega (arith, h, end_len-pos b bs))
end_len-take (suc zero) (b ∷ []) h = refl
end_len-take (suc (suc k)) (b ∷ []) h = refl
end_len-take (suc zero) (b ∷ c ∷ bs) h = end_len-one b c bs _ refl h
end_len-take (suc (suc k)) (b ∷ c ∷ bs) h = refl

pub line_len-take : (k : ℕ) (text : List ℕ) → line_len text ≤ k → line_len (take k text) ≡ line_len text
line_len-take k text h =
    let n : ℕ = content_len text in
    let h2 : n + end_len (drop n text) ≤ k = rw line_len_is at h in
    let less : n ≤ k = omega (arith, h2) in
    let split : k ≡ n + (k - n) = omega (arith, less) in
    let rest : drop n (take k text) ≡ take (k - n) (drop n text) = ap (λ j. drop n (take j text)) split ∙ drop-take n (k - n) text in
    line_len_is (take k text) ∙ ap (λ j. j + end_len (drop j (take k text))) (content_len-take k text less)
    ∙ ap (λ t. n + end_len t) rest ∙ ap (λ e. n + e) (end_len-take (k - n) (drop n text) (omega (arith, h2))) ∙ sym (line_len_is text)

-- if a text is cut after its first line, so is what follows that line
pub behind : (n k : ℕ) (text : List ℕ) → n ≤ k → drop n (take k text) ≡ take (k - n) (drop n text)
behind n k text less =
    let split : k ≡ n + (k - n) = omega (arith, less) in
    ap (λ j. drop n (take j text)) split ∙ drop-take n (k - n) text

more_than : (n : ℕ) (o : Option ℕ) (m : ℕ) → option_map (λ k. n + k) o ≡ Some m → (k : ℕ) × (o ≡ Some k) × (m ≡ n + k)
more_than n None m e = cc
more_than n (Some k) m e = (k, refl, cc)

-- each line has at least one byte
pub lines_len-least : (count : ℕ) (text : List ℕ) (m : ℕ) → lines_len count text ≡ Some m → (count ≤ m) × (m ≤ length text)
lines_len-least zero text m e = let z : m ≡ 0 = cc in (omega arith, omega (arith, z))
lines_len-least (suc c) [] m e = cc
lines_len-least (suc c) (b ∷ bs) m e =
    let w = more_than (line_len (b ∷ bs)) (lines_len c (drop (line_len (b ∷ bs)) (b ∷ bs))) m e in
    let i = lines_len-least c (drop (line_len (b ∷ bs)) (b ∷ bs)) w.0 w.1 in
    let moves = line_len-pos b bs in
    let fits = line_len-within (b ∷ bs) in
    let left = length-drop (line_len (b ∷ bs)) (b ∷ bs) in
    (omega (arith, w.2, i.0, moves), omega (arith, w.2, i.1, fits, left))

pub lines_len-take : (count : ℕ) (text : List ℕ) (m k : ℕ) → lines_len count text ≡ Some m → m ≤ k → lines_len count (take k text) ≡ Some m
lines_len-take zero text m k e h = e
lines_len-take (suc c) [] m k e h = cc
lines_len-take (suc c) (b ∷ bs) m zero e h =
    let least = lines_len-least (suc c) (b ∷ bs) m e in absurd (omega (arith, h, least.0))
lines_len-take (suc c) (b ∷ bs) m (suc k) e h =
    let n : ℕ = line_len (b ∷ bs) in
    let w = more_than n (lines_len c (drop n (b ∷ bs))) m e in
    let less : n ≤ suc k = omega (arith, w.2, h) in
    let same : line_len (b ∷ take k bs) ≡ n = line_len-take (suc k) (b ∷ bs) less in
    let i : lines_len c (take (suc k - n) (drop n (b ∷ bs))) ≡ Some w.0 = lines_len-take c (drop n (b ∷ bs)) w.0 (suc k - n) w.1 (omega (arith, w.2, h)) in
    ap (λ j. option_map (λ q. j + q) (lines_len c (drop j (b ∷ take k bs)))) same
    ∙ ap (λ t. option_map (λ q. n + q) (lines_len c t)) (behind n (suc k) (b ∷ bs) less)
    ∙ ap (option_map (λ q. n + q)) i ∙ ap Some (sym w.2)

-- what a search for the two ends finds
pub content_found : (text : List ℕ) (n : ℕ) → IsFirstByte (is_byte2 13 10) text (Some n) → n ≡ length (content_of text)
content_found text n h = sym (length-content text ∙ first_end text n h.0.high (λ k at is. h.0.before k (omega arith) at is) h.1)

pub no_end_found : (text : List ℕ) → IsFirstByte (is_byte2 13 10) text None → length text ≡ length (content_of text)
no_end_found text h = sym (length-content text ∙ nowhere_end text (λ k at is. h k (omega arith) at is))

pub added_on : (a b : ℕ) (o : Option ℕ) → option_map (λ k. a + b + k) o ≡ option_map (λ k. a + k) (option_map (λ k. b + k) o)
added_on a b None = refl
added_on a b (Some k) = ap Some (omega arith)

-- in terms of a loop: one more line is passed
pub lines_more : (count i end next : ℕ) (rest after : List ℕ) (n : ℕ) (whole : Option ℕ) → i < count → 0 < length rest → n ≡ line_len rest → after ≡ drop n rest
    → next ≡ end + n → option_map (λ k. end + k) (lines_len (count - i) rest) ≡ whole → option_map (λ k. next + k) (lines_len (count - (i + 1)) after) ≡ whole
lines_more count i end next [] after n whole w some e a s h = absurd (omega (arith, some))
lines_more count i end next (b ∷ bs) after n whole w some e a s h =
    let one : count - i ≡ suc (count - (i + 1)) = omega (arith, w) in
    ap (λ m. option_map (λ k. m + k) (lines_len (count - (i + 1)) after)) s
    ∙ ap (λ t. option_map (λ k. end + n + k) (lines_len (count - (i + 1)) t)) a
    ∙ added_on end n (lines_len (count - (i + 1)) (drop n (b ∷ bs)))
    ∙ ap (λ m. option_map (λ k. end + k) (option_map (λ k. m + k) (lines_len (count - (i + 1)) (drop m (b ∷ bs))))) e
    ∙ ap (λ c. option_map (λ k. end + k) (lines_len c (b ∷ bs))) (sym one) ∙ h
