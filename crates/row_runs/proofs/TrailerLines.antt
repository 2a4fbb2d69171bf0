-- The lines after the last line that begins the trailer, which is searched for from the end.
use Rattle.std.specs.Prelude.{codes, slice_index, Some, None}
use Rattle.std.specs.List.{prefix_len, starts_with}
use Rattle.std.proofs.Common.{append_assoc, Bool, true, false, not, nat_eq, ltb, ◌||◌, ◌&&◌, ◌==◌, if◌then◌else◌, ◌≡◌, ℕ, zero, suc, ◌+◌, ◌-◌, ◌<◌, ◌≤◌, List, [], ◌∷◌, ◌++◌, length, take, drop, refl, ap, arith, length-append, length-drop, length-take, min, sym, ◌∙◌, subst}
use Rattle.std.proofs.lemmas.Bool.{false≢true, ltb-false, ltb-true}
use Rattle.std.proofs.lemmas.List.{drop-drop, get_or-drop, get_or-take, get_or_append_left, take-append-drop, take-take}
use Rattle.std.proofs.lemmas.Slice.Eq.{bytes_eq-Decides}
use Rattle.memchr.specs.Find.{FindsLastNeedle, OccursAt}
use Rattle.rules.specs.Units.{is_blank, is_end, content_of, end_len, key, line_len}
use Rattle.dsc.proofs.Cases.{by_test}
use Rattle.dsc.proofs.LineLengths.{content_len, line_len-pos, line_len_is}
use Rattle.dsc.proofs.PlainLines.{line_split}
use Rattle.papers.specs.Media.{contents}
use Rattle.papers.proofs.Contents.{contents_step}
use Rattle.row_runs.specs.DeclaredPages.{begins_line, is_trailer_line, lines_after_trailer, last_lines, trailer_at}

abbrev pub TRAILER : List ℕ
TRAILER = 37 ∷ 37 ∷ 84 ∷ 114 ∷ 97 ∷ 105 ∷ 108 ∷ 101 ∷ 114 ∷ []

-- ---- a line that begins the trailer has its key at its start

at_front : (more : List ℕ) → OccursAt (TRAILER ++ more) TRAILER 0
at_front more = record {
  fits = omega (arith, length-append TRAILER more);
  reads = λ j lt. (let same : 0 + j ≡ j = omega arith in ap (slice_index (TRAILER ++ more)) same ∙ get_or_append_left TRAILER more 0 j lt);
}

key_occurs : (line : List ℕ) → is_trailer_line (content_of line) ≡ true → OccursAt line TRAILER 0
key_occurs line is =
    let content : List ℕ = content_of line in
    let n : ℕ = prefix_len (λ b. not (is_blank b || (b == 58))) content in
    let m : ℕ = prefix_len (λ b. not (is_end b)) line in
    let same : key content ≡ TRAILER = (bytes_eq-Decides (key content) TRAILER).0 is in
    let whole : line ≡ TRAILER ++ (drop n content ++ drop m line) =
    sym (take-append-drop m line) ∙ ap (λ t. t ++ drop m line) (sym (take-append-drop n content))
    ∙ append_assoc (key content) (drop n content) (drop m line) ∙ ap (λ k. k ++ (drop n content ++ drop m line)) same in
    subst (λ t. OccursAt t TRAILER 0) (sym whole) (at_front (drop n content ++ drop m line))

both_are : (s t : Bool) → (s && t) ≡ true → (s ≡ true) × (t ≡ true)
both_are true t e = (refl, e)
both_are false t e = absurd (false≢true e)

both_make : (s t : Bool) → s ≡ true → t ≡ true → (s && t) ≡ true
both_make s t e f = ap (λ x. x && t) e ∙ f

trailer_occurs : (at : ℕ) (text : List ℕ) → trailer_at at text ≡ true → OccursAt text TRAILER at
trailer_occurs at text is =
    let o = key_occurs (drop at text) (both_are (begins_line at text) (is_trailer_line (content_of (drop at text))) is).1 in
    let fits = o.fits in
    let left = length-drop at text in
    record {
      fits = omega (arith, fits, left);
      reads = λ j lt. (let same : 0 + j ≡ j = omega arith in sym (get_or-drop at text j 0) ∙ sym (ap (slice_index (drop at text)) same) ∙ o.reads j lt);
    }

occurs_in : (n at : ℕ) (text : List ℕ) → OccursAt text TRAILER at → at + 9 ≤ n → OccursAt (take n text) TRAILER at
occurs_in n at text o h =
    let fits = o.fits in
    let size = length-take n text in
    record {
      fits = omega (arith, fits, size, h);
      reads = λ j lt. get_or-take n text (at + j) 0 (omega (arith, lt, h)) ∙ o.reads j lt;
    }

-- ---- where lines begin

ended_line : (b : ℕ) (bs : List ℕ) → is_end b ≡ true → line_len (b ∷ bs) ≡ end_len (b ∷ bs)
ended_line b bs is =
    let none : content_len (b ∷ bs) ≡ 0 = rw is refl in
    let whole : line_len (b ∷ bs) ≡ 0 + end_len (b ∷ bs) = line_len_is (b ∷ bs) ∙ ap (λ n. n + end_len (drop n (b ∷ bs))) none in
    omega (arith, whole)

open_line : (b : ℕ) (bs : List ℕ) → is_end b ≡ false → line_len (b ∷ bs) ≡ 1 + line_len bs
open_line b bs isnt =
    let some : content_len (b ∷ bs) ≡ 1 + content_len bs = rw isnt refl in
    line_split (b ∷ bs) 1 (omega (arith, some))

feed_first : (bs : List ℕ) → starts_with nat_eq bs (10 ∷ []) ≡ true → slice_index bs 0 ≡ 10
feed_first bs is = first bs ((bytes_eq-Decides (10 ∷ []) (take 1 bs)).0 is)
  where
    first : (bs : List ℕ) → 10 ∷ [] ≡ take 1 bs → slice_index bs 0 ≡ 10
    first [] e = cc
    first (c ∷ cs) e = sym (ap (λ t. slice_index t 0) e)

-- an end has one byte, or two, of which the second is a line feed
record OneOrFeed (bs : List ℕ) (n : ℕ) : Type 0 where
  pub most : n ≤ 2
  pub feed : n ≡ 2 → slice_index bs 0 ≡ 10

end_bytes : (b : ℕ) (bs : List ℕ) → OneOrFeed bs (end_len (b ∷ bs))
end_bytes b bs = by ((b == 13) && starts_with nat_eq bs (10 ∷ [])) (λ is. feed_first bs (both_are (b == 13) (starts_with nat_eq bs (10 ∷ [])) is).1)
  where
    by : (t : Bool) → (t ≡ true → slice_index bs 0 ≡ 10) → OneOrFeed bs (if t then 2 else 1)
    by true h = record { most = omega arith; feed = λ e. h refl }
    by false h = record { most = omega arith; feed = λ e. absurd (omega (arith, e)) }

-- a line that others follow ends with the byte of a line end
last_ends : (text : List ℕ) (k : ℕ) → line_len text ≡ suc k → suc k < length text → is_end (slice_index text k) ≡ true
last_ends [] k e h = absurd (omega (arith, h))
last_ends (b ∷ bs) zero e h = by_test (is_end b)
    (λ is. is)
    (λ isnt. let longer = open_line b bs isnt in absurd (omega (arith, e, longer, some bs (omega (arith, h)))))
  where
    some : (bs : List ℕ) → 0 < length bs → 0 < line_len bs
    some [] h = absurd (omega (arith, h))
    some (c ∷ cs) h = line_len-pos c cs
last_ends (b ∷ bs) (suc k) e h = by_test (is_end b)
    (λ is.
    let w = end_bytes b bs in
    let most = w.most in
    let same = ended_line b bs is in
    let at : k ≡ 0 = omega (arith, e, same, most) in
    ap (λ j. is_end (slice_index bs j)) at ∙ ap is_end (w.feed (omega (arith, e, same, most))))
    (λ isnt. let longer = open_line b bs isnt in last_ends bs k (omega (arith, e, longer)) (omega (arith, h)))

-- the first line has ended where a line begins
has_ended : (text : List ℕ) (k : ℕ) → k < length text → is_end (slice_index text k) ≡ true → slice_index text (suc k) ≡ 37 → line_len text ≤ suc k
has_ended [] k h is sign = absurd (omega (arith, h))
has_ended (b ∷ bs) zero h is sign =
    let w = end_bytes b bs in
    let most = w.most in
    let same = ended_line b bs is in
    by_test (ltb (end_len (b ∷ bs)) 2)
    (λ one. let less : end_len (b ∷ bs) < 2 = ltb-true (end_len (b ∷ bs)) 2 one in omega (arith, less, same))
    (λ two.
    let more : 2 ≤ end_len (b ∷ bs) = ltb-false (end_len (b ∷ bs)) 2 two in
    let bad : ◌≡◌ {A = ℕ} 10 37 = sym (w.feed (omega (arith, more, most))) ∙ sign in
    absurd (omega (arith, bad)))
has_ended (b ∷ bs) (suc k) h is sign = by_test (is_end b)
    (λ ends. let same = ended_line b bs ends in let most = (end_bytes b bs).most in omega (arith, same, most))
    (λ isnt. let longer = open_line b bs isnt in let less = has_ended bs k (omega (arith, h)) is sign in omega (arith, longer, less))

-- what a line is doesn't depend on what comes before it
begins_on : (l j : ℕ) (text : List ℕ) → begins_line (l + j) text ≡ true → begins_line j (drop l text) ≡ true
begins_on l zero text is = refl
begins_on l (suc i) text is =
    let next : suc (l + i) ≡ l + suc i = omega arith in
    ap is_end (get_or-drop l text i 0) ∙ ap (λ n. begins_line n text) next ∙ is

begins_back : (l j : ℕ) (text : List ℕ) → (j ≡ 0 → begins_line l text ≡ true) → begins_line j (drop l text) ≡ true → begins_line (l + j) text ≡ true
begins_back l zero text h is = let same : l + 0 ≡ l = omega arith in ap (λ n. begins_line n text) same ∙ h refl
begins_back l (suc i) text h is =
    let next : l + suc i ≡ suc (l + i) = omega arith in
    ap (λ n. begins_line n text) next ∙ ap is_end (sym (get_or-drop l text i 0)) ∙ is

trailer_on : (l j : ℕ) (text : List ℕ) → trailer_at (l + j) text ≡ true → trailer_at j (drop l text) ≡ true
trailer_on l j text is =
    let w = both_are (begins_line (l + j) text) (is_trailer_line (content_of (drop (l + j) text))) is in
    both_make (begins_line j (drop l text)) (is_trailer_line (content_of (drop j (drop l text)))) (begins_on l j text w.0)
    (ap (λ t. is_trailer_line (content_of t)) (drop-drop j l text) ∙ w.1)

trailer_back : (l j : ℕ) (text : List ℕ) → (j ≡ 0 → begins_line l text ≡ true) → trailer_at j (drop l text) ≡ true → trailer_at (l + j) text ≡ true
trailer_back l j text h is =
    let w = both_are (begins_line j (drop l text)) (is_trailer_line (content_of (drop j (drop l text)))) is in
    both_make (begins_line (l + j) text) (is_trailer_line (content_of (drop (l + j) text))) (begins_back l j text h w.0)
    (ap (λ t. is_trailer_line (content_of t)) (sym (drop-drop j l text)) ∙ w.1)

line_begins : (text : List ℕ) (n : ℕ) → n ≡ line_len text → 0 < n → n < length text → begins_line n text ≡ true
line_begins text zero e some h = absurd (omega (arith, some))
line_begins text (suc k) e some h = last_ends text k (sym e) h

-- a line after the first one
later_line : (b : ℕ) (bs : List ℕ) (k : ℕ) → trailer_at k (drop (line_len (b ∷ bs)) (b ∷ bs)) ≡ true → trailer_at (line_len (b ∷ bs) + k) (b ∷ bs) ≡ true
later_line b bs k is =
    let text : List ℕ = b ∷ bs in
    let l : ℕ = line_len text in
    let fits = (trailer_occurs k (drop l text) is).fits in
    let left = length-drop l text in
    trailer_back l k text (λ none. line_begins text l refl (line_len-pos b bs) (omega (arith, fits, left))) is

-- ---- what comes after the last trailer

-- what comes after the line that begins at this byte
abbrev pub after : ℕ → List ℕ → List ℕ
after at text = drop (line_len (drop at text)) (drop at text)

abbrev choose : (all more : List (List ℕ)) → Bool → List (List ℕ)
choose all more begins = if begins then lines_after_trailer more more else lines_after_trailer all more

either : (all more lines : List (List ℕ)) (begins : Bool) → lines_after_trailer more more ≡ lines → lines_after_trailer all more ≡ lines → choose all more begins ≡ lines
either all more lines true e f = e
either all more lines false e f = f

lines_step : (all : List (List ℕ)) (b : ℕ) (bs : List ℕ)
    → lines_after_trailer all (contents (b ∷ bs)) ≡ choose all (contents (drop (line_len (b ∷ bs)) (b ∷ bs))) (is_trailer_line (content_of (b ∷ bs)))
lines_step all b bs = ap (lines_after_trailer all) (contents_step b bs)

none_left : (most : ℕ) (all : List (List ℕ)) (text : List ℕ) → length text ≤ most → ((k : ℕ) → trailer_at k text ≡ true → ⊥) → lines_after_trailer all (contents text) ≡ all
none_left most all [] h none = refl
none_left zero all (b ∷ bs) h none = absurd (omega (arith, h))
none_left (suc most) all (b ∷ bs) h none =
    let text : List ℕ = b ∷ bs in
    let l : ℕ = line_len text in
    let moves : 0 < l = line_len-pos b bs in
    let left = length-drop l text in
    let isnt : is_trailer_line (content_of text) ≡ false = by_test (is_trailer_line (content_of text)) (λ is. absurd (none 0 is)) (λ isnt. isnt) in
    lines_step all b bs ∙ ap (choose all (contents (drop l text))) isnt
    ∙ none_left most all (drop l text) (omega (arith, h, moves, left)) (λ k is. none (l + k) (later_line b bs k is))

first_begins : (all : List (List ℕ)) (text : List ℕ) → trailer_at 0 text ≡ true → lines_after_trailer all (contents text) ≡ lines_after_trailer (contents (after 0 text)) (contents (after 0 text))
first_begins all [] is = absurd (false≢true is)
first_begins all (b ∷ bs) is = lines_step all b bs ∙ ap (choose all (contents (drop (line_len (b ∷ bs)) (b ∷ bs)))) is

reached : (most at : ℕ) (all : List (List ℕ)) (text : List ℕ) → length text ≤ most → trailer_at at text ≡ true
    → lines_after_trailer all (contents text) ≡ lines_after_trailer (contents (after at text)) (contents (after at text))
reached most zero all text h is = first_begins all text is
reached zero (suc k) all text h is = let fits = (trailer_occurs (suc k) text is).fits in absurd (omega (arith, fits, h))
reached (suc most) (suc k) all [] h is = let fits = (trailer_occurs (suc k) [] is).fits in absurd (omega (arith, fits))
reached (suc most) (suc k) all (b ∷ bs) h is =
    let text : List ℕ = b ∷ bs in
    let l : ℕ = line_len text in
    let o = trailer_occurs (suc k) text is in
    let fits = o.fits in
    let ends : is_end (slice_index text k) ≡ true = (both_are (begins_line (suc k) text) (is_trailer_line (content_of (drop (suc k) text))) is).0 in
    let here : suc k + 0 ≡ suc k = omega arith in
    let sign : slice_index text (suc k) ≡ 37 = sym (ap (slice_index text) here) ∙ o.reads 0 (omega arith) in
    let past : l ≤ suc k = has_ended text k (omega (arith, fits)) ends sign in
    let j : ℕ = suc k - l in
    let whole : l + j ≡ suc k = omega (arith, past) in
    let rest : List ℕ = drop l text in
    let moves : 0 < l = line_len-pos b bs in
    let left = length-drop l text in
    let on : trailer_at j rest ≡ true = trailer_on l j text (ap (λ n. trailer_at n text) whole ∙ is) in
    let same : drop j rest ≡ drop (suc k) text = drop-drop j l text ∙ ap (λ n. drop n text) whole in
    let later : (any : List (List ℕ)) → lines_after_trailer any (contents rest) ≡ lines_after_trailer (contents (after (suc k) text)) (contents (after (suc k) text)) =
    (λ any. reached most j any rest (omega (arith, h, moves, left)) on ∙ ap (λ t. lines_after_trailer (contents (drop (line_len t) t)) (contents (drop (line_len t) t))) same) in
    lines_step all b bs ∙ either all (contents rest) _ (is_trailer_line (content_of text)) (later (contents rest)) (later all)

-- a line after one that begins further on
after_first : (text : List ℕ) (k : ℕ) → trailer_at 0 text ≡ true → trailer_at k (drop (line_len text) text) ≡ true → (j : ℕ) × (0 < j) × (trailer_at j text ≡ true)
after_first [] k first is = absurd (false≢true first)
after_first (b ∷ bs) k first is = (line_len (b ∷ bs) + k, (let moves = line_len-pos b bs in omega (arith, moves)), later_line b bs k is)

pub last_found : (at : ℕ) (text : List ℕ) → trailer_at at text ≡ true → ((k : ℕ) → at < k → trailer_at k text ≡ true → ⊥) → contents (after at text) ≡ last_lines text
last_found at text is none =
    let here : at + 0 ≡ at = omega arith in
    let first : trailer_at 0 (drop at text) ≡ true = trailer_on at 0 text (ap (λ n. trailer_at n text) here ∙ is) in
    let left : lines_after_trailer (contents (after at text)) (contents (after at text)) ≡ contents (after at text) =
    none_left (length (after at text)) (contents (after at text)) (after at text) (omega arith)
    (λ k ends.
    let w = after_first (drop at text) k first ends in
    let more = w.1 in
    none (at + w.0) (omega (arith, more)) (trailer_back at w.0 text (λ zero_. absurd (omega (arith, zero_, more))) w.2)) in
    sym (reached (length text) at (contents text) text (omega arith) is ∙ left)

-- ---- what the search finds

-- no line begins the trailer whose key would end after this front
abbrev pub NoneLater : (text front : List ℕ) → Type 0
NoneLater text front = (k : ℕ) → length front < k + 9 → trailer_at k text ≡ true → ⊥

-- a front of a front
pub shorter : (text front before : List ℕ) (n : ℕ) → front ≡ take (length front) text → before ≡ take n front → length before ≡ n → before ≡ take (length before) text
shorter text front before n e b size =
    let fits : length before ≡ min n (length front) = ap length b ∙ length-take n front in
    b ∙ ap (take n) e ∙ take-take n (length front) text (omega (arith, fits, size)) ∙ ap (λ k. take k text) (sym size)

in_front : (text front : List ℕ) (k : ℕ) → front ≡ take (length front) text → k + 9 ≤ length front → trailer_at k text ≡ true → OccursAt front TRAILER k
in_front text front k e h is = subst (λ t. OccursAt t TRAILER k) (sym e) (occurs_in (length front) k text (trailer_occurs k text is) h)

pub none_later : (text front needle : List ℕ) (at : ℕ) → needle ≡ codes "%%Trailer" → front ≡ take (length front) text → FindsLastNeedle front needle (Some at)
    → NoneLater text front → (k : ℕ) → at < k → trailer_at k text ≡ true → ⊥
none_later text front needle at n e found none k more is =
    let last : FindsLastNeedle front TRAILER (Some at) = subst (λ t. FindsLastNeedle front t (Some at)) n found in
    by_test (ltb (length front) (k + 9))
    (λ out. none k (ltb-true (length front) (k + 9) out) is)
    (λ within.
    let fits : k + 9 ≤ length front = ltb-false (length front) (k + 9) within in
    last.0.after k (omega (arith, more)) (omega (arith, fits)) (in_front text front k e fits is))

pub still_none : (text front before needle : List ℕ) (at : ℕ) → needle ≡ codes "%%Trailer" → front ≡ take (length front) text → FindsLastNeedle front needle (Some at)
    → trailer_at at text ≡ false → length before ≡ at + 8 → NoneLater text front → NoneLater text before
still_none text front before needle at n e found isnt size none k h is = by_test (ltb at k)
    (λ more. none_later text front needle at n e found none k (ltb-true at k more) is)
    (λ not_more.
    let le : k ≤ at = ltb-false at k not_more in
    let same : at ≡ k = omega (arith, le, h, size) in
    absurd (false≢true (sym isnt ∙ ap (λ j. trailer_at j text) same ∙ is)))

pub none_found : (text front needle : List ℕ) → needle ≡ codes "%%Trailer" → front ≡ take (length front) text → FindsLastNeedle front needle None
    → NoneLater text front → contents text ≡ last_lines text
none_found text front needle n e found none =
    let nowhere : FindsLastNeedle front TRAILER None = subst (λ t. FindsLastNeedle front t None) n found in
    sym (none_left (length text) (contents text) text (omega arith)
    (λ k is. by_test (ltb (length front) (k + 9))
    (λ out. none k (ltb-true (length front) (k + 9) out) is)
    (λ within.
    let fits : k + 9 ≤ length front = ltb-false (length front) (k + 9) within in
    nowhere k (omega arith) (omega (arith, fits)) (in_front text front k e fits is))))
