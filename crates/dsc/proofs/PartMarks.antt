-- What one pass notes is where the parts are.
use Rattle.std.specs.Prelude.{Result, Ok, Err, None, not, codes}
use Rattle.std.specs.List.{prefix_len, list_any}
use Rattle.std.specs.Str.{bytes_eq}
use Rattle.std.proofs.Common.{Bool, true, false, cond, ◌||◌, ◌&&◌, if◌then◌else◌, ◌≡◌, ℕ, suc, ◌+◌, List, [], ◌∷◌, length, take, drop, refl, ap, arith, length-append, sym, ◌∙◌}
use Rattle.std.proofs.lemmas.List.Sums.{take_while-cons}
use Rattle.std.proofs.lemmas.List.{length-map}
use Rattle.std.proofs.lemmas.Slice.Eq.{bytes_eq-Decides}
use Rattle.rules.specs.Units.{TextUnit, key, has_key, is_comment, FaultyBlock, cut}
use Rattle.rules.specs.Parts.{NestedUnit, nested_from, is_outermost_line, begins_page, begins_trailer, up_to, starting_at, preamble, page_run, split_pages, bytes_of, pages}
use Rattle.dsc.specs.Units.{or_none, units_of}
use Rattle.dsc.specs.Filters.{of_units}
use Rattle.dsc.specs.Marks.{page_starts, starts_of, pages_end, starts_from, end_from, Marks, marks_on, scan_on}
use Rattle.dsc.proofs.Cases.{by_test}

pub before-cons : (p : NestedUnit → Bool) (u : NestedUnit) (us : List NestedUnit) → up_to p (u ∷ us) ≡ cond (p u) [] (u ∷ up_to p us)
before-cons p u us = take_while-cons (λ v. not (p v)) u us ∙ flip (p u)
  where
    flip : (t : Bool) → cond (not t) (u ∷ up_to p us) [] ≡ cond t [] (u ∷ up_to p us)
    flip true = refl
    flip false = refl

pub from-cons : (p : NestedUnit → Bool) (u : NestedUnit) (us : List NestedUnit) → starting_at p (u ∷ us) ≡ cond (p u) (u ∷ us) (starting_at p us)
from-cons p u us = split (p u)
  where
    split : (t : Bool) → drop (cond (not t) (1 + prefix_len (λ v. not (p v)) us) 0) (u ∷ us) ≡ cond t (u ∷ us) (drop (prefix_len (λ v. not (p v)) us) us)
    split true = refl
    split false = ap (λ k. drop k (u ∷ us)) (let e : 1 + prefix_len (λ v. not (p v)) us ≡ suc (prefix_len (λ v. not (p v)) us) = omega arith in e)

and-second : (a b : Bool) → (a && b) ≡ true → b ≡ true
and-second true b e = e
and-second false b e = cc

and-first : (a b : Bool) → (a && b) ≡ true → a ≡ true
and-first true b e = refl
and-first false b e = e

or-none : (a : Bool) → (a || false) ≡ true → a ≡ true
or-none true e = refl
or-none false e = e

and-false : (a b : Bool) → b ≡ false → (a && b) ≡ false
and-false true b e = e
and-false false b e = refl

-- a page's line is outermost and has this key
pub page_key : (u : NestedUnit) → begins_page u ≡ true → (is_outermost_line u ≡ true) × (key u.unit.content ≡ codes "%%Page")
page_key u h =
    let comment : is_comment (codes "%%Page") u.unit.content ≡ true = and-second (is_outermost_line u) (is_comment (codes "%%Page") u.unit.content) h in
    let named : bytes_eq (key u.unit.content) (codes "%%Page") ≡ true = or-none _ (and-first (has_key (codes "%%Page" ∷ []) u.unit.content) _ comment) in
    (and-first (is_outermost_line u) (is_comment (codes "%%Page") u.unit.content) h, (bytes_eq-Decides (key u.unit.content) (codes "%%Page")).0 named)

-- it is no trailer's
pub exclusive : (u : NestedUnit) → begins_page u ≡ true → begins_trailer u ≡ false
exclusive u h =
    and-false (is_outermost_line u) (has_key (codes "%%Trailer" ∷ codes "%%EOF" ∷ []) u.unit.content)
    (ap (λ k. list_any (bytes_eq k) (codes "%%Trailer" ∷ codes "%%EOF" ∷ [])) (page_key u h).1)

starts-step : (pg : Bool) (at : ℕ) (a b : List ℕ) (c d : List ℕ) → a ≡ c → b ≡ d → (if pg then at ∷ a else b) ≡ (if pg then at ∷ c else d)
starts-step true at a b c d e f = ap (λ t. at ∷ t) e
starts-step false at a b c d e f = f

choose_starts : (t pg : Bool) (at next : ℕ) (u : NestedUnit) (us : List NestedUnit) → begins_page u ≡ pg → next ≡ at + length u.unit.bytes → starts_from true next us ≡ page_starts next (up_to begins_trailer us)
    → (if t then [] else (if pg then at ∷ starts_from true next us else starts_from true next us)) ≡ page_starts at (cond t [] (u ∷ up_to begins_trailer us))
choose_starts true pg at next u us e n i = refl
choose_starts false pg at next u us e n i = starts-step pg at _ _ _ _ i i ∙ ap (λ q. if q then at ∷ page_starts next (up_to begins_trailer us) else page_starts next (up_to begins_trailer us)) (sym e)
    ∙ ap (λ k. if begins_page u then at ∷ page_starts k (up_to begins_trailer us) else page_starts k (up_to begins_trailer us)) n

pub inside-starts : (at : ℕ) (us : List NestedUnit) → starts_from true at us ≡ page_starts at (up_to begins_trailer us)
inside-starts at [] = refl
inside-starts at (u ∷ us) =
    choose_starts (begins_trailer u) (begins_page u) at (at + length u.unit.bytes) u us refl refl (inside-starts (at + length u.unit.bytes) us) ∙ ap (page_starts at) (sym (before-cons begins_trailer u us))

choose_end : (t : Bool) (at : ℕ) (u : NestedUnit) (us : List NestedUnit) → end_from true (at + length u.unit.bytes) us ≡ at + length u.unit.bytes + length (bytes_of (up_to begins_trailer us))
    → (if t then at else end_from true (at + length u.unit.bytes) us) ≡ at + length (bytes_of (cond t [] (u ∷ up_to begins_trailer us)))
choose_end true at u us i = omega arith
choose_end false at u us i = i ∙ (let l = length-append u.unit.bytes (bytes_of (up_to begins_trailer us)) in omega (arith, l))

pub inside-end : (at : ℕ) (us : List NestedUnit) → end_from true at us ≡ at + length (bytes_of (up_to begins_trailer us))
inside-end at [] = omega arith
inside-end at (u ∷ us) = choose_end (begins_trailer u) at u us (inside-end (at + length u.unit.bytes) us) ∙ ap (λ vs. at + length (bytes_of vs)) (sym (before-cons begins_trailer u us))

-- up to the first page
abbrev pub head_len : List NestedUnit → ℕ
head_len us = length (bytes_of (up_to begins_page us))

abbrev pub body_from : List NestedUnit → List NestedUnit
body_from us = up_to begins_trailer (starting_at begins_page us)

pub head-more : (u : NestedUnit) (us : List NestedUnit) → begins_page u ≡ false → head_len (u ∷ us) ≡ length u.unit.bytes + head_len us
head-more u us e = ap (λ vs. length (bytes_of vs)) (before-cons begins_page u us ∙ ap (λ t. cond t [] (u ∷ up_to begins_page us)) e) ∙ length-append u.unit.bytes (bytes_of (up_to begins_page us))

pub body-more : (u : NestedUnit) (us : List NestedUnit) → begins_page u ≡ false → body_from (u ∷ us) ≡ body_from us
body-more u us e = ap (up_to begins_trailer) (from-cons begins_page u us ∙ ap (λ t. cond t (u ∷ us) (starting_at begins_page us)) e)

pub head-none : (u : NestedUnit) (us : List NestedUnit) → begins_page u ≡ true → head_len (u ∷ us) ≡ 0
head-none u us e = ap (λ vs. length (bytes_of vs)) (before-cons begins_page u us ∙ ap (λ t. cond t [] (u ∷ up_to begins_page us)) e)

pub body-all : (u : NestedUnit) (us : List NestedUnit) → begins_page u ≡ true → body_from (u ∷ us) ≡ u ∷ up_to begins_trailer us
body-all u us e = ap (up_to begins_trailer) (from-cons begins_page u us ∙ ap (λ t. cond t (u ∷ us) (starting_at begins_page us)) e) ∙ before-cons begins_trailer u us
    ∙ ap (λ t. cond t [] (u ∷ up_to begins_trailer us)) (exclusive u e)

pub outside-starts : (at : ℕ) (us : List NestedUnit) → starts_from false at us ≡ page_starts (at + head_len us) (body_from us)
outside-starts at [] = refl
outside-starts at (u ∷ us) = by_test (begins_page u)
    (λ is.
    let next : ℕ = at + length u.unit.bytes in
    ap (λ t. if t then at ∷ starts_from true next us else starts_from false next us) is
    ∙ ap (λ t. at ∷ t) (inside-starts next us)
    ∙ ap (λ t. if t then at ∷ page_starts next (up_to begins_trailer us) else page_starts next (up_to begins_trailer us)) (sym is)
    ∙ ap (λ k. page_starts k (u ∷ up_to begins_trailer us)) (let none = head-none u us is in let e : at ≡ at + head_len (u ∷ us) = omega (arith, none) in e)
    ∙ ap (page_starts (at + head_len (u ∷ us))) (sym (body-all u us is)))
    (λ isnt.
    let next : ℕ = at + length u.unit.bytes in
    ap (λ t. if t then at ∷ starts_from true next us else starts_from false next us) isnt
    ∙ outside-starts next us
    ∙ ap (λ k. page_starts k (body_from us)) (let more = head-more u us isnt in let e : next + head_len us ≡ at + head_len (u ∷ us) = omega (arith, more) in e)
    ∙ ap (page_starts (at + head_len (u ∷ us))) (sym (body-more u us isnt)))

pub outside-end : (at : ℕ) (us : List NestedUnit) → end_from false at us ≡ at + head_len us + length (bytes_of (body_from us))
outside-end at [] = omega arith
outside-end at (u ∷ us) = by_test (begins_page u)
    (λ is.
    let next : ℕ = at + length u.unit.bytes in
    let l = length-append u.unit.bytes (bytes_of (up_to begins_trailer us)) in
    let none = head-none u us is in
    let all : length (bytes_of (body_from (u ∷ us))) ≡ length u.unit.bytes + length (bytes_of (up_to begins_trailer us)) = ap (λ vs. length (bytes_of vs)) (body-all u us is) ∙ l in
    let i = inside-end next us in
    ap (λ t. end_from t next us) is ∙ (omega (arith, i, none, all)))
    (λ isnt.
    let next : ℕ = at + length u.unit.bytes in
    let i = outside-end next us in
    let more = head-more u us isnt in
    let same : length (bytes_of (body_from (u ∷ us))) ≡ length (bytes_of (body_from us)) = ap (λ vs. length (bytes_of vs)) (body-more u us isnt) in
    ap (λ t. end_from t next us) isnt ∙ (omega (arith, i, more, same)))

-- What a whole pass found.

scanned-as : (most : ℕ) (text : List ℕ) (m : Marks) (r : Result (List TextUnit) FaultyBlock) → of_units (λ ps. marks_on most [] None 0 (nested_from 0 ps)) r ≡ Ok m
    → (r ≡ Ok (or_none r)) × (m.starts ≡ take most (starts_of (nested_from 0 (or_none r)))) × (m.stop ≡ pages_end (nested_from 0 (or_none r)))
scanned-as most text m (Err e) h = cc
scanned-as most text m (Ok ps) h =
    let same : marks_on most [] None 0 (nested_from 0 ps) ≡ m = cc in
    let s = outside-starts 0 (nested_from 0 ps) in
    let e = outside-end 0 (nested_from 0 ps) in (
      refl,
      sym (ap (λ k. k.starts) same) ∙ ap (take most) (s ∙ ap (λ k. page_starts k (body_from (nested_from 0 ps))) (let z : 0 + head_len (nested_from 0 ps) ≡ head_len (nested_from 0 ps) = omega arith in z)),
      sym (ap (λ k. k.stop) same) ∙ (omega (arith, e)),
    )

pub scanned : (most : ℕ) (text : List ℕ) (m : Marks) → scan_on most [] None 0 0 text ≡ Ok m
    → (cut text ≡ Ok (or_none (cut text))) × (m.starts ≡ take most (starts_of (units_of text))) × (m.stop ≡ pages_end (units_of text))
scanned most text m h = scanned-as most text m (cut text) h

pub as-many : (at : ℕ) (us : List NestedUnit) → length (page_starts at us) ≡ length (split_pages us)
as-many at [] = refl
as-many at (u ∷ us) = by_test (begins_page u)
    (λ is. rw is (ap (λ n. suc n) (as-many (at + length u.unit.bytes) us)))
    (λ isnt. rw isnt (as-many (at + length u.unit.bytes) us))

pub page_count : (us : List NestedUnit) → length (pages us) ≡ length (starts_of us)
page_count us = length-map (split_pages (page_run us)) bytes_of ∙ sym (as-many (length (bytes_of (preamble us))) (page_run us))
