-- What the pass finds of the bodies of pages are the starts of the bodies.
use Rattle.std.specs.Prelude.{Result, Ok, Err, codes}
use Rattle.std.specs.List.{starts_with, list_any}
use Rattle.std.specs.Str.{bytes_eq}
use Rattle.std.proofs.Common.{append_assoc, nat_eq, Bool, true, false, cond, ◌||◌, ◌&&◌, ◌==◌, if◌then◌else◌, ◌≡◌, ℕ, zero, suc, ◌+◌, ◌-◌, ◌<◌, ◌≤◌, List, [], ◌∷◌, ◌++◌, length, drop, get_or, refl, ap, arith, length-append, sym, ◌∙◌, subst}
use Rattle.std.proofs.lemmas.Bool.{eqb-true, eq-eqb, ne_eqb, false≢true}
use Rattle.std.proofs.lemmas.List.{drop-drop}
use Rattle.std.proofs.Math.Seq.{drop-append_seam}
use Rattle.rules.specs.Units.{TextUnit, FaultyBlock, cut}
use Rattle.rules.specs.Parts.{NestedUnit, nested, nested_from, begins_page, begins_trailer, up_to, page_run, split_pages, bytes_of}
use Rattle.rules.specs.Filters.{kept_after, drops_in_page, continues}
use Rattle.dsc.specs.Filters.{is_dropped, of_units}
use Rattle.dsc.specs.Units.{or_none, units_of}
use Rattle.dsc.specs.Marks.{page_starts}
use Rattle.dsc.specs.BodyStarts.{IsBodyStart, AreBodyStarts, Sought, none_sought, body_start_after, starts_in, noted, ends_line, closed}
use Rattle.dsc.specs.declared.filters.Drops.TheVariants.{PageSetup}
use Rattle.dsc.proofs.Cases.{by_test}
use Rattle.dsc.proofs.Filtering.{kept_step}
use Rattle.dsc.proofs.PartMarks.{before-cons, head_len, body_from, head-more, body-more, head-none, body-all, page_key}
use Rattle.dsc.proofs.BodyMarks.{sought_with, sought_on, line_further}

-- where a body begins after these units, the first of which begins at the byte `at`
abbrev pub start_with : (start : ℕ) (was : Bool) (at : ℕ) → List NestedUnit → ℕ
start_with start was at [] = start
start_with start was at (u ∷ us) = let behind = at + length u.unit.bytes
    in start_with (body_start_after (is_dropped PageSetup was u) start at behind) (is_dropped PageSetup was u) behind us

not_at : (start at : ℕ) → start ≤ at → (start == at) ≡ false → 0 < at
not_at start zero h e = let z : start ≡ 0 = omega (arith, h) in absurd (false≢true (sym e ∙ eq-eqb start 0 z))
not_at start (suc at) h e = omega arith

same_byte : (at : ℕ) → (at == at) ≡ true
same_byte at = eq-eqb at at refl

none_at : (at : ℕ) → 0 < at → (0 == at) ≡ false
none_at at h = ne_eqb 0 at (λ e. omega (arith, e, h))

-- a body without a start stays so
stays_none : (dropped : Bool) (at behind : ℕ) → 0 < at → body_start_after dropped 0 at behind ≡ 0
stays_none false at behind h = refl
stays_none true at behind h = ap (λ t. if t then behind else 0) (none_at at h)

spoiled : (was : Bool) (at : ℕ) (us : List NestedUnit) → 0 < at → start_with 0 was at us ≡ 0
spoiled was at [] h = refl
spoiled was at (u ∷ us) h =
    let behind : ℕ = at + length u.unit.bytes in
    ap (λ k. start_with k (is_dropped PageSetup was u) behind us) (stays_none (is_dropped PageSetup was u) at behind h)
    ∙ spoiled (is_dropped PageSetup was u) behind us (omega (arith, h))

-- these bytes were kept, and come before the units
abbrev Goes : (front : List ℕ) (start : ℕ) (was : Bool) (at : ℕ) → List NestedUnit → ℕ → Type 0
Goes front start was at us n = 0 < n → (start ≤ n) × (n ≤ at + length (bytes_of us))
    × (front ++ bytes_of (kept_after was drops_in_page us) ≡ drop (n - start) (front ++ bytes_of us))

none_long : (xs : List ℕ) → length xs ≡ 0 → xs ≡ []
none_long [] h = refl
none_long (x ∷ xs) h = absurd (omega (arith, h))

further : (at : ℕ) (u : NestedUnit) (us : List NestedUnit) → at + length (bytes_of (u ∷ us)) ≡ at + length u.unit.bytes + length (bytes_of us)
further at u us = let l = length-append u.unit.bytes (bytes_of us) in omega (arith, l)

-- a unit that is kept
stays : (u : NestedUnit) (us : List NestedUnit) (front : List ℕ) (start : ℕ) (was : Bool) (at n : ℕ) → is_dropped PageSetup was u ≡ false
    → Goes (front ++ u.unit.bytes) start false (at + length u.unit.bytes) us n → Goes front start was at (u ∷ us) n
stays u us front start was at n isnt later = λ some.
    let w = later some in
    let long = further at u us in (
      w.0,
      omega (arith, w.1, long),
      sym (kept_step PageSetup was u us front false isnt) ∙ w.2 ∙ ap (drop (n - start)) (append_assoc front u.unit.bytes (bytes_of us)),
    )

-- a unit that is dropped before one was kept
put_off : (u : NestedUnit) (us : List NestedUnit) (front : List ℕ) (start : ℕ) (was : Bool) (at n : ℕ) → start + length front ≡ at → is_dropped PageSetup was u ≡ true → start ≡ at
    → Goes [] (at + length u.unit.bytes) true (at + length u.unit.bytes) us n → Goes front start was at (u ∷ us) n
put_off u us front start was at n h is here later = λ some.
    let b : ℕ = at + length u.unit.bytes in
    let w = later some in
    let bare : front ≡ [] = none_long front (omega (arith, h, here)) in
    let rest : n - start ≡ length u.unit.bytes + (n - b) = omega (arith, here, w.0) in
    let long = further at u us in (
      omega (arith, here, w.0),
      omega (arith, w.1, long),
      ap (λ t. t ++ bytes_of (kept_after was drops_in_page (u ∷ us))) bare ∙ sym (kept_step PageSetup was u us [] true is) ∙ w.2
          ∙ ap (drop (n - b)) (sym (drop-append_seam u.unit.bytes (bytes_of us))) ∙ drop-drop (n - b) (length u.unit.bytes) (u.unit.bytes ++ bytes_of us)
          ∙ ap (λ k. drop k (u.unit.bytes ++ bytes_of us)) (sym rest) ∙ ap (λ t. drop (n - start) (t ++ bytes_of (u ∷ us))) (sym bare),
    )

-- with the tests in variables
turn : (u : NestedUnit) (us : List NestedUnit) (front : List ℕ) (start : ℕ) (was : Bool) (at : ℕ) (dropped here : Bool) → start + length front ≡ at
    → is_dropped PageSetup was u ≡ dropped → (start == at) ≡ here
    → Goes (front ++ u.unit.bytes) start false (at + length u.unit.bytes) us (start_with start false (at + length u.unit.bytes) us)
    → Goes [] (at + length u.unit.bytes) true (at + length u.unit.bytes) us (start_with (at + length u.unit.bytes) true (at + length u.unit.bytes) us)
    → Goes front start was at (u ∷ us) (start_with (if dropped then (if here then at + length u.unit.bytes else 0) else start) dropped (at + length u.unit.bytes) us)
turn u us front start was at false here h d e kept_later later = stays u us front start was at _ d kept_later
turn u us front start was at true true h d e kept_later later = put_off u us front start was at _ h d (eqb-true start at e) later
turn u us front start was at true false h d e kept_later later = λ some.
    let pos : 0 < at = not_at start at (omega (arith, h)) e in
    let none : start_with 0 true (at + length u.unit.bytes) us ≡ 0 = spoiled true (at + length u.unit.bytes) us (omega (arith, pos)) in
    absurd (omega (arith, none, some))

goes : (us : List NestedUnit) (front : List ℕ) (start : ℕ) (was : Bool) (at : ℕ) → start + length front ≡ at → Goes front start was at us (start_with start was at us)
goes [] front start was at h = λ _.
    let none : 0 ≡ start - start = omega arith in (
      omega arith,
      omega (arith, h),
      ap (λ k. drop k (front ++ [])) none,
    )
goes (u ∷ us) front start was at h =
    let l = length-append front u.unit.bytes in
    turn u us front start was at (is_dropped PageSetup was u) (start == at) h refl refl
    (goes us (front ++ u.unit.bytes) start false (at + length u.unit.bytes) (omega (arith, l, h)))
    (goes us [] (at + length u.unit.bytes) true (at + length u.unit.bytes) (omega arith))

-- for each page in a row of units
abbrev pub body_starts : ℕ → List NestedUnit → List ℕ
body_starts at [] = []
body_starts at (u ∷ us) = let behind = at + length u.unit.bytes
    in if begins_page u
    then closed (ends_line false (bytes_of (u ∷ up_to begins_page us))) (start_with at false at (u ∷ up_to begins_page us)) ∷ body_starts behind us
    else body_starts behind us

pub one_each : (at : ℕ) (us : List NestedUnit) → length (body_starts at us) ≡ length (split_pages us)
one_each at [] = refl
one_each at (u ∷ us) = by_test (begins_page u)
    (λ is. rw is (ap (λ n. suc n) (one_each (at + length u.unit.bytes) us)))
    (λ isnt. rw isnt (one_each (at + length u.unit.bytes) us))

-- the p-th of them
abbrev IsRight : (p at : ℕ) → List NestedUnit → Type 0
IsRight p at us = p < length (split_pages us) → IsBodyStart (get_or (page_starts at us) p 0) (get_or (body_starts at us) p 0) (get_or (split_pages us) p [])

-- a page that ends with a line end
closed_right : (at n : ℕ) (us : List NestedUnit) (line : Bool) → ends_line false (bytes_of us) ≡ line → Goes [] at false at us n → IsBodyStart at (closed line n) us
closed_right at n us true e g = λ some. let w = g some in (w.0, w.1, w.2, e)
closed_right at n us false e g = λ some. absurd (omega (arith, some))

first_right : (p at : ℕ) (u : NestedUnit) (us : List NestedUnit) (page : Bool) → begins_page u ≡ page → ((q : ℕ) → IsRight q (at + length u.unit.bytes) us) → IsRight p at (u ∷ us)
first_right zero at u us true e later = rw e (λ _. closed_right at _ (u ∷ up_to begins_page us) _ refl (goes (u ∷ up_to begins_page us) [] at false at (omega arith)))
first_right (suc q) at u us true e later = rw e (λ h. later q (omega (arith, h)))
first_right p at u us false e later = rw e (later p)

pub each_right : (us : List NestedUnit) (p at : ℕ) → IsRight p at us
each_right [] p at = λ h. absurd (omega (arith, h))
each_right (u ∷ us) p at = first_right p at u us (begins_page u) refl (λ q. each_right us q (at + length u.unit.bytes))

-- a page's line is dropped
pub page_dropped : (was : Bool) (u : NestedUnit) → begins_page u ≡ true → is_dropped PageSetup was u ≡ true
page_dropped was u h =
    let w = page_key u h in
    ap (λ t. (t && drops_in_page u.unit.content) || (was && continues u)) w.0
    ∙ ap (λ k. (starts_with nat_eq k (codes "%%Page") || list_any (bytes_eq k) (codes "%%BeginPageSetup" ∷ codes "%%EndPageSetup" ∷ [])) || (was && continues u)) w.1

first_body : (at : ℕ) (u : NestedUnit) (us : List NestedUnit) → begins_page u ≡ true
    → body_starts at (u ∷ us)
    ≡ closed (ends_line (ends_line false u.unit.bytes) (bytes_of (up_to begins_page us))) (start_with (at + length u.unit.bytes) true (at + length u.unit.bytes) (up_to begins_page us))
    ∷ body_starts (at + length u.unit.bytes) us
first_body at u us h =
    let b : ℕ = at + length u.unit.bytes in
    let line : Bool = ends_line false (bytes_of (u ∷ up_to begins_page us)) in
    ap (λ t. if t then closed line (start_with at false at (u ∷ up_to begins_page us)) ∷ body_starts b us else body_starts b us) h
    ∙ ap (λ d. closed line (start_with (body_start_after d at at b) d b (up_to begins_page us)) ∷ body_starts b us) (page_dropped false u h)
    ∙ ap (λ t. closed line (start_with (if t then b else 0) true b (up_to begins_page us)) ∷ body_starts b us) (same_byte at)
    ∙ ap (λ l. closed l (start_with b true b (up_to begins_page us)) ∷ body_starts b us) (sym (line_further false u.unit.bytes (bytes_of (up_to begins_page us))))

-- What the pass notes, from a state on.

abbrev in_page : List ℕ → ℕ → Bool → Bool → Sought
in_page found current line was = record { found = found; current = current; was = was; in_pages = true; ended = false; line = line }

over : (found : List ℕ) (current : ℕ) (line was : Bool) (at : ℕ) (us : List NestedUnit)
    → starts_in (sought_with (record { found = found; current = current; was = was; in_pages = true; ended = true; line = line }) at us) ≡ found ++ closed line current ∷ []
over found current line was at [] = refl
over found current line was at (u ∷ us) = over found current line (is_dropped PageSetup was u) (at + length u.unit.bytes) us

-- where the body of a page begins that continues with these units
abbrev rest_with : (current : ℕ) (line was : Bool) (at : ℕ) → List NestedUnit → ℕ
rest_with current line was at us = closed (ends_line line (bytes_of us)) (start_with current was at us)

-- what is noted from a unit on, after this was noted
abbrev Inside : List ℕ → ℕ → (line was : Bool) → ℕ → List NestedUnit → Type 0
Inside found current line was at us = starts_in (sought_with (in_page found current line was) at us)
    ≡ found ++ rest_with current line was at (up_to begins_page (up_to begins_trailer us)) ∷ body_starts at (up_to begins_trailer us)

trailer_next : (u : NestedUnit) (us : List NestedUnit) (found : List ℕ) (current : ℕ) (line was : Bool) (at : ℕ) → begins_trailer u ≡ true → Inside found current line was at (u ∷ us)
trailer_next u us found current line was at is =
    let b : ℕ = at + length u.unit.bytes in
    let d : Bool = is_dropped PageSetup was u in
    ap (λ t. starts_in (sought_with (noted (in_page found current line was) at b (begins_page u) t d u.unit.bytes) b us)) is
    ∙ over found current line d b us
    ∙ ap (λ vs. found ++ rest_with current line was at (up_to begins_page vs) ∷ body_starts at vs) (sym (before-cons begins_trailer u us ∙ ap (λ t. cond t [] (u ∷ up_to begins_trailer us)) is))

page_next : (u : NestedUnit) (us : List NestedUnit) (found : List ℕ) (current : ℕ) (line was : Bool) (at : ℕ) → begins_trailer u ≡ false → begins_page u ≡ true
    → Inside (found ++ closed line current ∷ []) (at + length u.unit.bytes) (ends_line false u.unit.bytes) true (at + length u.unit.bytes) us → Inside found current line was at (u ∷ us)
page_next u us found current line was at isnt page later =
    let b : ℕ = at + length u.unit.bytes in
    let d : Bool = is_dropped PageSetup was u in
    let new : Bool = ends_line false u.unit.bytes in
    let run : List NestedUnit = up_to begins_trailer us in
    ap (λ t. starts_in (sought_with (noted (in_page found current line was) at b (begins_page u) t d u.unit.bytes) b us)) isnt
    ∙ ap (λ t. starts_in (sought_with (noted (in_page found current line was) at b t false d u.unit.bytes) b us)) page
    ∙ ap (λ t. starts_in (sought_with (in_page (found ++ closed line current ∷ []) b new t) b us)) (page_dropped was u page)
    ∙ later
    ∙ append_assoc found (closed line current ∷ []) (rest_with b new true b (up_to begins_page run) ∷ body_starts b run)
    ∙ ap (λ t. found ++ closed line current ∷ t) (sym (first_body at u run page))
    ∙ ap (λ vs. found ++ rest_with current line was at vs ∷ body_starts at (u ∷ run)) (sym (before-cons begins_page u run ∙ ap (λ t. cond t [] (u ∷ up_to begins_page run)) page))
    ∙ ap (λ vs. found ++ rest_with current line was at (up_to begins_page vs) ∷ body_starts at vs) (sym (before-cons begins_trailer u us ∙ ap (λ t. cond t [] (u ∷ run)) isnt))

other_next : (u : NestedUnit) (us : List NestedUnit) (found : List ℕ) (current : ℕ) (line was : Bool) (at : ℕ) → begins_trailer u ≡ false → begins_page u ≡ false
    → Inside found (body_start_after (is_dropped PageSetup was u) current at (at + length u.unit.bytes)) (ends_line line u.unit.bytes) (is_dropped PageSetup was u) (at + length u.unit.bytes) us
    → Inside found current line was at (u ∷ us)
other_next u us found current line was at isnt other later =
    let b : ℕ = at + length u.unit.bytes in
    let d : Bool = is_dropped PageSetup was u in
    let run : List NestedUnit = up_to begins_trailer us in
    let page : List NestedUnit = up_to begins_page run in
    ap (λ t. starts_in (sought_with (noted (in_page found current line was) at b (begins_page u) t d u.unit.bytes) b us)) isnt
    ∙ ap (λ t. starts_in (sought_with (noted (in_page found current line was) at b t false d u.unit.bytes) b us)) other
    ∙ later
    ∙ ap (λ l. found ++ closed l (start_with (body_start_after d current at b) d b page) ∷ body_starts b run) (line_further line u.unit.bytes (bytes_of page))
    ∙ ap (λ t. found ++ rest_with current line was at (u ∷ page) ∷ (if t then closed (ends_line false (bytes_of (u ∷ page))) (start_with at false at (u ∷ page)) ∷ body_starts b run else body_starts b run)) (sym other)
    ∙ ap (λ vs. found ++ rest_with current line was at vs ∷ body_starts at (u ∷ run)) (sym (before-cons begins_page u run ∙ ap (λ t. cond t [] (u ∷ up_to begins_page run)) other))
    ∙ ap (λ vs. found ++ rest_with current line was at (up_to begins_page vs) ∷ body_starts at vs) (sym (before-cons begins_trailer u us ∙ ap (λ t. cond t [] (u ∷ run)) isnt))

inside : (us : List NestedUnit) (found : List ℕ) (current : ℕ) (line was : Bool) (at : ℕ) → Inside found current line was at us
inside [] found current line was at = refl
inside (u ∷ us) found current line was at =
    let b : ℕ = at + length u.unit.bytes in
    let d : Bool = is_dropped PageSetup was u in
    by_test (begins_trailer u)
    (λ is. trailer_next u us found current line was at is)
    (λ isnt. by_test (begins_page u)
    (λ page. page_next u us found current line was at isnt page (inside us (found ++ closed line current ∷ []) b (ends_line false u.unit.bytes) true b))
    (λ other. other_next u us found current line was at isnt other (inside us found (body_start_after d current at b) (ends_line line u.unit.bytes) d b)))

abbrev before : ℕ → (line was : Bool) → Sought
before current line was = record { found = []; current = current; was = was; in_pages = false; ended = false; line = line }

outside : (us : List NestedUnit) (current : ℕ) (line was : Bool) (at : ℕ) → starts_in (sought_with (before current line was) at us) ≡ body_starts (at + head_len us) (body_from us)
outside [] current line was at = refl
outside (u ∷ us) current line was at =
    let b : ℕ = at + length u.unit.bytes in
    let d : Bool = is_dropped PageSetup was u in
    by_test (begins_page u)
    (λ is.
    let none = head-none u us is in
    let same : at ≡ at + head_len (u ∷ us) = omega (arith, none) in
    ap (λ t. starts_in (sought_with (noted (before current line was) at b t (begins_trailer u) d u.unit.bytes) b us)) is
    ∙ ap (λ t. starts_in (sought_with (in_page [] b (ends_line false u.unit.bytes) t) b us)) (page_dropped was u is)
    ∙ inside us [] b (ends_line false u.unit.bytes) true b
    ∙ sym (first_body at u (up_to begins_trailer us) is)
    ∙ ap (λ k. body_starts k (u ∷ up_to begins_trailer us)) same
    ∙ ap (body_starts (at + head_len (u ∷ us))) (sym (body-all u us is)))
    (λ isnt.
    let more = head-more u us isnt in
    let same : b + head_len us ≡ at + head_len (u ∷ us) = omega (arith, more) in
    ap (λ t. starts_in (sought_with (noted (before current line was) at b t (begins_trailer u) d u.unit.bytes) b us)) isnt
    ∙ outside us (body_start_after d current at b) (ends_line line u.unit.bytes) d b
    ∙ ap (λ k. body_starts k (body_from us)) same
    ∙ ap (body_starts (at + head_len (u ∷ us))) (sym (body-more u us isnt)))

-- a whole pass
sought-as : (r : Result (List TextUnit) FaultyBlock) (s : Sought) → of_units (λ ps. sought_with none_sought 0 (nested_from 0 ps)) r ≡ Ok s
    → sought_with none_sought 0 (nested (or_none r)) ≡ s
sought-as (Err e) s h = cc
sought-as (Ok ps) s h = cc

are_starts : (us : List NestedUnit) → AreBodyStarts us (starts_in (sought_with none_sought 0 us))
are_starts us =
    let h : 0 + head_len us ≡ head_len us = omega arith in
    let same : starts_in (sought_with none_sought 0 us) ≡ body_starts (head_len us) (page_run us) = outside us 0 false false 0 ∙ ap (λ k. body_starts k (body_from us)) h in
    subst (AreBodyStarts us) (sym same) (record {
      count = one_each (head_len us) (page_run us);
      each = λ p below. let n = one_each (head_len us) (page_run us) in each_right (page_run us) p (head_len us) (omega (arith, below, n));
    })

bodies_found : (text : List ℕ) (s : Sought) → sought_on none_sought 0 0 text ≡ Ok s → AreBodyStarts (units_of text) (starts_in s)
bodies_found text s h = subst (λ t. AreBodyStarts (units_of text) (starts_in t)) (sought-as (cut text) s h) (are_starts (units_of text))

-- at the end of a pass
pub all_found : (text rest items : List ℕ) (s : Sought) (depth at : ℕ) → length rest ≡ 0 → sought_on s depth at rest ≡ sought_on none_sought 0 0 text → items ≡ starts_in s
    → AreBodyStarts (units_of text) items
all_found text [] items s depth at h e i = subst (AreBodyStarts (units_of text)) (sym i) (bodies_found text s (sym e))
all_found text (b ∷ bs) items s depth at h e i = absurd (omega (arith, h))
