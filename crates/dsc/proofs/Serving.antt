-- The parts of one document serve for another text.
use Rattle.std.specs.Prelude.{Ok, map}
use Rattle.std.proofs.Common.{Bool, true, false, if◌then◌else◌, ◌==◌, ◌≡◌, ℕ, zero, suc, ◌+◌, ◌-◌, ◌<◌, ◌≤◌, List, [], ◌∷◌, ◌++◌, length, take, drop, get_or, refl, ap, arith, length-append, length-take, sym, ◌∙◌, subst}
use Rattle.std.proofs.lemmas.List.{get_or-map, length-map}
use Rattle.rules.specs.Units.{cut}
use Rattle.rules.specs.Parts.{NestedUnit, begins_page, begins_trailer, up_to, starting_at, preamble, page_run, trailer, split_pages, bytes_of, pages}
use Rattle.rules.specs.Run.{document_of}
use Rattle.dsc.specs.Units.{or_none, units_of}
use Rattle.dsc.specs.Marks.{page_starts, starts_of}
use Rattle.dsc.specs.BodyStarts.{IsBodyStart}
use Rattle.dsc.specs.Documents.{HasItsParts}
use Rattle.dsc.specs.Later.{later, later_found}
use Rattle.dsc.proofs.PartMarks.{page_count}
use Rattle.dsc.proofs.Cases.{by_test}
use Rattle.dsc.proofs.Reading.{accepted_cut, some_of}
use Rattle.dsc.proofs.Slices.{parts_whole, text_whole, page_found}

starts_later : (by at : ℕ) (us : List NestedUnit) → page_starts (at + by) us ≡ map (later by) (page_starts at us)
starts_later by at [] = refl
starts_later by at (u ∷ us) =
    let n : ℕ = length u.unit.bytes in
    let more : page_starts (at + by + n) us ≡ map (later by) (page_starts (at + n) us) =
    ap (λ k. page_starts k us) (let e : at + by + n ≡ at + n + by = omega arith in e) ∙ starts_later by (at + n) us in
    split (begins_page u) (page_starts (at + by + n) us) (page_starts (at + n) us) more
  where
    split : (b : Bool) (xs ys : List ℕ) → xs ≡ map (later by) ys → (if b then (at + by) ∷ xs else xs) ≡ map (later by) (if b then at ∷ ys else ys)
    split true xs ys e = ap (λ t. (at + by) ∷ t) e
    split false xs ys e = e

-- how long the parts of a text are
sizes : (text : List ℕ) → cut text ≡ Ok (or_none (cut text))
    → length text ≡ length (bytes_of (preamble (units_of text))) + (length (bytes_of (page_run (units_of text))) + length (bytes_of (trailer (units_of text))))
sizes text c =
    let us : List NestedUnit = units_of text in
    let l = length-append (bytes_of (preamble us)) (bytes_of (page_run us) ++ bytes_of (trailer us)) in
    let m = length-append (bytes_of (page_run us)) (bytes_of (trailer us)) in
    let whole = ap length (text_whole text c ∙ parts_whole us) in
    omega (arith, whole, l, m)

body_later : (by at n : ℕ) (us : List NestedUnit) → IsBodyStart at n us → IsBodyStart (at + by) (later_found by n) us
body_later by at n us b = by_test (n == 0)
    (λ is. let none : later_found by n ≡ 0 = ap (λ t. if t then 0 else n + by) is in λ some. absurd (omega (arith, none, some)))
    (λ isnt.
    let moved : later_found by n ≡ n + by = ap (λ t. if t then 0 else n + by) isnt in
    λ some.
    let w = b (some_of n isnt) in
    let same : later_found by n - (at + by) ≡ n - at = omega (arith, moved) in
    (omega (arith, w.0, moved), omega (arith, w.1, moved), w.2 ∙ ap (λ k. drop k (bytes_of us)) (sym same), w.3))

-- what always holds of a document holds of the text for which its parts serve
pub served : (old text starts bodies : List ℕ) (stop by : ℕ) → HasItsParts old starts bodies stop → length text ≡ length old + by → document_of text ≡ Ok (units_of text)
    → starting_at begins_page (units_of text) ≡ starting_at begins_page (units_of old) → HasItsParts text (map (later by) starts) (map (later_found by) bodies) (stop + by)
served old text starts bodies stop by h longer accepted same =
    let us : List NestedUnit = units_of old in
    let vs : List NestedUnit = units_of text in
    let is_cut : cut text ≡ Ok (or_none (cut text)) = (accepted_cut text vs accepted).0 in
    let run : page_run vs ≡ page_run us = ap (up_to begins_trailer) same in
    let behind : trailer vs ≡ trailer us = ap (starting_at begins_trailer) same in
    let was = sizes old h.is_cut in
    let is = sizes text is_cut in
    let run_len = ap (λ ws. length (bytes_of ws)) run in
    let behind_len = ap (λ ws. length (bytes_of ws)) behind in
    let head : length (bytes_of (preamble vs)) ≡ length (bytes_of (preamble us)) + by = omega (arith, was, is, run_len, behind_len, longer) in
    let at : starts_of vs ≡ map (later by) (starts_of us) = ap (λ k. page_starts k (page_run vs)) head ∙ ap (page_starts (length (bytes_of (preamble us)) + by)) run ∙ starts_later by (length (bytes_of (preamble us))) (page_run us) in
    let size = length-map starts (later by) in
    let bodies_size = length-map bodies (later_found by) in
    let stop_is = h.stop_is in
    record {
      accepted = accepted;
      is_cut = is_cut;
      starts_are = ap (map (later by)) h.starts_are ∙ sym at;
      some = (let some = h.some in omega (arith, some, size));
      few = (let few = h.few in omega (arith, few, size));
      stop_is = omega (arith, stop_is, head, run_len);
      bodies_are = record {
        count = bodies_size ∙ h.bodies_are.count ∙ ap (λ ws. length (split_pages ws)) (sym run);
        each = λ p below.
            let here : p < length bodies = omega (arith, below, bodies_size) in
            let count = h.bodies_are.count in
            let many = page_count us in
            let mapped = length-map (split_pages (page_run us)) bytes_of in
            let begun : p < length (starts_of us) = omega (arith, here, count, many, mapped) in
            let first : get_or (starts_of vs) p 0 ≡ get_or (starts_of us) p 0 + by = ap (λ xs. get_or xs p 0) at ∙ get_or-map (later by) (starts_of us) p 0 0 begun in
            let start : get_or (map (later_found by) bodies) p 0 ≡ later_found by (get_or bodies p 0) = get_or-map (later_found by) bodies p 0 0 here in
            let was = body_later by (get_or (starts_of us) p 0) (get_or bodies p 0) (get_or (split_pages (page_run us)) p []) (h.bodies_are.each p here) in
            subst (λ ws. IsBodyStart (get_or (starts_of vs) p 0) (get_or (map (later_found by) bodies) p 0) (get_or (split_pages ws) p [])) (sym run)
            (subst (λ k. IsBodyStart k (get_or (map (later_found by) bodies) p 0) (get_or (split_pages (page_run us)) p [])) (sym first)
            (subst (λ k. IsBodyStart (get_or (starts_of us) p 0 + by) k (get_or (split_pages (page_run us)) p [])) (sym start) was));
      };
    }

-- a page begins within the text
pub starts_within : (text starts bodies : List ℕ) (stop p : ℕ) → HasItsParts text starts bodies stop → p < length starts → get_or starts p 0 ≤ length text
starts_within text starts bodies stop p h below =
    let many = page_count (units_of text) in
    let size = ap length h.starts_are in
    let found = page_found text starts stop p h.is_cut h.starts_are h.stop_is (omega (arith, below, many, size)) in
    let begins = found.1 in
    let ends = found.2 in
    omega (arith, begins, ends)

-- and so does its body
pub bodies_within : (text starts bodies : List ℕ) (stop p : ℕ) → HasItsParts text starts bodies stop → p < length bodies → get_or bodies p 0 ≤ length text
bodies_within text starts bodies stop p h below =
    let parts : List (List NestedUnit) = split_pages (page_run (units_of text)) in
    let count = h.bodies_are.count in
    let mapped = length-map parts bytes_of in
    let found = page_found text starts stop p h.is_cut h.starts_are h.stop_is (omega (arith, below, count, mapped)) in
    let first : get_or (starts_of (units_of text)) p 0 ≡ get_or starts p 0 = ap (λ xs. get_or xs p 0) (sym h.starts_are) in
    let page : get_or (pages (units_of text)) p [] ≡ bytes_of (get_or parts p []) = get_or-map bytes_of parts p [] [] (omega (arith, below, count)) in
    let size : length (bytes_of (get_or parts p [])) ≡ length (take (get_or starts (p + 1) stop - get_or starts p 0) (drop (get_or starts p 0) text)) = ap length (sym (found.3 ∙ page)) in
    let taken = length-take (get_or starts (p + 1) stop - get_or starts p 0) (drop (get_or starts p 0) text) in
    let begins = found.1 in
    let ends = found.2 in
    by_body (get_or bodies p 0) (λ some. let w = (h.bodies_are.each p below some).1 in omega (arith, w, first, size, taken, begins, ends))
  where
    by_body : (n : ℕ) → (0 < n → n ≤ length text) → n ≤ length text
    by_body zero f = omega arith
    by_body (suc n) f = f (omega arith)

-- the pages end within it
pub stop_within : (text starts bodies : List ℕ) (stop : ℕ) → HasItsParts text starts bodies stop → stop ≤ length text
stop_within text starts bodies stop h =
    let whole = sizes text h.is_cut in
    let is = h.stop_is in
    omega (arith, whole, is)
