-- A page is a slice of the text.
use Rattle.std.specs.Prelude.{Ok, not, map}
use Rattle.std.specs.List.{prefix_len}
use Rattle.std.proofs.Common.{append_assoc, Bool, true, false, cond, ◌≡◌, ℕ, zero, suc, ◌+◌, ◌-◌, ◌<◌, ◌≤◌, List, [], ◌∷◌, ◌++◌, length, take, drop, get_or, refl, ap, arith, length-append, if◌then◌else◌, sym, ◌∙◌, subst}
use Rattle.std.proofs.lemmas.List.{drop-drop, take-append-drop}
use Rattle.std.proofs.lemmas.Grind.{flat_map-append}
use Rattle.std.proofs.Math.Seq.{take-append_seam, drop-append_seam}
use Rattle.rules.specs.Units.{cut}
use Rattle.rules.specs.Parts.{NestedUnit, begins_page, begins_trailer, up_to, starting_at, preamble, page_run, trailer, split_pages, bytes_of, pages}
use Rattle.dsc.specs.Units.{or_none, units_of}
use Rattle.dsc.specs.Marks.{page_starts, starts_of, pages_end}
use Rattle.dsc.proofs.Cases.{by_test}
use Rattle.rules.proofs.Whole.{units_make_text}
use Rattle.dsc.specs.Documents.{HasItsParts}
use Rattle.dsc.proofs.Alone.{nested-bytes}
use Rattle.dsc.proofs.PartMarks.{before-cons, from-cons, page_count}

-- where the next page begins, or everything ends
first_start : (at : ℕ) (us : List NestedUnit) → get_or (page_starts at us) 0 (at + length (bytes_of us)) ≡ at + length (bytes_of (up_to begins_page us))
first_start at [] = refl
first_start at (u ∷ us) = by_test (begins_page u)
    (λ is.
    let none : bytes_of (up_to begins_page (u ∷ us)) ≡ [] = ap bytes_of (before-cons begins_page u us ∙ ap (λ t. cond t [] (u ∷ up_to begins_page us)) is) in
    ap (λ t. get_or (if t then at ∷ page_starts (at + length u.unit.bytes) us else page_starts (at + length u.unit.bytes) us) 0 (at + length (bytes_of (u ∷ us)))) is
    ∙ (let e : at ≡ at + length (bytes_of (up_to begins_page (u ∷ us))) = (let z : length (bytes_of (up_to begins_page (u ∷ us))) ≡ 0 = ap length none in omega (arith, z)) in e))
    (λ isnt.
    let next : ℕ = at + length u.unit.bytes in
    let some : bytes_of (up_to begins_page (u ∷ us)) ≡ u.unit.bytes ++ bytes_of (up_to begins_page us) = ap bytes_of (before-cons begins_page u us ∙ ap (λ t. cond t [] (u ∷ up_to begins_page us)) isnt) in
    let l = length-append u.unit.bytes (bytes_of us) in
    let m = length-append u.unit.bytes (bytes_of (up_to begins_page us)) in
    let i = first_start next us in
    ap (λ t. get_or (if t then at ∷ page_starts next us else page_starts next us) 0 (at + length (bytes_of (u ∷ us)))) isnt
    ∙ ap (get_or (page_starts next us) 0) (let e : at + length (bytes_of (u ∷ us)) ≡ next + length (bytes_of us) = omega (arith, l) in e)
    ∙ i ∙ (let z : length (bytes_of (up_to begins_page (u ∷ us))) ≡ length (u.unit.bytes ++ bytes_of (up_to begins_page us)) = ap length some in
    let e : next + length (bytes_of (up_to begins_page us)) ≡ at + length (bytes_of (up_to begins_page (u ∷ us))) = omega (arith, z, m) in e))

-- the p-th slice, from where it begins to where the next one does, or everything ends
abbrev pub slice_at : List ℕ → List ℕ → ℕ → ℕ → List ℕ
slice_at text starts stop p = take (get_or starts (suc p) stop - get_or starts p 0) (drop (get_or starts p 0) text)

behind_unit : (text : List ℕ) (at : ℕ) (u : NestedUnit) (us : List NestedUnit) (post : List ℕ) → drop at text ≡ bytes_of (u ∷ us) ++ post → drop (at + length u.unit.bytes) text ≡ bytes_of us ++ post
behind_unit text at u us post e =
    sym (drop-drop (length u.unit.bytes) at text) ∙ ap (drop (length u.unit.bytes)) (e ∙ append_assoc u.unit.bytes (bytes_of us) post) ∙ drop-append_seam u.unit.bytes (bytes_of us ++ post)

first_page : (text : List ℕ) (at stop : ℕ) (u : NestedUnit) (us : List NestedUnit) (post : List ℕ) → drop at text ≡ bytes_of (u ∷ us) ++ post → stop ≡ at + length u.unit.bytes + length (bytes_of us)
    → take (get_or (page_starts (at + length u.unit.bytes) us) 0 stop - at) (drop at text) ≡ bytes_of (u ∷ up_to begins_page us)
first_page text at stop u us post e s =
    let n : ℕ = prefix_len (λ v. not (begins_page v)) us in
    let next : ℕ = at + length u.unit.bytes in
    let halves : bytes_of us ≡ bytes_of (up_to begins_page us) ++ bytes_of (starting_at begins_page us) = ap bytes_of (sym (take-append-drop n us)) ∙ flat_map-append (λ v. v.unit.bytes) (take n us) (drop n us) in
    let whole : drop at text ≡ bytes_of (u ∷ up_to begins_page us) ++ (bytes_of (starting_at begins_page us) ++ post) =
    e ∙ ap (λ t. (u.unit.bytes ++ t) ++ post) halves ∙ ap (λ t. t ++ post) (sym (append_assoc u.unit.bytes (bytes_of (up_to begins_page us)) (bytes_of (starting_at begins_page us))))
    ∙ append_assoc (u.unit.bytes ++ bytes_of (up_to begins_page us)) (bytes_of (starting_at begins_page us)) post in
    let l = length-append u.unit.bytes (bytes_of (up_to begins_page us)) in
    let ends : get_or (page_starts next us) 0 stop ≡ next + length (bytes_of (up_to begins_page us)) = ap (get_or (page_starts next us) 0) s ∙ first_start next us in
    let size : get_or (page_starts next us) 0 stop - at ≡ length (bytes_of (u ∷ up_to begins_page us)) = omega (arith, ends, l) in
    ap (λ k. take k (drop at text)) size ∙ ap (take (length (bytes_of (u ∷ up_to begins_page us)))) whole ∙ take-append_seam (bytes_of (u ∷ up_to begins_page us)) (bytes_of (starting_at begins_page us) ++ post)

-- the p-th page is the p-th slice
pub page_slice : (text : List ℕ) (at stop : ℕ) (us : List NestedUnit) (post : List ℕ) (p : ℕ) → drop at text ≡ bytes_of us ++ post → stop ≡ at + length (bytes_of us) → p < length (page_starts at us)
    → slice_at text (page_starts at us) stop p ≡ bytes_of (get_or (split_pages us) p [])
page_slice text at stop [] post p e s h = absurd (omega (arith, h))
page_slice text at stop (u ∷ us) post zero e s h =
    let l = length-append u.unit.bytes (bytes_of us) in
    by_test (begins_page u)
    (λ is.
    ap (λ t. slice_at text (if t then at ∷ page_starts (at + length u.unit.bytes) us else page_starts (at + length u.unit.bytes) us) stop zero) is
    ∙ first_page text at stop u us post e (omega (arith, s, l))
    ∙ ap (λ t. bytes_of (get_or (if t then (u ∷ up_to begins_page us) ∷ split_pages us else split_pages us) zero [])) (sym is))
    (λ isnt.
    let same : length (page_starts at (u ∷ us)) ≡ length (page_starts (at + length u.unit.bytes) us) = ap (λ t. length (if t then at ∷ page_starts (at + length u.unit.bytes) us else page_starts (at + length u.unit.bytes) us)) isnt in
    ap (λ t. slice_at text (if t then at ∷ page_starts (at + length u.unit.bytes) us else page_starts (at + length u.unit.bytes) us) stop zero) isnt
    ∙ page_slice text (at + length u.unit.bytes) stop us post zero (behind_unit text at u us post e) (omega (arith, s, l)) (omega (arith, h, same))
    ∙ ap (λ t. bytes_of (get_or (if t then (u ∷ up_to begins_page us) ∷ split_pages us else split_pages us) zero [])) (sym isnt))
page_slice text at stop (u ∷ us) post (suc q) e s h =
    let l = length-append u.unit.bytes (bytes_of us) in
    by_test (begins_page u)
    (λ is.
    let same : length (page_starts at (u ∷ us)) ≡ suc (length (page_starts (at + length u.unit.bytes) us)) = ap (λ t. length (if t then at ∷ page_starts (at + length u.unit.bytes) us else page_starts (at + length u.unit.bytes) us)) is in
    ap (λ t. slice_at text (if t then at ∷ page_starts (at + length u.unit.bytes) us else page_starts (at + length u.unit.bytes) us) stop (suc q)) is
    ∙ page_slice text (at + length u.unit.bytes) stop us post q (behind_unit text at u us post e) (omega (arith, s, l)) (omega (arith, h, same))
    ∙ ap (λ t. bytes_of (get_or (if t then (u ∷ up_to begins_page us) ∷ split_pages us else split_pages us) (suc q) [])) (sym is))
    (λ isnt.
    let same : length (page_starts at (u ∷ us)) ≡ length (page_starts (at + length u.unit.bytes) us) = ap (λ t. length (if t then at ∷ page_starts (at + length u.unit.bytes) us else page_starts (at + length u.unit.bytes) us)) isnt in
    ap (λ t. slice_at text (if t then at ∷ page_starts (at + length u.unit.bytes) us else page_starts (at + length u.unit.bytes) us) stop (suc q)) isnt
    ∙ page_slice text (at + length u.unit.bytes) stop us post (suc q) (behind_unit text at u us post e) (omega (arith, s, l)) (omega (arith, h, same))
    ∙ ap (λ t. bytes_of (get_or (if t then (u ∷ up_to begins_page us) ∷ split_pages us else split_pages us) (suc q) [])) (sym isnt))

head-within : (us : List NestedUnit) → length (bytes_of (up_to begins_page us)) ≤ length (bytes_of us)
head-within us =
    let n : ℕ = prefix_len (λ v. not (begins_page v)) us in
    let halves : length (bytes_of us) ≡ length (bytes_of (take n us) ++ bytes_of (drop n us)) =
    ap (λ vs. length (bytes_of vs)) (sym (take-append-drop n us)) ∙ ap length (flat_map-append (λ v. v.unit.bytes) (take n us) (drop n us)) in
    let l = length-append (bytes_of (take n us)) (bytes_of (drop n us)) in
    omega (arith, halves, l)

abbrev pub Within : List ℕ → ℕ → ℕ → ℕ → Type 0
Within starts at stop p = (at ≤ get_or starts p 0) × (get_or starts p 0 ≤ get_or starts (suc p) stop) × (get_or starts (suc p) stop ≤ stop)

first_bounds : (at stop next : ℕ) (us : List NestedUnit) → stop ≡ next + length (bytes_of us) → at ≤ next → Within (at ∷ page_starts next us) at stop zero
first_bounds at stop next us t le =
    let e : get_or (page_starts next us) 0 stop ≡ next + length (bytes_of (up_to begins_page us)) = ap (get_or (page_starts next us) 0) t ∙ first_start next us in
    let w = head-within us in
    (omega arith, omega (arith, e, le), omega (arith, e, t, w))

pub page_bounds : (at stop : ℕ) (us : List NestedUnit) (p : ℕ) → stop ≡ at + length (bytes_of us) → p < length (page_starts at us) → Within (page_starts at us) at stop p
page_bounds at stop [] p s h = absurd (omega (arith, h))
page_bounds at stop (u ∷ us) zero s h =
    let next : ℕ = at + length u.unit.bytes in
    let l = length-append u.unit.bytes (bytes_of us) in
    let t : stop ≡ next + length (bytes_of us) = omega (arith, s, l) in
    by_test (begins_page u)
    (λ is. subst (λ xs. Within xs at stop zero) (sym (ap (λ t. if t then at ∷ page_starts next us else page_starts next us) is)) (first_bounds at stop next us t (omega arith)))
    (λ isnt.
    let open_up : page_starts at (u ∷ us) ≡ page_starts next us = ap (λ t. if t then at ∷ page_starts next us else page_starts next us) isnt in
    let size : length (page_starts at (u ∷ us)) ≡ length (page_starts next us) = ap length open_up in
    let w = page_bounds next stop us zero t (omega (arith, h, size)) in
    subst (λ xs. Within xs at stop zero) (sym open_up) (omega (arith, w.0), w.1, w.2))
page_bounds at stop (u ∷ us) (suc q) s h =
    let next : ℕ = at + length u.unit.bytes in
    let l = length-append u.unit.bytes (bytes_of us) in
    let t : stop ≡ next + length (bytes_of us) = omega (arith, s, l) in
    by_test (begins_page u)
    (λ is.
    let open_up : page_starts at (u ∷ us) ≡ at ∷ page_starts next us = ap (λ t. if t then at ∷ page_starts next us else page_starts next us) is in
    let size : length (page_starts at (u ∷ us)) ≡ suc (length (page_starts next us)) = ap length open_up in
    let w = page_bounds next stop us q t (omega (arith, h, size)) in
    subst (λ xs. Within xs at stop (suc q)) (sym open_up) (omega (arith, w.0), w.1, w.2))
    (λ isnt.
    let open_up : page_starts at (u ∷ us) ≡ page_starts next us = ap (λ t. if t then at ∷ page_starts next us else page_starts next us) isnt in
    let size : length (page_starts at (u ∷ us)) ≡ length (page_starts next us) = ap length open_up in
    let w = page_bounds next stop us (suc q) t (omega (arith, h, size)) in
    subst (λ xs. Within xs at stop (suc q)) (sym open_up) (omega (arith, w.0), w.1, w.2))

-- the parts of a text that is cut
pub parts_whole : (us : List NestedUnit) → bytes_of us ≡ bytes_of (preamble us) ++ (bytes_of (page_run us) ++ bytes_of (trailer us))
parts_whole us =
    let n : ℕ = prefix_len (λ v. not (begins_page v)) us in
    let m : ℕ = prefix_len (λ v. not (begins_trailer v)) (starting_at begins_page us) in
    ap bytes_of (sym (take-append-drop n us)) ∙ flat_map-append (λ v. v.unit.bytes) (take n us) (drop n us)
    ∙ ap (λ t. bytes_of (preamble us) ++ t) (ap bytes_of (sym (take-append-drop m (starting_at begins_page us))) ∙ flat_map-append (λ v. v.unit.bytes) (take m (starting_at begins_page us)) (drop m (starting_at begins_page us)))

pub text_whole : (text : List ℕ) → cut text ≡ Ok (or_none (cut text)) → text ≡ bytes_of (units_of text)
text_whole text e =
    sym (nested-bytes 0 (or_none (cut text)) ∙ units_make_text text (or_none (cut text)) e)

-- the pages begin with a page's line
from_page : (p q : NestedUnit → Bool) (us : List NestedUnit) → up_to p (up_to q (starting_at p us)) ≡ []
from_page p q [] = refl
from_page p q (u ∷ us) = by_test (p u)
    (λ is.
    ap (λ vs. up_to p (up_to q vs)) (from-cons p u us ∙ ap (λ t. cond t (u ∷ us) (starting_at p us)) is)
    ∙ ap (up_to p) (before-cons q u us) ∙ front (q u) is)
    (λ isnt. ap (λ vs. up_to p (up_to q vs)) (from-cons p u us ∙ ap (λ t. cond t (u ∷ us) (starting_at p us)) isnt) ∙ from_page p q us)
  where
    front : (t : Bool) → p u ≡ true → up_to p (cond t [] (u ∷ up_to q us)) ≡ []
    front true is = refl
    front false is = before-cons p u (up_to q us) ∙ ap (λ t. cond t [] (u ∷ up_to p (up_to q us))) is

-- the first page begins after the preamble
pub preamble_start : (us : List NestedUnit) → get_or (starts_of us) 0 (pages_end us) ≡ length (bytes_of (preamble us))
preamble_start us =
    let none : length (bytes_of (up_to begins_page (page_run us))) ≡ 0 = ap (λ vs. length (bytes_of vs)) (from_page begins_page begins_trailer us) in
    let start = first_start (length (bytes_of (preamble us))) (page_run us) in
    omega (arith, start, none)

-- a page of a document, in terms of the code
pub page_found : (text starts : List ℕ) (stop p : ℕ) → cut text ≡ Ok (or_none (cut text)) → starts ≡ starts_of (units_of text) → stop ≡ pages_end (units_of text) → p < length (pages (units_of text))
    → (p < length starts) × (get_or starts p 0 ≤ get_or starts (p + 1) stop) × (get_or starts (p + 1) stop ≤ length text)
    × (take (get_or starts (p + 1) stop - get_or starts p 0) (drop (get_or starts p 0) text) ≡ get_or (pages (units_of text)) p [])
page_found text starts stop p c s t h =
    let us : List NestedUnit = units_of text in
    let at : ℕ = length (bytes_of (preamble us)) in
    let count : length (pages us) ≡ length (starts_of us) = page_count us in
    let size : length starts ≡ length (starts_of us) = ap length s in
    let whole : text ≡ bytes_of (preamble us) ++ (bytes_of (page_run us) ++ bytes_of (trailer us)) = text_whole text c ∙ parts_whole us in
    let behind : drop at text ≡ bytes_of (page_run us) ++ bytes_of (trailer us) = ap (drop at) whole ∙ drop-append_seam (bytes_of (preamble us)) (bytes_of (page_run us) ++ bytes_of (trailer us)) in
    let l = length-append (bytes_of (preamble us)) (bytes_of (page_run us) ++ bytes_of (trailer us)) in
    let m = length-append (bytes_of (page_run us)) (bytes_of (trailer us)) in
    let long : length text ≡ length (bytes_of (preamble us) ++ (bytes_of (page_run us) ++ bytes_of (trailer us))) = ap length whole in
    let w = page_bounds at (pages_end us) (page_run us) p refl (omega (arith, h, count)) in
    let v = page_slice text at (pages_end us) (page_run us) (bytes_of (trailer us)) p behind refl (omega (arith, h, count)) in
    let one : suc p ≡ p + 1 = omega arith in
    let same : get_or (starts_of us) (suc p) (pages_end us) ≡ get_or starts (p + 1) stop = ap (λ xs. get_or xs (suc p) (pages_end us)) (sym s) ∙ ap (λ k. get_or starts (suc p) k) (sym t) ∙ ap (λ k. get_or starts k stop) one in
    let first : get_or (starts_of us) p 0 ≡ get_or starts p 0 = ap (λ xs. get_or xs p 0) (sym s) in
    let mapped : get_or (pages us) p [] ≡ bytes_of (get_or (split_pages (page_run us)) p []) = get_or-map bytes_of (split_pages (page_run us)) p in (
      omega (arith, h, count, size),
      omega (arith, w.1, same, first),
      omega (arith, w.2, same, l, m, long),
      ap (λ k. take (k - get_or starts p 0) (drop (get_or starts p 0) text)) (sym same) ∙ ap (λ k. take (get_or (starts_of us) (suc p) (pages_end us) - k) (drop k text)) (sym first) ∙ v ∙ sym mapped,
    )
  where
    get_or-map : (f : List NestedUnit → List ℕ) (xs : List (List NestedUnit)) (p : ℕ) → get_or (map f xs) p (f []) ≡ f (get_or xs p [])
    get_or-map f [] p = refl
    get_or-map f (x ∷ xs) zero = refl
    get_or-map f (x ∷ xs) (suc p) = get_or-map f xs p

-- the same from what always holds of a document's fields: the page is between its start and its end
pub page_at : {bodies : List ℕ} (text starts row : List ℕ) (stop p start end : ℕ) (us : List NestedUnit) → HasItsParts text starts bodies stop → units_of text ≡ us → p < length (pages us)
    → row ≡ starts → start ≡ get_or row p 0 → end ≡ get_or row (p + 1) stop
    → (p < length row) × (start ≤ end) × (end ≤ length text) × (take (end - start) (drop start text) ≡ get_or (pages us) p [])
page_at text starts row stop p start end us i v h r s e =
    let below : p < length (pages (units_of text)) = subst (λ vs. p < length (pages vs)) (sym v) h in
    let found = page_found text starts stop p i.is_cut i.starts_are i.stop_is below in
    let first : start ≡ get_or starts p 0 = s ∙ ap (λ xs. get_or xs p 0) r in
    let last : end ≡ get_or starts (p + 1) stop = e ∙ ap (λ xs. get_or xs (p + 1) stop) r in (
      omega (arith, found.0, ap length r),
      omega (arith, found.1, first, last),
      omega (arith, found.2, last),
      ap (λ k. take (k - start) (drop start text)) last ∙ ap (λ k. take (get_or starts (p + 1) stop - k) (drop k text)) first ∙ found.3 ∙ ap (λ vs. get_or (pages vs) p []) v,
    )
