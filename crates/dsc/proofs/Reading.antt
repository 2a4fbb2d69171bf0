-- What is read from a document.
use Rattle.std.specs.Prelude.{All, Result, Ok, Err, Option, Some, None, nat_lt, not, codes}
use Rattle.std.specs.List.{starts_with}
use Rattle.std.proofs.Common.{append-nil, Bool, true, false, nat_eq, ◌==◌, ◌≡◌, ℕ, zero, suc, ◌<◌, ◌≤◌, List, [], length, take, refl, ap, arith, length-take, sym, ◌∙◌, min, subst}
use Rattle.std.proofs.lemmas.Bool.{le-ltb, lt-ltb, eqb-true}
use Rattle.std.proofs.lemmas.List.{take_all}
use Rattle.rules.specs.Units.{TextUnit, FaultyBlock, cut, ◌>>=◌}
use Rattle.rules.specs.Parts.{NestedUnit, nested_from, nested, pages}
use Rattle.rules.specs.Run.{DocumentFault, InputTooLong, NotPostScript, InputTooManyPages, NoPages, document_of, most_input_bytes, most_pages, with_pages, refuse_if, of_block}
use Rattle.dsc.specs.Units.{or_none, units_of}
use Rattle.dsc.specs.Marks.{starts_of, pages_end, marks_on, scan_on, stop_at}
use Rattle.dsc.specs.Laws.{HasBody, PagesHaveBodies}
use Rattle.dsc.proofs.Cases.{by_test}
use Rattle.dsc.proofs.Alone.{bodies}
use Rattle.dsc.proofs.PartMarks.{scanned, page_count}

-- the checks that come before the cut
abbrev pub Opens : List ℕ → Type 0
Opens text = (length text ≤ most_input_bytes) × (starts_with nat_eq text (codes "%!") ≡ true)

opened : (text : List ℕ) → Opens text → document_of text ≡ (of_block (cut text) >>= λ ps. with_pages (nested_from 0 ps))
opened text h =
    ap (λ t. refuse_if t InputTooLong (refuse_if (not (starts_with nat_eq text (codes "%!"))) NotPostScript (of_block (cut text) >>= λ ps. with_pages (nested_from 0 ps)))) (le-ltb most_input_bytes (length text) h.0)
    ∙ ap (λ t. refuse_if (not t) NotPostScript (of_block (cut text) >>= λ ps. with_pages (nested_from 0 ps))) h.1

-- what holds at the end of a pass
ends_as : (most : ℕ) (starts : List ℕ) (stop : Option ℕ) (len : ℕ) → ((marks_on most starts stop len []).starts ≡ take most starts) × ((marks_on most starts stop len []).stop ≡ stop_at stop len)
ends_as most starts (Some e) len = (refl, refl)
ends_as most starts None len = (ap (take most) (append-nil starts), refl)

-- the number of elements kept of a list shows how many there are
abbrev Read : ℕ → List ℕ → List ℕ → Option ℕ → Type 0
Read most text starts stop = (cut text ≡ Ok (or_none (cut text))) × (take most starts ≡ take most (starts_of (units_of text))) × (stop_at stop (length text) ≡ pages_end (units_of text))

pub passed : (most : ℕ) (text starts : List ℕ) (stop : Option ℕ) → scan_on most [] None 0 0 text ≡ Ok (marks_on most starts stop (length text) []) → Read most text starts stop
passed most text starts stop e =
    let w = scanned most text (marks_on most starts stop (length text) []) e in
    let v = ends_as most starts stop (length text) in
    (w.0, sym v.0 ∙ w.1, sym v.1 ∙ w.2)

sizes : (most : ℕ) (xs ys : List ℕ) → take most xs ≡ take most ys → min most (length xs) ≡ min most (length ys)
sizes most xs ys e = sym (length-take most xs) ∙ ap length e ∙ length-take most ys

same_kept : (most : ℕ) (xs ys : List ℕ) → take most xs ≡ take most ys → length xs < most → xs ≡ ys
same_kept most xs ys e h =
    let s = sizes most xs ys e in
    sym (take_all most xs (omega (arith, h))) ∙ e ∙ take_all most ys (omega (arith, h, s))

cut_read : (text : List ℕ) → Opens text → cut text ≡ Ok (or_none (cut text)) → document_of text ≡ with_pages (units_of text)
cut_read text h e = opened text h ∙ ap (λ r. of_block r >>= λ ps. with_pages (nested_from 0 ps)) e

pub many_read : (most : ℕ) (text starts : List ℕ) (stop : Option ℕ) → Opens text → most_pages < most → scan_on most [] None 0 0 text ≡ Ok (marks_on most starts stop (length text) []) → most_pages < length starts
    → document_of text ≡ Err InputTooManyPages
many_read most text starts stop h m e n =
    let w = passed most text starts stop e in
    let s = sizes most starts (starts_of (units_of text)) w.1 in
    let c = page_count (units_of text) in
    let more : most_pages < length (pages (units_of text)) = omega (arith, s, c, n, m) in
    cut_read text h w.0 ∙ ap (λ t. refuse_if t InputTooManyPages (refuse_if (length (pages (units_of text)) == 0) NoPages (Ok (units_of text)))) (lt-ltb most_pages (length (pages (units_of text))) more)

few_read : (text : List ℕ) (n : ℕ) → document_of text ≡ with_pages (units_of text) → length (pages (units_of text)) ≡ n → n ≤ most_pages
    → document_of text ≡ refuse_if (n == 0) NoPages (Ok (units_of text))
few_read text n e c h =
    e ∙ ap (λ k. refuse_if (nat_lt most_pages k) InputTooManyPages (refuse_if (k == 0) NoPages (Ok (units_of text)))) c
    ∙ ap (λ t. refuse_if t InputTooManyPages (refuse_if (n == 0) NoPages (Ok (units_of text)))) (le-ltb most_pages n h)

pub none_read : (most : ℕ) (text starts : List ℕ) (stop : Option ℕ) → Opens text → most_pages < most → scan_on most [] None 0 0 text ≡ Ok (marks_on most starts stop (length text) []) → length starts ≡ 0
    → document_of text ≡ Err NoPages
none_read most text starts stop h m e n =
    let w = passed most text starts stop e in
    let none : length starts ≡ 0 = n in
    let same : starts ≡ starts_of (units_of text) = same_kept most starts (starts_of (units_of text)) w.1 (omega (arith, none, m)) in
    let c : length (pages (units_of text)) ≡ 0 = page_count (units_of text) ∙ ap length (sym same) ∙ none in
    few_read text 0 (cut_read text h w.0) c (omega arith)

not_none : (n : ℕ) → 0 < n → (n == 0) ≡ false
not_none n h = by_test (n == 0) (λ is. let e = eqb-true n 0 is in absurd (omega (arith, h, e))) (λ isnt. isnt)

pub good_read : (most : ℕ) (text starts : List ℕ) (stop : Option ℕ) → Opens text → most_pages < most → scan_on most [] None 0 0 text ≡ Ok (marks_on most starts stop (length text) []) → 0 < length starts → length starts ≤ most_pages
    → (document_of text ≡ Ok (units_of text)) × (cut text ≡ Ok (or_none (cut text))) × (starts ≡ starts_of (units_of text)) × (stop_at stop (length text) ≡ pages_end (units_of text))
good_read most text starts stop h m e some few =
    let w = passed most text starts stop e in
    let same : starts ≡ starts_of (units_of text) = same_kept most starts (starts_of (units_of text)) w.1 (omega (arith, few, m)) in
    let c : length (pages (units_of text)) ≡ length starts = page_count (units_of text) ∙ ap length (sym same) in
    (few_read text (length starts) (cut_read text h w.0) c few ∙ ap (λ t. refuse_if t NoPages (Ok (units_of text))) (not_none (length starts) some), w.0, same, w.2)

pub some_of : (n : ℕ) → (n == 0) ≡ false → 0 < n
some_of zero h = cc
some_of (suc n) h = omega arith

pub none_of : (n : ℕ) → (n == 0) ≡ true → n ≡ 0
none_of n h = eqb-true n 0 h

-- What is known of an accepted document.

refused : {A E : Type 0} (t : Bool) (fault : E) (next : Result A E) (x : A) → refuse_if t fault next ≡ Ok x → next ≡ Ok x
refused true fault next x e = cc
refused false fault next x e = e

of_cut : (r : Result (List TextUnit) FaultyBlock) (us : List NestedUnit) → (of_block r >>= λ ps. with_pages (nested ps)) ≡ Ok us → (r ≡ Ok (or_none r)) × (nested (or_none r) ≡ us)
of_cut (Err e) us h = cc
of_cut (Ok ps) us h =
    let last : ◌≡◌ {A = Result (List NestedUnit) DocumentFault} (Ok (nested ps)) (Ok us) = refused _ NoPages _ us (refused _ InputTooManyPages _ us h) in
    (refl, cc)

pub accepted_cut : (text : List ℕ) (us : List NestedUnit) → document_of text ≡ Ok us → (cut text ≡ Ok (or_none (cut text))) × (units_of text ≡ us)
accepted_cut text us h = of_cut (cut text) us (refused _ NotPostScript _ us (refused _ InputTooLong _ us h))

pub pages_bodied : PagesHaveBodies
pages_bodied text us h =
    let w = accepted_cut text us h in
    subst (λ vs. All HasBody (pages vs)) w.1 (bodies text (or_none (cut text)) w.0)

untested : {A E : Type 0} (t : Bool) (fault : E) (next : Result A E) (x : A) → refuse_if (not t) fault next ≡ Ok x → t ≡ true
untested true fault next x e = refl
untested false fault next x e = cc

pub accepted_opening : (text : List ℕ) (us : List NestedUnit) → document_of text ≡ Ok us → starts_with nat_eq text (codes "%!") ≡ true
accepted_opening text us h = untested _ NotPostScript _ us (refused _ InputTooLong _ us h)
