-- Which texts are accepted, and what is known of those that were.
use Rattle.std.specs.Prelude.{Result, Ok, Err, codes, not, nat_lt}
use Rattle.std.specs.List.{starts_with}
use Rattle.std.proofs.Common.{nat_eq, ◌==◌, Bool, true, false, ◌≡◌, ℕ, zero, suc, ◌<◌, ◌≤◌, List, length, refl, ap, arith, sym, ◌∙◌, subst}
use Rattle.std.proofs.lemmas.Bool.{le-ltb, ltb-false, eqb-true}
use Rattle.rules.specs.Units.{TextUnit, FaultyBlock, AreUnits, cut, ◌>>=◌}
use Rattle.rules.specs.Parts.{NestedUnit, nested, pages}
use Rattle.rules.specs.Run.{DocumentFault, InputTooLong, NotPostScript, InputTooManyPages, NoPages, document_of, most_input_bytes, most_pages, with_pages, refuse_if, of_block}
use Rattle.dsc.specs.Units.{or_none, units_of}
use Rattle.dsc.proofs.Cases.{by_test}
use Rattle.imposed_again.proofs.Texts.{units_are}

pub let_through : {A E : Type 0} (t : Bool) (fault : E) (next : Result A E) (x : A) → refuse_if t fault next ≡ Ok x → (t ≡ false) × (next ≡ Ok x)
let_through true fault next x e = cc
let_through false fault next x e = (refl, e)

pub some_of : (n : ℕ) → (n == 0) ≡ false → 0 < n
some_of zero h = cc
some_of (suc n) h = omega arith

pub same_units : (us vs : List NestedUnit) → ◌≡◌ {A = Result (List NestedUnit) DocumentFault} (Ok us) (Ok vs) → us ≡ vs
same_units us vs e = cc

pub pages_of : (r : Result (List TextUnit) FaultyBlock) (us : List NestedUnit) → (of_block r >>= λ ps. with_pages (nested ps)) ≡ Ok us → 0 < length (pages us)
pages_of (Err e) us h = cc
pages_of (Ok ps) us h =
    let a = let_through (nat_lt most_pages (length (pages (nested ps)))) InputTooManyPages _ us h in
    let b = let_through (length (pages (nested ps)) == 0) NoPages (Ok (nested ps)) us a.1 in
    subst (λ vs. 0 < length (pages vs)) (same_units (nested ps) us b.1) (some_of (length (pages (nested ps))) b.0)

pub some_pages : (text : List ℕ) (us : List NestedUnit) → document_of text ≡ Ok us → 0 < length (pages us)
some_pages text us h = let a = let_through _ InputTooLong _ us h in let b = let_through _ NotPostScript _ us a.1 in pages_of (cut text) us b.1

few_of : (r : Result (List TextUnit) FaultyBlock) (us : List NestedUnit) → (of_block r >>= λ ps. with_pages (nested ps)) ≡ Ok us → length (pages us) ≤ most_pages
few_of (Err e) us h = cc
few_of (Ok ps) us h =
    let a = let_through (nat_lt most_pages (length (pages (nested ps)))) InputTooManyPages _ us h in
    let b = let_through (length (pages (nested ps)) == 0) NoPages (Ok (nested ps)) us a.1 in
    subst (λ vs. length (pages vs) ≤ most_pages) (same_units (nested ps) us b.1) (ltb-false _ _ a.0)

pub few_pages : (text : List ℕ) (us : List NestedUnit) → document_of text ≡ Ok us → length (pages us) ≤ most_pages
few_pages text us h = let a = let_through _ InputTooLong _ us h in let b = let_through _ NotPostScript _ us a.1 in few_of (cut text) us b.1

pub accept : (text : List ℕ) (us : List TextUnit) (n : ℕ) → length text ≤ most_input_bytes → starts_with nat_eq text (codes "%!") ≡ true → AreUnits text us → length (pages (nested us)) ≡ n → 0 < n → n ≤ most_pages
    → (document_of text ≡ Ok (units_of text)) × (units_of text ≡ nested us)
accept text us n l s m e some few =
    let c : cut text ≡ Ok us = units_are text us m in
    let same : units_of text ≡ nested us = ap (λ r. nested (or_none r)) c in
    let none : (n == 0) ≡ false = by_test (n == 0) (λ is. let z = eqb-true n 0 is in absurd (omega (arith, some, z))) (λ isnt. isnt) in (
      ap (λ t. refuse_if t InputTooLong (refuse_if (not (starts_with nat_eq text (codes "%!"))) NotPostScript (of_block (cut text) >>= λ ps. with_pages (nested ps)))) (le-ltb most_input_bytes (length text) l)
          ∙ ap (λ t. refuse_if (not t) NotPostScript (of_block (cut text) >>= λ ps. with_pages (nested ps))) s
          ∙ ap (λ r. of_block r >>= λ ps. with_pages (nested ps)) c
          ∙ ap (λ k. refuse_if (nat_lt most_pages k) InputTooManyPages (refuse_if (k == 0) NoPages (Ok (nested us)))) e
          ∙ ap (λ t. refuse_if t InputTooManyPages (refuse_if (n == 0) NoPages (Ok (nested us)))) (le-ltb most_pages n few)
          ∙ ap (λ t. refuse_if t NoPages (Ok (nested us))) none
          ∙ ap Ok (sym same),
      same,
    )
