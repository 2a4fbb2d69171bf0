-- A document that is accepted has pages, but not too many.
use Rattle.std.proofs.Common.{arith, ◌≡◌, ℕ, ◌<◌, ◌≤◌, Bool, true, false, List, Result, Ok, Err, refl, subst}
use Rattle.std.specs.Prelude.{◌==◌, length, nat_lt, not, codes, nat_eq}
use Rattle.std.specs.List.{starts_with}
use Rattle.std.proofs.lemmas.Bool.{ltb-false}
use Rattle.rules.specs.Units.{FaultyBlock, TextUnit, ◌>>=◌, cut}
use Rattle.rules.specs.Parts.{NestedUnit, nested, pages}
use Rattle.rules.specs.Run.{DocumentFault, InputTooLong, NotPostScript, InputTooManyPages, NoPages, document_of, most_input_bytes, most_pages, of_block, refuse_if, with_pages}

passed : {A E : Type 0} (refused : Bool) (fault : E) (next : Result A E) (x : A) → refuse_if refused fault next ≡ Ok x → (refused ≡ false) × (next ≡ Ok x)
passed false fault next x e = (refl, e)
passed true fault next x e = cc

some : (n : ℕ) → (n == 0) ≡ false → 0 < n
some n e = grind arith

abbrev pub HasPages : List NestedUnit → Type 0
HasPages us = (0 < length (pages us)) × (length (pages us) ≤ most_pages)

of_units : (vs us : List NestedUnit) → with_pages vs ≡ Ok us → HasPages us
of_units vs us e =
    let few = passed (nat_lt most_pages (length (pages vs))) InputTooManyPages _ us e in
    let there = passed (length (pages vs) == 0) NoPages (Ok vs) us few.1 in
    let same : vs ≡ us = ok_same vs us there.1 in
    subst HasPages same (some (length (pages vs)) there.0, ltb-false _ _ few.0)
  where
    ok_same : (vs us : List NestedUnit) → ◌≡◌ {A = Result (List NestedUnit) DocumentFault} (Ok vs) (Ok us) → vs ≡ us
    ok_same vs us e = cc

of_cut : (r : Result (List TextUnit) FaultyBlock) (us : List NestedUnit) → (of_block r >>= λ ps. with_pages (nested ps)) ≡ Ok us → HasPages us
of_cut (Err e) us h = cc
of_cut (Ok ps) us h = of_units (nested ps) us h

pub has_pages : (input : List ℕ) (us : List NestedUnit) → document_of input ≡ Ok us → HasPages us
has_pages input us e =
    let long = passed (nat_lt most_input_bytes (length input)) InputTooLong _ us e in
    let begins = passed (not (starts_with nat_eq input (codes "%!"))) NotPostScript _ us long.1 in
    of_cut (cut input) us begins.1
