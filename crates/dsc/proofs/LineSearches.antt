-- A search for line ends by an iterator over their places.
use Rattle.std.specs.Prelude.{slice_index}
use Rattle.std.proofs.Common.{Bool, false, ltb, ◌≡◌, ℕ, zero, suc, ◌+◌, ◌-◌, ◌<◌, ◌≤◌, List, [], ◌∷◌, length, get_or, ap, arith, sym, ◌∙◌, subst}
use Rattle.std.proofs.lemmas.Bool.{ltb-false, ltb-true, false≢true}
use Rattle.memchr.specs.Find.{Nowhere, Passes, places_from, places, is_byte2}
use Rattle.rules.specs.Units.{content_of}
use Rattle.dsc.proofs.Cases.{by_test}
use Rattle.dsc.proofs.LineLengths.{content_found, no_end_found}

not_before : (test : ℕ → Bool) (hay : List ℕ) (i n : ℕ) → test (slice_index hay i) ≡ false → Nowhere (Passes test hay) (i + 1) n → Nowhere (Passes test hay) i n
not_before test hay i n isnt h = λ j low high p. by_test (ltb i j)
    (λ more. h j (let less : i < j = ltb-true i j more in omega (arith, less)) high p)
    (λ same. let le : j ≤ i = ltb-false i j same in
    let at : j ≡ i = omega (arith, le, low) in
    absurd (false≢true (sym isnt ∙ ap (λ k. test (slice_index hay k)) (sym at) ∙ p)))

some_place : (test : ℕ → Bool) (hay : List ℕ) (i n k : ℕ) (rest : List ℕ) → places_from test hay i n ≡ k ∷ rest → (i ≤ k) × (k < i + n) × Nowhere (Passes test hay) i k × Passes test hay k
unfolding places_from
some_place test hay i zero k rest e = cc
some_place test hay i (suc n) k rest e = by_test (test (slice_index hay i))
    (λ is.
    let e = (rw is at e) in
    let at : i ≡ k = ap (λ t. get_or t 0 0) e in
    (omega (arith, at), omega (arith, at), (λ j low high p. absurd (omega (arith, at, low, high))), ap (λ j. test (slice_index hay j)) (sym at) ∙ is))
    (λ isnt.
    let e = (rw isnt at e) in
    let later = some_place test hay (i + 1) n k rest e in
    (omega (arith, later.0), omega (arith, later.1), not_before test hay i k isnt later.2, later.3))

no_place : (test : ℕ → Bool) (hay : List ℕ) (i n : ℕ) → places_from test hay i n ≡ [] → Nowhere (Passes test hay) i (i + n)
unfolding places_from
no_place test hay i zero e = λ j low high p. absurd (omega (arith, low, high))
no_place test hay i (suc n) e = by_test (test (slice_index hay i))
    (λ is. let e = (rw is at e) in cc)
    (λ isnt.
    let e = (rw isnt at e) in
    let same : i + 1 + n ≡ i + suc n = omega arith in
    not_before test hay i (i + suc n) isnt (subst (λ m. Nowhere (Passes test hay) (i + 1) m) same (no_place test hay (i + 1) n e)))

pub first_found : (text : List ℕ) (n : ℕ) (rest : List ℕ) → places (is_byte2 13 10) text ≡ n ∷ rest → n ≡ length (content_of text)
first_found text n rest e =
    let w = some_place (is_byte2 13 10) text 0 (length text - 0) n rest e in
    content_found text n (record { low = w.0; high = omega (arith, w.1); before = w.2 }, w.3)

pub none_found : (text : List ℕ) → places (is_byte2 13 10) text ≡ [] → length text ≡ length (content_of text)
none_found text e =
    let w = no_place (is_byte2 13 10) text 0 (length text - 0) e in
    no_end_found text (λ k low high p. w k low (omega (arith, high)) p)
