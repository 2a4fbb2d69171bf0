-- A row in signatures, one after the other.
use Rattle.std.proofs.Common.{ℕ, zero, suc, ◌+◌, ◌-◌, ◌*◌, ◌/◌, ◌%◌, ◌<◌, ◌≤◌, ◌≡◌, ◌∙◌, ap, sym, arith, [], ◌∷◌, ◌++◌, map, min}
use Rattle.std.specs.Prelude.{flat_map}
use Rattle.std.specs.List.{range_with_len}
use Rattle.std.proofs.lemmas.Grind.{div_ceil_times}
use Rattle.std.proofs.lemmas.Nat.{div-mul-add}
use Rattle.std.proofs.lemmas.List.{flat_map_more}
use Rattle.rules.specs.Sheets.{blocks}
use Rattle.rules.specs.Signatures.{entry_of, page_in_signature}
use Rattle.rules.specs.Rows.{Row}

-- a number that is divided and rounded up
pub ceil : (n m : ℕ) → 0 < m → n / m + min 1 (n % m) ≡ blocks m n
ceil n m pos = let t = div_ceil_times n m pos in by_bounds (n / m + min 1 (n % m)) t.0 t.1
  where
    by_bounds : (q : ℕ) → n ≤ q * m → q * m < n + m → q ≡ (n + (m - 1)) / m
    by_bounds q low high =
        let split : q * m + (n + (m - 1) - q * m) ≡ n + (m - 1) = omega arith in
        sym (div-mul-add q m (n + (m - 1) - q * m) (omega arith)) ∙ ap (λ k. k / m) split

abbrev pub signature_of : (row : Row) (sides b : ℕ) → Row
signature_of row sides b = map (λ i. entry_of row (b * sides + page_in_signature sides i)) (range_with_len 0 sides)

range_more : (a n j : ℕ) → a + n ≡ j → range_with_len a (suc n) ≡ range_with_len a n ++ j ∷ []
range_more a zero j is = ap (λ k. k ∷ []) (omega (arith, is))
range_more a (suc n) j is = ap (λ ks. a ∷ ks) (range_more (a + 1) n j (omega (arith, is)))

-- one signature more
pub signature_more : (row : Row) (sides b : ℕ) (old new : Row) → old ≡ flat_map (signature_of row sides) (range_with_len 0 b) → new ≡ old ++ signature_of row sides b
    → new ≡ flat_map (signature_of row sides) (range_with_len 0 (b + 1))
signature_more row sides b old new so_far more =
    let next : suc b ≡ b + 1 = omega arith in
    more
    ∙ ap (λ t. t ++ signature_of row sides b) so_far
    ∙ flat_map_more (signature_of row sides) [] (range_with_len 0 b) b
    ∙ ap (λ ks. flat_map (signature_of row sides) ks) (sym (range_more 0 b b (omega arith)) ∙ ap (range_with_len 0) next)
