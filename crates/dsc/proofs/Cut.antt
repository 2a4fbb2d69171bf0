-- Laws of the cut of a text into units.
use Rattle.std.specs.Prelude.{Result, Ok, Err}
use Rattle.std.proofs.Common.{◌≡◌, ℕ, zero, suc, ◌+◌, ◌<◌, ◌≤◌, List, [], ◌∷◌, length, drop, refl, ap, arith, length-drop, ◌∙◌}
use Rattle.rules.specs.Units.{TextUnit, BlockFault, first_unit, FaultyBlock, at_byte, cut_from, ◌>>=◌}
use Rattle.rules.proofs.CutUnits.{unit_some}
use Rattle.dsc.specs.Units.{faulty_block}
use Rattle.dsc.specs.Filters.{of_units}

-- more fuel than bytes makes no difference
pub enough_cut : (k m at : ℕ) (text : List ℕ) → length text ≤ k → length text ≤ m → cut_from k at text ≡ cut_from m at text
enough_cut k m at [] h g = refl
enough_cut zero m at (b ∷ bs) h g = absurd (omega arith)
enough_cut (suc k) zero at (b ∷ bs) h g = absurd (omega arith)
enough_cut (suc k) (suc m) at (b ∷ bs) h g =
    elim (first_unit (b ∷ bs)) as (λ r. first_unit (b ∷ bs) ≡ r →
    (at_byte at r >>= λ p. cut_from k (at + length p.bytes) (drop (length p.bytes) (b ∷ bs)) >>= λ ps. Ok (p ∷ ps))
    ≡ (at_byte at r >>= λ p. cut_from m (at + length p.bytes) (drop (length p.bytes) (b ∷ bs)) >>= λ ps. Ok (p ∷ ps))) [
      | Ok p ↦ λ w.
          let moves : 0 < length p.bytes = unit_some b bs p w in
          let shorter : length (drop (length p.bytes) (b ∷ bs)) ≤ length bs = omega (arith, moves, length-drop (length p.bytes) (b ∷ bs)) in
          ap (λ r. r >>= λ ps. Ok (p ∷ ps)) (enough_cut k m (at + length p.bytes) (drop (length p.bytes) (b ∷ bs)) (omega (arith, shorter)) (omega (arith, shorter)))
      | Err e ↦ λ w. refl
    ] refl

-- a text that isn't empty: its first unit, and the cut of the rest
abbrev pub cut_at : ℕ → List ℕ → Result (List TextUnit) FaultyBlock
cut_at at text = cut_from (length text) at text

pub cut_step : (at b : ℕ) (bs : List ℕ) (p : TextUnit) → first_unit (b ∷ bs) ≡ Ok p
    → cut_at at (b ∷ bs) ≡ (cut_at (at + length p.bytes) (drop (length p.bytes) (b ∷ bs)) >>= λ ps. Ok (p ∷ ps))
cut_step at b bs p w =
    let moves : 0 < length p.bytes = unit_some b bs p w in
    let shorter : length (drop (length p.bytes) (b ∷ bs)) ≤ length bs = omega (arith, moves, length-drop (length p.bytes) (b ∷ bs)) in
    ap (λ r. at_byte at r >>= λ q. cut_from (length bs) (at + length q.bytes) (drop (length q.bytes) (b ∷ bs)) >>= λ ps. Ok (q ∷ ps)) w
    ∙ ap (λ r. r >>= λ ps. Ok (p ∷ ps)) (enough_cut (length bs) _ (at + length p.bytes) (drop (length p.bytes) (b ∷ bs)) shorter (omega arith))

pub cut_fault : (at b : ℕ) (bs : List ℕ) (bad : BlockFault) → first_unit (b ∷ bs) ≡ Err bad → cut_at at (b ∷ bs) ≡ Err (faulty_block at bad)
cut_fault at b bs bad w = ap (λ r. at_byte at r >>= λ q. cut_from (length bs) (at + length q.bytes) (drop (length q.bytes) (b ∷ bs)) >>= λ ps. Ok (q ∷ ps)) w

-- one more unit before those that a function gets
pub of_units-more : {A : Type 0} (f g : List TextUnit → A) (u : TextUnit) (r : Result (List TextUnit) FaultyBlock) → ((us : List TextUnit) → g us ≡ f (u ∷ us))
    → of_units g r ≡ of_units f (r >>= λ us. Ok (u ∷ us))
of_units-more f g u (Ok us) h = ap Ok (h us)
of_units-more f g u (Err e) h = refl
