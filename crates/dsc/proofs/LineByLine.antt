-- A function that takes a text line by line, with a bound on their number: each line has at least one byte, so the
-- text's length is enough.
use Rattle.std.proofs.Common.{◌≡◌, ℕ, zero, suc, ◌≤◌, List, [], ◌∷◌, length, drop, ap, sym, arith, length-drop, ◌∙◌}
use Rattle.rules.specs.Units.{line_len}
use Rattle.dsc.proofs.LineLengths.{line_len-pos}

module _ {X : Type 0} (f : ℕ → List ℕ → X) (with_line : ℕ → List ℕ → X → X) (none : (k : ℕ) → f k [] ≡ f 0 [])
    (step : (k b : ℕ) (bs : List ℕ) → f (suc k) (b ∷ bs) ≡ with_line b bs (f k (drop (line_len (b ∷ bs)) (b ∷ bs)))) where
  enough : (k m : ℕ) (text : List ℕ) → length text ≤ k → length text ≤ m → f k text ≡ f m text
  enough k m [] h g = none k ∙ sym (none m)
  enough zero m (b ∷ bs) h g = absurd (omega (arith, h))
  enough (suc k) zero (b ∷ bs) h g = absurd (omega (arith, g))
  enough (suc k) (suc m) (b ∷ bs) h g =
      let text : List ℕ = b ∷ bs in
      let n : ℕ = line_len text in
      let moves = line_len-pos b bs in
      let less : length (drop n text) ≤ length bs = omega (arith, moves, length-drop n text) in
      step k b bs ∙ ap (with_line b bs) (enough k m (drop n text) (omega (arith, h, less)) (omega (arith, g, less))) ∙ sym (step m b bs)

  -- the line at the front, and what is found after it
  pub by_line : (b : ℕ) (bs : List ℕ)
      → f (length (b ∷ bs)) (b ∷ bs)
      ≡ with_line b bs (f (length (drop (line_len (b ∷ bs)) (b ∷ bs))) (drop (line_len (b ∷ bs)) (b ∷ bs)))
  by_line b bs =
      let text : List ℕ = b ∷ bs in
      let n : ℕ = line_len text in
      let moves = line_len-pos b bs in
      step (length bs) b bs
      ∙ ap (with_line b bs) (enough (length bs) (length (drop n text)) (drop n text) (omega (arith, moves, length-drop n text)) (omega arith))
