-- One step of a walk over the units of a text, whatever they are used for.
use Rattle.std.specs.Prelude.{Result, Ok}
use Rattle.std.proofs.Common.{inl, inr, append_assoc, append-nil, ◌≡◌, ℕ, zero, suc, ◌+◌, ◌-◌, ◌<◌, ◌≤◌, List, [], ◌∷◌, ◌++◌, length, take, drop, refl, ap, arith, length-drop, length-take, sym, subst, ◌∙◌}
use Rattle.std.proofs.lemmas.List.{drop-drop}
use Rattle.std.proofs.Math.Seq.{take-add}
use Rattle.rules.specs.Units.{TextUnit, FaultyBlock, first_unit, content_of, line_len}
use Rattle.rules.specs.Parts.{NestedUnit, depth_after, nested_from}
use Rattle.dsc.specs.Filters.{of_units}
use Rattle.dsc.specs.Plain.{ArePlain}
use Rattle.dsc.specs.Views.{at_depth}
use Rattle.dsc.specs.Walks.{WalkPlace, past_unit, IsPiece, passed}
use Rattle.dsc.proofs.Cut.{cut_at, cut_step, of_units-more}
use Rattle.dsc.proofs.Rows.{taken, unit-front}
use Rattle.dsc.proofs.PlainUnits.{IsPlain, line_unit, line_bytes, plain_unit, plain_depth}

-- what a function of units gives of the rest of a text
abbrev pub on_rest : {A : Type 0} → (List NestedUnit → A) → (depth at : ℕ) → List ℕ → Result A FaultyBlock
on_rest f depth at text = of_units (λ us. f (nested_from depth us)) (cut_at at text)

-- what a loop over units makes of the rest, from a state on: one unit later the state is `next`, and after bytes
-- that mean nothing it is `pass`
pub record Follows {S A : Type 0} (makes : S → List NestedUnit → A) (next : S → NestedUnit → S) (pass : S → List ℕ → S) : Type 0 where
  pub one : (s : S) (u : NestedUnit) (us : List NestedUnit) → makes (next s u) us ≡ makes s (u ∷ us)
  pub plain : (s : S) (u : NestedUnit) → IsPlain u.unit.content → next s u ≡ pass s u.unit.bytes
  pub both : (s : S) (a b : List ℕ) → pass (pass s a) b ≡ pass s (a ++ b)

module _ {S A : Type 0} {makes : S → List NestedUnit → A} {next : S → NestedUnit → S} {pass : S → List ℕ → S} (w : Follows makes next pass) where
  unit_on : (s : S) (depth at : ℕ) (rest : List ℕ) (u : TextUnit) → 0 < length rest → first_unit rest ≡ Ok u
      → on_rest (makes (next s (at_depth depth u))) (depth_after depth u) (at + length u.bytes) (drop (length u.bytes) rest) ≡ on_rest (makes s) depth at rest
  unit_on s depth at [] u some e = absurd (omega (arith, some))
  unit_on s depth at (b ∷ bs) u some e =
      of_units-more (λ us. makes s (nested_from depth us)) (λ us. makes (next s (at_depth depth u)) (nested_from (depth_after depth u) us)) u
      (cut_at (at + length u.bytes) (drop (length u.bytes) (b ∷ bs))) (λ us. w.one s (at_depth depth u) (nested_from (depth_after depth u) us))
      ∙ ap (of_units (λ us. makes s (nested_from depth us))) (sym (cut_step at b bs u e))

  line_on : (s : S) (depth at : ℕ) (rest : List ℕ) → 0 < length rest → IsPlain (content_of rest)
      → on_rest (makes (pass s (take (line_len rest) rest))) depth (at + line_len rest) (drop (line_len rest) rest) ≡ on_rest (makes s) depth at rest
  line_on s depth at rest some p =
      let u : TextUnit = line_unit rest in
      let l : ℕ = line_len rest in
      let size : length u.bytes ≡ l = line_bytes rest in
      ap (λ t. on_rest (makes t) depth (at + l) (drop l rest)) (sym (w.plain s (at_depth depth u) p))
      ∙ ap (λ k. on_rest (makes (next s (at_depth depth u))) depth (at + k) (drop k rest)) (sym size)
      ∙ ap (λ d. on_rest (makes (next s (at_depth depth u))) d (at + length u.bytes) (drop (length u.bytes) rest)) (sym (plain_depth depth rest p))
      ∙ unit_on s depth at rest u some (plain_unit rest p)

  -- after the first l of n bytes
  further : (s : S) (depth at l n : ℕ) (rest front : List ℕ) → l ≤ n
      → on_rest (makes (pass s (front ++ take n rest))) depth (at + n) (drop n rest)
      ≡ on_rest (makes (pass s ((front ++ take l rest) ++ take (n - l) (drop l rest)))) depth (at + l + (n - l)) (drop (n - l) (drop l rest))
  further s depth at l n rest front less =
      let place : at + n ≡ at + l + (n - l) = omega (arith, less) in
      let sum : l + (n - l) ≡ n = omega (arith, less) in
      let bytes : front ++ take n rest ≡ (front ++ take l rest) ++ take (n - l) (drop l rest) =
      ap (λ k. front ++ take k rest) (sym sum) ∙ ap (λ t. front ++ t) (take-add l (n - l) rest) ∙ sym (append_assoc front (take l rest) (take (n - l) (drop l rest))) in
      ap (λ k. on_rest (makes (pass s (front ++ take n rest))) depth k (drop n rest)) place
      ∙ ap (λ t. on_rest (makes (pass s t)) depth (at + l + (n - l)) (drop n rest)) bytes
      ∙ ap (on_rest (makes (pass s ((front ++ take l rest) ++ take (n - l) (drop l rest)))) depth (at + l + (n - l))) (sym (drop-drop (n - l) l rest ∙ ap (λ k. drop k rest) sum))

  lines_on : (lines : ℕ) (s : S) (depth at n : ℕ) (rest front : List ℕ) → ArePlain lines n rest
      → on_rest (makes (pass s (front ++ take n rest))) depth (at + n) (drop n rest) ≡ on_rest (makes (pass s front)) depth at rest
  lines_on zero s depth at n rest front p =
      let same : at + n ≡ at = omega (arith, p) in
      ap (λ k. on_rest (makes (pass s (front ++ take n rest))) depth k (drop n rest)) same
      ∙ ap (λ k. on_rest (makes (pass s (front ++ take k rest))) depth at (drop k rest)) p
      ∙ ap (λ t. on_rest (makes (pass s t)) depth at rest) (append-nil front)
  lines_on (suc lines) s depth at n rest front p =
      let l : ℕ = line_len rest in
      further s depth at l n rest front p.2
      ∙ lines_on lines s depth (at + l) (n - l) (drop l rest) (front ++ take l rest) p.3
      ∙ ap (λ t. on_rest (makes t) depth (at + l) (drop l rest)) (sym (w.both s front (take l rest)))
      ∙ line_on (pass s front) depth at rest p.0 p.1

  -- at least one line, all of which mean nothing
  plain_on : (lines : ℕ) (s : S) (depth at n : ℕ) (rest : List ℕ) → 0 < n → ArePlain lines n rest
      → on_rest (makes (pass s (take n rest))) depth (at + n) (drop n rest) ≡ on_rest (makes s) depth at rest
  plain_on zero s depth at n rest some p = absurd (omega (arith, some, p))
  plain_on (suc lines) s depth at n rest some p =
      let l : ℕ = line_len rest in
      further s depth at l n rest [] p.2
      ∙ lines_on lines s depth (at + l) (n - l) (drop l rest) (take l rest) p.3
      ∙ line_on s depth at rest p.0 p.1

  -- one step of a walk
  pub piece_on : (s : S) (depth at : ℕ) (rest : List ℕ) (u : TextUnit) → 0 < length rest → IsPiece u rest
      → on_rest (makes (next s (at_depth depth u))) (depth_after depth u) (at + length u.bytes) (drop (length u.bytes) rest) ≡ on_rest (makes s) depth at rest
  piece_on s depth at rest u some (inl e) = unit_on s depth at rest u some e
  piece_on s depth at rest u some (inr p) =
      let n : ℕ = p.0 in
      let v : TextUnit = passed n rest in
      let size : length v.bytes ≡ n = (let l = length-take n rest in let fits = p.3 in omega (arith, l, fits)) in
      ap (λ t. on_rest (makes (next s (at_depth depth t))) (depth_after depth t) (at + length t.bytes) (drop (length t.bytes) rest)) p.1
      ∙ ap (λ k. on_rest (makes (next s (at_depth depth v))) depth (at + k) (drop k rest)) size
      ∙ ap (λ t. on_rest (makes t) depth (at + n) (drop n rest)) (w.plain s (at_depth depth v) refl)
      ∙ plain_on p.4.0 s depth at n rest p.2 p.4.1

-- a walk that loses no byte
pub still_placed : (p q : WalkPlace) (u : TextUnit) (len : ℕ) → q ≡ past_unit u p → length u.bytes ≤ length p.rest → p.at + length p.rest ≡ len → q.at + length q.rest ≡ len
still_placed p q u len b fits e = ap (λ r. r.at + length r.rest) b ∙ (let l = length-drop (length u.bytes) p.rest in omega (arith, l, fits, e))

-- each step leaves less
pub less_left : (p q : WalkPlace) (u : TextUnit) → q ≡ past_unit u p → 0 < length p.rest → 0 < length u.bytes → length q.rest < length p.rest
less_left p q u b some fill = subst (λ r. length r.rest < length p.rest) (sym b) (let l = length-drop (length u.bytes) p.rest in omega (arith, l, some, fill))

-- the unit of a step is at the start of what is left
pub piece_front : (u : TextUnit) (rest : List ℕ) → IsPiece u rest → u.bytes ≡ take (length u.bytes) rest
piece_front u rest (inl e) = unit-front rest u e
piece_front u rest (inr p) = ap (λ t. t.bytes) p.1 ∙ sym (taken p.0 rest) ∙ ap (λ t. take (length t.bytes) rest) (sym p.1)
