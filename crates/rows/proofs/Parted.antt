-- A text that is cut at the first occurrence of a byte.
use Rattle.std.proofs.Common.{ℕ, ◌+◌, ◌<◌, ◌≤◌, ◌≡◌, ◌∙◌, Some, None, List, [], ◌∷◌, ◌==◌, Bool, true, false, arith, ap, sym, refl, length, take, drop, drop-drop, nat_lt}
use Rattle.std.specs.Prelude.{if◌then◌else◌}
use Rattle.std.specs.Prelude.{position}
use Rattle.std.specs.List.{slice_split, position_or_len}
use Rattle.std.proofs.lemmas.Bool.Decides.{nat_tests}
use Rattle.std.proofs.lemmas.List.Sums.{fails_before_first}
use Rattle.std.proofs.lemmas.List.Splits.{slice_split_first, slice_split_none}

abbrev is_byte : ℕ → ℕ → Bool
is_byte c b = b == c

some_of : (b : Bool) (n at : ℕ) → (if b then Some n else None) ≡ Some at → (b ≡ true) × (n ≡ at)
some_of true n at e = (refl, cc)
some_of false n at e = absurd (cc (e))

none_of : (b : Bool) (n : ℕ) → (if b then Some n else None) ≡ None → b ≡ false
none_of true n e = absurd (cc (e))
none_of false n e = refl

pub cut_at : (c at : ℕ) (text part from rest : List ℕ) → position (is_byte c) text ≡ Some at → part ≡ take at text → from ≡ drop at text → rest ≡ drop 1 from
    → slice_split (is_byte c) text ≡ part ∷ slice_split (is_byte c) rest
cut_at c at text part from rest found front back behind =
    let p = position_or_len (is_byte c) text in
    let is = some_of (nat_lt p (length text)) p at found in
    let within : p < length text = grind (arith, nat_tests, is) in
    let after : drop (p + 1) text ≡ rest = sym (behind ∙ ap (drop 1) back ∙ drop-drop 1 at text ∙ ap (λ k. drop (k + 1) text) (sym is.1)) in
    slice_split_first (is_byte c) text 0 within
    ∙ ap (λ xs. xs ∷ slice_split (is_byte c) (drop (p + 1) text)) (ap (λ k. take k text) is.1 ∙ sym front)
    ∙ ap (λ xs. part ∷ slice_split (is_byte c) xs) after

pub not_cut : (c : ℕ) (text : List ℕ) → position (is_byte c) text ≡ None → slice_split (is_byte c) text ≡ text ∷ []
not_cut c text missing =
    let p = position_or_len (is_byte c) text in
    let past = none_of (nat_lt p (length text)) p missing in
    let far : length text ≤ p = grind (arith, nat_tests, past) in
    slice_split_none (is_byte c) text (λ k d lt. fails_before_first (is_byte c) text k d (omega (arith, far, lt)))
