-- The tokens of a setup, one at a time.
use Rattle.std.proofs.Common.{◌≡◌, ℕ, zero, suc, ◌+◌, ◌<◌, List, [], ◌∷◌, length, take, drop, refl, ap, arith}
use Rattle.guard.specs.Setups.{more_bytes, tokens, tokens_after}

after_drop : (n : ℕ) (text : List ℕ) → tokens_after n text ≡ tokens (drop n text)
after_drop zero text = refl
after_drop (suc n) [] = refl
after_drop (suc n) (b ∷ rest) = after_drop n rest

pub first_token : (text : List ℕ) → 0 < length text
    → tokens text ≡ take (1 + more_bytes text) text ∷ tokens (drop (1 + more_bytes text) text)
first_token [] l = absurd (omega (arith, l))
first_token (b ∷ rest) l =
    let n = more_bytes (b ∷ rest) in
    let e : 1 + n ≡ suc n = omega arith in
    rw e (ap (λ t. (b ∷ take n rest) ∷ t) (after_drop n rest))
