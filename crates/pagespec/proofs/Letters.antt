-- The letters of turns.
use Rattle.std.proofs.Common.{inl, inr, ◌⊎◌, arith, ◌≡◌, ◌≢◌, ℕ, ◌<◌, List, [], ◌∷◌, Bool, true, false, refl, ap}
use Rattle.std.specs.Prelude.{◌==◌, ◌||◌, if◌then◌else◌}
use Rattle.lengths.proofs.Numbers.{same_byte}
use Rattle.rules.specs.Specification.{IsTurn}
use Rattle.pagespec.specs.Reading.{quarters_of}

-- a letter of a turn is one of its two
abbrev IsOne : ℕ → ℕ → ℕ → Type 0
IsOne b upper lower = (b ∷ [] ≡ upper ∷ []) ⊎ (b ∷ [] ≡ lower ∷ [])

is_one : (b upper lower : ℕ) (c d : Bool) → (b == upper) ≡ c → (b == lower) ≡ d → (c || d) ≡ true → IsOne b upper lower
is_one b upper lower true d e f h = inl (ap (λ x. x ∷ []) (same_byte b upper e))
is_one b upper lower false true e f h = inr (ap (λ x. x ∷ []) (same_byte b lower f))
is_one b upper lower false false e f h = absurd (cc (h))

abbrev chosen : (left half right : Bool) → ℕ
chosen left half right = if left then 1 else (if half then 2 else (if right then 3 else 0))

choose : (b : ℕ) (left half right : Bool) → ((b == 76) || (b == 108)) ≡ left → ((b == 85) || (b == 117)) ≡ half → ((b == 82) || (b == 114)) ≡ right
    → chosen left half right ≢ 0 → IsTurn (b ∷ []) (chosen left half right)
choose b true half right l h r n = inl (refl, is_one b 76 108 _ _ refl refl l)
choose b false true right l h r n = inr (inl (refl, is_one b 85 117 _ _ refl refl h))
choose b false false true l h r n = inr (inr (refl, is_one b 82 114 _ _ refl refl r))
choose b false false false l h r n = absurd (n refl)

pub letter_turn : (b : ℕ) → quarters_of b ≢ 0 → IsTurn (b ∷ []) (quarters_of b)
letter_turn b n = choose b _ _ _ refl refl refl n

-- a turn is written as one letter
abbrev pub Lettered : List ℕ → ℕ → Type 0
Lettered text n = (letter : ℕ) × (text ≡ letter ∷ []) × (n ≡ quarters_of letter) × (0 < n)

pub turn_letter : (text : List ℕ) (n : ℕ) → IsTurn text n → Lettered text n
turn_letter text n (inl (e, inl t)) = (76, t, e, omega (arith, e))
turn_letter text n (inl (e, inr t)) = (108, t, e, omega (arith, e))
turn_letter text n (inr (inl (e, inl t))) = (85, t, e, omega (arith, e))
turn_letter text n (inr (inl (e, inr t))) = (117, t, e, omega (arith, e))
turn_letter text n (inr (inr (e, inl t))) = (82, t, e, omega (arith, e))
turn_letter text n (inr (inr (e, inr t))) = (114, t, e, omega (arith, e))
