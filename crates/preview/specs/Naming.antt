-- How sheets are numbered, and the sides of a paper.
use Rattle.std.specs.Prelude.{ℕ, zero, suc, List, [], ◌∷◌, ◌++◌, codes}
use Rattle.rules.specs.Numbers.{points_text}
use Rattle.rules.specs.Papers.{Paper}

-- the texts of these, one after the other; the first of them has number k
abbrev pub numbered : {X : Type 0} → (ℕ → X → List ℕ) → (k : ℕ) → List X → List ℕ
numbered text k [] = []
numbered text k (x ∷ xs) = text k x ++ numbered text (suc k) xs

-- the texts of so many numbers, from this one on
abbrev pub each : (text : ℕ → List ℕ) → (first count : ℕ) → List ℕ
each text first zero = []
each text first (suc n) = text first ++ each text (suc first) n

-- the sides of a paper
abbrev pub size_in_points : Paper → List ℕ
size_in_points paper = points_text paper.width ++ codes " x " ++ points_text paper.height ++ codes " pt"
