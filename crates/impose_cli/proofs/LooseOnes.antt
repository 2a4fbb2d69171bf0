-- One paper alone, and whether another one cuts it.
use Rattle.std.specs.Prelude.{if◌then◌else◌, is_some}
use Rattle.std.proofs.Common.{Bool, true, false, ◌≡◌, [], ◌∷◌, refl}
use Rattle.rules.specs.Papers.{Paper}
use Rattle.papers.specs.Cuts.{cut_of, cut_summary, is_cut}

by : (b : Bool) (p : Paper) → is_some (cut_summary (if b then (0, p) ∷ [] else [])) ≡ b
by true p = refl
by false p = refl

pub one_cut : (paper one : Paper) → is_some (cut_of paper (one ∷ [])) ≡ is_cut paper one
one_cut paper one = by (is_cut paper one) one
