-- A matrix sends each whole point where its item puts it.
use Rattle.std.proofs.Common.{◌≡◌, zero, suc, refl, sym, ap, ◌∙◌}
use Rattle.std.specs.Prelude.{ℤ, pos, negsuc, neg_ℤ, ◌+ℤ◌, ◌*ℤ◌}
use Rattle.std.proofs.Math.IntN.{*ℤ-negsuc, *ℤ-zero, *ℤ_comm, zero-*ℤ, +ℤ_idr, +ℤ_idl, +ℤ_comm, neg_ℤ-neg_ℤ}
use Rattle.rules.specs.Specification.{Turn, Upright, Left, Half, Right}
use Rattle.rules.specs.Placement.{Point, MatrixPuts, matrix, applied, offset, turned, scaled, moved}

times_neg : (m s : ℤ) → m *ℤ neg_ℤ s ≡ neg_ℤ (m *ℤ s)
times_neg m (pos zero) = *ℤ-zero m ∙ ap neg_ℤ (sym (*ℤ-zero m))
times_neg m (pos (suc n)) = *ℤ-negsuc m n
times_neg m (negsuc n) = sym (neg_ℤ-neg_ℤ (m *ℤ pos (suc n))) ∙ ap neg_ℤ (sym (*ℤ-negsuc m n))

neg_times : (s x : ℤ) → neg_ℤ s *ℤ x ≡ neg_ℤ (s *ℤ x)
neg_times s x = *ℤ_comm (neg_ℤ s) x ∙ (times_neg x s ∙ ap neg_ℤ (*ℤ_comm x s))

-- one coordinate, whose other factor is 0
front : (t s x y : ℤ) → t +ℤ pos 127 *ℤ (s *ℤ x +ℤ pos 0 *ℤ y) ≡ pos 127 *ℤ (s *ℤ x) +ℤ t
front t s x y = rw (zero-*ℤ y) (rw (+ℤ_idr (s *ℤ x)) (+ℤ_comm t (pos 127 *ℤ (s *ℤ x))))

back : (t s x y : ℤ) → t +ℤ pos 127 *ℤ (pos 0 *ℤ x +ℤ s *ℤ y) ≡ pos 127 *ℤ (s *ℤ y) +ℤ t
back t s x y = rw (zero-*ℤ x) (rw (+ℤ_idl (s *ℤ y)) (+ℤ_comm t (pos 127 *ℤ (s *ℤ y))))

neg_scaled : (s x : ℤ) → pos 127 *ℤ (neg_ℤ s *ℤ x) ≡ neg_ℤ (pos 127 *ℤ (s *ℤ x))
neg_scaled s x = ap (λ z. pos 127 *ℤ z) (neg_times s x) ∙ times_neg (pos 127) (s *ℤ x)

abbrev point : ℤ → ℤ → Point
point x y = record { x = x; y = y }

both : (a b c d : ℤ) → a ≡ c → b ≡ d → point a b ≡ point c d
both a b c d e f = rw e (rw f refl)

matrix_turns : (turn : Turn) (s : ℤ) (by p : Point) → applied (matrix turn s by) p ≡ moved by (turned turn (scaled s p))
matrix_turns Upright s by p = both _ _ _ _ (front by.x s p.x p.y) (back by.y s p.x p.y)
matrix_turns Left s by p = both _ _ _ _ (back by.x (neg_ℤ s) p.x p.y ∙ ap (λ z. z +ℤ by.x) (neg_scaled s p.y)) (front by.y s p.x p.y)
matrix_turns Half s by p =
    both _ _ _ _ (front by.x (neg_ℤ s) p.x p.y ∙ ap (λ z. z +ℤ by.x) (neg_scaled s p.x)) (back by.y (neg_ℤ s) p.x p.y ∙ ap (λ z. z +ℤ by.y) (neg_scaled s p.y))
matrix_turns Right s by p =
    both _ _ _ _ (back by.x s p.x p.y ∙ ap (λ z. z +ℤ by.x) (sym (neg_ℤ-neg_ℤ (pos 127 *ℤ (s *ℤ p.y))))) (front by.y (neg_ℤ s) p.x p.y ∙ ap (λ z. z +ℤ by.y) (neg_scaled s p.x))

pub matrix_puts : MatrixPuts
matrix_puts paper item p = matrix_turns item.turn item.scale (offset paper item) p
