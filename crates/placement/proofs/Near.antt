-- A printed matrix sends points nearly to where the matrix does.
use Rattle.std.proofs.Common.{arith, ◌≤◌}
use Rattle.std.specs.Prelude.{ℤ, pos, negsuc, nat_abs, ◌+ℤ◌, ◌*ℤ◌, ◌-ℤ◌}
use Rattle.std.proofs.lemmas.Int.{ints}
use Rattle.placement.specs.Printed.{nearest, PrintedIsNear}

near : (g : ℤ) → nat_abs (pos 127 *ℤ nearest g -ℤ g) ≤ 635_000
near (pos n) = omega (arith, ints)
near (negsuc n) = omega (arith, ints)

shifted : (s t k : ℤ) → nat_abs (s -ℤ t) ≤ 635_000 → nat_abs ((s +ℤ k) -ℤ (t +ℤ k)) ≤ 635_000
shifted s t k h = omega (arith, ints)

pub printed_near : PrintedIsNear
printed_near m p = record {
  x = shifted (pos 127 *ℤ nearest m.tx) m.tx (pos 127 *ℤ (m.a *ℤ p.x +ℤ m.c *ℤ p.y)) (near m.tx);
  y = shifted (pos 127 *ℤ nearest m.ty) m.ty (pos 127 *ℤ (m.b *ℤ p.x +ℤ m.d *ℤ p.y)) (near m.ty);
}
