-- The cells of a zine that is asked for.
use Rattle.std.proofs.Common.{arith, ◌≡◌, ℕ, suc, zero, ◌+◌, ◌/◌, ◌<◌, Bool, true, false, refl, ap}
use Rattle.std.specs.Prelude.{ℤ, pos, negsuc, nat_abs, if◌then◌else◌}
use Rattle.std.specs.Ordering.{int_eq}
use Rattle.std.proofs.lemmas.Bool.Decides.{Decides-int_eq}
use Rattle.rules.specs.Papers.{Paper}
use Rattle.layouts.specs.Fitted.{setting_of}
use Rattle.layouts.specs.Grids.{is_better, room_of, rounded_up}
use Rattle.layouts.proofs.InGrid.{both_true}
use Rattle.row_sheets.specs.Zine.{AreZineCells, zine_grid}
use Rattle.impose_words.specs.Spacings.{some_gap, zine_in}
use Rattle.impose_words.specs.declared.request.Spacing.{Spacing}
use Rattle.impose_cli.specs.RowTasks.{has_even_margins}

-- upright or turned, whichever is larger
either : (b : Bool) → (if b then zine_grid true else zine_grid false) ≡ zine_grid (if b then zine_grid true else zine_grid false).turned
either true = refl
either false = refl

-- a gap that isn't 0
other : (gap : ℤ) → int_eq gap (pos 0) ≡ false → 0 < nat_abs gap
other (pos zero) e = cc
other (pos (suc n)) e = omega arith
other (negsuc n) e = omega arith

some_by : (b : Bool) (gap : ℤ) → (b ≡ false → 0 < nat_abs gap) → 0 < nat_abs (if b then pos 1 else gap)
some_by true gap h = omega arith
some_by false gap h = h refl

rounded : (n : ℕ) → 0 < n → 0 < (n + 1_269_999) / 1_270_000
rounded n h = omega (arith, h)

some : (gap : ℤ) → 0 < rounded_up (some_gap gap)
some gap = rounded (nat_abs (some_gap gap)) (some_by (int_eq gap (pos 0)) gap (other gap))

pub are_zine_cells : (page sheet : Paper) (s : Spacing) → has_even_margins s.free ≡ true → AreZineCells (setting_of page sheet (zine_in s))
are_zine_cells page sheet s even =
    let a = zine_in s in
    let both = both_true (int_eq s.free.left s.free.right) (int_eq s.free.bottom s.free.top) even in
    record {
      grid_is = either (is_better page (room_of sheet a.free) (zine_grid false) (zine_grid true));
      order_is = refl;
      untrimmed = refl;
      some_across = some s.free.across;
      some_up = some s.free.up;
      even = record {
        across = ap rounded_up ((Decides-int_eq s.free.left s.free.right).0 both.0);
        up = ap rounded_up ((Decides-int_eq s.free.bottom s.free.top).0 both.1);
      };
    }
