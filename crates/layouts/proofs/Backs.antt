-- Pages on sheets that are turned by half.
use Rattle.std.proofs.Common.{arith, ◌≡◌, inl, inr, ℕ, ◌+◌, Bool, true, false}
use Rattle.std.specs.Prelude.{ℤ, pos, ◌≤ℤ◌, ◌+ℤ◌, ◌*ℤ◌, ◌-ℤ◌, nat_abs, if◌then◌else◌}
use Rattle.std.proofs.lemmas.Int.{ints}
use Rattle.rules.specs.Papers.{Paper}
use Rattle.rules.specs.Specification.{Item, Upright, Left}
use Rattle.rules.specs.Placement.{Point}
use Rattle.layouts.specs.declared.arrangement.Turned.TheVariants as sideways
use Rattle.layouts.specs.Placed.{IsEven, Room, stands, fine, AreApart}
use Rattle.layouts.specs.Cells.{half_turned, item_in_cell, back_in, to_right, to_top, whole_parts, row_of, column_of}
use Rattle.layouts.specs.Grids.{beside}
use Rattle.layouts.specs.Laws.{BackIsInside, BackIsHalfTurn, IsHalfTurnOf}
use Rattle.layouts.proofs.Sides.{placed, LiesIn}
use Rattle.layouts.proofs.InGrid.{in_whole, on_sheet}
use Rattle.layouts.proofs.InOrder.{place_fits}

-- a back stands where its front would, on a sheet that is turned by half

half_at : (page : Paper) (b : Bool) (k m s : ℕ) (x y : ℤ) (X Y : ℕ) (p : Point)
    → ((stands page (placed (half_turned (if b then Left else Upright)) m s (pos X -ℤ x) (pos Y -ℤ y)) p).x ≡ (pos 1_270_000_000_000_000 *ℤ pos X) -ℤ (stands page (placed (if b then Left else Upright) k s x y) p).x)
    × ((stands page (placed (half_turned (if b then Left else Upright)) m s (pos X -ℤ x) (pos Y -ℤ y)) p).y ≡ (pos 1_270_000_000_000_000 *ℤ pos Y) -ℤ (stands page (placed (if b then Left else Upright) k s x y) p).y)
half_at page false k m s x y X Y p = (omega (arith, ints), omega (arith, ints))
half_at page true k m s x y X Y p = (omega (arith, ints), omega (arith, ints))

pub back_is_half_turn : BackIsHalfTurn
back_is_half_turn page room g o s n k =
    let x = to_right page room g s (row_of o g k) (column_of o g k) in
    let y = to_top page room g s (row_of o g k) (column_of o g k) in
    let half : (p : Point) → _ = half_at page g.turned k (n + k) s x y (whole_parts (nat_abs room.paper.width)) (whole_parts (nat_abs room.paper.height)) in
    record { across = λ p. (half p).0; up = λ p. (half p).1 }

-- turned by half about the middle of the whole 10^-5 of a point
turned_back : (room : Room) (x y x' y' : ℤ) → IsEven room → LiesIn room (record { x = x; y = y }) → x' ≡ (pos 1_270_000_000_000_000 *ℤ pos (whole_parts (nat_abs room.paper.width))) -ℤ x
    → y' ≡ (pos 1_270_000_000_000_000 *ℤ pos (whole_parts (nat_abs room.paper.height))) -ℤ y → LiesIn room (record { x = x'; y = y' })
turned_back room x y x' y' even lies across up =
    let left = lies.left in let right = lies.right in let bottom = lies.bottom in let top = lies.top in
    let beside = even.across in let above = even.up in
    record {
      left = omega (arith, ints, right, across, beside);
      right = omega (arith, ints, left, across, beside);
      bottom = omega (arith, ints, top, up, above);
      top = omega (arith, ints, bottom, up, above);
    }

pub back_inside : BackIsInside
back_inside page room g o s n k is on even place within p of =
    let fit = place_fits o.run o.right_to_left o.turned g k within in
    let half = back_is_half_turn page room g o s n k in
    let front = stands page (item_in_cell page room g o s k) p in
    let back = stands page (back_in page room g o s n k) p in
    on_sheet room back on
    (turned_back room front.x front.y back.x back.y even
    (in_whole page room g s k (row_of o g k) (column_of o g k) is place fit.0 fit.1 p of) (half.across p) (half.up p))

-- two pages that are apart still are if the sheet is turned

half_turned_first : (H a b a' b' e : ℤ) → (a +ℤ e) ≤ℤ b → a' ≡ H -ℤ a → b' ≡ H -ℤ b → (b' +ℤ e) ≤ℤ a'
half_turned_first H a b a' b' e h is is' = omega (arith, ints, h, is, is')

pub half_turned_apart : (room : Room) (page page' : Paper) (one other one' other' : Item) → IsHalfTurnOf page room.paper one one' → IsHalfTurnOf page' room.paper other other'
    → AreApart room page one page' other → AreApart room page one' page' other'
half_turned_apart room page page' one other one' other' half half' (inl (inl h)) =
    inl (inr (λ q p of' of. half_turned_first (pos 1_270_000_000_000_000 *ℤ pos (whole_parts (nat_abs room.paper.width))) _ _ _ _ (fine room.gutter_across) (h p q of of') (half.across p) (half'.across q)))
half_turned_apart room page page' one other one' other' half half' (inl (inr h)) =
    inl (inl (λ p q of of'. half_turned_first (pos 1_270_000_000_000_000 *ℤ pos (whole_parts (nat_abs room.paper.width))) _ _ _ _ (fine room.gutter_across) (h q p of' of) (half'.across q) (half.across p)))
half_turned_apart room page page' one other one' other' half half' (inr (inl h)) =
    inr (inr (λ q p of' of. half_turned_first (pos 1_270_000_000_000_000 *ℤ pos (whole_parts (nat_abs room.paper.height))) _ _ _ _ (fine room.gutter_up) (h p q of of') (half.up p) (half'.up q)))
half_turned_apart room page page' one other one' other' half half' (inr (inr h)) =
    inr (inl (λ p q of of'. half_turned_first (pos 1_270_000_000_000_000 *ℤ pos (whole_parts (nat_abs room.paper.height))) _ _ _ _ (fine room.gutter_up) (h q p of' of) (half'.up q) (half.up p)))
