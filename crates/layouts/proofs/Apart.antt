-- Two pages in different cells are apart by the gap.
use Rattle.std.proofs.Common.{arith, ◌≡◌, inl, inr, ℕ, suc, zero, ◌*◌, ◌/◌, ◌%◌, ◌<◌, Bool, true, false, refl, ap, subst, ◌∙◌}
use Rattle.std.specs.Prelude.{ℤ, pos, neg_ℤ, nat_abs, ◌≤ℤ◌, ◌+ℤ◌}
use Rattle.std.proofs.Math.Nat.{div-add-mod}
use Rattle.std.proofs.lemmas.Int.{ints}
use Rattle.rules.specs.Papers.{Paper}
use Rattle.rules.specs.Specification.{Item, Turn, Upright, Left, Half, Right}
use Rattle.layouts.specs.declared.arrangement.FillOrder.{FillOrder}
use Rattle.layouts.specs.declared.arrangement.FillOrder.TheVariants.{Rows, Columns}
use Rattle.layouts.specs.declared.arrangement.Turned.{Turned}
use Rattle.layouts.specs.declared.arrangement.Turned.TheVariants as sideways
use Rattle.layouts.specs.Placed.{Room, fine, stands, held, read_turned, across, upward, ComesFirst, AreApart, IsAbove}
use Rattle.layouts.specs.Cells.{item_in_cell, run_in}
use Rattle.layouts.specs.Laws.{IsBeside, ComesInRun, ComesInRunBefore, GridIsApart}
use Rattle.layouts.proofs.Sides.{abs_neg}
use Rattle.layouts.proofs.InOrder.{grid_in_order}

-- less, more or the same
pub by_order : {P : Type 0} (a b : ℕ) → (a < b → P) → (b < a → P) → (a ≡ b → P) → P
by_order zero zero less more same = same refl
by_order zero (suc b) less more same = less (omega arith)
by_order (suc a) zero less more same = more (omega arith)
by_order (suc a) (suc b) less more same = by_order a b (λ h. less (omega (arith, h))) (λ h. more (omega (arith, h))) (λ h. same (ap suc h))

same_place : (k l c : ℕ) → k / c ≡ l / c → k % c ≡ l % c → k ≡ l
same_place k l c rows columns = omega (arith, div-add-mod k c, div-add-mod l c, ap (λ n. c * n) rows)

pub other_way : (room : Room) (page page' : Paper) (one other : Item) → AreApart room page' other page one → AreApart room page one page' other
other_way room page page' one other (inl (inl h)) = inl (inr h)
other_way room page page' one other (inl (inr h)) = inl (inl h)
other_way room page page' one other (inr (inl h)) = inr (inr h)
other_way room page page' one other (inr (inr h)) = inr (inl h)

back : (a b c : ℤ) → (neg_ℤ a +ℤ fine (nat_abs (neg_ℤ c))) ≤ℤ neg_ℤ b → (b +ℤ fine (nat_abs c)) ≤ℤ a
back a b c h = let there = subst (λ n. (neg_ℤ a +ℤ fine n) ≤ℤ neg_ℤ b) (abs_neg c) h in omega (arith, ints, there)

twice : (a b c : ℤ) → (neg_ℤ (neg_ℤ a) +ℤ fine (nat_abs (neg_ℤ (neg_ℤ c)))) ≤ℤ neg_ℤ (neg_ℤ b) → (a +ℤ fine (nat_abs c)) ≤ℤ b
twice a b c h =
    let there = subst (λ n. (neg_ℤ (neg_ℤ a) +ℤ fine n) ≤ℤ neg_ℤ (neg_ℤ b)) (abs_neg (neg_ℤ c) ∙ abs_neg c) h in
    omega (arith, ints, there)

-- which of the two comes first, if it does so measured along one of the four directions of a sheet
backwards : (room : Room) (page page' : Paper) (one other : Item) → ComesFirst (λ p. neg_ℤ p.x) room page one page' other → ComesFirst across room page' other page one
backwards room page page' one other h p q of of' = back _ _ (pos room.gutter_across) (h q p of' of)

downwards : (room : Room) (page page' : Paper) (one other : Item) → ComesFirst (λ p. neg_ℤ p.y) room page one page' other → ComesFirst upward room page' other page one
downwards room page page' one other h p q of of' = back _ _ (pos room.gutter_up) (h q p of' of)

-- of two pages of one turn
across_apart : (t : Turned) (turn : Turn) (room : Room) (page page' : Paper) (one other : Item) → ComesFirst (λ p. across (read_turned t (held turn p))) room page one page' other → AreApart room page one page' other
across_apart sideways.Upright Upright room page page' one other h = inl (inl h)
across_apart sideways.Upright Left room page page' one other h = inr (inl h)
across_apart sideways.Upright Half room page page' one other h = inl (inr (backwards room page page' one other h))
across_apart sideways.Upright Right room page page' one other h = inr (inr (downwards room page page' one other h))
across_apart sideways.Left Upright room page page' one other h = inr (inr (downwards room page page' one other h))
across_apart sideways.Left Left room page page' one other h = inl (inl (λ p q of of'. twice (stands page one p).x (stands page' other q).x (pos room.gutter_across) (h p q of of')))
across_apart sideways.Left Half room page page' one other h = inr (inl (λ p q of of'. twice (stands page one p).y (stands page' other q).y (pos room.gutter_up) (h p q of of')))
across_apart sideways.Left Right room page page' one other h = inl (inr (backwards room page page' one other h))
across_apart sideways.Right Upright room page page' one other h = inr (inl h)
across_apart sideways.Right Left room page page' one other h = inl (inr (backwards room page page' one other h))
across_apart sideways.Right Half room page page' one other h = inr (inr (downwards room page page' one other h))
across_apart sideways.Right Right room page page' one other h = inl (inl h)

up_apart : (t : Turned) (turn : Turn) (room : Room) (page page' : Paper) (one other : Item) → ComesFirst (λ p. upward (read_turned t (held turn p))) room page one page' other → AreApart room page one page' other
up_apart sideways.Upright Upright room page page' one other h = inr (inl h)
up_apart sideways.Upright Left room page page' one other h = inl (inr (backwards room page page' one other h))
up_apart sideways.Upright Half room page page' one other h = inr (inr (downwards room page page' one other h))
up_apart sideways.Upright Right room page page' one other h = inl (inl h)
up_apart sideways.Left Upright room page page' one other h = inl (inl h)
up_apart sideways.Left Left room page page' one other h = inr (inl h)
up_apart sideways.Left Half room page page' one other h = inl (inr (backwards room page page' one other h))
up_apart sideways.Left Right room page page' one other h = inr (inr (downwards room page page' one other h))
up_apart sideways.Right Upright room page page' one other h = inl (inr (backwards room page page' one other h))
up_apart sideways.Right Left room page page' one other h = inr (inr (downwards room page page' one other h))
up_apart sideways.Right Half room page page' one other h = inl (inl (λ p q of of'. twice (stands page one p).x (stands page' other q).x (pos room.gutter_across) (h p q of of')))
up_apart sideways.Right Right room page page' one other h = inr (inl (λ p q of of'. twice (stands page one p).y (stands page' other q).y (pos room.gutter_up) (h p q of of')))

beside_apart : (t : Turned) (b : Bool) (room : Room) (page page' : Paper) (one other : Item) → IsBeside room t b page one page' other → AreApart room page one page' other
beside_apart t false room page page' one other h = across_apart t one.turn room page page' one other h
beside_apart t true room page page' one other h = other_way room page page' one other (across_apart t other.turn room page' page other one h)

above_apart : (t : Turned) (room : Room) (page page' : Paper) (one other : Item) → IsAbove room t page one page' other → AreApart room page one page' other
above_apart t room page page' one other h = other_way room page page' one other (up_apart t one.turn room page' page other one h)

pub in_run_apart : (run : FillOrder) (t : Turned) (b : Bool) (room : Room) (page page' : Paper) (one other : Item) → ComesInRun run room t b page one page' other → AreApart room page one page' other
in_run_apart Rows t b room page page' one other h = beside_apart t b room page page' one other h
in_run_apart Columns t b room page page' one other h = above_apart t room page page' one other h

in_runs_apart : (run : FillOrder) (t : Turned) (b : Bool) (room : Room) (page page' : Paper) (one other : Item) → ComesInRunBefore run room t b page one page' other → AreApart room page one page' other
in_runs_apart Rows t b room page page' one other h = above_apart t room page page' one other h
in_runs_apart Columns t b room page page' one other h = beside_apart t b room page page' one other h

pub grid_apart : GridIsApart
grid_apart page page' room g o s s' k l is is' on place place' in_k in_l differ =
    let i = item_in_cell page room g o s k in
    let j = item_in_cell page' room g o s' l in
    let forth = grid_in_order page page' room g o s s' k l is is' on place place' in_k in_l in
    let again = grid_in_order page' page room g o s' s l k is' is on place' place in_l in_k in
    by_order (k % run_in o.run o.turned g) (l % run_in o.run o.turned g)
    (λ h. in_run_apart o.run o.turned o.right_to_left room page page' i j (forth.0 h))
    (λ h. other_way room page page' i j (in_run_apart o.run o.turned o.right_to_left room page' page j i (again.0 h)))
    (λ along. by_order (k / run_in o.run o.turned g) (l / run_in o.run o.turned g)
    (λ h. in_runs_apart o.run o.turned o.right_to_left room page page' i j (forth.1 h))
    (λ h. other_way room page page' i j (in_runs_apart o.run o.turned o.right_to_left room page' page j i (again.1 h)))
    (λ across. absurd (differ (same_place k l (run_in o.run o.turned g) across along))))
