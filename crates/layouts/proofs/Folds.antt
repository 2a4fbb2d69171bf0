-- Nothing crosses the fold of a leaf.
use Rattle.std.proofs.Common.{arith, ◌≡◌, ℕ, suc, zero, ◌+◌, ◌-◌, ◌*◌, ◌<◌, ◌≤◌, Bool, true, false, refl, sym, ap, subst}
use Rattle.std.specs.Prelude.{ℤ, pos, negsuc, ◌≤ℤ◌, ◌+ℤ◌, ◌-ℤ◌, ◌*ℤ◌, nat_abs, ◌==◌, if◌then◌else◌}
use Rattle.std.proofs.Math.Nat.{lt-div-mul-add, div-mul-le_self}
use Rattle.std.proofs.lemmas.Int.{ints}
use Rattle.rules.specs.Papers.{Paper}
use Rattle.rules.specs.Specification.{Item, Left}
use Rattle.layouts.specs.Placed.{Room, fine, stands, IsOfPage}
use Rattle.layouts.specs.Cells.{Along, along_height, cell, kept_length, pitch, left_free, whole_parts, item_in_cell, to_right}
use Rattle.layouts.specs.Grids.{beside, leaf_order}
use Rattle.layouts.specs.Laws.{IsPaper, HasPlace, IsHalfTurnOf, LiesBefore, LiesBehind, LeafKeepsFold, RightToLeftIsMirror}
use Rattle.layouts.proofs.AlongSide.{moved_back, in_cell, cells_fit}
use Rattle.layouts.proofs.Sides.{of_sides, placed, point, between}
use Rattle.layouts.proofs.OnSide.{HasCell, ends, shown, trimmed, from_start}
use Rattle.layouts.proofs.InGrid.{across_of, fits, sides_are}

-- twice as far up as the fold
abbrev pub fold : Along → (side : ℕ) → ℕ
fold a h = 2 * (kept_length a.trim a.before + pitch a h 2) - a.gap

pub kept_little : (l n : ℕ) → (n ≤ kept_length l n) × (kept_length l n ≤ n + 1)
kept_little l n = either (l == 0) n
  where
    either : (b : Bool) (n : ℕ) → (n ≤ (if b then n else n + 1)) × ((if b then n else n + 1) ≤ n + 1)
    either true n = (omega arith, omega arith)
    either false n = (omega arith, omega arith)

-- it is in the middle of the side, if as much is kept free at both ends
pub in_middle : (a : Along) (h : ℕ) → a.before ≡ a.after → 0 < cell a h 2 → (fold a h ≤ whole_parts h + 1) × (whole_parts h ≤ fold a h + 1)
in_middle a h even some =
    let p = pitch a h 2 in
    let D = kept_length a.trim a.gap in
    let E = kept_length a.trim a.before in
    let same : kept_length a.trim a.before ≡ kept_length a.trim a.after = ap (kept_length a.trim) even in
    let little = kept_little a.trim a.gap in
    let most = cells_fit a h 2 0 some (omega arith) in
    let least : left_free a h + 1_270_000 * D < p * (1_270_000 * 2) + 1_270_000 * 2 = lt-div-mul-add {a = left_free a h + 1_270_000 * D} {b = 1_270_000 * 2} (omega arith) in
    (omega (arith, some, same, most, little.0, little.1), omega (arith, some, same, most, least, little.0, little.1, div-mul-le_self h 1_270_000))

before_at : (v u k s : ℕ) (a : Along) (h : ℕ) (x : ℤ) → HasCell a h 2 v s
    → (c e : ℤ) → IsOfPage a.trim (of_sides v u) (point c e)
    → ((pos 2 *ℤ (stands (of_sides v u) (placed Left k s x (pos (from_start a h 2 v s 0) -ℤ pos (trimmed a s))) (point c e)).y) +ℤ fine a.gap) ≤ℤ fine (fold a h)
before_at v u k s a h x has (pos c) e of =
    let most = (between a.trim v s c (let f = of.left in omega (arith, ints)) (let f = of.right in omega (arith, ints))).end in
    let f = ends a v s a.gap has.left in
    let is = f.end in let more = f.kept in let some = has.some in
    omega (arith, ints, most, is, more, some, in_cell (cell a h 2) (shown a v) s has.fits, (kept_little a.trim a.gap).0)
before_at v u k s a h x has (negsuc c) e of = absurd (let f = of.left in omega (arith, ints))

behind_at : (v u k s : ℕ) (a : Along) (h : ℕ) (x : ℤ) → HasCell a h 2 v s
    → (c e : ℤ) → IsOfPage a.trim (of_sides v u) (point c e)
    → (fine (fold a h) +ℤ fine a.gap) ≤ℤ (pos 2 *ℤ (stands (of_sides v u) (placed Left k s x (pos (from_start a h 2 v s 1) -ℤ pos (trimmed a s))) (point c e)).y)
behind_at v u k s a h x has (pos c) e of =
    let least = (between a.trim v s c (let f = of.left in omega (arith, ints)) (let f = of.right in omega (arith, ints))).start in
    let back = moved_back a.trim s in
    let some = has.some in
    omega (arith, ints, least, back, some, (kept_little a.trim a.gap).0)
behind_at v u k s a h x has (negsuc c) e of = absurd (let f = of.left in omega (arith, ints))

pub has_cell : (v u : ℕ) (room : Room) (s : ℕ) → HasPlace (of_sides v u) room (beside true) s → HasCell (along_height room) (nat_abs room.paper.height) 2 v s
has_cell v u room s place = across_of v u room 1 2 true s place

-- one page, whatever its paper

front_before : (v u : ℕ) (room : Room) (b : Bool) (s : ℕ) → HasPlace (of_sides v u) room (beside true) s
    → LiesBefore room (fold (along_height room) (nat_abs room.paper.height)) (of_sides v u) (item_in_cell (of_sides v u) room (beside true) (leaf_order b) s (if b then 1 else 0))
front_before v u room false s place p of =
    before_at v u 0 s (along_height room) (nat_abs room.paper.height) (to_right (of_sides v u) room (beside true) s 0 0) (has_cell v u room s place) p.x p.y of
front_before v u room true s place p of =
    before_at v u 1 s (along_height room) (nat_abs room.paper.height) (to_right (of_sides v u) room (beside true) s 0 0) (has_cell v u room s place) p.x p.y of

front_behind : (v u : ℕ) (room : Room) (b : Bool) (s : ℕ) → HasPlace (of_sides v u) room (beside true) s
    → LiesBehind room (fold (along_height room) (nat_abs room.paper.height)) (of_sides v u) (item_in_cell (of_sides v u) room (beside true) (leaf_order b) s (if b then 0 else 1))
front_behind v u room false s place p of =
    behind_at v u 1 s (along_height room) (nat_abs room.paper.height) (to_right (of_sides v u) room (beside true) s 0 1) (has_cell v u room s place) p.x p.y of
front_behind v u room true s place p of =
    behind_at v u 0 s (along_height room) (nat_abs room.paper.height) (to_right (of_sides v u) room (beside true) s 0 1) (has_cell v u room s place) p.x p.y of

abbrev BeforeIf : (room : Room) (b : Bool) (s : ℕ) → Paper → Type 0
BeforeIf room b s o = HasPlace o room (beside true) s
    → LiesBefore room (fold (along_height room) (nat_abs room.paper.height)) o (item_in_cell o room (beside true) (leaf_order b) s (if b then 1 else 0))

pub lies_before : (page : Paper) (room : Room) (b : Bool) (s : ℕ) → IsPaper page → HasPlace page room (beside true) s
    → LiesBefore room (fold (along_height room) (nat_abs room.paper.height)) page (item_in_cell page room (beside true) (leaf_order b) s (if b then 1 else 0))
lies_before page room b s is place =
    subst (BeforeIf room b s) (sym (sides_are page is)) (λ here. front_before (nat_abs page.width) (nat_abs page.height) room b s here) place

abbrev BehindIf : (room : Room) (b : Bool) (s : ℕ) → Paper → Type 0
BehindIf room b s o = HasPlace o room (beside true) s
    → LiesBehind room (fold (along_height room) (nat_abs room.paper.height)) o (item_in_cell o room (beside true) (leaf_order b) s (if b then 0 else 1))

pub lies_behind : (page : Paper) (room : Room) (b : Bool) (s : ℕ) → IsPaper page → HasPlace page room (beside true) s
    → LiesBehind room (fold (along_height room) (nat_abs room.paper.height)) page (item_in_cell page room (beside true) (leaf_order b) s (if b then 0 else 1))
lies_behind page room b s is place =
    subst (BehindIf room b s) (sym (sides_are page is)) (λ here. front_behind (nat_abs page.width) (nat_abs page.height) room b s here) place

-- the fold isn't as far up as twice the sheet
pub fold_on_sheet : (a : Along) (h : ℕ) → a.before ≡ a.after → 0 < cell a h 2 → fold a h ≤ 2 * whole_parts h
fold_on_sheet a h even some =
    let little = kept_little a.trim a.gap in
    let same : kept_length a.trim a.before ≡ kept_length a.trim a.after = ap (kept_length a.trim) even in
    omega (arith, some, same, cells_fit a h 2 0 some (omega arith), little.0, little.1)

-- a page that is turned by half lies on the other side of a fold that is turned too

behind_turned : (T W g : ℕ) (y y' : ℤ) → T ≤ 2 * W → ((pos 2 *ℤ y) +ℤ fine g) ≤ℤ fine T → y' ≡ (pos 1_270_000_000_000_000 *ℤ pos W) -ℤ y → (fine (2 * W - T) +ℤ fine g) ≤ℤ (pos 2 *ℤ y')
behind_turned T W g y y' most h e = omega (arith, ints, most, h, e)

before_turned : (T W g : ℕ) (y y' : ℤ) → T ≤ 2 * W → (fine T +ℤ fine g) ≤ℤ (pos 2 *ℤ y) → y' ≡ (pos 1_270_000_000_000_000 *ℤ pos W) -ℤ y → ((pos 2 *ℤ y') +ℤ fine g) ≤ℤ fine (2 * W - T)
before_turned T W g y y' most h e = omega (arith, ints, most, h, e)

pub turned_behind : (room : Room) (T : ℕ) (page : Paper) (one other : Item) → T ≤ 2 * whole_parts (nat_abs room.paper.height) → LiesBefore room T page one → IsHalfTurnOf page room.paper one other
    → LiesBehind room (2 * whole_parts (nat_abs room.paper.height) - T) page other
turned_behind room T page one other most h half p of =
    behind_turned T (whole_parts (nat_abs room.paper.height)) room.gutter_up (stands page one p).y (stands page other p).y most (h p of) (half.up p)

pub turned_before : (room : Room) (T : ℕ) (page : Paper) (one other : Item) → T ≤ 2 * whole_parts (nat_abs room.paper.height) → LiesBehind room T page one → IsHalfTurnOf page room.paper one other
    → LiesBefore room (2 * whole_parts (nat_abs room.paper.height) - T) page other
turned_before room T page one other most h half p of =
    before_turned T (whole_parts (nat_abs room.paper.height)) room.gutter_up (stands page one p).y (stands page other p).y most (h p of) (half.up p)

pub leaf_keeps_fold : LeafKeepsFold
leaf_keeps_fold page room b s is on even place =
    let h = nat_abs room.paper.height in
    let middle = in_middle (along_height room) h even.up (fits page room (beside true) s place).some_wide in
    record {
      twice = fold (along_height room) h;
      no_farther = middle.0;
      no_nearer = middle.1;
      before = lies_before page room b s is place;
      behind = lies_behind page room b s is place;
    }

pub mirror : RightToLeftIsMirror
mirror page room s zero less = refl
mirror page room s (suc zero) less = refl
mirror page room s (suc (suc k)) less = absurd (omega (arith, less))
