-- Leaves that creep.
use Rattle.std.proofs.Common.{arith, ◌≡◌, ℕ, ◌+◌, ◌-◌, ◌*◌, ◌/◌, ◌<◌, ◌≤◌, Bool, true, false, refl, sym, ap, subst, ◌∙◌}
use Rattle.std.specs.Prelude.{ℤ, pos, negsuc, ◌≤ℤ◌, ◌+ℤ◌, ◌-ℤ◌, ◌*ℤ◌, nat_abs, nat_le, if◌then◌else◌}
use Rattle.std.proofs.Math.Nat.{mul-div_cancel, mul_comm, zero-mul, zero-div, mul-le-mul_right, div-mul-le_self}
use Rattle.std.proofs.lemmas.Bool.{cond-false, leb-true, lt-leb}
use Rattle.std.proofs.lemmas.Nat.{le-div}
use Rattle.std.proofs.lemmas.Int.{ints}
use Rattle.rules.specs.Papers.{Paper}
use Rattle.rules.specs.Specification.{Left}
use Rattle.rules.specs.Placement.{Point}
use Rattle.layouts.specs.Placed.{Room, fine, stands, IsOfPage}
use Rattle.layouts.specs.Cells.{Along, along_height, cell, slack, to_right, to_top, row_of, column_of}
use Rattle.layouts.specs.Grids.{beside, leaf_order}
use Rattle.layouts.specs.Laws.{HasPlace, IsPaper}
use Rattle.layouts.proofs.AlongSide.{moved_back, in_cell}
use Rattle.layouts.proofs.Sides.{of_sides, placed, point, between}
use Rattle.layouts.proofs.OnSide.{HasCell, ends, shown, trimmed, from_start}
use Rattle.layouts.proofs.InGrid.{fits, sides_are}
use Rattle.layouts.proofs.Folds.{fold, kept_little, in_middle, has_cell}
use Rattle.row_sheets.specs.Creep.{creep_of, moved_up, to_fold, leaf_item, may_creep, StaysBefore, StaysBehind, CreepMoves, CreepGrows, CreepKeepsSides}

moved_at : (page : Paper) (k s : ℕ) (x y by : ℤ) (p : Point)
    → ((stands page (moved_up by (placed Left k s x y)) p).x ≡ (stands page (placed Left k s x y) p).x)
    × ((stands page (moved_up by (placed Left k s x y)) p).y ≡ (stands page (placed Left k s x y) p).y +ℤ (pos 1_270_000_000_000_000 *ℤ by))
moved_at page k s x y by p = (refl, omega (arith, ints))

pub creep_moves : CreepMoves
creep_moves page room b s creep k p =
    let row = row_of (leaf_order b) (beside true) k in
    let column = column_of (leaf_order b) (beside true) k in
    moved_at page k s (to_right page room (beside true) s row column) (to_top page room (beside true) s row column) (to_fold b k creep) p

-- ---- how far

more_leaves : (leaves i creep : ℕ) → 1 < leaves → creep_of creep leaves i ≡ i * creep / (leaves - 1)
more_leaves leaves i creep h = cond-false (nat_le leaves 1) 0 (i * creep / (leaves - 1)) (lt-leb leaves 1 h)

no_farther : (a b d : ℕ) → 0 < d → a ≤ b → a / d ≤ b / d
no_farther a b d some h = le-div (a / d) b d some (omega (arith, h, div-mul-le_self a d))

whole_creep : (d creep : ℕ) → 0 < d → d * creep / d ≡ creep
whole_creep d creep some = ap (λ m. m / d) (mul_comm d creep) ∙ mul-div_cancel creep some

pub creep_grows : CreepGrows
creep_grows creep leaves i many more =
    let d = leaves - 1 in
    let some : 0 < d = omega (arith, many) in
    let here = more_leaves leaves i creep many in
    let next = more_leaves leaves (i + 1) creep many in
    let first : 0 * creep / d ≡ 0 = ap (λ m. m / d) (zero-mul creep) ∙ zero-div d in
    let step : i * creep ≤ (i + 1) * creep = mul-le-mul_right creep (omega arith) in
    let least : i * creep ≤ d * creep = mul-le-mul_right creep (omega (arith, more)) in (
      more_leaves leaves 0 creep many ∙ first,
      more_leaves leaves (leaves - 1) creep many ∙ whole_creep d creep some,
      omega (arith, here, next, no_farther (i * creep) ((i + 1) * creep) d some step),
      omega (arith, here, no_farther (i * creep) (d * creep) d some least, whole_creep d creep some),
    )

-- ---- the fold

before_at : (v u k s : ℕ) (a : Along) (h : ℕ) (x : ℤ) (creep : ℕ) → HasCell a h 2 v s → 2 * creep ≤ 2 * slack (cell a h 2) (shown a v) s + a.gap
    → (c e : ℤ) → IsOfPage a.trim (of_sides v u) (point c e)
    → (pos 2 *ℤ (stands (of_sides v u) (moved_up (pos creep) (placed Left k s x (pos (from_start a h 2 v s 0) -ℤ pos (trimmed a s)))) (point c e)).y) ≤ℤ fine (fold a h)
before_at v u k s a h x creep has may (pos c) e of =
    let most = (between a.trim v s c (let f = of.left in omega (arith, ints)) (let f = of.right in omega (arith, ints))).end in
    let f = ends a v s a.gap has.left in
    let is = f.end in let more = f.kept in let some = has.some in
    omega (arith, ints, most, is, more, some, may, in_cell (cell a h 2) (shown a v) s has.fits, (kept_little a.trim a.gap).0)
before_at v u k s a h x creep has may (negsuc c) e of = absurd (let f = of.left in omega (arith, ints))

behind_at : (v u k s : ℕ) (a : Along) (h : ℕ) (x : ℤ) (creep : ℕ) → HasCell a h 2 v s → 2 * creep ≤ 2 * slack (cell a h 2) (shown a v) s + a.gap
    → (c e : ℤ) → IsOfPage a.trim (of_sides v u) (point c e)
    → fine (fold a h) ≤ℤ (pos 2 *ℤ (stands (of_sides v u) (moved_up (pos 0 -ℤ pos creep) (placed Left k s x (pos (from_start a h 2 v s 1) -ℤ pos (trimmed a s)))) (point c e)).y)
behind_at v u k s a h x creep has may (pos c) e of =
    let least = (between a.trim v s c (let f = of.left in omega (arith, ints)) (let f = of.right in omega (arith, ints))).start in
    let back = moved_back a.trim s in
    let some = has.some in
    omega (arith, ints, least, back, some, may, (kept_little a.trim a.gap).0)
behind_at v u k s a h x creep has may (negsuc c) e of = absurd (let f = of.left in omega (arith, ints))

-- the one page, and the other

room_left : (v u : ℕ) (room : Room) (s creep : ℕ) → may_creep (of_sides v u) room s creep ≡ true
    → 2 * creep ≤ 2 * slack (cell (along_height room) (nat_abs room.paper.height) 2) (shown (along_height room) v) s + room.gutter_up
room_left v u room s creep may = leb-true (2 * creep) (2 * slack (cell (along_height room) (nat_abs room.paper.height) 2) (shown (along_height room) v) s + room.gutter_up) may

before_fold : (v u : ℕ) (room : Room) (b : Bool) (s creep : ℕ) → HasPlace (of_sides v u) room (beside true) s → may_creep (of_sides v u) room s creep ≡ true
    → StaysBefore room (fold (along_height room) (nat_abs room.paper.height)) (of_sides v u) (leaf_item (of_sides v u) room b s creep (if b then 1 else 0))
before_fold v u room false s creep place may p of =
    before_at v u 0 s (along_height room) (nat_abs room.paper.height) (to_right (of_sides v u) room (beside true) s 0 0) creep (has_cell v u room s place) (room_left v u room s creep may) p.x p.y of
before_fold v u room true s creep place may p of =
    before_at v u 1 s (along_height room) (nat_abs room.paper.height) (to_right (of_sides v u) room (beside true) s 0 0) creep (has_cell v u room s place) (room_left v u room s creep may) p.x p.y of

behind_fold : (v u : ℕ) (room : Room) (b : Bool) (s creep : ℕ) → HasPlace (of_sides v u) room (beside true) s → may_creep (of_sides v u) room s creep ≡ true
    → StaysBehind room (fold (along_height room) (nat_abs room.paper.height)) (of_sides v u) (leaf_item (of_sides v u) room b s creep (if b then 0 else 1))
behind_fold v u room false s creep place may p of =
    behind_at v u 1 s (along_height room) (nat_abs room.paper.height) (to_right (of_sides v u) room (beside true) s 0 1) creep (has_cell v u room s place) (room_left v u room s creep may) p.x p.y of
behind_fold v u room true s creep place may p of =
    behind_at v u 0 s (along_height room) (nat_abs room.paper.height) (to_right (of_sides v u) room (beside true) s 0 1) creep (has_cell v u room s place) (room_left v u room s creep may) p.x p.y of

-- of any page

abbrev BeforeIf : (room : Room) (b : Bool) (s creep : ℕ) → Paper → Type 0
BeforeIf room b s creep o = HasPlace o room (beside true) s → may_creep o room s creep ≡ true
    → StaysBefore room (fold (along_height room) (nat_abs room.paper.height)) o (leaf_item o room b s creep (if b then 1 else 0))

pub stays_before : (page : Paper) (room : Room) (b : Bool) (s creep : ℕ) → IsPaper page → HasPlace page room (beside true) s → may_creep page room s creep ≡ true
    → StaysBefore room (fold (along_height room) (nat_abs room.paper.height)) page (leaf_item page room b s creep (if b then 1 else 0))
stays_before page room b s creep is place may =
    subst (BeforeIf room b s creep) (sym (sides_are page is)) (λ here may. before_fold (nat_abs page.width) (nat_abs page.height) room b s creep here may) place may

abbrev BehindIf : (room : Room) (b : Bool) (s creep : ℕ) → Paper → Type 0
BehindIf room b s creep o = HasPlace o room (beside true) s → may_creep o room s creep ≡ true
    → StaysBehind room (fold (along_height room) (nat_abs room.paper.height)) o (leaf_item o room b s creep (if b then 0 else 1))

pub stays_behind : (page : Paper) (room : Room) (b : Bool) (s creep : ℕ) → IsPaper page → HasPlace page room (beside true) s → may_creep page room s creep ≡ true
    → StaysBehind room (fold (along_height room) (nat_abs room.paper.height)) page (leaf_item page room b s creep (if b then 0 else 1))
stays_behind page room b s creep is place may =
    subst (BehindIf room b s creep) (sym (sides_are page is)) (λ here may. behind_fold (nat_abs page.width) (nat_abs page.height) room b s creep here may) place may

pub creep_keeps_sides : CreepKeepsSides
creep_keeps_sides page room b s creep is even place may =
    let h = nat_abs room.paper.height in
    let middle = in_middle (along_height room) h even.up (fits page room (beside true) s place).some_wide in
    record {
      twice = fold (along_height room) h;
      no_farther = middle.0;
      no_nearer = middle.1;
      before = stays_before page room b s creep is place may;
      behind = stays_behind page room b s creep is place may;
    }
