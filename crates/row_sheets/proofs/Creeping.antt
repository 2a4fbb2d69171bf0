-- Pages on leaves that creep stay within reach, as long as there is room at the fold.
use Rattle.std.proofs.Common.{arith, ◌≡◌, ℕ, suc, zero, ◌+◌, ◌*◌, ◌<◌, ◌≤◌, Bool, true, false, Option, None, sym, ap, subst, ◌∙◌}
use Rattle.std.specs.Prelude.{ℤ, pos, neg_ℤ, ◌+ℤ◌, ◌-ℤ◌, ◌*ℤ◌, nat_abs, nat_lt}
use Rattle.std.proofs.lemmas.Bool.{leb-true, ltb-true}
use Rattle.std.proofs.lemmas.Int.{ints}
use Rattle.rules.specs.Numbers.{greatest_number}
use Rattle.rules.specs.Papers.{Paper}
use Rattle.rules.specs.Specification.{Item}
use Rattle.layouts.specs.declared.setting.Setting.{Setting}
use Rattle.layouts.specs.Placed.{Room}
use Rattle.layouts.specs.Cells.{Along, along_height, cell, trimmed_side, size, slack, trimmed, whole_parts}
use Rattle.layouts.specs.Grids.{beside, leaf_order}
use Rattle.layouts.specs.Fitted.{scale_on, why_no_scale_on}
use Rattle.layouts.proofs.AlongSide.{in_cell, cells_fit}
use Rattle.layouts.proofs.OnSide.{HasCell, shown, from_start}
use Rattle.layouts.proofs.InGrid.{fits, both_true}
use Rattle.layouts.proofs.Folds.{kept_little}
use Rattle.layouts.proofs.Fitting.{has_scale}
use Rattle.row_sheets.specs.Creep.{up_to_fold, moved_up, may_creep, creeping, AreHalves}
use Rattle.row_sheets.specs.Filled.{in_half}

-- ---- a page on its half

record Within (a : Along) (h v s creep : ℕ) : Type 0 where
  pub before : from_start a h 2 v s 0 + creep ≤ whole_parts h
  pub behind : creep ≤ from_start a h 2 v s 1
  pub ends : from_start a h 2 v s 1 ≤ whole_parts h

within : (a : Along) (h v s creep : ℕ) → HasCell a h 2 v s → 2 * creep ≤ 2 * slack (cell a h 2) (shown a v) s + a.gap → Within a h v s creep
within a h v s creep has may =
    let some = has.some in
    let fit = in_cell (cell a h 2) (shown a v) s has.fits in
    let all = cells_fit a h 2 0 some (omega arith) in
    let little = (kept_little a.trim a.gap).0 in
    record {
      before = omega (arith, some, fit, all, may, little);
      behind = omega (arith, some, may, little);
      ends = omega (arith, some, fit, all, little);
    }

-- at the largest numbers that there are

up_front : (a t c W : ℕ) → a + c ≤ W → W + t < 10_000_000_000 → nat_abs ((pos 10_000 *ℤ (pos a -ℤ pos t)) +ℤ (pos 10_000 *ℤ pos c)) ≤ greatest_number
up_front a t c W h near = omega (arith, ints, h, near)

down_front : (a t c W : ℕ) → c ≤ a → a ≤ W → W + t < 10_000_000_000 → nat_abs ((pos 10_000 *ℤ (pos a -ℤ pos t)) +ℤ (pos 10_000 *ℤ (pos 0 -ℤ pos c))) ≤ greatest_number
down_front a t c W h most near = omega (arith, ints, h, most, near)

down_back : (a t c W : ℕ) → a + c ≤ W → W + t < 10_000_000_000 → nat_abs ((pos 10_000 *ℤ (pos W -ℤ (pos a -ℤ pos t))) +ℤ (pos 10_000 *ℤ neg_ℤ (pos c))) ≤ greatest_number
down_back a t c W h near = omega (arith, ints, h, near)

up_back : (a t c W : ℕ) → c ≤ a → a ≤ W → W + t < 10_000_000_000 → nat_abs ((pos 10_000 *ℤ (pos W -ℤ (pos a -ℤ pos t))) +ℤ (pos 10_000 *ℤ neg_ℤ (pos 0 -ℤ pos c))) ≤ greatest_number
up_back a t c W h most near = omega (arith, ints, h, most, near)

-- ---- settings whose cells are halves

abbrev pub halves : (room : Room) (b : Bool) (asked : Option ℤ) → Setting
halves room b asked = record { room = room; grid = beside true; order = leaf_order b; scale = asked }

halves_are : (t : Setting) → AreHalves t → t ≡ halves t.room t.order.right_to_left t.scale
halves_are t h =
    ap (λ g. record { room = t.room; grid = g; order = t.order; scale = t.scale }) h.grid_is
    ∙ ap (λ o. record { room = t.room; grid = beside true; order = o; scale = t.scale }) h.order_is

-- they are two
pub halves_many : (t : Setting) → AreHalves t → 2 ≤ size t.grid
halves_many t h = subst (λ g. 2 ≤ size g) (sym h.grid_is) (let two : 2 ≤ size (beside true) = omega arith in two)

-- what holds of halves holds of such a setting
pub of_halves : (P : Setting → Type 0) (t : Setting) → AreHalves t → P (halves t.room t.order.right_to_left t.scale) → P t
of_halves P t h p = subst P (sym (halves_are t h)) p

-- a page in its half, with room at the fold
record Creeps (room : Room) (v s creep : ℕ) : Type 0 where
  pub stays : Within (along_height room) (nat_abs room.paper.height) v s creep
  pub near : whole_parts (nat_abs room.paper.height) + trimmed room s < 10_000_000_000

creeps : (page : Paper) (room : Room) (b : Bool) (asked : Option ℤ) (creep : ℕ) → (let s = scale_on (halves room b asked) page in
    why_no_scale_on (halves room b asked) page ≡ None → may_creep page room s creep ≡ true → Creeps room (nat_abs page.width) s creep)
creeps page room b asked creep e may =
    let t = halves room b asked in
    let s = scale_on t page in
    let has = has_scale t page e in
    let f = fits page room (beside true) s has.place in
    let h = nat_abs room.paper.height in
    let cell_is : HasCell (along_height room) h 2 (nat_abs page.width) s = record { some = f.some_wide; fits = f.is_wide; left = has.place.some_wide } in
    let near = both_true (nat_lt (whole_parts (nat_abs room.paper.width) + trimmed room s) 10_000_000_000) (nat_lt (whole_parts h + trimmed room s) 10_000_000_000) has.near in
    record {
      stays = within (along_height room) h (nat_abs page.width) s creep cell_is (leb-true (2 * creep) (2 * slack (cell (along_height room) h 2) (trimmed_side room page.width) s + room.gutter_up) may);
      near = ltb-true (whole_parts h + trimmed room s) 10_000_000_000 near.1;
    }

-- how far up it is in the end, in 10^-9 of a point
abbrev moved : Setting → (by_half : Bool) → (page : Paper) → (k creep : ℕ) → ℤ
moved t by_half page k creep =
    (in_half t by_half page k).y.number +ℤ (pos 10_000 *ℤ up_to_fold t.order.right_to_left by_half k creep)

reach_at : (page : Paper) (room : Room) (b : Bool) (asked : Option ℤ) (by_half : Bool) (k creep : ℕ) → k < 2 → Creeps room (nat_abs page.width) (scale_on (halves room b asked) page) creep
    → nat_abs (moved (halves room b asked) by_half page k creep) ≤ greatest_number
reach_at page room false asked false zero creep less c = up_front _ _ creep _ c.stays.before c.near
reach_at page room false asked false (suc zero) creep less c = down_front _ _ creep _ c.stays.behind c.stays.ends c.near
reach_at page room true asked false zero creep less c = down_front _ _ creep _ c.stays.behind c.stays.ends c.near
reach_at page room true asked false (suc zero) creep less c = up_front _ _ creep _ c.stays.before c.near
reach_at page room false asked true zero creep less c = down_back _ _ creep _ c.stays.before c.near
reach_at page room false asked true (suc zero) creep less c = up_back _ _ creep _ c.stays.behind c.stays.ends c.near
reach_at page room true asked true zero creep less c = up_back _ _ creep _ c.stays.behind c.stays.ends c.near
reach_at page room true asked true (suc zero) creep less c = down_back _ _ creep _ c.stays.before c.near
reach_at page room b asked by_half (suc (suc k)) creep less c = absurd (omega (arith, less))

pub reached : (t : Setting) (page : Paper) (by_half : Bool) (k creep : ℕ) → AreHalves t → k < 2 → why_no_scale_on t page ≡ None → may_creep page t.room (scale_on t page) creep ≡ true
    → nat_abs (moved t by_half page k creep) ≤ greatest_number
reached t page by_half k creep halved less =
    of_halves (λ u. why_no_scale_on u page ≡ None → may_creep page u.room (scale_on u page) creep ≡ true → nat_abs (moved u by_half page k creep) ≤ greatest_number) t halved
    (λ e may. reach_at page t.room t.order.right_to_left t.scale by_half k creep less (creeps page t.room t.order.right_to_left t.scale creep e may))

pub small : (t : Setting) (page : Paper) (creep : ℕ) → AreHalves t → why_no_scale_on t page ≡ None → may_creep page t.room (scale_on t page) creep ≡ true → creep < 10_000_000_000
small t page creep halved =
    of_halves (λ u. why_no_scale_on u page ≡ None → may_creep page u.room (scale_on u page) creep ≡ true → creep < 10_000_000_000) t halved
    (λ e may.
    let c = creeps page t.room t.order.right_to_left t.scale creep e may in
    let before = c.stays.before in let near = c.near in
    omega (arith, before, near))

-- ---- what is moved

pub made_there : (t : Setting) (page : Paper) (by_half : Bool) (k creep : ℕ) (by : ℤ) (item item' : Item) → item' ≡ moved_up by item → by ≡ up_to_fold t.order.right_to_left by_half k creep
    → item ≡ in_half t by_half page k → item' ≡ creeping t by_half page k creep
made_there t page by_half k creep by item item' e f g = e ∙ (ap (λ b. moved_up b item) f ∙ ap (moved_up (up_to_fold t.order.right_to_left by_half k creep)) g)

pub reached_there : (t : Setting) (page : Paper) (by_half : Bool) (k creep : ℕ) (by : ℤ) (item : Item) → AreHalves t → k < 2 → why_no_scale_on t page ≡ None → may_creep page t.room (scale_on t page) creep ≡ true
    → by ≡ up_to_fold t.order.right_to_left by_half k creep → item ≡ in_half t by_half page k → nat_abs (item.y.number +ℤ (pos 10_000 *ℤ by)) ≤ greatest_number
reached_there t page by_half k creep by item halved less scale may f g =
    subst (λ b. nat_abs (item.y.number +ℤ (pos 10_000 *ℤ b)) ≤ greatest_number) (sym f)
    (subst (λ i. nat_abs (i.y.number +ℤ (pos 10_000 *ℤ up_to_fold t.order.right_to_left by_half k creep)) ≤ greatest_number) (sym g) (reached t page by_half k creep halved less scale may))
