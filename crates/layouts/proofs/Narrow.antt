-- Where margins leave nothing of a sheet, no pages are arranged or bound.
use Rattle.std.proofs.Common.{arith, ◌≡◌, ◌∙◌, ℕ, zero, suc, ◌+◌, ◌-◌, ◌*◌, ◌/◌, ◌<◌, ◌≤◌, ◌⊎◌, inl, inr, Bool, true, false, true≢false, None, ap, refl, sym, subst}
use Rattle.std.specs.Prelude.{nat_abs, nat_le, nat_lt, min, not, ◌&&◌, ◌||◌, ◌==◌, is_none, int_le, ℤ, pos, negsuc}
use Rattle.std.proofs.lemmas.Bool.{cond-false, false_from_ne_true, leb-true}
use Rattle.std.proofs.lemmas.Bool.Decides.{nat_tests}
use Rattle.std.proofs.lemmas.Nat.{div_below, mul-le}
use Rattle.rules.specs.Papers.{Paper, is_paper, is_side, longest_side}
use Rattle.layouts.specs.Placed.{Room}
use Rattle.layouts.specs.Cells.{Along, Grid, along_height, along_width, cell, trimmed_side, fitting, kept_length, left_free, scale_in}
use Rattle.layouts.specs.Grids.{beside, cells_per_sheet, grid_of, has_bare_edges, is_itself, is_same, room_of, scale_for}
use Rattle.layouts.specs.Refusals.{NothingIsLeftOfSheet, are_lengths, leaves_room, why_no_scale, why_not_arranged, why_not_bound}
use Rattle.layouts.specs.declared.arrangement.Arrangement.{Arrangement}
use Rattle.layouts.specs.declared.arrangement.Binding.{Binding}
use Rattle.layouts.specs.declared.arrangement.Free.{Free}
use Rattle.layouts.specs.declared.error.ArrangementError.TheVariants as why
use Rattle.layouts.proofs.InGrid.{both_true}
use Rattle.layouts.proofs.Fitting.{leaves_scaled, nothing_refuses}
use Rattle.layouts.proofs.Possible.{passed}

-- ---- a cell of a side of which nothing is left

by_none : (n : ℕ) → n / 0 ≡ 0
by_none n = omega arith

none_of : (n : ℕ) → 0 / n ≡ 0
none_of zero = refl
none_of (suc n) = let below : 0 / suc n < 1 = div_below 0 (suc n) 1 (omega arith) (omega arith) in omega (arith, below)

-- a part of it is no longer than the gap
no_longer : (g parts : ℕ) → (0 + 1_270_000 * g) / (1_270_000 * parts) ≤ g
no_longer g zero = let none = by_none (0 + 1_270_000 * g) in omega (arith, none)
no_longer g (suc p) =
    let wide : suc g * 1_270_000 ≤ suc g * (1_270_000 * suc p) = mul-le (suc g) 1_270_000 (suc g) (1_270_000 * suc p) (omega arith) (omega arith) in
    let within : 0 + 1_270_000 * g < suc g * (1_270_000 * suc p) = omega (arith, wide) in
    let below = div_below (0 + 1_270_000 * g) (1_270_000 * suc p) (suc g) (omega arith) within in
    omega (arith, below)

no_cell : (a : Along) (side parts : ℕ) → left_free a side ≡ 0 → cell a side parts ≡ 0
no_cell a side parts none =
    let part = no_longer (kept_length a.trim a.gap) parts in
    ap (λ (n : ℕ). (n + 1_270_000 * kept_length a.trim a.gap) / (1_270_000 * parts) - kept_length a.trim a.gap) none ∙ omega (arith, part)

no_fitting : (length side : ℕ) → length ≡ 0 → fitting length side ≡ 0
no_fitting length side none = ap (λ (n : ℕ). 1_270_000_000_000_000 * n / side) none ∙ none_of side

min_first : (a b : ℕ) → a ≡ 0 → min a b ≡ 0
min_first a b none = grind (arith, nat_tests)

min_second : (a b : ℕ) → b ≡ 0 → min a b ≡ 0
min_second a b none = grind (arith, nat_tests)

abbrev IsNarrow : Room → Type 0
IsNarrow room = (left_free (along_width room) (nat_abs room.paper.width) ≡ 0) ⊎ (left_free (along_height room) (nat_abs room.paper.height) ≡ 0)

-- so pages have no scale, in whatever grid
no_scale : (page : Paper) (room : Room) (rows columns : ℕ) (turned : Bool) → IsNarrow room → scale_in page room (record { rows = rows; columns = columns; turned = turned }) ≡ 0
no_scale page room rows columns false (inl none) =
    min_first _ _ (no_fitting (cell (along_width room) (nat_abs room.paper.width) columns) (trimmed_side room page.width) (no_cell (along_width room) (nat_abs room.paper.width) columns none))
no_scale page room rows columns false (inr none) =
    min_second _ _ (no_fitting (cell (along_height room) (nat_abs room.paper.height) rows) (trimmed_side room page.height) (no_cell (along_height room) (nat_abs room.paper.height) rows none))
no_scale page room rows columns true (inl none) =
    min_second _ _ (no_fitting (cell (along_width room) (nat_abs room.paper.width) rows) (trimmed_side room page.height) (no_cell (along_width room) (nat_abs room.paper.width) rows none))
no_scale page room rows columns true (inr none) =
    min_first _ _ (no_fitting (cell (along_height room) (nat_abs room.paper.height) columns) (trimmed_side room page.width) (no_cell (along_height room) (nat_abs room.paper.height) columns none))

refused : (room : Room) (s largest : ℕ) → largest ≡ 0 → why_no_scale room s largest ≡ None → ⊥
refused room s largest none h = let some = leb-true 1 largest (passed (nat_le 1 largest) (why.NoRoom room) _ h).0 in absurd (omega (arith, some, none))

-- ---- where nothing is left

neither : (a b c : Bool) → (not a || (b && c)) ≡ false → (b ≡ false) ⊎ (c ≡ false)
neither true false c h = inl refl
neither true true false h = inr refl
neither true true true h = absurd (true≢false h)
neither false b c h = absurd (true≢false h)

nothing : (n : ℕ) → nat_lt 0 n ≡ false → n ≡ 0
nothing n h = grind (arith, nat_tests)

narrow : (sheet : Paper) (f : Free) → leaves_room sheet f ≡ false → IsNarrow (room_of sheet f)
narrow sheet f h =
    let room = room_of sheet f in
    elim (neither (are_lengths f) (nat_lt 0 (left_free (along_width room) (nat_abs sheet.width))) (nat_lt 0 (left_free (along_height room) (nat_abs sheet.height))) h) as (λ _. IsNarrow (room_of sheet f))
    [ inl none ↦ inl (nothing _ none) | inr none ↦ inr (nothing _ none) ]

-- a sheet without margins has all of its sides
bare_is_whole : (side : ℕ) (a : Along) → a.trim ≡ 0 → a.before ≡ 0 → a.after ≡ 0 → left_free a side ≡ side
bare_is_whole side a trim before after =
    ap (λ (t : ℕ). side - 1_270_000 * (kept_length t a.before + kept_length t a.after)) trim ∙ omega (arith, before, after)

some_side : (z : ℤ) → is_side z ≡ true → 0 < nat_abs z
some_side (pos n) is = let some = both_true (int_le (pos 1) (pos n)) (int_le (pos n) (pos longest_side)) is in leb-true 1 n some.0
some_side (negsuc n) is = absurd (true≢false (sym is))

record IsBare (room : Room) : Type 0 where
  pub left : room.left ≡ 0
  pub right : room.right ≡ 0
  pub bottom : room.bottom ≡ 0
  pub top : room.top ≡ 0
  pub trim : room.trim ≡ 0

zero_of : (n : ℕ) → (n == 0) ≡ true → n ≡ 0
zero_of n h = grind (arith, nat_tests)

bare : (room : Room) → has_bare_edges room ≡ true → IsBare room
bare room h =
    let both = both_true (room.left + room.right + (room.bottom + room.top) == 0) (room.trim == 0) h in
    let none = zero_of (room.left + room.right + (room.bottom + room.top)) both.0 in
    record {
      left = omega (arith, none);
      right = omega (arith, none);
      bottom = omega (arith, none);
      top = omega (arith, none);
      trim = zero_of room.trim both.1;
    }

not_itself : (page sheet : Paper) (a : Arrangement) → is_paper sheet.width sheet.height ≡ true → IsNarrow (room_of sheet a.free) → is_itself page sheet a ≡ true → ⊥
not_itself page sheet a is narrow h =
    let room = room_of sheet a.free in
    let three = both_true ((cells_per_sheet a.cells == 1) && is_same page sheet && has_bare_edges room) (is_none a.scale) h in
    let two = both_true ((cells_per_sheet a.cells == 1) && is_same page sheet) (has_bare_edges room) three.0 in
    let b = bare room two.1 in
    let sides = both_true (is_side sheet.width) (is_side sheet.height) is in
    let w = some_side sheet.width sides.0 in
    let v = some_side sheet.height sides.1 in
    elim narrow as (λ _. ⊥) [
      | inl none ↦ none_left (nat_abs sheet.width) (sym (bare_is_whole (nat_abs sheet.width) (along_width room) b.trim b.left b.right) ∙ none) w
      | inr none ↦ none_left (nat_abs sheet.height) (sym (bare_is_whole (nat_abs sheet.height) (along_height room) b.trim b.bottom b.top) ∙ none) v
    ]
  where
    none_left : (n : ℕ) → n ≡ 0 → 0 < n → ⊥
    none_left n none some = omega (arith, none, some)

-- ---- so there is a reason

not_arranged : (page sheet : Paper) (a : Arrangement) → is_paper sheet.width sheet.height ≡ true → IsNarrow (room_of sheet a.free) → why_not_arranged page sheet a ≡ None → ⊥
not_arranged page sheet a is narrow h =
    let holds = nothing_refuses page sheet a h in
    let room = room_of sheet a.free in
    let g : Grid = grid_of page room a.order.turned a.cells in
    let behind : why_no_scale room (scale_for a.scale (scale_in page room g)) (scale_in page room g) ≡ None =
    sym (cond-false (is_itself page sheet a) None _ (false_from_ne_true (is_itself page sheet a) (not_itself page sheet a is narrow))) ∙ holds.behind in
    refused room (scale_for a.scale (scale_in page room g)) (scale_in page room g) (no_scale page room g.rows g.columns g.turned narrow) behind

not_bound : (page sheet : Paper) (b : Binding) → IsNarrow (room_of sheet b.free) → why_not_bound page sheet b ≡ None → ⊥
not_bound page sheet b narrow h =
    let room = room_of sheet b.free in
    refused room (scale_for b.scale (scale_in page room (beside true))) (scale_in page room (beside true)) (no_scale page room 1 2 true narrow) (leaves_scaled page sheet b h)

pub nothing_is_left : NothingIsLeftOfSheet
nothing_is_left page sheet f is h = record {
  arranged = λ a of. not_arranged page sheet a is (subst (λ (e : Free). IsNarrow (room_of sheet e)) (sym of) (narrow sheet f h));
  bound = λ b of. not_bound page sheet b (subst (λ (e : Free). IsNarrow (room_of sheet e)) (sym of) (narrow sheet f h));
}
