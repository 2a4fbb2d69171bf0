-- Pages of several papers, each fitted into its cell.
use Rattle.std.proofs.Common.{arith, rules, ◌≡◌, ◌≢◌, ℕ, suc, zero, ◌+◌, ◌*◌, ◌/◌, ◌%◌, ◌<◌, ◌≤◌, Bool, true, false, Ok, Err, Option, None, refl, sym, ap, subst, ◌∙◌}
use Rattle.std.specs.Prelude.{◌&&◌, ◌==◌, not, nat_le, nat_lt, nat_abs, if◌then◌else◌, is_none, IfErr, IsErrAnd, Result}
use Rattle.std.proofs.lemmas.Bool.{cond-false, cond-true, false_from_ne_true, leb-true}
use Rattle.lengths.proofs.Numbers.{same_byte}
use Rattle.rules.specs.Papers.{Paper}
use Rattle.rules.specs.Specification.{Item}
use Rattle.layouts.specs.declared.arrangement.Arrangement.{Arrangement}
use Rattle.layouts.specs.declared.arrangement.Binding.{Binding}
use Rattle.layouts.specs.declared.arrangement.Cells.{Cells}
use Rattle.layouts.specs.declared.arrangement.Cells.TheVariants.{AtLeast, Exactly}
use Rattle.layouts.specs.declared.arrangement.Turned.{Turned}
use Rattle.layouts.specs.declared.arrangement.Turned.TheVariants as sideways
use Rattle.layouts.specs.declared.arrangement.Order.{Order}
use Rattle.layouts.specs.declared.error.ArrangementError.{ArrangementError}
use Rattle.layouts.specs.declared.error.ArrangementError.TheVariants as why
use Rattle.layouts.specs.declared.setting.Setting.{Setting}
use Rattle.layouts.specs.Placed.{IsEven, Room, IsInside, AreApart, stands}
use Rattle.layouts.specs.Cells.{Grid, along_height, size, kept_length, scale_in, item_in_cell, run_in, read_rows, row_of, column_of}
use Rattle.layouts.specs.Grids.{beside, has_bare_edges, leaf_order, page_alone, is_same, is_itself, room_of, grid, grid_of, better, best_grid, best_of, best_formed, scale_for, cells_per_sheet, rounded_up, rounded_down}
use Rattle.layouts.specs.Refusals.{error_unless, is_count, is_even, are_lengths, is_paper_reached, is_shown, why_no_scale, why_not_arranged, why_not_bound, folds_short}
use Rattle.layouts.specs.Laws.{IsPaper, HasPlace, IsExact, IsHalfTurnOf, IsInCell, IsInMiddle, cell_at, ComesInRun, ComesInRunBefore, IsNotTiny, Allows, IsChosen}
use Rattle.layouts.specs.Fitted.{is_whole, past_cell, scale_on, fitted, fitted_back, setting_of, binding_setting_of, why_no_scale_on, why_not_fitted, IsFitted, FittedStands, FittedIsApart, FittedIsInOrder, ArrangedIsFitted, HaveOneFold, BoundIsFitted}
use Rattle.layouts.proofs.Folds.{fold, in_middle as fold_in_middle, fold_on_sheet, lies_before, lies_behind, turned_behind, turned_before}
use Rattle.layouts.proofs.InGrid.{fits, cells, room_in, both_true, some_each}
use Rattle.layouts.proofs.InOrder.{grid_inside, grid_in_order}
use Rattle.layouts.proofs.Apart.{grid_apart}
use Rattle.layouts.proofs.Middle.{grid_in_middle}
use Rattle.layouts.proofs.InCell.{farther, grid_in_cell, past_is}
use Rattle.layouts.proofs.Backs.{back_inside, back_is_half_turn, half_turned_apart}
use Rattle.layouts.proofs.BestGrid.{allowed, best_has_cells, best_of_one, one_upright}
use Rattle.layouts.proofs.Printing.{printed_as_it_is}
use Rattle.layouts.proofs.LaidOut.{SameSides, same_sides, one_each, itself_in, itself_exact, itself_large_at, read_best, read_square, is_chosen, enough, beside_large}
use Rattle.layouts.proofs.Possible.{IsMade, bare_edges, even_room, passed, no_scale, good_scale, made, is_alone}

-- ---- a page on a sheet of its own paper

record IsWholePage (t : Setting) (page : Paper) : Type 0 where
  pub one : size t.grid ≡ 1
  pub same : SameSides page t.room.paper
  pub bare : has_bare_edges t.room ≡ true
  pub scale : t.scale ≡ None

whole_page : (t : Setting) (page : Paper) → is_whole t page ≡ true → IsWholePage t page
whole_page t page h =
    let four = both_true ((size t.grid == 1) && is_same page t.room.paper && has_bare_edges t.room && is_none t.scale) (not t.grid.turned) h in
    let three = both_true ((size t.grid == 1) && is_same page t.room.paper && has_bare_edges t.room) (is_none t.scale) four.0 in
    let two = both_true ((size t.grid == 1) && is_same page t.room.paper) (has_bare_edges t.room) three.0 in
    let one = both_true (size t.grid == 1) (is_same page t.room.paper) two.0 in
    record {
      one = same_byte (size t.grid) 1 one.0;
      same = same_sides page t.room.paper one.1;
      bare = two.1;
      scale = no_scale t.scale three.1;
    }

-- what holds of it
record StandsWhole (page : Paper) (room : Room) (g : Grid) (o : Order) (k : ℕ) : Type 0 where
  pub inside : IsInside room page (page_alone k)
  pub in_cell : IsInCell room page (cell_at room g (row_of o g k) (column_of o g k)) 1 (page_alone k)
  pub middle : IsInMiddle page (cell_at room g (row_of o g k) (column_of o g k)) (page_alone k)
  pub exact : IsExact page (page_alone k)
  pub large : (s : ℕ) → IsNotTiny page room → Allows page room g s → s < 1_000_001_000

stands_whole : (page sheet : Paper) (d d' r c : ℕ) (b : Bool) (o : Order) (k : ℕ) → IsPaper page → IsPaper sheet → SameSides page sheet → r * c ≡ 1 → k < r * c
    → StandsWhole page (room_in sheet d d') (cells r c b) o k
stands_whole page sheet d d' zero c b o k is on same one within = absurd (omega (arith, one))
stands_whole page sheet d d' (suc zero) zero b o k is on same one within = absurd (omega (arith, one))
stands_whole page sheet d d' (suc zero) (suc zero) b o zero is on same one within =
    let at = itself_in page sheet d d' b o is on same in
    record {
      inside = at.0;
      in_cell = at.2;
      middle = at.1;
      exact = itself_exact page;
      large = λ s sides allows. itself_large_at page sheet d d' 1 1 b s same sides (omega arith) (omega arith) allows;
    }
stands_whole page sheet d d' (suc zero) (suc zero) b o (suc k) is on same one within = absurd (omega (arith, within))
stands_whole page sheet d d' (suc zero) (suc (suc c)) b o k is on same one within = absurd (omega (arith, one))
stands_whole page sheet d d' (suc (suc r)) zero b o k is on same one within = absurd (omega (arith, one))
stands_whole page sheet d d' (suc (suc r)) (suc zero) b o k is on same one within = absurd (omega (arith, one))
stands_whole page sheet d d' (suc (suc r)) (suc (suc c)) b o k is on same one within = absurd (omega (arith, one))

pub whole_fitted : (t : Setting) (page : Paper) (k : ℕ) → IsPaper page → IsPaper t.room.paper → k < size t.grid → is_whole t page ≡ true → IsFitted t page k (page_alone k)
whole_fitted t page k is on within h =
    let whole = whole_page t page h in
    let stands = bare_edges (λ room. StandsWhole page room t.grid t.order k) t.room whole.bare
    (stands_whole page t.room.paper t.room.gutter_across t.room.gutter_up t.grid.rows t.grid.columns t.grid.turned t.order k is on whole.same whole.one within) in
    record {
      inside = stands.inside;
      in_cell = subst (λ n. IsInCell t.room page (cell_at t.room t.grid (row_of t.order t.grid k) (column_of t.order t.grid k)) n (page_alone k)) (sym (cond-true (is_whole t page) 1 (kept_length t.room.trim 0) h)) stands.in_cell;
      middle = stands.middle;
      exact = stands.exact;
      scale = 1_000_000_000;
      scale_is = refl;
      large = λ s none sides allows. stands.large s sides allows;
    }

-- ---- a page in a cell

pub has_scale : (t : Setting) (page : Paper) → why_no_scale_on t page ≡ None → IsMade page t.room t.grid (scale_on t page)
has_scale t page h =
    let one = passed (is_paper_reached page && is_paper_reached t.room.paper) why.SideTooLong (error_unless (is_shown page t.room) why.NothingLeftOfPage (why_no_scale t.room (scale_on t page) (scale_in page t.room t.grid))) h in
    let two = passed (is_shown page t.room) why.NothingLeftOfPage (why_no_scale t.room (scale_on t page) (scale_in page t.room t.grid)) one.1 in
    made page t.room t.grid (scale_on t page) two.0 (good_scale t.room (scale_on t page) (scale_in page t.room t.grid) two.1)

pub cell_fitted : (t : Setting) (page : Paper) (k : ℕ) → IsPaper page → IsPaper t.room.paper → k < size t.grid → why_no_scale_on t page ≡ None
    → IsFitted t page k (item_in_cell page t.room t.grid t.order (scale_on t page) k)
cell_fitted t page k is on within h =
    let has = (has_scale t page h).place in
    let some = some_each t.grid.rows t.grid.columns (omega (arith, within)) in
    record {
      inside = grid_inside page t.room t.grid t.order (scale_on t page) k is on has within;
      in_cell = λ p of. farther (cell_at t.room t.grid (row_of t.order t.grid k) (column_of t.order t.grid k)) (kept_length t.room.trim 0) (past_cell t page) (stands page (item_in_cell page t.room t.grid t.order (scale_on t page) k) p)
          (past_is t.room (is_whole t page)) (grid_in_cell page t.room t.grid t.order (scale_on t page) k is has p of);
      middle = grid_in_middle page t.room t.grid t.order (scale_on t page) k is has;
      exact = (printed_as_it_is page t.room t.grid t.order (scale_on t page) 0 k).0;
      scale = scale_on t page;
      scale_is = refl;
      large = λ s none sides allows.
          let less = allowed page t.room t.grid s sides some.0 some.1 allows in
          let asked : scale_on t page ≡ scale_in page t.room t.grid = ap (λ a. scale_for a (scale_in page t.room t.grid)) none in
          omega (arith, less, asked);
    }

-- and one that is turned by half
pub record StandsBack (t : Setting) (page : Paper) (k : ℕ) (item : Item) : Type 0 where
  pub inside : IsEven t.room → IsInside t.room page item
  pub turned : is_whole t page ≡ false → IsHalfTurnOf page t.room.paper (fitted t page k) item
  pub exact : IsExact page item

front_turned : (t : Setting) (page : Paper) (k : ℕ) → is_whole t page ≡ false → IsHalfTurnOf page t.room.paper (fitted t page k) (fitted_back t page k)
front_turned t page k e =
    subst (λ i. IsHalfTurnOf page t.room.paper i (fitted_back t page k)) (sym (cond-false (is_whole t page) (page_alone k) (item_in_cell page t.room t.grid t.order (scale_on t page) k) e))
    (back_is_half_turn page t.room t.grid t.order (scale_on t page) 0 k)

pub stands_back : (t : Setting) (page : Paper) (k : ℕ) → IsPaper page → IsPaper t.room.paper → k < size t.grid → why_no_scale_on t page ≡ None → StandsBack t page k (fitted_back t page k)
stands_back t page k is on within h =
    let s = scale_on t page in record {
      inside = λ even. back_inside page t.room t.grid t.order s 0 k is on even (has_scale t page h).place within;
      turned = front_turned t page k;
      exact = (printed_as_it_is page t.room t.grid t.order s 0 k).1;
    }

pub by_test : {P : Type 0} (b : Bool) → (b ≡ true → P) → (b ≡ false → P) → P
by_test true f g = f refl
by_test false f g = g refl

pub fitted_stands : FittedStands
fitted_stands t page k is on within h =
    by_test (is_whole t page)
    (λ e. subst (IsFitted t page k) (sym (cond-true (is_whole t page) (page_alone k) (item_in_cell page t.room t.grid t.order (scale_on t page) k) e)) (whole_fitted t page k is on within e))
    (λ e. subst (IsFitted t page k) (sym (cond-false (is_whole t page) (page_alone k) (item_in_cell page t.room t.grid t.order (scale_on t page) k) e))
    (cell_fitted t page k is on within (sym (cond-false (is_whole t page) None (why_no_scale_on t page) e) ∙ h)))

-- ---- two pages

not_whole : (t : Setting) (page : Paper) (k l : ℕ) → k < size t.grid → l < size t.grid → k ≢ l → is_whole t page ≡ false
not_whole t page k l in_k in_l differ =
    false_from_ne_true (is_whole t page) (λ h. let one = (whole_page t page h).one in differ (omega (arith, one, in_k, in_l)))

pub one_of_many : (t : Setting) (page : Paper) → 2 ≤ size t.grid → is_whole t page ≡ false
one_of_many t page many = false_from_ne_true (is_whole t page) (λ h. let one = (whole_page t page h).one in omega (arith, one, many))

pub scale_of_many : (t : Setting) (page : Paper) → 2 ≤ size t.grid → why_not_fitted t page ≡ None → why_no_scale_on t page ≡ None
scale_of_many t page many h = sym (cond-false (is_whole t page) None (why_no_scale_on t page) (one_of_many t page many)) ∙ h

-- so each stands in its cell
pub in_cell : (t : Setting) (page : Paper) (k l : ℕ) → is_whole t page ≡ false → why_not_fitted t page ≡ None
    → (fitted t page k ≡ item_in_cell page t.room t.grid t.order (scale_on t page) k) × HasPlace page t.room t.grid (scale_on t page)
in_cell t page k l not h = (
  cond-false (is_whole t page) (page_alone k) (item_in_cell page t.room t.grid t.order (scale_on t page) k) not,
  (has_scale t page (sym (cond-false (is_whole t page) None (why_no_scale_on t page) not) ∙ h)).place,
)

pub fitted_is_apart : FittedIsApart
fitted_is_apart t page page' k l is is' on h h' in_k in_l differ =
    let one = in_cell t page k l (not_whole t page k l in_k in_l differ) h in
    let other = in_cell t page' l k (not_whole t page' k l in_k in_l differ) h' in
    subst (λ i. AreApart t.room page i page' (fitted t page' l)) (sym one.0)
    (subst (λ i. AreApart t.room page (item_in_cell page t.room t.grid t.order (scale_on t page) k) page' i) (sym other.0)
    (grid_apart page page' t.room t.grid t.order (scale_on t page) (scale_on t page') k l is is' on one.1 other.1 in_k in_l differ))

-- and so do two that are turned by half
pub backs_are_apart : (t : Setting) (page page' : Paper) (k l : ℕ) → IsPaper page → IsPaper page' → IsPaper t.room.paper → why_not_fitted t page ≡ None → why_not_fitted t page' ≡ None → k < size t.grid → l < size t.grid → k ≢ l
    → AreApart t.room page (fitted_back t page k) page' (fitted_back t page' l)
backs_are_apart t page page' k l is is' on h h' in_k in_l differ =
    half_turned_apart t.room page page' (fitted t page k) (fitted t page' l) (fitted_back t page k) (fitted_back t page' l)
    (front_turned t page k (not_whole t page k l in_k in_l differ)) (front_turned t page' l (not_whole t page' k l in_k in_l differ))
    (fitted_is_apart t page page' k l is is' on h h' in_k in_l differ)

pub fitted_is_in_order : FittedIsInOrder
fitted_is_in_order t page page' k l is is' on h h' in_k in_l =
    let o = t.order in
    let run = run_in o.run o.turned t.grid in (
      λ less.
          let differ : k ≢ l = λ e. let same : k % run ≡ l % run = ap (λ m. m % run) e in omega (arith, less, same) in
          let one = in_cell t page k l (not_whole t page k l in_k in_l differ) h in
          let other = in_cell t page' l k (not_whole t page' k l in_k in_l differ) h' in
          subst (λ i. ComesInRun o.run t.room o.turned o.right_to_left page i page' (fitted t page' l)) (sym one.0)
          (subst (λ i. ComesInRun o.run t.room o.turned o.right_to_left page (item_in_cell page t.room t.grid o (scale_on t page) k) page' i) (sym other.0)
          ((grid_in_order page page' t.room t.grid o (scale_on t page) (scale_on t page') k l is is' on one.1 other.1 in_k in_l).0 less)),
      λ less.
          let differ : k ≢ l = λ e. let same : k / run ≡ l / run = ap (λ m. m / run) e in omega (arith, less, same) in
          let one = in_cell t page k l (not_whole t page k l in_k in_l differ) h in
          let other = in_cell t page' l k (not_whole t page' k l in_k in_l differ) h' in
          subst (λ i. ComesInRunBefore o.run t.room o.turned o.right_to_left page i page' (fitted t page' l)) (sym one.0)
          (subst (λ i. ComesInRunBefore o.run t.room o.turned o.right_to_left page (item_in_cell page t.room t.grid o (scale_on t page) k) page' i) (sym other.0)
          ((grid_in_order page page' t.room t.grid o (scale_on t page) (scale_on t page') k l is is' on one.1 other.1 in_k in_l).1 less)),
    )

-- ---- the grid

pub chosen_as : (page : Paper) (room : Room) (t : Turned) (c : Cells) (g : Grid) → 0 < cells_per_sheet c → g ≡ grid_of page room t c → IsChosen page room t c (scale_in page room g) g
chosen_as page room t c g some e = subst (λ x. IsChosen page room t c (scale_in page room x) x) (sym e) (is_chosen page room t c some)

pub enough_in : (page : Paper) (room : Room) (t : Turned) (c : Cells) (g : Grid) → 0 < cells_per_sheet c → g ≡ grid_of page room t c → cells_per_sheet c ≤ size g
enough_in page room t c g some e = subst (λ x. cells_per_sheet c ≤ size x) (sym e) (enough page room t c some)

-- ---- pages of one paper

either_size : (b : Bool) (x y : Grid) → size x ≡ 1 → size y ≡ 1 → size (if b then y else x) ≡ 1
either_size true x y e f = f
either_size false x y e f = e

one_best : (page : Paper) (room : Room) → size (best_grid page room 1) ≡ 1
one_best page room =
    either_size _ (best_of page room false 1 1) (best_of page room true 1 1)
    (either_size _ (grid false 1 1) (grid false 1 1) refl refl) (either_size _ (grid true 1 1) (grid true 1 1) refl refl)

not_one : (n : ℕ) → 2 ≤ n → (n == 1) ≡ false
not_one n h = search (rules, h)

same_test : (page : Paper) (room : Room) (t : Turned) (c : Cells) → 1 ≤ cells_per_sheet c → (size (grid_of page room t c) == 1) ≡ (cells_per_sheet c == 1)
same_test page room t (AtLeast zero) some = absurd (omega (arith, some))
same_test page room t (AtLeast (suc zero)) some = ap (λ n. n == 1) (one_best page room)
same_test page room t (AtLeast (suc (suc n))) some =
    let many = best_has_cells page room (suc (suc n)) (omega arith) in
    not_one (size (best_grid page room (suc (suc n)))) (omega (arith, many)) ∙ sym (not_one (suc (suc n)) (omega arith))
same_test page room t (Exactly columns rows) some =
    let read = read_best page room t columns rows in
    let g = best_formed page room t columns rows in
    ap (λ n. n == 1) (sym (read_square t g) ∙ (ap (λ m. m * read_rows t g) read.0 ∙ ap (λ m. columns * m) read.1))

counts : (n : ℕ) → is_count n ≡ true → (1 ≤ n) × (n ≤ 1_024)
counts n h = let both = both_true (nat_le 1 n) (nat_le n 1_024) h in (leb-true 1 n both.0, leb-true n 1_024 both.1)

-- what holds where nothing refuses
pub record NothingRefuses (page sheet : Paper) (a : Arrangement) : Type 0 where
  pub some : 1 ≤ cells_per_sheet a.cells
  pub few : cells_per_sheet a.cells ≤ 1_024
  pub reached : is_paper_reached page && is_paper_reached sheet ≡ true
  pub shown : is_shown page (room_of sheet a.free) ≡ true
  pub behind : (let room = room_of sheet a.free in
      let largest = scale_in page room (grid_of page room a.order.turned a.cells) in
      (if is_itself page sheet a then None else why_no_scale room (scale_for a.scale largest) largest) ≡ None)

pub nothing_refuses : (page sheet : Paper) (a : Arrangement) → why_not_arranged page sheet a ≡ None → NothingRefuses page sheet a
nothing_refuses page sheet a h =
    let room = room_of sheet a.free in
    let largest = scale_in page room (grid_of page room a.order.turned a.cells) in
    let last : Option ArrangementError = if is_itself page sheet a then None else why_no_scale room (scale_for a.scale largest) largest in
    let third = error_unless (is_shown page room) why.NothingLeftOfPage last in
    let second = error_unless (are_lengths a.free) why.LengthOutOfRange third in
    let first = error_unless (is_paper_reached page && is_paper_reached sheet) why.SideTooLong second in
    let one = passed (is_count (cells_per_sheet a.cells)) why.CellsOutOfRange first h in
    let two = passed (is_paper_reached page && is_paper_reached sheet) why.SideTooLong second one.1 in
    let three = passed (are_lengths a.free) why.LengthOutOfRange third two.1 in
    let four = passed (is_shown page room) why.NothingLeftOfPage last three.1 in
    let n = counts (cells_per_sheet a.cells) one.0 in
    record { some = n.0; few = n.1; reached = two.0; shown = four.0; behind = four.1 }

-- one page on a sheet of its own paper is upright
alone_formed : (page sheet : Paper) (d d' : ℕ) (t : Turned) → SameSides page sheet → 0 < nat_abs page.width → 0 < nat_abs page.height → best_formed page (room_in sheet d d') t 1 1 ≡ cells 1 1 false
alone_formed page sheet d d' sideways.Upright same wide high = one_upright page sheet d d' same.wide same.high wide high
alone_formed page sheet d d' sideways.Left same wide high = one_upright page sheet d d' same.wide same.high wide high
alone_formed page sheet d d' sideways.Right same wide high = one_upright page sheet d d' same.wide same.high wide high

alone_best : (page sheet : Paper) (d d' : ℕ) → SameSides page sheet → 0 < nat_abs page.width → 0 < nat_abs page.height → best_grid page (room_in sheet d d') 1 ≡ cells 1 1 false
alone_best page sheet d d' same wide high =
    let room = room_in sheet d d' in
    ap (λ g. better page room g (best_of page room true 1 1)) (best_of_one page room false)
    ∙ (ap (λ g. better page room (cells 1 1 false) g) (best_of_one page room true) ∙ one_upright page sheet d d' same.wide same.high wide high)

alone_grid : (page sheet : Paper) (d d' : ℕ) (t : Turned) (c : Cells) → cells_per_sheet c ≡ 1 → SameSides page sheet → 0 < nat_abs page.width → 0 < nat_abs page.height
    → grid_of page (room_in sheet d d') t c ≡ cells 1 1 false
alone_grid page sheet d d' t (AtLeast n) one same wide high =
    ap (λ m. best_grid page (room_in sheet d d') m) one ∙ alone_best page sheet d d' same wide high
alone_grid page sheet d d' t (Exactly columns rows) one same wide high =
    let (in_columns, in_rows) = one_each columns rows one in
    ap (λ m. best_formed page (room_in sheet d d') t m rows) in_columns
    ∙ (ap (λ m. best_formed page (room_in sheet d d') t 1 m) in_rows ∙ alone_formed page sheet d d' t same wide high)

some_sides_of : (trim : ℕ) (v : ℕ) → nat_lt (2_540_000 * trim) v ≡ true → 0 < v
some_sides_of trim v h = let less : 2_540_000 * trim < v = search (rules, h) in omega (arith, less)

alone_upright : (page sheet : Paper) (a : Arrangement) → is_shown page (room_of sheet a.free) ≡ true → is_itself page sheet a ≡ true → (setting_of page sheet a).grid.turned ≡ false
alone_upright page sheet a shown e =
    let page_alone = is_alone page sheet a e in
    let trim = rounded_down a.free.trim in
    let sides = both_true (nat_lt (2_540_000 * trim) (nat_abs page.width)) (nat_lt (2_540_000 * trim) (nat_abs page.height)) shown in
    ap (λ (g : Grid). g.turned)
    (bare_edges (λ room. grid_of page room a.order.turned a.cells ≡ cells 1 1 false) (room_of sheet a.free) page_alone.bare
    (alone_grid page sheet (rounded_up a.free.across) (rounded_up a.free.up) a.order.turned a.cells page_alone.one page_alone.same
    (some_sides_of trim (nat_abs page.width) sides.0) (some_sides_of trim (nat_abs page.height) sides.1)))

cells_so : (page sheet : Paper) (a : Arrangement) → NothingRefuses page sheet a → is_itself page sheet a ≡ false → is_whole (setting_of page sheet a) page ≡ false → why_not_fitted (setting_of page sheet a) page ≡ None
cells_so page sheet a holds e not =
    let t = setting_of page sheet a in
    let scaled : why_no_scale t.room (scale_on t page) (scale_in page t.room t.grid) ≡ None = sym (cond-false (is_itself page sheet a) None _ e) ∙ holds.behind in
    let reasons : why_no_scale_on t page ≡ None = cond-true (is_paper_reached page && is_paper_reached sheet) _ _ holds.reached ∙ (cond-true (is_shown page t.room) _ _ holds.shown ∙ scaled) in
    cond-false (is_whole t page) None _ not ∙ reasons

pub arranged_is_fitted : ArrangedIsFitted
arranged_is_fitted page sheet a h =
    let holds = nothing_refuses page sheet a h in
    let room = room_of sheet a.free in
    let g = grid_of page room a.order.turned a.cells in
    let t = setting_of page sheet a in
    let same : ((size g == 1) && is_same page sheet && has_bare_edges room && is_none a.scale) ≡ is_itself page sheet a =
    ap (λ b. b && is_same page sheet && has_bare_edges room && is_none a.scale) (same_test page room a.order.turned a.cells holds.some) in
    by_test (is_itself page sheet a)
    (λ e. cond-true (is_whole t page) None _ (ap (λ b. b && not g.turned) (same ∙ e) ∙ ap not (alone_upright page sheet a holds.shown e)))
    (λ e. cells_so page sheet a holds e (ap (λ b. b && not g.turned) (same ∙ e)))

-- what holds of the error that is handed on
pub handed_on : {T E : Type 0} (r : Result T E) (e : E) (P : E → Type 0) → IsErrAnd r (λ g. g ≡ e) → P e → IfErr r P
handed_on (Ok x) e P h p = absurd h
handed_on (Err g) e P h p = subst P (sym h) p

-- ---- leaves

-- the halves of a sheet, by their parts
pub halves_made : (sheet : Paper) (b : Binding) (room : Room) (g : Grid) (o : Order) → room ≡ room_of sheet b.free → g ≡ beside true → o ≡ leaf_order b.right_to_left
    → record { room = room; grid = g; order = o; scale = b.scale } ≡ binding_setting_of sheet b
halves_made sheet b room g o e f h = cc (e, f, h)

-- what nothing refuses for leaves, nothing refuses in their halves
record LeavesFit (page sheet : Paper) (b : Binding) : Type 0 where
  pub even : is_even (room_of sheet b.free) ≡ true
  pub folds : folds_short page (room_of sheet b.free) ≡ true
  pub scaled : why_no_scale_on (binding_setting_of sheet b) page ≡ None

leaves_fit : (page sheet : Paper) (b : Binding) → why_not_bound page sheet b ≡ None → LeavesFit page sheet b
leaves_fit page sheet b h =
    let room = room_of sheet b.free in
    let largest = scale_in page room (beside true) in
    let last = why_no_scale room (scale_for b.scale largest) largest in
    let fifth = error_unless (folds_short page room) why.FoldOnLongEdge last in
    let fourth = error_unless (is_even room) why.UnevenMargins fifth in
    let third = error_unless (is_shown page room) why.NothingLeftOfPage fourth in
    let second = error_unless (are_lengths b.free) why.LengthOutOfRange third in
    let one = passed (is_paper_reached page && is_paper_reached sheet) why.SideTooLong second h in
    let two = passed (are_lengths b.free) why.LengthOutOfRange third one.1 in
    let three = passed (is_shown page room) why.NothingLeftOfPage fourth two.1 in
    let four = passed (is_even room) why.UnevenMargins fifth three.1 in
    let five = passed (folds_short page room) why.FoldOnLongEdge last four.1 in
    record {
      even = four.0;
      folds = five.0;
      scaled = cond-true (is_paper_reached page && is_paper_reached sheet) _ _ one.0 ∙ (cond-true (is_shown page room) _ _ three.0 ∙ five.1);
    }

-- and pages have a scale in them
pub leaves_scaled : (page sheet : Paper) (b : Binding) → why_not_bound page sheet b ≡ None
    → (let room = room_of sheet b.free in
    let largest = scale_in page room (beside true) in
    why_no_scale room (scale_for b.scale largest) largest ≡ None)
leaves_scaled page sheet b h =
    let room = room_of sheet b.free in
    let scaled = (leaves_fit page sheet b h).scaled in
    let largest = scale_in page room (beside true) in
    let last = why_no_scale room (scale_for b.scale largest) largest in
    let one = passed (is_paper_reached page && is_paper_reached sheet) why.SideTooLong _ scaled in
    (passed (is_shown page room) why.NothingLeftOfPage last one.1).1

-- as much is kept free along their opposite edges
pub leaves_even : (page sheet : Paper) (b : Binding) → why_not_bound page sheet b ≡ None → IsEven (room_of sheet b.free)
leaves_even page sheet b h = even_room (room_of sheet b.free) (leaves_fit page sheet b h).even

pub halves_fit : (page sheet : Paper) (b : Binding) → why_not_bound page sheet b ≡ None → why_no_scale_on (binding_setting_of sheet b) page ≡ None
halves_fit page sheet b h = (leaves_fit page sheet b h).scaled

pub bound_is_fitted : BoundIsFitted
bound_is_fitted page sheet b h =
    let fit = leaves_fit page sheet b h in
    let room = room_of sheet b.free in
    let largest = scale_in page room (beside true) in
    let (high, most) = both_true (nat_le (nat_abs sheet.width) (nat_abs sheet.height)) (nat_le (scale_in page room (beside false)) largest) fit.folds in (
      fit.scaled,
      leb-true (nat_abs sheet.width) (nat_abs sheet.height) high,
      λ g s free sides rows columns allows. subst (λ a. s < scale_for a largest + 1_000) (sym free) (beside_large page room g s most sides rows columns allows),
    )

pub one_fold : (page sheet : Paper) (b : Binding) → why_not_bound page sheet b ≡ None → HaveOneFold (binding_setting_of sheet b) b.right_to_left
one_fold page sheet b h =
    let t = binding_setting_of sheet b in
    let room = t.room in
    let r = b.right_to_left in
    let side = nat_abs sheet.height in
    let has : (o : Paper) → why_no_scale_on t o ≡ None → HasPlace o room (beside true) (scale_on t o) = λ o e. (has_scale t o e).place in
    let some = (fits page room (beside true) (scale_on t page) (has page (halves_fit page sheet b h))).some_wide in
    let a = along_height room in
    let even = (leaves_even page sheet b h).up in
    let middle = fold_in_middle a side even some in
    let on = fold_on_sheet a side even some in
    record {
      twice = fold a side;
      no_farther = middle.0;
      no_nearer = middle.1;
      before = λ o is e. lies_before o room r (scale_on t o) is (has o e);
      behind = λ o is e. lies_behind o room r (scale_on t o) is (has o e);
      turned_behind = λ o is e. turned_behind room (fold a side) o _ _ on (lies_before o room r (scale_on t o) is (has o e))
          (back_is_half_turn o room (beside true) (leaf_order r) (scale_on t o) 0 (if r then 1 else 0));
      turned_before = λ o is e. turned_before room (fold a side) o _ _ on (lies_behind o room r (scale_on t o) is (has o e))
          (back_is_half_turn o room (beside true) (leaf_order r) (scale_on t o) 0 (if r then 0 else 1));
    }
