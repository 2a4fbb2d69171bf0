-- Pages in the cells of a grid: where they are. A page has the sides v and u, and its scale is s; the other page's are v',
-- u' and s'.
use Rattle.std.proofs.Common.{arith, ◌≡◌, ℕ, zero, suc, ◌+◌, ◌-◌, ◌*◌, ◌<◌, ◌≤◌, Bool, true, false, refl, sym, subst}
use Rattle.std.specs.Prelude.{ℤ, pos, negsuc, ◌+ℤ◌, ◌*ℤ◌, ◌≤ℤ◌, nat_abs, IsTrue, ◌&&◌}
use Rattle.std.proofs.Math.Nat.{min-le_left, min-le_right, div-mul-le_self}
use Rattle.std.proofs.lemmas.Int.{ints}
use Rattle.rules.specs.Papers.{Paper, is_side}
use Rattle.rules.specs.Placement.{Point}
use Rattle.layouts.specs.declared.arrangement.Turned.TheVariants as sideways
use Rattle.layouts.specs.Placed.{Room, fine, stands, IsOfPage, LiesWithin, IsLeftOf, IsAbove}
use Rattle.layouts.specs.Cells.{Grid, along_height, along_width, held_across, held_down, held_height, held_width, wide, high, trimmed_side, fitting, whole_parts, to_right, to_top, cell_item}
use Rattle.layouts.specs.Laws.{IsPaper, HasPlace}
use Rattle.layouts.proofs.AlongSide.{scaled_fits, some_cell}
use Rattle.layouts.proofs.Sides.{of_sides, LiesIn, within_upright, within_left, left_by_upright, below_by_upright, left_by_left, above_by_left}
use Rattle.layouts.proofs.OnSide.{HasCell, begins, finishes, comes_before, begins_turned, finishes_turned, comes_before_turned}

-- of a product that isn't 0 neither factor is
pub some_each : (r c : ℕ) → 0 < r * c → (0 < r) × (0 < c)
some_each zero c h = absurd (omega (arith, h))
some_each (suc r) zero h = absurd (omega (arith, h))
some_each (suc r) (suc c) h = (omega arith, omega arith)

abbrev pub cells : (r c : ℕ) → Bool → Grid
cells r c turned = record { rows = r; columns = c; turned = turned }

-- with gaps alone
abbrev pub room_in : Paper → (d d' : ℕ) → Room
room_in q d d' =
    record { paper = q; left = 0; right = 0; bottom = 0; top = 0; gutter_across = d; gutter_up = d'; trim = 0 }

-- what the place of a page says in numbers
pub record Fits (page : Paper) (room : Room) (g : Grid) (s : ℕ) : Type 0 where
  pub some_wide : 0 < wide room g
  pub some_high : 0 < high room g
  pub is_wide : s * trimmed_side room page.width ≤ 1_270_000_000_000_000 * wide room g
  pub is_high : s * trimmed_side room page.height ≤ 1_270_000_000_000_000 * high room g

pub fits : (page : Paper) (room : Room) (g : Grid) (s : ℕ) → HasPlace page room g s → Fits page room g s
fits page room g s place =
    let v = trimmed_side room page.width in
    let u = trimmed_side room page.height in
    let some = place.above_zero in
    let most = place.fits in
    let across : s ≤ fitting (wide room g) v = omega (arith, most, min-le_left (fitting (wide room g) v) (fitting (high room g) u)) in
    let down : s ≤ fitting (high room g) u = omega (arith, most, min-le_right (fitting (wide room g) v) (fitting (high room g) u)) in
    record {
      some_wide = some_cell (wide room g) v s some across;
      some_high = some_cell (high room g) u s some down;
      is_wide = scaled_fits (wide room g) v s across;
      is_high = scaled_fits (high room g) u s down;
    }

-- across and down, in a grid that is upright or turned
pub across_of : (v u : ℕ) (room : Room) (r c : ℕ) (b : Bool) (s : ℕ) → HasPlace (of_sides v u) room (cells r c b) s
    → HasCell (held_across b room) (held_width b room.paper) c v s
across_of v u room r c false s place =
    let f = fits (of_sides v u) room (cells r c false) s place in
    record { some = f.some_wide; fits = f.is_wide; left = place.some_wide }
across_of v u room r c true s place =
    let f = fits (of_sides v u) room (cells r c true) s place in
    record { some = f.some_wide; fits = f.is_wide; left = place.some_wide }

pub down_of : (v u : ℕ) (room : Room) (r c : ℕ) (b : Bool) (s : ℕ) → HasPlace (of_sides v u) room (cells r c b) s
    → HasCell (held_down b room) (held_height b room.paper) r u s
down_of v u room r c false s place =
    let f = fits (of_sides v u) room (cells r c false) s place in
    record { some = f.some_high; fits = f.is_high; left = place.some_high }
down_of v u room r c true s place =
    let f = fits (of_sides v u) room (cells r c true) s place in
    record { some = f.some_high; fits = f.is_high; left = place.some_high }

-- ---- inside

-- each point lies on the whole 10^-5 of a point of the sheet
abbrev pub InWhole : (page : Paper) (room : Room) (g : Grid) (s k row column : ℕ) → Type 0
InWhole page room g s k row column = (p : Point) → IsOfPage room.trim page p
    → LiesIn room (stands page (cell_item page room g s k row column) p)

in_whole_at : (v u : ℕ) (room : Room) (r c : ℕ) (b : Bool) (s k row column : ℕ) → HasPlace (of_sides v u) room (cells r c b) s → row < r → column < c
    → InWhole (of_sides v u) room (cells r c b) s k row column
in_whole_at v u room r c false s k row column place in_rows in_columns =
    let g = cells r c false in
    let a = across_of v u room r c false s place in
    let b = down_of v u room r c false s place in
    let w = nat_abs room.paper.width in
    let h = nat_abs room.paper.height in
    within_upright v u room k s (to_right (of_sides v u) room g s row column) (to_top (of_sides v u) room g s row column)
    (begins (along_width room) w c v s column a) (finishes (along_width room) w c v s column a in_columns)
    (begins (along_height room) h r u s (r - (row + 1)) b) (finishes (along_height room) h r u s (r - (row + 1)) b (omega (arith, in_rows)))
in_whole_at v u room r c true s k row column place in_rows in_columns =
    let g = cells r c true in
    let a = across_of v u room r c true s place in
    let b = down_of v u room r c true s place in
    let w = nat_abs room.paper.width in
    let h = nat_abs room.paper.height in
    within_left v u room k s (to_right (of_sides v u) room g s row column) (to_top (of_sides v u) room g s row column)
    (begins_turned (along_width room) w r u s row b) (finishes_turned (along_width room) w r u s row b in_rows)
    (begins (along_height room) h c v s column a) (finishes (along_height room) h c v s column a in_columns)

-- ---- papers by their sides

side_is : (z : ℤ) → IsTrue (is_side z) → z ≡ pos (nat_abs z)
side_is (pos n) h = refl
side_is (negsuc n) h = absurd (cc (h))

pub both_true : (a b : Bool) → IsTrue (a && b) → IsTrue a × IsTrue b
both_true true b h = (refl, h)
both_true false b h = absurd (cc (h))

abbrev paper_of : ℤ → ℤ → Paper
paper_of w h = record { width = w; height = h }

same_paper : (a b c d : ℤ) → a ≡ c → b ≡ d → paper_of a b ≡ paper_of c d
same_paper a b c d e f = rw e (rw f refl)

pub sides_are : (paper : Paper) → IsPaper paper → paper ≡ of_sides (nat_abs paper.width) (nat_abs paper.height)
sides_are paper h =
    let (w, v) = both_true (is_side paper.width) (is_side paper.height) h in
    same_paper paper.width paper.height (pos (nat_abs paper.width)) (pos (nat_abs paper.height)) (side_is paper.width w) (side_is paper.height v)

-- what holds of papers with these sides holds of the papers
pub with_sides : (P : Paper → Paper → Type 0) (page sheet : Paper) → IsPaper page → IsPaper sheet
    → P (of_sides (nat_abs page.width) (nat_abs page.height)) (of_sides (nat_abs sheet.width) (nat_abs sheet.height)) → P page sheet
with_sides P page sheet is on h =
    subst (λ o. P o sheet) (sym (sides_are page is)) (subst (λ q. P (of_sides (nat_abs page.width) (nat_abs page.height)) q) (sym (sides_are sheet on)) h)

-- ---- inside, of any papers

abbrev InWholeIf : (room : Room) (g : Grid) (s k row column : ℕ) → Paper → Type 0
InWholeIf room g s k row column o = HasPlace o room g s → InWhole o room g s k row column

pub in_whole : (page : Paper) (room : Room) (g : Grid) (s k row column : ℕ) → IsPaper page → HasPlace page room g s → row < g.rows → column < g.columns
    → InWhole page room g s k row column
in_whole page room g s k row column is place in_rows in_columns =
    subst (InWholeIf room g s k row column) (sym (sides_are page is))
    (λ here. in_whole_at (nat_abs page.width) (nat_abs page.height) room g.rows g.columns g.turned s k row column here in_rows in_columns)
    place

-- and so on the sheet
up_to : (z side : ℤ) (e : ℕ) → side ≡ pos (nat_abs side) → (z +ℤ fine e) ≤ℤ fine (whole_parts (nat_abs side)) → (z +ℤ fine e) ≤ℤ (pos 1_000_000_000 *ℤ side)
up_to z side e is h = rw is (most (nat_abs side) h)
  where
    most : (w : ℕ) → (z +ℤ fine e) ≤ℤ fine (whole_parts w) → (z +ℤ fine e) ≤ℤ (pos 1_000_000_000 *ℤ pos w)
    most w h = omega (arith, ints, h, div-mul-le_self w 1_270_000)

pub on_sheet : (room : Room) (p : Point) → IsPaper room.paper → LiesIn room p → LiesWithin room p
on_sheet room p on lies =
    let (w, v) = both_true (is_side room.paper.width) (is_side room.paper.height) on in
    record {
      left = lies.left;
      right = up_to p.x room.paper.width room.right (side_is room.paper.width w) lies.right;
      bottom = lies.bottom;
      top = up_to p.y room.paper.height room.top (side_is room.paper.height v) lies.top;
    }

-- ---- one left of another, or above it, as one holds the sheet for its pages to be upright

abbrev pub LeftIn : (g : Grid) (room : Room) (s s' k k' row column row' column' : ℕ) → (o o' : Paper) → Type 0
LeftIn g room s s' k k' row column row' column' o o' =
    IsLeftOf room sideways.Upright o (cell_item o room g s k row column) o' (cell_item o' room g s' k' row' column')

abbrev pub AboveIn : (g : Grid) (room : Room) (s s' k k' row column row' column' : ℕ) → (o o' : Paper) → Type 0
AboveIn g room s s' k k' row column row' column' o o' =
    IsAbove room sideways.Upright o (cell_item o room g s k row column) o' (cell_item o' room g s' k' row' column')

left_at : (v u v' u' : ℕ) (room : Room) (r c : ℕ) (b : Bool) (s s' k k' row column row' column' : ℕ)
    → HasPlace (of_sides v u) room (cells r c b) s → HasPlace (of_sides v' u') room (cells r c b) s' → column < column'
    → LeftIn (cells r c b) room s s' k k' row column row' column' (of_sides v u) (of_sides v' u')
left_at v u v' u' room r c false s s' k k' row column row' column' place place' before p q of of' =
    let g = cells r c false in
    let o = of_sides v u in
    let o' = of_sides v' u' in
    left_by_upright v u v' u' room.gutter_across room.trim k k' s s' (to_right o room g s row column) (to_top o room g s row column) (to_right o' room g s' row' column') (to_top o' room g s' row' column')
    (comes_before (along_width room) (nat_abs room.paper.width) c v s v' s' column column' (across_of v u room r c false s place) (across_of v' u' room r c false s' place') before) p.x p.y q.x q.y of of'
left_at v u v' u' room r c true s s' k k' row column row' column' place place' before p q of of' =
    let g = cells r c true in
    let o = of_sides v u in
    let o' = of_sides v' u' in
    left_by_left v u v' u' room.gutter_up room.trim k k' s s' (to_right o room g s row column) (to_top o room g s row column) (to_right o' room g s' row' column') (to_top o' room g s' row' column')
    (comes_before (along_height room) (nat_abs room.paper.height) c v s v' s' column column' (across_of v u room r c true s place) (across_of v' u' room r c true s' place') before) p.x p.y q.x q.y of of'

above_at : (v u v' u' : ℕ) (room : Room) (r c : ℕ) (b : Bool) (s s' k k' row column row' column' : ℕ)
    → HasPlace (of_sides v u) room (cells r c b) s → HasPlace (of_sides v' u') room (cells r c b) s' → row < row' → row' < r
    → AboveIn (cells r c b) room s s' k k' row column row' column' (of_sides v u) (of_sides v' u')
above_at v u v' u' room r c false s s' k k' row column row' column' place place' before last p q of of' =
    let g = cells r c false in
    let o = of_sides v u in
    let o' = of_sides v' u' in
    below_by_upright v' u' v u room.gutter_up room.trim k' k s' s (to_right o' room g s' row' column') (to_top o' room g s' row' column') (to_right o room g s row column) (to_top o room g s row column)
    (comes_before (along_height room) (nat_abs room.paper.height) r u' s' u s (r - (row' + 1)) (r - (row + 1)) (down_of v' u' room r c false s' place') (down_of v u room r c false s place) (omega (arith, before, last))) p.x p.y q.x q.y of of'
above_at v u v' u' room r c true s s' k k' row column row' column' place place' before last p q of of' =
    let g = cells r c true in
    let o = of_sides v u in
    let o' = of_sides v' u' in
    above_by_left v u v' u' room.gutter_across room.trim k k' s s' (to_right o room g s row column) (to_top o room g s row column) (to_right o' room g s' row' column') (to_top o' room g s' row' column')
    (comes_before_turned (along_width room) (nat_abs room.paper.width) r u s u' s' row row' (down_of v u room r c true s place) (down_of v' u' room r c true s' place') before) p.x p.y q.x q.y of of'

abbrev LeftIf : (room : Room) (g : Grid) (s s' k k' row column row' column' : ℕ) → (o o' : Paper) → Type 0
LeftIf room g s s' k k' row column row' column' o o' =
    HasPlace o room g s → HasPlace o' room g s' → LeftIn g room s s' k k' row column row' column' o o'

abbrev AboveIf : (room : Room) (g : Grid) (s s' k k' row column row' column' : ℕ) → (o o' : Paper) → Type 0
AboveIf room g s s' k k' row column row' column' o o' =
    HasPlace o room g s → HasPlace o' room g s' → AboveIn g room s s' k k' row column row' column' o o'

pub is_left : (page page' : Paper) (room : Room) (g : Grid) (s s' k k' row column row' column' : ℕ) → IsPaper page → IsPaper page' → HasPlace page room g s → HasPlace page' room g s' → column < column'
    → LeftIn g room s s' k k' row column row' column' page page'
is_left page page' room g s s' k k' row column row' column' is is' place place' before =
    with_sides (LeftIf room g s s' k k' row column row' column') page page' is is'
    (λ here here'. left_at (nat_abs page.width) (nat_abs page.height) (nat_abs page'.width) (nat_abs page'.height) room g.rows g.columns g.turned s s' k k' row column row' column' here here' before)
    place place'

pub is_above : (page page' : Paper) (room : Room) (g : Grid) (s s' k k' row column row' column' : ℕ) → IsPaper page → IsPaper page' → HasPlace page room g s → HasPlace page' room g s' → row < row' → row' < g.rows
    → AboveIn g room s s' k k' row column row' column' page page'
is_above page page' room g s s' k k' row column row' column' is is' place place' before last =
    with_sides (AboveIf room g s s' k k' row column row' column') page page' is is'
    (λ here here'. above_at (nat_abs page.width) (nat_abs page.height) (nat_abs page'.width) (nat_abs page'.height) room g.rows g.columns g.turned s s' k k' row column row' column' here here' before last)
    place place'
