-- Where nothing refuses, and what follows from that.
use Rattle.std.proofs.Common.{arith, rules, ◌≡◌, ℕ, suc, zero, ◌+◌, ◌*◌, ◌<◌, ◌≤◌, Bool, true, false, Option, Some, None, refl, sym, ap, ◌∙◌}
use Rattle.std.specs.Prelude.{ℤ, nat_abs, IsTrue, ◌&&◌, ◌==◌, nat_le, nat_lt, if◌then◌else◌, is_none}
use Rattle.std.proofs.lemmas.Bool.{cond-false, cond-true, le-leb, leb-true, ltb-true}
use Rattle.lengths.proofs.Numbers.{same_byte}
use Rattle.rules.specs.Papers.{Paper}
use Rattle.layouts.specs.declared.arrangement.Arrangement.{Arrangement}
use Rattle.layouts.specs.declared.arrangement.Binding.{Binding}
use Rattle.layouts.specs.declared.arrangement.Free.{Free}
use Rattle.layouts.specs.declared.error.ArrangementError.{ArrangementError}
use Rattle.layouts.specs.declared.error.ArrangementError.TheVariants as why
use Rattle.layouts.specs.Placed.{IsEven, Room}
use Rattle.layouts.specs.Cells.{Grid, scale_in}
use Rattle.layouts.specs.Grids.{beside, has_bare_edges, is_same, is_itself, room_of, grid_of, scale_for, cells_per_sheet}
use Rattle.layouts.specs.Refusals.{error_unless, is_count, is_even, are_lengths, is_paper_reached, is_shown, within_reach, is_scale_in_range, why_no_scale, why_no_sheet, why_not_arranged, why_not_bound, folds_short}
use Rattle.layouts.specs.Laws.{HasPlace}
use Rattle.layouts.proofs.InGrid.{both_true, room_in}
use Rattle.layouts.proofs.LaidOut.{SameSides, same_sides}

-- ---- chains of reasons

-- if there is none, the test holds and there is none behind it
pub passed : (b : Bool) (e : ArrangementError) (next : Option ArrangementError) → error_unless b e next ≡ None → (b ≡ true) × (next ≡ None)
passed true e next h = (refl, h)
passed false e next h = absurd (cc (h))

-- another end of a chain without a reason
abbrev Chain3 : Bool → Bool → Bool → Option ArrangementError → Option ArrangementError
Chain3 a b c next = error_unless a why.SideTooLong (error_unless b why.LengthOutOfRange (error_unless c why.NothingLeftOfPage next))

chain_on : (a b c : Bool) (next : Option ArrangementError) → Chain3 a b c None ≡ None → Chain3 a b c next ≡ next
chain_on true true true next h = refl
chain_on true true false next h = absurd (cc (h))
chain_on true false c next h = absurd (cc (h))
chain_on false b c next h = absurd (cc (h))

chain_stops : (a b c : Bool) (next : Option ArrangementError) (e : ArrangementError) → Chain3 a b c None ≡ Some e → Chain3 a b c next ≡ Some e
chain_stops true true true next e h = absurd (cc (h))
chain_stops true true false next e h = h
chain_stops true false c next e h = h
chain_stops false b c next e h = h

pub sheet_on : (page sheet : Paper) (f : Free) (next : Option ArrangementError) → why_no_sheet page sheet f None ≡ None → why_no_sheet page sheet f next ≡ next
sheet_on page sheet f next h =
    chain_on (is_paper_reached page && is_paper_reached sheet) (are_lengths f) (is_shown page (room_of sheet f)) next h

pub sheet_stops : (page sheet : Paper) (f : Free) (next : Option ArrangementError) (e : ArrangementError) → why_no_sheet page sheet f None ≡ Some e → why_no_sheet page sheet f next ≡ Some e
sheet_stops page sheet f next e h =
    chain_stops (is_paper_reached page && is_paper_reached sheet) (are_lengths f) (is_shown page (room_of sheet f)) next e h

-- what holds of a scale that nothing refuses
pub record IsGoodScale (room : Room) (s largest : ℕ) : Type 0 where
  pub scale : IsTrue (is_scale_in_range s)
  pub fits : s ≤ largest
  pub near : IsTrue (within_reach room s)

pub good_scale : (room : Room) (s largest : ℕ) → why_no_scale room s largest ≡ None → IsGoodScale room s largest
good_scale room s largest h =
    let one = passed (nat_le 1 largest) (why.NoRoom room) (error_unless (is_scale_in_range s) why.ScaleOutOfRange (error_unless (nat_le s largest) why.ScaleTooLarge (error_unless (within_reach room s) why.ScaleOutOfRange None))) h in
    let two = passed (is_scale_in_range s) why.ScaleOutOfRange (error_unless (nat_le s largest) why.ScaleTooLarge (error_unless (within_reach room s) why.ScaleOutOfRange None)) one.1 in
    let three = passed (nat_le s largest) why.ScaleTooLarge (error_unless (within_reach room s) why.ScaleOutOfRange None) two.1 in
    let four = passed (within_reach room s) why.ScaleOutOfRange None three.1 in
    record { scale = two.0; fits = leb-true s largest three.0; near = four.0 }

scale_range : (s : ℕ) → IsTrue (is_scale_in_range s) → (0 < s) × (s ≤ 99_999_000_000_000)
scale_range s h =
    let (some, most) = both_true (nat_le 1 s) (nat_le s 99_999_000_000_000) h in
    (leb-true 1 s some, leb-true s 99_999_000_000_000 most)

-- the places of pages, and what is near enough
pub record IsMade (page : Paper) (room : Room) (g : Grid) (s : ℕ) : Type 0 where
  pub place : HasPlace page room g s
  pub near : IsTrue (within_reach room s)
  pub most : s ≤ 99_999_000_000_000

-- so each page has its place
pub place : (page : Paper) (room : Room) (g : Grid) (s : ℕ) → IsTrue (is_shown page room) → IsGoodScale room s (scale_in page room g) → HasPlace page room g s
place page room g s shown good =
    let sides = both_true (nat_lt (2_540_000 * room.trim) (nat_abs page.width)) (nat_lt (2_540_000 * room.trim) (nat_abs page.height)) shown in
    record {
      some_wide = ltb-true (2_540_000 * room.trim) (nat_abs page.width) sides.0;
      some_high = ltb-true (2_540_000 * room.trim) (nat_abs page.height) sides.1;
      above_zero = (scale_range s good.scale).0;
      fits = good.fits;
    }

pub made : (page : Paper) (room : Room) (g : Grid) (s : ℕ) → IsTrue (is_shown page room) → IsGoodScale room s (scale_in page room g) → IsMade page room g s
made page room g s shown good = record { place = place page room g s shown good; near = good.near; most = (scale_range s good.scale).1 }

-- ---- arrangements

count_passed : (n : ℕ) → 1 ≤ n → n ≤ 1_024 → is_count n ≡ true
count_passed n some most = search (rules, some, most)

-- the reasons behind those of the sheet
abbrev arranged_reasons : (page sheet : Paper) → Arrangement → Option ArrangementError
arranged_reasons page sheet a =
    let room = room_of sheet a.free in
    let largest = scale_in page room (grid_of page room a.order.turned a.cells) in
    if is_itself page sheet a then None else why_no_scale room (scale_for a.scale largest) largest

counted : (page sheet : Paper) (a : Arrangement) (next : Option ArrangementError) → 1 ≤ cells_per_sheet a.cells → cells_per_sheet a.cells ≤ 1_024 → error_unless (is_count (cells_per_sheet a.cells)) why.CellsOutOfRange next ≡ next
counted page sheet a next some most = cond-true (is_count (cells_per_sheet a.cells)) next (Some why.CellsOutOfRange) (count_passed (cells_per_sheet a.cells) some most)

pub sheet_refused : (page sheet : Paper) (a : Arrangement) (e : ArrangementError) → 1 ≤ cells_per_sheet a.cells → cells_per_sheet a.cells ≤ 1_024 → why_no_sheet page sheet a.free None ≡ Some e
    → why_not_arranged page sheet a ≡ Some e
sheet_refused page sheet a e some most h =
    counted page sheet a _ some most ∙ sheet_stops page sheet a.free (arranged_reasons page sheet a) e h

arranged_by : (page sheet : Paper) (a : Arrangement) → 1 ≤ cells_per_sheet a.cells → cells_per_sheet a.cells ≤ 1_024 → why_no_sheet page sheet a.free None ≡ None
    → why_not_arranged page sheet a ≡ arranged_reasons page sheet a
arranged_by page sheet a some most h =
    counted page sheet a _ some most ∙ sheet_on page sheet a.free (arranged_reasons page sheet a) h

pub cells_reasons : (page sheet : Paper) (a : Arrangement) → 1 ≤ cells_per_sheet a.cells → cells_per_sheet a.cells ≤ 1_024 → why_no_sheet page sheet a.free None ≡ None → is_itself page sheet a ≡ false
    → (let room = room_of sheet a.free in
    let largest = scale_in page room (grid_of page room a.order.turned a.cells) in
    why_not_arranged page sheet a ≡ why_no_scale room (scale_for a.scale largest) largest)
cells_reasons page sheet a some most h is = arranged_by page sheet a some most h ∙ cond-false (is_itself page sheet a) None _ is

-- why there is no scale is why nothing is arranged
pub scale_refused : (page sheet : Paper) (a : Arrangement) (room : Room) (grid : Grid) (largest : ℕ) (error : ArrangementError) → 1 ≤ cells_per_sheet a.cells → cells_per_sheet a.cells ≤ 1_024
    → why_no_sheet page sheet a.free None ≡ None → is_itself page sheet a ≡ false
    → room ≡ room_of sheet a.free → grid ≡ grid_of page room a.order.turned a.cells → largest ≡ scale_in page room grid
    → why_no_scale room (scale_for a.scale largest) largest ≡ Some error → why_not_arranged page sheet a ≡ Some error
scale_refused page sheet a room grid largest error some few good not e f g h =
    let r = room_of sheet a.free in
    let all : largest ≡ scale_in page r (grid_of page r a.order.turned a.cells) = g ∙ (ap (scale_in page room) f ∙ ap (λ x. scale_in page x (grid_of page x a.order.turned a.cells)) e) in
    cells_reasons page sheet a some few good not
    ∙ (ap (λ l. why_no_scale r (scale_for a.scale l) l) (sym all) ∙ (ap (λ x. why_no_scale x (scale_for a.scale largest) largest) (sym e) ∙ h))

-- what it is to be the page itself
pub record IsAlone (page sheet : Paper) (a : Arrangement) : Type 0 where
  pub one : cells_per_sheet a.cells ≡ 1
  pub same : SameSides page sheet
  pub bare : has_bare_edges (room_of sheet a.free) ≡ true
  pub scale : a.scale ≡ None

-- what holds of a sheet with gaps alone holds of one with bare edges
bare_at : (P : Room → Type 0) (q : Paper) (l r b t d d' m : ℕ) → l + r + (b + t) ≡ 0 → m ≡ 0 → P (room_in q d d')
    → P (record { paper = q; left = l; right = r; bottom = b; top = t; gutter_across = d; gutter_up = d'; trim = m })
bare_at P q zero zero zero zero d d' zero e f h = h
bare_at P q zero zero zero zero d d' (suc m) e f h = absurd (omega (arith, f))
bare_at P q (suc l) r b t d d' m e f h = absurd (omega (arith, e))
bare_at P q zero (suc r) b t d d' m e f h = absurd (omega (arith, e))
bare_at P q zero zero (suc b) t d d' m e f h = absurd (omega (arith, e))
bare_at P q zero zero zero (suc t) d d' m e f h = absurd (omega (arith, e))

pub bare_edges : (P : Room → Type 0) (room : Room) → has_bare_edges room ≡ true → P (room_in room.paper room.gutter_across room.gutter_up) → P room
bare_edges P room h holds =
    let both = both_true (room.left + room.right + (room.bottom + room.top) == 0) (room.trim == 0) h in
    bare_at P room.paper room.left room.right room.bottom room.top room.gutter_across room.gutter_up room.trim (same_byte (room.left + room.right + (room.bottom + room.top)) 0 both.0) (same_byte room.trim 0 both.1) holds

pub no_scale : (asked : Option ℤ) → is_none asked ≡ true → asked ≡ None
no_scale None e = refl
no_scale (Some s) e = absurd (cc (e))

pub is_alone : (page sheet : Paper) (a : Arrangement) → is_itself page sheet a ≡ true → IsAlone page sheet a
is_alone page sheet a h =
    let three = both_true ((cells_per_sheet a.cells == 1) && is_same page sheet && has_bare_edges (room_of sheet a.free)) (is_none a.scale) h in
    let two = both_true ((cells_per_sheet a.cells == 1) && is_same page sheet) (has_bare_edges (room_of sheet a.free)) three.0 in
    let one = both_true (cells_per_sheet a.cells == 1) (is_same page sheet) two.0 in
    record {
      one = same_byte (cells_per_sheet a.cells) 1 one.0;
      same = same_sides page sheet one.1;
      bare = two.1;
      scale = no_scale a.scale three.1;
    }

-- ---- leaves

pub leaves_refused : (page sheet : Paper) (b : Binding) (e : ArrangementError) → why_no_sheet page sheet b.free None ≡ Some e → why_not_bound page sheet b ≡ Some e
leaves_refused page sheet b e h = sheet_stops page sheet b.free _ e h

pub leaves_reasons : (page sheet : Paper) (b : Binding) → why_no_sheet page sheet b.free None ≡ None
    → (let room = room_of sheet b.free in
    let largest = scale_in page room (beside true) in
    why_not_bound page sheet b ≡ error_unless (is_even room) why.UnevenMargins (error_unless (folds_short page room) why.FoldOnLongEdge (why_no_scale room (scale_for b.scale largest) largest)))
leaves_reasons page sheet b h = sheet_on page sheet b.free _ h

pub leaves_possible : (page sheet : Paper) (b : Binding) → why_no_sheet page sheet b.free None ≡ None → is_even (room_of sheet b.free) ≡ true → folds_short page (room_of sheet b.free) ≡ true
    → (let room = room_of sheet b.free in
    let largest = scale_in page room (beside true) in
    why_not_bound page sheet b ≡ why_no_scale room (scale_for b.scale largest) largest)
leaves_possible page sheet b h even folds =
    leaves_reasons page sheet b h ∙ (cond-true (is_even (room_of sheet b.free)) _ _ even ∙ cond-true (folds_short page (room_of sheet b.free)) _ _ folds)

-- what is found of a scale is found of leaves
pub leaf_reason : (page sheet : Paper) (b : Binding) (room : Room) (largest : ℕ) (found : Option ArrangementError) → why_no_sheet page sheet b.free None ≡ None
    → room ≡ room_of sheet b.free → is_even room ≡ true → folds_short page room ≡ true → largest ≡ scale_in page room (beside true) → why_no_scale room (scale_for b.scale largest) largest ≡ found
    → why_not_bound page sheet b ≡ found
leaf_reason page sheet b room largest found good e even folds g h =
    let r = room_of sheet b.free in
    let all : largest ≡ scale_in page r (beside true) = g ∙ ap (λ x. scale_in page x (beside true)) e in
    leaves_possible page sheet b good (ap is_even (sym e) ∙ even) (ap (folds_short page) (sym e) ∙ folds)
    ∙ (ap (λ l. why_no_scale r (scale_for b.scale l) l) (sym all) ∙ (ap (λ x. why_no_scale x (scale_for b.scale largest) largest) (sym e) ∙ h))

-- and so are margins that aren't even
pub uneven : (page sheet : Paper) (b : Binding) (room : Room) → why_no_sheet page sheet b.free None ≡ None → room ≡ room_of sheet b.free → is_even room ≡ false → why_not_bound page sheet b ≡ Some why.UnevenMargins
uneven page sheet b room good e not =
    leaves_reasons page sheet b good ∙ cond-false (is_even (room_of sheet b.free)) _ _ (ap is_even (sym e) ∙ not)

pub long_fold : (page sheet : Paper) (b : Binding) (room : Room) → why_no_sheet page sheet b.free None ≡ None → room ≡ room_of sheet b.free → is_even room ≡ true → folds_short page room ≡ false
    → why_not_bound page sheet b ≡ Some why.FoldOnLongEdge
long_fold page sheet b room good e even not =
    leaves_reasons page sheet b good
    ∙ (cond-true (is_even (room_of sheet b.free)) _ _ (ap is_even (sym e) ∙ even) ∙ cond-false (folds_short page (room_of sheet b.free)) _ _ (ap (folds_short page) (sym e) ∙ not))

pub even_room : (room : Room) → is_even room ≡ true → IsEven room
even_room room h =
    let both = both_true (room.left == room.right) (room.bottom == room.top) h in
    record { across = same_byte room.left room.right both.0; up = same_byte room.bottom room.top both.1 }

-- ---- the fold

behind_true : (x y z : Bool) → x ≡ true → z ≡ y → z ≡ x && y
behind_true true y z e f = f
behind_true false y z e f = cc

pub folds_is : (page : Paper) (room : Room) (w h a b : ℕ) → w ≡ nat_abs room.paper.width → h ≡ nat_abs room.paper.height → w ≤ h
    → a ≡ scale_in page room (beside false) → b ≡ scale_in page room (beside true) → nat_le a b ≡ folds_short page room
folds_is page room w h a b wide high most upright turned =
    behind_true (nat_le (nat_abs room.paper.width) (nat_abs room.paper.height)) (nat_le (scale_in page room (beside false)) (scale_in page room (beside true))) (nat_le a b)
    (le-leb (nat_abs room.paper.width) (nat_abs room.paper.height) (omega (arith, wide, high, most)))
    (ap (λ m. nat_le m b) upright ∙ ap (nat_le (scale_in page room (beside false))) turned)
