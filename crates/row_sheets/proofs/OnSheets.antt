-- Sheets whose pages have their places are laid out well.
use Rattle.std.proofs.Common.{arith, ◌≡◌, ◌≢◌, ℕ, ◌<◌, ◌≤◌, Bool, true, false, Option, Some, None, length, refl, sym, subst}
use Rattle.std.specs.Prelude.{All, AllPairs, map, slice_index_or}
use Rattle.std.specs.List.{range_with_len}
use Rattle.std.proofs.lemmas.List.FromFn.{get_or-map-range_with_len, length-map-range_with_len}
use Rattle.layouts.specs.declared.setting.Setting.{Setting}
use Rattle.layouts.specs.Placed.{IsEven}
use Rattle.layouts.specs.Cells.{size}
use Rattle.layouts.proofs.Fitting.{fitted_stands, fitted_is_apart, stands_back, scale_of_many, backs_are_apart}
use Rattle.row_sheets.specs.Filled.{Filling, filled, slot_on, sides, is_turned, SlotIsInside, SlotsAreApart}
use Rattle.row_sheets.specs.Standing.{StandsInRoom, AllStand, EntryFits}

-- ---- what is numbered in turn

pub numbered : {X : Type 0} (P : ℕ → X → Type 0) (f : ℕ → X) (n : ℕ) → ((k : ℕ) → k < n → P k (f k))
    → (k : ℕ) (d : X) → k < length (map f (range_with_len 0 n)) → P k (slice_index_or (map f (range_with_len 0 n)) k d)
numbered P f n h k d less =
    let many = length-map-range_with_len f 0 n in
    let below : k < n = omega (arith, less, many) in
    subst (P k) (sym (get_or-map-range_with_len f 0 n k k d below (omega arith))) (h k below)

pub each_of : {X : Type 0} (P : X → Type 0) (f : ℕ → X) (n : ℕ) → ((k : ℕ) → k < n → P (f k)) → All P (map f (range_with_len 0 n))
each_of P f n h = numbered (λ k. P) f n h

-- each two of what is numbered in turn
pub two_numbered : {X : Type 0} (R : ℕ → ℕ → X → X → Type 0) (f : ℕ → X) (n : ℕ) → ((i j : ℕ) → i < n → j < n → R i j (f i) (f j))
    → (i j : ℕ) (d : X) → i < length (map f (range_with_len 0 n)) → j < length (map f (range_with_len 0 n))
    → R i j (slice_index_or (map f (range_with_len 0 n)) i d) (slice_index_or (map f (range_with_len 0 n)) j d)
two_numbered R f n h i j d in_i in_j =
    numbered (λ k x. R k j x (slice_index_or (map f (range_with_len 0 n)) j d)) f n
    (λ k less. numbered (λ l y. R k l (f k) y) f n (λ l below. h k l less below) j d in_j) i d in_i

pub each_two_of : {X : Type 0} (R : X → X → Type 0) (f : ℕ → X) (n : ℕ) → ((i j : ℕ) → i < n → j < n → i ≢ j → R (f i) (f j)) → AllPairs R (map f (range_with_len 0 n))
each_two_of R f n h i j d before less =
    two_numbered (λ i j x y. i ≢ j → R x y) f n h i j d (omega (arith, before, less)) less (λ e. omega (arith, before, e))

-- ---- a sheet

-- there are two cells, and margins are even: a sheet may be turned by half
pub record MayTurn (t : Setting) : Type 0 where
  pub many : 2 ≤ size t.grid
  pub even : IsEven t.room

pub slot_inside : (f : Filling) (by_half : Bool) (c : ℕ) (entry : Option ℕ) → (by_half ≡ true → MayTurn f.setting) → c < size f.setting.grid → EntryFits f entry
    → SlotIsInside f.setting.room (slot_on f by_half c entry)
slot_inside f false c None turns within fits = tt
slot_inside f true c None turns within fits = tt
slot_inside f false c (Some page) turns within has =
    (fitted_stands f.setting (f.paper_of page) c has.page_is has.sheet_is within has.fits).inside
slot_inside f true c (Some page) turns within has =
    let may = turns refl in
    (stands_back f.setting (f.paper_of page) c has.page_is has.sheet_is within (scale_of_many f.setting (f.paper_of page) may.many has.fits)).inside may.even

pub slots_apart : (f : Filling) (by_half : Bool) (c d : ℕ) (one other : Option ℕ) → c < size f.setting.grid → d < size f.setting.grid → c ≢ d → EntryFits f one → EntryFits f other
    → SlotsAreApart f.setting.room (slot_on f by_half c one) (slot_on f by_half d other)
slots_apart f false c d None other in_c in_d differ has has' = tt
slots_apart f true c d None other in_c in_d differ has has' = tt
slots_apart f false c d (Some page) None in_c in_d differ has has' = tt
slots_apart f true c d (Some page) None in_c in_d differ has has' = tt
slots_apart f false c d (Some page) (Some page') in_c in_d differ has has' =
    fitted_is_apart f.setting (f.paper_of page) (f.paper_of page') c d has.page_is has'.page_is has.sheet_is has.fits has'.fits in_c in_d differ
slots_apart f true c d (Some page) (Some page') in_c in_d differ has has' =
    backs_are_apart f.setting (f.paper_of page) (f.paper_of page') c d has.page_is has'.page_is has.sheet_is has.fits has'.fits in_c in_d differ

only_backs : (turned_backs : Bool) (s : ℕ) (t : Setting) → (turned_backs ≡ true → MayTurn t) → is_turned turned_backs s ≡ true → MayTurn t
only_backs true s t h e = h refl
only_backs false s t h e = absurd (cc (e))

-- ---- all sheets

pub sides_stand : (f : Filling) (turned_backs : Bool) (sheets cells : ℕ) (entry : (s c : ℕ) → Option ℕ) → cells ≤ size f.setting.grid → (turned_backs ≡ true → MayTurn f.setting)
    → ((s c : ℕ) → s < sheets → c < cells → EntryFits f (entry s c)) → AllStand f.setting.room (sides f turned_backs sheets cells entry)
sides_stand f turned_backs sheets cells entry enough halves fits =
    each_of (StandsInRoom f.setting.room) (λ s. record {
      paper = f.setting.room.paper;
      slots = map (λ c. slot_on f (is_turned turned_backs s) c (entry s c)) (range_with_len 0 cells);
    }) sheets (λ s less. let half = is_turned turned_backs s in record {
      paper = refl;
      inside = each_of (SlotIsInside f.setting.room) (λ c. slot_on f half c (entry s c)) cells
          (λ c within. slot_inside f half c (entry s c) (only_backs turned_backs s f.setting halves) (omega (arith, within, enough)) (fits s c less within));
      apart = each_two_of (SlotsAreApart f.setting.room) (λ c. slot_on f half c (entry s c)) cells
          (λ c d in_c in_d differ. slots_apart f half c d (entry s c) (entry s d) (omega (arith, in_c, enough)) (omega (arith, in_d, enough)) differ (fits s c less in_c) (fits s d less in_d));
    })

pub not_turned : (t : Setting) → false ≡ true → MayTurn t
not_turned t e = absurd (cc (e))

pub filled_stand : (f : Filling) (sheets cells : ℕ) (entry : (s c : ℕ) → Option ℕ) → cells ≤ size f.setting.grid → ((s c : ℕ) → s < sheets → c < cells → EntryFits f (entry s c))
    → AllStand f.setting.room (filled f sheets cells entry)
filled_stand f sheets cells entry enough fits = sides_stand f false sheets cells entry enough (not_turned f.setting) fits
