-- Pages that have their places lie in their cells, and read in order.
use Rattle.std.proofs.Common.{arith, ℕ, ◌<◌, Option, Some, None}
use Rattle.std.specs.Prelude.{map}
use Rattle.std.specs.List.{range_with_len}
use Rattle.layouts.specs.Cells.{size}
use Rattle.layouts.proofs.Fitting.{fitted_stands, fitted_is_in_order}
use Rattle.row_sheets.specs.Filled.{Filling, slot_in_cell}
use Rattle.row_sheets.specs.Standing.{EntryFits, FilledStandsInCells, SlotIsFitted, SlotsAreInOrder, StandsInCells}
use Rattle.row_sheets.proofs.OnSheets.{each_of, numbered, two_numbered}

slot_fitted : (f : Filling) (c : ℕ) (entry : Option ℕ) → c < size f.setting.grid → EntryFits f entry → SlotIsFitted f.setting c (slot_in_cell f c entry)
slot_fitted f c None within has = tt
slot_fitted f c (Some page) within has = fitted_stands f.setting (f.paper_of page) c has.page_is has.sheet_is within has.fits

slots_in_order : (f : Filling) (c d : ℕ) (one other : Option ℕ) → c < size f.setting.grid → d < size f.setting.grid → EntryFits f one → EntryFits f other
    → SlotsAreInOrder f.setting c d (slot_in_cell f c one) (slot_in_cell f d other)
slots_in_order f c d None other in_c in_d has has' = tt
slots_in_order f c d (Some page) None in_c in_d has has' = tt
slots_in_order f c d (Some page) (Some page') in_c in_d has has' =
    fitted_is_in_order f.setting (f.paper_of page) (f.paper_of page') c d has.page_is has'.page_is has.sheet_is has.fits has'.fits in_c in_d

pub filled_stands_in_cells : FilledStandsInCells
filled_stands_in_cells f sheets cells entry enough fits =
    each_of (StandsInCells f.setting) (λ s. record {
      paper = f.setting.room.paper;
      slots = map (λ c. slot_in_cell f c (entry s c)) (range_with_len 0 cells);
    }) sheets (λ s less. record {
      fitted = numbered (SlotIsFitted f.setting) (λ c. slot_in_cell f c (entry s c)) cells
          (λ c within. slot_fitted f c (entry s c) (omega (arith, within, enough)) (fits s c));
      in_order = two_numbered (SlotsAreInOrder f.setting) (λ c. slot_in_cell f c (entry s c)) cells
          (λ b c in_b in_c. slots_in_order f b c (entry s b) (entry s c) (omega (arith, in_b, enough)) (omega (arith, in_c, enough)) (fits s b) (fits s c));
    })
