-- Pages as they are lie alone.
use Rattle.std.proofs.Common.{arith, ℕ, suc, zero, ◌<◌, Option, Some, None, List, [], ◌∷◌, refl}
use Rattle.std.specs.Prelude.{All, AllPairs, slice_index_or}
use Rattle.std.proofs.lemmas.Int.{ints}
use Rattle.std.proofs.lemmas.List.Elements.{All-map}
use Rattle.rules.specs.Papers.{Paper}
use Rattle.rules.specs.Made.{MadeSlot, Placed}
use Rattle.rules.specs.Rows.{Row}
use Rattle.layouts.specs.Placed.{IsInside, bare}
use Rattle.row_sheets.specs.RowSheets.{as_it_is, selected, selected_sheet}
use Rattle.row_sheets.specs.Filled.{SlotIsInside, SlotsAreApart}
use Rattle.row_runs.specs.Standing.{HoldsOnePage}

inside : (paper : Paper) → IsInside (bare paper) paper as_it_is
inside paper p of =
    let left = of.left in let right = of.right in let bottom = of.bottom in let top = of.top in
    record {
      left = omega (arith, ints, left);
      right = omega (arith, ints, right);
      bottom = omega (arith, ints, bottom);
      top = omega (arith, ints, top);
    }

alone : (P : MadeSlot → Type 0) (slot : MadeSlot) → P slot → All P (slot ∷ [])
alone P slot h zero d less = h
alone P slot h (suc k) d less = absurd (omega (arith, less))

no_two : (R : MadeSlot → MadeSlot → Type 0) (slot : MadeSlot) → AllPairs R (slot ∷ [])
no_two R slot i j d before less = absurd (few i j before less)
  where
    few : (i j : ℕ) → i < j → j < 1 → ⊥
    few i j before less = omega (arith, before, less)

entry_alone : (papers : List Paper) (blank : Paper) (entry : Option ℕ) → HoldsOnePage (selected_sheet papers blank entry)
entry_alone papers blank None = record {
  slot = _;
  alone = refl;
  is_as_it_is = tt;
  stands = record {
    paper = refl;
    inside = alone (SlotIsInside (bare blank)) _ tt;
    apart = no_two (SlotsAreApart (bare blank)) _;
  };
}
entry_alone papers blank (Some page) =
    let paper = slice_index_or papers page blank in
    record {
      slot = _;
      alone = refl;
      is_as_it_is = (refl, refl);
      stands = record {
        paper = refl;
        inside = alone (SlotIsInside (bare paper)) (Placed page as_it_is paper) (inside paper);
        apart = no_two (SlotsAreApart (bare paper)) _;
      };
    }

pub selected_alone : (papers : List Paper) (blank : Paper) (row : Row) → All HoldsOnePage (selected papers blank row)
selected_alone papers blank row =
    All-map HoldsOnePage (selected_sheet papers blank) row (λ k d less. entry_alone papers blank (slice_index_or row k d))
