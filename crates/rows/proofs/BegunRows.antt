-- Rows that begin after used cells, and worked examples.
use Rattle.std.proofs.Common.{ℕ, zero, suc, ◌≡◌, refl, ap, [], ◌∷◌, ◌++◌, None, Some, drop, replicate, take}
use Rattle.rules.specs.Choice.{InOne}
use Rattle.rules.specs.Rows.{Row, all_pages}
use Rattle.rows.specs.Printed.{BegunLeavesUsed, begun_row, laid_row}
use Rattle.rows.specs.declared.printed.Begun.TheVariants as begun

first_part : (used : ℕ) (rest : Row) → take used (replicate used None ++ rest) ≡ replicate used None
first_part zero rest = refl
first_part (suc used) rest = ap (λ xs. None ∷ xs) (first_part used rest)

rest_of : (used : ℕ) (rest : Row) → drop used (replicate used None ++ rest) ≡ rest
rest_of zero rest = refl
rest_of (suc used) rest = rest_of used rest

pub begun_leaves_used : BegunLeavesUsed
begun_leaves_used cells used row = record {
  blank = first_part used row;
  kept = rest_of used row;
  blank_cards = first_part used _;
  kept_cards = rest_of used _;
}

-- three pages from the fourth cell on
from_the_fourth : begun_row (begun.Pages 3) (all_pages 3) ≡ None ∷ None ∷ None ∷ Some 0 ∷ Some 1 ∷ Some 2 ∷ []
from_the_fourth = refl

-- cards of two pages, four on a sheet, of which one is used: the first page has three cards, and the second one four
three_and_four : begun_row (begun.Cards 4 1) (all_pages 2) ≡ None ∷ Some 0 ∷ Some 0 ∷ Some 0 ∷ Some 1 ∷ Some 1 ∷ Some 1 ∷ Some 1 ∷ []
three_and_four = refl

-- whole sheets begin with the row, and a row in signatures isn't begun
on_a_whole_sheet : begun_row (begun.Pages 0) (all_pages 3) ≡ all_pages 3
on_a_whole_sheet = refl

not_in_signatures : laid_row (begun.Pages 1) (Some InOne) (all_pages 2) ≡ None ∷ Some 0 ∷ Some 1 ∷ None ∷ []
not_in_signatures = refl
