-- The sheets whose slots are all blank are those that are complete before any call.
use Rattle.std.proofs.Common.{◌≡◌, ℕ, zero, suc, ◌<◌, true, true≢false, List, [], ◌∷◌, length, refl, sym, arith, Option, Some, None}
use Rattle.std.specs.Prelude.{is_none}
use Rattle.std.specs.List.{list_all}
use Rattle.gather_table.specs.Table.{slots, is_blank_slot}
use Rattle.gather_table.specs.Laws.{BlankSheetsAreComplete}
use Rattle.gather_table.proofs.Groups.{complete_closed, none_missing}

all_blank : (xs : List (Option ℕ)) (k : ℕ) → list_all is_none xs ≡ true → k < length xs → is_blank_slot xs k ≡ true
all_blank [] k e lt = absurd (omega arith)
all_blank (None ∷ xs) zero e lt = refl
all_blank (None ∷ xs) (suc k) e lt = all_blank xs k e (omega arith)
all_blank (Some p ∷ xs) k e lt = absurd (true≢false (sym e))

blank_all : (xs : List (Option ℕ)) → ((k : ℕ) → k < length xs → is_blank_slot xs k ≡ true) → list_all is_none xs ≡ true
blank_all [] h = refl
blank_all (None ∷ xs) h = blank_all xs (λ k lt. h (suc k) (omega arith))
blank_all (Some p ∷ xs) h = absurd (true≢false (sym (h 0 (omega arith))))

pub blank_sheets : BlankSheetsAreComplete
blank_sheets layout s lt = (
  λ blank. complete_closed layout [] s tt lt (λ k below. all_blank (slots layout s) k blank below) (λ g. omega arith),
  λ complete. blank_all (slots layout s) (λ k below. none_missing layout [] s k tt complete below),
)
