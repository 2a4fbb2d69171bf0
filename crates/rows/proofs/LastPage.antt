-- Blanks before the last entry, and worked examples.
use Rattle.std.proofs.Common.{ℕ, false, ◌+◌, ◌-◌, ◌≤◌, ◌≡◌, ◌∙◌, refl, ap, ap₂, sym, arith, [], ◌∷◌, ◌++◌, Option, None, Some, length, length-append, replicate, take, take_all}
use Rattle.rules.specs.Choice.{InOne, OfSides, Auto}
use Rattle.rules.specs.Rows.{Row, all_pages}
use Rattle.rows.specs.LastPage.{before_last, filled_length, last_at_back, last_at_back_if}

pub blanks_before : (front : Row) (last : Option ℕ) (n : ℕ) → front ++ replicate n None ++ last ∷ [] ≡ before_last n (front ++ last ∷ [])
blanks_before [] last n = refl
blanks_before (x ∷ []) last n = refl
blanks_before (x ∷ y ∷ front) last n = ap (λ row. x ∷ row) (blanks_before (y ∷ front) last n)

-- the last entry is taken, blanks fill up what is left, and it is put back
pub filled_before : (front row padded found : Row) (last : Option ℕ) (filled kept : ℕ) → row ≡ front ++ last ∷ [] → length row ≤ filled → kept ≡ length front
    → padded ≡ take (filled - 1) front ++ replicate (filled - 1 - kept) None → found ≡ padded ++ last ∷ [] → found ≡ before_last (filled - length row) row
filled_before front row padded found last filled kept is more len pads ends =
    let count : length row ≡ length front + 1 = ap length is ∙ length-append front (last ∷ []) in
    let blanks : filled - 1 - kept ≡ filled - length row = omega (arith, count, len) in
    ends
    ∙ ap (λ xs. xs ++ last ∷ []) (pads ∙ ap₂ (λ xs n. xs ++ replicate n None) (take_all (filled - 1) front (omega (arith, count, more))) blanks)
    ∙ blanks_before front last (filled - length row)
    ∙ ap (before_last (filled - length row)) (sym is)

-- six pages in one signature: two blanks come before the sixth page
sixth_at_back : last_at_back (Some InOne) (all_pages 6) ≡ Some 0 ∷ Some 1 ∷ Some 2 ∷ Some 3 ∷ Some 4 ∷ None ∷ None ∷ Some 5 ∷ []
sixth_at_back = refl

-- a page alone comes after three blanks
page_alone : last_at_back (Some InOne) (all_pages 1) ≡ None ∷ None ∷ None ∷ Some 0 ∷ []
page_alone = refl

-- four pages fill one signature, pages without signatures need no blanks, and blanks come before the last page only if they are asked for
nothing_to_fill : last_at_back (Some InOne) (all_pages 4) ≡ all_pages 4
nothing_to_fill = refl

not_in_signatures : last_at_back None (all_pages 6) ≡ all_pages 6
not_in_signatures = refl

not_asked : last_at_back_if false (Some InOne) (all_pages 6) ≡ all_pages 6
not_asked = refl

-- 9 pages make three leaves, two signatures of eight sides, or one signature of 32; 33 pages make two signatures of five leaves. No row has over a
-- million entries
filled_in_one : filled_length InOne 9 ≡ 12
filled_in_one = refl

filled_in_eights : filled_length (OfSides 8) 9 ≡ 16
filled_in_eights = refl

filled_in_one_of_32 : filled_length (OfSides 32) 9 ≡ 32
filled_in_one_of_32 = refl

filled_by_themselves : filled_length Auto 33 ≡ 40
filled_by_themselves = refl

filled_to_a_million : filled_length (OfSides 12) 999_999 ≡ 1_000_000
filled_to_a_million = refl
