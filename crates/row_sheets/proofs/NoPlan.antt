-- Sheets of a specification on a row that pass a limit: they are no plan, and the limit is their first fault.
use Rattle.std.proofs.Common.{arith, cond, ◌≡◌, ℕ, ◌+◌, ◌<◌, ◌≤◌, Bool, true, false, List, [], ◌∷◌, length, map, get_or, refl, sym, ap, subst, ◌∙◌}
use Rattle.std.specs.Prelude.{◌&&◌, All, Err, None, Some, flat_map, nat_le, not, position, sum_by}
use Rattle.std.specs.List.{position_from, range_with_len}
use Rattle.std.proofs.lemmas.Bool.{le-leb}
use Rattle.std.proofs.lemmas.List.{length-map}
use Rattle.std.proofs.lemmas.List.Concat.{flat_map-cons}
use Rattle.std.proofs.lemmas.List.Elements.{All-append, All-map, All-nil, All-tail}
use Rattle.rules.specs.Admissible.{IsAdmissible, most_slots}
use Rattle.rules.specs.Papers.{Paper}
use Rattle.rules.specs.Sheets.{blocks}
use Rattle.rules.specs.Specification.{Item, Spec}
use Rattle.rules.specs.Made.{MadeSheet}
use Rattle.rules.specs.MadePlans.{MadeTooManyPlaces, MadeTooManySheets, is_slot_count, made_plan_of, slot_count}
use Rattle.rules.specs.Rows.{Row}
use Rattle.sheet_plan.proofs.Accepted.{looked_none, too_many_places, too_many_sheets, uneven}
use Rattle.sheet_plan.proofs.Admitted.{bounded, filled}
use Rattle.row_sheets.specs.BySpec.{by_spec, sheet_by, item_slot}
use Rattle.row_sheets.proofs.GroupByGroup.{made_sheets_are}

pub none_from : {X : Type 0} (p : X → Bool) (xs : List X) (k : ℕ) → All (λ x. p x ≡ false) xs → position_from p k xs ≡ None
none_from p [] k h = refl
none_from p (x ∷ xs) k h =
    ap (λ b. cond b (Some k) (position_from p (k + 1) xs)) (h 0 x (omega arith)) ∙ none_from p xs (k + 1) (All-tail (λ y. p y ≡ false) x xs h)

pub even_count : (k : ℕ) → 0 < k → k ≤ 4_096 → not (is_slot_count k) ≡ false
even_count k some few = ap (λ b. not (b && nat_le k 4_096)) (le-leb 1 k (omega (arith, some))) ∙ ap (λ b. not (true && b)) (le-leb k 4_096 few)

-- a group has at least one item, and not too many
even_group : (sheet page : Paper) (row : Row) (m b : ℕ) (g : List Item) → 0 < length g → length g ≤ 4_096 → uneven (sheet_by sheet page row m b g) ≡ false
even_group sheet page row m b g some few =
    ap (λ n. not (is_slot_count n)) (length-map g (item_slot page row m b)) ∙ even_count (length g) some few

even_block : (sheet page : Paper) (row : Row) (spec : Spec) → IsAdmissible most_slots spec → (b : ℕ)
    → All (λ s. uneven s ≡ false) (map (sheet_by sheet page row spec.modulo b) spec.groups)
even_block sheet page row spec admissible b =
    All-map (λ s. uneven s ≡ false) (sheet_by sheet page row spec.modulo b) spec.groups
    (λ k d less. even_group sheet page row spec.modulo b (get_or spec.groups k d) (filled spec admissible k d less) ((bounded spec admissible).few_slots k d less))

in_blocks : (P : MadeSheet → Type 0) (f : ℕ → List MadeSheet) → ((b : ℕ) → All P (f b)) → (bs : List ℕ) → All P (flat_map f bs)
in_blocks P f each [] = All-nil P
in_blocks P f each (b ∷ bs) = subst (All P) (sym (flat_map-cons f b bs)) (All-append P (f b) (flat_map f bs) (each b) (in_blocks P f each bs))

all_even : (spec : Spec) (sheet page : Paper) (row : Row) → IsAdmissible most_slots spec → position uneven (by_spec spec sheet page row) ≡ None
all_even spec sheet page row admissible =
    let all = by_spec spec sheet page row in
    looked_none uneven all
    ∙ none_from uneven all 0 (subst (All (λ s. uneven s ≡ false)) (sym (made_sheets_are sheet page row spec))
    (in_blocks (λ s. uneven s ≡ false) (λ b. map (sheet_by sheet page row spec.modulo b) spec.groups) (even_block sheet page row spec admissible) (range_with_len 0 (blocks spec.modulo (length row)))))

pub many_sheets : (spec : Spec) (sheet page : Paper) (row : Row) → 1_000_000 < length (by_spec spec sheet page row)
    → (pages : ℕ) → pages ≤ 1_000_000 → made_plan_of pages (by_spec spec sheet page row) ≡ Err MadeTooManySheets
many_sheets spec sheet page row many pages le = too_many_sheets pages (by_spec spec sheet page row) le many

pub many_places : (spec : Spec) (sheet page : Paper) (row : Row) → IsAdmissible most_slots spec → length (by_spec spec sheet page row) ≤ 1_000_000
    → 4_000_000 < sum_by slot_count (by_spec spec sheet page row) → (pages : ℕ) → pages ≤ 1_000_000 → made_plan_of pages (by_spec spec sheet page row) ≡ Err MadeTooManyPlaces
many_places spec sheet page row admissible few many pages le =
    too_many_places pages (by_spec spec sheet page row) le few (all_even spec sheet page row admissible) many
