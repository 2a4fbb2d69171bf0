-- The sheets of a specification on a row, block by block and group by group.
use Rattle.std.proofs.Common.{◌≡◌, ◌∙◌, ℕ, List, [], ◌∷◌, ◌++◌, length, map, refl, sym, ap}
use Rattle.std.specs.Prelude.{flat_map}
use Rattle.std.specs.List.{range_with_len}
use Rattle.std.proofs.lemmas.List.{map-append}
use Rattle.std.proofs.lemmas.List.Concat.{flat_map-cons}
use Rattle.std.proofs.lemmas.Simd.{map-map}
use Rattle.rules.specs.Papers.{Paper}
use Rattle.rules.specs.Specification.{Item, Spec}
use Rattle.rules.specs.Sheets.{Slot, blocks, place}
use Rattle.rules.specs.Signatures.{entry_of}
use Rattle.rules.specs.Made.{MadeSheet, MadeSlot, made_slot}
use Rattle.rules.specs.Rows.{Row, sheets_of_row}
use Rattle.row_sheets.specs.BySpec.{made_on, sheet_by}

pub map_flat : {X Y : Type 0} (h : X → Y) (f : ℕ → List X) (bs : List ℕ) → map h (flat_map f bs) ≡ flat_map (λ b. map h (f b)) bs
map_flat h f [] = refl
map_flat h f (b ∷ bs) =
    ap (map h) (flat_map-cons f b bs)
    ∙ map-append h (f b) (flat_map f bs)
    ∙ ap (λ xs. map h (f b) ++ xs) (map_flat h f bs)
    ∙ sym (flat_map-cons (λ c. map h (f c)) b bs)

-- ---- the sheets of a specification, group by group
pub same_flats : {Y : Type 0} (f g : ℕ → List Y) → ((b : ℕ) → f b ≡ g b) → (bs : List ℕ) → flat_map f bs ≡ flat_map g bs
same_flats f g h [] = refl
same_flats f g h (b ∷ bs) = flat_map-cons f b bs ∙ ap (λ xs. xs ++ flat_map f bs) (h b) ∙ ap (λ xs. g b ++ xs) (same_flats f g h bs) ∙ sym (flat_map-cons g b bs)

abbrev slot_at : Row → (m b : ℕ) → Item → Slot
slot_at row m b item = record { page = entry_of row (place m (length row) b item); item = item }

abbrev made_sheet : (sheet paper : Paper) → List Slot → MadeSheet
made_sheet sheet paper slots = record { paper = sheet; slots = map (λ slot. made_slot paper slot.page slot.item) slots }

made_groups : (sheet paper : Paper) (row : Row) (m b : ℕ) (groups : List (List Item))
    → map (made_sheet sheet paper) (map (λ g. map (slot_at row m b) g) groups) ≡ map (sheet_by sheet paper row m b) groups
made_groups sheet paper row m b [] = refl
made_groups sheet paper row m b (g ∷ gs) =
    ap (λ (xs : List MadeSlot). record { paper = sheet; slots = xs } ∷ map (made_sheet sheet paper) (map (λ h. map (slot_at row m b) h) gs)) (map-map (λ slot. made_slot paper slot.page slot.item) (slot_at row m b) g)
    ∙ ap (λ (rest : List MadeSheet). sheet_by sheet paper row m b g ∷ rest) (made_groups sheet paper row m b gs)

pub made_sheets_are : (sheet paper : Paper) (row : Row) (spec : Spec)
    → made_on sheet paper (sheets_of_row spec row) ≡ flat_map (λ b. map (sheet_by sheet paper row spec.modulo b) spec.groups) (range_with_len 0 (blocks spec.modulo (length row)))
made_sheets_are sheet paper row spec =
    map_flat (made_sheet sheet paper) (λ b. map (λ g. map (slot_at row spec.modulo b) g) spec.groups) (range_with_len 0 (blocks spec.modulo (length row)))
    ∙ same_flats (λ b. map (made_sheet sheet paper) (map (λ g. map (slot_at row spec.modulo b) g) spec.groups)) (λ b. map (sheet_by sheet paper row spec.modulo b) spec.groups)
    (λ b. made_groups sheet paper row spec.modulo b spec.groups) (range_with_len 0 (blocks spec.modulo (length row)))
