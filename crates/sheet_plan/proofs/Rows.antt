-- Which sheet is which group of which block.
use Rattle.std.proofs.Common.{arith, ◌≡◌, ℕ, zero, suc, ◌*◌, ◌/◌, ◌%◌, ◌<◌, List, [], ◌∷◌, length, map, get_or, Option, refl, sym, ap, ◌∙◌}
use Rattle.std.proofs.lemmas.Nat.{div-add-mod', mod_below, div_below}
use Rattle.std.proofs.lemmas.List.{length-map, get_or-map}
use Rattle.rules.specs.Specification.{Spec, Item}
use Rattle.rules.specs.Sheets.{Slot, place, blocks}
use Rattle.rules.specs.Signatures.{entry_in, row_len, sheets_in}
use Rattle.rules.proofs.Counts.{row_at, sheet_count}
use Rattle.sheet_plan.specs.Plans.{planned_in, pages_on, items_on}

map_map : {X Y Z : Type 0} (f : Y → Z) (h : X → Y) (xs : List X) → map f (map h xs) ≡ map (λ x. f (h x)) xs
map_map f h [] = refl
map_map f h (x ∷ xs) = ap (λ ys. f (h x) ∷ ys) (map_map f h xs)

map_id : {X : Type 0} (xs : List X) → map (λ x. x) xs ≡ xs
map_id [] = refl
map_id (x ∷ xs) = ap (λ ys. x ∷ ys) (map_id xs)

abbrev slot_of : (sides : Option ℕ) → Spec → (n b : ℕ) → Item → Slot
slot_of sides spec n b i = record { page = entry_in sides n (place spec.modulo (row_len sides n) b i); item = i }

-- where a sheet is: its block and its group
pub record IsSheet (sides : Option ℕ) (spec : Spec) (n s : ℕ) : Type 0 where
  pub some : 0 < length spec.groups
  pub block : s / length spec.groups < blocks spec.modulo (row_len sides n)
  pub group : s % length spec.groups < length spec.groups

positive : (k g s : ℕ) → s < k * g → 0 < g
positive k zero s lt = absurd (let e : k * 0 ≡ 0 = omega arith in omega arith)
positive k (suc g) s lt = omega arith

pub is_sheet : (sides : Option ℕ) (spec : Spec) (n s : ℕ) → s < length (sheets_in sides spec n) → IsSheet sides spec n s
is_sheet sides spec n s lt =
    let count = sheet_count spec (row_len sides n) (entry_in sides n) in
    let within : s < blocks spec.modulo (row_len sides n) * length spec.groups = omega arith in
    let some = positive (blocks spec.modulo (row_len sides n)) (length spec.groups) s within in
    record { some = some; block = div_below s (length spec.groups) (blocks spec.modulo (row_len sides n)) some within; group = mod_below s (length spec.groups) some }

sheet_row : (sides : Option ℕ) (spec : Spec) (n s : ℕ) → s < length (sheets_in sides spec n) → get_or (sheets_in sides spec n) s [] ≡ map (slot_of sides spec n (s / length spec.groups)) (get_or spec.groups (s % length spec.groups) [])
sheet_row sides spec n s lt =
    let at = is_sheet sides spec n s lt in
    let split = div-add-mod' s (length spec.groups) in
    ap (λ k. get_or (sheets_in sides spec n) k []) (sym split)
    ∙ row_at (λ b. map (λ g. map (slot_of sides spec n b) g) spec.groups) (length spec.groups) (λ b. length-map spec.groups (λ g. map (slot_of sides spec n b) g)) 0 (blocks spec.modulo (row_len sides n)) (s / length spec.groups) (s % length spec.groups) (s / length spec.groups) [] at.block at.group (omega arith)
    ∙ get_or-map (λ g. map (slot_of sides spec n (s / length spec.groups)) g) spec.groups (s % length spec.groups) [] [] at.group

-- the pages of a sheet
pub pages_row : (sides : Option ℕ) (spec : Spec) (n s : ℕ) → s < length (sheets_in sides spec n) → pages_on (planned_in sides spec n) s ≡ map (λ i. entry_in sides n (place spec.modulo (row_len sides n) (s / length spec.groups) i)) (get_or spec.groups (s % length spec.groups) [])
pages_row sides spec n s lt =
    get_or-map (λ slots. map (λ slot. slot.page) slots) (sheets_in sides spec n) s [] [] lt
    ∙ ap (map (λ (slot : Slot). slot.page)) (sheet_row sides spec n s lt)
    ∙ map_map (λ (slot : Slot). slot.page) (slot_of sides spec n (s / length spec.groups)) (get_or spec.groups (s % length spec.groups) [])

-- its items
pub items_row : (sides : Option ℕ) (spec : Spec) (n s : ℕ) → s < length (sheets_in sides spec n) → items_on (planned_in sides spec n) s ≡ get_or spec.groups (s % length spec.groups) []
items_row sides spec n s lt =
    ap (map (λ (slot : Slot). slot.item)) (sheet_row sides spec n s lt)
    ∙ map_map (λ (slot : Slot). slot.item) (slot_of sides spec n (s / length spec.groups)) (get_or spec.groups (s % length spec.groups) [])
    ∙ map_id (get_or spec.groups (s % length spec.groups) [])

-- as many slots as the group has items
pub slot_count : (sides : Option ℕ) (spec : Spec) (n s : ℕ) → s < length (sheets_in sides spec n) → length (pages_on (planned_in sides spec n) s) ≡ length (get_or spec.groups (s % length spec.groups) [])
slot_count sides spec n s lt = ap length (pages_row sides spec n s lt) ∙ length-map (get_or spec.groups (s % length spec.groups) []) (λ i. entry_in sides n (place spec.modulo (row_len sides n) (s / length spec.groups) i))
