-- Cards are a grid whose row has each entry as often as a sheet has cells.
use Rattle.std.proofs.Common.{ℕ, zero, suc, ◌+◌, ◌*◌, ◌<◌, ◌≡◌, ◌∙◌, refl, ap, ap₂, sym, arith, List, [], ◌∷◌, ◌++◌, Option, map, false, length, replicate}
use Rattle.std.specs.Prelude.{flat_map}
use Rattle.std.specs.List.{range_with_len}
use Rattle.std.proofs.Math.Nat.{suc-mul}
use Rattle.std.proofs.lemmas.List.{ext_get_or}
use Rattle.std.proofs.lemmas.List.Concat.{flat_map-cons}
use Rattle.std.proofs.lemmas.List.FromFn.{get_or-map-range_with_len, length-map-range_with_len}
use Rattle.rules.specs.Made.{Blank, MadeSheet, MadeSlot}
use Rattle.rules.specs.Rows.{Row}
use Rattle.rules.specs.Sheets.{blocks}
use Rattle.rules.specs.Signatures.{entry_of}
use Rattle.row_sheets.specs.Filled.{CardsAreGrid, Filling, card_entry, filled, grid_entry, is_turned, slot_on}
use Rattle.rows.proofs.AsMany.{copies_count}
use Rattle.rows.proofs.LastIsLast.{whole_blocks}

-- ---- an entry of the copies

among_copies : (n c : ℕ) (x : Option ℕ) (rest : Row) → c < n → entry_of (replicate n x ++ rest) c ≡ x
among_copies zero c x rest less = absurd (omega (arith, less))
among_copies (suc n) zero x rest less = refl
among_copies (suc n) (suc c) x rest less = among_copies n c x rest (omega (arith, less))

past_copies : (n k : ℕ) (x : Option ℕ) (rest : Row) → entry_of (replicate n x ++ rest) (n + k) ≡ entry_of rest k
past_copies zero k x rest = let none : 0 + k ≡ k = omega arith in ap (entry_of rest) none
past_copies (suc n) k x rest =
    let next : suc n + k ≡ suc (n + k) = omega arith in ap (entry_of (x ∷ replicate n x ++ rest)) next ∙ past_copies n k x rest

copied : (cells : ℕ) (row : Row) (s c : ℕ) → c < cells → entry_of (flat_map (replicate cells) row) (s * cells + c) ≡ entry_of row s
copied cells [] s c less = refl
copied cells (x ∷ row) zero c less =
    let first : 0 * cells + c ≡ c = omega arith in
    ap₂ entry_of (flat_map-cons (replicate cells) x row) first ∙ among_copies cells c x (flat_map (replicate cells) row) less
copied cells (x ∷ row) (suc s) c less =
    let e : suc s * cells ≡ s * cells + cells = suc-mul s cells in
    let next : suc s * cells + c ≡ cells + (s * cells + c) = omega (arith, e) in
    ap₂ entry_of (flat_map-cons (replicate cells) x row) next ∙ past_copies cells (s * cells + c) x (flat_map (replicate cells) row) ∙ copied cells row s c less

-- ---- sheets

same_in_range : (n : ℕ) (f g : ℕ → MadeSlot) → ((i : ℕ) → i < n → f i ≡ g i) → map f (range_with_len 0 n) ≡ map g (range_with_len 0 n)
same_in_range n f g same =
    let many = length-map-range_with_len f 0 n in
    ext_get_or Blank (map f (range_with_len 0 n)) (map g (range_with_len 0 n)) (many ∙ sym (length-map-range_with_len g 0 n))
    (λ i lt. let less : i < n = omega (arith, lt, many) in
    get_or-map-range_with_len f 0 n i i Blank less (omega arith) ∙ same i less ∙ sym (get_or-map-range_with_len g 0 n i i Blank less (omega arith)))

abbrev side : Filling → (cells s : ℕ) → (entry : (s c : ℕ) → Option ℕ) → MadeSheet
side f cells s entry = record {
  paper = f.setting.room.paper;
  slots = map (λ c. slot_on f (is_turned false s) c (entry s c)) (range_with_len 0 cells);
}

same_side : (f : Filling) (cells s : ℕ) (one other : (s c : ℕ) → Option ℕ) → ((c : ℕ) → c < cells → one s c ≡ other s c) → side f cells s one ≡ side f cells s other
same_side f cells s one other same =
    ap (λ (slots : List MadeSlot). record { paper = f.setting.room.paper; slots = slots })
    (same_in_range cells (λ c. slot_on f (is_turned false s) c (one s c)) (λ c. slot_on f (is_turned false s) c (other s c))
    (λ c less. ap (slot_on f (is_turned false s) c) (same c less)))

pub cards_are_grid : CardsAreGrid
cards_are_grid f cells row some =
    let copies = flat_map (replicate cells) row in
    let count : blocks cells (length copies) ≡ length row = ap (blocks cells) (copies_count cells row) ∙ whole_blocks cells (length row) some in
    ap (λ (g : ℕ → MadeSheet). map g (range_with_len 0 (length row)))
    (λ i s. same_side f cells s (card_entry row) (grid_entry cells copies) (λ c less. sym (copied cells row s c less)) i)
    ∙ ap (λ n. filled f n cells (grid_entry cells copies)) (sym count)
