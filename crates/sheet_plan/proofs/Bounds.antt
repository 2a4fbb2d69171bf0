-- What is accepted keeps to the limits of a plan.
use Rattle.std.proofs.Common.{arith, ◌≡◌, ℕ, zero, suc, ◌+◌, ◌-◌, ◌*◌, ◌/◌, ◌%◌, ◌<◌, ◌≤◌, [], length, get_or, refl, sym, ap, ◌∙◌, Option, Some, None, min}
use Rattle.std.specs.Prelude.{Bool, true, false, if◌then◌else◌, slice_get, option_map}
use Rattle.std.proofs.lemmas.Nat.{div-add-mod', mod_below, div_below, div-mul-add, mul-le}
use Rattle.std.proofs.lemmas.Option.{slice_get-map, same_Some, none-some}
use Rattle.rules.specs.Specification.{Spec, Item}
use Rattle.rules.specs.Sheets.{place, blocks}
use Rattle.rules.specs.Signatures.{AreSidesIfGiven, entry_in, row_len, sheets_in}
use Rattle.rules.proofs.Signatures.{entry_named, row_holds}
use Rattle.sheet_plan.specs.Plans.{planned_in, pages_on, IsSound, IsOfSpec}
use Rattle.sheet_plan.specs.Refusals.{IsAccepted}
use Rattle.sheet_plan.proofs.Admitted.{bounded}
use Rattle.sheet_plan.proofs.Rows.{is_sheet, pages_row, slot_count}

-- ---- blocks
pub blocks_ceil : (n m : ℕ) → 0 < m → n / m + min 1 (n % m) ≡ blocks m n
blocks_ceil n m pos = by_rest (n / m) (n % m) (mod_below n m pos) (div-add-mod' n m)
  where
    whole : (q m : ℕ) → 0 < m → q * m ≡ n → q ≡ (n + (m - 1)) / m
    whole q m pos e = sym (div-mul-add q m (m - 1) (omega arith)) ∙ ap (λ k. (k + (m - 1)) / m) e

    more : (q r m : ℕ) → suc r < m → q * m + suc r ≡ n → q + 1 ≡ (n + (m - 1)) / m
    more q r m lt e =
        let s : (q + 1) * m + r ≡ n + (m - 1) = grind arith in
        sym (div-mul-add (q + 1) m r (omega arith)) ∙ ap (λ k. k / m) s

    by_rest : (q r : ℕ) → r < m → q * m + r ≡ n → q + min 1 r ≡ (n + (m - 1)) / m
    by_rest q zero lt e = let z : q + min 1 0 ≡ q = omega arith in z ∙ whole q m pos (omega arith)
    by_rest q (suc r) lt e = let z : q + min 1 (suc r) ≡ q + 1 = omega arith in z ∙ more q r m lt e

pub blocks_le : (n m : ℕ) → 0 < m → blocks m n ≤ n
blocks_le n m pos =
    let b : n + (m - 1) < suc n * m = grows n m pos in
    let d = div_below (n + (m - 1)) m (suc n) pos b in
    omega arith
  where
    grows : (n m : ℕ) → 0 < m → n + (m - 1) < suc n * m
    grows n m pos = let k : n * 1 ≤ n * m = mul-le n 1 n m (omega arith) (omega arith) in let e : suc n * m ≡ n * m + m = grind arith in omega arith

pub blocks_times : (n m : ℕ) → 0 < m → m * blocks m n < n + m
blocks_times n m pos =
    let s = div-add-mod' (n + (m - 1)) m in
    let e : m * blocks m n ≡ blocks m n * m = grind arith in
    omega arith

-- a place of a block is in the filled row
pub place_below : (m entries block : ℕ) (item : Item) → block < blocks m entries → item.page < m → place m entries block item < m * blocks m entries
place_below m entries block item lt page = by_end item.from_end (blocks m entries) item.page lt page
  where
    by_end : (from_end : Bool) (many p : ℕ) → block < many → p < m → (if from_end then m * many - (block + 1) * m + p else block * m + p) < m * many
    by_end true many p lt page =
        let whole = mul-le (block + 1) m many m (omega arith) (omega arith) in
        let turned : many * m ≡ m * many = grind arith in
        let split : (block + 1) * m ≡ block * m + m = grind arith in
        omega arith
    by_end false many p lt page =
        let whole = mul-le (block + 1) m many m (omega arith) (omega arith) in
        let turned : many * m ≡ m * many = grind arith in
        let split : (block + 1) * m ≡ block * m + m = grind arith in
        omega arith

-- ---- the limits
paged_at : (sides : Option ℕ) (spec : Spec) (n s k p : ℕ) → AreSidesIfGiven sides → s < length (sheets_in sides spec n) → slice_get (pages_on (planned_in sides spec n) s) k ≡ Some (Some p) → p < n
paged_at sides spec n s k p valid lt e =
    let row = get_or spec.groups (s % length spec.groups) [] in
    let at : Item → Option ℕ = λ i. entry_in sides n (place spec.modulo (row_len sides n) (s / length spec.groups) i) in
    named (slice_get row k) at (λ i q h. entry_named sides n (place spec.modulo (row_len sides n) (s / length spec.groups) i) q valid h) (sym (slice_get-map at row k) ∙ ap (λ xs. slice_get xs k) (sym (pages_row sides spec n s lt)) ∙ e)
  where
    named : (o : Option Item) (at : Item → Option ℕ) → ((i : Item) (q : ℕ) → at i ≡ Some q → q < n) → option_map at o ≡ Some (Some p) → p < n
    named None at h e = absurd (none-some (Some p) e)
    named (Some i) at h e = h i p (same_Some (at i) (Some p) e)

pub sound : (sides : Option ℕ) (spec : Spec) (n : ℕ) → IsAccepted sides spec n → IsSound (planned_in sides spec n)
sound sides spec n a =
    let b = bounded spec a.admissible in
    record {
      few_pages = let hold = row_holds sides n a.valid in let few = a.few_entries in omega arith;
      few_sheets = a.few_sheets;
      few_places = a.few_places;
      few_slots = λ s lt.
          let at = is_sheet sides spec n s lt in
          let count = slot_count sides spec n s lt in
          let filled = a.filled (s % length spec.groups) [] at.group in
          let thin = b.few_slots (s % length spec.groups) [] at.group in
          (omega arith, omega arith);
      paged = λ s k p lt e. paged_at sides spec n s k p a.valid lt e;
    }

pub of_spec : (sides : Option ℕ) (spec : Spec) (n : ℕ) → IsAccepted sides spec n → IsOfSpec (planned_in sides spec n)
of_spec sides spec n a = record { spec = spec; sides = sides; valid = a.valid; admissible = a.admissible; same = refl }
