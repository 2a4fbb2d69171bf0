-- The first limit that is exceeded.
use Rattle.std.proofs.Common.{arith, ◌≡◌, ℕ, ◌+◌, ◌*◌, ◌/◌, ◌%◌, ◌<◌, ◌≤◌, List, length, map, refl, sym, ap, ◌∙◌, subst, min, Bool, true, false, Result, Ok, Err, Option}
use Rattle.std.specs.Prelude.{sum_by, nat_lt, All}
use Rattle.std.specs.declared.vec.Vec.{Vec}
use Rattle.std.specs.declared.alloc.Global.{Global}
use Rattle.std.proofs.lemmas.Bool.Decides.{nat_tests}
use Rattle.std.proofs.lemmas.List.{length-map}
use Rattle.pagespec.specs.declared.item.Item.{Item as PageItem}
use Rattle.pagespec.specs.Items.{groups_of, item_of}
use Rattle.rules.specs.Specification.{Spec}
use Rattle.rules.specs.Admissible.{IsAdmissible, most_slots, most_groups}
use Rattle.rules.specs.Sheets.{Slot, blocks}
use Rattle.rules.specs.Signatures.{AreSidesIfGiven, entry_in, row_len, sheets_in}
use Rattle.rules.specs.Run.{plan_in, refuse_if, PlanFault, PlanTooManyPages, TooManySheets, TooManyPlaces}
use Rattle.rules.proofs.Counts.{sheet_count, place_count}
use Rattle.sheet_plan.specs.Refusals.{IsAccepted}
use Rattle.sheet_plan.proofs.Admitted.{bounded}
use Rattle.sheet_plan.proofs.Bounds.{blocks_ceil, blocks_le}
use Rattle.sheet_plan.specs.Sources.{spec_of}
use Rattle.sheet_plan.proofs.Access.{few_in_block}

pub refused : {A E : Type 0} (b : Bool) (fault : E) (next : Result A E) → b ≡ true → refuse_if b fault next ≡ Err fault
refused true fault next e = refl
refused false fault next e = cc

pub passed : {A E : Type 0} (b : Bool) (fault : E) (next : Result A E) → b ≡ false → refuse_if b fault next ≡ next
passed true fault next e = cc
passed false fault next e = refl

pub above : (limit n : ℕ) → limit < n → nat_lt limit n ≡ true
above limit n lt = grind (arith, nat_tests)

pub within : (limit n : ℕ) → n ≤ limit → nat_lt limit n ≡ false
within limit n le = grind (arith, nat_tests)

abbrev places_tested : (sides : Option ℕ) → Spec → ℕ → Result (List (List Slot)) PlanFault
places_tested sides spec n = refuse_if (nat_lt 4_000_000 (sum_by length (sheets_in sides spec n))) TooManyPlaces (Ok (sheets_in sides spec n))

abbrev sheets_tested : (sides : Option ℕ) → Spec → ℕ → Result (List (List Slot)) PlanFault
sheets_tested sides spec n = refuse_if (nat_lt 1_000_000 (length (sheets_in sides spec n))) TooManySheets (places_tested sides spec n)

past_pages : (sides : Option ℕ) (spec : Spec) (n : ℕ) → row_len sides n ≤ 1_000_000 → plan_in sides spec n ≡ sheets_tested sides spec n
past_pages sides spec n le = passed (nat_lt 1_000_000 (row_len sides n)) PlanTooManyPages (sheets_tested sides spec n) (within 1_000_000 (row_len sides n) le)

past_sheets : (sides : Option ℕ) (spec : Spec) (n : ℕ) → length (sheets_in sides spec n) ≤ 1_000_000 → sheets_tested sides spec n ≡ places_tested sides spec n
past_sheets sides spec n le = passed (nat_lt 1_000_000 (length (sheets_in sides spec n))) TooManySheets (places_tested sides spec n) (within 1_000_000 (length (sheets_in sides spec n)) le)

pub too_many_sheets : (sides : Option ℕ) (spec : Spec) (n : ℕ) → row_len sides n ≤ 1_000_000 → 1_000_000 < length (sheets_in sides spec n) → plan_in sides spec n ≡ Err TooManySheets
too_many_sheets sides spec n le lt = past_pages sides spec n le ∙ refused (nat_lt 1_000_000 (length (sheets_in sides spec n))) TooManySheets (places_tested sides spec n) (above 1_000_000 (length (sheets_in sides spec n)) lt)

pub too_many_places : (sides : Option ℕ) (spec : Spec) (n : ℕ) → row_len sides n ≤ 1_000_000 → length (sheets_in sides spec n) ≤ 1_000_000 → 4_000_000 < sum_by length (sheets_in sides spec n) → plan_in sides spec n ≡ Err TooManyPlaces
too_many_places sides spec n le few lt = past_pages sides spec n le ∙ past_sheets sides spec n few ∙ refused (nat_lt 4_000_000 (sum_by length (sheets_in sides spec n))) TooManyPlaces (Ok (sheets_in sides spec n)) (above 4_000_000 (sum_by length (sheets_in sides spec n)) lt)

pub accepted : (sides : Option ℕ) (spec : Spec) (n : ℕ) → row_len sides n ≤ 1_000_000 → length (sheets_in sides spec n) ≤ 1_000_000 → sum_by length (sheets_in sides spec n) ≤ 4_000_000 → plan_in sides spec n ≡ Ok (sheets_in sides spec n)
accepted sides spec n le few fit = past_pages sides spec n le ∙ past_sheets sides spec n few ∙ passed (nat_lt 4_000_000 (sum_by length (sheets_in sides spec n))) TooManyPlaces (Ok (sheets_in sides spec n)) (within 4_000_000 (sum_by length (sheets_in sides spec n)) fit)

-- what the fields say of the sheets of a specification
pub record IsCounted (sides : Option ℕ) (spec : Spec) (n modulo many : ℕ) (groups : List (Vec PageItem Global)) : Type 0 where
  pub positive : 0 < modulo
  pub same : spec_of modulo groups ≡ spec
  pub ceil : many ≡ blocks modulo (row_len sides n)
  pub few_blocks : many ≤ row_len sides n
  pub few_groups : length groups ≤ most_groups
  pub few_slots : sum_by length (groups_of groups) ≤ most_groups * most_slots
  pub sheet_total : many * length groups ≡ length (sheets_in sides spec n)
  pub place_total : many * sum_by length (groups_of groups) ≡ sum_by length (sheets_in sides spec n)

counted_fields : (sides : Option ℕ) (n modulo many : ℕ) (groups : List (Vec PageItem Global)) → IsAdmissible most_slots (spec_of modulo groups) → many ≡ row_len sides n / modulo + min 1 (row_len sides n % modulo) → IsCounted sides (spec_of modulo groups) n modulo many groups
counted_fields sides n modulo many groups admissible is =
    let spec = spec_of modulo groups in
    let entries = row_len sides n in
    let b = bounded spec admissible in
    let up : many ≡ blocks modulo entries = is ∙ blocks_ceil entries modulo b.modulo in
    let len = length-map groups (λ g. map item_of g.items) in
    record {
      positive = b.modulo;
      same = refl;
      ceil = up;
      few_blocks = let le = blocks_le entries modulo b.modulo in omega arith;
      few_groups = let f = b.few_groups in omega arith;
      few_slots = few_in_block spec b;
      sheet_total = ap (λ k. k * length groups) up ∙ ap (λ k. blocks modulo entries * k) (sym len) ∙ sym (sheet_count spec entries (entry_in sides n));
      place_total = ap (λ k. k * sum_by length (groups_of groups)) up ∙ sym (place_count spec entries (entry_in sides n));
    }

same_fields : (spec : Spec) (modulo : ℕ) (groups : List (Vec PageItem Global)) → modulo ≡ spec.modulo → groups_of groups ≡ spec.groups → spec_of modulo groups ≡ spec
same_fields spec modulo groups m g = ap (λ k. record { modulo = k; groups = groups_of groups }) m ∙ ap (λ gs. record { modulo = spec.modulo; groups = gs }) g

pub counted : (sides : Option ℕ) (spec : Spec) (n entries modulo many : ℕ) (groups : List (Vec PageItem Global)) → entries ≡ row_len sides n → modulo ≡ spec.modulo → groups_of groups ≡ spec.groups → IsAdmissible most_slots spec → many ≡ entries / modulo + min 1 (entries % modulo) → IsCounted sides spec n modulo many groups
counted sides spec n entries modulo many groups l m g admissible is =
    let same = same_fields spec modulo groups m g in
    let up : many ≡ row_len sides n / modulo + min 1 (row_len sides n % modulo) = is ∙ ap (λ k. k / modulo + min 1 (k % modulo)) l in
    subst (λ s. IsCounted sides s n modulo many groups) same (counted_fields sides n modulo many groups (subst (IsAdmissible most_slots) (sym same) admissible) up)

-- an accepted specification, by its fields
pub accepted_fields : (sides : Option ℕ) (spec : Spec) (n modulo : ℕ) (groups : List (Vec PageItem Global)) → AreSidesIfGiven sides → spec_of modulo groups ≡ spec → IsAdmissible most_slots spec → All (λ g. 0 < length g) spec.groups → row_len sides n ≤ 1_000_000 → length (sheets_in sides spec n) ≤ 1_000_000 → sum_by length (sheets_in sides spec n) ≤ 4_000_000 → IsAccepted sides (spec_of modulo groups) n
accepted_fields sides spec n modulo groups valid same admissible filled le few fit = subst (λ s. IsAccepted sides s n) (sym same) (record { valid = valid; admissible = admissible; filled = filled; few_entries = le; few_sheets = few; few_places = fit })
