-- The word of the blank slots of a group.
use Rattle.std.proofs.Common.{◌≡◌, ℕ, zero, suc, ◌+◌, ◌-◌, ◌*◌, ◌<◌, ◌≤◌, ◌^◌, ◌==◌, ltb, Bool, true, false, not, List, [], ◌∷◌, length, refl, sym, ap, ◌∙◌, subst, arith}
use Rattle.std.specs.Prelude.{Some, None, Option, slice_get, if◌then◌else◌}
use Rattle.std.specs.Int.{bit_at}
use mathlib.Core.Logic.{dite}
use native.Mathlib.Decide.{ℕ_discrete}
use Rattle.std.proofs.Math.ListN.{length-map}
use Rattle.rules.specs.Sheets.{Plan, Layout, layout}
use Rattle.sheet_plan.specs.Plans as plans
use Rattle.gather_table.specs.Table.{is_blank_slot, in_group, bits, slots, slots_on, group_size, IsSoundLayout}
use Rattle.gather_table.specs.Words.{has_bit}
use Rattle.gather_table.proofs.Bits.{bits_same, bits_not}
use Rattle.gather_table.proofs.Stored.{made_of_bits}
use Rattle.gather_table.proofs.Widths.{size_at_most, in_sheet}

pub sheets_of : (plan : Plan) → length (layout plan).sheets ≡ length plan.sheets
sheets_of plan = length-map plan.sheets _

-- what the program counts up to is a sheet of the layout
pub sheet_in : (plan : Plan) (s n : ℕ) → n ≡ length plan.sheets → s < n → s < length (layout plan).sheets
sheet_in plan s n is lt = let l = sheets_of plan in omega arith

-- every plan's layout is sound
pub sound_of : (plan : Plan) → plans.IsSound plan → IsSoundLayout (layout plan)
sound_of plan ok =
    let l = sheets_of plan in
    record {
      few_pages = ok.few_pages;
      few_sheets = let f = ok.few_sheets in omega arith;
      narrow = λ s lt. ok.few_slots s (omega arith);
      paged = λ s k p lt at. ok.paged s k p (omega arith) at;
    }

-- a slot is blank if it exists and has no page
needed_or_blank : (xs : List (Option ℕ)) (k : ℕ) → k < length xs → not (plans.is_page (slice_get xs k)) ≡ is_blank_slot xs k
needed_or_blank [] k lt = absurd (omega arith)
needed_or_blank (None ∷ xs) zero lt = refl
needed_or_blank (Some p ∷ xs) zero lt = refl
needed_or_blank (None ∷ xs) (suc k) lt = needed_or_blank xs k (omega arith)
needed_or_blank (Some p ∷ xs) (suc k) lt = needed_or_blank xs k (omega arith)

none_beyond : (xs : List (Option ℕ)) (k : ℕ) → length xs ≤ k → plans.is_page (slice_get xs k) ≡ false
none_beyond [] k le = refl
none_beyond (x ∷ xs) zero le = absurd (omega arith)
none_beyond (x ∷ xs) (suc k) le = none_beyond xs k (omega arith)

bits_beyond : (f : ℕ → Bool) (n m : ℕ) → n ≤ m → ((k : ℕ) → n ≤ k → k < m → f k ≡ false) → bits f m ≡ bits f n
bits_beyond f n zero le none = let z : n ≡ zero = omega arith in ap (bits f) (sym z)
bits_beyond f n (suc m) le none = dite (ℕ_discrete n (suc m))
    (λ same. ap (bits f) (sym same))
    (λ other.
    let h = bits_beyond f n m (omega arith) (λ k low lt. none k low (omega arith)) in
    let z : (if f m then 2 ^ m else 0) ≡ 0 = ap (λ (b : Bool). if b then 2 ^ m else 0) (none m (omega arith) (omega arith)) in omega arith)

bit_told : (b : Bool) → ((if b then 1 else 0) == 1) ≡ b
bit_told true = refl
bit_told false = refl

-- after the group's last slot there is none of the group, unless it has 64
past_size : (layout : Layout) (s g j : ℕ) → group_size layout s g ≤ j → j < 64 → slots_on layout s ≤ 64 * g + j
past_size layout s g j le lt = two (ltb (64 * g + 64) (slots_on layout s)) refl
  where
    two : (b : Bool) → ltb (64 * g + 64) (slots_on layout s) ≡ b → slots_on layout s ≤ 64 * g + j
    two true e = let l : 64 ≤ j = subst (λ (b : Bool). (if b then 64 else slots_on layout s - 64 * g) ≤ j) e le in absurd (omega arith)
    two false e = let l : slots_on layout s - 64 * g ≤ j = subst (λ (b : Bool). (if b then 64 else slots_on layout s - 64 * g) ≤ j) e le in omega arith

-- all slots of a group without the needed ones are the blank ones
pub blanks_left : (layout : Layout) (s g missing full size : ℕ) → missing < 2 ^ 64 → size ≡ group_size layout s g → full ≡ 2 ^ size - 1
    → ((j : ℕ) → j < 64 → bit_at missing j ≡ (if plans.is_page (slice_get (slots layout s) (64 * g + j)) then 1 else 0))
    → (missing ≤ full) × (full - missing ≡ bits (in_group (is_blank_slot (slots layout s)) g) (group_size layout s g))
blanks_left layout s g missing full size small is_size is_full told =
    let f : ℕ → Bool = λ j. plans.is_page (slice_get (slots layout s) (64 * g + j)) in
    let n = group_size layout s g in
    let made = made_of_bits missing 64 small in
    let same : bits (has_bit missing) 64 ≡ bits f 64 = bits_same (has_bit missing) f 64 (λ j lt. ap (λ (x : ℕ). x == 1) (told j lt) ∙ bit_told (f j)) in
    let cut : bits f 64 ≡ bits f n = bits_beyond f n 64 (size_at_most layout s g) (λ j le lt. none_beyond (slots layout s) (64 * g + j) (past_size layout s g j le lt)) in
    let others = bits_not f n in
    let blanks : bits (λ j. not (f j)) n ≡ bits (in_group (is_blank_slot (slots layout s)) g) n = bits_same (λ j. not (f j)) (in_group (is_blank_slot (slots layout s)) g) n (λ j lt. needed_or_blank (slots layout s) (64 * g + j) (in_sheet layout s g j lt)) in
    let all : full ≡ 2 ^ n - 1 = is_full ∙ ap (λ (k : ℕ). 2 ^ k - 1) is_size in
    (omega arith, omega arith)
