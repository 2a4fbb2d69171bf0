-- Which specifications are taken, and the first fault of the others.
-- From pstops(1), DESCRIPTION: a modulo above 0, and page numbers from 0 to modulo - 1. The other checks, their
-- order and their limits are rules of this project.
use Rattle.std.specs.Prelude.{◌≡◌, ℕ, ◌<◌, ◌≤◌, pos, int_le, Bool, true, false, ◌||◌, ◌==◌, nat_lt, nat_le}
use Rattle.std.specs.Prelude.{if◌then◌else◌, List, length, position, count_by, flat_map, Option, Some, None, Result, Ok}
use Rattle.std.specs.Prelude.{Err}
use Rattle.std.specs.List.{list_any}
use Rattle.rules.specs.Numbers.{greatest_whole, is_large}
use Rattle.rules.specs.Specification.{WrittenItem, WrittenSpec, Modifier, Quarters, Scaled, Moved, IsSpec, Spec}
use Rattle.rules.specs.Specification.{settled}

-- the limits: the most bytes and groups of a page specification, and the most items of a group
abbrev pub most_spec_bytes : ℕ
most_spec_bytes = 65_536

abbrev pub most_groups : ℕ
most_groups = 10_000

abbrev pub most_slots : ℕ
most_slots = 4_096

-- why a text is refused; the first two are faults of the text, the others of its meaning
pub data Fault : Type 0 where
  TooLong : Fault
  Syntax : Fault
  TooLarge : Fault
  ModuloZero : Fault
  PageOutOfBlock : (item : ℕ) → Fault
  ScaleZero : (item : ℕ) → Fault
  Repeated : (item : ℕ) → Fault
  TooManySlots : (group : ℕ) → Fault
  TooManyGroups : Fault

-- the items of all groups in one row, in which they are counted from 0
abbrev pub items : WrittenSpec → List WrittenItem
items spec = flat_map (λ g. g) spec.groups

-- a number in it has a whole part above 99,999
abbrev pub has_large : Modifier → Bool
has_large (Quarters n) = false
has_large (Scaled v) = is_large v
has_large (Moved x y) = is_large x.number || is_large y.number

abbrev pub is_scale : Modifier → Bool
is_scale (Quarters n) = false
is_scale (Scaled v) = true
is_scale (Moved x y) = false

abbrev pub is_offset : Modifier → Bool
is_offset (Quarters n) = false
is_offset (Scaled v) = false
is_offset (Moved x y) = true

-- a modifier is a scale that isn't above zero
abbrev pub is_flat : Modifier → Bool
is_flat (Quarters n) = false
is_flat (Scaled v) = int_le v (pos 0)
is_flat (Moved x y) = false

-- the modulo, a page number or the whole part of a number is above the greatest
abbrev pub any_too_large : WrittenSpec → Bool
any_too_large spec =
    nat_lt greatest_whole spec.modulo || list_any (λ i.
    nat_lt greatest_whole i.page || list_any has_large i.modifiers) (items spec)

-- the item has a second scale or a second offset
abbrev pub repeats : WrittenItem → Bool
repeats i = nat_lt 1 (count_by is_scale i.modifiers) || nat_lt 1 (count_by is_offset i.modifiers)

-- the first fault of a list of checks
abbrev pub else_first : Option Fault → Option Fault → Option Fault
else_first None later = later
else_first (Some f) later = Some f

abbrev pub only_if : Bool → Fault → Option Fault
only_if b f = if b then Some f else None

-- the fault of the lowest place that was found, if any
abbrev pub at_lowest : Option ℕ → (ℕ → Fault) → Option Fault
at_lowest None f = None
at_lowest (Some i) f = Some (f i)

-- the first check that fails, at the lowest item or group. Each check goes over the whole specification. A group
-- has at most this many items
abbrev pub fault_of : (most : ℕ) → WrittenSpec → Option Fault
fault_of most spec =
    else_first (only_if (any_too_large spec) TooLarge)
    (else_first (only_if (spec.modulo == 0) ModuloZero)
    (else_first (at_lowest (position (λ i. nat_le spec.modulo i.page) (items spec)) PageOutOfBlock)
    (else_first (at_lowest (position (λ i. list_any is_flat i.modifiers) (items spec)) ScaleZero)
    (else_first (at_lowest (position repeats (items spec)) Repeated)
    (else_first (at_lowest (position (λ g. nat_lt most (length g)) spec.groups) TooManySlots)
    (only_if (nat_lt most_groups (length spec.groups)) TooManyGroups))))))

-- the text is refused with this fault
abbrev pub Refuses : (most : ℕ) → List ℕ → Fault → Type 0
Refuses most text TooLong = most_spec_bytes < length text
Refuses most text Syntax = (length text ≤ most_spec_bytes) × ((spec : WrittenSpec) → IsSpec text spec → ⊥)
Refuses most text fault = (length text ≤ most_spec_bytes) × (spec : WrittenSpec) × IsSpec text spec
    × (fault_of most spec ≡ Some fault)

-- the text is taken, with this result
abbrev pub Takes : (most : ℕ) → List ℕ → Spec → Type 0
Takes most text spec =
    (length text ≤ most_spec_bytes) × (written : WrittenSpec) × IsSpec text written
    × (fault_of most written ≡ None) × (spec ≡ settled written)

-- a text is taken with this result
pub record IsAdmissible (most : ℕ) (spec : Spec) : Type 0 where
  pub text : List ℕ
  pub taken : Takes most text spec

-- a law: a text has the meaning of at most one specification. So the fault that `Refuses` names is the only one
abbrev pub OneReading : Type 0
OneReading = (text : List ℕ) (one other : WrittenSpec) → IsSpec text one → IsSpec text other → one ≡ other

-- the answer of a reader of specifications: the result, or the fault
abbrev pub IsAnswer : (most : ℕ) → List ℕ → Result Spec Fault → Type 0
IsAnswer most text (Ok spec) = Takes most text spec
IsAnswer most text (Err fault) = Refuses most text fault

-- a law: a text has at most one answer. So a text that is taken is not refused, and one that is refused is not
-- taken
abbrev pub OneAnswer : Type 0
OneAnswer = (most : ℕ) (text : List ℕ) (one other : Result Spec Fault) → IsAnswer most text one
    → IsAnswer most text other → one ≡ other
