-- Reading a specification from the left of a text.
use Rattle.std.specs.Prelude.{ℕ, zero, suc, ℤ, Bool, false, ◌&&◌, ◌||◌, ◌==◌, if◌then◌else◌, List, [], ◌∷◌, length}
use Rattle.std.specs.Prelude.{Option, Some, None}
use Rattle.rules.specs.Bytes.{at_sign, closing_parenthesis, colon, comma, minus_sign, opening_parenthesis, plus_sign}
use Rattle.rules.specs.Numbers.{number_of}
use Rattle.rules.specs.Papers.{LengthUnit, Pt, Cm, Mm, In, Width, Height}
use Rattle.rules.specs.Specification.{Measure, Modifier, Quarters, Scaled, Moved, WrittenItem, WrittenSpec}
use Rattle.lengths.specs.Reading.{digits, past_digits, is_empty, number_at}

-- the number of quarters to the left that a letter means
abbrev pub quarters_of : ℕ → ℕ
quarters_of b =
    if (b == 76) || (b == 108) then 1
    else (if (b == 85) || (b == 117) then 2 else (if (b == 82) || (b == 114) then 3 else 0))

infixl 10 ◌>>=◌
abbrev pub ◌>>=◌ : {A B : Type 0} → Option A → (A → Option B) → Option B
(Some x) >>= f = f x
None >>= f = None

-- what follows this byte
abbrev pub byte_at : ℕ → List ℕ → Option (List ℕ)
byte_at c [] = None
byte_at c (b ∷ text) = if b == c then Some text else None

-- a unit of two letters, the first of which was read
abbrev pub second_letter : ℕ → List ℕ → LengthUnit × List ℕ
second_letter a [] = (Pt, a ∷ [])
second_letter a (b ∷ text) =
    if (a == 112) && (b == 116) then (Pt, text)
    else (if (a == 99) && (b == 109) then (Cm, text)
    else (if (a == 109) && (b == 109) then (Mm, text)
    else (if (a == 105) && (b == 110) then (In, text) else (Pt, a ∷ b ∷ text))))

-- the unit at the front, which is points if there is none
abbrev pub unit_at : List ℕ → LengthUnit × List ℕ
unit_at [] = (Pt, [])
unit_at (a ∷ text) = if a == 119 then (Width, text) else (if a == 104 then (Height, text) else second_letter a text)

-- what follows the first letter of a unit of two
abbrev pub past_letter : List ℕ → List ℕ
past_letter [] = []
past_letter (b ∷ text) = if ((b == 112) || (b == 99)) || ((b == 109) || (b == 105)) then text else b ∷ text

abbrev pub measure_from : ℤ → LengthUnit × List ℕ → Measure × List ℕ
measure_from v u = (record { number = v; unit = u.0 }, u.1)

unfoldable pub measure_at : List ℕ → Option (Measure × List ℕ)
measure_at text = number_at text >>= λ v. Some (measure_from v.0 (unit_at v.1))

-- an offset after its bracket
unfoldable pub offset_at : List ℕ → Option (Modifier × List ℕ)
offset_at text = measure_at text >>= λ x. byte_at comma x.1 >>= λ t. measure_at t >>= λ y.
    byte_at closing_parenthesis y.1 >>= λ rest. Some (Moved x.0 y.0, rest)

unfoldable pub scale_at : List ℕ → Option (Modifier × List ℕ)
scale_at text = number_at text >>= λ v. Some (Scaled v.0, v.1)

unfoldable pub modifier_at : List ℕ → Option (Modifier × List ℕ)
modifier_at [] = None
modifier_at (b ∷ text) =
    if b == at_sign then scale_at text
    else (if b == opening_parenthesis then offset_at text
    else (if quarters_of b == 0 then None else Some (Quarters (quarters_of b), text)))

abbrev pub with_modifier : Modifier → List Modifier × List ℕ → List Modifier × List ℕ
with_modifier m more = (m ∷ more.0, more.1)

-- the modifier that was read, if any, and those after it
abbrev pub modifiers_or : (List ℕ → List Modifier × List ℕ) → List ℕ
    → Option (Modifier × List ℕ) → List Modifier × List ℕ
modifiers_or more text None = ([], text)
modifiers_or more text (Some m) = with_modifier m.0 (more m.1)

-- all modifiers at the front, up to this number; each has at least one byte, so the number of bytes is enough
unfoldable pub modifiers_at : ℕ → List ℕ → List Modifier × List ℕ
modifiers_at zero text = ([], text)
modifiers_at (suc k) text = modifiers_or (λ t. modifiers_at k t) text (modifier_at text)

abbrev pub is_minus_first : List ℕ → Bool
is_minus_first [] = false
is_minus_first (b ∷ text) = b == minus_sign

abbrev pub past_minus : List ℕ → List ℕ
past_minus [] = []
past_minus (b ∷ text) = if b == minus_sign then text else b ∷ text

abbrev pub item_with : Bool → ℕ → List Modifier × List ℕ → WrittenItem × List ℕ
item_with from_end page ms = (record { from_end = from_end; page = page; modifiers = ms.0 }, ms.1)

-- an item after its minus
abbrev pub item_from : Bool → List ℕ → Option (WrittenItem × List ℕ)
item_from from_end text =
    if is_empty (digits text) then None
    else Some (item_with from_end (number_of (digits text))
    (modifiers_at (length (past_digits text)) (past_digits text)))

-- an item with its page number
unfoldable pub item_at : List ℕ → Option (WrittenItem × List ℕ)
item_at text = item_from (is_minus_first text) (past_minus text)

abbrev pub with_part : {X : Type 0} → X → List X × List ℕ → Option (List X × List ℕ)
with_part x more = Some (x ∷ more.0, more.1)

-- the parts after a separator, if there is one
abbrev pub more_at : {X : Type 0} → (List ℕ → Option (List X × List ℕ)) → X × List ℕ
    → Option (List ℕ) → Option (List X × List ℕ)
more_at more x None = Some (x.0 ∷ [], x.1)
more_at more x (Some text) = more text >>= λ xs. with_part x.0 xs

-- parts with this byte between them; each but the last has a byte after it, so the number of bytes is the most
-- parts there can be
unfoldable pub joined_at : {X : Type 0} → ℕ → (List ℕ → Option (X × List ℕ)) → ℕ → List ℕ → Option (List X × List ℕ)
joined_at c part zero text = None
joined_at c part (suc k) text = part text >>= λ x. more_at (λ t. joined_at c part k t) x (byte_at c x.1)

abbrev pub group_at : List ℕ → Option (List WrittenItem × List ℕ)
group_at text = joined_at plus_sign item_at (suc (length text)) text

abbrev pub groups_at : List ℕ → Option (List (List WrittenItem) × List ℕ)
groups_at text = joined_at comma group_at (suc (length text)) text

abbrev pub if_all_read : {X : Type 0} → X × List ℕ → Option X
if_all_read x = if is_empty x.1 then Some x.0 else None

-- groups that nothing follows
abbrev pub whole_groups_at : List ℕ → Option (List (List WrittenItem))
whole_groups_at text = groups_at text >>= if_all_read

-- the one item that may leave its page number out
unfoldable pub bare_at : List ℕ → Option WrittenItem
bare_at text = if is_empty text then None
    else if_all_read (item_with (is_minus_first text) 0 (modifiers_at (length (past_minus text)) (past_minus text)))

abbrev pub or_bare : List ℕ → Option (List (List WrittenItem)) → Option (List (List WrittenItem))
or_bare text None = bare_at text >>= λ i. Some ((i ∷ []) ∷ [])
or_bare text (Some groups) = Some groups

unfoldable pub all_groups_at : List ℕ → Option (List (List WrittenItem))
all_groups_at text = or_bare text (groups_at text >>= if_all_read)

abbrev pub tree_of : ℕ → List (List WrittenItem) → Option WrittenSpec
tree_of modulo groups = Some (record { modulo = modulo; groups = groups })

-- what follows a modulo and its colon
abbrev pub past_modulo : List ℕ → Option (List ℕ)
past_modulo text = if is_empty (digits text) then None else byte_at colon (past_digits text)

abbrev pub tree_from : List ℕ → Option (List ℕ) → Option WrittenSpec
tree_from text None = all_groups_at text >>= tree_of 1
tree_from text (Some rest) = all_groups_at rest >>= tree_of (number_of (digits text))

-- the tree that a text means
unfoldable pub spec_at : List ℕ → Option WrittenSpec
spec_at text = tree_from text (past_modulo text)
