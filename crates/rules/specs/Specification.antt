-- Texts of specifications and their meaning.
-- The grammar is that of pstops(1), DESCRIPTION (pagespecs, specs, spec), without the flips H and V. Rules of this
-- project are: modifiers in any order, small letters for turns, the units pt and mm, turns that add up, at most one
-- scale and one offset, and the canonical text.
use Rattle.std.specs.Prelude.{◌≡◌, ◌≢◌, ℕ, ◌+◌, ◌%◌, ℤ, pos, negsuc, nat_abs, Bool, true, false, ◌&&◌, ◌==◌}
use Rattle.std.specs.Prelude.{if◌then◌else◌, List, [], ◌∷◌, ◌++◌, map, ◌⊎◌, codes, decimal}
use Rattle.std.specs.List.{AllPass}
use Rattle.std.specs.Char.{is_ascii_digit}
use Rattle.rules.specs.Bytes.{opening_parenthesis, closing_parenthesis, plus_sign, comma, minus_sign, colon, at_sign}
use Rattle.rules.specs.Numbers.{IsNumber, number_of, number_text}
use Rattle.rules.specs.Papers.{LengthUnit, Pt, Cm, Mm, In, Width, Height}

-- a number, in 10^-9, with its unit
pub record Measure : Type 0 where
  pub number : ℤ
  pub unit : LengthUnit

-- what may follow a page number: a turn by this many quarters to the left, a scale in 10^-9, or an offset
pub data Modifier : Type 0 where
  Quarters : ℕ → Modifier
  Scaled : ℤ → Modifier
  Moved : (x y : Measure) → Modifier

-- an item as it is written: any number of scales and offsets, and numbers of any size
pub record WrittenItem : Type 0 where
  pub from_end : Bool
  pub page : ℕ
  pub modifiers : List Modifier

-- a specification as it is written: the number of pages of a block, and a group for each sheet of a block
pub record WrittenSpec : Type 0 where
  pub modulo : ℕ
  pub groups : List (List WrittenItem)

-- the text is these parts, at least one, with this byte between them
abbrev pub IsJoined : {X : Type 0} → ℕ → (List ℕ → X → Type 0) → List ℕ → List X → Type 0
IsJoined c R text [] = ⊥
IsJoined c R text (x ∷ []) = R text x
IsJoined c R text (x ∷ y ∷ xs) = (front rest : List ℕ) × (text ≡ front ++ c ∷ rest) × R front x
    × IsJoined c R rest (y ∷ xs)

-- one digit or more, of which only the value counts
abbrev pub IsDigits : List ℕ → ℕ → Type 0
IsDigits text n = AllPass is_ascii_digit text × (text ≢ []) × (n ≡ number_of text)

abbrev pub unit_name : LengthUnit → List ℕ
unit_name Pt = codes "pt"
unit_name Cm = codes "cm"
unit_name Mm = codes "mm"
unit_name In = codes "in"
unit_name Width = codes "w"
unit_name Height = codes "h"

-- a number and a unit, which is points if it is left out
abbrev pub IsMeasure : List ℕ → Measure → Type 0
IsMeasure text m = (number unit : List ℕ) × (text ≡ number ++ unit) × IsNumber number m.number
    × ((unit ≡ unit_name m.unit) ⊎ ((unit ≡ []) × (m.unit ≡ Pt)))

-- a letter means this number of quarters to the left: left, upside down, right
abbrev pub IsTurn : List ℕ → ℕ → Type 0
IsTurn text n =
    ((n ≡ 1) × ((text ≡ codes "L") ⊎ (text ≡ codes "l")))
    ⊎ (((n ≡ 2) × ((text ≡ codes "U") ⊎ (text ≡ codes "u"))) ⊎ ((n ≡ 3) × ((text ≡ codes "R") ⊎ (text ≡ codes "r"))))

-- a letter; a scale after `@`; or an offset in parentheses, with a comma between its two lengths
abbrev pub IsModifier : List ℕ → Modifier → Type 0
IsModifier text (Quarters n) = IsTurn text n
IsModifier text (Scaled v) = (number : List ℕ) × (text ≡ at_sign ∷ number) × IsNumber number v
IsModifier text (Moved x y) =
    (first second : List ℕ) × (text ≡ opening_parenthesis ∷ first ++ comma ∷ second ++ closing_parenthesis ∷ [])
    × IsMeasure first x × IsMeasure second y

abbrev pub AreModifiers : List ℕ → List Modifier → Type 0
AreModifiers text [] = text ≡ []
AreModifiers text (m ∷ ms) = (front rest : List ℕ) × (text ≡ front ++ rest) × IsModifier front m × AreModifiers rest ms

abbrev pub minus_text : Bool → List ℕ
minus_text from_end = if from_end then minus_sign ∷ [] else []

-- an item with its page number
abbrev pub IsItem : List ℕ → WrittenItem → Type 0
IsItem text i =
    (digits rest : List ℕ) × (text ≡ minus_text i.from_end ++ digits ++ rest) × IsDigits digits i.page
    × AreModifiers rest i.modifiers

-- an item without a page number, which means page 0: it has a minus or a modifier
abbrev pub IsBareItem : List ℕ → WrittenItem → Type 0
IsBareItem text i =
    (rest : List ℕ) × (text ≡ minus_text i.from_end ++ rest) × (i.page ≡ 0) × (text ≢ [])
    × AreModifiers rest i.modifiers

-- groups with commas between them, of items with plus signs between them; or one item alone, whose page number may be
-- left out
abbrev pub AreGroups : List ℕ → List (List WrittenItem) → Type 0
AreGroups text groups = IsJoined comma (IsJoined plus_sign IsItem) text groups
    ⊎ ((i : WrittenItem) × (groups ≡ (i ∷ []) ∷ []) × IsBareItem text i)

-- the text means this; a modulo that isn't written is 1
abbrev pub IsSpec : List ℕ → WrittenSpec → Type 0
IsSpec text spec =
    ((spec.modulo ≡ 1) × AreGroups text spec.groups)
    ⊎ ((digits rest : List ℕ) × (text ≡ digits ++ colon ∷ rest) × IsDigits digits spec.modulo
    × AreGroups rest spec.groups)

-- how a page is turned: not at all, a quarter to the left, upside down, a quarter to the right
pub data Turn : Type 0 where
  Upright : Turn
  Left : Turn
  Half : Turn
  Right : Turn

-- the result of an item: one turn, one scale in 10^-9, one offset
pub record Item : Type 0 where
  pub page : ℕ
  pub from_end : Bool
  pub turn : Turn
  pub scale : ℤ
  pub x : Measure
  pub y : Measure

-- a specification that was read
pub record Spec : Type 0 where
  pub modulo : ℕ
  pub groups : List (List Item)

-- the sum of all quarters
abbrev pub quarters : List Modifier → ℕ
quarters [] = 0
quarters (Quarters n ∷ ms) = n + quarters ms
quarters (Scaled v ∷ ms) = quarters ms
quarters (Moved x y ∷ ms) = quarters ms

-- the turn by this many quarters to the left; four of them are none
abbrev pub quarter_turn : ℕ → Turn
quarter_turn n = if n % 4 == 0 then Upright else (if n % 4 == 1 then Left else (if n % 4 == 2 then Half else Right))

-- the scale, which is 1 if none is written
abbrev pub scale : List Modifier → ℤ
scale [] = pos 1_000_000_000
scale (Quarters n ∷ ms) = scale ms
scale (Scaled v ∷ ms) = v
scale (Moved x y ∷ ms) = scale ms

abbrev pub zero_points : Measure
zero_points = record { number = pos 0; unit = Pt }

-- the offset to the right and upward, which is 0 points if none is written
abbrev pub offset_x : List Modifier → Measure
offset_x [] = zero_points
offset_x (Quarters n ∷ ms) = offset_x ms
offset_x (Scaled v ∷ ms) = offset_x ms
offset_x (Moved x y ∷ ms) = x

abbrev pub offset_y : List Modifier → Measure
offset_y [] = zero_points
offset_y (Quarters n ∷ ms) = offset_y ms
offset_y (Scaled v ∷ ms) = offset_y ms
offset_y (Moved x y ∷ ms) = y

abbrev pub settled_item : WrittenItem → Item
settled_item i = record {
  page = i.page;
  from_end = i.from_end;
  turn = quarter_turn (quarters i.modifiers);
  scale = scale i.modifiers;
  x = offset_x i.modifiers;
  y = offset_y i.modifiers;
}

-- the result of a written specification
abbrev pub settled : WrittenSpec → Spec
settled spec = record { modulo = spec.modulo; groups = map (λ g. map settled_item g) spec.groups }

-- how a unit is written; points need no unit
abbrev pub unit_text : LengthUnit → List ℕ
unit_text Pt = []
unit_text Cm = codes "cm"
unit_text Mm = codes "mm"
unit_text In = codes "in"
unit_text Width = codes "w"
unit_text Height = codes "h"

abbrev pub measure_text : Measure → List ℕ
measure_text m = number_text m.number ++ unit_text m.unit

abbrev pub turn_text : Turn → List ℕ
turn_text Upright = []
turn_text Left = codes "L"
turn_text Half = codes "U"
turn_text Right = codes "R"

abbrev pub is_one : ℤ → Bool
is_one (pos n) = n == 1_000_000_000
is_one (negsuc n) = false

abbrev pub scale_part : ℤ → List ℕ
scale_part v = if is_one v then [] else at_sign ∷ number_text v

abbrev pub is_points : LengthUnit → Bool
is_points Pt = true
is_points Cm = false
is_points Mm = false
is_points In = false
is_points Width = false
is_points Height = false

abbrev pub is_zero_points : Measure → Bool
is_zero_points m = (nat_abs m.number == 0) && is_points m.unit

abbrev pub offset_part : Measure → Measure → List ℕ
offset_part x y = if is_zero_points x && is_zero_points y then []
    else opening_parenthesis ∷ measure_text x ++ comma ∷ measure_text y ++ closing_parenthesis ∷ []

-- the page number, the turn, the scale and the offset, in this order; the last three are left out if they change
-- nothing
abbrev pub item_text : Item → List ℕ
item_text i = minus_text i.from_end ++ decimal i.page ++ turn_text i.turn ++ scale_part i.scale ++ offset_part i.x i.y

-- texts joined, with this byte between them
abbrev pub joined_by : ℕ → List (List ℕ) → List ℕ
joined_by c [] = []
joined_by c (text ∷ []) = text
joined_by c (text ∷ next ∷ more) = text ++ c ∷ joined_by c (next ∷ more)

abbrev pub modulo_text : ℕ → List ℕ
modulo_text m = if m == 1 then [] else decimal m ++ colon ∷ []

-- the canonical text of a specification, which is the one that is written for it
abbrev pub canonical : Spec → List ℕ
canonical spec = modulo_text spec.modulo
    ++ joined_by comma (map (λ g. joined_by plus_sign (map item_text g)) spec.groups)
