-- Units one after the other: their bytes together, and the depth after them.
use Rattle.std.specs.Prelude.{◌≡◌, ℕ, ◌<◌, ◌≤◌, Bool, true, false, not, ◌&&◌, if◌then◌else◌, List, [], ◌∷◌, ◌++◌}
use Rattle.std.specs.Prelude.{length, map, flat_map, nat_eq, Option, Some, None, Ok}
use Rattle.std.specs.List.{starts_with}
use Rattle.rules.specs.Bytes.{line, line_feed}
use Rattle.rules.specs.Units.{TextUnit, is_end, begins_block, first_unit, cut}
use Rattle.rules.specs.Parts.{NestedUnit, depth_after, nested, begins_page, pages, trailer}

-- the bytes of units, one after the other
abbrev pub joined : List TextUnit → List ℕ
joined us = flat_map (λ u. u.bytes) us

-- the depth after units, if none of them passes the test
abbrev pub passes : (NestedUnit → Bool) → ℕ → List TextUnit → Option ℕ
passes t d [] = Some d
passes t d (u ∷ us) = if t (record { depth = d; unit = u }) then None else passes t (depth_after d u) us

-- no byte is a line end
abbrev pub no_ends : List ℕ → Bool
no_ends [] = true
no_ends (b ∷ bs) = not (is_end b) && no_ends bs

-- begins with a line feed
abbrev pub lf : List ℕ → Bool
lf text = starts_with nat_eq text (line_feed ∷ [])

-- ends with a line end
abbrev pub ends : List ℕ → Bool
ends [] = false
ends (b ∷ []) = is_end b
ends (b ∷ c ∷ bs) = ends (c ∷ bs)

-- this is the content of a line, and no data follow it
abbrev pub IsLine : List ℕ → Type 0
IsLine content = (no_ends content ≡ true) × (begins_block content ≡ false)

abbrev pub line_unit : List ℕ → TextUnit
line_unit content = record { content = content; bytes = line content; is_block = false }

abbrev pub AreLines : List (List ℕ) → Type 0
AreLines [] = Unit {0}
AreLines (c ∷ cs) = IsLine c × AreLines cs

-- a unit that ends within x stays the same if other bytes follow x. They may begin with a line feed only if the
-- first ones did; and if nothing followed x, then x must end with a line end
abbrev pub UnitStays : Type 0
UnitStays =
    (x behind other : List ℕ) (u : TextUnit)
    → first_unit (x ++ behind) ≡ Ok u → length u.bytes ≤ length x
    → (lf other ≡ true → lf behind ≡ true) → (behind ≡ [] → ends x ≡ true)
    → first_unit (x ++ other) ≡ Ok u

-- the units of two texts are together the units of the joined text, if the first text ends with a line end and the
-- second begins with no line feed
abbrev pub UnitsJoin : Type 0
UnitsJoin =
    (a b : List ℕ) (us vs : List TextUnit)
    → cut a ≡ Ok us → cut b ≡ Ok vs
    → (0 < length a → ends a ≡ true) → lf b ≡ false → cut (a ++ b) ≡ Ok (us ++ vs)

-- lines are inserted after units and before others: the units of the text are these with the lines between them, if
-- the first line isn't empty
abbrev pub LinesPutIn : Type 0
LinesPutIn =
    (front back : List TextUnit) (first : List ℕ) (more : List (List ℕ))
    → cut (joined (front ++ back)) ≡ Ok (front ++ back)
    → 0 < length back → 0 < length first → AreLines (first ∷ more)
    → cut (joined front ++ (flat_map line (first ∷ more) ++ joined back))
    ≡ Ok (front ++ (map line_unit (first ∷ more) ++ back))

-- lines are inserted before the first page, begin no page and leave the depth as it was: pages and trailer stay the
-- same
abbrev pub PagesStay : Type 0
PagesStay =
    (front lines back : List TextUnit) (d : ℕ)
    → passes begins_page 0 front ≡ Some d → passes begins_page d lines ≡ Some d
    → (pages (nested (front ++ (lines ++ back))) ≡ pages (nested (front ++ back)))
    × (trailer (nested (front ++ (lines ++ back))) ≡ trailer (nested (front ++ back)))
