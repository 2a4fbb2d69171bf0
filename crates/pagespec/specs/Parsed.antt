-- An item as it was parsed, compared with the item as it is written.
use Rattle.std.specs.Prelude.{◌≡◌, ℕ, ◌%◌, ℤ, Bool, false, ◌||◌, nat_lt, min, List, [], ◌∷◌, length, count_by, Option}
use Rattle.std.specs.Prelude.{Some, None, option_map}
use Rattle.std.specs.List.{list_any}
use Rattle.rules.specs.Specification.{Measure, Modifier, Quarters, Scaled, Moved, WrittenItem, quarters}
use Rattle.rules.specs.Admissible.{has_large, is_scale, is_offset, is_flat}
use Rattle.lengths.specs.Reading.{least_large}
use Rattle.pagespec.specs.Reading.{modifiers_at, item_at}
use Rattle.pagespec.specs.Items.{measure_of}
use Rattle.pagespec.specs.declared.parsed.Modifiers.{Modifiers}
use Rattle.pagespec.specs.declared.parsed.ParsedItem.{ParsedItem}

-- the first scale and the first offset
abbrev pub first_scale : List Modifier → Option ℤ
first_scale [] = None
first_scale (Quarters n ∷ ms) = first_scale ms
first_scale (Scaled v ∷ ms) = Some v
first_scale (Moved x y ∷ ms) = first_scale ms

abbrev pub first_offset : List Modifier → Option (Measure × Measure)
first_offset [] = None
first_offset (Quarters n ∷ ms) = first_offset ms
first_offset (Scaled v ∷ ms) = first_offset ms
first_offset (Moved x y ∷ ms) = Some (x, y)

-- there is a second scale or a second offset
abbrev pub is_repeated : List Modifier → Bool
is_repeated ms = nat_lt 1 (count_by is_scale ms) || nat_lt 1 (count_by is_offset ms)

-- what is known if no number is too large
pub record Known (ms : List Modifier) (s : Modifiers) : Type 0 where
  pub scale : s.scale ≡ first_scale ms
  pub offset : option_map (λ m. (measure_of m.0, measure_of m.1)) s.offset ≡ first_offset ms
  pub scale_zero : s.scale_zero ≡ list_any is_flat ms
  pub repeated : s.repeated ≡ is_repeated ms

pub record Summarizes (ms : List Modifier) (s : Modifiers) : Type 0 where
  pub turn : s.quarters ≡ quarters ms % 4
  pub large : s.too_large ≡ list_any has_large ms
  pub known : s.too_large ≡ false → Known ms s

-- the modifiers at the front of a text, and their result
abbrev pub ModifiersRead : List ℕ → Modifiers → List ℕ → Type 0
ModifiersRead bytes s rest = (ms : List Modifier) × (modifiers_at (length bytes) bytes ≡ (ms, rest)) × Summarizes ms s

pub record ItemShows (i : WrittenItem) (k : ParsedItem) : Type 0 where
  pub end : k.from_end ≡ i.from_end
  pub page : k.page ≡ min least_large i.page
  pub modifiers : Summarizes i.modifiers k.modifiers

-- the item at the front of a text
abbrev pub ItemRead : List ℕ → ParsedItem → List ℕ → Type 0
ItemRead bytes k rest = (i : WrittenItem) × (item_at bytes ≡ Some (i, rest)) × ItemShows i k
