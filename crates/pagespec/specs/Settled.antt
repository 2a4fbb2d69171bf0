-- The results of the parsed items.
use Rattle.std.specs.Prelude.{◌≤◌, ℕ, pos, List, [], ◌∷◌, length, take, drop, Option, Some, None, unwrap_or}
use Rattle.rules.specs.Specification.{Measure, Item, quarter_turn, zero_points}
use Rattle.pagespec.specs.Items.{measure_of}
use Rattle.pagespec.specs.declared.item.Measure.{Measure as ParsedMeasure}
use Rattle.pagespec.specs.declared.parsed.ParsedItem.{ParsedItem}

abbrev pub offset_of_parsed : Option (ParsedMeasure × ParsedMeasure) → Measure × Measure
offset_of_parsed None = (zero_points, zero_points)
offset_of_parsed (Some m) = (measure_of m.0, measure_of m.1)

abbrev pub item_of_parsed : ParsedItem → Item
item_of_parsed k = record {
  page = k.page;
  from_end = k.from_end;
  turn = quarter_turn k.modifiers.quarters;
  scale = unwrap_or k.modifiers.scale (pos 1_000_000_000);
  x = (offset_of_parsed k.modifiers.offset).0;
  y = (offset_of_parsed k.modifiers.offset).1;
}

-- parts of these lengths, one after the other
abbrev pub split_by : {X : Type 0} → List ℕ → List X → List (List X)
split_by [] xs = []
split_by (n ∷ ns) xs = take n xs ∷ split_by ns (drop n xs)

-- a list has consecutive parts of these lengths
abbrev pub AreLengths : {X : Type 0} → List ℕ → List X → Type 0
AreLengths [] xs = Unit {0}
AreLengths (n ∷ ns) xs = (n ≤ length xs) × AreLengths ns (drop n xs)
