-- In which ways pages lie on sheets: with which paper, on a sheet of which paper, at which scale.
use Rattle.std.specs.Prelude.{ℕ, Bool, ◌&&◌, ◌||◌, nat_lt, if◌then◌else◌, List, [], ◌∷◌, ◌++◌, length, codes}
use Rattle.std.specs.List.{fold, list_any}
use Rattle.std.specs.Ordering.{int_eq}
use Rattle.rules.specs.Bytes.{line}
use Rattle.rules.specs.Numbers.{scale_text}
use Rattle.rules.specs.Papers.{Paper}
use Rattle.rules.specs.Made.{MadeSheet, MadeSlot, Blank, Placed}
use Rattle.preview.specs.Naming.{numbered, size_in_points}
use Rattle.preview.specs.declared.ways.Way.{Way}

abbrev pub is_same_paper : (a b : Paper) → Bool
is_same_paper a b = int_eq a.width b.width && int_eq a.height b.height

abbrev pub is_same_way : (a b : Way) → Bool
is_same_way a b = is_same_paper a.page b.page && is_same_paper a.sheet b.sheet && int_eq a.scale b.scale

-- how many ways are listed
abbrev pub most_ways : ℕ
most_ways = 16

-- this way after these, if it is none of them; after one more than are listed none is kept
abbrev pub with_way : List Way → Way → List Way
with_way ways way = if nat_lt most_ways (length ways) || list_any (is_same_way way) ways then ways else ways ++ way ∷ []

-- how a slot's page lies on a sheet with this paper
abbrev pub with_slot : (sheet : Paper) → List Way → MadeSlot → List Way
with_slot sheet ways Blank = ways
with_slot sheet ways (Placed p item paper) = with_way ways (record { page = paper; sheet = sheet; scale = item.scale })

abbrev pub with_sheet : List Way → MadeSheet → List Way
with_sheet ways sheet = fold (with_slot sheet.paper) ways sheet.slots

-- the different ways, in the order in which they come
abbrev pub ways_of : List MadeSheet → List Way
ways_of all = fold with_sheet [] all

abbrev pub way_text : Way → List ℕ
way_text way = codes "pages of " ++ size_in_points way.page ++ codes " on sheets of " ++ size_in_points way.sheet ++ codes ", scale " ++ scale_text way.scale

-- what the line says of the way with this number: in place of the first that isn't listed, that there are others
abbrev pub way_told : (k : ℕ) → Way → List ℕ
way_told k way = if nat_lt k most_ways then way_text way else codes "and in other ways"

abbrev pub way_line : (k : ℕ) → Way → List ℕ
way_line k way = line (way_told k way)

abbrev pub ways_text : List MadeSheet → List ℕ
ways_text all = numbered way_line 0 (ways_of all)
