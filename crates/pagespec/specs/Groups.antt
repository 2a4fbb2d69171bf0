-- Groups as they were read, compared with the groups of the text.
use Rattle.std.specs.Prelude.{◌≡◌, ℕ, List, [], ◌∷◌, ◌++◌, length, map, flat_map, Option, Some}
use Rattle.std.specs.List.{AllZip}
use Rattle.rules.specs.Bytes.{plus_sign, comma}
use Rattle.rules.specs.Specification.{WrittenItem, IsItem, IsJoined}
use Rattle.pagespec.specs.Reading.{item_at, group_at, groups_at, bare_at}
use Rattle.pagespec.specs.Places.{StuckIn}
use Rattle.pagespec.specs.Parsed.{ItemShows}
use Rattle.pagespec.specs.declared.parsed.ParsedItem.{ParsedItem}
use Rattle.pagespec.specs.declared.groups.ParsedGroups.{ParsedGroups}
use Rattle.pagespec.specs.declared.groups.Stop.{Stop}
use Rattle.pagespec.specs.declared.groups.Stop.TheVariants.{Stuck, NoMemory}

-- where a reader of this stops; out of memory says nothing of the text
abbrev pub IsStop : {X Y : Type 0} → (List ℕ → X → Type 0) → (List ℕ → Option Y) → List ℕ → Stop → Type 0
IsStop R part bytes (Stuck place) = StuckIn R part bytes place.left
IsStop R part bytes NoMemory = Unit {0}

-- items with plus signs between them, and groups with commas between them
abbrev pub IsGroup : List ℕ → List WrittenItem → Type 0
IsGroup text g = IsJoined plus_sign IsItem text g

abbrev pub AreWholeGroups : List ℕ → List (List WrittenItem) → Type 0
AreWholeGroups text gs = IsJoined comma IsGroup text gs

-- the written items were parsed as these
abbrev pub AreParsed : List ParsedItem → List WrittenItem → Type 0
AreParsed parsed items = AllZip (λ k i. ItemShows i k) parsed items

-- the item at the front was parsed, and appended to the others
pub record ItemAppended (bytes : List ℕ) (old new : List ParsedItem) (rest : List ℕ) : Type 0 where
  pub item : WrittenItem
  pub parsed : ParsedItem
  pub found : item_at bytes ≡ Some (item, rest)
  pub added : new ≡ old ++ parsed ∷ []
  pub shows : ItemShows item parsed

-- the items of the group at the front were parsed, and appended to the others
pub record GroupRead (bytes : List ℕ) (old new : List ParsedItem) (count : ℕ) (rest : List ℕ) : Type 0 where
  pub group : List WrittenItem
  pub parsed : List ParsedItem
  pub found : group_at bytes ≡ Some (group, rest)
  pub added : new ≡ old ++ parsed
  pub shows : AreParsed parsed group
  pub counted : count ≡ length group

-- all items as they were parsed, and the number of items of each group
pub record IsParseOf (groups : List (List WrittenItem)) (parsed : ParsedGroups) : Type 0 where
  pub items : AreParsed parsed.items.items (flat_map (λ g. g) groups)
  pub lengths : parsed.lengths.items ≡ map length groups

abbrev pub GroupsRead : List ℕ → ParsedGroups → List ℕ → Type 0
GroupsRead bytes parsed rest = (groups : List (List WrittenItem))
    × (groups_at bytes ≡ Some (groups, rest)) × IsParseOf groups parsed

abbrev pub BareRead : List ℕ → ParsedItem → Type 0
BareRead bytes parsed = (item : WrittenItem) × (bare_at bytes ≡ Some item) × ItemShows item parsed

-- there are groups, and they were parsed as these
abbrev pub ParsesTo : Option (List (List WrittenItem)) → ParsedGroups → Type 0
ParsesTo o parsed = (groups : List (List WrittenItem)) × (o ≡ Some groups) × IsParseOf groups parsed
