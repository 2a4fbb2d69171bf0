-- The loops over items and over groups.
use Rattle.std.proofs.Common.{arith, ◌≡◌, ◌≢◌, ℕ, suc, ◌+◌, ◌<◌, List, [], ◌∷◌, ◌++◌, Bool, true, false, Option, Some, None, refl, sym, ap, subst, ◌∙◌, append_assoc, append-nil, length, true≢false}
use Rattle.std.specs.Prelude.{map, flat_map, if◌then◌else◌, ◌==◌, IsErrAnd, MatchResult, Result, Ok, Err}
use Rattle.std.proofs.lemmas.List.{length-append, map-append, nil_from_length}
use Rattle.rules.specs.Specification.{WrittenItem, IsItem}
use Rattle.pagespec.specs.Reading.{byte_at, item_at, group_at, groups_at, bare_at, if_all_read, item_with, is_minus_first, past_minus, modifiers_at}
use Rattle.lengths.specs.Reading.{is_empty}
use Rattle.pagespec.specs.Parsed.{ItemShows, ModifiersRead}
use Rattle.pagespec.specs.Places.{StuckIn, StuckAfter}
use Rattle.pagespec.specs.Groups.{AreParsed, ItemAppended, GroupRead, GroupsRead, BareRead, IsStop, IsGroup, AreWholeGroups}
use Rattle.pagespec.specs.declared.parsed.ParsedItem.{ParsedItem}
use Rattle.pagespec.specs.declared.parsed.Modifiers.{Modifiers}
use Rattle.pagespec.specs.declared.groups.ParsedGroups.{ParsedGroups}
use Rattle.pagespec.specs.declared.groups.Stop.{Stop}
use Rattle.pagespec.specs.declared.groups.Stop.TheVariants.{Stuck, NoMemory}
use Rattle.lengths.proofs.Numbers.{same_byte}
use Rattle.pagespec.proofs.JoinedLoop.{ReadsParts, parts_first, parts_more, parts_last, zip_append, zip_one}
use Rattle.pagespec.proofs.Measures.{byte_found}
use Rattle.pagespec.proofs.Items.{Closed, item_found, item_read}
use Rattle.pagespec.proofs.Texts.{GroupClosed, plus_closed, comma_closed, group_found, group_read}
use Rattle.pagespec.proofs.RowStuck.{RowBefore, row_first, row_more, row_length, row_stuck, row_ended}

abbrev IsParsed : ParsedItem → WrittenItem → Type 0
IsParsed k i = ItemShows i k

-- these items of the group were parsed so far
pub record KeepsOn (fuel : ℕ) (bytes rest : List ℕ) (old new : List ParsedItem) (count : ℕ) : Type 0 where
  pub front : List WrittenItem
  pub parsed : List ParsedItem
  pub reads : ReadsParts 43 item_at fuel bytes rest front
  pub before : RowBefore 43 IsItem bytes rest front
  pub added : new ≡ old ++ parsed
  pub shows : AreParsed parsed front
  pub counted : count ≡ length front

pub keeps_first : (n : ℕ) (bytes : List ℕ) (old : List ParsedItem) → n ≡ suc (length bytes) → KeepsOn n bytes bytes old old 0
keeps_first n bytes old e =
    record { front = []; parsed = []; reads = parts_first 43 item_at n bytes e; before = row_first 43 IsItem bytes; added = sym (append-nil old); shows = tt; counted = refl }

length-one : {X : Type 0} (xs : List X) (x : X) (n : ℕ) → n ≡ length xs → n + 1 ≡ length (xs ++ x ∷ [])
length-one xs x n e = omega (arith, e, length-append xs (x ∷ []))

pub keeps_more : (k n count : ℕ) (bytes rest behind next : List ℕ) (old new newer : List ParsedItem) → n ≡ suc k → KeepsOn n bytes rest old new count → ItemAppended rest new newer behind
    → byte_at 43 behind ≡ Some next → KeepsOn k bytes next old newer (count + 1)
keeps_more k n count bytes rest behind next old new newer is on item b = record {
  front = on.front ++ item.item ∷ [];
  parsed = on.parsed ++ item.parsed ∷ [];
  reads = parts_more 43 item_at k n bytes rest behind next on.front item.item is item.found b on.reads;
  before = let (text, split, is_item) = item_found rest (item.item, behind) item.found in row_more 43 IsItem bytes rest text behind next on.front item.item on.before split is_item (byte_found 43 behind next b);
  added = item.added ∙ (ap (λ xs. xs ++ item.parsed ∷ []) on.added ∙ append_assoc old on.parsed (item.parsed ∷ []));
  shows = zip_append IsParsed on.parsed (item.parsed ∷ []) on.front (item.item ∷ []) on.shows (zip_one IsParsed item.parsed item.item item.shows);
  counted = length-one on.front item.item count on.counted;
}

pub keeps_last : (k n count : ℕ) (bytes rest behind : List ℕ) (old new newer : List ParsedItem) → n ≡ suc k → KeepsOn n bytes rest old new count → ItemAppended rest new newer behind
    → byte_at 43 behind ≡ None → GroupRead bytes old newer (count + 1) behind
keeps_last k n count bytes rest behind old new newer is on item b = record {
  group = on.front ++ item.item ∷ [];
  parsed = on.parsed ++ item.parsed ∷ [];
  found = parts_last 43 item_at k n bytes rest behind on.front item.item is item.found b on.reads;
  added = item.added ∙ (ap (λ xs. xs ++ item.parsed ∷ []) on.added ∙ append_assoc old on.parsed (item.parsed ∷ []));
  shows = zip_append IsParsed on.parsed (item.parsed ∷ []) on.front (item.item ∷ []) on.shows (zip_one IsParsed item.parsed item.item item.shows);
  counted = length-one on.front item.item count on.counted;
}

pub keeps_stuck : (n count left : ℕ) (bytes rest : List ℕ) (old new : List ParsedItem) → KeepsOn n bytes rest old new count → StuckIn IsItem item_at rest left → StuckIn IsGroup group_at bytes left
keeps_stuck n count left bytes rest old new on s = row_stuck 43 IsItem Closed item_at item_read plus_closed bytes rest left on.front on.before s

pub keeps_ended : (n count left : ℕ) (bytes rest behind : List ℕ) (old new : List ParsedItem) → KeepsOn n bytes rest old new count → byte_at 43 behind ≡ None → StuckAfter IsItem item_at rest behind left → StuckAfter IsGroup group_at bytes behind left
keeps_ended n count left bytes rest behind old new on none s = row_ended 43 IsItem Closed item_at item_read plus_closed bytes rest behind left on.front on.before none s

-- there is no row with more parts than bytes
pub keeps_out : (n count left : ℕ) (bytes rest : List ℕ) (old new : List ParsedItem) → length bytes < count → KeepsOn n bytes rest old new count → StuckIn IsGroup group_at bytes left
keeps_out n count left bytes rest old new h on =
    let (text, split, row) = on.before in
    absurd (omega (arith, h, on.counted, row_length 43 IsItem text on.front row, ap length split, length-append text rest))

-- these groups were parsed so far
pub record GroupsOn (fuel : ℕ) (bytes rest : List ℕ) (items : List ParsedItem) (lengths : List ℕ) : Type 0 where
  pub front : List (List WrittenItem)
  pub reads : ReadsParts 44 group_at fuel bytes rest front
  pub before : RowBefore 44 IsGroup bytes rest front
  pub many : length front + fuel ≡ suc (length bytes)
  pub shows : AreParsed items (flat_map (λ g. g) front)
  pub counted : lengths ≡ map length front

items-one : (gs : List (List WrittenItem)) (g : List WrittenItem) → flat_map (λ x. x) (gs ++ g ∷ []) ≡ flat_map (λ x. x) gs ++ g
items-one [] g = append-nil g
items-one (h ∷ gs) g = ap (λ xs. h ++ xs) (items-one gs g) ∙ sym (append_assoc h (flat_map (λ x. x) gs) g)

items_parsed : (items newer parsed : List ParsedItem) (front : List (List WrittenItem)) (group : List WrittenItem) → AreParsed items (flat_map (λ g. g) front) → newer ≡ items ++ parsed → AreParsed parsed group
    → AreParsed newer (flat_map (λ g. g) (front ++ group ∷ []))
items_parsed items newer parsed front group shows added more =
    subst (λ is. AreParsed newer is) (sym (items-one front group))
    (subst (λ ks. AreParsed ks (flat_map (λ g. g) front ++ group)) (sym added) (zip_append IsParsed items parsed (flat_map (λ g. g) front) group shows more))

lengths_parsed : (lengths : List ℕ) (count : ℕ) (front : List (List WrittenItem)) (group : List WrittenItem) → lengths ≡ map length front → count ≡ length group → lengths ++ count ∷ [] ≡ map length (front ++ group ∷ [])
lengths_parsed lengths count front group e n = ap (λ ns. ns ++ count ∷ []) e ∙ (ap (λ x. map length front ++ x ∷ []) n ∙ sym (map-append length front (group ∷ [])))

pub groups_more : (k n count : ℕ) (bytes rest behind next : List ℕ) (items newer : List ParsedItem) (lengths more : List ℕ) → n ≡ suc k → GroupsOn n bytes rest items lengths
    → GroupRead rest items newer count behind → more ≡ lengths ++ count ∷ [] → byte_at 44 behind ≡ Some next → GroupsOn k bytes next newer more
groups_more k n count bytes rest behind next items newer lengths more is on group e b = record {
  front = on.front ++ group.group ∷ [];
  reads = parts_more 44 group_at k n bytes rest behind next on.front group.group is group.found b on.reads;
  before = let (text, split, is_group) = group_found rest (group.group, behind) group.found in row_more 44 IsGroup bytes rest text behind next on.front group.group on.before split is_group (byte_found 44 behind next b);
  many = omega (arith, is, on.many, length-append on.front (group.group ∷ []));
  shows = items_parsed items newer group.parsed on.front group.group on.shows group.added group.shows;
  counted = e ∙ lengths_parsed lengths count on.front group.group on.counted group.counted;
}

pub groups_last : (k n count : ℕ) (bytes rest behind : List ℕ) (items : List ParsedItem) (lengths : List ℕ) (parsed : ParsedGroups) → n ≡ suc k → GroupsOn n bytes rest items lengths
    → GroupRead rest items parsed.items.items count behind → parsed.lengths.items ≡ lengths ++ count ∷ [] → byte_at 44 behind ≡ None → GroupsRead bytes parsed behind
groups_last k n count bytes rest behind items lengths parsed is on group e b = (
  on.front ++ group.group ∷ [],
  parts_last 44 group_at k n bytes rest behind on.front group.group is group.found b on.reads,
  record {
    items = items_parsed items parsed.items.items group.parsed on.front group.group on.shows group.added group.shows;
    lengths = e ∙ lengths_parsed lengths count on.front group.group on.counted group.counted;
  },
)

pub groups_stuck : (n left : ℕ) (bytes rest : List ℕ) (items : List ParsedItem) (lengths : List ℕ) → GroupsOn n bytes rest items lengths → StuckIn IsGroup group_at rest left → StuckIn AreWholeGroups groups_at bytes left
groups_stuck n left bytes rest items lengths on s = row_stuck 44 IsGroup GroupClosed group_at group_read comma_closed bytes rest left on.front on.before s

pub groups_ended : (n left : ℕ) (bytes rest behind : List ℕ) (items : List ParsedItem) (lengths : List ℕ) → GroupsOn n bytes rest items lengths → byte_at 44 behind ≡ None → StuckAfter IsGroup group_at rest behind left → StuckAfter AreWholeGroups groups_at bytes behind left
groups_ended n left bytes rest behind items lengths on none s = row_ended 44 IsGroup GroupClosed group_at group_read comma_closed bytes rest behind left on.front on.before none s

pub groups_out : (n left : ℕ) (bytes rest : List ℕ) (items : List ParsedItem) (lengths : List ℕ) → n ≡ 0 → GroupsOn n bytes rest items lengths → StuckIn AreWholeGroups groups_at bytes left
groups_out n left bytes rest items lengths is on =
    let (text, split, row) = on.before in
    absurd (omega (arith, is, on.many, row_length 44 IsGroup text on.front row, ap length split, length-append text rest))

-- the item that leaves its page number out
is_some_text : {A : Type 0} (t : List ℕ) (o : Option A) → t ≢ [] → (if is_empty t then None else o) ≡ o
is_some_text [] o n = absurd (n refl)
is_some_text (b ∷ t) o n = refl

bare_is : (t body rest : List ℕ) (parsed : Modifiers) → body ≡ past_minus t → t ≢ [] → (read : ModifiersRead body parsed rest) → bare_at t ≡ if_all_read (item_with (is_minus_first t) 0 (read.0, rest))
unfolding bare_at
bare_is t body rest parsed b some (ms, found, shows) =
    is_some_text t _ some ∙ (ap (λ x. if_all_read (item_with (is_minus_first t) 0 (modifiers_at (length x) x))) (sym b) ∙ ap (λ x. if_all_read (item_with (is_minus_first t) 0 x)) found)

pub bare_empty : (t : List ℕ) → t ≡ [] → bare_at t ≡ None
unfolding bare_at
bare_empty t e = ap bare_at e

pub bare_stuck : (t body rest : List ℕ) (parsed : Modifiers) → body ≡ past_minus t → t ≢ [] → ModifiersRead body parsed rest → rest ≢ [] → bare_at t ≡ None
bare_stuck t body [] parsed b some read more = absurd (more refl)
bare_stuck t body (x ∷ rest) parsed b some read more = bare_is t body (x ∷ rest) parsed b some read

pub bare_there : (t body rest : List ℕ) (from_end : Bool) (parsed : Modifiers) → from_end ≡ is_minus_first t → body ≡ past_minus t → t ≢ [] → ModifiersRead body parsed rest → rest ≡ []
    → BareRead t (record { from_end = from_end; page = 0; modifiers = parsed })
bare_there t body rest from_end parsed m b some (ms, found, shows) e = (
  record { from_end = is_minus_first t; page = 0; modifiers = ms },
  bare_is t body rest parsed b some (ms, found, shows) ∙ ap (λ r. if_all_read (item_with (is_minus_first t) 0 (ms, r))) e,
  record { end = m; page = refl; modifiers = shows },
)

-- one reader is stuck exactly where the other is
pub stop_same : {X Y U V : Type 0} (R : List ℕ → X → Type 0) (part : List ℕ → Option Y) (bytes : List ℕ) (S : List ℕ → U → Type 0) (if_all_read : List ℕ → Option V) (text : List ℕ) (s : Stop)
    → ((left : ℕ) → StuckIn R part bytes left → StuckIn S if_all_read text left) → IsStop R part bytes s → IsStop S if_all_read text s
stop_same R part bytes S if_all_read text (Stuck place) f e = f place.left e
stop_same R part bytes S if_all_read text NoMemory f e = tt

-- what holds of the stop that is handed on
pub handed_on : {X : Type 0} (r : Result X Stop) (s : Stop) (P : X → Type 0) (Q : Stop → Type 0) → IsErrAnd r (λ t. t ≡ s) → Q s → MatchResult r P Q
handed_on (Ok x) s P Q h q = absurd h
handed_on (Err t) s P Q h q = subst Q (sym h) q

pub nil_told : (t : List ℕ) (b : Bool) → b ≡ (length t == 0) → b ≡ true → t ≡ []
nil_told t b e h = nil_from_length t (same_byte (length t) 0 (sym e ∙ h))

pub some_told : (t : List ℕ) (b : Bool) → b ≡ (length t == 0) → b ≡ false → t ≢ []
some_told t b e h n = true≢false (sym (sym h ∙ (e ∙ ap (λ x. length x == 0) n)))
