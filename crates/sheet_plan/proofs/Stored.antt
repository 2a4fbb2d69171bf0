-- Sheets that are kept stay as they are while slots and placings are added, and while one more is added after them.
use Rattle.std.proofs.Common.{arith, ◌≡◌, ℕ, zero, suc, ◌+◌, ◌-◌, ◌<◌, ◌≤◌, List, [], ◌∷◌, ◌++◌, length, map, get_or, take, drop, refl, sym, ap, ◌∙◌, subst, Option, Some, None, Result, Ok, Err}
use Rattle.std.specs.Prelude.{slice_get, slice_range, option_map, sum_by, All, OnErr}
use Rattle.std.proofs.Math.Seq.{take-length, drop-length, take-append_seam, drop-append_seam}
use Rattle.std.proofs.lemmas.List.{length-take, length-take-le, length-drop, length-map, take-take, drop-take, take_rest, take-append-drop, drop-append-le, map-append, map_more}
use Rattle.std.proofs.lemmas.List.Elements.{All-head, All-tail, All-take, All-drop, All-push, All-weaker}
use Rattle.std.proofs.lemmas.List.Sums.{sum_by-cons}
use Rattle.std.proofs.lemmas.Option.{slice_get-map, slice_get-get_or, slice_get_within, get_or_from_slice_get, same_Some, none-some}
use Rattle.rules.specs.Papers.{Paper}
use Rattle.rules.specs.Made.{MadeSlot, MadeSheet}
use Rattle.rules.specs.MadePlans.{slot_count}
use Rattle.sheet_plan.specs.declared.made.Placing.{Placing}
use Rattle.sheet_plan.specs.declared.made.KeptSlot.{KeptSlot}
use Rattle.sheet_plan.specs.declared.made.KeptSheet.{KeptSheet}
use Rattle.sheet_plan.specs.declared.made.MadeSlot as code
use Rattle.sheet_plan.specs.OfSheets.{slots_at, slot_of}
use Rattle.sheet_plan.specs.Store.{placed_by, slot_by, slot_kept, paper_by, sheets_from, slots_end, slots_start, AreInOrder, is_named, AreKept, Begins, IsGrown, added_to}

-- ---- lists that begin with others
get_taken : {X : Type 0} (n k : ℕ) (xs : List X) → k < n → slice_get (take n xs) k ≡ slice_get xs k
get_taken zero k xs lt = absurd (omega arith)
get_taken (suc n) k [] lt = refl
get_taken (suc n) zero (x ∷ xs) lt = refl
get_taken (suc n) (suc k) (x ∷ xs) lt = get_taken n k xs (omega arith)

pub get_dropped : {X : Type 0} (n k : ℕ) (xs : List X) → slice_get (drop n xs) k ≡ slice_get xs (n + k)
get_dropped zero k xs = let e : k ≡ 0 + k = omega arith in ap (slice_get xs) e
get_dropped (suc n) k [] = refl
get_dropped (suc n) k (x ∷ xs) = let e : suc (n + k) ≡ suc n + k = omega arith in get_dropped n k xs ∙ ap (slice_get (x ∷ xs)) e

pub begins_get : {X : Type 0} (old new : List X) (k : ℕ) → Begins old new → k < length old → slice_get new k ≡ slice_get old k
begins_get old new k b lt = sym (get_taken (length old) k new lt) ∙ ap (λ xs. slice_get xs k) b

pub begins_len : {X : Type 0} (old new : List X) → Begins old new → length old ≤ length new
begins_len old new b = let l = length-take (length old) new in let e = ap length b in omega arith

pub begins_self : {X : Type 0} (xs : List X) → Begins xs xs
begins_self xs = take-length xs

-- an element that is added is the last one
last_there : {X : Type 0} (xs : List X) (x : X) → slice_get (xs ++ x ∷ []) (length xs) ≡ Some x
last_there [] x = refl
last_there (y ∷ xs) x = last_there xs x

pub added_there : {X : Type 0} (old new : List X) (k : ℕ) (x : X) → new ≡ old ++ x ∷ [] → k ≡ length old → slice_get new k ≡ Some x
added_there old new k x added is = ap (λ xs. slice_get xs k) added ∙ ap (slice_get (old ++ x ∷ [])) is ∙ last_there old x

pub begins_added : {X : Type 0} (old new : List X) (x : X) → new ≡ old ++ x ∷ [] → Begins old new
begins_added old new x added = ap (take (length old)) added ∙ take-append_seam old (x ∷ [])

pub begins_same : {X : Type 0} (old new : List X) → new ≡ old → Begins old new
begins_same old new same = subst (Begins old) (sym same) (begins_self old)

pub begins_more : {X : Type 0} (a b c : List X) → Begins a b → Begins b c → Begins a c
begins_more a b c h g = sym (take-take (length a) (length b) c (begins_len a b h)) ∙ ap (take (length a)) g ∙ h

-- ---- a slot by its placing
pub slot_same : (old new : List Placing) (page n : ℕ) → Begins old new → n ≤ length old → slot_by new page n ≡ slot_by old page n
slot_same old new page zero b le = refl
slot_same old new page (suc k) b le = ap (placed_by page) (begins_get old new k b (omega arith))

pub slots_same : (old new : List Placing) (slots : List KeptSlot) → Begins old new → All (is_named (length old)) slots → map (slot_kept new) slots ≡ map (slot_kept old) slots
slots_same old new [] b h = refl
slots_same old new (s ∷ ss) b h =
    ap (λ x. x ∷ map (slot_kept new) ss) (slot_same old new s.page s.placing b (All-head (is_named (length old)) s ss h))
    ∙ ap (λ xs. slot_kept old s ∷ xs) (slots_same old new ss b (All-tail (is_named (length old)) s ss h))

pub named_more : (old new : List Placing) (slots : List KeptSlot) → Begins old new → All (is_named (length old)) slots → All (is_named (length new)) slots
named_more old new slots b h = let le = begins_len old new b in All-weaker (is_named (length old)) (is_named (length new)) (λ s n. omega arith) slots h

-- ---- slices
range_as : {X : Type 0} (xs : List X) (a b : ℕ) → a ≤ b → slice_range xs a b ≡ drop a (take b xs)
range_as xs a b le = let e : a + (b - a) ≡ b = omega arith in sym (drop-take a (b - a) xs) ∙ ap (λ k. drop a (take k xs)) e

range_same : {X : Type 0} (old new : List X) (a b n : ℕ) → a ≤ b → b ≤ n → take n new ≡ take n old → slice_range new a b ≡ slice_range old a b
range_same old new a b n ab bn e =
    range_as new a b ab
    ∙ ap (drop a) (sym (take-take b n new bn) ∙ ap (take b) e ∙ take-take b n old bn)
    ∙ sym (range_as old a b ab)

range_len : {X : Type 0} (xs : List X) (a b : ℕ) → a ≤ b → b ≤ length xs → length (slice_range xs a b) ≡ b - a
range_len xs a b ab bn = length-take-le (b - a) (drop a xs) (let l = length-drop a xs in omega arith)

pub range_get : {X : Type 0} (xs : List X) (a b k : ℕ) (d : X) → b ≤ length xs → k < b - a → slice_get (slice_range xs a b) k ≡ Some (get_or xs (a + k) d)
range_get xs a b k d bn lt = get_taken (b - a) k (drop a xs) lt ∙ get_dropped a k xs ∙ slice_get-get_or xs (a + k) d (omega arith)

-- ---- sheets in order
pub end_within : (p n a : ℕ) (ss : List KeptSheet) → AreInOrder p n a ss → (a ≤ slots_end a ss) × (slots_end a ss ≤ n)
end_within p n a [] h = (omega arith, h)
end_within p n a (s ∷ ss) h = let r = end_within p n s.end ss h.2 in (let f = h.0 in let g = r.0 in omega arith, r.1)

pub still_ordered : (p q n m a : ℕ) (ss : List KeptSheet) → AreInOrder p n a ss → p ≤ q → slots_end a ss ≤ m → AreInOrder q m a ss
still_ordered p q n m a [] h pq e = e
still_ordered p q n m a (s ∷ ss) h pq e = (h.0, let g = h.1 in omega arith, still_ordered p q n m s.end ss h.2 pq e)

pub ordered_more : (p n a : ℕ) (ss : List KeptSheet) (s : KeptSheet) → AreInOrder p n a ss → slots_end a ss ≤ s.end → s.paper < p → s.end ≤ n → AreInOrder p n a (ss ++ s ∷ [])
ordered_more p n a [] s h from paper le = (from, paper, le)
ordered_more p n a (t ∷ ss) s h from paper le = (h.0, h.1, ordered_more p n t.end ss s h.2 from paper le)

sheets_same : (old new : List Placing) (slots slots_new : List KeptSlot) (n a : ℕ) (ss : List KeptSheet) → Begins old new → take n slots_new ≡ take n slots → All (is_named (length old)) slots
    → AreInOrder (length old) n a ss → sheets_from new slots_new a ss ≡ sheets_from old slots a ss
sheets_same old new slots slots_new n a [] b e named h = refl
sheets_same old new slots slots_new n a (s ∷ ss) b e named h =
    let within = end_within (length old) n s.end ss h.2 in
    let below : s.end ≤ n = let x = within.0 in let y = within.1 in omega arith in
    let paper = ap paper_by (begins_get old new s.paper b h.1) in
    let row = ap (map (slot_kept new)) (range_same slots slots_new a s.end n h.0 below e)
    ∙ slots_same old new (slice_range slots a s.end) b (All-take (is_named (length old)) (s.end - a) (drop a slots) (All-drop (is_named (length old)) a slots named)) in
    one (paper_by (slice_get new s.paper)) (paper_by (slice_get old s.paper)) (map (slot_kept new) (slice_range slots_new a s.end)) (map (slot_kept old) (slice_range slots a s.end)) (sheets_from new slots_new s.end ss) (sheets_from old slots s.end ss) paper row (sheets_same old new slots slots_new n s.end ss b e named h.2)
  where
    one : (p q : Paper) (xs ys : List MadeSlot) (us vs : List MadeSheet) → p ≡ q → xs ≡ ys → us ≡ vs → record { paper = p; slots = xs } ∷ us ≡ record { paper = q; slots = ys } ∷ vs
    one p q xs ys us vs pq xy uv = cc

-- what is added after the last sheet changes none
pub record IsStill (old new : List Placing) (slots slots_new : List KeptSlot) (sheets : List KeptSheet) : Type 0 where
  pub kept : AreKept new slots_new sheets
  pub same : sheets_from new slots_new 0 sheets ≡ sheets_from old slots 0 sheets

pub still : (old new : List Placing) (slots slots_new : List KeptSlot) (sheets : List KeptSheet) → AreKept old slots sheets → Begins old new
    → Begins (take (slots_end 0 sheets) slots) slots_new → All (is_named (length new)) slots_new → IsStill old new slots slots_new sheets
still old new slots slots_new sheets k b front named =
    let e = slots_end 0 sheets in
    let within = end_within (length old) (length slots) 0 sheets k.ordered in
    let long : length (take e slots) ≡ e = length-take-le e slots within.1 in
    let more : length (take e slots) ≤ length slots_new = begins_len (take e slots) slots_new front in
    let same_front : take e slots_new ≡ take e slots = ap (λ n. take n slots_new) (sym long) ∙ front in
    record {
      kept = record { named = named; ordered = still_ordered (length old) (length new) (length slots) (length slots_new) 0 sheets k.ordered (begins_len old new b) (omega arith) };
      same = sheets_same old new slots slots_new e 0 sheets b same_front k.named (still_ordered (length old) (length old) (length slots) e 0 sheets k.ordered (omega arith) (omega arith));
    }

-- ---- one more sheet
sheets_more : (placings : List Placing) (slots : List KeptSlot) (a : ℕ) (ss : List KeptSheet) (s : KeptSheet)
    → sheets_from placings slots a (ss ++ s ∷ []) ≡ sheets_from placings slots a ss ++ record { paper = paper_by (slice_get placings s.paper); slots = map (slot_kept placings) (slice_range slots (slots_end a ss) s.end) } ∷ []
sheets_more placings slots a [] s = refl
sheets_more placings slots a (t ∷ ss) s = ap (λ xs. record { paper = paper_by (slice_get placings t.paper); slots = map (slot_kept placings) (slice_range slots a t.end) } ∷ xs) (sheets_more placings slots t.end ss s)

pub kept_more : (placings : List Placing) (slots : List KeptSlot) (sheets : List KeptSheet) (s : KeptSheet) → AreKept placings slots sheets → s.end ≡ length slots → s.paper < length placings → AreKept placings slots (sheets ++ s ∷ [])
kept_more placings slots sheets s k e paper =
    let within = end_within (length placings) (length slots) 0 sheets k.ordered in
    record { named = k.named; ordered = ordered_more (length placings) (length slots) 0 sheets s k.ordered (let w = within.1 in omega arith) paper (omega arith) }

pub pushed : (placings : List Placing) (front slots : List KeptSlot) (sheets : List KeptSheet) (s : KeptSheet) (placing : Placing) (row : List MadeSlot) (all : List MadeSheet)
    → sheets_from placings slots 0 sheets ≡ all → s.end ≡ length slots → slice_get placings s.paper ≡ Some placing → length front ≡ slots_end 0 sheets → added_to placings front slots ≡ row
    → sheets_from placings slots 0 (sheets ++ s ∷ []) ≡ all ++ record { paper = placing.paper; slots = row } ∷ []
pushed placings front slots sheets s placing row all same e paper len added =
    let cut : slice_range slots (slots_end 0 sheets) s.end ≡ drop (length front) slots = ap (λ k. slice_range slots k s.end) (sym len) ∙ ap (λ k. slice_range slots (length front) k) e ∙ take_rest slots (length front) in
    sheets_more placings slots 0 sheets s
    ∙ ap (λ xs. xs ++ record { paper = paper_by (slice_get placings s.paper); slots = map (slot_kept placings) (slice_range slots (slots_end 0 sheets) s.end) } ∷ []) same
    ∙ ap (λ p. all ++ record { paper = paper_by p; slots = map (slot_kept placings) (slice_range slots (slots_end 0 sheets) s.end) } ∷ []) paper
    ∙ ap (λ xs. all ++ record { paper = placing.paper; slots = map (slot_kept placings) xs } ∷ []) cut
    ∙ ap (λ xs. all ++ record { paper = placing.paper; slots = xs } ∷ []) added

-- ---- slots are added
pub grown_none : (placings : List Placing) (slots : List KeptSlot) → IsGrown placings placings slots slots
grown_none placings slots = record { placings_begin = take-length placings; slots_begin = take-length slots; named = λ h. h }

pub grown_then : (p q r : List Placing) (xs ys zs : List KeptSlot) → IsGrown p q xs ys → IsGrown q r ys zs → IsGrown p r xs zs
grown_then p q r xs ys zs g h = record {
  placings_begin = begins_more p q r g.placings_begin h.placings_begin;
  slots_begin = begins_more xs ys zs g.slots_begin h.slots_begin;
  named = λ n. h.named (g.named n);
}

pub grown_placings : (p q : List Placing) (slots : List KeptSlot) → Begins p q → IsGrown p q slots slots
grown_placings p q slots b = record { placings_begin = b; slots_begin = take-length slots; named = named_more p q slots b }

-- ---- what is read back
pub sheet_total : (placings : List Placing) (slots : List KeptSlot) (a n : ℕ) (ss : List KeptSheet) → n ≤ length slots → AreInOrder (length placings) n a ss → sum_by slot_count (sheets_from placings slots a ss) + a ≡ slots_end a ss
sheet_total placings slots a n [] le h = omega arith
sheet_total placings slots a n (s ∷ ss) le h =
    let within = end_within (length placings) n s.end ss h.2 in
    let below : s.end ≤ length slots = let x = within.0 in let y = within.1 in omega arith in
    let rest = sheet_total placings slots s.end n ss le h.2 in
    let c = sum_by-cons slot_count (record { paper = paper_by (slice_get placings s.paper); slots = map (slot_kept placings) (slice_range slots a s.end) }) (sheets_from placings slots s.end ss) in
    let l = length-map (slice_range slots a s.end) (slot_kept placings) in
    let r = range_len slots a s.end h.0 below in
    let f = h.0 in
    omega arith

pub sheets_len : (placings : List Placing) (slots : List KeptSlot) (a : ℕ) (ss : List KeptSheet) → length (sheets_from placings slots a ss) ≡ length ss
sheets_len placings slots a [] = refl
sheets_len placings slots a (s ∷ ss) = ap suc (sheets_len placings slots s.end ss)

pub start_next : (a k : ℕ) (ss : List KeptSheet) (d : KeptSheet) → k < length ss → slots_start a ss (suc k) ≡ (get_or ss k d).end
start_next a k [] d lt = absurd (omega arith)
start_next a zero (s ∷ []) d lt = refl
start_next a zero (s ∷ t ∷ ss) d lt = refl
start_next a (suc k) (s ∷ ss) d lt = start_next s.end k ss d (omega arith)

pub start_first : (a : ℕ) (ss : List KeptSheet) → slots_start a ss 0 ≡ a
start_first a [] = refl
start_first a (s ∷ ss) = refl

-- sheet k of those that are kept
pub record IsSheetAt (placings : List Placing) (slots : List KeptSlot) (a : ℕ) (ss : List KeptSheet) (k : ℕ) (s : KeptSheet) : Type 0 where
  pub row : slots_at (sheets_from placings slots a ss) k ≡ map (slot_kept placings) (slice_range slots (slots_start a ss k) s.end)
  pub ordered : slots_start a ss k ≤ s.end
  pub within : s.end ≤ length slots
  pub paper : s.paper < length placings
  pub paper_is : slice_get (map (λ sheet. sheet.paper) (sheets_from placings slots a ss)) k ≡ Some (paper_by (slice_get placings s.paper))
  pub count : length (slots_at (sheets_from placings slots a ss) k) ≡ s.end - slots_start a ss k

count_of : (placings : List Placing) (slots : List KeptSlot) (from to : ℕ) (row : List MadeSlot) → row ≡ map (slot_kept placings) (slice_range slots from to) → from ≤ to → to ≤ length slots → length row ≡ to - from
count_of placings slots from to row is le lt = ap length is ∙ length-map (slice_range slots from to) (slot_kept placings) ∙ range_len slots from to le lt

pub sheet_at : (placings : List Placing) (slots : List KeptSlot) (a n k : ℕ) (ss : List KeptSheet) (d : KeptSheet) → n ≤ length slots → AreInOrder (length placings) n a ss → k < length ss → IsSheetAt placings slots a ss k (get_or ss k d)
sheet_at placings slots a n k [] d le h lt = absurd (omega arith)
sheet_at placings slots a n zero (s ∷ ss) d le h lt =
    let w = end_within (length placings) n s.end ss h.2 in
    let below : s.end ≤ length slots = let x = w.0 in let y = w.1 in omega arith in
    record { row = refl; ordered = h.0; within = below; paper = h.1; paper_is = refl; count = count_of placings slots a s.end (map (slot_kept placings) (slice_range slots a s.end)) refl h.0 below }
sheet_at placings slots a n (suc k) (s ∷ ss) d le h lt =
    let r = sheet_at placings slots s.end n k ss d le h.2 (omega arith) in
    record { row = r.row; ordered = r.ordered; within = r.within; paper = r.paper; paper_is = r.paper_is; count = r.count }

-- a slot of a sheet
pub slot_read : (placings : List Placing) (slots : List KeptSlot) (all : List MadeSheet) (a k j : ℕ) (ss : List KeptSheet) (s : KeptSheet) (slot : KeptSlot) → sheets_from placings slots a ss ≡ all → IsSheetAt placings slots a ss k s
    → j < length (slots_at all k) → slot ≡ get_or slots (slots_start a ss k + j) slot → slice_get (slots_at all k) j ≡ Some (slot_kept placings slot)
slot_read placings slots all a k j ss s slot view at lt is =
    let count = ap (λ xs. length (slots_at xs k)) (sym view) ∙ at.count in
    ap (λ xs. slice_get (slots_at xs k) j) (sym view)
    ∙ ap (λ xs. slice_get xs j) at.row
    ∙ slice_get-map (slot_kept placings) (slice_range slots (slots_start a ss k) s.end) j
    ∙ ap (option_map (slot_kept placings)) (range_get slots (slots_start a ss k) s.end j slot at.within (omega arith) ∙ ap Some (sym is))

-- a placing by its number
pub number_read : (placings : List Placing) (page n : ℕ) (placing : Placing) → 0 < n → slice_get placings (n - 1) ≡ Some placing → slot_by placings page n ≡ placed_by page (Some placing)
number_read placings page zero placing pos at = absurd (omega arith)
number_read placings page (suc k) placing pos at = let e : k ≡ suc k - 1 = omega arith in ap (placed_by page) (ap (slice_get placings) e ∙ at)

pub number_kept : (placings : List Placing) (page n place : ℕ) (placing : Placing) → n ≡ place + 1 → slice_get placings place ≡ Some placing → slot_by placings page n ≡ placed_by page (Some placing)
number_kept placings page n place placing is at =
    let e : n - 1 ≡ place = omega arith in
    number_read placings page n placing (omega arith) (ap (slice_get placings) e ∙ at)

pub number_none : (placings : List Placing) (page n : ℕ) → n ≡ 0 → slot_by placings page n ≡ slot_by placings page 0
number_none placings page n is = ap (slot_by placings page) is

-- ---- the last of them
pub end_last : (a k : ℕ) (ss : List KeptSheet) (s : KeptSheet) → k ≡ length ss - 1 → slice_get ss k ≡ Some s → s.end ≡ slots_end a ss
end_last a k [] s e at = absurd (none-some s at)
end_last a zero (x ∷ []) s e at = ap (λ (t : KeptSheet). t.end) (sym (same_Some x s at))
end_last a (suc k) (x ∷ []) s e at = absurd (omega arith)
end_last a zero (x ∷ y ∷ ys) s e at = absurd (omega arith)
end_last a (suc k) (x ∷ y ∷ ys) s e at = end_last x.end k (y ∷ ys) s (omega arith) at

-- a sheet begins where the one before it ends
pub start_before : (ss : List KeptSheet) (k j : ℕ) (s : KeptSheet) → k ≡ suc j → j < length ss → s ≡ get_or ss j s → s.end ≡ slots_start 0 ss k
start_before ss k j s e lt is = ap (λ (t : KeptSheet). t.end) is ∙ sym (start_next 0 j ss s lt) ∙ ap (slots_start 0 ss) (sym e)

-- ---- what was read back
pub read_sheet : (placings : List Placing) (slots : List KeptSlot) (sheets : List KeptSheet) (k : ℕ) (s : KeptSheet) → AreKept placings slots sheets → slice_get sheets k ≡ Some s → IsSheetAt placings slots 0 sheets k s
read_sheet placings slots sheets k s kept at =
    subst (IsSheetAt placings slots 0 sheets k) (get_or_from_slice_get sheets k s s at)
    (sheet_at placings slots 0 (length slots) k sheets s (omega arith) kept.ordered (slice_get_within sheets k s at))

past : {X : Type 0} (xs : List X) (k : ℕ) → k < length xs → slice_get xs k ≡ None → ⊥
past [] k lt e = absurd (omega arith)
past (x ∷ xs) zero lt e = none-some x (sym e)
past (x ∷ xs) (suc k) lt e = past xs k (omega arith) e

pub some_sheet : (placings : List Placing) (slots : List KeptSlot) (sheets : List KeptSheet) (k : ℕ) → AreKept placings slots sheets → k < length sheets
    → (s : KeptSheet) × IsSheetAt placings slots 0 sheets k s
some_sheet placings slots sheets k kept lt = found (slice_get sheets k) refl
  where
    found : (o : Option KeptSheet) → slice_get sheets k ≡ o → (s : KeptSheet) × IsSheetAt placings slots 0 sheets k s
    found None e = absurd (past sheets k lt e)
    found (Some s) e = (s, read_sheet placings slots sheets k s kept e)

pub sheet_there : (placings : List Placing) (slots : List KeptSlot) (sheets : List KeptSheet) (all : List MadeSheet) → sheets_from placings slots 0 sheets ≡ all → length all ≡ length sheets
sheet_there placings slots sheets all view = ap length (sym view) ∙ sheets_len placings slots 0 sheets

-- a slot of a sheet is in the block
pub slot_there : (placings : List Placing) (slots : List KeptSlot) (sheets : List KeptSheet) (all : List MadeSheet) (k j : ℕ) → AreKept placings slots sheets → sheets_from placings slots 0 sheets ≡ all → k < length all
    → j < length (slots_at all k) → slots_start 0 sheets k + j < length slots
slot_there placings slots sheets all k j kept view lt lj =
    let len = sheet_there placings slots sheets all view in
    let found = some_sheet placings slots sheets k kept (omega arith) in
    let at = found.1 in
    let count = ap (λ xs. length (slots_at xs k)) (sym view) ∙ at.count in
    let within = at.within in
    omega arith

-- a slot's number names a placing
pub number_there : (placings : List Placing) (slots : List KeptSlot) (sheets : List KeptSheet) (k : ℕ) (slot : KeptSlot) → AreKept placings slots sheets → slice_get slots k ≡ Some slot → slot.placing ≤ length placings
number_there placings slots sheets k slot kept at = subst (is_named (length placings)) (get_or_from_slice_get slots k slot slot at) (kept.named k slot (slice_get_within slots k slot at))

-- a slot that was read
pub placed_read : (placings : List Placing) (slots : List KeptSlot) (sheets : List KeptSheet) (all : List MadeSheet) (k j : ℕ) (slot : KeptSlot) → AreKept placings slots sheets → sheets_from placings slots 0 sheets ≡ all → k < length all
    → j < length (slots_at all k) → slice_get slots (slots_start 0 sheets k + j) ≡ Some slot → slice_get (slots_at all k) j ≡ Some (slot_kept placings slot)
placed_read placings slots sheets all k j slot kept view lt lj at =
    let len = sheet_there placings slots sheets all view in
    let found = some_sheet placings slots sheets k kept (omega arith) in
    slot_read placings slots all 0 k j sheets found.0 slot view found.1 lj (sym (get_or_from_slice_get slots (slots_start 0 sheets k + j) slot slot at))

pub total_read : (placings : List Placing) (slots : List KeptSlot) (sheets : List KeptSheet) (all : List MadeSheet) → AreKept placings slots sheets → sheets_from placings slots 0 sheets ≡ all → slots_end 0 sheets ≡ sum_by slot_count all
total_read placings slots sheets all kept view =
    let total = sheet_total placings slots 0 (length slots) sheets (omega arith) kept.ordered in
    let same = ap (sum_by slot_count) view in
    omega arith

pub count_read : (placings : List Placing) (slots : List KeptSlot) (sheets : List KeptSheet) (all : List MadeSheet) (k : ℕ) (s : KeptSheet) → AreKept placings slots sheets → sheets_from placings slots 0 sheets ≡ all → slice_get sheets k ≡ Some s
    → (slots_start 0 sheets k ≤ s.end) × (s.end - slots_start 0 sheets k ≡ length (slots_at all k)) × (s.paper < length placings)
count_read placings slots sheets all k s kept view at =
    let r = read_sheet placings slots sheets k s kept at in
    (r.ordered, sym (ap (λ xs. length (slots_at xs k)) (sym view) ∙ r.count), r.paper)

pub paper_read : (placings : List Placing) (slots : List KeptSlot) (sheets : List KeptSheet) (all : List MadeSheet) (k : ℕ) (s : KeptSheet) (placing : Placing) → AreKept placings slots sheets → sheets_from placings slots 0 sheets ≡ all
    → slice_get sheets k ≡ Some s → slice_get placings s.paper ≡ Some placing → slice_get (map (λ sheet. sheet.paper) all) k ≡ Some placing.paper
paper_read placings slots sheets all k s placing kept view at is =
    let r = read_sheet placings slots sheets k s kept at in
    ap (λ xs. slice_get (map (λ (sheet : MadeSheet). sheet.paper) xs) k) (sym view) ∙ r.paper_is ∙ ap (λ o. Some (paper_by o)) is

-- one slot more
pub grown_slot : (placings : List Placing) (old new : List KeptSlot) (slot : KeptSlot) → new ≡ old ++ slot ∷ [] → slot.placing ≤ length placings → IsGrown placings placings old new
grown_slot placings old new slot is le = record {
  placings_begin = take-length placings;
  slots_begin = ap (take (length old)) is ∙ take-append_seam old (slot ∷ []);
  named = λ h. subst (All (is_named (length placings))) (sym is) (All-push (is_named (length placings)) old slot h le);
}

pub added_slot : (placings : List Placing) (old new : List KeptSlot) (slot : KeptSlot) (made : MadeSlot) → new ≡ old ++ slot ∷ [] → slot_kept placings slot ≡ made → added_to placings old new ≡ made ∷ []
added_slot placings old new slot made is same = ap (λ xs. map (slot_kept placings) (drop (length old) xs)) is ∙ ap (map (slot_kept placings)) (drop-append_seam old (slot ∷ [])) ∙ ap (λ x. x ∷ []) same

-- slots that were added, and then more of them
pub added_more : (p q : List Placing) (xs ys zs : List KeptSlot) (row more : List MadeSlot) → IsGrown p q ys zs → All (is_named (length p)) ys → Begins xs ys → added_to p xs ys ≡ row → added_to q ys zs ≡ more → added_to q xs zs ≡ row ++ more
added_more p q xs ys zs row more g named b first next =
    let n = length xs in
    let m = length ys in
    let le = begins_len xs ys b in
    let split : zs ≡ ys ++ drop m zs = sym (take-append-drop m zs) ∙ ap (λ t. t ++ drop m zs) g.slots_begin in
    ap (λ t. map (slot_kept q) (drop n t)) split
    ∙ ap (map (slot_kept q)) (drop-append-le n ys (drop m zs) le)
    ∙ map-append (slot_kept q) (drop n ys) (drop m zs)
    ∙ ap (λ t. t ++ map (slot_kept q) (drop m zs)) (slots_same p q (drop n ys) g.placings_begin (All-drop (is_named (length p)) n ys named) ∙ first)
    ∙ ap (λ t. row ++ t) next

-- ---- a sheet is added after the others, or isn't
pub cut_named : (placings : List Placing) (slots : List KeptSlot) (sheets : List KeptSheet) (n : ℕ) → AreKept placings slots sheets → All (is_named (length placings)) (take n slots)
cut_named placings slots sheets n kept = All-take (is_named (length placings)) n slots kept.named

pub still_grown : (p q r : List Placing) (slots slots_new : List KeptSlot) (sheets : List KeptSheet) → AreKept p slots sheets → Begins p q → IsGrown q r (take (slots_end 0 sheets) slots) slots_new → IsStill p r slots slots_new sheets
still_grown p q r slots slots_new sheets kept b g =
    still p r slots slots_new sheets kept (begins_more p q r b g.placings_begin) g.slots_begin
    (g.named (named_more p q (take (slots_end 0 sheets) slots) b (cut_named p slots sheets (slots_end 0 sheets) kept)))

pub record IsPut (placings : List Placing) (slots : List KeptSlot) (sheets : List KeptSheet) (all : List MadeSheet) : Type 0 where
  pub kept : AreKept placings slots sheets
  pub view : sheets_from placings slots 0 sheets ≡ all

pub put_behind : (p q r : List Placing) (slots slots_new : List KeptSlot) (sheets : List KeptSheet) (s : KeptSheet) (placing : Placing) (row : List MadeSlot) (all : List MadeSheet) → AreKept p slots sheets → sheets_from p slots 0 sheets ≡ all
    → Begins p q → slice_get q s.paper ≡ Some placing → IsGrown q r (take (slots_end 0 sheets) slots) slots_new → s.end ≡ length slots_new → added_to r (take (slots_end 0 sheets) slots) slots_new ≡ row
    → IsPut r slots_new (sheets ++ s ∷ []) (all ++ record { paper = placing.paper; slots = row } ∷ [])
put_behind p q r slots slots_new sheets s placing row all kept view b at g e added =
    let now = still_grown p q r slots slots_new sheets kept b g in
    let within = (end_within (length p) (length slots) 0 sheets kept.ordered).1 in
    let found : slice_get r s.paper ≡ Some placing = begins_get q r s.paper g.placings_begin (slice_get_within q s.paper placing at) ∙ at in
    record {
      kept = kept_more r slots_new sheets s now.kept e (slice_get_within r s.paper placing found);
      view = pushed r (take (slots_end 0 sheets) slots) slots_new sheets s placing row all (now.same ∙ view) e found (length-take-le (slots_end 0 sheets) slots within) added;
    }

pub still_after : (p q r : List Placing) (slots cut slots_new : List KeptSlot) (sheets : List KeptSheet) → AreKept p slots sheets → Begins p q → cut ≡ take (slots_end 0 sheets) slots → IsGrown q r cut slots_new → IsStill p r slots slots_new sheets
still_after p q r slots cut slots_new sheets kept b front g = still_grown p q r slots slots_new sheets kept b (subst (λ xs. IsGrown q r xs slots_new) front g)

pub named_after : (p q : List Placing) (slots cut : List KeptSlot) (sheets : List KeptSheet) → AreKept p slots sheets → Begins p q → cut ≡ take (slots_end 0 sheets) slots → All (is_named (length q)) cut
named_after p q slots cut sheets kept b front = subst (All (is_named (length q))) (sym front) (named_more p q (take (slots_end 0 sheets) slots) b (cut_named p slots sheets (slots_end 0 sheets) kept))

pub put_after : (p q r : List Placing) (slots cut slots_new : List KeptSlot) (sheets sheets_new : List KeptSheet) (s : KeptSheet) (placing : Placing) (row : List MadeSlot) (all : List MadeSheet) → AreKept p slots sheets → sheets_from p slots 0 sheets ≡ all
    → Begins p q → cut ≡ take (slots_end 0 sheets) slots → slice_get q s.paper ≡ Some placing → IsGrown q r cut slots_new → s.end ≡ length slots_new → added_to r cut slots_new ≡ row → sheets_new ≡ sheets ++ s ∷ []
    → IsPut r slots_new sheets_new (all ++ record { paper = placing.paper; slots = row } ∷ [])
put_after p q r slots cut slots_new sheets sheets_new s placing row all kept view b front at g e added is =
    subst (λ ss. IsPut r slots_new ss (all ++ record { paper = placing.paper; slots = row } ∷ [])) (sym is)
    (put_behind p q r slots slots_new sheets s placing row all kept view b at (subst (λ xs. IsGrown q r xs slots_new) front g) e (ap (λ xs. added_to r xs slots_new) (sym front) ∙ added))

pub on_err : {A E : Type 0} (r : Result A E) (P : Type 0) → P → OnErr r P
on_err (Ok x) P p = tt
on_err (Err e) P p = p

-- ---- a slot is kept
pub grown_both : (p q : List Placing) (old new : List KeptSlot) (slot : KeptSlot) → Begins p q → new ≡ old ++ slot ∷ [] → slot.placing ≤ length q → IsGrown p q old new
grown_both p q old new slot b is le = grown_then p q q old old new (grown_placings p q old b) (grown_slot q old new slot is le)

pub added_none : (placings : List Placing) (slots : List KeptSlot) → added_to placings slots slots ≡ []
added_none placings slots = ap (map (slot_kept placings)) (drop-length slots)

-- a turn of the loop over the slots
pub record IsTurn (p r : List Placing) (xs zs : List KeptSlot) (row : List MadeSlot) : Type 0 where
  pub grown : IsGrown p r xs zs
  pub named : All (is_named (length r)) zs
  pub added : added_to r xs zs ≡ row

pub turn : (p q r : List Placing) (xs ys zs : List KeptSlot) (made : List code.MadeSlot) (i : ℕ) (slot : code.MadeSlot) → IsGrown p q xs ys → All (is_named (length q)) ys → added_to q xs ys ≡ map slot_of (take i made)
    → IsGrown q r ys zs → added_to r ys zs ≡ slot_of slot ∷ [] → slot ≡ get_or made i slot → i < length made → IsTurn p r xs zs (map slot_of (take (i + 1) made))
turn p q r xs ys zs made i slot g named so_far more one is lt = record {
  grown = grown_then p q r xs ys zs g more;
  named = more.named named;
  added = added_more q r xs ys zs (map slot_of (take i made)) (slot_of slot ∷ []) more named g.slots_begin so_far one
      ∙ ap (λ s. map slot_of (take i made) ++ slot_of s ∷ []) is
      ∙ sym (map_more slot_of made i slot lt);
}
