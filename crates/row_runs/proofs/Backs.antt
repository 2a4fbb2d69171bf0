-- Backs: fronts stay as they are; sheets that were moved and turned so far; and where pages stand.
use Rattle.std.proofs.Common.{arith, ◌≡◌, ◌∙◌, ℕ, suc, zero, ◌+◌, ◌<◌, inl, inr, Bool, true, false, List, [], ◌∷◌, ◌++◌, Option, Some, None, ap, ap₂, refl, subst, sym, length, map, take}
use Rattle.std.specs.List.{range_with_len}
use Rattle.std.specs.Prelude.{ℤ, pos, ◌+ℤ◌, ◌-ℤ◌, ◌*ℤ◌, All, AllPairs, ◌==◌, ◌%◌, if◌then◌else◌, slice_get, slice_index_or}
use Rattle.std.proofs.lemmas.Int.{ints}
use Rattle.std.proofs.lemmas.List.{get_or-map, length-map}
use Rattle.std.proofs.lemmas.List.Elements.{All-map}
use Rattle.std.proofs.lemmas.Option.{none-some, same_Some}
use Rattle.rules.specs.Papers.{Paper, Pt, grains}
use Rattle.rules.specs.Placement.{Point}
use Rattle.rules.specs.Specification.{Item, Turn}
use Rattle.rules.specs.Made.{MadeSlot, Blank, Placed, MadeSheet}
use Rattle.rules.specs.Sheets.{blocks}
use Rattle.layouts.specs.Cells.{item_in_cell}
use Rattle.layouts.specs.Fitted.{is_whole, scale_on}
use Rattle.layouts.specs.Grids.{page_alone}
use Rattle.layouts.specs.Placed.{AreApart, ComesFirst, IsInside, Room, across, fine, stands}
use Rattle.row_sheets.specs.Filled.{Filling, SlotIsInside, SlotsAreApart, filled, grid_entry, slot_in_cell}
use Rattle.row_sheets.specs.Standing.{StandsInRoom}
use Rattle.row_runs.specs.SwappedMargins.{FittedAreInPoints, IsInPoints, SwappedStands, exchanged, swapped_room_on, swapped, swapped_from, moved_item, moved_sheet, moved_slot, room_on, swap_shift}
use Rattle.row_runs.specs.Turning.{turned_sheet}

-- ---- nothing is moved

pub unmoved : (slot : MadeSlot) → moved_slot None slot ≡ slot
unmoved Blank = refl
unmoved (Placed page item paper) = refl

unmoved_slots : (slots : List MadeSlot) → map (moved_slot None) slots ≡ slots
unmoved_slots [] = refl
unmoved_slots (slot ∷ slots) = ap₂ (λ (s : MadeSlot) (all : List MadeSlot). s ∷ all) (unmoved slot) (unmoved_slots slots)

pub unmoved_sheet : (sheet : MadeSheet) → moved_sheet None sheet ≡ sheet
unmoved_sheet sheet = ap (λ (slots : List MadeSlot). record { paper = sheet.paper; slots = slots }) (unmoved_slots sheet.slots)

pub either_way : (back : Bool) (m : Option Room) → (if back then m else m) ≡ m
either_way true m = refl
either_way false m = refl

pub unswapped : (s : ℕ) (made : List MadeSheet) → swapped_from None s made ≡ made
unswapped s [] = refl
unswapped s (sheet ∷ made) = ap₂ (λ (x : MadeSheet) (all : List MadeSheet). x ∷ all)
    (ap (λ m. moved_sheet m sheet) (either_way (s % 2 == 1) None) ∙ unmoved_sheet sheet) (unswapped (s + 1) made)

-- ---- sheets that were moved and turned so far

pub fused : {X Y Z : Type 0} (g : Y → Z) (h : X → Y) (xs : List X) → map (λ x. g (h x)) xs ≡ map g (map h xs)
fused g h [] = refl
fused g h (x ∷ xs) = ap (λ zs. g (h x) ∷ zs) (fused g h xs)

one : (t : ℕ → Turn) (m : Option Room) (s i : ℕ) (all : List MadeSheet) (x : MadeSheet) → slice_get all i ≡ Some x
    → map (turned_sheet t) (swapped_from m s (take i all)) ++ turned_sheet t (moved_sheet (swapped_room_on m (s + i)) x) ∷ []
    ≡ map (turned_sheet t) (swapped_from m s (take (suc i) all))
one t m s i [] x at = absurd (none-some x at)
one t m s zero (y ∷ all) x at =
    let here : s + 0 ≡ s = omega arith in
    ap₂ (λ k z. turned_sheet t (moved_sheet (swapped_room_on m k) z) ∷ []) here (sym (same_Some y x at))
one t m s (suc i) (y ∷ all) x at =
    let next : s + suc i ≡ (s + 1) + i = omega arith in
    ap (λ r. turned_sheet t (moved_sheet (swapped_room_on m s) y) ∷ r)
    (ap (λ k. map (turned_sheet t) (swapped_from m (s + 1) (take i all)) ++ turned_sheet t (moved_sheet (swapped_room_on m k) x) ∷ []) next
    ∙ one t m (s + 1) i all x at)

pub sheet_more : (t : ℕ → Turn) (m : Option Room) (old new : List MadeSheet) (i : ℕ) (all : List MadeSheet) (x y : MadeSheet) → slice_get all i ≡ Some x
    → old ≡ map (turned_sheet t) (swapped m (take i all)) → new ≡ old ++ y ∷ [] → y ≡ turned_sheet t (moved_sheet (swapped_room_on m i) x)
    → new ≡ map (turned_sheet t) (swapped m (take (i + 1) all))
sheet_more t m old new i all x y at before step is =
    let next : suc i ≡ i + 1 = omega arith in
    let place : i ≡ 0 + i = omega arith in
    step
    ∙ ap₂ (λ ys z. ys ++ z ∷ []) before is
    ∙ ap (λ k. map (turned_sheet t) (swapped m (take i all)) ++ turned_sheet t (moved_sheet (swapped_room_on m k) x) ∷ []) place
    ∙ one t m 0 i all x at
    ∙ ap (λ n. map (turned_sheet t) (swapped m (take n all))) next

-- ---- where pages stand

-- a page that is moved by points is that much farther to the right
pub across_moved : (room : Room) (paper : Paper) (item : Item) (p : Point) → item.x.unit ≡ Pt
    → across (stands paper (moved_item (Some room) item) p) ≡ across (stands paper item p) +ℤ (fine room.right -ℤ fine room.left)
across_moved room paper item p points =
    let n = item.x.number in
    let by : ℤ = swap_shift room in
    let there : grains paper n item.x.unit ≡ n *ℤ pos 127 = ap (grains paper n) points in
    let here : grains paper (n +ℤ (pos 10_000 *ℤ by)) item.x.unit ≡ (n +ℤ (pos 10_000 *ℤ by)) *ℤ pos 127 = ap (grains paper (n +ℤ (pos 10_000 *ℤ by))) points in
    omega (arith, ints, there, here)

inside_moved : (room : Room) (paper : Paper) (item : Item) → item.x.unit ≡ Pt → IsInside room paper item → IsInside (exchanged room) paper (moved_item (Some room) item)
inside_moved room paper item points inside p of =
    let at = inside p of in
    let left = at.left in
    let right = at.right in
    let moved = across_moved room paper item p points in
    record { left = omega (arith, ints, left, moved); right = omega (arith, ints, right, moved); bottom = at.bottom; top = at.top }

first_moved : (room : Room) (page page' : Paper) (a b : Item) → a.x.unit ≡ Pt → b.x.unit ≡ Pt → ComesFirst across room page a page' b
    → ComesFirst across (exchanged room) page (moved_item (Some room) a) page' (moved_item (Some room) b)
first_moved room page page' a b points points' h p q of of' =
    let before = h p q of of' in
    let moved = across_moved room page a p points in
    let moved' = across_moved room page' b q points' in
    omega (arith, ints, before, moved, moved')

apart_moved : (room : Room) (page page' : Paper) (a b : Item) → a.x.unit ≡ Pt → b.x.unit ≡ Pt → AreApart room page a page' b
    → AreApart (exchanged room) page (moved_item (Some room) a) page' (moved_item (Some room) b)
apart_moved room page page' a b points points' (inl (inl h)) = inl (inl (first_moved room page page' a b points points' h))
apart_moved room page page' a b points points' (inl (inr h)) = inl (inr (first_moved room page' page b a points' points h))
apart_moved room page page' a b points points' (inr h) = inr h

slot_inside : (room : Room) (slot : MadeSlot) → IsInPoints slot → SlotIsInside room slot → SlotIsInside (exchanged room) (moved_slot (Some room) slot)
slot_inside room Blank points h = tt
slot_inside room (Placed page item paper) points h = inside_moved room paper item points h

slots_apart : (room : Room) (a b : MadeSlot) → IsInPoints a → IsInPoints b → SlotsAreApart room a b
    → SlotsAreApart (exchanged room) (moved_slot (Some room) a) (moved_slot (Some room) b)
slots_apart room Blank b points points' h = tt
slots_apart room (Placed page item paper) Blank points points' h = tt
slots_apart room (Placed page item paper) (Placed page' item' paper') points points' h = apart_moved room paper paper' item item' points points' h

all_apart : (room : Room) (slots : List MadeSlot) → All IsInPoints slots → AllPairs (SlotsAreApart room) slots
    → AllPairs (SlotsAreApart (exchanged room)) (map (moved_slot (Some room)) slots)
all_apart room slots points apart i j d before less =
    let f = moved_slot (Some room) in
    let second : j < length slots = subst (λ n. j < n) (length-map slots f) less in
    let first : i < length slots = omega (arith, before, second) in
    let a = slice_index_or slots i Blank in
    let b = slice_index_or slots j Blank in
    subst (λ x. SlotsAreApart (exchanged room) x (slice_index_or (map f slots) j d)) (sym (get_or-map f slots i Blank d first))
    (subst (SlotsAreApart (exchanged room) (f a)) (sym (get_or-map f slots j Blank d second))
    (slots_apart room a b (points i Blank first) (points j Blank second) (apart i j Blank before second)))

back_stands : (room : Room) (sheet : MadeSheet) → All IsInPoints sheet.slots → StandsInRoom room sheet → StandsInRoom (exchanged room) (moved_sheet (Some room) sheet)
back_stands room sheet points h = record {
  paper = h.paper;
  inside = All-map (SlotIsInside (exchanged room)) (moved_slot (Some room)) sheet.slots
      (λ k d less. slot_inside room (slice_index_or sheet.slots k d) (points k d less) (h.inside k d less));
  apart = all_apart room sheet.slots points h.apart;
}

pub side_stands : (back : Bool) (room : Room) (sheet : MadeSheet) → All IsInPoints sheet.slots → StandsInRoom room sheet
    → StandsInRoom (if back then exchanged room else room) (moved_sheet (if back then Some room else None) sheet)
side_stands true room sheet points h = back_stands room sheet points h
side_stands false room sheet points h = subst (StandsInRoom room) (sym (unmoved_sheet sheet)) h

-- sheet i of those that are mirrored
pub at_place : (m : Option Room) (s i : ℕ) (made : List MadeSheet) (d : MadeSheet) → i < length made
    → slice_index_or (swapped_from m s made) i d ≡ moved_sheet (swapped_room_on m (s + i)) (slice_index_or made i d)
at_place m s i [] d less = absurd (omega (arith, less))
at_place m s zero (x ∷ made) d less =
    let here : s ≡ s + 0 = omega arith in
    ap (λ k. moved_sheet (swapped_room_on m k) x) here
at_place m s (suc i) (x ∷ made) d less =
    let next : (s + 1) + i ≡ s + suc i = omega arith in
    at_place m (s + 1) i made d (omega (arith, less)) ∙ ap (λ k. moved_sheet (swapped_room_on m k) (slice_index_or made i d)) next

pub swapped_stands : SwappedStands
swapped_stands room made points stand s d less =
    let here : 0 + s ≡ s = omega arith in
    let sheet = slice_index_or made s d in
    subst (StandsInRoom (room_on room s)) (sym (at_place (Some room) 0 s made d less ∙ ap (λ k. moved_sheet (swapped_room_on (Some room) k) sheet) here))
    (side_stands (s % 2 == 1) room sheet (points s d less) (stand s d less))

-- ---- pages in cells are moved by points

of_two : (whole : Bool) (k : ℕ) (item : Item) → item.x.unit ≡ Pt → (if whole then page_alone k else item).x.unit ≡ Pt
of_two true k item points = refl
of_two false k item points = points

slot_in_points : (f : Filling) (c : ℕ) (entry : Option ℕ) → IsInPoints (slot_in_cell f c entry)
slot_in_points f c None = tt
slot_in_points f c (Some page) = let t = f.setting in let paper = f.paper_of page in
    of_two (is_whole t paper) c (item_in_cell paper t.room t.grid t.order (scale_on t paper) c) refl

pub filled_in_points : (f : Filling) (sheets cells : ℕ) (entry : (s c : ℕ) → Option ℕ) → All (λ sheet. All IsInPoints sheet.slots) (filled f sheets cells entry)
filled_in_points f sheets cells entry =
    All-map (λ sheet. All IsInPoints sheet.slots)
    (λ s. record { paper = f.setting.room.paper; slots = map (λ c. slot_in_cell f c (entry s c)) (range_with_len 0 cells) })
    (range_with_len 0 sheets)
    (λ k d less. All-map IsInPoints (λ c. slot_in_cell f c (entry (slice_index_or (range_with_len 0 sheets) k d) c)) (range_with_len 0 cells)
    (λ i e within. slot_in_points f (slice_index_or (range_with_len 0 cells) i e) _))

pub fitted_in_points : FittedAreInPoints
fitted_in_points f cells row = filled_in_points f (blocks cells (length row)) cells (grid_entry cells row)
