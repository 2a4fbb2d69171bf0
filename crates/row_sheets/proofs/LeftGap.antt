-- What is left of the gap at the fold of a booklet whose leaves creep.
use Rattle.std.proofs.Common.{arith, ◌≡◌, inl, inr, ℕ, suc, zero, ◌+◌, ◌-◌, ◌*◌, ◌<◌, Bool, true, false, [], ◌∷◌, Option, Some, None, length, refl, subst}
use Rattle.std.specs.Prelude.{ℤ, pos, neg_ℤ, ◌+ℤ◌, ◌*ℤ◌, ◌≤ℤ◌, nat_abs, not, All, AllPairs}
use Rattle.std.proofs.lemmas.Int.{ints}
use Rattle.rules.specs.Papers.{Paper}
use Rattle.rules.specs.Placement.{Point}
use Rattle.rules.specs.Sheets.{blocks}
use Rattle.rules.specs.Specification.{Item}
use Rattle.rules.specs.Made.{Blank, MadeSheet, MadeSlot, Placed}
use Rattle.layouts.specs.declared.setting.Setting.{Setting}
use Rattle.layouts.specs.Placed.{ComesFirst, IsEven, IsOfPage, Room, fine, stands, upward}
use Rattle.layouts.specs.Cells.{along_height, item_in_cell, back_in, whole_parts}
use Rattle.layouts.specs.Fitted.{scale_on}
use Rattle.layouts.specs.Grids.{beside, leaf_order}
use Rattle.layouts.proofs.Folds.{fold, lies_before, lies_behind, turned_before, turned_behind}
use Rattle.row_sheets.specs.Creep.{AreHalves, creep_on, creeping, creeping_slot, leaf_item, to_fold}
use Rattle.row_sheets.specs.Filled.{Filling, SlotIsInside, SlotsAreApart, grid_entry, is_turned}
use Rattle.row_sheets.specs.Halves.{BookletKeepsGap, crept_room, is_before_fold}
use Rattle.row_sheets.specs.Standing.{EntryCreeps, FitsOnLeaf, StandsInRoom, fold_on}
use Rattle.row_sheets.proofs.Creeping.{halves, of_halves}
use Rattle.row_sheets.proofs.Halves.{back_by, front_by}
use Rattle.row_sheets.proofs.Leaves.{creep_moves}
use Rattle.row_sheets.proofs.OnLeaves.{Creeps, SlotStays, Stays, back_item, back_moves, back_slot, back_stays, creeps_on, front_is, front_slot, front_stays, line, no_higher, on_halves, one_of_two, slot_there}
use Rattle.row_sheets.proofs.OnSheets.{numbered}

-- ---- a page

-- before a line across the sheet, or beyond it, by half of the gap but for the creep
abbrev Keeps : (before : Bool) → Room → (T creep : ℕ) → (page : Paper) → Item → Type 0
Keeps true room T creep page item = (p : Point) → IsOfPage room.trim page p → ((pos 2 *ℤ (stands page item p).y) +ℤ fine room.gutter_up) ≤ℤ fine (T + 2 * creep)
Keeps false room T creep page item = (p : Point) → IsOfPage room.trim page p → (fine T +ℤ fine room.gutter_up) ≤ℤ ((pos 2 *ℤ (stands page item p).y) +ℤ fine (2 * creep))

record IsParted (before : Bool) (room : Room) (T creep : ℕ) (page : Paper) (item : Item) : Type 0 where
  pub keeps : Keeps before room T creep page item
  pub stays : Stays before room T page item

up_keeps : (y y' by : ℤ) (T gap creep : ℕ) → by ≡ pos creep → y' ≡ y +ℤ (pos 1_270_000_000_000_000 *ℤ by) → ((pos 2 *ℤ y) +ℤ fine gap) ≤ℤ fine T → ((pos 2 *ℤ y') +ℤ fine gap) ≤ℤ fine (T + 2 * creep)
up_keeps y y' by T gap creep is e h = omega (arith, ints, is, e, h)

down_keeps : (y y' by : ℤ) (T gap creep : ℕ) → by ≡ neg_ℤ (pos creep) → y' ≡ y +ℤ (pos 1_270_000_000_000_000 *ℤ by) → (fine T +ℤ fine gap) ≤ℤ (pos 2 *ℤ y) → (fine T +ℤ fine gap) ≤ℤ ((pos 2 *ℤ y') +ℤ fine (2 * creep))
down_keeps y y' by T gap creep is e h = omega (arith, ints, is, e, h)

front_keeps : (before : Bool) (page : Paper) (room : Room) (b : Bool) (s creep : ℕ) → Creeps page room b s creep
    → Keeps before room (fold (along_height room) (nat_abs room.paper.height)) creep page (leaf_item page room b s creep (slot_there b before))
front_keeps true page room b s creep c = λ p of.
    let k = slot_there b true in
    up_keeps (stands page (item_in_cell page room (beside true) (leaf_order b) s k) p).y (stands page (leaf_item page room b s creep k) p).y (to_fold b k creep) (fold (along_height room) (nat_abs room.paper.height)) room.gutter_up creep
    (front_by b true creep) (creep_moves page room b s creep k p).1 (lies_before page room b s c.page_is c.place p of)
front_keeps false page room b s creep c = λ p of.
    let k = slot_there b false in
    down_keeps (stands page (item_in_cell page room (beside true) (leaf_order b) s k) p).y (stands page (leaf_item page room b s creep k) p).y (to_fold b k creep) (fold (along_height room) (nat_abs room.paper.height)) room.gutter_up creep
    (front_by b false creep) (creep_moves page room b s creep k p).1 (lies_behind page room b s c.page_is c.place p of)

back_keeps : (front : Bool) (page : Paper) (room : Room) (b : Bool) (s creep : ℕ) → Creeps page room b s creep
    → Keeps (not front) room (2 * whole_parts (nat_abs room.paper.height) - fold (along_height room) (nat_abs room.paper.height)) creep page (back_item page room b s creep (slot_there b front))
back_keeps true page room b s creep c = λ p of.
    let k = slot_there b true in
    let T = fold (along_height room) (nat_abs room.paper.height) in
    let one = item_in_cell page room (beside true) (leaf_order b) s k in
    let other = back_in page room (beside true) (leaf_order b) s 0 k in
    down_keeps (stands page other p).y (stands page (back_item page room b s creep k) p).y (neg_ℤ (to_fold b k creep)) (2 * whole_parts (nat_abs room.paper.height) - T) room.gutter_up creep
    (back_by true (to_fold b k creep) creep (front_by b true creep)) (back_moves page room b s creep k p).1
    (turned_behind room T page one other (no_higher page room b s creep c) (lies_before page room b s c.page_is c.place) (c.turned k (one_of_two b true)) p of)
back_keeps false page room b s creep c = λ p of.
    let k = slot_there b false in
    let T = fold (along_height room) (nat_abs room.paper.height) in
    let one = item_in_cell page room (beside true) (leaf_order b) s k in
    let other = back_in page room (beside true) (leaf_order b) s 0 k in
    up_keeps (stands page other p).y (stands page (back_item page room b s creep k) p).y (neg_ℤ (to_fold b k creep)) (2 * whole_parts (nat_abs room.paper.height) - T) room.gutter_up creep
    (back_by false (to_fold b k creep) creep (front_by b false creep)) (back_moves page room b s creep k p).1
    (turned_before room T page one other (no_higher page room b s creep c) (lies_behind page room b s c.page_is c.place) (c.turned k (one_of_two b false)) p of)

front_parted : (before : Bool) (page : Paper) (room : Room) (b : Bool) (asked : Option ℤ) (creep : ℕ) → IsEven room → FitsOnLeaf (halves room b asked) page creep
    → IsParted before room (fold (along_height room) (nat_abs room.paper.height)) creep page (creeping (halves room b asked) false page (slot_there b before) creep)
front_parted before page room b asked creep even has =
    let t = halves room b asked in
    let c = creeps_on page room b asked creep even has in
    let s = scale_on t page in
    subst (IsParted before room (fold (along_height room) (nat_abs room.paper.height)) creep page) (front_is page room b asked (slot_there b before) creep c.0)
    (record { keeps = front_keeps before page room b s creep c.1; stays = front_stays before page room b s creep c.1 })

back_parted : (front : Bool) (page : Paper) (room : Room) (b : Bool) (asked : Option ℤ) (creep : ℕ) → IsEven room → FitsOnLeaf (halves room b asked) page creep
    → IsParted (not front) room (2 * whole_parts (nat_abs room.paper.height) - fold (along_height room) (nat_abs room.paper.height)) creep page (creeping (halves room b asked) true page (slot_there b front) creep)
back_parted front page room b asked creep even has =
    let s = scale_on (halves room b asked) page in
    let c = creeps_on page room b asked creep even has in
    record { keeps = back_keeps front page room b s creep c.1; stays = back_stays front page room b s creep c.1 }

-- ---- two pages

left_between : (y y' : ℤ) (T gap creep : ℕ) → ((pos 2 *ℤ y) +ℤ fine gap) ≤ℤ fine (T + 2 * creep) → (pos 2 *ℤ y) ≤ℤ fine T → (fine T +ℤ fine gap) ≤ℤ ((pos 2 *ℤ y') +ℤ fine (2 * creep)) → fine T ≤ℤ (pos 2 *ℤ y')
    → (y +ℤ fine (gap - 2 * creep)) ≤ℤ y'
left_between y y' T gap creep one one_stays other other_stays = omega (arith, ints, one, one_stays, other, other_stays)

first : (room : Room) (T creep : ℕ) (page page' : Paper) (one other : Item) → IsParted true room T creep page one → IsParted false room T creep page' other → ComesFirst upward (crept_room room creep) page one page' other
first room T creep page page' one other h i p q of of' =
    left_between (stands page one p).y (stands page' other q).y T room.gutter_up creep (h.keeps p of) (h.stays p of) (i.keeps q of') (i.stays q of')

abbrev Apart : (room : Room) (b : Bool) (asked : Option ℤ) (paper_of : ℕ → Paper) (by_half : Bool) (creep : ℕ) (one other : Option ℕ) → Type 0
Apart room b asked paper_of by_half creep one other = let f = on_halves room b asked paper_of in
    EntryCreeps f creep one → EntryCreeps f creep other → SlotsAreApart (crept_room room creep) (creeping_slot f by_half 0 creep one) (creeping_slot f by_half 1 creep other)

pages_apart : (room : Room) (b : Bool) (asked : Option ℤ) (paper_of : ℕ → Paper) (by_half : Bool) (creep page page' : ℕ) → IsEven room → Apart room b asked paper_of by_half creep (Some page) (Some page')
pages_apart room false asked paper_of false creep page page' even has has' =
    inr (inl (first room _ creep (paper_of page) (paper_of page') _ _ (front_parted true (paper_of page) room false asked creep even has) (front_parted false (paper_of page') room false asked creep even has')))
pages_apart room true asked paper_of false creep page page' even has has' =
    inr (inr (first room _ creep (paper_of page') (paper_of page) _ _ (front_parted true (paper_of page') room true asked creep even has') (front_parted false (paper_of page) room true asked creep even has)))
pages_apart room false asked paper_of true creep page page' even has has' =
    inr (inr (first room _ creep (paper_of page') (paper_of page) _ _ (back_parted false (paper_of page') room false asked creep even has') (back_parted true (paper_of page) room false asked creep even has)))
pages_apart room true asked paper_of true creep page page' even has has' =
    inr (inl (first room _ creep (paper_of page) (paper_of page') _ _ (back_parted false (paper_of page) room true asked creep even has) (back_parted true (paper_of page') room true asked creep even has')))

slots_apart : (room : Room) (b : Bool) (asked : Option ℤ) (paper_of : ℕ → Paper) (by_half : Bool) (creep : ℕ) (one other : Option ℕ) → IsEven room → Apart room b asked paper_of by_half creep one other
slots_apart room b asked paper_of by_half creep None other even has has' = tt
slots_apart room b asked paper_of by_half creep (Some page) None even has has' = tt
slots_apart room b asked paper_of by_half creep (Some page) (Some page') even has has' = pages_apart room b asked paper_of by_half creep page page' even has has'

slot_inside : (room : Room) (b : Bool) (asked : Option ℤ) (paper_of : ℕ → Paper) (by_half : Bool) (k creep : ℕ) (entry : Option ℕ) → k < 2 → IsEven room → EntryCreeps (on_halves room b asked paper_of) creep entry
    → SlotIsInside room (creeping_slot (on_halves room b asked paper_of) by_half k creep entry)
slot_inside room false asked paper_of false zero creep entry less even has = (front_slot true room false asked paper_of creep entry even has).0
slot_inside room false asked paper_of false (suc zero) creep entry less even has = (front_slot false room false asked paper_of creep entry even has).0
slot_inside room true asked paper_of false zero creep entry less even has = (front_slot false room true asked paper_of creep entry even has).0
slot_inside room true asked paper_of false (suc zero) creep entry less even has = (front_slot true room true asked paper_of creep entry even has).0
slot_inside room false asked paper_of true zero creep entry less even has = (back_slot true room false asked paper_of creep entry even has).0
slot_inside room false asked paper_of true (suc zero) creep entry less even has = (back_slot false room false asked paper_of creep entry even has).0
slot_inside room true asked paper_of true zero creep entry less even has = (back_slot false room true asked paper_of creep entry even has).0
slot_inside room true asked paper_of true (suc zero) creep entry less even has = (back_slot true room true asked paper_of creep entry even has).0
slot_inside room b asked paper_of by_half (suc (suc k)) creep entry less even has = absurd (omega (arith, less))

-- less of the gap leaves the margins as they are
still_inside : (room : Room) (creep : ℕ) (slot : MadeSlot) → SlotIsInside room slot → SlotIsInside (crept_room room creep) slot
still_inside room creep Blank h = tt
still_inside room creep (Placed page item paper) h = λ p of. let at = h p of in record { left = at.left; right = at.right; bottom = at.bottom; top = at.top }

-- ---- the fold

stays_on_halves : (room : Room) (b : Bool) (asked : Option ℤ) (paper_of : ℕ → Paper) (by_half : Bool) (k creep : ℕ) (entry : Option ℕ) → k < 2 → IsEven room → EntryCreeps (on_halves room b asked paper_of) creep entry
    → SlotStays (is_before_fold b by_half k) room (fold_on room by_half (line room)) (creeping_slot (on_halves room b asked paper_of) by_half k creep entry)
stays_on_halves room false asked paper_of false zero creep entry less even has = (front_slot true room false asked paper_of creep entry even has).1
stays_on_halves room false asked paper_of false (suc zero) creep entry less even has = (front_slot false room false asked paper_of creep entry even has).1
stays_on_halves room true asked paper_of false zero creep entry less even has = (front_slot false room true asked paper_of creep entry even has).1
stays_on_halves room true asked paper_of false (suc zero) creep entry less even has = (front_slot true room true asked paper_of creep entry even has).1
stays_on_halves room false asked paper_of true zero creep entry less even has = (back_slot true room false asked paper_of creep entry even has).1
stays_on_halves room false asked paper_of true (suc zero) creep entry less even has = (back_slot false room false asked paper_of creep entry even has).1
stays_on_halves room true asked paper_of true zero creep entry less even has = (back_slot false room true asked paper_of creep entry even has).1
stays_on_halves room true asked paper_of true (suc zero) creep entry less even has = (back_slot true room true asked paper_of creep entry even has).1
stays_on_halves room b asked paper_of by_half (suc (suc k)) creep entry less even has = absurd (omega (arith, less))

-- a slot stays on its side of the fold
pub slot_stays : (f : Filling) (by_half : Bool) (k creep : ℕ) (entry : Option ℕ) → k < 2 → AreHalves f.setting → EntryCreeps f creep entry
    → SlotStays (is_before_fold f.setting.order.right_to_left by_half k) f.setting.room (fold_on f.setting.room by_half (line f.setting.room)) (creeping_slot f by_half k creep entry)
slot_stays f by_half k creep entry less halved has =
    of_halves (λ t. let g : Filling = record { setting = t; paper_of = f.paper_of } in
    EntryCreeps g creep entry → SlotStays (is_before_fold t.order.right_to_left by_half k) t.room (fold_on t.room by_half (line t.room)) (creeping_slot g by_half k creep entry)) f.setting halved
    (stays_on_halves f.setting.room f.setting.order.right_to_left f.setting.scale f.paper_of by_half k creep entry less halved.even) has

-- ---- a side

both : (P : MadeSlot → Type 0) (one other : MadeSlot) → P one → P other → All P (one ∷ other ∷ [])
both P one other p q zero d less = p
both P one other p q (suc zero) d less = q
both P one other p q (suc (suc k)) d less = absurd (omega (arith, less))

pair : (R : MadeSlot → MadeSlot → Type 0) (one other : MadeSlot) → R one other → AllPairs R (one ∷ other ∷ [])
pair R one other h zero (suc zero) d before less = h
pair R one other h i zero d before less = absurd (omega (arith, before))
pair R one other h (suc i) (suc zero) d before less = absurd (omega (arith, before))
pair R one other h i (suc (suc j)) d before less = absurd (omega (arith, less))

abbrev pub side_of : Filling → (by_half : Bool) → (creep : ℕ) → (one other : Option ℕ) → MadeSheet
side_of f by_half creep one other = record { paper = f.setting.room.paper; slots = creeping_slot f by_half 0 creep one ∷ creeping_slot f by_half 1 creep other ∷ [] }

abbrev pub SideStands : (paper_of : ℕ → Paper) (by_half : Bool) (creep : ℕ) (one other : Option ℕ) → Setting → Type 0
SideStands paper_of by_half creep one other t = let f : Filling = record { setting = t; paper_of = paper_of } in
    EntryCreeps f creep one → EntryCreeps f creep other → StandsInRoom (crept_room t.room creep) (side_of f by_half creep one other)

pub side_stands : (f : Filling) (by_half : Bool) (creep : ℕ) (one other : Option ℕ) → AreHalves f.setting → SideStands f.paper_of by_half creep one other f.setting
side_stands f by_half creep one other halved =
    let room = f.setting.room in
    let b = f.setting.order.right_to_left in
    let asked = f.setting.scale in
    let g = on_halves room b asked f.paper_of in
    of_halves (SideStands f.paper_of by_half creep one other) f.setting halved
    (λ has has'. record {
      paper = refl;
      inside = both (SlotIsInside (crept_room room creep)) (creeping_slot g by_half 0 creep one) (creeping_slot g by_half 1 creep other)
          (still_inside room creep (creeping_slot g by_half 0 creep one) (slot_inside room b asked f.paper_of by_half 0 creep one (omega arith) halved.even has))
          (still_inside room creep (creeping_slot g by_half 1 creep other) (slot_inside room b asked f.paper_of by_half 1 creep other (omega arith) halved.even has'));
      apart = pair (SlotsAreApart (crept_room room creep)) (creeping_slot g by_half 0 creep one) (creeping_slot g by_half 1 creep other) (slots_apart room b asked f.paper_of by_half creep one other halved.even has has');
    })

pub booklet_keeps_gap : BookletKeepsGap
booklet_keeps_gap f turned_backs creep leaves row halved fit s d less =
    numbered (λ s. StandsInRoom (crept_room f.setting.room (creep_on creep leaves s)))
    (λ s. side_of f (is_turned turned_backs s) (creep_on creep leaves s) (grid_entry 2 row s 0) (grid_entry 2 row s 1)) (blocks 2 (length row))
    (λ s below. side_stands f (is_turned turned_backs s) (creep_on creep leaves s) (grid_entry 2 row s 0) (grid_entry 2 row s 1) halved (fit s 0 (omega arith)) (fit s 1 (omega arith))) s d less
