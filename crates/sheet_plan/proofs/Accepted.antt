-- The limits of made sheets: the first fault, and what accepted ones keep to.
use Rattle.std.proofs.Common.{arith, ◌≡◌, ℕ, zero, suc, ◌+◌, ◌<◌, ◌≤◌, Bool, true, false, ◌&&◌, ◌||◌, List, [], ◌∷◌, length, map, get_or, drop, drop-cons, refl, sym, ap, ◌∙◌, subst, Option, Some, None, Result, Ok, Err}
use Rattle.std.specs.Prelude.{cond, not, nat_le, nat_lt, position, slice_get, slice_index_or, option_map, sum_by}
use Rattle.std.specs.List.{list_any, position_from}
use Rattle.std.proofs.lemmas.Bool.Decides.{nat_tests}
use Rattle.std.proofs.lemmas.Iterator.Adapters.{position_from-zero}
use Rattle.std.proofs.lemmas.List.{length-map, get_or-map}
use Rattle.std.proofs.lemmas.List.Sums.{sum_by-cons}
use Rattle.std.proofs.lemmas.Option.{same_Some, none-some, slice_get-map}
use Rattle.rules.specs.Papers.{points}
use Rattle.rules.specs.Sheets.{Plan, Slot, layout}
use Rattle.rules.specs.Run.{refuse_if}
use Rattle.rules.specs.Made.{MadeSlot, Blank, Placed, MadeSheet}
use Rattle.rules.specs.MadePlans.{MadeFault, MadeTooManyPages, MadeTooManySheets, MadeSlotsOutOfRange, MadeTooManyPlaces, MadeNoSuchPage, page_of, lacks_page, slot_count, is_slot_count, refuse_at, made_plan_of, made_layout}
use Rattle.sheet_plan.specs.OfSheets.{slots_at, item_in, slot_in, made_plan}
use Rattle.sheet_plan.specs.Plans.{pages_on, items_on, IsSound}
use Rattle.sheet_plan.proofs.Admitted.{none_passes}
use Rattle.sheet_plan.proofs.Limits.{refused, passed, above, within}

-- ---- the first of a list that passes a test
pub looked_at : {X : Type 0} (p : X → Bool) (xs : List X) (k : ℕ) (d : X) → k < length xs
    → position_from p k (drop k xs) ≡ cond (p (get_or xs k d)) (Some k) (position_from p (k + 1) (drop (k + 1) xs))
looked_at p xs k d lt =
    let next : suc k ≡ k + 1 = omega arith in
    ap (position_from p k) (drop-cons xs k d lt) ∙ ap (λ n. cond (p (get_or xs k d)) (Some k) (position_from p (k + 1) (drop n xs))) next

pub found_at : {X : Type 0} (p : X → Bool) (xs : List X) (k : ℕ) (d : X) (t : Bool) → k < length xs → position p xs ≡ position_from p k (drop k xs) → t ≡ p (get_or xs k d) → t ≡ true → position p xs ≡ Some k
found_at p xs k d t lt so_far is told = so_far ∙ looked_at p xs k d lt ∙ ap (λ b. cond b (Some k) (position_from p (k + 1) (drop (k + 1) xs))) (sym is ∙ told)

pub passed_by : {X : Type 0} (p : X → Bool) (xs : List X) (k : ℕ) (d : X) (t : Bool) → k < length xs → position p xs ≡ position_from p k (drop k xs) → t ≡ p (get_or xs k d) → t ≡ false → position p xs ≡ position_from p (k + 1) (drop (k + 1) xs)
passed_by p xs k d t lt so_far is told = so_far ∙ looked_at p xs k d lt ∙ ap (λ b. cond b (Some k) (position_from p (k + 1) (drop (k + 1) xs))) (sym is ∙ told)

pub looked_none : {X : Type 0} (p : X → Bool) (xs : List X) → position p xs ≡ position_from p 0 (drop 0 xs)
looked_none p xs = position_from-zero p xs

past_all : {X : Type 0} (k : ℕ) (xs : List X) → length xs ≤ k → drop k xs ≡ []
past_all zero [] le = refl
past_all zero (x ∷ xs) le = absurd (omega arith)
past_all (suc k) [] le = refl
past_all (suc k) (x ∷ xs) le = past_all k xs (omega arith)

pub looked_all : {X : Type 0} (p : X → Bool) (xs : List X) (k : ℕ) → length xs ≤ k → position p xs ≡ position_from p k (drop k xs) → position p xs ≡ None
looked_all p xs k le so_far = so_far ∙ ap (position_from p k) (past_all k xs le)

-- ---- whether any passes
pub any_step : {X : Type 0} (p : X → Bool) (xs : List X) (k : ℕ) (d : X) → k < length xs → list_any p (drop k xs) ≡ (p (get_or xs k d) || list_any p (drop (k + 1) xs))
any_step p xs k d lt =
    let next : suc k ≡ k + 1 = omega arith in
    ap (list_any p) (drop-cons xs k d lt) ∙ ap (λ n. p (get_or xs k d) || list_any p (drop n xs)) next

pub any_found : {X : Type 0} (p : X → Bool) (xs : List X) (k : ℕ) (d : X) (t : Bool) → k < length xs → list_any p xs ≡ list_any p (drop k xs) → t ≡ p (get_or xs k d) → t ≡ true → list_any p xs ≡ true
any_found p xs k d t lt so_far is told = so_far ∙ any_step p xs k d lt ∙ ap (λ b. b || list_any p (drop (k + 1) xs)) (sym is ∙ told)

pub any_passed : {X : Type 0} (p : X → Bool) (xs : List X) (k : ℕ) (d : X) (t : Bool) → k < length xs → list_any p xs ≡ list_any p (drop k xs) → t ≡ p (get_or xs k d) → t ≡ false → list_any p xs ≡ list_any p (drop (k + 1) xs)
any_passed p xs k d t lt so_far is told = so_far ∙ any_step p xs k d lt ∙ ap (λ b. b || list_any p (drop (k + 1) xs)) (sym is ∙ told)

pub any_none : {X : Type 0} (p : X → Bool) (xs : List X) (k : ℕ) → length xs ≤ k → list_any p xs ≡ list_any p (drop k xs) → list_any p xs ≡ false
any_none p xs k le so_far = so_far ∙ ap (list_any p) (past_all k xs le)

-- ---- the limits, in their order
abbrev pub uneven : MadeSheet → Bool
uneven sheet = not (is_slot_count (slot_count sheet))

abbrev pub lacks : ℕ → MadeSheet → Bool
lacks pages sheet = list_any (lacks_page pages) sheet.slots

abbrev pages_tested : ℕ → List MadeSheet → Result (List MadeSheet) MadeFault
pages_tested pages all = refuse_at (position (lacks pages) all) MadeNoSuchPage (Ok all)

abbrev places_tested : ℕ → List MadeSheet → Result (List MadeSheet) MadeFault
places_tested pages all = refuse_if (nat_lt 4_000_000 (sum_by slot_count all)) MadeTooManyPlaces (pages_tested pages all)

abbrev slots_tested : ℕ → List MadeSheet → Result (List MadeSheet) MadeFault
slots_tested pages all = refuse_at (position uneven all) MadeSlotsOutOfRange (places_tested pages all)

abbrev sheets_tested : ℕ → List MadeSheet → Result (List MadeSheet) MadeFault
sheets_tested pages all = refuse_if (nat_lt 1_000_000 (length all)) MadeTooManySheets (slots_tested pages all)

stopped : {A : Type 0} (o : Option ℕ) (s : ℕ) (fault : ℕ → MadeFault) (next : Result A MadeFault) → o ≡ Some s → refuse_at o fault next ≡ Err (fault s)
stopped o s fault next e = ap (λ p. refuse_at p fault next) e

going : {A : Type 0} (o : Option ℕ) (fault : ℕ → MadeFault) (next : Result A MadeFault) → o ≡ None → refuse_at o fault next ≡ next
going o fault next e = ap (λ p. refuse_at p fault next) e

pub pages_pass : (pages : ℕ) (all : List MadeSheet) → pages ≤ 1_000_000 → made_plan_of pages all ≡ sheets_tested pages all
pages_pass pages all le = passed (nat_lt 1_000_000 pages) MadeTooManyPages (sheets_tested pages all) (within 1_000_000 pages le)

sheets_pass : (pages : ℕ) (all : List MadeSheet) → length all ≤ 1_000_000 → sheets_tested pages all ≡ slots_tested pages all
sheets_pass pages all le = passed (nat_lt 1_000_000 (length all)) MadeTooManySheets (slots_tested pages all) (within 1_000_000 (length all) le)

slots_pass : (pages : ℕ) (all : List MadeSheet) → position uneven all ≡ None → slots_tested pages all ≡ places_tested pages all
slots_pass pages all e = going (position uneven all) MadeSlotsOutOfRange (places_tested pages all) e

places_pass : (pages : ℕ) (all : List MadeSheet) → sum_by slot_count all ≤ 4_000_000 → places_tested pages all ≡ pages_tested pages all
places_pass pages all le = passed (nat_lt 4_000_000 (sum_by slot_count all)) MadeTooManyPlaces (pages_tested pages all) (within 4_000_000 (sum_by slot_count all) le)

pub too_many_sheets : (pages : ℕ) (all : List MadeSheet) → pages ≤ 1_000_000 → 1_000_000 < length all → made_plan_of pages all ≡ Err MadeTooManySheets
too_many_sheets pages all le lt = pages_pass pages all le ∙ refused (nat_lt 1_000_000 (length all)) MadeTooManySheets (slots_tested pages all) (above 1_000_000 (length all) lt)

pub slots_out : (pages : ℕ) (all : List MadeSheet) (s : ℕ) → pages ≤ 1_000_000 → length all ≤ 1_000_000 → position uneven all ≡ Some s → made_plan_of pages all ≡ Err (MadeSlotsOutOfRange s)
slots_out pages all s le few e = pages_pass pages all le ∙ sheets_pass pages all few ∙ stopped (position uneven all) s MadeSlotsOutOfRange (places_tested pages all) e

pub too_many_places : (pages : ℕ) (all : List MadeSheet) → pages ≤ 1_000_000 → length all ≤ 1_000_000 → position uneven all ≡ None → 4_000_000 < sum_by slot_count all → made_plan_of pages all ≡ Err MadeTooManyPlaces
too_many_places pages all le few even lt = pages_pass pages all le ∙ sheets_pass pages all few ∙ slots_pass pages all even ∙ refused (nat_lt 4_000_000 (sum_by slot_count all)) MadeTooManyPlaces (pages_tested pages all) (above 4_000_000 (sum_by slot_count all) lt)

pub accepted : (pages : ℕ) (all : List MadeSheet) → pages ≤ 1_000_000 → length all ≤ 1_000_000 → position uneven all ≡ None → sum_by slot_count all ≤ 4_000_000 → position (lacks pages) all ≡ None → made_plan_of pages all ≡ Ok all
accepted pages all le few even fit there = pages_pass pages all le ∙ sheets_pass pages all few ∙ slots_pass pages all even ∙ places_pass pages all fit ∙ going (position (lacks pages) all) MadeNoSuchPage (Ok all) there

-- ---- what was accepted
taken_if : {A : Type 0} (b : Bool) (fault : MadeFault) (next : Result A MadeFault) (x : A) → refuse_if b fault next ≡ Ok x → (b ≡ false) × (next ≡ Ok x)
taken_if true fault next x e = (cc, cc)
taken_if false fault next x e = (refl, e)

taken_at : {A : Type 0} (o : Option ℕ) (fault : ℕ → MadeFault) (next : Result A MadeFault) (x : A) → refuse_at o fault next ≡ Ok x → (o ≡ None) × (next ≡ Ok x)
taken_at None fault next x e = (refl, e)
taken_at (Some s) fault next x e = (cc, cc)

at_most : (a b : ℕ) → nat_lt a b ≡ false → b ≤ a
at_most a b e = grind (arith, nat_tests)

pub record IsWithin (pages : ℕ) (all : List MadeSheet) : Type 0 where
  pub few_pages : pages ≤ 1_000_000
  pub few_sheets : length all ≤ 1_000_000
  pub even : position uneven all ≡ None
  pub few_places : sum_by slot_count all ≤ 4_000_000
  pub there : position (lacks pages) all ≡ None

pub within_limits : (pages : ℕ) (all : List MadeSheet) → made_plan_of pages all ≡ Ok all → IsWithin pages all
within_limits pages all e =
    let one = taken_if (nat_lt 1_000_000 pages) MadeTooManyPages (sheets_tested pages all) all e in
    let two = taken_if (nat_lt 1_000_000 (length all)) MadeTooManySheets (slots_tested pages all) all one.1 in
    let three = taken_at (position uneven all) MadeSlotsOutOfRange (places_tested pages all) all two.1 in
    let four = taken_if (nat_lt 4_000_000 (sum_by slot_count all)) MadeTooManyPlaces (pages_tested pages all) all three.1 in
    let five = taken_at (position (lacks pages) all) MadeNoSuchPage (Ok all) all four.1 in
    record {
      few_pages = at_most 1_000_000 pages one.0;
      few_sheets = at_most 1_000_000 (length all) two.0;
      even = three.0;
      few_places = at_most 4_000_000 (sum_by slot_count all) four.0;
      there = five.0;
    }

-- ---- the plan's sheets
abbrev pub no_sheet : MadeSheet
no_sheet = record { paper = points 1 1; slots = [] }

map_map : {X Y Z : Type 0} (f : Y → Z) (h : X → Y) (xs : List X) → map f (map h xs) ≡ map (λ x. f (h x)) xs
map_map f h [] = refl
map_map f h (x ∷ xs) = ap (λ ys. f (h x) ∷ ys) (map_map f h xs)

pub slots_are : (all : List MadeSheet) (s : ℕ) → s < length all → slots_at all s ≡ (get_or all s no_sheet).slots
slots_are all s lt = get_or-map (λ (sheet : MadeSheet). sheet.slots) all s no_sheet [] lt

pub plan_len : (pages : ℕ) (all : List MadeSheet) → length (made_plan pages all).sheets ≡ length all
plan_len pages all = length-map all (λ sheet. map slot_in sheet.slots)

rows_are : (all : List MadeSheet) (s : ℕ) → slice_index_or (map (λ (sheet : MadeSheet). map slot_in sheet.slots) all) s [] ≡ map slot_in (slots_at all s)
rows_are [] s = refl
rows_are (x ∷ xs) zero = refl
rows_are (x ∷ xs) (suc s) = rows_are xs s

layouts_are : (rows : List (List Slot)) (s : ℕ) → slice_index_or (map (λ slots. map (λ (slot : Slot). slot.page) slots) rows) s [] ≡ map (λ (slot : Slot). slot.page) (slice_index_or rows s [])
layouts_are [] s = refl
layouts_are (x ∷ xs) zero = refl
layouts_are (x ∷ xs) (suc s) = layouts_are xs s

pub pages_are : (pages : ℕ) (all : List MadeSheet) (s : ℕ) → pages_on (made_plan pages all) s ≡ map page_of (slots_at all s)
pages_are pages all s =
    layouts_are (map (λ sheet. map slot_in sheet.slots) all) s
    ∙ ap (map (λ (slot : Slot). slot.page)) (rows_are all s)
    ∙ map_map (λ (slot : Slot). slot.page) slot_in (slots_at all s)

pub items_are : (pages : ℕ) (all : List MadeSheet) (s : ℕ) → items_on (made_plan pages all) s ≡ map item_in (slots_at all s)
items_are pages all s = ap (map (λ (slot : Slot). slot.item)) (rows_are all s) ∙ map_map (λ (slot : Slot). slot.item) slot_in (slots_at all s)

pub layout_is : (pages : ℕ) (all : List MadeSheet) → layout (made_plan pages all) ≡ made_layout pages all
layout_is pages all = ap (λ rows. record { pages = pages; sheets = rows }) (each all)
  where
    each : (all : List MadeSheet) → map (λ slots. map (λ (slot : Slot). slot.page) slots) (map (λ (sheet : MadeSheet). map slot_in sheet.slots) all) ≡ map (λ (sheet : MadeSheet). map page_of sheet.slots) all
    each [] = refl
    each (x ∷ xs) = ap (λ row. row ∷ map (λ slots. map (λ (slot : Slot). slot.page) slots) (map (λ (sheet : MadeSheet). map slot_in sheet.slots) xs)) (map_map (λ (slot : Slot). slot.page) slot_in x.slots) ∙ ap (λ rows. map page_of x.slots ∷ rows) (each xs)

sum_is : (all : List MadeSheet) → sum_by length (map (λ (sheet : MadeSheet). map slot_in sheet.slots) all) ≡ sum_by slot_count all
sum_is [] = refl
sum_is (x ∷ xs) =
    let a = sum_by-cons length (map slot_in x.slots) (map (λ (sheet : MadeSheet). map slot_in sheet.slots) xs) in
    let b = sum_by-cons slot_count x xs in
    let l = length-map x.slots slot_in in
    let r = sum_is xs in
    omega arith

-- ---- they keep to the limits of a plan
first_false : (a b : Bool) → (a || b) ≡ false → (a ≡ false) × (b ≡ false)
first_false true b e = (e, cc)
first_false false b e = (refl, e)

in_range : (n : ℕ) → not (nat_le 1 n && nat_le n 4_096) ≡ false → (0 < n) × (n ≤ 4_096)
in_range n e = (grind (arith, nat_tests), grind (arith, nat_tests))

below_limit : (n p : ℕ) → nat_le n p ≡ false → p < n
below_limit n p e = grind (arith, nat_tests)

slot_paged : (n p : ℕ) (slot : MadeSlot) → lacks_page n slot ≡ false → page_of slot ≡ Some p → p < n
slot_paged n p Blank e is = absurd (none-some p is)
slot_paged n p (Placed q item paper) e is = subst (λ k. k < n) (same_Some q p is) (below_limit n q e)

slots_paged : (n k p : ℕ) (slots : List MadeSlot) → list_any (lacks_page n) slots ≡ false → slice_get (map page_of slots) k ≡ Some (Some p) → p < n
slots_paged n k p [] e at = absurd (none-some (Some p) at)
slots_paged n zero p (x ∷ xs) e at = slot_paged n p x (first_false (lacks_page n x) (list_any (lacks_page n) xs) e).0 (same_Some (page_of x) (Some p) at)
slots_paged n (suc k) p (x ∷ xs) e at = slots_paged n k p xs (first_false (lacks_page n x) (list_any (lacks_page n) xs) e).1 at

pub sound_made : (pages : ℕ) (all : List MadeSheet) → made_plan_of pages all ≡ Ok all → IsSound (made_plan pages all)
sound_made pages all e =
    let w = within_limits pages all e in
    let len = plan_len pages all in
    record {
      few_pages = w.few_pages;
      few_sheets = let f = w.few_sheets in omega arith;
      few_places = let f = w.few_places in let s = sum_is all in omega arith;
      few_slots = λ s lt.
          let lt' : s < length all = omega arith in
          let row = ap length (pages_are pages all s) ∙ length-map (slots_at all s) page_of ∙ ap length (slots_are all s lt') in
          let range = in_range (length (get_or all s no_sheet).slots) (none_passes uneven all w.even s no_sheet lt') in
          let low = range.0 in
          let high = range.1 in
          (omega arith, omega arith);
      paged = λ s k p lt at.
          let lt' : s < length all = omega arith in
          slots_paged pages k p (get_or all s no_sheet).slots (none_passes (lacks pages) all w.there s no_sheet lt')
          (ap (λ xs. slice_get (map page_of xs) k) (sym (slots_are all s lt')) ∙ ap (λ xs. slice_get xs k) (sym (pages_are pages all s)) ∙ at);
    }

-- ---- what is read from it
pub row_len : (pages : ℕ) (all : List MadeSheet) (s : ℕ) → length (pages_on (made_plan pages all) s) ≡ length (slots_at all s)
row_len pages all s = ap length (pages_are pages all s) ∙ length-map (slots_at all s) page_of

pub page_read : (pages : ℕ) (all : List MadeSheet) (plan : Plan) (s k : ℕ) (slot : MadeSlot) → made_plan pages all ≡ plan → slice_get (slots_at all s) k ≡ Some slot → slice_get (pages_on plan s) k ≡ Some (page_of slot)
page_read pages all plan s k slot view at =
    ap (λ p. slice_get (pages_on p s) k) (sym view) ∙ ap (λ xs. slice_get xs k) (pages_are pages all s) ∙ slice_get-map page_of (slots_at all s) k ∙ ap (option_map page_of) at

pub item_read : (pages : ℕ) (all : List MadeSheet) (plan : Plan) (s k : ℕ) (slot : MadeSlot) → made_plan pages all ≡ plan → slice_get (slots_at all s) k ≡ Some slot → slice_get (items_on plan s) k ≡ Some (item_in slot)
item_read pages all plan s k slot view at =
    ap (λ p. slice_get (items_on p s) k) (sym view) ∙ ap (λ xs. slice_get xs k) (items_are pages all s) ∙ slice_get-map item_in (slots_at all s) k ∙ ap (option_map item_in) at

pub slot_made : (pages : ℕ) (all : List MadeSheet) (plan : Plan) (s k : ℕ) → made_plan pages all ≡ plan → k < length (pages_on plan s) → k < length (slots_at all s)
slot_made pages all plan s k view lt = let e = ap (λ (p : Plan). length (pages_on p s)) view in let l = row_len pages all s in omega arith
