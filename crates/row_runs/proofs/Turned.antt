-- Sheets whose pages are moved and turned pass the limits that they pass before.
use Rattle.std.proofs.Common.{◌≡◌, ◌∙◌, ℕ, suc, ◌+◌, Bool, true, false, List, [], ◌∷◌, Option, Some, None, Ok, Err, ap, ap₂, refl, sym, length, map}
use Rattle.std.specs.Prelude.{⊤, Result, not, nat_lt, sum_by, position}
use Rattle.std.specs.List.{list_any, position_from}
use Rattle.std.proofs.lemmas.Iterator.Adapters.{position_from-zero}
use Rattle.std.proofs.lemmas.List.{length-map}
use Rattle.std.proofs.lemmas.List.Sums.{sum_by-cons}
use Rattle.rules.specs.Run.{most_pages, most_places, most_sheets, refuse_if}
use Rattle.rules.specs.Specification.{Turn}
use Rattle.rules.specs.Made.{MadeSheet, MadeSlot, Blank, Placed}
use Rattle.rules.specs.MadePlans.{MadeFault, MadeNoSuchPage, MadeSlotsOutOfRange, MadeTooManyPages, MadeTooManyPlaces, MadeTooManySheets, lacks_page, is_slot_count, refuse_at, slot_count}
use Rattle.layouts.specs.Placed.{Room}
use Rattle.row_runs.specs.SwappedMargins.{swapped_room_on, swapped, swapped_from, moved_sheet, moved_slot}
use Rattle.row_runs.specs.Turning.{turned_sheet, turned_slot}
use Rattle.sheet_plan.specs.MadeRefusals.{RefusesMade}
use Rattle.sheet_plan.specs.declared.error.MadeError.{MadeError}
use Rattle.sheet_plan.specs.declared.error.MadeError.TheVariants as error

-- a sheet has as many slots as another, and lacks a page if that one does
record IsAlike (one other : MadeSheet) : Type 0 where
  pub many : slot_count one ≡ slot_count other
  pub lacks : (pages : ℕ) → list_any (lacks_page pages) one.slots ≡ list_any (lacks_page pages) other.slots

abbrev Alike : List MadeSheet → List MadeSheet → Type 0
Alike [] [] = ⊤
Alike [] (y ∷ ys) = ⊥
Alike (x ∷ xs) [] = ⊥
Alike (x ∷ xs) (y ∷ ys) = IsAlike x y × Alike xs ys

as_many : (xs ys : List MadeSheet) → Alike xs ys → length xs ≡ length ys
as_many [] [] h = refl
as_many [] (y ∷ ys) h = absurd h
as_many (x ∷ xs) [] h = absurd h
as_many (x ∷ xs) (y ∷ ys) h = ap suc (as_many xs ys h.1)

first_same : (p : MadeSheet → Bool) → ((x y : MadeSheet) → IsAlike x y → p x ≡ p y) → (i : ℕ) (xs ys : List MadeSheet) → Alike xs ys → position_from p i xs ≡ position_from p i ys
first_same p same i [] [] h = refl
first_same p same i [] (y ∷ ys) h = absurd h
first_same p same i (x ∷ xs) [] h = absurd h
first_same p same i (x ∷ xs) (y ∷ ys) h = rw (same x y h.0, first_same p same (i + 1) xs ys h.1) refl

first_too : (p : MadeSheet → Bool) → ((x y : MadeSheet) → IsAlike x y → p x ≡ p y) → (xs ys : List MadeSheet) → Alike xs ys → position p xs ≡ position p ys
first_too p same xs ys h = position_from-zero p xs ∙ first_same p same 0 xs ys h ∙ sym (position_from-zero p ys)

sum_same : (xs ys : List MadeSheet) → Alike xs ys → sum_by slot_count xs ≡ sum_by slot_count ys
sum_same [] [] h = refl
sum_same [] (y ∷ ys) h = absurd h
sum_same (x ∷ xs) [] h = absurd h
sum_same (x ∷ xs) (y ∷ ys) h =
    sum_by-cons slot_count x xs ∙ ap₂ (λ (a b : ℕ). a + b) h.0.many (sum_same xs ys h.1) ∙ sym (sum_by-cons slot_count y ys)

-- the checks of a plan in their order
abbrev checked : Bool → Bool → Option ℕ → Bool → Option ℕ → List MadeSheet → Result (List MadeSheet) MadeFault
checked pages sheets uneven places missing all =
    refuse_if pages MadeTooManyPages
    (refuse_if sheets MadeTooManySheets
    (refuse_at uneven MadeSlotsOutOfRange (refuse_if places MadeTooManyPlaces (refuse_at missing MadeNoSuchPage (Ok all)))))

fails_too : (c d : Bool) (u : Option ℕ) (e : Bool) (m : Option ℕ) (all other : List MadeSheet) (fault : MadeFault) → checked c d u e m all ≡ Err fault → checked c d u e m other ≡ Err fault
fails_too true d u e m all other fault h = h
fails_too false true u e m all other fault h = h
fails_too false false (Some k) e m all other fault h = h
fails_too false false None true m all other fault h = h
fails_too false false None false (Some k) all other fault h = h
fails_too false false None false None all other fault h = cc

passes_too : (c d : Bool) (u : Option ℕ) (e : Bool) (m : Option ℕ) (all other : List MadeSheet) → checked c d u e m all ≡ Ok all → checked c d u e m other ≡ Ok other
passes_too true d u e m all other h = cc
passes_too false true u e m all other h = cc
passes_too false false (Some k) e m all other h = cc
passes_too false false None true m all other h = cc
passes_too false false None false (Some k) all other h = cc
passes_too false false None false None all other h = refl

-- what is checked of sheets is what is checked of those that are alike
same_checks : (pages : ℕ) (xs ys other : List MadeSheet) → Alike xs ys
    → checked (nat_lt most_pages pages) (nat_lt most_sheets (length xs)) (position (λ s. not (is_slot_count (slot_count s))) xs) (nat_lt most_places (sum_by slot_count xs)) (position (λ s. list_any (lacks_page pages) s.slots) xs) other
    ≡ checked (nat_lt most_pages pages) (nat_lt most_sheets (length ys)) (position (λ s. not (is_slot_count (slot_count s))) ys) (nat_lt most_places (sum_by slot_count ys)) (position (λ s. list_any (lacks_page pages) s.slots) ys) other
same_checks pages xs ys other h =
    let uneven = first_too (λ s. not (is_slot_count (slot_count s))) (λ x y alike. ap (λ n. not (is_slot_count n)) alike.many) xs ys h in
    let missing = first_too (λ s. list_any (lacks_page pages) s.slots) (λ x y alike. alike.lacks pages) xs ys h in
    ap (λ (n : ℕ). checked (nat_lt most_pages pages) (nat_lt most_sheets n) (position (λ s. not (is_slot_count (slot_count s))) xs) (nat_lt most_places (sum_by slot_count xs)) (position (λ s. list_any (lacks_page pages) s.slots) xs) other) (as_many xs ys h)
    ∙ ap (λ (u : Option ℕ). checked (nat_lt most_pages pages) (nat_lt most_sheets (length ys)) u (nat_lt most_places (sum_by slot_count xs)) (position (λ s. list_any (lacks_page pages) s.slots) xs) other) uneven
    ∙ ap (λ (n : ℕ). checked (nat_lt most_pages pages) (nat_lt most_sheets (length ys)) (position (λ s. not (is_slot_count (slot_count s))) ys) (nat_lt most_places n) (position (λ s. list_any (lacks_page pages) s.slots) xs) other) (sum_same xs ys h)
    ∙ ap (λ (m : Option ℕ). checked (nat_lt most_pages pages) (nat_lt most_sheets (length ys)) (position (λ s. not (is_slot_count (slot_count s))) ys) (nat_lt most_places (sum_by slot_count ys)) m other) missing

refused_too : (pages : ℕ) (xs ys : List MadeSheet) (e : MadeError) → Alike xs ys → RefusesMade pages ys e → RefusesMade pages xs e
refused_too pages xs ys error.TooManyPages a h = same_checks pages xs ys xs a ∙ fails_too _ _ _ _ _ ys xs _ h
refused_too pages xs ys error.TooManySheets a h = same_checks pages xs ys xs a ∙ fails_too _ _ _ _ _ ys xs _ h
refused_too pages xs ys (error.SlotsOutOfRange sheet) a h = same_checks pages xs ys xs a ∙ fails_too _ _ _ _ _ ys xs _ h
refused_too pages xs ys error.TooManyPlaces a h = same_checks pages xs ys xs a ∙ fails_too _ _ _ _ _ ys xs _ h
refused_too pages xs ys (error.NoSuchPage sheet) a h = same_checks pages xs ys xs a ∙ fails_too _ _ _ _ _ ys xs _ h
refused_too pages xs ys error.NoMemory a h = same_checks pages xs ys xs a ∙ passes_too _ _ _ _ _ ys xs h

-- ---- moved and turned

any_same : (pages : ℕ) (f : MadeSlot → MadeSlot) → ((slot : MadeSlot) → lacks_page pages (f slot) ≡ lacks_page pages slot) → (slots : List MadeSlot)
    → list_any (lacks_page pages) (map f slots) ≡ list_any (lacks_page pages) slots
any_same pages f same [] = refl
any_same pages f same (slot ∷ slots) = rw (same slot, any_same pages f same slots) refl

turned_lacks : (t : ℕ → Turn) (pages : ℕ) (slot : MadeSlot) → lacks_page pages (turned_slot t slot) ≡ lacks_page pages slot
turned_lacks t pages Blank = refl
turned_lacks t pages (Placed page item paper) = refl

moved_lacks : (m : Option Room) (pages : ℕ) (slot : MadeSlot) → lacks_page pages (moved_slot m slot) ≡ lacks_page pages slot
moved_lacks m pages Blank = refl
moved_lacks m pages (Placed page item paper) = refl

is_alike : (t : ℕ → Turn) (m : Option Room) (sheet : MadeSheet) → IsAlike (turned_sheet t (moved_sheet m sheet)) sheet
is_alike t m sheet = record {
  many = length-map (map (moved_slot m) sheet.slots) (turned_slot t) ∙ length-map sheet.slots (moved_slot m);
  lacks = λ pages. any_same pages (turned_slot t) (turned_lacks t pages) (map (moved_slot m) sheet.slots)
      ∙ any_same pages (moved_slot m) (moved_lacks m pages) sheet.slots;
}

are_alike : (t : ℕ → Turn) (m : Option Room) (s : ℕ) (all : List MadeSheet) → Alike (map (turned_sheet t) (swapped_from m s all)) all
are_alike t m s [] = tt
are_alike t m s (sheet ∷ all) = (is_alike t (swapped_room_on m s) sheet, are_alike t m (s + 1) all)

pub turned_refused : (t : ℕ → Turn) (m : Option Room) (pages : ℕ) (all : List MadeSheet) (e : MadeError) → RefusesMade pages all e
    → RefusesMade pages (map (turned_sheet t) (swapped m all)) e
turned_refused t m pages all e h = refused_too pages _ all e (are_alike t m 0 all) h
