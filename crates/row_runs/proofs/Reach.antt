-- Places that can be written once pages are moved and turned.
use Rattle.std.proofs.Common.{arith, inl, inr, ◌⊎◌, ◌≡◌, ◌∙◌, ℕ, zero, suc, ◌+◌, ◌<◌, ◌≤◌, ◌^◌, Bool, true, false, true≢false, List, [], ◌∷◌, Option, Some, ap, ap₂, refl, sym, subst, length, take, FitsSigned, to_z, of_z}
use Rattle.std.specs.Prelude.{ℤ, pos, nat_abs, ◌%◌, ◌==◌, ◌&&◌, if◌then◌else◌, IsOk, None, slice_get}
use Rattle.std.specs.List.{list_all}
use Rattle.std.proofs.lemmas.Bool.{false_from_ne_true, leb-true}
use Rattle.std.proofs.lemmas.Bool.Decides.{nat_tests}
use Rattle.std.proofs.lemmas.Int.{ints, to_z-of_z}
use Rattle.std.proofs.lemmas.Option.{none-some, same_Some}
use mir.Syntax.{w64}
use Rattle.rules.specs.Numbers.{greatest_number}
use Rattle.rules.specs.Papers.{Paper}
use Rattle.rules.specs.Placement.{Point, turned}
use Rattle.rules.specs.Run.{most_pages, most_sheets}
use Rattle.rules.specs.Specification.{Item, Measure, Turn, Upright, Left, Half, Right}
use Rattle.lengths.specs.Ranges.{FitsNumber}
use Rattle.layouts.specs.Placed.{Room}
use Rattle.rules.specs.Made.{MadeSheet, MadeSlot}
use Rattle.pagespec.specs.declared.item.Turn.{Turn as PageTurn}
use Rattle.sheet_plan.specs.OfSheets.{slots_at}
use Rattle.sheet_plan.specs.declared.error.MadeError.TheVariants as plan
use Rattle.sheet_plan.proofs.Accepted.{too_many_sheets}
use Rattle.row_runs.specs.SwappedMargins.{swapped_room_on}
use Rattle.row_runs.specs.Reaching.{IsNotReached, are_reached, are_reached_from, is_changed, is_writable_offset, is_slot_reached}
use Rattle.row_runs.specs.Turning.{turn_on, turn_sum, turned_corner, shifted, scaled_length, turned_item}
use Rattle.row_runs.specs.Numbers.{are_numbers_reached}
use Rattle.row_runs.specs.Runs.{RefusesRun, are_laid_in_reach, have_numbers_in_reach, swapped_room_for, page_count}
use Rattle.row_runs.specs.Sheets.{AreAsked}
use Rattle.row_runs.specs.declared.error.SheetError.{SheetError}
use Rattle.row_runs.specs.declared.error.SheetError.TheVariants as error
use Rattle.row_runs.specs.declared.run.RowJob.{RowJob}
use Rattle.row_runs.proofs.Turned.{turned_refused}
use Rattle.row_runs.proofs.Turns.{item_at, item_is, no_farther, none_on, nowhere, point}

-- ---- one offset

pub is_near_if : (m : Measure) → FitsNumber m.number → is_writable_offset m ≡ true
is_near_if m fits = grind (arith, nat_tests)

pub is_far_if : (m : Measure) → (FitsNumber m.number → ⊥) → is_writable_offset m ≡ false
is_far_if m never = false_from_ne_true (is_writable_offset m) (λ is. never (leb-true (nat_abs m.number) greatest_number is))

-- ---- what isn't changed

pub unchanged_turn : (t : List PageTurn) (m : Option Room) (page : ℕ) → is_changed t m ≡ false → turn_on t page ≡ Upright
unchanged_turn [] m page e = none_on page
unchanged_turn (turn ∷ t) m page e = absurd (true≢false e)

one_or_none : (b : Bool) → is_changed [] (if b then None else None) ≡ false
one_or_none true = refl
one_or_none false = refl

-- on no sheet
pub unchanged_on : (t : List PageTurn) (m : Option Room) (s : ℕ) → is_changed t m ≡ false → is_changed t (swapped_room_on m s) ≡ false
unchanged_on [] None s e = one_or_none (s % 2 == 1)
unchanged_on [] (Some room) s e = absurd (true≢false e)
unchanged_on (turn ∷ t) m s e = absurd (true≢false e)

pub changed_if : (c b : Bool) → b ≡ false → (c ≡ false → b ≡ true) → c ≡ true
changed_if true b is never = refl
changed_if false b is never = absurd (true≢false (sym (never refl) ∙ is))

-- what is moved on backs alone is changed if pages are turned too
pub changed_more : (t : List PageTurn) (m : Option Room) → is_changed [] m ≡ true → is_changed t m ≡ true
changed_more [] m e = e
changed_more (turn ∷ t) m e = refl

-- ---- one item

abbrev pub word : ℤ → ℤ
word z = to_z w64 (of_z w64 z)

abbrev pub IsSmall : ℤ → Type 0
IsSmall z = nat_abs z ≤ 10 ^ 17

word_is : (z : ℤ) → IsSmall z → word z ≡ z
word_is z small = let fits : FitsSigned w64 z = omega (arith, ints, small) in simp to_z-of_z

-- the parts of an item that is turned, as its function counts them
pub turned_is : (turn : Turn) (paper : Paper) (item : Item) (w h a b x y : ℤ) (t : Turn) (mx my : Measure)
    → IsSmall w → IsSmall h → IsSmall a → IsSmall b → IsSmall x → IsSmall y
    → w ≡ pos (scaled_length item.scale paper.width) → h ≡ pos (scaled_length item.scale paper.height)
    → a ≡ (turned_corner turn (word w) (word h)).x → b ≡ (turned_corner turn (word w) (word h)).y
    → x ≡ (turned item.turn (point (word a) (word b))).x → y ≡ (turned item.turn (point (word a) (word b))).y
    → t ≡ turn_sum turn item.turn → mx ≡ shifted (word x) item.x → my ≡ shifted (word y) item.y
    → item_at item.page item.from_end t item.scale mx my ≡ turned_item turn paper item
turned_is turn paper item w h a b x y t mx my w_small h_small a_small b_small x_small y_small w_is h_is a_is b_is x_is y_is t_is mx_is my_is =
    let in_w = word_is w w_small in
    let in_h = word_is h h_small in
    let in_a = word_is a a_small in
    let in_b = word_is b b_small in
    let in_x = word_is x x_small in
    let in_y = word_is y y_small in
    item_is turn paper item w h a b x y t mx my w_is h_is
    (a_is ∙ ap (λ (z : ℤ). (turned_corner turn z (word h)).x) in_w ∙ ap (λ (z : ℤ). (turned_corner turn w z).x) in_h)
    (b_is ∙ ap (λ (z : ℤ). (turned_corner turn z (word h)).y) in_w ∙ ap (λ (z : ℤ). (turned_corner turn w z).y) in_h)
    (x_is ∙ ap (λ (z : ℤ). (turned item.turn (point z (word b))).x) in_a ∙ ap (λ (z : ℤ). (turned item.turn (point a z)).x) in_b)
    (y_is ∙ ap (λ (z : ℤ). (turned item.turn (point z (word b))).y) in_a ∙ ap (λ (z : ℤ). (turned item.turn (point a z)).y) in_b)
    t_is
    (mx_is ∙ ap (λ (z : ℤ). shifted z item.x) in_x)
    (my_is ∙ ap (λ (z : ℤ). shifted z item.y) in_y)

-- what isn't turned isn't moved either
pub nowhere_upright : (turn t : Turn) (w h a b x y : ℤ) → a ≡ (turned_corner turn w h).x → b ≡ (turned_corner turn w h).y
    → x ≡ (turned t (point (word a) (word b))).x → y ≡ (turned t (point (word a) (word b))).y → turn ≡ Upright → (word x ≡ pos 0) × (word y ≡ pos 0)
nowhere_upright turn t w h a b x y a_is b_is x_is y_is up =
    let nothing = word_is (pos 0) (omega arith) in
    let in_a : word a ≡ pos 0 = ap word (a_is ∙ ap (λ k. (turned_corner k w h).x) up) ∙ nothing in
    let in_b : word b ≡ pos 0 = ap word (b_is ∙ ap (λ k. (turned_corner k w h).y) up) ∙ nothing in
    let at = ap₂ (λ p q. turned t (point p q)) in_a in_b ∙ nowhere t in
    (ap word (x_is ∙ ap (λ (p : Point). p.x) at) ∙ nothing, ap word (y_is ∙ ap (λ (p : Point). p.y) at) ∙ nothing)

-- what isn't moved isn't too far
pub unmoved_near : (by : ℤ) (m : Measure) → FitsNumber m.number → by ≡ pos 0 → is_writable_offset (shifted by m) ≡ true
unmoved_near by m fits none = ap is_writable_offset (no_farther by m none) ∙ is_near_if m fits

-- ---- all of a list

and_true : (a b : Bool) → a ≡ true → b ≡ true → (a && b) ≡ true
and_true a b is too = rw is too

and_false : (a b : Bool) → b ≡ false → (a && b) ≡ false
and_false true b is = is
and_false false b is = refl

left_of : (a b : Bool) → (a && b) ≡ true → a ≡ true
left_of true b is = refl
left_of false b is = is

right_of : (a b : Bool) → (a && b) ≡ true → b ≡ true
right_of true b is = is
right_of false b is = absurd (true≢false (sym is))

pub all_more : {X : Type 0} (p : X → Bool) (i : ℕ) (xs : List X) (x : X) → slice_get xs i ≡ Some x → list_all p (take i xs) ≡ true → p x ≡ true
    → list_all p (take (suc i) xs) ≡ true
all_more p i [] x at is too = absurd (none-some x at)
all_more p zero (y ∷ xs) x at is too = and_true (p y) true (ap p (same_Some y x at) ∙ too) refl
all_more p (suc i) (y ∷ xs) x at is too =
    and_true (p y) (list_all p (take (suc i) xs)) (left_of (p y) (list_all p (take i xs)) is) (all_more p i xs x at (right_of (p y) (list_all p (take i xs)) is) too)

pub not_all : {X : Type 0} (p : X → Bool) (i : ℕ) (xs : List X) (x : X) → slice_get xs i ≡ Some x → p x ≡ false → list_all p xs ≡ false
not_all p i [] x at never = absurd (none-some x at)
not_all p zero (y ∷ xs) x at never = rw (ap p (same_Some y x at) ∙ never) refl
not_all p (suc i) (y ∷ xs) x at never = and_false (p y) (list_all p xs) (not_all p i xs x at never)

pub one_of_all : {X : Type 0} (p : X → Bool) (i : ℕ) (xs : List X) (x : X) → slice_get xs i ≡ Some x → list_all p xs ≡ true → p x ≡ true
one_of_all p i [] x at is = absurd (none-some x at)
one_of_all p zero (y ∷ xs) x at is = ap p (sym (same_Some y x at)) ∙ left_of (p y) (list_all p xs) is
one_of_all p (suc i) (y ∷ xs) x at is = one_of_all p i xs x at (right_of (p y) (list_all p xs) is)

-- ---- all sheets

abbrev slots_reached : (ℕ → Turn) → Option Room → (s : ℕ) → List MadeSlot → Bool
slots_reached t m s slots = list_all (is_slot_reached t (swapped_room_on m s)) slots

more_reached : (t : ℕ → Turn) (m : Option Room) (s i : ℕ) (made : List MadeSheet) → i < length made → are_reached_from t m s (take i made) ≡ true
    → slots_reached t m (s + i) (slots_at made i) ≡ true → are_reached_from t m s (take (suc i) made) ≡ true
more_reached t m s i [] less is too = absurd (omega (arith, less))
more_reached t m s zero (x ∷ made) less is too =
    let here : s + 0 ≡ s = omega arith in
    and_true (slots_reached t m s x.slots) true (subst (λ n. slots_reached t m n x.slots ≡ true) here too) refl
more_reached t m s (suc i) (x ∷ made) less is too =
    let next : s + suc i ≡ (s + 1) + i = omega arith in
    let first = slots_reached t m s x.slots in
    let rest = are_reached_from t m (s + 1) (take i made) in
    and_true first (are_reached_from t m (s + 1) (take (suc i) made)) (left_of first rest is)
    (more_reached t m (s + 1) i made (omega (arith, less)) (right_of first rest is) (subst (λ n. slots_reached t m n (slots_at made i) ≡ true) next too))

pub sheet_reached : (t : ℕ → Turn) (m : Option Room) (i : ℕ) (made : List MadeSheet) → i < length made → are_reached t m (take i made) ≡ true
    → slots_reached t m i (slots_at made i) ≡ true → are_reached t m (take (i + 1) made) ≡ true
sheet_reached t m i made less is too =
    let next : suc i ≡ i + 1 = omega arith in
    let place : i ≡ 0 + i = omega arith in
    subst (λ n. are_reached t m (take n made) ≡ true) next
    (more_reached t m 0 i made less is (subst (λ n. slots_reached t m n (slots_at made i) ≡ true) place too))

one_not_reached : (t : ℕ → Turn) (m : Option Room) (s i : ℕ) (made : List MadeSheet) → i < length made → slots_reached t m (s + i) (slots_at made i) ≡ false
    → are_reached_from t m s made ≡ false
one_not_reached t m s i [] less never = absurd (omega (arith, less))
one_not_reached t m s zero (x ∷ made) less never =
    let here : s + 0 ≡ s = omega arith in
    rw (subst (λ n. slots_reached t m n x.slots ≡ false) here never) refl
one_not_reached t m s (suc i) (x ∷ made) less never =
    let next : s + suc i ≡ (s + 1) + i = omega arith in
    and_false (slots_reached t m s x.slots) (are_reached_from t m (s + 1) made)
    (one_not_reached t m (s + 1) i made (omega (arith, less)) (subst (λ n. slots_reached t m n (slots_at made i) ≡ false) next never))

pub not_reached : (t : ℕ → Turn) (m : Option Room) (i : ℕ) (made : List MadeSheet) → i < length made → slots_reached t m i (slots_at made i) ≡ false
    → are_reached t m made ≡ false
not_reached t m i made less never =
    let place : i ≡ 0 + i = omega arith in
    one_not_reached t m 0 i made less (subst (λ n. slots_reached t m n (slots_at made i) ≡ false) place never)

one_reached : (t : ℕ → Turn) (m : Option Room) (s i : ℕ) (made : List MadeSheet) → i < length made → are_reached_from t m s made ≡ true
    → slots_reached t m (s + i) (slots_at made i) ≡ true
one_reached t m s i [] less is = absurd (omega (arith, less))
one_reached t m s zero (x ∷ made) less is =
    let here : s ≡ s + 0 = omega arith in
    subst (λ n. slots_reached t m n x.slots ≡ true) here (left_of (slots_reached t m s x.slots) (are_reached_from t m (s + 1) made) is)
one_reached t m s (suc i) (x ∷ made) less is =
    let next : (s + 1) + i ≡ s + suc i = omega arith in
    subst (λ n. slots_reached t m n (slots_at made i) ≡ true) next
    (one_reached t m (s + 1) i made (omega (arith, less)) (right_of (slots_reached t m s x.slots) (are_reached_from t m (s + 1) made) is))

pub reached_at : (t : ℕ → Turn) (m : Option Room) (i : ℕ) (made : List MadeSheet) → i < length made → are_reached t m made ≡ true
    → slots_reached t m i (slots_at made i) ≡ true
reached_at t m i made less is =
    let place : 0 + i ≡ i = omega arith in
    subst (λ n. slots_reached t m n (slots_at made i) ≡ true) place (one_reached t m 0 i made less is)

-- ---- what a refusal says of a run

-- of the sheets that are laid
laid_too_far : (j : RowJob) (laid : List MadeSheet) (e : SheetError) → page_count j ≤ most_pages → AreAsked (page_count j) j.papers.now j.asked laid
    → IsNotReached j.turns.now (swapped_room_for j) laid e → RefusesRun j e
laid_too_far j laid (error.Sheets plan.TooManySheets) few asked h =
    (laid, asked, turned_refused (turn_on j.turns.now) (swapped_room_for j) (page_count j) laid plan.TooManySheets (too_many_sheets (page_count j) laid few h))
laid_too_far j laid (error.Sheets plan.TooManyPages) few asked h = absurd h
laid_too_far j laid (error.Sheets (plan.SlotsOutOfRange sheet)) few asked h = absurd h
laid_too_far j laid (error.Sheets plan.TooManyPlaces) few asked h = absurd h
laid_too_far j laid (error.Sheets (plan.NoSuchPage sheet)) few asked h = absurd h
laid_too_far j laid (error.Sheets plan.NoMemory) few asked h = absurd h
laid_too_far j laid error.OutOfReach few asked h = (h.0, laid, asked, rw h.2 refl)
laid_too_far j laid (error.Row e) few asked h = absurd h
laid_too_far j laid (error.Arrangement e) few asked h = absurd h
laid_too_far j laid (error.Poster e) few asked h = absurd h
laid_too_far j laid error.NoMemory few asked h = absurd h

-- the same by the numbers that a run counts
pub reach_refused : (j : RowJob) (n : ℕ) (m : Option Room) (laid : List MadeSheet) (e : SheetError) → n ≡ page_count j → m ≡ swapped_room_for j → n ≤ most_pages
    → AreAsked n j.papers.now j.asked laid → IsNotReached j.turns.now m laid e → RefusesRun j e
reach_refused j n m laid e count swap few asked h =
    laid_too_far j laid e (subst (λ k. k ≤ most_pages) count few) (subst (λ k. AreAsked k j.papers.now j.asked laid) count asked)
    (subst (λ r. IsNotReached j.turns.now r laid e) swap h)

-- ---- numbers

-- what a refusal of the numbers says of a run
pub numbers_refused : (j : RowJob) (n : ℕ) (m : Option Room) (laid : List MadeSheet) (e : SheetError) → n ≡ page_count j → m ≡ swapped_room_for j
    → AreAsked n j.papers.now j.asked laid
    → (e ≡ error.NoMemory) ⊎ ((e ≡ error.OutOfReach) × (is_changed [] m ≡ true) × (are_numbers_reached n j.papers.now j.asked m j.marks.numbers ≡ false)) → RefusesRun j e
numbers_refused j n m laid e count swap asked (inl none) =
    let same = subst (λ k. AreAsked k j.papers.now j.asked laid) count asked in
    subst (RefusesRun j) (sym none) (subst IsOk (sym same.is_chosen) refl)
numbers_refused j n m laid e count swap asked (inr far) =
    let same = subst (λ k. AreAsked k j.papers.now j.asked laid) count asked in
    let never = subst (λ k. are_numbers_reached (page_count j) j.papers.now j.asked k j.marks.numbers ≡ false) swap
    (subst (λ k. are_numbers_reached k j.papers.now j.asked m j.marks.numbers ≡ false) count far.2) in
    subst (RefusesRun j) (sym far.0) (
      changed_more j.turns.now (swapped_room_for j) (subst (λ k. is_changed [] k ≡ true) swap far.1),
      laid,
      same,
      and_false (are_laid_in_reach j laid) (have_numbers_in_reach j) never,
    )
