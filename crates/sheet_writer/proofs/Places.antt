-- What is in a sheet's place.
use Rattle.std.proofs.Common.{ℕ, suc, ◌+◌, ◌-◌, ◌<◌, ◌≤◌, ◌≡◌, ◌∙◌, sym, ap, subst, refl, Bool}
use Rattle.std.proofs.Common.{if◌then◌else◌, arith, zero, ◌%◌, true, false, true≢false, slice_set, [], ◌∷◌, List, Option, Some, None, length, slice_index_or, eq-eqb, ne_eqb}
use Rattle.std.specs.Prelude.{All, slice_get, is_some, IfSome, IsNone, MatchOption}
use Rattle.std.proofs.lemmas.Option.{slice_get_read, slice_get-get_or}
use Rattle.sheet_text.specs.Texts.{TextsView, sheets_of}
use Rattle.sheet_writer.specs.declared.reorder_buffer.Place.{Place}
use Rattle.sheet_writer.specs.Places.{buffer_place, in_place, is_of_sheet, is_nth, is_there}
use Rattle.sheet_writer.specs.declared.reorder_buffer.ReorderBuffer.{ReorderBuffer}
use Rattle.sheet_writer.specs.Places.{has_come, not_come}

-- one more sheet that didn't come
abbrev pub one_without : Bool → ℕ
one_without b = if b then 0 else 1

pub count_next : (early : ReorderBuffer) (first sheet counted : ℕ) → first ≤ sheet → counted ≡ not_come early first (sheet - first)
    → counted + one_without (has_come early sheet) ≡ not_come early first (sheet + 1 - first)
count_next early first sheet counted le is =
    let there : first + (sheet - first) ≡ sheet = omega (arith, le) in
    let one : one_without (has_come early sheet) ≡ one_without (has_come early (first + (sheet - first))) = ap (λ s. one_without (has_come early s)) (sym there) in
    let e : suc (sheet - first) ≡ sheet + 1 - first = omega (arith, le) in
    subst (λ k. counted + one_without (has_come early sheet) ≡ not_come early first k) e (omega (arith, one, is))

-- what is at this place
pub lies_at : (groups : List (Option TextsView)) (k : ℕ) (o : Option TextsView) (finished : TextsView) → k < length groups → o ≡ slice_index_or groups k o
    → o ≡ Some finished → slice_get groups k ≡ Some (Some finished)
lies_at groups k o finished lt is holds = slice_get_read groups (length groups) k o refl lt is ∙ ap (λ x. Some x) holds

-- whether the sheet came, if this is its place and what is there
pub comes_by : (early : ReorderBuffer) (sheet place : ℕ) (p : Place) (o : Option TextsView) (finished : TextsView)
    → place ≡ buffer_place early sheet → place < length early.places.items → p ≡ slice_index_or early.places.items place p
    → p.group < length early.groups.items → o ≡ slice_index_or early.groups.items p.group o → o ≡ Some finished
    → has_come early sheet ≡ is_of_sheet sheet (slice_get (sheets_of finished) p.nth)
comes_by early sheet place p o finished at lt is group_lt group_is holds =
    let its : slice_get early.places.items (buffer_place early sheet) ≡ Some p =
    ap (λ k. slice_get early.places.items k) (sym at) ∙ slice_get_read early.places.items (length early.places.items) place p refl lt is in
    let those = lies_at early.groups.items p.group o finished group_lt group_is holds in
    ap (λ x. is_there sheet early.groups.items x) its ∙ ap (λ x. is_nth sheet p.nth x) those

pub number_is : (sheet : ℕ) (at : Option ℕ) → at ≡ Some sheet → is_of_sheet sheet at ≡ true
number_is sheet at is = ap (λ x. is_of_sheet sheet x) is ∙ eq-eqb sheet sheet refl

pub number_is_not : (sheet : ℕ) (at : Option ℕ) → (at ≡ Some sheet → ⊥) → is_of_sheet sheet at ≡ false
number_is_not sheet None other = refl
number_is_not sheet (Some number) other = ne_eqb number sheet (λ same. other (ap (λ x. Some x) same))

-- the answer says whether it came
pub told_by : {X : Type 0} (o : Option X) (come : Bool) (sheet : ℕ) (at : Option ℕ) → come ≡ is_of_sheet sheet at
    → IfSome o (λ x. at ≡ Some sheet) → (IsNone o → at ≡ Some sheet → ⊥) → MatchOption o (come ≡ false) (λ x. come ≡ true)
told_by None come sheet at is found none = is ∙ number_is_not sheet at (none refl)
told_by (Some x) come sheet at is found none = is ∙ number_is sheet at found

-- what is in the place of a sheet, if that is free, or if it isn't
pub free_place : (early : ReorderBuffer) (sheet place : ℕ) (o : Option TextsView) → place ≡ buffer_place early sheet → place < length early.groups.items
    → o ≡ slice_index_or early.groups.items place o → in_place early sheet ≡ Some o
free_place early sheet place o at lt is =
    ap (λ k. slice_get early.groups.items k) (sym at) ∙ slice_get_read early.groups.items (length early.groups.items) place o refl lt is

-- a place that was filled, and the others
pub get_filled : {A : Type 0} (xs : List A) (k : ℕ) (x : A) → k < length xs → slice_get (slice_set xs k x) k ≡ Some x
get_filled [] k x lt = absurd (omega (arith, lt))
get_filled (y ∷ xs) zero x lt = refl
get_filled (y ∷ xs) (suc k) x lt = get_filled xs k x (omega (arith, lt))

pub length_filled : {A : Type 0} (xs : List A) (k : ℕ) (x : A) → length (slice_set xs k x) ≡ length xs
length_filled [] k x = refl
length_filled (y ∷ xs) zero x = refl
length_filled (y ∷ xs) (suc k) x = ap suc (length_filled xs k x)

get_other : {A : Type 0} (xs : List A) (k j : ℕ) (x : A) → (j ≡ k → ⊥) → slice_get (slice_set xs k x) j ≡ slice_get xs j
get_other [] k j x other = refl
get_other (y ∷ xs) zero zero x other = absurd (other refl)
get_other (y ∷ xs) zero (suc j) x other = refl
get_other (y ∷ xs) (suc k) zero x other = refl
get_other (y ∷ xs) (suc k) (suc j) x other = get_other xs k j x (λ same. other (ap suc same))

pub filled_place : (early : ReorderBuffer) (sheet place : ℕ) (finished : TextsView) {groups : List (Option TextsView)} → groups ≡ early.groups.items
    → place ≡ buffer_place early sheet → place < length early.groups.items
    → slice_get (slice_set groups place (Some finished)) (sheet % length (slice_set groups place (Some finished))) ≡ Some (Some finished)
filled_place early sheet place finished {groups} same at lt =
    let len : length (slice_set groups place (Some finished)) ≡ length early.groups.items = length_filled groups place (Some finished) ∙ ap (λ xs. length xs) same in
    let here : sheet % length (slice_set groups place (Some finished)) ≡ place = ap (λ n. sheet % n) len ∙ sym at in
    ap (λ k. slice_get (slice_set groups place (Some finished)) k) here ∙ get_filled groups place (Some finished) (subst (λ xs. place < length xs) (sym same) lt)

pub other_place : (groups before : List (Option TextsView)) (place k : ℕ) (x : Option TextsView) → groups ≡ before → (k ≡ place → ⊥)
    → slice_get (slice_set groups place x) k ≡ slice_get before k
other_place groups before place k x same other = get_other groups place k x other ∙ ap (λ xs. slice_get xs k) same

pub none_there : (o : Option TextsView) (other : TextsView) → is_some o ≡ false → Some o ≡ Some (Some other) → ⊥
none_there None other none there = cc (there)
none_there (Some x) other none there = true≢false none

-- this place exists, and is empty
pub is_free : (groups : List (Option TextsView)) (k : ℕ) (o : Option TextsView) → k < length groups → o ≡ slice_index_or groups k o
    → is_some o ≡ false → slice_get groups k ≡ Some None
is_free groups k None lt is none = slice_get_read groups (length groups) k None refl lt is
is_free groups k (Some x) lt is none = absurd (true≢false none)

pub all_are_free : (groups : List (Option TextsView)) → ((k : ℕ) (finished : TextsView) → slice_get groups k ≡ Some (Some finished) → ⊥)
    → All (λ group. group ≡ None) groups
all_are_free groups none k d lt = is_none_at (slice_index_or groups k d) refl
  where
    is_none_at : (group : Option TextsView) → slice_index_or groups k d ≡ group → slice_index_or groups k d ≡ None
    is_none_at None is = is
    is_none_at (Some finished) is = absurd (none k finished (slice_get-get_or groups k d lt ∙ ap (λ x. Some x) is))
