-- What is called for once is done once.
use Rattle.std.proofs.Common.{◌≡◌, ◌≢◌, ◌⊎◌, inl, inr, ⊎_elim, ℕ, zero, suc, ◌+◌, ◌<◌, ◌≤◌, ◌==◌, ◌&&◌, Bool, true, false, if◌then◌else◌, List, [], ◌∷◌, ◌++◌, length, map, refl, sym, ap, ◌∙◌, subst, arith, eq-eqb, ne_eqb}
use Rattle.std.specs.Prelude.{Option, Some, None, slice_get, slice_index_or}
use mathlib.Core.Logic.{dite}
use native.Mathlib.Decide.{ℕ_discrete}
use Rattle.rules.specs.Sheets.{Plan, Layout, layout}
use Rattle.rules.specs.Seats.{whole_share, total}
use Rattle.sheet_plan.specs.Places.{has_page, places_in, places_from, places_of}
use Rattle.sheet_plan.specs.Plans.{IsSound}
use Rattle.std.proofs.lemmas.List.{length-map}
use Rattle.gather_table.specs.Table.{TableState, slots, slots_on, start, with_mark, is_blank_slot}
use Rattle.gather_table.specs.History.{Entry, Publish, Mark, Look, PageAt, CloseGroup, LookGroup, after, after_all}
use Rattle.gather_table.specs.History.{after_history, IsLegal, IsComplete}
use Rattle.gather_table.specs.Laws.{fills, closes}
use Rattle.gather_table.specs.Shared.{TableView, SeatView, IsSeat, own_calls}
use Rattle.gather_table.proofs.Calls.{whole_seat_made_all}
use Rattle.gather_table.proofs.Legal.{one_where}
use Rattle.gather_table.proofs.Groups.{stays_marked, complete_closed}
use Rattle.run_steps.proofs.Closings.{filled_once, never_closed}
use Rattle.run_steps.specs.Delivery.{CloseWhatTheyFill}
use Rattle.run_steps.specs.Duty.{Duty, OfPage, OfSlot, worth, of_place, duties, owed}
use Rattle.run_steps.specs.Gathered.{page_is, slot_is, marks, Holds, HasPages, IsGathered, GathersAll}

-- pages
slots_no_page : (p : ℕ) (xs : List (ℕ × ℕ)) → total (page_is p) (map of_place xs) ≡ 0
slots_no_page p [] = refl
slots_no_page p (x ∷ xs) = let h = slots_no_page p xs in omega arith

pages_after : (layout : Layout) (p n : ℕ) → n ≤ p → owed (page_is p) layout n ≡ 0
pages_after layout p zero le = refl
pages_after layout p (suc n) le =
    let h = pages_after layout p n (omega arith) in
    let z = slots_no_page p (places_of layout n) in
    let o : page_is p (OfPage n) ≡ 0 = ap (λ b. if b then 1 else 0) (ne_eqb n p (λ e. absurd (omega arith))) in
    omega arith

page_once : (layout : Layout) (p n : ℕ) → p < n → owed (page_is p) layout n ≡ 1
page_once layout p zero lt = absurd (omega arith)
page_once layout p (suc n) lt =
    let z = slots_no_page p (places_of layout n) in
    dite (ℕ_discrete n p)
    (λ same. let h = pages_after layout p n (omega arith) in
    let o : page_is p (OfPage n) ≡ 1 = ap (λ b. if b then 1 else 0) (eq-eqb n p same) in omega arith)
    (λ other. let h = page_once layout p n (omega arith) in
    let o : page_is p (OfPage n) ≡ 0 = ap (λ b. if b then 1 else 0) (ne_eqb n p other) in omega arith)

-- slots
weigh-append : (f : Duty → ℕ) (xs ys : List (ℕ × ℕ)) → total f (map of_place (xs ++ ys)) ≡ total f (map of_place xs) + total f (map of_place ys)
weigh-append f [] ys = omega arith
weigh-append f (x ∷ xs) ys = let h = weigh-append f xs ys in omega arith

one_zero : (f : Duty → ℕ) (b : Bool) (r j : ℕ) → f (OfSlot r j) ≡ 0 → total f (map of_place (if b then (r, j) ∷ [] else [])) ≡ 0
one_zero f true r j e = omega arith
one_zero f false r j e = refl

one_one : (f : Duty → ℕ) (b : Bool) (r j : ℕ) → f (OfSlot r j) ≡ 1 → total f (map of_place (if b then (r, j) ∷ [] else [])) ≡ (if b then 1 else 0)
one_one f true r j e = omega arith
one_one f false r j e = refl

slot_else_sheet : (s k r j : ℕ) → r ≢ s → slot_is s k (OfSlot r j) ≡ 0
slot_else_sheet s k r j ne = ap (λ b. if b && (j == k) then 1 else 0) (ne_eqb r s ne)

and_false : (a : Bool) → (a && false) ≡ false
and_false true = refl
and_false false = refl

slot_else : (s k r j : ℕ) → j ≢ k → slot_is s k (OfSlot r j) ≡ 0
slot_else s k r j ne = ap (λ b. if (r == s) && b then 1 else 0) (ne_eqb j k ne) ∙ ap (λ b. if b then 1 else 0) (and_false (r == s))

slot_here : (s k r j : ℕ) → r ≡ s → j ≡ k → slot_is s k (OfSlot r j) ≡ 1
slot_here s k r j e f = (λ i. if eq-eqb r s e i && eq-eqb j k f i then 1 else 0)

none_in : (s k q r j : ℕ) (xs : List (Option ℕ)) → ((j' : ℕ) → j ≤ j' → slot_is s k (OfSlot r j') ≡ 0) → total (slot_is s k) (map of_place (places_in q r j xs)) ≡ 0
none_in s k q r j [] h = refl
none_in s k q r j (x ∷ xs) h =
    let a = weigh-append (slot_is s k) (if has_page q x then (r, j) ∷ [] else []) (places_in q r (suc j) xs) in
    let o = one_zero (slot_is s k) (has_page q x) r j (h j (omega arith)) in
    let t = none_in s k q r (suc j) xs (λ j' le. h j' (omega arith)) in
    omega arith

-- whether page q is there
abbrev held : ℕ → Option (Option ℕ) → ℕ
held q None = 0
held q (Some x) = if has_page q x then 1 else 0

at_in : (s k q j i : ℕ) (xs : List (Option ℕ)) → k ≡ j + i → total (slot_is s k) (map of_place (places_in q s j xs)) ≡ held q (slice_get xs i)
at_in s k q j i [] e = refl
at_in s k q j zero (x ∷ xs) e =
    let a = weigh-append (slot_is s k) (if has_page q x then (s, j) ∷ [] else []) (places_in q s (suc j) xs) in
    let o = one_one (slot_is s k) (has_page q x) s j (slot_here s k s j refl (omega arith)) in
    let t = none_in s k q s (suc j) xs (λ j' le. slot_else s k s j' (λ same. absurd (omega arith))) in
    omega arith
at_in s k q j (suc i) (x ∷ xs) e =
    let a = weigh-append (slot_is s k) (if has_page q x then (s, j) ∷ [] else []) (places_in q s (suc j) xs) in
    let o = one_zero (slot_is s k) (has_page q x) s j (slot_else s k s j (λ same. absurd (omega arith))) in
    let t = at_in s k q (suc j) i xs (omega arith) in
    omega arith

none_from : (s k q r : ℕ) (xs : List (List (Option ℕ))) → s < r → total (slot_is s k) (map of_place (places_from q r xs)) ≡ 0
none_from s k q r [] lt = refl
none_from s k q r (x ∷ xs) lt =
    let a = weigh-append (slot_is s k) (places_in q r 0 x) (places_from q (suc r) xs) in
    let o = none_in s k q r 0 x (λ j' le. slot_else_sheet s k r j' (λ same. absurd (omega arith))) in
    let t = none_from s k q (suc r) xs (omega arith) in
    omega arith

at_from : (s k q r i : ℕ) (xs : List (List (Option ℕ))) → s ≡ r + i → total (slot_is s k) (map of_place (places_from q r xs)) ≡ held q (slice_get (slice_index_or xs i []) k)
at_from s k q r i [] e = refl
at_from s k q r zero (x ∷ xs) e =
    let a = weigh-append (slot_is s k) (places_in q r 0 x) (places_from q (suc r) xs) in
    let same : s ≡ r = omega arith in
    let o : total (slot_is s k) (map of_place (places_in q r 0 x)) ≡ held q (slice_get x k) = subst (λ z. total (slot_is s k) (map of_place (places_in q z 0 x)) ≡ held q (slice_get x k)) same (at_in s k q 0 k x (omega arith)) in
    let t = none_from s k q (suc r) xs (omega arith) in
    omega arith
at_from s k q r (suc i) (x ∷ xs) e =
    let a = weigh-append (slot_is s k) (places_in q r 0 x) (places_from q (suc r) xs) in
    let o = none_in s k q r 0 x (λ j' le. slot_else_sheet s k r j' (λ same. absurd (omega arith))) in
    let t = at_from s k q (suc r) i xs (omega arith) in
    omega arith

slot_of_page : (layout : Layout) (s k q : ℕ) → total (slot_is s k) (duties layout q) ≡ held q (slice_get (slots layout s) k)
slot_of_page layout s k q = let a = at_from s k q 0 s layout.sheets (omega arith) in omega arith

no_held : (q : ℕ) (o : Option (Option ℕ)) → ((p : ℕ) → o ≡ Some (Some p) → ⊥) → held q o ≡ 0
no_held q None h = refl
no_held q (Some None) h = refl
no_held q (Some (Some p)) h = absurd (h p refl)

slot_never : (layout : Layout) (s k n : ℕ) → ((p : ℕ) → ¬ Holds layout s k p) → owed (slot_is s k) layout n ≡ 0
slot_never layout s k zero h = refl
slot_never layout s k (suc n) h =
    let r = slot_never layout s k n h in
    let o = slot_of_page layout s k n in
    let z = no_held n (slice_get (slots layout s) k) h in
    omega arith

slot_later : (layout : Layout) (s k p n : ℕ) → Holds layout s k p → n ≤ p → owed (slot_is s k) layout n ≡ 0
slot_later layout s k p zero h le = refl
slot_later layout s k p (suc n) h le =
    let r = slot_later layout s k p n h (omega arith) in
    let o = slot_of_page layout s k n in
    let z : held n (slice_get (slots layout s) k) ≡ 0 = ap (held n) h ∙ ap (λ b. if b then 1 else 0) (ne_eqb p n (λ e. absurd (omega arith))) in
    omega arith

slot_once : (layout : Layout) (s k p n : ℕ) → Holds layout s k p → p < n → owed (slot_is s k) layout n ≡ 1
slot_once layout s k p zero h lt = absurd (omega arith)
slot_once layout s k p (suc n) h lt = dite (ℕ_discrete p n)
    (λ same. let r = slot_later layout s k p n h (omega arith) in
    let o = slot_of_page layout s k n in
    let z : held n (slice_get (slots layout s) k) ≡ 1 = ap (held n) h ∙ ap (λ b. if b then 1 else 0) (eq-eqb p n same) in omega arith)
    (λ other. let r = slot_once layout s k p n h (omega arith) in
    let o = slot_of_page layout s k n in
    let z : held n (slice_get (slots layout s) k) ≡ 0 = ap (held n) h ∙ ap (λ b. if b then 1 else 0) (ne_eqb p n other) in omega arith)

-- where a mark was counted, the slot is marked
one_mark : (t : TableState) (e : Entry) (s k : ℕ) → 0 < worth (slot_is s k) e → (after t e).marked s k ≡ true
one_mark t (Publish p i r) s k h = absurd (omega arith)
one_mark t (Look r n) s k h = absurd (omega arith)
one_mark t (PageAt p o) s k h = absurd (omega arith)
one_mark t (CloseGroup r g c) s k h = absurd (omega arith)
one_mark t (LookGroup r g n) s k h = absurd (omega arith)
one_mark t (Mark r j q) s k h = dite (ℕ_discrete r s)
    (λ same. dite (ℕ_discrete j k)
    (λ here. ap (λ (b : Bool). (if b then with_mark (t.marked r) j else t.marked s) k) (eq-eqb s r (sym same)) ∙ ap (λ b. if b then true else t.marked r k) (eq-eqb k j (sym here)))
    (λ ne. let z = slot_else s k r j ne in absurd (omega arith)))
    (λ other. let z = slot_else_sheet s k r j other in absurd (omega arith))

some_mark : (t : TableState) (es : List Entry) (s k : ℕ) → 0 < marks s k es → (after_all t es).marked s k ≡ true
some_mark t [] s k h = absurd (omega arith)
some_mark t (e ∷ es) s k h = two (worth (slot_is s k) e) refl (λ less. some_mark (after t e) es s k less)
  where
    two : (n : ℕ) → worth (slot_is s k) e ≡ n → (0 < marks s k es → (after_all (after t e) es).marked s k ≡ true) → (after_all t (e ∷ es)).marked s k ≡ true
    two zero z rest = rest (omega arith)
    two (suc n) z rest = stays_marked (after t e) es s k (one_mark t e s k (omega arith))

-- a slot is blank or holds a page
blank_or : (xs : List (Option ℕ)) (k : ℕ) → k < length xs → (is_blank_slot xs k ≡ true) ⊎ ((p : ℕ) × (slice_get xs k ≡ Some (Some p)))
blank_or [] k lt = absurd (omega arith)
blank_or (None ∷ xs) zero lt = inl refl
blank_or (Some p ∷ xs) zero lt = inr (p, refl)
blank_or (None ∷ xs) (suc k) lt = blank_or xs k (omega arith)
blank_or (Some p ∷ xs) (suc k) lt = blank_or xs k (omega arith)

pub gathered : (layout : Layout) (log : List Entry) → IsLegal layout log → HasPages layout
    → ((h : Duty → ℕ) → total (worth h) log ≡ owed h layout layout.pages) → CloseWhatTheyFill log
    → IsGathered layout log
gathered layout log legal pages h closed = record {
  legal = legal;
  published = λ p lt. h (page_is p) ∙ page_once layout p layout.pages lt;
  no_other_page = λ p le. h (page_is p) ∙ pages_after layout p layout.pages le;
  marked = once;
  no_other_slot = λ s k none. h (slot_is s k) ∙ slot_never layout s k layout.pages none;
  closed = λ s g has needed. closed s g ∙ filled_once layout log s g legal has needed (all_marked s);
  no_other_group = λ s g blank. never_closed layout log s g legal (closed s g) blank;
  complete = all;
  completing = λ s lt unborn. one_where layout log s legal unborn (all s lt);
}
  where
    once : (s k p : ℕ) → Holds layout s k p → marks s k log ≡ 1
    once s k p holds = h (slot_is s k) ∙ slot_once layout s k p layout.pages holds (pages s k p holds)

    all_marked : (s k : ℕ) → k < slots_on layout s → (after_history layout log).marked s k ≡ true
    all_marked s k below = ⊎_elim
        (λ blank. stays_marked (start layout) log s k blank)
        (λ held. some_mark (start layout) log s k (let o = once s k held.0 held.1 in omega arith))
        (blank_or (slots layout s) k below)

    all : (s : ℕ) → s < length layout.sheets → IsComplete layout log s
    all s lt = complete_closed layout log s legal lt (all_marked s) (λ g. let c = closed s g in omega arith)

-- a whole seat's own calls are all that its front shows
pub whole_closes : (seat : SeatView) → IsSeat seat → seat.share ≡ whole_share → CloseWhatTheyFill (own_calls seat)
    → CloseWhatTheyFill seat.front
whole_closes seat k whole closed s g =
    sym (whole_seat_made_all seat (λ e. if closes s g e then 1 else 0) k whole) ∙ closed s g
    ∙ whole_seat_made_all seat (λ e. if fills s g e then 1 else 0) k whole

pub gathers_all : GathersAll
gathers_all seat k whole pages h closed =
    gathered seat.key seat.front k.legal pages (λ w. sym (whole_seat_made_all seat (worth w) k whole) ∙ h w)
    (whole_closes seat k whole closed)

-- a slot of a sheet that is there
sheet_there : (xs : List (List (Option ℕ))) (s k : ℕ) (x : Option ℕ) → slice_get (slice_index_or xs s []) k ≡ Some x → s < length xs
sheet_there [] s k x e = absurd (cc)
sheet_there (y ∷ xs) zero k x e = omega arith
sheet_there (y ∷ xs) (suc s) k x e = let r = sheet_there xs s k x e in omega arith

-- the slots of a sound plan hold its pages
pub has_pages : (plan : Plan) → IsSound plan → HasPages (layout plan)
has_pages plan sound s k p at =
    let there = sheet_there (layout plan).sheets s k (Some p) at in
    sound.paged s k p (omega (arith, length-map plan.sheets (λ slots. map (λ slot. slot.page) slots))) at

-- and so do those of a table that is laid out for it
pub table_has_pages : (plan : Plan) (table : TableView) → IsSound plan → table.layout ≡ layout plan → HasPages table.layout
table_has_pages plan table sound is = subst HasPages (sym is) (has_pages plan sound)
