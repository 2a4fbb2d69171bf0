-- Room by right suffices: what the deliveries of a preparer complete is put.
use Rattle.std.proofs.Common.{◌≡◌, ◌⊎◌, inl, inr, ⊎_elim, ℕ, zero, suc, ◌+◌, ◌-◌, ◌<◌, ◌≤◌, ◌%◌, ◌==◌, ◌&&◌, eq-eqb, if◌then◌else◌, min, Bool, true, false, List, [], ◌∷◌, ◌++◌, length, map, refl, sym, ap, ◌∙◌, subst, arith}
use Rattle.std.specs.Prelude.{Option, Some, None}
use mathlib.Core.Logic.{dite}
use native.Mathlib.Decide.{ℕ_discrete}
use Rattle.std.proofs.lemmas.List.{length-map}
use Rattle.rules.specs.Sheets.{Plan, Layout, layout}
use Rattle.rules.specs.Seats.{total, occurrences}
use Rattle.rules.specs.SeatRules.{entries_at}
use Rattle.rules.proofs.SeatTotals.{times_same, times_else}
use Rattle.sheet_plan.specs.Places.{places_of}
use Rattle.gather_table.specs.declared.answers.Reply.{Reply}
use Rattle.gather_table.specs.declared.answers.Reply.TheVariants.{Fresh, Repeated, Completing, Fills}
use Rattle.gather_table.specs.declared.answers.Closing.{Closing}
use Rattle.gather_table.specs.History.{Entry, Publish, Mark, Look, PageAt, CloseGroup, LookGroup}
use Rattle.gather_table.specs.Laws.{completes, completings, closes, fillings, closings, closes_last}
use Rattle.gather_table.specs.Shared.{TableView, SeatView, IsSeat, own_calls}
use Rattle.gather_table.specs.Shared as table
use Rattle.gather_table.proofs.Calls.{seats_complete_once, seat_makes}
use Rattle.handover.specs.Passes.{QueueView, PassView, puts_in, room_kept, room_given}
use Rattle.run_steps.specs.Delivery.{calls_of, place_calls, completed, HandedOn, CloseWhatTheyFill}
use Rattle.run_steps.specs.Duty.{Duty, worth, of_place, duties, is_place, share_below, most_puts, most_puts_of}
use Rattle.run_steps.proofs.HandingOn.{none_handed_back}
use Rattle.run_steps.proofs.PlacesOf.{Each, each_map, places_stand}
use Rattle.run_steps.proofs.Shares.{completed_few, completed_counted}
use Rattle.run_steps.specs.declared.delivery.Delivered.{Delivered}
use Rattle.imposer.specs.Tokens as held
use Rattle.imposer.specs.Tokens.{AreTokens, AreUnused, calls_done, put_by, completed_below}
use Rattle.imposer.specs.Rooms.{PutsAll, HasRoomFrom, HasRoomForPage, PutsByRight}
use Rattle.imposer.specs.declared.tokens.Tokens.{Tokens}
use Rattle.imposer.proofs.Held.{calls_called, puts_and_back, unused_put}

-- how often numbers below n are in a list
abbrev pub times_below : ℕ → List ℕ → ℕ
times_below zero xs = 0
times_below (suc n) xs = times_below n xs + occurrences n xs

times_below_none : (n : ℕ) → times_below n [] ≡ 0
times_below_none zero = refl
times_below_none (suc n) = let h = times_below_none n in omega arith

times_below_more : (n x : ℕ) (xs : List ℕ) → times_below n (x ∷ xs) ≡ times_below n (x ∷ []) + times_below n xs
times_below_more zero x xs = refl
times_below_more (suc n) x xs = let h = times_below_more n x xs in omega arith

times_below_past : (n x : ℕ) → n ≤ x → times_below n (x ∷ []) ≡ 0
times_below_past zero x le = refl
times_below_past (suc n) x le =
    let h = times_below_past n x (omega arith) in
    let z = times_else n x (λ e. absurd (omega arith)) in
    omega arith

times_below_one : (n x : ℕ) → x < n → times_below n (x ∷ []) ≡ 1
times_below_one zero x lt = absurd (omega arith)
times_below_one (suc n) x lt = dite (ℕ_discrete x n)
    (λ same.
    let h = times_below_past n x (omega arith) in
    let o : occurrences n (x ∷ []) ≡ 1 = subst (λ y. occurrences n (y ∷ []) ≡ 1) (sym same) (times_same n) in
    omega arith)
    (λ other. let h = times_below_one n x (omega arith) in let z = times_else n x other in omega arith)

pub all_below : (n : ℕ) (xs : List ℕ) → Each (λ x. x < n) xs → times_below n xs ≡ length xs
all_below n [] each = times_below_none n
all_below n (x ∷ xs) each =
    let rest = all_below n xs each.1 in
    let more = times_below_more n x xs in
    let one = times_below_one n x each.0 in
    omega arith

-- the sheets that a delivery completes are sheets of the plan
completed_within : (n : ℕ) (xs : List (ℕ × ℕ)) (rs : List Reply) (cs : List Closing) → Each (λ (x : ℕ × ℕ). x.0 < n) xs → Each (λ s. s < n) (completed (place_calls xs rs cs))
completed_within n [] rs cs each = tt
completed_within n (x ∷ xs) [] cs each = tt
completed_within n (x ∷ xs) (Fresh ∷ rs) cs each = completed_within n xs rs cs each.1
completed_within n (x ∷ xs) (Repeated ∷ rs) cs each = completed_within n xs rs cs each.1
completed_within n (x ∷ xs) (Completing ∷ rs) cs each = (each.0, completed_within n xs rs cs each.1)
completed_within n (x ∷ xs) (Fills g ∷ rs) [] each = completed_within n xs rs [] each.1
completed_within n (x ∷ xs) (Fills g ∷ rs) (c ∷ cs) each = by_closing (closes_last c) (completed_within n xs rs cs each.1)
  where
    by_closing : (b : Bool) → Each (λ s. s < n) (completed (place_calls xs rs cs)) → Each (λ s. s < n) ((if b then x.0 ∷ [] else []) ++ completed (place_calls xs rs cs))
    by_closing true rest = (each.0, rest)
    by_closing false rest = rest

pub delivery_within : (layout : Layout) (p : ℕ) (d : Delivered) → Each (λ s. s < length layout.sheets) (completed (calls_of layout p d))
delivery_within layout p d =
    completed_within (length layout.sheets) (places_of layout p) d.replies.items d.closings.items
    (each_map _ (λ (x : ℕ × ℕ). x.0 < length layout.sheets) (places_of layout p) (λ x st. st.0) (places_stand layout p))

-- what is completed of a sheet, and of the first n, when calls come
completed_called : (s : ℕ) (old new : Tokens) (es : List Entry) → table.MakesCalls old.seat es new.seat
    → held.completed_by s new ≡ held.completed_by s old + occurrences s (completed es)
completed_called s old new es made =
    let more = calls_called (λ e. if completes s e then 1 else 0) old.seat new.seat es made in
    let these : occurrences s (completed es) ≡ completings s es = completed_counted s es in
    omega arith

below_called : (n : ℕ) (old new : Tokens) (es : List Entry) → table.MakesCalls old.seat es new.seat
    → completed_below n new ≡ completed_below n old + times_below n (completed es)
below_called zero old new es made = refl
below_called (suc n) old new es made =
    let rest = below_called n old new es made in
    let one = completed_called n old new es made in
    omega arith

-- of the first n sheets at most n are completed
below_few : (n : ℕ) (tokens : Tokens) → IsSeat tokens.seat → completed_below n tokens ≤ n
below_few zero tokens k = omega arith
below_few (suc n) tokens k =
    let rest = below_few n tokens k in
    let one : held.completed_by n tokens ≤ 1 = seats_complete_once.0 tokens.seat n k in
    omega arith

-- what a delivery completes is put, if there is room for it
pub delivered_by_right : (q : QueueView) (t : TableView) (n : ℕ) (layout : Layout) (p : ℕ) (d : Delivered) (old new : Tokens)
    → AreTokens t q n old → table.MakesCalls old.seat (calls_of layout p d) new.seat
    → HandedOn q (completed (calls_of layout p d)) d.handed_back.items old.pass new.pass
    → HasRoomForPage layout p old → PutsByRight layout p old new
delivered_by_right q t n layout p d old new are made handed room = record {
  count = length calls;
  few = few;
  room = back.1;
  counted = counted;
  all = λ all s.
      let puts = puts_and_back s q calls d.handed_back.items old.pass new.pass handed in
      let none : occurrences s d.handed_back.items ≡ 0 = ap (occurrences s) back.0 in
      let did = completed_called s old new (calls_of layout p d) made in
      let was = all s in
      omega (arith, puts, none, did, was);
}
  where
    calls : List ℕ
    calls = completed (calls_of layout p d)

    few : length calls ≤ length (places_of layout p)
    few = completed_few layout p d.receipt.index d.published d.replies.items d.closings.items

    counted : completed_below (length layout.sheets) new ≡ completed_below (length layout.sheets) old + length calls
    counted =
        let more = below_called (length layout.sheets) old new (calls_of layout p d) made in
        let all = all_below (length layout.sheets) calls (delivery_within layout p d) in
        omega (arith, more, all)

    enough : length calls ≤ puts_in old.pass.room
    enough = ⊎_elim
        (λ (a : length (places_of layout p) ≤ puts_in old.pass.room). omega (arith, a, few))
        (λ (b : length layout.sheets ≤ puts_in old.pass.room + completed_below (length layout.sheets) old).
        let most = below_few (length layout.sheets) new (seat_makes old.seat new.seat (calls_of layout p d) are.seat made) in
        omega (arith, b, most, counted))
        room

    back : (d.handed_back.items ≡ []) × (puts_in new.pass.room + length calls ≡ puts_in old.pass.room)
    back = none_handed_back q calls d.handed_back.items old.pass new.pass handed enough

-- nothing was delivered
pub nothing_by_right : (layout : Layout) (p : ℕ) (old : Tokens) (seat : SeatView) (pass : PassView) → seat ≡ old.seat → pass ≡ old.pass
    → PutsByRight layout p old (record { seat = seat; pass = pass })
nothing_by_right layout p old seat pass same_seat same_pass =
    subst (PutsByRight layout p old) (λ i. record { seat = sym same_seat i; pass = sym same_pass i })
    (record { count = 0; few = omega arith; room = omega arith; counted = omega arith; all = λ all. all })

-- what the places of a page weigh
places_weigh : (xs : List (ℕ × ℕ)) → total is_place (map of_place xs) ≡ length xs
places_weigh [] = refl
places_weigh (x ∷ xs) = let h = places_weigh xs in omega arith

pub page_weighs : (layout : Layout) (p : ℕ) → total is_place (duties layout p) ≡ length (places_of layout p)
page_weighs layout p = let h = places_weigh (places_of layout p) in omega arith

-- what a preparer has before it grows
grows : (h : Duty → ℕ) (layout : Layout) (count number p k : ℕ) → share_below h layout count number p ≤ share_below h layout count number (p + k)
grows h layout count number p zero = let e : p + 0 ≡ p = omega arith in subst (λ m. share_below h layout count number p ≤ share_below h layout count number m) (sym e) (omega arith)
grows h layout count number p (suc k) =
    let e : p + suc k ≡ suc (p + k) = omega arith in
    let rest = grows h layout count number p k in
    subst (λ m. share_below h layout count number p ≤ share_below h layout count number m) (sym e) (omega (arith, rest))

pub grows_to : (h : Duty → ℕ) (layout : Layout) (count number p n : ℕ) → p ≤ n → share_below h layout count number p ≤ share_below h layout count number n
grows_to h layout count number p n le =
    let e : p + (n - p) ≡ n = omega (arith, le) in
    subst (λ m. share_below h layout count number p ≤ share_below h layout count number m) e (grows h layout count number p (n - p))

-- what it owes grows by a page of its own
pub own_share : (h : Duty → ℕ) (layout : Layout) (count number p : ℕ) → p % count ≡ number
    → share_below h layout count number (p + 1) ≡ share_below h layout count number p + total h (duties layout p)
own_share h layout count number p mine =
    let e : suc p ≡ p + 1 = omega arith in
    let one : (if p % count == number then total h (duties layout p) else 0) ≡ total h (duties layout p) =
    ap (λ b. if b then total h (duties layout p) else 0) (eq-eqb (p % count) number mine) in
    subst (λ m. share_below h layout count number m ≡ share_below h layout count number p + total h (duties layout p)) e (omega (arith, one))

pub next_share : (layout : Layout) (count number p : ℕ) → p % count ≡ number
    → share_below is_place layout count number (p + 1) ≡ share_below is_place layout count number p + length (places_of layout p)
next_share layout count number p mine =
    let more = own_share is_place layout count number p mine in let weighs = page_weighs layout p in omega (arith, more, weighs)

-- the sheets of a plan are as many as those of its layout
pub sheets_same : (plan : Plan) → length (layout plan).sheets ≡ length plan.sheets
sheets_same plan = length-map _ _

-- there is room for a page of the preparer's own
pub room_for_page : (layout : Layout) (count number p : ℕ) (old : Tokens) → p < layout.pages → p % count ≡ number → HasRoomFrom layout count number p old → HasRoomForPage layout p old
room_for_page layout count number p old lt mine room = ⊎_elim
    (λ (a : share_below is_place layout count number layout.pages ≤ puts_in old.pass.room + share_below is_place layout count number p).
    let next = next_share layout count number p mine in
    let all = grows_to is_place layout count number (p + 1) layout.pages (omega (arith, lt)) in
    inl (omega (arith, a, next, all)))
    (λ b. inr b)
    room

-- and room is left for those after it
pub room_behind : (layout : Layout) (count number p : ℕ) (old new : Tokens) → p % count ≡ number → HasRoomFrom layout count number p old → PutsByRight layout p old new
    → HasRoomFrom layout count number (p + 1) new
room_behind layout count number p old new mine room puts =
    let less = puts.room in
    let few = puts.few in
    let counted = puts.counted in
    ⊎_elim
    (λ (a : share_below is_place layout count number layout.pages ≤ puts_in old.pass.room + share_below is_place layout count number p).
    let next = next_share layout count number p mine in
    inl (omega (arith, a, next, less, few)))
    (λ (b : length layout.sheets ≤ puts_in old.pass.room + completed_below (length layout.sheets) old). inr (omega (arith, b, less, counted)))
    room

-- what a preparer begins with
pub room_at_first : (layout : Layout) (count number : ℕ) (tokens : Tokens) → most_puts layout count number ≤ puts_in tokens.pass.room → HasRoomFrom layout count number 0 tokens
room_at_first layout count number tokens enough =
    least (share_below is_place layout count number layout.pages) (length layout.sheets) (puts_in tokens.pass.room) enough
  where
    least : (a b r : ℕ) → min a b ≤ r → (a ≤ r + 0) ⊎ (b ≤ r + completed_below (length layout.sheets) tokens)
    least a b r le = ⊎_elim (λ (x : a ≤ b). inl (omega (arith, le, x))) (λ (y : b ≤ a). inr (omega (arith, le, y))) (order a b)
      where
        order : (a b : ℕ) → (a ≤ b) ⊎ (b ≤ a)
        order zero b = inl (omega arith)
        order (suc a) zero = inr (omega arith)
        order (suc a) (suc b) = ⊎_elim (λ (x : a ≤ b). inl (omega (arith, x))) (λ (y : b ≤ a). inr (omega (arith, y))) (order a b)

-- what the preparers from one on need
first_of_all : (layout : Layout) (count k m : ℕ) → most_puts_of layout count k ≤ most_puts_of layout count (k + m)
first_of_all layout count k zero = let e : k + 0 ≡ k = omega arith in subst (λ n. most_puts_of layout count k ≤ most_puts_of layout count n) (sym e) (omega arith)
first_of_all layout count k (suc m) =
    let e : k + suc m ≡ suc (k + m) = omega arith in
    let rest = first_of_all layout count k m in
    subst (λ n. most_puts_of layout count k ≤ most_puts_of layout count n) (sym e) (omega (arith, rest))

pub with_next : (layout : Layout) (count number : ℕ) → number < count → most_puts_of layout count number + most_puts layout count number ≤ most_puts_of layout count count
with_next layout count number lt =
    let e : suc number + (count - suc number) ≡ count = omega (arith, lt) in
    subst (λ n. most_puts_of layout count (suc number) ≤ most_puts_of layout count n) e (first_of_all layout count (suc number) (count - suc number))

-- a preparer gets what it needs of the room, if there is enough
pub gets_room : (layout : Layout) (count number room give : ℕ) → number < count → give ≡ min (most_puts layout count number) room
    → most_puts_of layout count count ≤ most_puts_of layout count number + room
    → (most_puts layout count number ≤ give) × (most_puts_of layout count count ≤ most_puts_of layout count (number + 1) + (room - give))
gets_room layout count number room give lt is enough =
    let next = with_next layout count number lt in
    let e : suc number ≡ number + 1 = omega arith in (
      omega (arith, is, next, enough),
      subst (λ n. most_puts_of layout count count ≤ most_puts_of layout count n + (room - give)) e (omega (arith, is, next, enough)),
    )

pub room_kept_is : (give : ℕ) (room : Option ℕ) → puts_in (room_kept give room) ≡ puts_in room - give
room_kept_is give None = omega arith
room_kept_is give (Some n) = refl

pub room_given_is : (give : ℕ) (room : Option ℕ) → give ≤ puts_in room → puts_in (room_given give room) ≡ give
room_given_is give None few = omega (arith, few)
room_given_is give (Some n) few = refl

-- calls that weigh nothing and close what they fill complete nothing
none_fill : (es : List Entry) → total (worth (λ d. 1)) es ≡ 0 → (s g : ℕ) → fillings s g es ≡ 0
none_fill [] none s g = refl
none_fill (Publish p i r ∷ es) none s g = absurd (omega (arith, none))
none_fill (Mark r k a ∷ es) none s g = absurd (omega (arith, none))
none_fill (Look r m ∷ es) none s g = let rest = none_fill es (omega (arith, none)) s g in omega (arith, rest)
none_fill (PageAt p o ∷ es) none s g = let rest = none_fill es (omega (arith, none)) s g in omega (arith, rest)
none_fill (CloseGroup r h c ∷ es) none s g = let rest = none_fill es (omega (arith, none)) s g in omega (arith, rest)
none_fill (LookGroup r h m ∷ es) none s g = let rest = none_fill es (omega (arith, none)) s g in omega (arith, rest)

abbrev one_if : Bool → ℕ
one_if b = if b then 1 else 0

none_complete : (es : List Entry) → total (worth (λ d. 1)) es ≡ 0 → ((s g : ℕ) → closings s g es ≡ 0) → (s : ℕ) → completings s es ≡ 0
none_complete [] none closed s = refl
none_complete (Publish p i r ∷ es) none closed s = absurd (omega (arith, none))
none_complete (Mark r k a ∷ es) none closed s = absurd (omega (arith, none))
none_complete (Look r m ∷ es) none closed s =
    let rest = none_complete es (omega (arith, none)) (λ t g. let one = closed t g in omega (arith, one)) s in
    omega (arith, rest)
none_complete (PageAt p o ∷ es) none closed s =
    let rest = none_complete es (omega (arith, none)) (λ t g. let one = closed t g in omega (arith, one)) s in
    omega (arith, rest)
none_complete (CloseGroup r h c ∷ es) none closed s =
    absurd (let one = closes_itself r h c in let e = closed r h in omega (arith, one, e))
  where
    closes_itself : (r h : ℕ) (c : Closing) → one_if (closes r h (CloseGroup r h c)) ≡ 1
    closes_itself r h c = ap one_if (λ i. eq-eqb h h refl i && eq-eqb r r refl i)
none_complete (LookGroup r h m ∷ es) none closed s =
    let rest = none_complete es (omega (arith, none)) (λ t g. let one = closed t g in omega (arith, one)) s in
    omega (arith, rest)

pub imposers_complete_nothing : (tokens : Tokens) → ((w : Duty → ℕ) → calls_done w tokens ≡ 0) → CloseWhatTheyFill (own_calls tokens.seat) → (s : ℕ) → held.completed_by s tokens ≡ 0
imposers_complete_nothing tokens nothing close s =
    let none = nothing (λ d. 1) in
    none_complete (own_calls tokens.seat) none (λ t g. close t g ∙ none_fill (own_calls tokens.seat) none t g) s

-- tokens of which nothing was called have put what they completed
pub unused_puts_all : (tokens : Tokens) → AreUnused tokens → PutsAll tokens
unused_puts_all tokens u s =
    unused_put s tokens u
    ∙ sym (ap (λ (own : List ℕ). completings s (entries_at tokens.seat.front own)) u.no_calls)
