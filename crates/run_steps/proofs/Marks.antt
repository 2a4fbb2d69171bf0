-- The calls for a page's places, one place after the other.
use Rattle.std.proofs.Common.{◌≡◌, ℕ, zero, suc, ◌+◌, ◌<◌, ◌≤◌, Bool, true, false, List, [], ◌∷◌, ◌++◌, length, take}
use Rattle.std.proofs.Common.{get_or, refl, sym, ap, ◌∙◌, subst, arith, add-one, append_assoc}
use Rattle.std.proofs.lemmas.List.{length-append}
use Rattle.std.specs.Prelude.{filter, Option, Some, None, if◌then◌else◌}
use Rattle.rules.specs.Sheets.{Layout}
use Rattle.sheet_plan.specs.Places.{places_of}
use Rattle.gather_table.specs.declared.answers.Published.{Published}
use Rattle.gather_table.specs.declared.answers.Reply.{Reply}
use Rattle.gather_table.specs.declared.answers.Reply.TheVariants.{Fresh, Repeated, Completing, Fills}
use Rattle.gather_table.specs.declared.answers.Closing.{Closing}
use Rattle.gather_table.specs.Laws.{closes_last}
use Rattle.gather_table.specs.History.{Entry, Publish, Mark, CloseGroup}
use Rattle.gather_table.specs.Shared.{TableView, SeatView, IsSeatOf, MadeCall, MakesCalls}
use Rattle.gather_table.proofs.Calls.{makes-append, same_makes}
use Rattle.run_steps.specs.Delivery.{is_filling, place_calls, answer_list, completes_sheet, delivery_calls, sheet_completed, completed}

-- one place more
pub places_push : (xs : List (ℕ × ℕ)) (i : ℕ) (d : ℕ × ℕ) (rs : List Reply) (r : Reply) (cs ds : List Closing)
    → i < length xs → length rs ≡ i → length cs ≡ length (filter is_filling rs)
    → place_calls (take (suc i) xs) (rs ++ r ∷ []) (cs ++ ds)
    ≡ place_calls (take i xs) rs cs ++ place_calls (get_or xs i d ∷ []) (r ∷ []) ds
places_push [] i d rs r cs ds lt len all = absurd (omega arith)
places_push (x ∷ xs) zero d [] r [] ds lt len all = refl
places_push (x ∷ xs) zero d [] r (c ∷ cs) ds lt len all = absurd (omega arith)
places_push (x ∷ xs) zero d (q ∷ rs) r cs ds lt len all = absurd (omega arith)
places_push (x ∷ xs) (suc i) d [] r cs ds lt len all = absurd (omega arith)
places_push (x ∷ xs) (suc i) d (Fresh ∷ rs) r cs ds lt len all =
    ap (λ l. Mark x.0 x.1 Fresh ∷ l) (places_push xs i d rs r cs ds (omega arith) (omega arith) all)
places_push (x ∷ xs) (suc i) d (Repeated ∷ rs) r cs ds lt len all =
    ap (λ l. Mark x.0 x.1 Repeated ∷ l) (places_push xs i d rs r cs ds (omega arith) (omega arith) all)
places_push (x ∷ xs) (suc i) d (Completing ∷ rs) r cs ds lt len all =
    ap (λ l. Mark x.0 x.1 Completing ∷ l) (places_push xs i d rs r cs ds (omega arith) (omega arith) all)
places_push (x ∷ xs) (suc i) d (Fills g ∷ rs) r [] ds lt len all = absurd (omega arith)
places_push (x ∷ xs) (suc i) d (Fills g ∷ rs) r (c ∷ cs) ds lt len all =
    ap (λ l. Mark x.0 x.1 (Fills g) ∷ CloseGroup x.0 g c ∷ l)
    (places_push xs i d rs r cs ds (omega arith) (omega arith) (omega arith))

pub filter-append : (rs qs : List Reply)
    → length (filter is_filling (rs ++ qs)) ≡ length (filter is_filling rs) + length (filter is_filling qs)
filter-append [] qs = omega arith
filter-append (Fresh ∷ rs) qs = filter-append rs qs
filter-append (Repeated ∷ rs) qs = filter-append rs qs
filter-append (Completing ∷ rs) qs = filter-append rs qs
filter-append (Fills g ∷ rs) qs = let h = filter-append rs qs in omega arith

filter_one : (r : Reply) → length (filter is_filling (r ∷ [])) ≤ 1
filter_one Fresh = omega arith
filter_one Repeated = omega arith
filter_one Completing = omega arith
filter_one (Fills g) = omega arith

-- there is an answer for each group that was filled, also with one place more
pub closed_push : (rs rs' : List Reply) (r : Reply) (cs cs' ds : List Closing) → rs' ≡ rs ++ r ∷ [] → cs' ≡ cs ++ ds
    → length cs ≡ length (filter is_filling rs) → length ds ≡ length (filter is_filling (r ∷ []))
    → (length cs' ≡ length (filter is_filling rs')) × (length cs' ≤ length cs + 1)
closed_push rs rs' r cs cs' ds is_r is_c all one =
    let a = ap length is_c ∙ length-append cs ds in
    let b = ap (λ l. length (filter is_filling l)) is_r ∙ filter-append rs (r ∷ []) in
    let few = filter_one r in
    (omega arith, omega arith)

-- what a place completes
pub completed_place : (x : ℕ × ℕ) (r : Reply) (c : Option Closing)
    → completed (place_calls (x ∷ []) (r ∷ []) (answer_list c)) ≡ (if completes_sheet r c then x.0 ∷ [] else [])
completed_place x Fresh c = refl
completed_place x Repeated c = refl
completed_place x Completing c = refl
completed_place x (Fills g) None = refl
completed_place x (Fills g) (Some c) = two (closes_last c)
  where
    two : (b : Bool) → ((if b then x.0 ∷ [] else []) ++ []) ≡ (if b then x.0 ∷ [] else [])
    two true = refl
    two false = refl

pub completed-append : (xs ys : List Entry) → completed (xs ++ ys) ≡ completed xs ++ completed ys
completed-append [] ys = refl
completed-append (x ∷ xs) ys =
    ap (λ l. sheet_completed x ++ l) (completed-append xs ys)
    ∙ sym (append_assoc (sheet_completed x) (completed xs) (completed ys))

pub still_seat : (table : TableView) (old new : SeatView) (es : List Entry) → IsSeatOf table old → MakesCalls old es new → IsSeatOf table new
still_seat table old new es is m = let s = same_makes old new es m in (ap (λ (z : SeatView). z.table) s ∙ is.0, ap (λ (z : SeatView). z.key) s ∙ is.1)

-- the calls for one place more
pub on_calls : (xs : List (ℕ × ℕ)) (i : ℕ) (d : ℕ × ℕ) (rs rs' : List Reply) (r : Reply) (cs cs' ds : List Closing)
    → i < length xs → length rs ≡ i → length cs ≡ length (filter is_filling rs)
    → rs' ≡ rs ++ r ∷ [] → cs' ≡ cs ++ ds
    → place_calls (take (i + 1) xs) rs' cs'
    ≡ place_calls (take i xs) rs cs ++ place_calls (get_or xs i d ∷ []) (r ∷ []) ds
on_calls xs i d rs rs' r cs cs' ds lt len all is_r is_c =
    (λ j. place_calls (take (add-one i j) xs) (is_r j) (is_c j)) ∙ places_push xs i d rs r cs ds lt len all

pub places_on : (old mid new : SeatView) (xs : List (ℕ × ℕ)) (i : ℕ) (d : ℕ × ℕ) (rs rs' : List Reply) (r : Reply)
    (cs cs' ds : List Closing) → i < length xs → length rs ≡ i → length cs ≡ length (filter is_filling rs)
    → rs' ≡ rs ++ r ∷ [] → cs' ≡ cs ++ ds
    → MakesCalls old (place_calls (take i xs) rs cs) mid → MakesCalls mid (place_calls (get_or xs i d ∷ []) (r ∷ []) ds) new
    → MakesCalls old (place_calls (take (i + 1) xs) rs' cs') new
places_on old mid new xs i d rs rs' r cs cs' ds lt len all is_r is_c m one =
    subst (λ es. MakesCalls old es new) (sym (on_calls xs i d rs rs' r cs cs' ds lt len all is_r is_c))
    (makes-append old mid new _ _ m one)

-- a page was published, and its places were marked
pub delivered : (layout : Layout) (old mid new : SeatView) (p q i j : ℕ) (was : Published) (places : List (ℕ × ℕ)) (rs : List Reply) (cs : List Closing)
    → q ≡ p → j ≡ i → places ≡ places_of layout p → MadeCall old (Publish q j was) mid → MakesCalls mid (place_calls places rs cs) new
    → MakesCalls old (delivery_calls layout p i was rs cs) new
delivered layout old mid new p q i j was places rs cs page index are put marked = (
  mid,
  subst (λ e. MadeCall old e mid) (λ k. Publish (page k) (index k) was) put,
  subst (λ xs. MakesCalls mid (place_calls xs rs cs) new) are marked,
)
