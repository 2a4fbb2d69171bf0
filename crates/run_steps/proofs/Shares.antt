-- The shares of all preparers make up the whole, and a delivery does what its page wants done.
use Rattle.std.proofs.Common.{◌≡◌, ℕ, zero, suc, ◌+◌, ◌<◌, ◌≤◌, ◌%◌, ◌==◌, ◌&&◌, Bool, true, false, if◌then◌else◌, List}
use Rattle.std.proofs.Common.{[], ◌∷◌, ◌++◌, length, map, arith, refl}
use Rattle.std.specs.Prelude.{filter}
use Rattle.rules.specs.Sheets.{Layout}
use Rattle.rules.specs.Seats.{total, occurrences}
use Rattle.rules.proofs.SeatTotals.{total-append}
use Rattle.sheet_plan.specs.Places.{places_of}
use Rattle.gather_table.specs.declared.answers.Reply.{Reply}
use Rattle.gather_table.specs.declared.answers.Reply.TheVariants.{Fresh, Repeated, Completing, Fills}
use Rattle.gather_table.specs.declared.answers.Closing.{Closing}
use Rattle.gather_table.specs.History.{Entry, Publish, Mark, Look, PageAt, CloseGroup, LookGroup}
use Rattle.gather_table.specs.Laws.{is_completing, closes_last, completes, fillings, closings}
use Rattle.run_steps.specs.Delivery.{is_filling, closing_after, left_after, place_calls, sheet_completed, completed}
use Rattle.run_steps.specs.Delivery.{DeliveriesClose, CompletedAreCounted, CompletedAreFew}
use Rattle.run_steps.specs.Duty.{Duty, worth, of_place, duties, shares, DeliveriesWeigh, SharesAreAll}

-- what the first k preparers owe for page p alone
abbrev at_page : (Duty → ℕ) → Layout → ℕ → ℕ → ℕ → ℕ
at_page h layout count p zero = 0
at_page h layout count p (suc k) = at_page h layout count p k + (if p % count == k then total h (duties layout p) else 0)

one_more : (h : Duty → ℕ) (layout : Layout) (count n k : ℕ) → shares h layout count (suc n) k ≡ shares h layout count n k + at_page h layout count n k
one_more h layout count n zero = refl
one_more h layout count n (suc k) = let i = one_more h layout count n k in omega arith

none_pages : (h : Duty → ℕ) (layout : Layout) (count k : ℕ) → shares h layout count 0 k ≡ 0
none_pages h layout count zero = refl
none_pages h layout count (suc k) = let i = none_pages h layout count k in omega arith

below : (h : Duty → ℕ) (layout : Layout) (count p k : ℕ) → k ≤ p % count → at_page h layout count p k ≡ 0
below h layout count p zero le = refl
below h layout count p (suc k) le = let i = below h layout count p k (omega arith) in grind arith

above : (h : Duty → ℕ) (layout : Layout) (count p k : ℕ) → p % count < k → at_page h layout count p k ≡ total h (duties layout p)
above h layout count p zero lt = absurd (omega arith)
above h layout count p (suc k) lt = let a = above h layout count p k in let b = below h layout count p k in grind arith

pub together : SharesAreAll
together h layout count some zero = none_pages h layout count count
together h layout count some (suc n) = let i = together h layout count some n in let a = above h layout count n count (grind arith) in let m = one_more h layout count n count in omega arith

closing_weighs_nothing : (h : Duty → ℕ) (s : ℕ) (r : Reply) (cs : List Closing) (es : List Entry)
    → total (worth h) (closing_after s r cs ++ es) ≡ total (worth h) es
closing_weighs_nothing h s Fresh cs es = refl
closing_weighs_nothing h s Repeated cs es = refl
closing_weighs_nothing h s Completing cs es = refl
closing_weighs_nothing h s (Fills g) [] es = refl
closing_weighs_nothing h s (Fills g) (c ∷ cs) es = omega arith

places_weight : (h : Duty → ℕ) (xs : List (ℕ × ℕ)) (rs : List Reply) (cs : List Closing) → length rs ≡ length xs
    → total (worth h) (place_calls xs rs cs) ≡ total h (map of_place xs)
places_weight h [] rs cs e = refl
places_weight h (x ∷ xs) [] cs e = absurd (omega arith)
places_weight h (x ∷ xs) (r ∷ rs) cs e =
    let i = places_weight h xs rs (left_after r cs) (omega arith) in
    let c = closing_weighs_nothing h x.0 r cs (place_calls xs rs (left_after r cs)) in
    omega arith

pub delivery_weight : DeliveriesWeigh
delivery_weight h layout p i was rs cs e = let m = places_weight h (places_of layout p) rs cs e in omega arith

-- a delivery closes what it fills
places_close : (s g : ℕ) (xs : List (ℕ × ℕ)) (rs : List Reply) (cs : List Closing)
    → length cs ≡ length (filter is_filling rs)
    → closings s g (place_calls xs rs cs) ≡ fillings s g (place_calls xs rs cs)
places_close s g [] rs cs e = refl
places_close s g (x ∷ xs) [] cs e = refl
places_close s g (x ∷ xs) (Fresh ∷ rs) cs e = let i = places_close s g xs rs cs e in omega arith
places_close s g (x ∷ xs) (Repeated ∷ rs) cs e = let i = places_close s g xs rs cs e in omega arith
places_close s g (x ∷ xs) (Completing ∷ rs) cs e = let i = places_close s g xs rs cs e in omega arith
places_close s g (x ∷ xs) (Fills h ∷ rs) [] e = absurd (omega arith)
places_close s g (x ∷ xs) (Fills h ∷ rs) (c ∷ cs) e = let i = places_close s g xs rs cs (omega arith) in omega arith

pub deliveries_close : DeliveriesClose
deliveries_close layout p i was rs cs a s g =
    let i = places_close s g (places_of layout p) rs cs a.closes in omega arith

-- what calls completed is counted
times_where : (s x : ℕ) (b : Bool) → occurrences s (if b then x ∷ [] else []) ≡ (if b && (x == s) then 1 else 0)
times_where s x true = omega arith
times_where s x false = refl

one_completed : (s : ℕ) (e : Entry) → occurrences s (sheet_completed e) ≡ (if completes s e then 1 else 0)
one_completed s (Publish p i r) = refl
one_completed s (Mark r k reply) = times_where s r (is_completing reply)
one_completed s (Look r m) = refl
one_completed s (PageAt p o) = refl
one_completed s (CloseGroup r g c) = times_where s r (closes_last c)
one_completed s (LookGroup r g m) = refl

pub completed_counted : CompletedAreCounted
completed_counted s [] = refl
completed_counted s (e ∷ es) =
    let rest = completed_counted s es in
    let both : occurrences s (sheet_completed e ++ completed es) ≡ occurrences s (sheet_completed e) + occurrences s (completed es) =
    total-append _ (sheet_completed e) (completed es) in
    let one = one_completed s e in
    omega arith

-- each place completes one sheet at most
pub places_complete : (xs : List (ℕ × ℕ)) (rs : List Reply) (cs : List Closing) → length (completed (place_calls xs rs cs)) ≤ length xs
places_complete [] rs cs = omega arith
places_complete (x ∷ xs) [] cs = omega arith
places_complete (x ∷ xs) (Fresh ∷ rs) cs = let i = places_complete xs rs cs in omega arith
places_complete (x ∷ xs) (Repeated ∷ rs) cs = let i = places_complete xs rs cs in omega arith
places_complete (x ∷ xs) (Completing ∷ rs) cs = let i = places_complete xs rs cs in omega arith
places_complete (x ∷ xs) (Fills g ∷ rs) [] = let i = places_complete xs rs [] in omega arith
places_complete (x ∷ xs) (Fills g ∷ rs) (c ∷ cs) = by_closing (closes_last c) (places_complete xs rs cs)
  where
    by_closing : (b : Bool) → length (completed (place_calls xs rs cs)) ≤ length xs
        → length ((if b then x.0 ∷ [] else []) ++ completed (place_calls xs rs cs)) ≤ suc (length xs)
    by_closing true i = omega arith
    by_closing false i = omega arith

pub completed_few : CompletedAreFew
completed_few layout p i was rs cs = places_complete (places_of layout p) rs cs
