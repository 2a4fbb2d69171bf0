-- The look-ups of a sheet's pages, one by one.
use Rattle.std.proofs.Common.{◌≡◌, ℕ, zero, suc, ◌+◌, ◌<◌, ◌≤◌, List, [], ◌∷◌, ◌++◌, Option, Some, length, take, drop, refl, sym, ap, ◌∙◌, subst, arith, length-append}
use Rattle.std.specs.Prelude.{None, Result, Ok, Err, IsErrAnd, MatchResult, OnErr, slice_get}
use Rattle.std.proofs.lemmas.List.{take_all}
use Rattle.rules.specs.Sheets.{Layout, Plan, layout}
use Rattle.sheet_plan.specs.Plans.{pages_on}
use Rattle.gather_table.specs.Table.{slots}
use Rattle.gather_table.specs.History.{Entry, PageAt, IsLegal, IsComplete, after_history}
use Rattle.gather_table.specs.Shared.{TableView, SeatView, IsSeat, IsSeatOf, MadeCall, MakesCalls}
use Rattle.gather_table.proofs.Groups.{pages_of as index_of}
use Rattle.gather_table.proofs.Calls.{makes_push, begins_makes, same_makes, complete_stays, finds_index}
use Rattle.sheet_text.specs.Jobs.{JobView}
use Rattle.run_steps.specs.LookUps.{needed, pages_of, look_ups, LooksUp, LooksUpUntil, LooksAt, HasIndex}
use Rattle.run_steps.specs.declared.imposition.ImposeError.{ImposeError}
use Rattle.run_steps.specs.declared.imposition.ImposeError.TheVariants.{NoMemory, NotShown}

-- a job with the plan that was read off it
abbrev pub with_plan : JobView → Plan → JobView
with_plan job plan = record job { plan = plan }

pub same_job : (job : JobView) (plan : Plan) → plan ≡ job.plan → with_plan job plan ≡ job
same_job job plan is = ap (with_plan job) is

-- each page of a sheet that the seat has seen complete has an index
pub has_index : (plan : Plan) (table : Layout) (seat : SeatView) (s k p : ℕ) → table ≡ layout plan → seat.key ≡ table → IsSeat seat → IsComplete table seat.front s
    → slice_get (pages_on plan s) k ≡ Some (Some p) → HasIndex table seat.front p
has_index plan table seat s k p same of ok complete read =
    index_of table seat.front s k p (subst (λ (l : Layout). IsLegal l seat.front) of ok.legal) complete (ap (λ (l : Layout). slice_get (slots l s) k) same ∙ read)

-- and a look-up finds it
pub is_found : (table : Layout) (old new : SeatView) (p : ℕ) (found : Option ℕ) → old.key ≡ table → HasIndex table old.front p → MadeCall old (PageAt p found) new → found ≡ None → ⊥
is_found table old new p found of has made none =
    let at : (after_history old.key old.front).index p ≡ Some has.0 = subst (λ (l : Layout). (after_history l old.front).index p ≡ Some has.0) (sym of) has.1 in
    let is : found ≡ Some has.0 = finds_index old new p has.0 found made at in
    absurd (cc (is, none))

-- the seat after some calls
pub still_seat : (table : TableView) (old new : SeatView) (es : List Entry) → IsSeatOf table old → MakesCalls old es new → IsSeatOf table new
still_seat table old new es of made =
    let same = same_makes old new es made in (ap (λ (z : SeatView). z.table) same ∙ of.0, ap (λ (z : SeatView). z.key) same ∙ of.1)

pub still_complete : (table : Layout) (old new : SeatView) (es : List Entry) (s : ℕ) → IsComplete table old.front s → MakesCalls old es new → IsComplete table new.front s
still_complete table old new es s complete made = complete_stays table old.front new.front s (begins_makes old new es made) complete

-- the pages of the first slots
module _ where
  needed_one : (xs : List (Option ℕ)) (k p : ℕ) → slice_get xs k ≡ Some (Some p) → needed xs ≡ needed (take k xs) ++ p ∷ needed (drop (suc k) xs)
  needed_one [] k p at = absurd (cc)
  needed_one (None ∷ xs) zero p at = absurd (cc)
  needed_one (Some q ∷ xs) zero p at = let same : q ≡ p = cc in ap (λ z. z ∷ needed xs) same
  needed_one (None ∷ xs) (suc k) p at = needed_one xs k p at
  needed_one (Some q ∷ xs) (suc k) p at = ap (λ l. q ∷ l) (needed_one xs k p at)

  some_more : (xs : List (Option ℕ)) (k p : ℕ) → slice_get xs k ≡ Some (Some p) → length (needed (take (suc k) xs)) ≡ suc (length (needed (take k xs)))
  some_more [] k p at = absurd (cc)
  some_more (None ∷ xs) zero p at = absurd (cc)
  some_more (Some q ∷ xs) zero p at = refl
  some_more (None ∷ xs) (suc k) p at = some_more xs k p at
  some_more (Some q ∷ xs) (suc k) p at = ap suc (some_more xs k p at)

  blank_more : (xs : List (Option ℕ)) (k : ℕ) → slice_get xs k ≡ Some None → length (needed (take (suc k) xs)) ≡ length (needed (take k xs))
  blank_more [] k at = absurd (cc)
  blank_more (None ∷ xs) zero at = refl
  blank_more (Some q ∷ xs) zero at = absurd (cc)
  blank_more (None ∷ xs) (suc k) at = blank_more xs k at
  blank_more (Some q ∷ xs) (suc k) at = ap suc (blank_more xs k at)

  none_more : (xs : List (Option ℕ)) (k : ℕ) → slice_get xs k ≡ None → length (needed (take (suc k) xs)) ≡ length (needed (take k xs))
  none_more [] zero at = refl
  none_more [] (suc k) at = refl
  none_more (x ∷ xs) zero at = absurd (cc)
  none_more (None ∷ xs) (suc k) at = none_more xs k at
  none_more (Some q ∷ xs) (suc k) at = ap suc (none_more xs k at)

  needed_few : (xs : List (Option ℕ)) (k : ℕ) → length (needed (take k xs)) ≤ length (needed xs)
  needed_few [] zero = omega arith
  needed_few [] (suc k) = omega arith
  needed_few (x ∷ xs) zero = omega arith
  needed_few (None ∷ xs) (suc k) = needed_few xs k
  needed_few (Some q ∷ xs) (suc k) = let few = needed_few xs k in omega arith

no_indexes : (ps : List ℕ) → look_ups ps [] ≡ []
no_indexes [] = refl
no_indexes (p ∷ ps) = refl

look_ups_push : (ps qs is : List ℕ) (p i : ℕ) → length is ≡ length ps → look_ups (ps ++ p ∷ qs) (is ++ i ∷ []) ≡ look_ups (ps ++ p ∷ qs) is ++ PageAt p (Some i) ∷ []
look_ups_push [] qs [] p i e = ap (λ l. PageAt p (Some i) ∷ l) (no_indexes qs)
look_ups_push [] qs (j ∷ is) p i e = absurd (omega arith)
look_ups_push (q ∷ ps) qs [] p i e = absurd (omega arith)
look_ups_push (q ∷ ps) qs (j ∷ is) p i e = ap (λ l. PageAt q (Some j) ∷ l) (look_ups_push ps qs is p i (omega arith))

-- no page yet
pub looks_none : (seat : SeatView) (ps : List ℕ) → LooksUp ps 0 seat seat
looks_none seat ps = record { within = omega arith; indexes = []; found = refl; made = subst (λ es. MakesCalls seat es seat) (sym (no_indexes ps)) refl }

-- a slot more
module _ where
  looks_same : (old new : SeatView) (xs : List (Option ℕ)) (k : ℕ) → length (needed (take (suc k) xs)) ≡ length (needed (take k xs)) → LooksUp (needed xs) (length (needed (take k xs))) old new
      → LooksUp (needed xs) (length (needed (take (suc k) xs))) old new
  looks_same old new xs k same looked = subst (λ n. LooksUp (needed xs) n old new) (sym same) looked

  looks_more : (old mid new : SeatView) (xs : List (Option ℕ)) (k p i : ℕ) → slice_get xs k ≡ Some (Some p) → LooksUp (needed xs) (length (needed (take k xs))) old mid → MadeCall mid (PageAt p (Some i)) new
      → LooksUp (needed xs) (length (needed (take (suc k) xs))) old new
  looks_more old mid new xs k p i at looked made =
      let all : needed xs ≡ needed (take k xs) ++ p ∷ needed (drop (suc k) xs) = needed_one xs k p at in
      let grown : look_ups (needed xs) (looked.indexes ++ i ∷ []) ≡ look_ups (needed xs) looked.indexes ++ PageAt p (Some i) ∷ [] =
      subst (λ ps. look_ups ps (looked.indexes ++ i ∷ []) ≡ look_ups ps looked.indexes ++ PageAt p (Some i) ∷ []) (sym all) (look_ups_push (needed (take k xs)) (needed (drop (suc k) xs)) looked.indexes p i looked.found) in
      record {
        within = needed_few xs (suc k);
        indexes = looked.indexes ++ i ∷ [];
        found = let before = looked.found in let more = some_more xs k p at in omega (arith, length-append looked.indexes (i ∷ []));
        made = subst (λ es. MakesCalls old es new) (sym grown) (makes_push old mid new (look_ups (needed xs) looked.indexes) (PageAt p (Some i)) looked.made made);
      }

  looks_next : (old mid new : SeatView) (xs : List (Option ℕ)) (k : ℕ) (o : Option (Option ℕ)) → slice_get xs k ≡ o → LooksUp (needed xs) (length (needed (take k xs))) old mid → LooksAt o mid new
      → LooksUp (needed xs) (length (needed (take (suc k) xs))) old new
  looks_next old mid new xs k None at looked next = subst (LooksUp (needed xs) (length (needed (take (suc k) xs))) old) (sym next) (looks_same old mid xs k (none_more xs k at) looked)
  looks_next old mid new xs k (Some None) at looked next = subst (LooksUp (needed xs) (length (needed (take (suc k) xs))) old) (sym next) (looks_same old mid xs k (blank_more xs k at) looked)
  looks_next old mid new xs k (Some (Some p)) at looked next = looks_more old mid new xs k p next.0 at looked next.1

-- the same of a sheet of the plan whose layout the table has
pub looks_on : (job : JobView) (table : Layout) (old mid new : SeatView) (s k : ℕ) → table ≡ layout job.plan → LooksUp (pages_of table s) (length (needed (take k (slots table s)))) old mid
    → LooksAt (slice_get (pages_on job.plan s) k) mid new → LooksUp (pages_of table s) (length (needed (take (k + 1) (slots table s)))) old new
looks_on job table old mid new s k same looked next =
    let more : suc k ≡ k + 1 = omega arith in
    subst (λ n. LooksUp (pages_of table s) (length (needed (take n (slots table s)))) old new) more
    (looks_next old mid new (slots table s) k (slice_get (pages_on job.plan s) k) (ap (λ (l : Layout). slice_get (slots l s) k) same) looked next)

-- a slot with a page is one look-up at least
pub looks_some : (job : JobView) (table : Layout) (s k p : ℕ) → table ≡ layout job.plan → slice_get (pages_on job.plan s) k ≡ Some (Some p) → 0 < length (needed (take (k + 1) (slots table s)))
looks_some job table s k p same at =
    let more : suc k ≡ k + 1 = omega arith in
    let one : length (needed (take (suc k) (slots table s))) ≡ suc (length (needed (take k (slots table s)))) = some_more (slots table s) k p (ap (λ (l : Layout). slice_get (slots l s) k) same ∙ at) in
    subst (λ n. 0 < length (needed (take n (slots table s)))) more (omega (arith, one))

-- whatever is answered then
pub looks_until : (ps : List ℕ) (e : ImposeError) (old new : SeatView) (n : ℕ) → 0 < n → LooksUp ps n old new → LooksUpUntil ps e old new
looks_until ps NoMemory old new n some looked = (n, looked)
looks_until ps NotShown old new n some looked = (n, some, looked)

-- all slots
pub looks_done : (inside job : JobView) (table : Layout) (old new : SeatView) (s k end : ℕ) → inside ≡ job → table ≡ layout job.plan → end ≡ length (pages_on inside.plan s) → k ≡ end
    → LooksUp (pages_of table s) (length (needed (take k (slots table s)))) old new → LooksUp (pages_of table s) (length (pages_of table s)) old new
looks_done inside job table old new s k end view same end_is k_is looked =
    let all : k ≡ length (slots table s) = k_is ∙ end_is ∙ ap (λ (j : JobView). length (pages_on j.plan s)) view ∙ ap (λ (l : Layout). length (slots l s)) (sym same) in
    subst (λ xs. LooksUp (pages_of table s) (length (needed xs)) old new) (take_all k (slots table s) (omega (arith, all))) looked

-- an error that is handed on
pub handed_on : {T E : Type 0} (r : Result T E) (e : E) (A : T → Type 0) (B : E → Type 0) → IsErrAnd r (λ g. g ≡ e) → B e → MatchResult r A B
handed_on (Ok x) e A B is holds = absurd is
handed_on (Err g) e A B is holds = subst B (sym is) holds

pub on_err : {T E : Type 0} (r : Result T E) (P : Type 0) → P → OnErr r P
on_err (Ok x) P holds = tt
on_err (Err e) P holds = holds
