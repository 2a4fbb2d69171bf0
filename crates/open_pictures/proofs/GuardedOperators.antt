-- Operators of a table that don't look at what matrices hold are placeless under the guard too.
use Rattle.std.specs.Prelude.{Option, Some, None, if◌then◌else◌}
use Rattle.std.proofs.Common.{◌≡◌, ℕ, Bool, true, refl, ap, ◌∙◌, sym, subst, false, List, [], ◌∷◌, ◌++◌, map, append_assoc}
use Rattle.pictures.specs.Objects.{Token, Name, Bound, Object, Effect, Segments, Transforms, Sets, Paints, PaintsBeside, Shows, Clips, Forgets, Call}
use Rattle.pictures.specs.Operators.{with_operands}
use Rattle.pictures.specs.Unaware.{no_saved}
use Rattle.pictures.specs.Machine.{State, KeptMatrix, step}
use Rattle.pictures.specs.Pages.{AroundGuarded, placed_at, kept_at}
use Rattle.open_pictures.specs.Operators.{Visible, sight_of, Stroke, Outcome, Blind, struck, all_struck, after_past, going_on, come_to, blindly, Table, Stop, table_entry, next_stop, called, looked_up, by_table, TakesOthers, taken_plain, Answer, strokes_of, answered, answers_on}
use Rattle.open_pictures.proofs.Points.{point_is_placeless}
use Rattle.open_pictures.proofs.Operators.{never, some_same, stops, acts_in, rest_there, past_there, past}
use Rattle.open_pictures.specs.Shelter.{SeesNoMatrices, TablesArePlacelessThere, AnswersSeeNoMatrices}

struck_at : (a : AroundGuarded) (e : Effect) (c : Call) (s : State)
    → struck (record { effect = e; call = c }) (placed_at a s) ≡ placed_at a (struck (record { effect = e; call = c }) s)
struck_at a Segments c s = refl
struck_at a Transforms c s = refl
struck_at a Sets c s = refl
struck_at a Paints c s = refl
struck_at a PaintsBeside c s = refl
struck_at a Shows c s = refl
struck_at a Clips c s = refl
struck_at a Forgets c s = refl

all_struck_at : (a : AroundGuarded) (xs : List Stroke) (s : State) → all_struck xs (placed_at a s) ≡ placed_at a (all_struck xs s)
all_struck_at a [] s = refl
all_struck_at a (x ∷ xs) s = ap (all_struck xs) (struck_at a x.effect x.call s) ∙ all_struck_at a xs (struck x s)

-- what matrices hold, placed
abbrev kept_there : AroundGuarded → List KeptMatrix → List KeptMatrix
kept_there a ks = map (kept_at a.place) ks ++ a.kept

abbrev begun_with : Outcome → List Token → List KeptMatrix → State → State
begun_with o ts ks s = record s { left = o.next ++ ts; work = o.work; kept = ks }

sight_there : (a : AroundGuarded) (s : State) → sight_of (placed_at a s) ≡ record (sight_of s) { kept = kept_there a s.kept }
sight_there a s =
    ap (λ p. record (sight_of s) { kept = kept_there a s.kept; point = p }) (point_is_placeless a.place s.graphics.chain s.graphics.path)

goes_there : (a : AroundGuarded) (f : Blind) (s t : State) (o : Outcome) (r : Option (List Token)) → after_past o.past s.left ≡ r
    → (o.kept ≡ s.kept) × (f (record (sight_of s) { kept = kept_there a s.kept }) ≡ Some (record o { kept = kept_there a s.kept }))
    → going_on o r s ≡ Some t → blindly f (placed_at a s) ≡ Some (placed_at a t)
goes_there a f s t o None d z e = absurd (never t e)
goes_there a f s t o (Some ts) d z e =
    ap (λ y. come_to (f y) (placed_at a s)) (sight_there a s)
    ∙ ap (λ r. come_to r (placed_at a s)) z.1
    ∙ ap (λ r. going_on (record o { kept = kept_there a s.kept }) r (placed_at a s)) (past_there o.past s.left a.left ts d)
    ∙ ap (λ l. Some (all_struck o.strokes (record (placed_at a s) { left = l; work = o.work; kept = kept_there a s.kept }))) (sym (append_assoc o.next ts a.left))
    ∙ ap (λ r. Some r) (all_struck_at a o.strokes (begun_with o ts s.kept s))
    ∙ ap (λ ks. Some (placed_at a (all_struck o.strokes (begun_with o ts ks s)))) (sym z.0)
    ∙ ap (there a) e
  where
    there : AroundGuarded → Option State → Option State
    there a None = None
    there a (Some t) = Some (placed_at a t)

comes_there : (a : AroundGuarded) (f : Blind) (s t : State) (r : Option Outcome) → f (sight_of s) ≡ r → SeesNoMatrices f → come_to r s ≡ Some t → blindly f (placed_at a s) ≡ Some (placed_at a t)
comes_there a f s t None g q e = absurd (never t e)
comes_there a f s t (Some o) g q e =
    goes_there a f s t o (after_past o.past s.left) refl (q (sight_of s) o (kept_there a s.kept) g) e

called_there : (a : AroundGuarded) (s t : State) (r : Option Blind) → ((f : Blind) → r ≡ Some f → SeesNoMatrices f) → called r s ≡ Some t → called r (placed_at a s) ≡ Some (placed_at a t)
called_there a s t None q e = absurd (never t e)
called_there a s t (Some f) q e = comes_there a f s t (f (sight_of s)) refl (q f refl) e

next_there : (a : AroundGuarded) (ts : List Token) (s : State) (found : Stop) → next_stop ts s ≡ Some found → next_stop (ts ++ a.left) (placed_at a s) ≡ Some found
next_there a [] s found e = absurd (never found e)
next_there a (Name name ∷ ts) s found e = e
next_there a (Bound name ∷ ts) s found e = e
next_there a (t ∷ ts) s found e = absurd (never found e)

by_next : (table : Table) (a : AroundGuarded) (s t : State) (r : Option Stop) → TakesOthers table → ((stop : Stop) (f : Blind) → table_entry table stop ≡ Some f → SeesNoMatrices f)
    → next_stop s.left s ≡ r → looked_up table r (past s) ≡ Some t
    → (step false (placed_at a s) ≡ None) × (by_table table (placed_at a s) ≡ Some (placed_at a t))
by_next table a s t None p q e k = absurd (never t k)
by_next table a s t (Some found) p q e k =
    let next : next_stop (s.left ++ a.left) (placed_at a s) ≡ Some found = next_there a s.left s found e in
    let there : called (table_entry table found) (past (placed_at a s)) ≡ Some (placed_at a t) =
    ap (λ l. called (table_entry table found) (record (placed_at a s) { left = l })) (rest_there a.left s.left s found e)
    ∙ called_there a (past s) t (table_entry table found) (q found) k in (
      stops table (s.left ++ a.left) (placed_at a s) found p next (acts_in (past (placed_at a s)) (placed_at a t) (table_entry table found) there),
      ap (λ r. looked_up table r (past (placed_at a s))) next ∙ there,
    )

pub tables_are_placeless_there : TablesArePlacelessThere
tables_are_placeless_there table p q a s t e k = by_next table a s t (next_stop s.left s) p q refl k

-- Answers.

abbrev made_with : List Object → List Stroke → Visible → Outcome
made_with os strokes sight = record { next = []; past = None; work = with_operands sight.work os; kept = sight.kept; strokes = strokes }

abbrev holding : List KeptMatrix → Visible → Visible
holding ks sight = record sight { kept = ks }

abbrev Holds : List KeptMatrix → Visible → Outcome → Option Outcome → Type 0
Holds ks sight o r = (o.kept ≡ sight.kept) × (r ≡ Some (record o { kept = ks }))

if_clean : (ks : List KeptMatrix) (sight : Visible) (o : Outcome) (os : List Object) (xs : List Stroke) (b : Bool)
    → (if b then Some (made_with os xs sight) else None) ≡ Some o → Holds ks sight o (if b then Some (made_with os xs (holding ks sight)) else None)
if_clean ks sight o os xs false e = absurd (never o e)
if_clean ks sight o os xs true e =
    subst (λ z. Holds ks sight z (Some (made_with os xs (holding ks sight)))) (some_same (made_with os xs sight) o e) (refl, refl)

if_answered : (ks : List KeptMatrix) (sight : Visible) (o : Outcome) (rest : List Object) (xs : List Stroke) (q : Option (List Object))
    → answered q xs rest sight ≡ Some o → Holds ks sight o (answered q xs rest (holding ks sight))
if_answered ks sight o rest xs None e = absurd (never o e)
if_answered ks sight o rest xs (Some rs) e = if_clean ks sight o (rs ++ rest) xs (no_saved rs) e

if_taken : (name : List ℕ) (e : Option Effect) (answer : Answer) (ks : List KeptMatrix) (sight : Visible) (o : Outcome) (r : Option (List Object × List Object))
    → answers_on name e answer r sight ≡ Some o → Holds ks sight o (answers_on name e answer r (holding ks sight))
if_taken name e answer ks sight o None k = absurd (never o k)
if_taken name e answer ks sight o (Some (os, rest)) k = if_answered ks sight o rest (strokes_of e name os) (answer os sight.settings) k

pub answers_see_no_matrices : AnswersSeeNoMatrices
answers_see_no_matrices name n e answer sight o ks k = if_taken name e answer ks sight o (taken_plain n sight.work.operands) k
