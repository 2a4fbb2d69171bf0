-- Operators that see no place are placeless, whatever they do; and those that answer by their operands and the settings ask for
-- none of the names that the sheet's text puts.
use Rattle.std.specs.Prelude.{Option, Some, None, if◌then◌else◌, option_map, bytes_eq}
use Rattle.std.proofs.Common.{◌≡◌, ℕ, zero, suc, refl, ap, ◌∙◌, sym, subst, Bool, true, false, List, [], ◌∷◌, ◌++◌, append_assoc, true≢false, is_none}
use Rattle.std.proofs.lemmas.List.{map-append}
use Rattle.pictures.specs.Objects.{Token, Name, Bound, Object, Saved, Operator, Kind, Computes, Controls, Draws, Looks, CopiesPage, Effect, Segments, Transforms, Sets, Paints, PaintsBeside, Shows, Clips, Forgets, Call}
use Rattle.pictures.specs.Dictionaries.{DictionaryEntry, meaning, system}
use Rattle.pictures.specs.Operators.{with_operands, also}
use Rattle.pictures.specs.Machine.{State, step, step_on, meant, perform, worked, running, drawn}
use Rattle.pictures.specs.Placing.{Around, state_at}
use Rattle.pictures.specs.Sheets.{among}
use Rattle.pictures.specs.Unaware.{put_names, no_saved}
use Rattle.pictures.specs.Shifted.{one_save_more, ups, AgreeShifted, AllAgree, up_work, up_state}
use Rattle.pictures.proofs.Shifted.{up_taken, ups_same}
use Rattle.pictures.proofs.Names.{meaning_agrees}
use Rattle.open_pictures.specs.Operators.{Visible, sight_of, Stroke, Outcome, Blind, struck, all_struck, after_name, after_past, going_on, come_to, blindly, Table, Stop, AtName, AtOperands, stop_of, next_stop, table_entry, only_names, after_first, called, looked_up, by_table, FailsOnOperands, TakesOthers, AsksForNone, AllAskForNone, taken_plain, Answer, strokes_of, answered, answers_on, answering}
use Rattle.open_pictures.specs.Operators.{TablesArePlaceless, TablesAreBlind, AnswersAskForNone}
use Rattle.open_pictures.proofs.Points.{point_is_placeless}

pub never : {A : Type 0} (x : A) → None ≡ Some x → ⊥
never x e = true≢false (ap is_none e)

pub some_same : {A : Type 0} (x y : A) → Some x ≡ Some y → x ≡ y
some_same x y e = ap (or_x x) e
  where
    or_x : {A : Type 0} → A → Option A → A
    or_x x None = x
    or_x x (Some y) = y

-- What is drawn.

struck_at : (a : Around) (e : Effect) (c : Call) (s : State)
    → struck (record { effect = e; call = c }) (state_at a s) ≡ state_at a (struck (record { effect = e; call = c }) s)
struck_at a Segments c s = refl
struck_at a Transforms c s = refl
struck_at a Sets c s = refl
struck_at a Paints c s = refl
struck_at a PaintsBeside c s = refl
struck_at a Shows c s = refl
struck_at a Clips c s = refl
struck_at a Forgets c s = refl

all_struck_at : (a : Around) (xs : List Stroke) (s : State) → all_struck xs (state_at a s) ≡ state_at a (all_struck xs s)
all_struck_at a [] s = refl
all_struck_at a (x ∷ xs) s = ap (all_struck xs) (struck_at a x.effect x.call s) ∙ all_struck_at a xs (struck x s)

if_there : (b : Bool) (ts more us : List Token) (r there : Option (List Token)) → (r ≡ Some us → there ≡ Some (us ++ more))
    → (if b then Some ts else r) ≡ Some us → (if b then Some (ts ++ more) else there) ≡ Some (us ++ more)
if_there true ts more us r there f e = ap (λ l. Some (l ++ more)) (some_same ts us e)
if_there false ts more us r there f e = f e

name_there : (name : List ℕ) (ts more us : List Token) → after_name name ts ≡ Some us → after_name name (ts ++ more) ≡ Some (us ++ more)
name_there name [] more us e = absurd (never us e)
name_there name (Name other ∷ ts) more us e =
    if_there (bytes_eq other name) ts more us (after_name name ts) (after_name name (ts ++ more)) (name_there name ts more us) e
name_there name (Bound other ∷ ts) more us e =
    if_there (bytes_eq other name) ts more us (after_name name ts) (after_name name (ts ++ more)) (name_there name ts more us) e
name_there name (t ∷ ts) more us e = name_there name ts more us e

pub past_there : (past : Option (List ℕ)) (ts more us : List Token) → after_past past ts ≡ Some us → after_past past (ts ++ more) ≡ Some (us ++ more)
past_there None ts more us e = ap (λ l. Some (l ++ more)) (some_same ts us e)
past_there (Some name) ts more us e = name_there name ts more us e

goes_there : (a : Around) (o : Outcome) (s t : State) (r : Option (List Token)) → after_past o.past s.left ≡ r → going_on o r s ≡ Some t
    → come_to (Some o) (state_at a s) ≡ Some (state_at a t)
goes_there a o s t None d e = absurd (never t e)
goes_there a o s t (Some ts) d e =
    ap (λ r. going_on o r (state_at a s)) (past_there o.past s.left a.left ts d)
    ∙ ap (λ l. Some (all_struck o.strokes (record (state_at a s) { left = l; work = o.work; kept = o.kept }))) (sym (append_assoc o.next ts a.left))
    ∙ ap (λ r. Some r) (all_struck_at a o.strokes (record s { left = o.next ++ ts; work = o.work; kept = o.kept }))
    ∙ ap (there a) e
  where
    there : Around → Option State → Option State
    there a None = None
    there a (Some t) = Some (state_at a t)

comes_there : (a : Around) (s t : State) (r : Option Outcome) → come_to r s ≡ Some t → come_to r (state_at a s) ≡ Some (state_at a t)
comes_there a s t None e = absurd (never t e)
comes_there a s t (Some o) e = goes_there a o s t (after_past o.past s.left) refl e

sight_there : (a : Around) (s : State) → sight_of (state_at a s) ≡ sight_of s
sight_there a s = ap (λ p. record (sight_of s) { point = p }) (point_is_placeless a.place s.graphics.chain s.graphics.path)

pub blindly_there : (f : Blind) (a : Around) (s t : State) → blindly f s ≡ Some t → blindly f (state_at a s) ≡ Some (state_at a t)
blindly_there f a s t e = ap (λ z. come_to (f z) (state_at a s)) (sight_there a s) ∙ comes_there a s t (f (sight_of s)) e

-- By name.

called_there : (a : Around) (s t : State) (r : Option Blind) → called r s ≡ Some t → called r (state_at a s) ≡ Some (state_at a t)
called_there a s t None e = absurd (never t e)
called_there a s t (Some f) e = blindly_there f a s t e

-- where a further operator goes on the machine stops

outside_stops : (kind : Kind) (name : List ℕ) (s : State) → FailsOnOperands kind s.work → perform false name kind s ≡ None
outside_stops (Computes c) name s e = ap (λ r. worked r s) e
outside_stops (Controls c) name s e = ap (λ r. running r s) e
outside_stops (Draws wants f) name s e = ap (λ r. drawn f name r s) e
outside_stops kind name s e = absurd e

-- it has come to something
abbrev pub Acts : Option Blind → State → Type 0
Acts r s = (f : Blind) × (o : Outcome) × (r ≡ Some f) × (f (sight_of s) ≡ Some o)

outcome_of : (s t : State) (r : Option Outcome) → come_to r s ≡ Some t → (o : Outcome) × (r ≡ Some o)
outcome_of s t None e = absurd (never t e)
outcome_of s t (Some o) e = (o, refl)

pub acts_in : (s t : State) (r : Option Blind) → called r s ≡ Some t → Acts r s
acts_in s t None e = absurd (never t e)
acts_in s t (Some f) e = let z = outcome_of s t (f (sight_of s)) e in (f, z.0, refl, z.1)

stop_meant : (table : Table) (name : List ℕ) (o : Option Object) (s : State) (found : Stop) → TakesOthers table → stop_of name o ≡ Some found → Acts (table_entry table found) s → meant false o s ≡ None
stop_meant table name None s found q e z = refl
stop_meant table name (Some (Operator other (Looks CopiesPage))) s found q e z = refl
stop_meant table name (Some (Operator other kind)) s found q e z =
    outside_stops kind other s (q other kind z.0 (sight_of s) z.1 (subst (λ r. table_entry table r ≡ Some z.0) (sym (some_same (AtOperands other kind) found e)) z.2) z.3)
stop_meant table name (Some o) s found q e z = absurd (never found e)

found_of : (b : Bool) (r : Option Stop) (found : Stop) → (if b then None else r) ≡ Some found → r ≡ Some found
found_of true r found e = absurd (never found e)
found_of false r found e = e

not_put : (b : Bool) (r : Option Stop) (found : Stop) → (if b then None else r) ≡ Some found → b ≡ false
not_put true r found e = absurd (never found e)
not_put false r found e = refl

pub stops : (table : Table) (ts : List Token) (s : State) (found : Stop) → TakesOthers table → next_stop ts s ≡ Some found
    → Acts (table_entry table found) (record s { left = after_first ts }) → step_on false ts s ≡ None
stops table [] s found q e z = absurd (never found e)
stops table (Name name ∷ ts) s found q e z =
    let o : Option Object = meaning s.work.dictionaries s.work.entries name in
    stop_meant table name o (record s { left = ts }) found q (found_of (among name put_names) (stop_of name o) found e) z
stops table (Bound name ∷ ts) s found q e z = stop_meant table name (system name) (record s { left = ts }) found q e z
stops table (t ∷ ts) s found q e z = absurd (never found e)

next_there : (a : Around) (ts : List Token) (s : State) (found : Stop) → next_stop ts s ≡ Some found → next_stop (ts ++ a.left) (state_at a s) ≡ Some found
next_there a [] s found e = absurd (never found e)
next_there a (Name name ∷ ts) s found e = e
next_there a (Bound name ∷ ts) s found e = e
next_there a (t ∷ ts) s found e = absurd (never found e)

pub rest_there : (more ts : List Token) (s : State) (found : Stop) → next_stop ts s ≡ Some found → after_first (ts ++ more) ≡ after_first ts ++ more
rest_there more [] s found e = absurd (never found e)
rest_there more (t ∷ ts) s found e = refl

abbrev pub past : State → State
past s = record s { left = after_first s.left }

by_next : (table : Table) (a : Around) (s t : State) (r : Option Stop) → TakesOthers table → next_stop s.left s ≡ r → looked_up table r (past s) ≡ Some t
    → (step false (state_at a s) ≡ None) × (by_table table (state_at a s) ≡ Some (state_at a t))
by_next table a s t None q e k = absurd (never t k)
by_next table a s t (Some found) q e k =
    let next : next_stop (s.left ++ a.left) (state_at a s) ≡ Some found = next_there a s.left s found e in
    let there : called (table_entry table found) (past (state_at a s)) ≡ Some (state_at a t) =
    ap (λ l. called (table_entry table found) (record (state_at a s) { left = l })) (rest_there a.left s.left s found e)
    ∙ called_there a (past s) t (table_entry table found) k in (
      stops table (s.left ++ a.left) (state_at a s) found q next (acts_in (past (state_at a s)) (state_at a t) (table_entry table found) there),
      ap (λ r. looked_up table r (past (state_at a s))) next ∙ there,
    )

pub tables_are_placeless : TablesArePlaceless
tables_are_placeless table q a s t e k = by_next table a s t (next_stop s.left s) q refl k

-- With the names that the sheet's text puts, and without.

stop_up : (name : List ℕ) (o : Option Object) → stop_of name (option_map one_save_more o) ≡ stop_of name o
stop_up name None = refl
stop_up name (Some (Saved level)) = refl
stop_up name (Some o) = refl

next_up : (n : ℕ) (ts : List Token) (s : State) (es : List DictionaryEntry) (ess : List (List DictionaryEntry)) (found : Stop) → AgreeShifted n es s.work.entries
    → next_stop ts s ≡ Some found → next_stop ts (up_state es ess s) ≡ Some found
next_up n [] s es ess found a e = absurd (never found e)
next_up n (Name name ∷ ts) s es ess found a e =
    let o : Option Object = meaning s.work.dictionaries s.work.entries name in
    ap (λ r. if among name put_names then None else stop_of name r)
    (meaning_agrees n es s.work.entries s.work.dictionaries name a (not_put (among name put_names) (stop_of name o) found e))
    ∙ ap (λ r. if among name put_names then None else r) (stop_up name o) ∙ e
next_up n (Bound name ∷ ts) s es ess found a e = e
next_up n (t ∷ ts) s es ess found a e = absurd (never found e)

abbrev Up : ℕ → Option State → State → Type 0
Up n r t = (fs : List DictionaryEntry) × (fss : List (List DictionaryEntry)) × (r ≡ Some (up_state fs fss t)) × AgreeShifted n fs t.work.entries × AllAgree n fss t.saves

struck_up : (n : ℕ) (xs : List Stroke) (s t : State) (fs : List DictionaryEntry) (fss : List (List DictionaryEntry)) → AgreeShifted n fs s.work.entries → AllAgree n fss s.saves
    → Some (all_struck xs s) ≡ Some t → Up n (Some (all_struck xs (up_state fs fss s))) t
struck_up n [] s t fs fss a h e = subst (λ z. Up n (Some (up_state fs fss s)) z) (some_same s t e) (fs, fss, refl, a, h)
struck_up n (x ∷ xs) s t fs fss a h e = struck_up n xs (struck x s) t fs fss a h e

goes_up : (n : ℕ) (o : Outcome) (s t : State) (es fs : List DictionaryEntry) (ess : List (List DictionaryEntry)) (r : Option (List Token)) → AgreeShifted n fs o.work.entries
    → AllAgree n ess s.saves → going_on o r s ≡ Some t → Up n (going_on (record o { work = up_work fs o.work }) r (up_state es ess s)) t
goes_up n o s t es fs ess None a h e = absurd (never t e)
goes_up n o s t es fs ess (Some ts) a h e =
    struck_up n o.strokes (record s { left = o.next ++ ts; work = o.work; kept = o.kept }) t fs ess a h e

comes_up : (n : ℕ) (f : Blind) (s t : State) (es : List DictionaryEntry) (ess : List (List DictionaryEntry)) (r : Option Outcome) → f (sight_of s) ≡ r → AsksForNone f
    → AgreeShifted n es s.work.entries → AllAgree n ess s.saves → come_to r s ≡ Some t → Up n (blindly f (up_state es ess s)) t
comes_up n f s t es ess None g q a h e = absurd (never t e)
comes_up n f s t es ess (Some o) g q a h e =
    let z = q n (sight_of s) o es g a in
    let y = goes_up n o s t es z.0 ess (after_past o.past s.left) z.2 h e in
    (y.0, y.1, ap (λ r. come_to r (up_state es ess s)) z.1 ∙ y.2, y.3, y.4)

called_up : (n : ℕ) (s t : State) (es : List DictionaryEntry) (ess : List (List DictionaryEntry)) (r : Option Blind) → ((f : Blind) → r ≡ Some f → AsksForNone f)
    → AgreeShifted n es s.work.entries → AllAgree n ess s.saves → called r s ≡ Some t → Up n (called r (up_state es ess s)) t
called_up n s t es ess None q a h e = absurd (never t e)
called_up n s t es ess (Some f) q a h e = comes_up n f s t es ess (f (sight_of s)) refl (q f refl) a h e

by_next_up : (table : Table) (n : ℕ) (s t : State) (es : List DictionaryEntry) (ess : List (List DictionaryEntry)) (r : Option Stop) → TakesOthers table → AllAskForNone table
    → next_stop s.left s ≡ r → AgreeShifted n es s.work.entries → AllAgree n ess s.saves → looked_up table r (past s) ≡ Some t
    → (step false (up_state es ess s) ≡ None) × Up n (by_table table (up_state es ess s)) t
by_next_up table n s t es ess None p q e a h k = absurd (never t k)
by_next_up table n s t es ess (Some found) p q e a h k =
    let next : next_stop s.left (up_state es ess s) ≡ Some found = next_up n s.left s es ess found a e in
    let y = called_up n (past s) t es ess (table_entry table found) (q found) a h k in (
      stops table s.left (up_state es ess s) found p next (acts_in (past (up_state es ess s)) (up_state y.0 y.1 t) (table_entry table found) y.2),
      (y.0, y.1, ap (λ r. looked_up table r (past (up_state es ess s))) next ∙ y.2, y.3, y.4),
    )

pub tables_are_blind : TablesAreBlind
tables_are_blind table p q = record {
  placeless = tables_are_placeless table p;
  unaware = λ n s t es ess e k a h. by_next_up table n s t es ess (next_stop s.left s) p q refl a h k;
}

-- a table of names alone has no freer forms
pub names_take_others : (names : List ℕ → Option Blind) → TakesOthers (only_names names)
names_take_others names name kind f sight o e k = absurd (never f e)

pub names_ask : (names : List ℕ → Option Blind) → ((name : List ℕ) (f : Blind) → names name ≡ Some f → AsksForNone f) → AllAskForNone (only_names names)
names_ask names q (AtName name) f e = q name f e
names_ask names q (AtOperands name kind) f e = absurd (never f e)

-- Answers.

also_up : (o : Object) (x : Option (List Object × List Object)) → also o (up_taken x) ≡ up_taken (also o x)
also_up o None = refl
also_up o (Some (os, rest)) = refl

taken_plain_up : (n : ℕ) (os : List Object) → taken_plain n (ups os) ≡ up_taken (taken_plain n os)
taken_plain_up zero os = refl
taken_plain_up (suc n) [] = refl
taken_plain_up (suc n) (Saved level ∷ os) = refl
taken_plain_up (suc n) (o ∷ os) = ap (also o) (taken_plain_up n os) ∙ also_up o (taken_plain n os)

abbrev upped : List DictionaryEntry → Visible → Visible
upped es sight = record sight { work = up_work es sight.work }

abbrev Asks : ℕ → Blind → Visible → Outcome → List DictionaryEntry → Type 0
Asks m f sight o es = (fs : List DictionaryEntry) × (f (upped es sight) ≡ Some (record o { work = up_work fs o.work })) × AgreeShifted m fs o.work.entries

abbrev made_with : List Object → List Stroke → Visible → Outcome
made_with os strokes sight = record { next = []; past = None; work = with_operands sight.work os; kept = sight.kept; strokes = strokes }

on_clean : (name : List ℕ) (n : ℕ) (e : Option Effect) (answer : Answer) (m : ℕ) (sight : Visible) (o : Outcome) (es : List DictionaryEntry) (os rest rs : List Object) (b : Bool)
    → taken_plain n sight.work.operands ≡ Some (os, rest) → answer os sight.settings ≡ Some rs → no_saved rs ≡ b → AgreeShifted m es sight.work.entries
    → (if b then Some (made_with (rs ++ rest) (strokes_of e name os) sight) else None) ≡ Some o → Asks m (answering name n e answer) sight o es
on_clean name n e answer m sight o es os rest rs false t u v a k = absurd (never o k)
on_clean name n e answer m sight o es os rest rs true t u v a k =
    let xs : List Stroke = strokes_of e name os in
    subst (λ p. Asks m (answering name n e answer) sight p es) (some_same (made_with (rs ++ rest) xs sight) o k) (
      es,
      ap (λ r. answers_on name e answer r (upped es sight)) (taken_plain_up n sight.work.operands ∙ ap up_taken t)
          ∙ ap (λ q. answered q xs (ups rest) (upped es sight)) u
          ∙ ap (λ b. if b then Some (made_with (rs ++ ups rest) xs (upped es sight)) else None) v
          ∙ ap (λ ys. Some (made_with ys xs (upped es sight))) (ap (λ ys. ys ++ ups rest) (sym (ups_same rs v)) ∙ sym (map-append one_save_more rs rest)),
      a,
    )

on_answer : (name : List ℕ) (n : ℕ) (e : Option Effect) (answer : Answer) (m : ℕ) (sight : Visible) (o : Outcome) (es : List DictionaryEntry) (os rest : List Object) (q : Option (List Object))
    → taken_plain n sight.work.operands ≡ Some (os, rest) → answer os sight.settings ≡ q → AgreeShifted m es sight.work.entries
    → answered q (strokes_of e name os) rest sight ≡ Some o → Asks m (answering name n e answer) sight o es
on_answer name n e answer m sight o es os rest None t u a k = absurd (never o k)
on_answer name n e answer m sight o es os rest (Some rs) t u a k = on_clean name n e answer m sight o es os rest rs (no_saved rs) t u refl a k

on_taken : (name : List ℕ) (n : ℕ) (e : Option Effect) (answer : Answer) (m : ℕ) (sight : Visible) (o : Outcome) (es : List DictionaryEntry) (r : Option (List Object × List Object))
    → taken_plain n sight.work.operands ≡ r → AgreeShifted m es sight.work.entries
    → answers_on name e answer r sight ≡ Some o → Asks m (answering name n e answer) sight o es
on_taken name n e answer m sight o es None t a k = absurd (never o k)
on_taken name n e answer m sight o es (Some (os, rest)) t a k = on_answer name n e answer m sight o es os rest (answer os sight.settings) t refl a k

pub answers_ask_for_none : AnswersAskForNone
answers_ask_for_none name n e answer m sight o es k a = on_taken name n e answer m sight o es (taken_plain n sight.work.operands) refl a k
