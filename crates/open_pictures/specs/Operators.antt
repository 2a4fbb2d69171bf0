-- Further operators by their names. One that is a function of what it may see, which is all but where the page is, is
-- placeless whatever it does.
use Rattle.std.specs.Prelude.{◌≡◌, ℕ, zero, suc, List, [], ◌∷◌, ◌++◌, if◌then◌else◌, Option, Some, None, bytes_eq}
use Rattle.pictures.specs.Objects.{Token, Name, Bound, Object, Saved, Operator, Kind, Computes, Controls, Draws, Looks, CopiesPage, Effect, Call}
use Rattle.pictures.specs.Dictionaries.{DictionaryEntry, meaning, system}
use Rattle.pictures.specs.Operators.{Work, with_operands, also, computed, controlled, taken}
use Rattle.pictures.specs.Machine.{State, KeptMatrix, changed, painting}
use Rattle.pictures.specs.Sheets.{among}
use Rattle.pictures.specs.Unaware.{put_names, no_saved}
use Rattle.pictures.specs.Shifted.{AgreeShifted, up_work}
use Rattle.open_pictures.specs.Machine.{Further}
use Rattle.open_pictures.specs.Blindness.{IsPlaceless, IsBlind}
use Rattle.open_pictures.specs.Points.{PathPoint, point_of}

-- What an operator may see: the operands and the dictionaries, what matrices hold, the settings of the graphics state
-- (fonts, colours, lines), the current point in user space. Not the transformation, the path, the clip, what is saved and
-- what is painted
pub record Visible : Type 0 where
  pub work : Work
  pub kept : List KeptMatrix
  pub settings : List Call
  pub point : Option PathPoint

abbrev pub sight_of : State → Visible
sight_of s = record {
  work = s.work;
  kept = s.kept;
  settings = s.graphics.settings;
  point = point_of s.graphics.chain s.graphics.path;
}

-- one thing that it does to the graphics state or the sheet, as an operator of the machine does: a segment of the path,
-- a matrix of the chain, a setting, a painting ..
pub record Stroke : Type 0 where
  pub effect : Effect
  pub call : Call

-- what comes of it: what is run next, a name up to which it drops what is left to run, if it drops any; the operands and
-- dictionaries, what matrices hold, what it draws
pub record Outcome : Type 0 where
  pub next : List Token
  pub past : Option (List ℕ)
  pub work : Work
  pub kept : List KeptMatrix
  pub strokes : List Stroke

abbrev pub Blind : Type 0
Blind = Visible → Option Outcome

abbrev pub struck : Stroke → State → State
struck x s = record s {
  graphics = changed x.effect x.call s.graphics;
  painted = painting x.effect x.call s.graphics s.painted;
}

abbrev pub all_struck : List Stroke → State → State
all_struck [] s = s
all_struck (x ∷ xs) s = all_struck xs (struck x s)

-- what is left after that name
abbrev pub after_name : List ℕ → List Token → Option (List Token)
after_name name [] = None
after_name name (Name other ∷ ts) = if bytes_eq other name then Some ts else after_name name ts
after_name name (Bound other ∷ ts) = if bytes_eq other name then Some ts else after_name name ts
after_name name (t ∷ ts) = after_name name ts

abbrev pub after_past : Option (List ℕ) → List Token → Option (List Token)
after_past None ts = Some ts
after_past (Some name) ts = after_name name ts

abbrev pub going_on : Outcome → Option (List Token) → State → Option State
going_on o None s = None
going_on o (Some ts) s = Some (all_struck o.strokes (record s { left = o.next ++ ts; work = o.work; kept = o.kept }))

abbrev pub come_to : Option Outcome → State → Option State
come_to None s = None
come_to (Some o) s = going_on o (after_past o.past s.left) s

-- such an operator in a machine
abbrev pub blindly : Blind → State → Option State
blindly f s = come_to (f (sight_of s)) s

-- Where the machine stops and further operators may go on: at a name that no dictionary has, or that means an operator
-- which is there by its name alone, so that `bind` and `where` find it; or at an operator of the machine's own, if the
-- operands aren't those that it takes
pub data Stop : Type 0 where
  AtName : (name : List ℕ) → Stop
  AtOperands : (name : List ℕ) → Kind → Stop

abbrev pub stop_of : List ℕ → Option Object → Option Stop
stop_of name None = Some (AtName name)
stop_of name (Some (Operator other (Looks CopiesPage))) = Some (AtName other)
stop_of name (Some (Operator other kind)) = Some (AtOperands other kind)
stop_of name o = None

-- not by a name that the sheet's text puts
abbrev pub next_stop : List Token → State → Option Stop
next_stop (Name name ∷ ts) s =
    if among name put_names then None else stop_of name (meaning s.work.dictionaries s.work.entries name)
next_stop (Bound name ∷ ts) s = stop_of name (system name)
next_stop ts s = None

-- further operators by their names, and freer forms of operators that the machine has
pub record Table : Type 0 where
  pub names : List ℕ → Option Blind
  pub forms : List ℕ → Kind → Option Blind

abbrev pub table_entry : Table → Stop → Option Blind
table_entry table (AtName name) = table.names name
table_entry table (AtOperands name kind) = table.forms name kind

abbrev pub only_names : (List ℕ → Option Blind) → Table
only_names names = record { names = names; forms = λ name kind. None }

abbrev pub after_first : List Token → List Token
after_first [] = []
after_first (t ∷ ts) = ts

abbrev pub called : Option Blind → State → Option State
called None s = None
called (Some f) s = blindly f s

abbrev pub looked_up : Table → Option Stop → State → Option State
looked_up table None s = None
looked_up table (Some stop) s = called (table_entry table stop) s

-- the further operators of a table
abbrev pub by_table : Table → Further
by_table table s = looked_up table (next_stop s.left s) (record s { left = after_first s.left })

-- an operator of the machine doesn't take the operands that are there
abbrev pub FailsOnOperands : Kind → Work → Type 0
FailsOnOperands (Computes c) w = computed c w ≡ None
FailsOnOperands (Controls c) w = controlled c w ≡ None
FailsOnOperands (Draws wants e) w = taken wants w.operands ≡ None
FailsOnOperands kind w = ⊥

-- a freer form takes only what the operator itself doesn't take
abbrev pub TakesOthers : Table → Type 0
TakesOthers table =
    (name : List ℕ) (kind : Kind) (f : Blind) (sight : Visible) (o : Outcome) → table.forms name kind ≡ Some f → f sight ≡ Some o
    → FailsOnOperands kind sight.work

-- It asks for none of the names that the sheet's text puts, and not for the level of a save: with those names, and the
-- saves one level further in, the same comes of it
abbrev pub AsksForNone : Blind → Type 0
AsksForNone f =
    (n : ℕ) (sight : Visible) (o : Outcome) (es : List DictionaryEntry) → f sight ≡ Some o → AgreeShifted n es sight.work.entries
    → (fs : List DictionaryEntry) × (f (record sight { work = up_work es sight.work }) ≡ Some (record o { work = up_work fs o.work }))
    × AgreeShifted n fs o.work.entries

abbrev pub AllAskForNone : Table → Type 0
AllAskForNone table = (stop : Stop) (f : Blind) → table_entry table stop ≡ Some f → AsksForNone f

-- Operators that take so many operands, none of them a save, and answer with others, by these and the settings alone.
-- They draw one thing or none.

abbrev pub taken_plain : ℕ → List Object → Option (List Object × List Object)
taken_plain zero os = Some ([], os)
taken_plain (suc n) [] = None
taken_plain (suc n) (Saved level ∷ os) = None
taken_plain (suc n) (o ∷ os) = also o (taken_plain n os)

abbrev pub Answer : Type 0
Answer = (operands : List Object) → (settings : List Call) → Option (List Object)

abbrev pub strokes_of : Option Effect → List ℕ → List Object → List Stroke
strokes_of None name os = []
strokes_of (Some e) name os = record { effect = e; call = record { name = name; operands = os } } ∷ []

abbrev pub answered : Option (List Object) → List Stroke → List Object → Visible → Option Outcome
answered None strokes rest sight = None
answered (Some rs) strokes rest sight =
    if no_saved rs then Some (record {
      next = [];
      past = None;
      work = with_operands sight.work (rs ++ rest);
      kept = sight.kept;
      strokes = strokes;
    })
    else None

abbrev pub answers_on : List ℕ → Option Effect → Answer → Option (List Object × List Object) → Visible → Option Outcome
answers_on name e answer None sight = None
answers_on name e answer (Some (os, rest)) sight = answered (answer os sight.settings) (strokes_of e name os) rest sight

abbrev pub answering : List ℕ → ℕ → Option Effect → Answer → Blind
answering name n e answer sight = answers_on name e answer (taken_plain n sight.work.operands) sight

-- whatever the operators of a table do, they are placeless: a law
abbrev pub TablesArePlaceless : Type 0
TablesArePlaceless = (table : Table) → TakesOthers table → IsPlaceless (by_table table)

-- and blind, if they ask for none of the names that the sheet's text puts: a law
abbrev pub TablesAreBlind : Type 0
TablesAreBlind = (table : Table) → TakesOthers table → AllAskForNone table → IsBlind (by_table table)

-- whatever it answers, an operator that answers by its operands and the settings asks for none of those names: a law
abbrev pub AnswersAskForNone : Type 0
AnswersAskForNone = (name : List ℕ) (n : ℕ) (e : Option Effect) (answer : Answer) → AsksForNone (answering name n e answer)
