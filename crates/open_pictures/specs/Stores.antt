-- Operators on values. They are functions of what dictionaries have, by a number and a key, but for the two names that the
-- sheet's text puts: so they ask for none of these, and see no place, whatever they do.
use Rattle.std.specs.Prelude.{◌≡◌, ℕ, List, [], ◌∷◌, ◌++◌, Bool, ◌&&◌, ◌||◌, if◌then◌else◌, Option, Some, None}
use Rattle.std.specs.Prelude.{codes, bytes_eq, option_map}
use Rattle.pictures.specs.Objects.{Token, Object, Saved, Kind, Call}
use Rattle.pictures.specs.Dictionaries.{DictionaryEntry, dictionary_entry}
use Rattle.pictures.specs.Operators.{Work}
use Rattle.pictures.specs.Unaware.{no_saved, no_saved_in}
use Rattle.open_pictures.specs.Blindness.{IsBlind}
use Rattle.open_pictures.specs.Points.{PathPoint}
use Rattle.open_pictures.specs.Operators.{Visible, Outcome, Blind, Stroke, Table, by_table, FailsOnOperands, AsksForNone}
use Rattle.open_pictures.specs.Shelter.{SeesNoMatrices, IsPlacelessThere}

abbrev pub Store : Type 0
Store = (dictionary : ℕ) → (key : List ℕ) → Option Object

-- what such an operator may see: the operands above the topmost save, what dictionaries have, the numbers of those on
-- the stack, how many have been made, the settings of the graphics state, and the current point in user space
pub record Given : Type 0 where
  pub operands : List Object
  pub store : Store
  pub dictionaries : List ℕ
  pub made : ℕ
  pub settings : List Call
  pub point : Option PathPoint

-- what comes of it: what is run next, a name up to which it drops what is left to run, the operands in place of those, entries
-- that are put (the latest first), how many dictionaries have been made, what it draws
pub record Change : Type 0 where
  pub next : List Token
  pub past : Option (List ℕ)
  pub operands : List Object
  pub puts : List DictionaryEntry
  pub made : ℕ
  pub strokes : List Stroke

abbrev pub Valued : Type 0
Valued = Given → Option Change

abbrev pub above_save : List Object → List Object
above_save [] = []
above_save (Saved level ∷ os) = []
above_save (o ∷ os) = o ∷ above_save os

abbrev pub from_save : List Object → List Object
from_save [] = []
from_save (Saved level ∷ os) = Saved level ∷ os
from_save (o ∷ os) = from_save os

-- the names that the sheet's text puts
abbrev pub is_put : List ℕ → Bool
is_put key = bytes_eq (codes "showpage") key || bytes_eq (codes "ImposeSave") key

-- a save is seen, and not its level
abbrev pub unlevelled : Object → Object
unlevelled (Saved level) = Saved 0
unlevelled o = o

-- of those names it sees nothing: an operator that looks up a name has to stop at them
abbrev pub seen : List DictionaryEntry → Store
seen es d key = if is_put key then None else option_map unlevelled (dictionary_entry d key es)

abbrev pub given_of : Visible → Given
given_of sight = record {
  operands = above_save sight.work.operands;
  store = seen sight.work.entries;
  dictionaries = sight.work.dictionaries;
  made = sight.work.made;
  settings = sight.settings;
  point = sight.point;
}

abbrev pub changed_work : Change → Work → Work
changed_work c w = record {
  operands = c.operands ++ from_save w.operands;
  dictionaries = w.dictionaries;
  entries = c.puts ++ w.entries;
  made = c.made;
}

-- it makes no save an operand, and puts none
abbrev pub change_made : Option Change → Visible → Option Outcome
change_made None sight = None
change_made (Some c) sight =
    if no_saved c.operands && no_saved_in c.puts then
    Some (record { next = c.next; past = c.past; work = changed_work c sight.work; kept = sight.kept; strokes = c.strokes })
    else None

abbrev pub by_store : Valued → Blind
by_store g sight = change_made (g (given_of sight)) sight

-- whatever it does, such an operator asks for none of the names that the sheet's text puts: a law
abbrev pub StoresAskForNone : Type 0
StoresAskForNone = (g : Valued) → AsksForNone (by_store g)

-- and doesn't look at what matrices hold: a law
abbrev pub StoresSeeNoMatrices : Type 0
StoresSeeNoMatrices = (g : Valued) → SeesNoMatrices (by_store g)

-- Tables of such operators, besides any others by names.

abbrev pub or_else : Option Blind → Option Blind → Option Blind
or_else None other = other
or_else (Some f) other = Some f

-- a freer form of each operator, which stops where there is none
abbrev pub by_stores : (named : List ℕ → Option Valued) → (formed : List ℕ → Kind → Valued) → (others : List ℕ → Option Blind) → Table
by_stores named formed others = record {
  names = λ name. or_else (option_map by_store (named name)) (others name);
  forms = λ name kind. Some (by_store (formed name kind));
}

-- a freer form goes on only where the operator doesn't take the operands
abbrev pub FormsTakeOthers : (List ℕ → Kind → Valued) → Type 0
FormsTakeOthers formed =
    (name : List ℕ) (kind : Kind) (sight : Visible) (c : Change) → formed name kind (given_of sight) ≡ Some c → FailsOnOperands kind sight.work

-- with any others that ask for none of the names that the sheet's text puts, they are blind: a law
abbrev pub StoresAreBlind : Type 0
StoresAreBlind =
    (named : List ℕ → Option Valued) (formed : List ℕ → Kind → Valued) (others : List ℕ → Option Blind) → FormsTakeOthers formed
    → ((name : List ℕ) (f : Blind) → others name ≡ Some f → AsksForNone f)
    → IsBlind (by_table (by_stores named formed others))

-- and with any others that don't look at what matrices hold, they are placeless under the guard: a law
abbrev pub StoresArePlacelessThere : Type 0
StoresArePlacelessThere =
    (named : List ℕ → Option Valued) (formed : List ℕ → Kind → Valued) (others : List ℕ → Option Blind) → FormsTakeOthers formed
    → ((name : List ℕ) (f : Blind) → others name ≡ Some f → SeesNoMatrices f)
    → IsPlacelessThere (by_table (by_stores named formed others))
