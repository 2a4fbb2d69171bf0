-- A page of a guarded document by itself, in a machine with further operators.
use Rattle.std.specs.Prelude.{◌≡◌, ℕ, List, Option, Some, None, false}
use Rattle.pictures.specs.Objects.{Token, Effect}
use Rattle.pictures.specs.Machine.{State, Painting, KeptMatrix, step, RunsBy}
use Rattle.pictures.specs.Sheets.{Numbers, LeavesAsItWas}
use Rattle.pictures.specs.Shelter.{Outer, sheltered, shelter_step, outline_tokens}
use Rattle.pictures.specs.Pages.{AroundGuarded, placed_at, IsOnPaper}
use Rattle.open_pictures.specs.Machine.{Further, or_further, OpenRuns}
use Rattle.open_pictures.specs.Operators.{Visible, Outcome, Blind, Table, Stop, table_entry, TakesOthers, by_table, Answer, answering}

-- one step: what the page does by itself, and what the further operators do where the free machine stops
abbrev pub open_shelter_step : Further → List Outer → (outline : List Token) → State → Option State
open_shelter_step x outers outline s = or_further (step false s) (shelter_step outers outline s) (x s)

abbrev pub OpenRunsSheltered : Further → List Outer → List Token → State → State → Type 0
OpenRunsSheltered x outers outline s t = RunsBy (open_shelter_step x outers outline) s t

-- What is asked of further operators under the guard: in the place of a page, where matrices that the page has filled are
-- placed too, they do the same, placed
abbrev pub IsPlacelessThere : Further → Type 0
IsPlacelessThere x =
    (a : AroundGuarded) (s t : State) → step false s ≡ None → x s ≡ Some t
    → (step false (placed_at a s) ≡ None) × (x (placed_at a s) ≡ Some (placed_at a t))

-- an operator doesn't look at what matrices hold, and leaves it
abbrev pub SeesNoMatrices : Blind → Type 0
SeesNoMatrices f =
    (sight : Visible) (o : Outcome) (ks : List KeptMatrix) → f sight ≡ Some o
    → (o.kept ≡ sight.kept) × (f (record sight { kept = ks }) ≡ Some (record o { kept = ks }))

-- the operators of a table are placeless there, if each does so: a law
abbrev pub TablesArePlacelessThere : Type 0
TablesArePlacelessThere =
    (table : Table) → TakesOthers table → ((stop : Stop) (f : Blind) → table_entry table stop ≡ Some f → SeesNoMatrices f)
    → IsPlacelessThere (by_table table)

-- what a page does by itself, the free machine does, with the guard's procedures, in the page's place: a law
abbrev pub OpenShelterCommutes : Type 0
OpenShelterCommutes =
    (x : Further) (n : Numbers) (outers : List Outer) (a : AroundGuarded) (s t : State) → IsPlacelessThere x
    → IsOnPaper n outers a → OpenRunsSheltered x outers (outline_tokens n) s t
    → OpenRuns x false (placed_at a s) (placed_at a t)

-- from a state after the preamble, or where a page of the sheet begins within these, the page paints this by itself
pub record OpenPaintsSheltered (x : Further) (outers : List Outer) (s : State) (outline body : List Token) (picture : List Painting) : Type 0 where
  pub end : State
  pub run : OpenRunsSheltered x outers outline (sheltered outers s outline body) end
  pub leaves : LeavesAsItWas s end
  pub picture_is : end.painted ≡ picture

-- whatever it answers, an operator that answers by its operands and the settings doesn't look at what matrices hold: a law
abbrev pub AnswersSeeNoMatrices : Type 0
AnswersSeeNoMatrices = (name : List ℕ) (n : ℕ) (e : Option Effect) (answer : Answer) → SeesNoMatrices (answering name n e answer)
