-- The machine: its state, and one step. A step takes the next token (PostScript Language Reference, third edition,
-- 3.5). None means an error, or that nothing is left to run. Transformations are free: the current transformation
-- (4.3.2) is the list of matrices that were concatenated, the innermost first, and none is multiplied. A point is
-- its operands together with the list at that time (4.4.1). Reading a list as the product of its matrices gives
-- every mark its usual reading.
use Rattle.std.specs.Prelude.{◌≡◌, ℕ, zero, suc, ◌+◌, List, [], ◌∷◌, ◌++◌, Bool, ◌&&◌, ◌||◌, ◌==◌, if◌then◌else◌}
use Rattle.std.specs.Prelude.{Option}
use Rattle.std.specs.Prelude.{Some, None, codes, bytes_eq, true, not}
use Rattle.pictures.specs.Objects.{Token, Name, Opens, Closes, Bound, Unknown, Object, Plain, Procedure, Saved, Operator, Call}
use Rattle.pictures.specs.Objects.{Dictionary, Matrix, View, TakesMatrix, SetsMatrix, DefaultMatrix, InitialMatrix}
use Rattle.pictures.specs.Objects.{InitialClip, ClipOutline, PathElements, SetsDevice, ErasesPage}
use Rattle.pictures.specs.Objects.{Effect, Segments, Transforms, Sets, Paints, PaintsBeside, Shows, Clips, Forgets}
use Rattle.pictures.specs.Objects.{Kind, Computes, Controls, Draws}
use Rattle.pictures.specs.Objects.{PushesGraphics, PopsGraphics, PopsAllGraphics, Saves, Restores, Ships, Resets, Copies, Looks, CopyOperands}
use Rattle.pictures.specs.Chains.{is_same_chain}
use Rattle.pictures.specs.Dictionaries.{DictionaryEntry, meaning, system}
use Rattle.pictures.specs.Operators.{Work, with_operands, taken, computed, computed_on, controlled, all_old, all_are_old}

-- a segment of a path: the operator with its operands, and the transformation at the time. After `show` the current
-- point depends on the settings too
pub record Segment : Type 0 where
  pub call : Call
  pub chain : List Call
  pub settings : List Call

-- the path to which painting is limited, and the operator that set it: `clip` and `eoclip` of 8.2, which narrow the
-- clip
pub record Clip : Type 0 where
  pub name : List ℕ
  pub path : List Segment

-- the graphics state (4.2), all lists the latest first: the latest setting of a kind is the one that counts
pub record Graphics : Type 0 where
  pub chain : List Call
  pub path : List Segment
  pub clip : List Clip
  pub settings : List Call

-- one painting: the operator with its operands, and the graphics state at the time
pub record Painting : Type 0 where
  pub call : Call
  pub graphics : Graphics

-- the transformation that a matrix holds, by its number
pub record KeptMatrix : Type 0 where
  pub number : ℕ
  pub chain : List Call

-- what a save keeps (3.7.3)
pub record Snapshot : Type 0 where
  pub level : ℕ
  pub entries : List DictionaryEntry
  pub made : ℕ
  pub kept : List KeptMatrix
  pub graphics : Graphics
  pub stacked : List Graphics

-- what is left to run; what matrices hold, the latest first; the graphics states that were pushed after the last
-- save; the saves; what has been painted on this sheet, the latest first; the sheets that were printed, the latest
-- first
pub record State : Type 0 where
  pub left : List Token
  pub work : Work
  pub kept : List KeptMatrix
  pub level : ℕ
  pub graphics : Graphics
  pub stacked : List Graphics
  pub saves : List Snapshot
  pub painted : List Painting
  pub sheets : List (List Painting)

-- one more operand (3.4)
abbrev pub push : Object → State → State
push o s = record s { work = with_operands s.work (o ∷ s.work.operands) }

-- a procedure's tokens, up to its closing brace, and those after it (3.2, Procedures): none of them is run yet
-- (3.5.3)
abbrev pub keep : Token → Option (List Token × List Token) → Option (List Token × List Token)
keep t None = None
keep t (Some (ts, rest)) = Some (t ∷ ts, rest)

abbrev pub body_of : List Token → ℕ → Option (List Token × List Token)
body_of [] depth = None
body_of (Closes ∷ ts) zero = Some ([], ts)
body_of (Closes ∷ ts) (suc depth) = keep Closes (body_of ts depth)
body_of (Opens ∷ ts) depth = keep Opens (body_of ts (suc depth))
body_of (Unknown ∷ ts) depth = None
body_of (t ∷ ts) depth = keep t (body_of ts depth)

abbrev pub opened : Option (List Token × List Token) → State → Option State
opened None s = None
opened (Some (ts, rest)) s = Some (push (Procedure ts) (record s { left = rest }))

-- the effect of a graphics operator, each by its name in 8.2. `fill`, `eofill` and `stroke` remove the path;
-- `rectfill`, `rectstroke`, `clip` and `eoclip` leave it alone; `show` moves the current point
abbrev pub changed : Effect → Call → Graphics → Graphics
changed Segments c g = record g { path = record { call = c; chain = g.chain; settings = [] } ∷ g.path }
changed Transforms c g = record g { chain = c ∷ g.chain }
changed Sets c g = record g { settings = c ∷ g.settings }
changed Paints c g = record g { path = [] }
changed PaintsBeside c g = g
changed Shows c g = record g { path = record { call = c; chain = g.chain; settings = g.settings } ∷ g.path }
changed Clips c g = record g { clip = record { name = c.name; path = g.path } ∷ g.clip }
changed Forgets c g = record g { path = [] }

abbrev pub painting : Effect → Call → Graphics → List Painting → List Painting
painting Paints c g ps = record { call = c; graphics = g } ∷ ps
painting PaintsBeside c g ps = record { call = c; graphics = g } ∷ ps
painting Shows c g ps = record { call = c; graphics = g } ∷ ps
painting e c g ps = ps

abbrev pub drawn : Effect → List ℕ → Option (List Object × List Object) → State → Option State
drawn e name None s = None
drawn e name (Some (os, rest)) s = Some (record s {
  work = with_operands s.work rest;
  graphics = changed e (record { name = name; operands = os }) s.graphics;
  painted = painting e (record { name = name; operands = os }) s.graphics s.painted;
})

abbrev pub worked : Option Work → State → Option State
worked None s = None
worked (Some w) s = Some (record s { work = w })

abbrev pub running : Option (List Token × Work) → State → Option State
running None s = None
running (Some (ts, w)) s = Some (record s { left = ts ++ s.left; work = w })

-- `grestore` of 8.2: the graphics state is restored. If none was pushed after the last save, it is that of the
-- save, which stays
abbrev pub popped : List Graphics → State → Option State
popped (g ∷ gs) s = Some (record s { graphics = g; stacked = gs })
popped [] s = below s.saves s
  where
    below : List Snapshot → State → Option State
    below [] s = None
    below (shot ∷ shots) s = Some (record s { graphics = shot.graphics })

-- `grestoreall` of 8.2: the graphics state is that of the last save, which stays, and nothing is pushed. Without a
-- save it would be the job's first one, which this machine doesn't have, so it stops there
abbrev pub popped_all : List Snapshot → State → Option State
popped_all [] s = None
popped_all (shot ∷ shots) s = Some (record s { graphics = shot.graphics; stacked = [] })

-- `save` of 8.2 keeps dictionaries, matrices and graphics, and begins a new stack of graphics states
abbrev pub saved : State → State
saved s = record s {
  work = with_operands s.work (Saved s.level ∷ s.work.operands);
  level = s.level + 1;
  stacked = [];
  saves = record {
    level = s.level;
    entries = s.work.entries;
    made = s.work.made;
    kept = s.kept;
    graphics = s.graphics;
    stacked = s.stacked;
  } ∷ s.saves;
}

-- the save of this level, and the earlier ones
abbrev pub save_of : ℕ → List Snapshot → Option (Snapshot × List Snapshot)
save_of level [] = None
save_of level (shot ∷ shots) = if shot.level == level then Some (shot, shots) else save_of level shots

-- no operand or dictionary on the stack is newer than the save; otherwise invalidrestore
abbrev pub may_go_back : Snapshot → List Object → Work → Bool
may_go_back shot os w = all_are_old shot.made shot.level os && all_old shot.made w.dictionaries

-- `restore` of 8.2: dictionaries, matrices and graphics are those of the save; later saves are void
abbrev pub returned : List Object → Snapshot → List Snapshot → State → State
returned os shot shots s = record s {
  work = record s.work { operands = os; entries = shot.entries; made = shot.made };
  kept = shot.kept;
  level = shot.level;
  graphics = shot.graphics;
  stacked = shot.stacked;
  saves = shots;
}

abbrev pub back_to : List Object → Option (Snapshot × List Snapshot) → State → Option State
back_to os None s = None
back_to os (Some (shot, shots)) s = if may_go_back shot os s.work then Some (returned os shot shots s) else None

abbrev pub restored : List Object → State → Option State
restored (Saved level ∷ os) s = back_to os (save_of level s.saves) s
restored os s = None

-- the settings that `initgraphics` of 8.2 leaves alone
abbrev pub fonts : List Call → List Call
fonts [] = []
fonts (c ∷ cs) =
    if bytes_eq c.name (codes "setfont") || bytes_eq c.name (codes "selectfont") then c ∷ fonts cs else fonts cs

abbrev pub initial : Graphics → Graphics
initial g = record { chain = []; path = []; clip = []; settings = fonts g.settings }

abbrev pub reset : State → State
reset s = record s { graphics = initial s.graphics }

-- `showpage` of 8.2: the sheet is printed, and the next one begins, empty and after `initgraphics`
abbrev pub shipped : State → State
shipped s = record (reset s) { painted = []; sheets = s.painted ∷ s.sheets }

-- what a matrix holds. A matrix that was never filled holds no transformation of the machine, so it stops there
abbrev pub chain_of : ℕ → List KeptMatrix → Option (List Call)
chain_of number [] = None
chain_of number (k ∷ ks) = if k.number == number then Some k.chain else chain_of number ks

abbrev pub filled_with : ℕ → List Call → State → State
filled_with number chain s = record s { kept = record { number = number; chain = chain } ∷ s.kept }

-- `copy` of 8.2: then one matrix holds what another one does. Any other operand is a count of operands to be copied
abbrev pub filled_from : Option (List Call) → ℕ → List Object → State → Option State
filled_from None number os s = None
filled_from (Some chain) number os s =
    Some (filled_with number chain (record s { work = with_operands s.work (Matrix number ∷ os) }))

abbrev pub copied : List Object → State → Option State
copied (Matrix n ∷ Matrix m ∷ os) s = filled_from (chain_of m s.kept) n os s
copied os s = worked (computed_on CopyOperands os s.work) s

abbrev pub set_to : Option (List Call) → List Object → State → Option State
set_to None os s = None
set_to (Some chain) os s =
    Some (record s { work = with_operands s.work os; graphics = record s.graphics { chain = chain } })

-- `clippath` of 8.2, if nothing has clipped: the outline of the device. Another clip is not a path of this machine
abbrev pub outlined : List ℕ → List Clip → State → Option State
outlined name [] s = Some (record s {
  graphics = record s.graphics {
    path = record { call = record { name = name; operands = [] }; chain = []; settings = [] } ∷ [];
  };
})
outlined name (c ∷ cs) s = None

-- the procedure of `pathforall` for an element, one of the four that it takes
abbrev pub procedure_for : List ℕ → (moves lines curves closes : List Token) → Option (List Token)
procedure_for name moves lines curves closes =
    if bytes_eq name (codes "moveto") then Some moves
    else if bytes_eq name (codes "lineto") then Some lines
    else if bytes_eq name (codes "curveto") then Some curves
    else if bytes_eq name (codes "closepath") then Some closes
    else None

-- numbers in the order in which they were written, followed by these tokens
abbrev pub numbers_before : List Object → List Token → List Token
numbers_before [] ts = ts
numbers_before (Plain t ∷ os) ts = numbers_before os (t ∷ ts)
numbers_before (o ∷ os) ts = ts

-- the element is in the path like this, before the next one. A `moveto` after a `moveto` replaces it, and what
-- follows a `closepath` without a `moveto` begins where that ended (4.4.1). The machine stops there
abbrev pub may_precede : (name next : List ℕ) → Bool
may_precede name next =
    if bytes_eq name (codes "moveto") then not (bytes_eq next (codes "moveto"))
    else if bytes_eq name (codes "closepath") then bytes_eq next (codes "moveto") || bytes_eq next []
    else true

abbrev pub element_tokens : Bool → List Object → Option (List Token) → List Token → Option (List Token)
element_tokens true os (Some ts) later = Some (numbers_before os (ts ++ later))
element_tokens stands os x later = None

abbrev pub and_before : (List Token → Option (List Token)) → Option (List Token) → Option (List Token)
and_before f None = None
and_before f (Some ts) = f ts

-- `pathforall` of 8.2: for each element of the path its numbers, under the current transformation, and its
-- procedure. They are the numbers that were written if the transformation is the same; otherwise the machine stops
abbrev pub path_tokens :
    List Call → (moves lines curves closes : List Token) → List Segment → (next : List ℕ) → List Token
    → Option (List Token)
path_tokens chain moves lines curves closes [] next later = Some later
path_tokens chain moves lines curves closes (x ∷ xs) next later =
    and_before (λ ts. path_tokens chain moves lines curves closes xs x.call.name ts)
    (element_tokens (is_same_chain x.chain chain && may_precede x.call.name next) x.call.operands
    (procedure_for x.call.name moves lines curves closes) later)

abbrev pub traced : Option (List Token) → List Object → State → Option State
traced None os s = None
traced (Some ts) os s = Some (record s { left = ts ++ s.left; work = with_operands s.work os })

-- `setpagedevice` of 8.2: the sheet is empty, after `initgraphics`. What it sets of the device isn't recorded
abbrev pub viewed : View → List ℕ → List Object → State → Option State
viewed TakesMatrix name (Matrix n ∷ os) s = Some (filled_with n s.graphics.chain s)
viewed SetsMatrix name (Matrix n ∷ os) s = set_to (chain_of n s.kept) os s
viewed DefaultMatrix name (Matrix n ∷ os) s = Some (filled_with n [] s)
viewed InitialMatrix name os s = set_to (Some []) os s
viewed InitialClip name os s = Some (record s { graphics = record s.graphics { clip = [] } })
viewed ClipOutline name os s = outlined name s.graphics.clip s
viewed PathElements name (Procedure closes ∷ Procedure curves ∷ Procedure lines ∷ Procedure moves ∷ os) s =
    traced (path_tokens s.graphics.chain moves lines curves closes s.graphics.path [] []) os s
viewed SetsDevice name (Dictionary d ∷ os) s =
    Some (record (reset s) { work = with_operands s.work os; painted = [] })
viewed ErasesPage name os s = Some (record s { painted = [] })
viewed v name os s = None

-- a held machine may neither print nor reset, nor look at where it is. So what it runs can neither find out where
-- it is nor leave
abbrev pub perform : (held : Bool) → List ℕ → Kind → State → Option State
perform held name (Computes c) s = worked (computed c s.work) s
perform held name (Controls c) s = running (controlled c s.work) s
perform held name (Draws wants e) s = drawn e name (taken wants s.work.operands) s
perform held name PushesGraphics s = Some (record s { stacked = s.graphics ∷ s.stacked })
perform held name PopsGraphics s = popped s.stacked s
perform held name PopsAllGraphics s = popped_all s.saves s
perform held name Saves s = Some (saved s)
perform held name Restores s = restored s.work.operands s
perform held name Ships s = if held then None else Some (shipped s)
perform held name Resets s = if held then None else Some (reset s)
perform held name Copies s = copied s.work.operands s
perform held name (Looks v) s = if held then None else viewed v name s.work.operands s

-- the effect of a name's value (3.5.5): a procedure is run, an operator performed, an executable name looked up,
-- all else pushed
abbrev pub effect_of_value : Bool → Object → State → Option State
effect_of_value held (Procedure ts) s = Some (record s { left = ts ++ s.left })
effect_of_value held (Operator name kind) s = perform held name kind s
effect_of_value held (Plain (Name name)) s = Some (record s { left = Name name ∷ s.left })
effect_of_value held o s = Some (push o s)

abbrev pub meant : Bool → Option Object → State → Option State
meant held None s = None
meant held (Some o) s = effect_of_value held o s

-- a name is looked up when it is run (3.3.8); a bound name is systemdict's
abbrev pub act : Bool → Token → State → Option State
act held (Name name) s = meant held (meaning s.work.dictionaries s.work.entries name) s
act held (Bound name) s = meant held (system name) s
act held Opens s = opened (body_of s.left 0) s
act held Closes s = None
act held Unknown s = None
act held t s = Some (push (Plain t) s)

abbrev pub step_on : Bool → List Token → State → Option State
step_on held [] s = None
step_on held (t ∷ ts) s = act held t (record s { left = ts })

abbrev pub step : Bool → State → Option State
step held s = step_on held s.left s

abbrev pub and_then : (State → Option State) → Option State → Option State
and_then f None = None
and_then f (Some s) = f s

-- this many steps of a machine
abbrev pub steps : (State → Option State) → ℕ → State → Option State
steps f zero s = Some s
steps f (suc n) s = and_then (steps f n) (f s)

-- it runs from one state to another
abbrev pub RunsBy : (State → Option State) → State → State → Type 0
RunsBy f s t = (n : ℕ) × (steps f n s ≡ Some t)

abbrev pub Runs : (held : Bool) → State → State → Type 0
Runs held s t = RunsBy (step held) s t
