-- Tokens and objects of a small PostScript machine. The PostScript Language Reference, third edition, is cited: 3.2
-- has the syntax of tokens, 3.3 the types of objects. Numbers are their texts, also those that were calculated
-- (Calculations). An array is its elements, which are tokens: it holds numbers, names and strings, and no array.
-- Arrays, procedures and strings are values here (in 3.3.1 they are shared), as no operator of this machine changes
-- one in place.
use Rattle.std.specs.Prelude.{ℕ, List, Bool}

-- a number, an executable and a literal name, a string as it is written and one in hexadecimal digits, the braces
-- of a procedure; a name that `bind` has bound to an operator (3.12.1); and anything else, at which this machine
-- stops
pub data Token : Type 0 where
  Number : (text : List ℕ) → Token
  Name : (name : List ℕ) → Token
  Literal : (name : List ℕ) → Token
  Text : (bytes : List ℕ) → Token
  Hexadecimal : (digits : List ℕ) → Token
  Opens : Token
  Closes : Token
  Bound : (name : List ℕ) → Token
  Unknown : Token

-- what is calculated from two numbers, and how they are compared
pub data Calculation : Type 0 where
  Add : Calculation
  Subtract : Calculation
  Multiply : Calculation
  Divide : Calculation

pub data Comparison : Type 0 where
  Equal : Comparison
  NotEqual : Comparison
  Less : Comparison
  LessOrEqual : Comparison
  Greater : Comparison
  GreaterOrEqual : Comparison

-- operators on operands and dictionaries, and those that control what is run next
pub data Computation : Type 0 where
  Pop : Computation
  Duplicate : Computation
  Exchange : Computation
  OpenArray : Computation
  CloseArray : Computation
  Put : Computation
  Define : Computation
  Begin : Computation
  End : Computation
  MakeDictionary : Computation
  Load : Computation
  Bind : Computation
  Known : Computation
  Index : Computation
  ClearToMark : Computation
  FindFont : Computation
  ScaleFont : Computation
  Calculate : Calculation → Computation
  Negate : Computation
  Compare : Comparison → Computation
  And : Computation
  Or : Computation
  Not : Computation
  Where : Computation
  Get : Computation
  Length : Computation
  LoadArray : Computation
  CloseDictionary : Computation
  CopyOperands : Computation
  Roll : Computation
  Count : Computation
  MakeExecutable : Computation
  IsWritable : Computation
  MakeReadOnly : Computation
  MakeMatrix : Computation

pub data Control : Type 0 where
  Execute : Control
  If : Control
  IfElse : Control
  Repeat : Control
  For : Control
  ForAll : Control

-- what an operand must be
pub data Want : Type 0 where
  ANumber : Want
  AText : Want
  AnArray : Want
  AMatrix : Want
  AFont : Want
  AName : Want
  ATruth : Want

-- what a graphics operator does with its operands: a segment of the path (4.4), a matrix of the chain (4.3), a
-- setting (4.2), painting with the path, beside the path (4.5) or at the current point (5.1), narrowing the clip
-- (4.4.2), an empty path
pub data Effect : Type 0 where
  Segments : Effect
  Transforms : Effect
  Sets : Effect
  Paints : Effect
  PaintsBeside : Effect
  Shows : Effect
  Clips : Effect
  Forgets : Effect

-- operators that look at where the machine is, or return it to where it began: transformations that are kept in a
-- matrix and set again (4.3.2), the clip's outline and the path's elements (4.4), the initial matrix and clip
-- (4.2), the page device (6.1.1), the page as it is so far
pub data View : Type 0 where
  TakesMatrix : View
  SetsMatrix : View
  DefaultMatrix : View
  InitialMatrix : View
  InitialClip : View
  ClipOutline : View
  PathElements : View
  SetsDevice : View
  ErasesPage : View
  CopiesPage : View

-- operators by effect: the graphics stack (4.2), saves (3.7.3), printing a sheet, `initgraphics`, `copy`
pub data Kind : Type 0 where
  Computes : Computation → Kind
  Controls : Control → Kind
  Draws : List Want → Effect → Kind
  PushesGraphics : Kind
  PopsGraphics : Kind
  PopsAllGraphics : Kind
  Saves : Kind
  Restores : Kind
  Ships : Kind
  Resets : Kind
  Copies : Kind
  Looks : View → Kind

-- a token that is its own value, a boolean, a mark, an array, a procedure, a dictionary by its number, systemdict,
-- a save by its level, a font by what it was made of, an operator (3.3). A matrix from `matrix` is identified by
-- number, like a dictionary, because operators fill it in place
pub data Object : Type 0 where
  Plain : Token → Object
  Truth : Bool → Object
  Mark : Object
  Array : List Token → Object
  Procedure : List Token → Object
  Dictionary : (number : ℕ) → Object
  SystemDictionary : Object
  Matrix : (number : ℕ) → Object
  Saved : (level : ℕ) → Object
  Font : List Token → Object
  Operator : (name : List ℕ) → Kind → Object

-- a matrix of the chain, a setting: the operator's name and its operands, the topmost first
pub record Call : Type 0 where
  pub name : List ℕ
  pub operands : List Object
