-- The text of a sheet as tokens, and the picture that it should give. Its operators are of the PostScript Language
-- Reference, third edition, 8.2. A page's changes are saved and restored, its `showpage` is a procedure that does
-- nothing, and `concat` and `clip` come before all that it does.
use Rattle.std.specs.Prelude.{◌≡◌, ℕ, ◌+◌, List, [], ◌∷◌, ◌++◌, flat_map, Bool, true, false, ◌||◌, Option, Some, None}
use Rattle.std.specs.Prelude.{codes, bytes_eq}
use Rattle.pictures.specs.Objects.{Token, Number, Name, Literal, Opens, Closes, Object, Plain, Array, Procedure, Saved}
use Rattle.pictures.specs.Objects.{Call}
use Rattle.pictures.specs.Dictionaries.{DictionaryEntry, userdict, meaning, system}
use Rattle.pictures.specs.Operators.{all_old, all_are_old}
use Rattle.pictures.specs.Machine.{Segment, Graphics, Painting, State, save_of, initial, step, RunsBy}
use Rattle.pictures.specs.Placing.{Place, picture_at}

-- the texts of the numbers by which a border is drawn: how wide its line is, how far its path lies from the left and from
-- below, and how far it reaches
pub record BorderNumbers : Type 0 where
  pub wide : List ℕ
  pub low : List ℕ
  pub right : List ℕ
  pub top : List ℕ

-- the texts of the numbers by which a page is placed: its matrix, the paper's width and height, and those of the border
-- if there is one
pub record Numbers : Type 0 where
  pub a : List ℕ
  pub b : List ℕ
  pub c : List ℕ
  pub d : List ℕ
  pub x : List ℕ
  pub y : List ℕ
  pub width : List ℕ
  pub height : List ℕ
  pub border : Option BorderNumbers

abbrev pub zero_text : List ℕ
zero_text = codes "0"

-- a path around a rectangle
abbrev pub rectangle_tokens : (low right top : List ℕ) → List Token
rectangle_tokens low right top =
    Name (codes "newpath") ∷ Number low ∷ Number low ∷ Name (codes "moveto")
    ∷ Number right ∷ Number low ∷ Name (codes "lineto")
    ∷ Number right ∷ Number top ∷ Name (codes "lineto")
    ∷ Number low ∷ Number top ∷ Name (codes "lineto") ∷ Name (codes "closepath") ∷ []

-- a path around the paper
abbrev pub edge_tokens : Numbers → List Token
edge_tokens n = rectangle_tokens zero_text n.width n.height

abbrev pub border_tokens : Option BorderNumbers → List Token
border_tokens None = []
border_tokens (Some b) =
    Name (codes "gsave") ∷ Number b.wide ∷ Name (codes "setlinewidth")
    ∷ (rectangle_tokens b.low b.right b.top ++ Name (codes "stroke") ∷ Name (codes "grestore") ∷ [])

abbrev pub saving_tokens : List Token
saving_tokens =
    Name (codes "userdict") ∷ Literal (codes "ImposeSave") ∷ Name (codes "save") ∷ Name (codes "put")
    ∷ Name (codes "userdict") ∷ Literal (codes "showpage") ∷ Opens ∷ Closes ∷ Name (codes "put") ∷ []

abbrev pub placing_tokens : Numbers → List Token
placing_tokens n =
    Name (codes "[") ∷ Number n.a ∷ Number n.b ∷ Number n.c ∷ Number n.d ∷ Number n.x ∷ Number n.y ∷ Name (codes "]")
    ∷ Name (codes "concat")
    ∷ (edge_tokens n ++ (Name (codes "clip") ∷ Name (codes "newpath") ∷ border_tokens n.border))

abbrev pub closing_tokens : List Token
closing_tokens = Name (codes "ImposeSave") ∷ Name (codes "restore") ∷ []

-- a placed page
pub record Placed : Type 0 where
  pub numbers : Numbers
  pub body : List Token

abbrev pub placed_tokens : Placed → List Token
placed_tokens p = saving_tokens ++ (placing_tokens p.numbers ++ (p.body ++ closing_tokens))

-- a sheet with these placed pages
abbrev pub sheet_tokens : List Placed → List Token
sheet_tokens ps = flat_map placed_tokens ps ++ (Name (codes "showpage") ∷ [])

-- The picture.

abbrev pub matrix_call : Numbers → Call
matrix_call n = record {
  name = codes "concat";
  operands = Array (Number n.a ∷ Number n.b ∷ Number n.c ∷ Number n.d ∷ Number n.x ∷ Number n.y ∷ []) ∷ [];
}

abbrev pub path_point : List ℕ → List ℕ → List ℕ → List Call → Segment
path_point name x y chain = record {
  call = record { name = name; operands = Plain (Number y) ∷ Plain (Number x) ∷ [] };
  chain = chain;
  settings = [];
}

abbrev pub rectangle : (low right top : List ℕ) → List Call → List Segment
rectangle low right top chain =
    record { call = record { name = codes "closepath"; operands = [] }; chain = chain; settings = [] }
    ∷ path_point (codes "lineto") low top chain ∷ path_point (codes "lineto") right top chain
    ∷ path_point (codes "lineto") right low chain ∷ path_point (codes "moveto") low low chain ∷ []

-- around the paper
abbrev pub edge : Numbers → List Call → List Segment
edge n chain = rectangle zero_text n.width n.height chain

-- the place of a page that is placed by these numbers, if the graphics state was this. Its matrix is outermost
-- within those that were there, and so is its paper
abbrev pub place_in : Graphics → Numbers → Place
place_in g n = record {
  chain = matrix_call n ∷ g.chain;
  clip = record { name = codes "clip"; path = edge n (matrix_call n ∷ g.chain) } ∷ g.clip;
}

-- the border, which is painted before the page, at its place and under its clip
abbrev pub border_in : Graphics → Numbers → Option BorderNumbers → List Painting
border_in g n None = []
border_in g n (Some b) = record {
  call = record { name = codes "stroke"; operands = [] };
  graphics = record {
    chain = (place_in g n).chain;
    path = rectangle b.low b.right b.top (place_in g n).chain;
    clip = (place_in g n).clip;
    settings = record { name = codes "setlinewidth"; operands = Plain (Number b.wide) ∷ [] } ∷ g.settings;
  };
} ∷ []

-- The page by itself.

abbrev pub in_userdict : List ℕ → Object → DictionaryEntry
in_userdict name o = record { dictionary = userdict; key = name; value = o }

-- what the sheet's text has defined before a page
abbrev pub entries_before : State → List DictionaryEntry
entries_before s =
    in_userdict (codes "showpage") (Procedure []) ∷ in_userdict (codes "ImposeSave") (Saved s.level) ∷ s.work.entries

-- a page by itself: with the names that the sheet's text defines, no place, and nothing below it to which it could
-- return
abbrev pub running_alone : State → List Token → State
running_alone s body = record {
  left = body;
  work = record s.work { entries = entries_before s };
  kept = s.kept;
  level = s.level + 1;
  graphics = record { chain = []; path = []; clip = []; settings = s.graphics.settings };
  stacked = [];
  saves = [];
  painted = [];
  sheets = [];
}

-- it has run, and left the stacks as they were; a save that is still in force isn't of the sheet's own level
pub record LeavesAsItWas (s t : State) : Type 0 where
  pub nothing_left : t.left ≡ []
  pub operands : t.work.operands ≡ s.work.operands
  pub dictionaries : t.work.dictionaries ≡ s.work.dictionaries
  pub saves : save_of s.level t.saves ≡ None
  pub save_name : meaning t.work.dictionaries t.work.entries (codes "ImposeSave") ≡ Some (Saved s.level)
  pub restore_name : meaning t.work.dictionaries t.work.entries (codes "restore") ≡ system (codes "restore")

-- from a state after the preamble the page, by these steps, paints this by itself
pub record PaintsBy (held : State → Option State) (s : State) (body : List Token) (picture : List Painting) : Type 0 where
  pub end : State
  pub run : RunsBy held (running_alone s body) end
  pub leaves : LeavesAsItWas s end
  pub picture_is : end.painted ≡ picture

abbrev pub PaintsAlone : State → List Token → List Painting → Type 0
PaintsAlone s body picture = PaintsBy (step true) s body picture

-- The state after the preamble.

abbrev pub among : List ℕ → List (List ℕ) → Bool
among name [] = false
among name (other ∷ others) = bytes_eq name other || among name others

-- the operators that the sheet's text uses, except showpage
abbrev pub placing_names : List (List ℕ)
placing_names =
    codes "userdict" ∷ codes "save" ∷ codes "put" ∷ codes "[" ∷ codes "]" ∷ codes "concat" ∷ codes "newpath"
    ∷ codes "moveto" ∷ codes "lineto" ∷ codes "closepath" ∷ codes "clip" ∷ codes "gsave" ∷ codes "setlinewidth"
    ∷ codes "stroke" ∷ codes "grestore" ∷ []

abbrev pub sheet_names : List (List ℕ)
sheet_names = codes "showpage" ∷ placing_names

-- the names that the sheet's text uses mean the operators; and nothing on the stacks is newer than the state. The
-- graphics state is already as after `initgraphics`, which the first sheet's `showpage` executes
pub record IsGround (s : State) : Type 0 where
  pub names :
      (name : List ℕ) → among name sheet_names ≡ true → meaning s.work.dictionaries s.work.entries name ≡ system name
  pub operands : all_are_old s.work.made s.level s.work.operands ≡ true
  pub dictionaries : all_old s.work.made s.work.dictionaries ≡ true
  pub graphics : initial s.graphics ≡ s.graphics

-- Sheets.

-- a placed page with what it paints by itself
pub record Shown : Type 0 where
  pub placed : Placed
  pub picture : List Painting

abbrev pub AllOf : {A : Type 0} → (A → Type 0) → List A → Type 0
AllOf P [] = Unit {0}
AllOf P (x ∷ xs) = P x × AllOf P xs

abbrev pub AllPaint : State → List Shown → Type 0
AllPaint s xs = AllOf (λ (x : Shown). PaintsAlone s x.placed.body x.picture) xs

-- a page on its sheet: its own picture placed, after its border; the latest painting first
abbrev pub page_picture : Graphics → Shown → List Painting
page_picture g x =
    picture_at (place_in g x.placed.numbers) x.picture ++ border_in g x.placed.numbers x.placed.numbers.border

-- a sheet: the pictures of its pages in order, the latest painting first
abbrev pub sheet_picture : Graphics → List Shown → List Painting → List Painting
sheet_picture g [] before = before
sheet_picture g (x ∷ xs) before = sheet_picture g xs (page_picture g x ++ before)

abbrev pub run_of : List Token → State → State
run_of ts s = record s { left = ts }

-- these tokens too, after those that are left
abbrev pub with_more : List Token → State → State
with_more more s = record s { left = s.left ++ more }
