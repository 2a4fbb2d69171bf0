-- The current point (PostScript Language Reference, third edition, 4.4.1) in user space. Where a page is doesn't change it: it is
-- what was written, or a sum of that.
use Rattle.std.specs.Prelude.{◌≡◌, ℕ, ◌*◌, ◌==◌, List, [], ◌∷◌, ◌++◌, map, length, flat_map, Bool, if◌then◌else◌, Option, Some, None, codes, bytes_eq}
use Rattle.pictures.specs.Objects.{Token, Number, Name, Literal, Text, Hexadecimal, Opens, Closes, Bound, Unknown, Object, Plain, Truth, Mark}
use Rattle.pictures.specs.Objects.{Array, Procedure, Dictionary, SystemDictionary, Matrix, Saved, Font, Operator, Call, Add}
use Rattle.pictures.specs.Calculations.{calculated}
use Rattle.pictures.specs.Machine.{Segment}
use Rattle.pictures.specs.Placing.{Place, segment_at}
use Rattle.pictures.specs.Sheets.{among}
use Rattle.open_pictures.specs.Strings.{characters, hexadecimal_bytes, as_hexadecimal}

-- Whether two transformations are the same: each is written down so that no other one is written so. Texts and lists are preceded
-- by their lengths.

abbrev pub with_length : List ℕ → List ℕ
with_length bs = length bs ∷ bs

abbrev pub written_token : Token → List ℕ
written_token (Number text) = 0 ∷ with_length text
written_token (Name name) = 1 ∷ with_length name
written_token (Literal name) = 2 ∷ with_length name
written_token (Text bytes) = 3 ∷ with_length bytes
written_token (Hexadecimal digits) = 4 ∷ with_length digits
written_token (Bound name) = 5 ∷ with_length name
written_token Opens = 6 ∷ []
written_token Closes = 7 ∷ []
written_token Unknown = 8 ∷ []

abbrev pub written_tokens : List Token → List ℕ
written_tokens ts = length ts ∷ flat_map written_token ts

-- an operator is its name
abbrev pub written_object : Object → List ℕ
written_object (Plain t) = 0 ∷ written_token t
written_object (Truth test) = if test then 1 ∷ [] else 2 ∷ []
written_object Mark = 3 ∷ []
written_object (Array ts) = 4 ∷ written_tokens ts
written_object (Procedure ts) = 5 ∷ written_tokens ts
written_object (Dictionary n) = 6 ∷ n ∷ []
written_object SystemDictionary = 7 ∷ []
written_object (Matrix n) = 8 ∷ n ∷ []
written_object (Saved level) = 9 ∷ level ∷ []
written_object (Font ts) = 10 ∷ written_tokens ts
written_object (Operator name kind) = 11 ∷ with_length name

abbrev pub written_call : Call → List ℕ
written_call c = with_length c.name ++ (length c.operands ∷ flat_map written_object c.operands)

abbrev pub is_same_transformation : (a b : List Call) → Bool
is_same_transformation a b = bytes_eq (flat_map written_call a) (flat_map written_call b)

-- the texts of two numbers
pub record PathPoint : Type 0 where
  pub x : List ℕ
  pub y : List ℕ

-- the topmost two operands
abbrev pub two_numbers : List Object → Option PathPoint
two_numbers (Plain (Number y) ∷ Plain (Number x) ∷ os) = Some (record { x = x; y = y })
two_numbers os = None

abbrev pub moved_by : Option PathPoint → Option PathPoint → Option PathPoint
moved_by (Some p) (Some q) = Some (record { x = calculated Add p.x q.x; y = calculated Add p.y q.y })
moved_by p q = None

-- A text's width, by the font that is set: numbers without a value, as terms.

abbrev pub token_text : Token → List ℕ
token_text (Number text) = text
token_text (Literal name) = codes "/" ++ name
token_text (Name name) = name
token_text t = []

-- what the font was made of, the first of it first
abbrev pub font_name_text : List Token → List ℕ
font_name_text [] = []
font_name_text (t ∷ ts) = font_name_text ts ++ token_text t ++ codes " "

abbrev pub latest_font : List Call → Option (List Token)
latest_font [] = None
latest_font (c ∷ cs) =
    if bytes_eq c.name (codes "setfont") then of_font c.operands
    else if bytes_eq c.name (codes "selectfont") then of_selected c.operands
    else latest_font cs
  where
    of_font : List Object → Option (List Token)
    of_font (Font ts ∷ os) = Some ts
    of_font os = None

    of_selected : List Object → Option (List Token)
    of_selected (Plain size ∷ Plain name ∷ os) = Some (size ∷ name ∷ [])
    of_selected os = None

abbrev pub width_by : Option (List Token) → Option (List ℕ) → Option PathPoint
width_by (Some font) (Some bytes) = Some (record {
  x = font_name_text font ++ codes "<" ++ as_hexadecimal bytes ++ codes "> stringwidth pop";
  y = font_name_text font ++ codes "<" ++ as_hexadecimal bytes ++ codes "> stringwidth exch pop";
})
width_by font bytes = None

abbrev pub bytes_shown : List Object → Option (List ℕ)
bytes_shown (Plain (Text raw) ∷ os) = Some (characters raw)
bytes_shown (Plain (Hexadecimal digits) ∷ os) = Some (hexadecimal_bytes digits)
bytes_shown os = None

-- `xyshow`: each of its characters has two numbers

abbrev pub moved_along : PathPoint → List Token → Option PathPoint
moved_along p [] = Some p
moved_along p (Number x ∷ Number y ∷ ts) = moved_along (record { x = calculated Add p.x x; y = calculated Add p.y y }) ts
moved_along p ts = None

abbrev pub moved_each : Option PathPoint → List Token → Option (List ℕ) → Option PathPoint
moved_each (Some p) ts (Some bytes) = if length ts == 2 * length bytes then moved_along p ts else None
moved_each p ts bytes = None

abbrev pub moved_by_all : Option PathPoint → List Object → Option PathPoint
moved_by_all p (Array ts ∷ os) = moved_each p ts (bytes_shown os)
moved_by_all p os = None

-- where an element of the path ends, if it begins there; the settings are those with which a text was shown
abbrev pub element_end : Call → (settings : List Call) → (start : Option PathPoint) → Option PathPoint
element_end c settings start =
    if among c.name (codes "moveto" ∷ codes "lineto" ∷ codes "curveto" ∷ []) then two_numbers c.operands
    else if among c.name (codes "rmoveto" ∷ codes "rlineto" ∷ codes "rcurveto" ∷ []) then moved_by start (two_numbers c.operands)
    else if bytes_eq c.name (codes "show") then moved_by start (width_by (latest_font settings) (bytes_shown c.operands))
    else if bytes_eq c.name (codes "xyshow") then moved_by_all start c.operands
    else None

-- the end of a path under this transformation, if all that it is calculated from was written under the same one
abbrev pub point_of : List Call → List Segment → Option PathPoint
point_of chain [] = None
point_of chain (x ∷ xs) =
    if is_same_transformation x.chain chain then element_end x.call x.settings (point_of chain xs) else None

-- a place changes no point: a law
abbrev pub PointIsPlaceless : Type 0
PointIsPlaceless =
    (p : Place) (chain : List Call) (path : List Segment)
    → point_of (chain ++ p.chain) (map (segment_at p) path) ≡ point_of chain path
