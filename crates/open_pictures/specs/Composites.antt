-- Composite values (PostScript Language Reference, third edition, 3.3.1): arrays and strings that are shared, and changed
-- in place. One is a dictionary by its number, with its elements under keys that no text can have, as no byte is above
-- 255. A reference to it is a bound name of such numbers: what it is, its number, and the interval of it (`getinterval`).
-- So a reference is a token, which an array may have as an element; run, it is pushed.
use Rattle.std.specs.List.{range_with_len}
use Rattle.std.specs.Prelude.{ℕ, ◌+◌, List, [], ◌∷◌, map, ◌||◌, ◌==◌, if◌then◌else◌, Option, Some, None, codes, decimal, option_map}
use Rattle.rules.specs.Numbers.{number_of}
use Rattle.pictures.specs.Objects.{Token, Number, Literal, Name, Text, Hexadecimal, Bound, Object, Plain, Array}
use Rattle.pictures.specs.Dictionaries.{DictionaryEntry}
use Rattle.open_pictures.specs.Stores.{Store, Given, Change}
use Rattle.open_pictures.specs.Points.{PathPoint}
use Rattle.open_pictures.specs.Strings.{characters, hexadecimal_bytes}

abbrev pub array_tag : ℕ
array_tag = 257

abbrev pub string_tag : ℕ
string_tag = 258

abbrev pub element_tag : ℕ
element_tag = 259

abbrev pub null_tag : ℕ
null_tag = 260

pub record Composite : Type 0 where
  pub tag : ℕ
  pub number : ℕ
  pub first : ℕ
  pub count : ℕ

abbrev pub reference : Composite → Object
reference c = Plain (Bound (c.tag ∷ c.number ∷ c.first ∷ c.count ∷ []))

-- what a bound name refers to
abbrev pub referred : List ℕ → Option Composite
referred (tag ∷ number ∷ first ∷ count ∷ []) =
    if tag == array_tag || tag == string_tag then
    Some (record { tag = tag; number = number; first = first; count = count })
    else None
referred name = None

-- the null object (3.3.13)
abbrev pub null_object : Object
null_object = Plain (Bound (null_tag ∷ []))

-- it says of a composite that it can't be changed
abbrev pub frozen_key : List ℕ
frozen_key = 262 ∷ []

-- what a new array has at each place, and a new string
abbrev pub unset : (tag : ℕ) → Object
unset tag = if tag == string_tag then Plain (Number (codes "0")) else null_object

abbrev pub or_unset : (tag : ℕ) → Option Object → Object
or_unset tag None = unset tag
or_unset tag (Some o) = o

abbrev pub element_key : ℕ → List ℕ
element_key i = element_tag ∷ i ∷ []

abbrev pub element_at : Store → (tag number i : ℕ) → Object
element_at store tag number i = or_unset tag (store number (element_key i))

-- run, it pushes the element that is there by then
abbrev pub element_token : (tag number i : ℕ) → Token
element_token tag number i = Bound (element_tag ∷ tag ∷ number ∷ i ∷ [])

abbrev pub element_entry : (number i : ℕ) → Object → DictionaryEntry
element_entry number i o = record { dictionary = number; key = element_key i; value = o }

-- these elements, from the i-th place on
abbrev pub element_entries : (number i : ℕ) → List Object → List DictionaryEntry
element_entries number i [] = []
element_entries number i (o ∷ os) = element_entry number i o ∷ element_entries number (i + 1) os

abbrev pub elements_of : Store → Composite → List Object
elements_of store c = map (λ i. element_at store c.tag c.number i) (range_with_len c.first c.count)

-- Values of either kind: the machine's own, which nothing changes, and composite ones.

abbrev pub number_object : ℕ → Object
number_object n = Plain (Number (decimal n))

abbrev pub elements_if : (tag : ℕ) → Store → Option Composite → Option (List Object)
elements_if tag store None = None
elements_if tag store (Some c) = if c.tag == tag then Some (elements_of store c) else None

-- the elements of an array
abbrev pub array_of : Store → Object → Option (List Object)
array_of store (Array ts) = Some (map (λ t. Plain t) ts)
array_of store (Plain (Bound name)) = elements_if array_tag store (referred name)
array_of store o = None

abbrev pub byte_of : Object → ℕ
byte_of (Plain (Number text)) = number_of text
byte_of o = 0

-- the bytes of a string
abbrev pub string_of : Store → Object → Option (List ℕ)
string_of store (Plain (Text raw)) = Some (characters raw)
string_of store (Plain (Hexadecimal digits)) = Some (hexadecimal_bytes digits)
string_of store (Plain (Bound name)) = option_map (map byte_of) (elements_if string_tag store (referred name))
string_of store o = None

-- the characters of a string or a name
abbrev pub characters_of : Store → Object → Option (List ℕ)
characters_of store (Plain (Literal name)) = Some name
characters_of store (Plain (Name name)) = Some name
characters_of store o = string_of store o

-- the elements of either, those of a string as numbers
abbrev pub items_for : (tag : ℕ) → Store → Object → Option (List Object)
items_for tag store o = if tag == string_tag then option_map (map number_object) (string_of store o) else array_of store o

abbrev pub or_items : Option (List Object) → Option (List Object) → Option (List Object)
or_items None items = items
or_items (Some os) items = Some os

abbrev pub items_of : Store → Object → Option (List Object)
items_of store o = or_items (array_of store o) (items_for string_tag store o)

-- What an operator leaves.

abbrev pub leaving : List Object → Given → Option Change
leaving os given = Some (record { next = []; past = None; operands = os; puts = []; made = given.made; strokes = [] })

abbrev pub putting : List DictionaryEntry → List Object → Given → Option Change
putting puts os given = Some (record { next = []; past = None; operands = os; puts = puts; made = given.made; strokes = [] })

abbrev pub run_next : List Token → List Object → Given → Option Change
run_next ts os given = Some (record { next = ts; past = None; operands = os; puts = []; made = given.made; strokes = [] })

abbrev pub point_left : Option PathPoint → List Object → Given → Option Change
point_left None os given = None
point_left (Some p) os given = leaving (Plain (Number p.y) ∷ Plain (Number p.x) ∷ os) given

-- a new composite with these elements, pushed
abbrev pub making : (tag count : ℕ) → List Object → List Object → Given → Option Change
making tag count items os given = Some (record {
  next = [];
  past = None;
  operands = reference (record { tag = tag; number = given.made + 1; first = 0; count = count }) ∷ os;
  puts = element_entries (given.made + 1) 0 items;
  made = given.made + 1;
  strokes = [];
})
