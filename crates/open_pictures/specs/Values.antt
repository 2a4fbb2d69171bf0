-- A table of operators on values, each by its name in 8.2, 'Operator details', of the PostScript Language Reference, third
-- edition: freer forms of those of the machine, at operands that they don't take, and some by their names. Whatever isn't
-- here stops the machine.
use Rattle.std.specs.List.{list_all, list_any, range_with_len}
use Rattle.std.specs.Char.{is_ascii_digit}
use Rattle.std.specs.Prelude.{◌≡◌, ℕ, ◌+◌, List, [], ◌∷◌, ◌++◌, map, reverse, flat_map, length, take, drop, Bool, true, false, not}
use Rattle.std.specs.Prelude.{◌&&◌, ◌||◌, ◌==◌, nat_lt, nat_le, if◌then◌else◌, Option, Some, None, codes, bytes_eq, decimal, option_map}
use Rattle.rules.specs.Numbers.{number_of}
use Rattle.pictures.specs.Objects.{Token, Number, Literal, Hexadecimal, Bound, Name, Object, Plain, Truth, Mark, Array, Procedure, SystemDictionary, Operator}
use Rattle.pictures.specs.Objects.{Dictionary, Font, Kind, Computes, Controls, Draws, CloseArray, Get, Put, Length, LoadArray, Compare}
use Rattle.pictures.specs.Objects.{ForAll, Where, Load, Known, MakeDictionary, MakeExecutable, Looks, CopiesPage, Want, ANumber, AText, AnArray, AMatrix, ATruth, Comparison, Effect, Sets, Shows, Segments, Transforms}
use Rattle.pictures.specs.Dictionaries.{has, system, is_lacked}
use Rattle.pictures.specs.Calculations.{whole_of, whole_number_text}
use Rattle.pictures.specs.Operators.{objects_compared, sameness, taken, fits, nth}
use Rattle.open_pictures.specs.Machine.{Further}
use Rattle.open_pictures.specs.Blindness.{IsBlind}
use Rattle.open_pictures.specs.Operators.{Blind, Table, by_table, AsksForNone}
use Rattle.open_pictures.specs.Shelter.{SeesNoMatrices, IsPlacelessThere}
use Rattle.open_pictures.specs.Stores.{Store, Given, Change, Valued, is_put, by_stores}
use Rattle.open_pictures.specs.Points.{width_by, latest_font}
use Rattle.open_pictures.specs.Strings.{as_hexadecimal, decimals_compared, words, isolatin1}
use Rattle.open_pictures.specs.Composites.{Composite, frozen_key, array_tag, string_tag, element_tag, null_tag, reference, referred, null_object, element_at}
use Rattle.open_pictures.specs.Composites.{element_token, element_entry, element_entries, number_object, array_of, string_of}
use Rattle.open_pictures.specs.Composites.{characters_of, items_for, items_of, leaving, putting, run_next, point_left, making}
use Rattle.open_pictures.specs.Matrices.{fill_identity, fill_matrix, combine, move_by, point_by, distance_by, transform_more}

-- Freer forms.

-- the operands down to the mark, the first one first, and those below it
abbrev pub down_to_mark : (items : List Object) → List Object → Option (List Object × List Object)
down_to_mark items [] = None
down_to_mark items (Mark ∷ os) = Some (items, os)
down_to_mark items (o ∷ os) = down_to_mark (o ∷ items) os

abbrev pub are_tokens : List Object → Bool
are_tokens [] = true
are_tokens (Plain t ∷ os) = are_tokens os
are_tokens (o ∷ os) = false

-- `]` after elements that aren't all tokens
abbrev pub closed_array : Option (List Object × List Object) → Given → Option Change
closed_array None given = None
closed_array (Some (items, os)) given = if are_tokens items then None else making array_tag (length items) items os given

abbrev pub object_at : List ℕ → Option (List Object) → Option Object
object_at text None = None
object_at text (Some items) = if list_all is_ascii_digit text then nth (number_of text) items else None

abbrev pub pushing : Option Object → List Object → Given → Option Change
pushing None os given = None
pushing (Some o) os given = leaving (o ∷ os) given

-- What an interpreter of LanguageLevel 3 has in systemdict, and the machine lacks.

abbrev pub is_in_interpreters : List ℕ → Bool
is_in_interpreters name = is_lacked name && (not (has (system name)) && not (is_put name))

-- those of its names that mean no operator
abbrev pub no_operators : List (List ℕ)
no_operators =
    codes "errordict" ∷ codes "$error" ∷ codes "globaldict" ∷ codes "statusdict" ∷ codes "version" ∷ codes "product"
    ∷ codes "revision" ∷ codes "serialnumber" ∷ codes "FontDirectory" ∷ codes "GlobalFontDirectory"
    ∷ codes "StandardEncoding" ∷ codes "ISOLatin1Encoding" ∷ []

-- an operator that is there by its name alone: the machine stops where it is run, unless the table has it
abbrev pub system_value : List ℕ → Option Object
system_value name =
    if bytes_eq name (codes "languagelevel") then Some (number_object 3)
    else if bytes_eq name (codes "null") then Some null_object
    else if list_any (bytes_eq name) no_operators then None
    else Some (Operator name (Looks CopiesPage))

abbrev pub system_more : List ℕ → Option Object
system_more name = if is_in_interpreters name then system_value name else None

-- a dictionary on the stack has the key
abbrev pub has_any : Store → List ℕ → (key : List ℕ) → Bool
has_any store [] key = false
has_any store (d ∷ ds) key = has (store d key) || has_any store ds key

-- `where` and `load` of such a name, if no dictionary has it
abbrev pub where_more : List Object → Given → Option Change
where_more (Plain (Literal name) ∷ os) given =
    if is_in_interpreters name && not (has_any given.store given.dictionaries name) then
    leaving (Truth true ∷ SystemDictionary ∷ os) given
    else None
where_more os given = None

abbrev pub load_more : List Object → Given → Option Change
load_more (Plain (Literal name) ∷ os) given =
    if is_in_interpreters name && not (has_any given.store given.dictionaries name) then pushing (system_value name) os given else None
load_more os given = None

-- what a font dictionary has in any case, and in practice its name
abbrev pub font_names : List (List ℕ)
font_names =
    codes "FontType" ∷ codes "FontMatrix" ∷ codes "FontName" ∷ codes "Encoding" ∷ codes "FontBBox" ∷ []

abbrev pub known_more : List Object → Given → Option Change
known_more (Plain (Literal name) ∷ SystemDictionary ∷ os) given = if is_in_interpreters name then leaving (Truth true ∷ os) given else None
known_more (Plain (Literal name) ∷ Font ts ∷ os) given =
    if list_any (bytes_eq name) font_names then leaving (Truth true ∷ os) given else None
known_more os given = None

-- `get` of an array or a string, and of systemdict
abbrev pub get_from : List Object → Given → Option Change
get_from (Plain (Number text) ∷ Plain t ∷ os) given = pushing (object_at text (items_of given.store (Plain t))) os given
get_from (Plain (Literal name) ∷ SystemDictionary ∷ os) given = pushing (system_more name) os given
get_from os given = None

-- what may be put there: any object into an array, a byte into a string
abbrev pub element_for : (tag : ℕ) → Object → Option Object
element_for tag (Plain (Number text)) =
    if tag == string_tag then
    (if list_all is_ascii_digit text && nat_lt (number_of text) 256 then Some (number_object (number_of text)) else None)
    else Some (Plain (Number text))
element_for tag o = if tag == string_tag then None else Some o

-- it has so many elements, and may be changed
abbrev pub may_be_filled : Store → Composite → ℕ → Bool
may_be_filled store c n = nat_le n c.count && not (has (store c.number frozen_key))

-- these elements from that place on, if there are as many
abbrev pub put_items : Composite → List ℕ → Option (List Object) → List Object → Given → Option Change
put_items c text None os given = None
put_items c text (Some items) os given =
    if list_all is_ascii_digit text && may_be_filled given.store c (number_of text + length items)
    then putting (element_entries c.number (c.first + number_of text) items) os given
    else None

abbrev pub one_item : Option Object → Option (List Object)
one_item x = option_map (λ o. o ∷ []) x

abbrev pub put_at : Option Composite → List ℕ → Object → List Object → Given → Option Change
put_at None text o os given = None
put_at (Some c) text o os given = put_items c text (one_item (element_for c.tag o)) os given

-- `put` into a composite one: all that refer to it have it then
abbrev pub put_into : List Object → Given → Option Change
put_into (o ∷ Plain (Number text) ∷ Plain (Bound name) ∷ os) given = put_at (referred name) text o os given
put_into os given = None

abbrev pub number_left : Option ℕ → List Object → Given → Option Change
number_left None os given = None
number_left (Some n) os given = leaving (number_object n ∷ os) given

-- How much a dictionary can have depends on the interpreter: a number without a value, which `dict` takes too.

abbrev pub capacity : Object
capacity = Plain (Number (codes "maxlength"))

abbrev pub make_dictionary : List Object → Given → Option Change
make_dictionary (Plain (Number text) ∷ os) given =
    if list_all is_ascii_digit text then None
    else Some (record { next = []; past = None; operands = Dictionary (given.made + 1) ∷ os; puts = []; made = given.made + 1; strokes = [] })
make_dictionary os given = None

abbrev pub capacity_of : List Object → Given → Option Change
capacity_of (Dictionary d ∷ os) given = leaving (capacity ∷ os) given
capacity_of (Font ts ∷ os) given = leaving (capacity ∷ os) given
capacity_of os given = None

-- `length` of an array, a string, a name, or a font
abbrev pub length_operator : List Object → Given → Option Change
length_operator (Font ts ∷ os) given = leaving (capacity ∷ os) given
length_operator (Plain (Literal name) ∷ os) given = number_left (Some (length name)) os given
length_operator (Plain t ∷ os) given = number_left (option_map length (items_of given.store (Plain t))) os given
length_operator os given = None

abbrev pub loading : Option (List Object) → List Object → Given → Option Change
loading None os given = None
loading (Some items) os given = leaving (reverse items ++ os) given

-- `aload`
abbrev pub load_from : List Object → Given → Option Change
load_from (Plain t ∷ os) given = loading (option_map (λ items. items ++ Plain t ∷ []) (array_of given.store (Plain t))) os given
load_from os given = None

-- tokens that push the elements, in order: those of a composite that are there by then
abbrev pub pushing_tokens : Option Composite → Option (List Token)
pushing_tokens None = None
pushing_tokens (Some c) = Some (map (λ i. element_token c.tag c.number i) (range_with_len c.first c.count))

abbrev pub tokens_of : Store → Token → Option (List Token)
tokens_of store (Bound name) = pushing_tokens (referred name)
tokens_of store t = option_map (map (λ b. Number (decimal b))) (string_of store (Plain t))

abbrev pub each_run : List Token → Option (List Token) → List Object → Given → Option Change
each_run ts None os given = None
each_run ts (Some turns) os given = run_next (flat_map (λ t. t ∷ ts) turns) os given

-- a font dictionary has an entry for this, which stands for all that it has but FID
abbrev pub font_key : List ℕ
font_key = 261 ∷ []

-- with a font as the element of a new array
abbrev pub with_font : List Token → List Token → List Object → Given → Option Change
with_font ts us os given = Some (record {
  next = Literal font_key ∷ element_token array_tag (given.made + 1) 0 ∷ ts;
  past = None;
  operands = os;
  puts = element_entry (given.made + 1) 0 (Font us) ∷ [];
  made = given.made + 1;
  strokes = [];
})

-- `forall` of an array or a string, and of a font: so a document copies one, to give it another encoding
abbrev pub for_all : List Object → Given → Option Change
for_all (Procedure ts ∷ Plain t ∷ os) given = each_run ts (tokens_of given.store t) os given
for_all (Procedure ts ∷ Font us ∷ os) given = with_font ts us os given
for_all os given = None

-- strings and names by their characters; what is neither isn't equal to them
abbrev pub are_same_characters : Option (List ℕ) → Option (List ℕ) → Option Bool
are_same_characters None None = None
are_same_characters None (Some b) = Some false
are_same_characters (Some a) None = Some false
are_same_characters (Some a) (Some b) = Some (bytes_eq a b)

-- two references to what isn't a string are equal if they are the same
abbrev pub or_same_reference : Option Bool → (a b : List ℕ) → Option Bool
or_same_reference None a b = Some (bytes_eq a b)
or_same_reference (Some same) a b = Some same

abbrev pub are_same : Store → (a b : Object) → Option Bool
are_same store (Truth a) (Truth b) = Some (if a then b else not b)
are_same store Mark Mark = Some true
are_same store (Plain (Bound a)) (Plain (Bound b)) =
    or_same_reference (are_same_characters (string_of store (Plain (Bound a))) (string_of store (Plain (Bound b)))) a b
are_same store (Plain a) (Plain b) = are_same_characters (characters_of store (Plain a)) (characters_of store (Plain b))
are_same store a b = None

abbrev pub compared_more : Comparison → Store → (a b : Object) → Option Bool
compared_more c store (Plain (Number a)) (Plain (Number b)) = decimals_compared c a b
compared_more c store a b = sameness c (are_same store a b)

abbrev pub judging : (own more : Option Bool) → List Object → Given → Option Change
judging None (Some test) os given = leaving (Truth test ∷ os) given
judging own more os given = None

-- `eq` and the like: numbers with decimals, strings, references
abbrev pub compare_more : Comparison → List Object → Given → Option Change
compare_more c (b ∷ a ∷ os) given = judging (objects_compared c a b) (compared_more c given.store a b) os given
compare_more c os given = None

abbrev pub showing : List ℕ → Option (List ℕ) → List Object → Given → Option Change
showing name None os given = None
showing name (Some bytes) os given = run_next (Bound name ∷ []) (Plain (Hexadecimal (as_hexadecimal bytes)) ∷ os) given

-- `show` and the like, of a string that may change: what is painted is what it has then
abbrev pub show_more : List ℕ → List Object → Given → Option Change
show_more name (Plain (Bound ref) ∷ os) given = showing name (string_of given.store (Plain (Bound ref))) os given
show_more name os given = None

-- what a procedure with this element runs
abbrev pub run_token : Composite → ℕ → Object → Token
run_token c i (Plain t) = t
run_token c i (Operator name kind) = Bound name
run_token c i o = element_token c.tag c.number i

abbrev pub procedure_of : Store → Composite → List Token
procedure_of store c = map (λ i. run_token c i (element_at store c.tag c.number i)) (range_with_len c.first c.count)

abbrev pub make_procedure : Option Composite → List Object → Given → Option Change
make_procedure None os given = None
make_procedure (Some c) os given =
    if c.tag == array_tag then
    putting (record { dictionary = c.number; key = frozen_key; value = Truth true } ∷ []) (Procedure (procedure_of given.store c) ∷ os) given
    else None

-- `cvx` of an array: nothing can be put into that array afterwards, because the procedure has its present elements
abbrev pub make_executable : List Object → Given → Option Change
make_executable (Plain (Bound name) ∷ os) given = make_procedure (referred name) os given
make_executable os given = None

abbrev pub formed_value : List ℕ → Kind → Valued
formed_value name (Computes Where) given = where_more given.operands given
formed_value name (Computes Load) given = load_more given.operands given
formed_value name (Computes Known) given = known_more given.operands given
formed_value name (Computes MakeDictionary) given = make_dictionary given.operands given
formed_value name (Computes MakeExecutable) given = make_executable given.operands given
formed_value name (Computes CloseArray) given = closed_array (down_to_mark [] given.operands) given
formed_value name (Computes Get) given = get_from given.operands given
formed_value name (Computes Put) given = put_into given.operands given
formed_value name (Computes Length) given = length_operator given.operands given
formed_value name (Computes LoadArray) given = load_from given.operands given
formed_value name (Computes (Compare c)) given = compare_more c given.operands given
formed_value name (Controls ForAll) given = for_all given.operands given
formed_value name (Draws (AText ∷ wants) Shows) given = show_more name given.operands given
formed_value name (Draws (ANumber ∷ wants) Transforms) given = fill_matrix name given.operands given
formed_value name (Draws (AMatrix ∷ wants) Transforms) given = transform_more name given.operands given
formed_value name kind given = None

-- By name.

abbrev pub make_new : (tag : ℕ) → List Object → Given → Option Change
make_new tag (Plain (Number text) ∷ os) given = if list_all is_ascii_digit text then making tag (number_of text) [] os given else None
make_new tag os given = None

abbrev pub interval_of : (start count : ℕ) → Option Composite → List Object → Given → Option Change
interval_of start count None os given = None
interval_of start count (Some c) os given =
    if nat_le (start + count) c.count then leaving (reference (record c { first = c.first + start; count = count }) ∷ os) given else None

abbrev pub token_part : (start count : ℕ) → List Token → Option (List Token)
token_part start count ts = if nat_le (start + count) (length ts) then Some (take count (drop start ts)) else None

-- `getinterval` of a composite one refers to a part of it
abbrev pub get_interval_on : (start count : ℕ) → List Object → Given → Option Change
get_interval_on start count (Plain (Bound name) ∷ os) given = interval_of start count (referred name) os given
get_interval_on start count (Array ts ∷ os) given = pushing (option_map Array (token_part start count ts)) os given
get_interval_on start count os given = None

abbrev pub get_interval : List Object → Given → Option Change
get_interval (Plain (Number count) ∷ Plain (Number start) ∷ os) given =
    if list_all is_ascii_digit (count ++ start) then get_interval_on (number_of start) (number_of count) os given else None
get_interval os given = None

abbrev pub put_interval_at : Option Composite → List ℕ → Object → List Object → Given → Option Change
put_interval_at None text o os given = None
put_interval_at (Some c) text o os given = put_items c text (items_for c.tag given.store o) os given

abbrev pub put_interval : List Object → Given → Option Change
put_interval (o ∷ Plain (Number text) ∷ Plain (Bound name) ∷ os) given = put_interval_at (referred name) text o os given
put_interval os given = None

abbrev pub store_all_in : Option Composite → List Object → Given → Option Change
store_all_in None os given = None
store_all_in (Some c) os given =
    if (c.tag == array_tag) && (nat_le c.count (length os) && may_be_filled given.store c c.count)
    then putting (element_entries c.number c.first (reverse (take c.count os))) (reference c ∷ drop c.count os) given
    else None

-- `astore`
abbrev pub store_all : List Object → Given → Option Change
store_all (Plain (Bound name) ∷ os) given = store_all_in (referred name) os given
store_all os given = None

abbrev pub current_dictionary : List ℕ → Given → Option Change
current_dictionary [] given = None
current_dictionary (d ∷ ds) given = leaving (Dictionary d ∷ given.operands) given

-- the topmost dictionary that has the key, or else the current one
abbrev pub stored_in : Store → List ℕ → List ℕ → Option ℕ → Option ℕ
stored_in store key [] current = current
stored_in store key (d ∷ ds) current = if has (store d key) then Some d else stored_in store key ds current

abbrev pub store_under : Option ℕ → List ℕ → Object → List Object → Given → Option Change
store_under None key o os given = None
store_under (Some d) key o os given =
    if is_put key then None else putting (record { dictionary = d; key = key; value = o } ∷ []) os given

abbrev pub first_number : List ℕ → Option ℕ
first_number [] = None
first_number (d ∷ ds) = Some d

-- `store`
abbrev pub store_value : List Object → Given → Option Change
store_value (o ∷ Plain (Literal key) ∷ os) given =
    store_under (stored_in given.store key given.dictionaries (first_number given.dictionaries)) key o os given
store_value os given = None

-- an object as text (`cvs`): a whole number, a boolean, a name, a string
abbrev pub string_text : Store → Object → Option (List ℕ)
string_text store (Plain (Number text)) = option_map whole_number_text (whole_of text)
string_text store (Truth true) = Some (codes "true")
string_text store (Truth false) = Some (codes "false")
string_text store o = characters_of store o

abbrev pub write_text : Option Composite → Option (List ℕ) → List Object → Given → Option Change
write_text (Some c) (Some bytes) os given =
    if (c.tag == string_tag) && may_be_filled given.store c (length bytes)
    then putting (element_entries c.number c.first (map number_object bytes)) (reference (record c { count = length bytes }) ∷ os) given
    else None
write_text c bytes os given = None

abbrev pub to_string : List Object → Given → Option Change
to_string (Plain (Bound name) ∷ o ∷ os) given = write_text (referred name) (string_text given.store o) os given
to_string os given = None

-- `cvn`
abbrev pub to_name : List Object → Given → Option Change
to_name (o ∷ os) given = pushing (option_map (λ bytes. Plain (Literal bytes)) (string_of given.store o)) os given
to_name os given = None

abbrev pub drawing_with : List ℕ → Effect → Option (List Object × List Object) → Given → Option Change
drawing_with name effect None given = None
drawing_with name effect (Some (os, rest)) given = Some (record {
  next = [];
  past = None;
  operands = rest;
  puts = [];
  made = given.made;
  strokes = record { effect = effect; call = record { name = name; operands = os } } ∷ [];
})

-- a graphics operator, as those of the machine
abbrev pub drawing : List ℕ → List Want → Effect → Valued
drawing name wants effect given = drawing_with name effect (taken wants given.operands) given

-- a font by the key under which it is defined (`definefont`), or by its matrix too (`makefont`)
abbrev pub define_font : List Object → Given → Option Change
define_font (Font ts ∷ Plain (Literal key) ∷ os) given = leaving (Font (Literal key ∷ []) ∷ os) given
define_font (Dictionary d ∷ Plain (Literal key) ∷ os) given = leaving (Font (Literal key ∷ []) ∷ os) given
define_font os given = None

abbrev pub make_font : List Object → Given → Option Change
make_font (Array ts ∷ Font us ∷ os) given =
    if fits AMatrix (Array ts) then leaving (Font (ts ++ Name (codes "makefont") ∷ us) ∷ os) given else None
make_font os given = None

-- `stopped`: the machine stops at an error, so what it runs isn't stopped
abbrev pub run_stopped : List Object → Given → Option Change
run_stopped (Procedure ts ∷ os) given = run_next (ts ++ Bound (codes "false") ∷ []) os given
run_stopped os given = None

-- `stringwidth`
abbrev pub width_of : List Object → Given → Option Change
width_of (o ∷ os) given = point_left (width_by (latest_font given.settings) (string_of given.store o)) os given
width_of os given = None

abbrev pub drop_truth : List Object → Given → Option Change
drop_truth (Truth test ∷ os) given = leaving os given
drop_truth os given = None

pub record OperatorRow : Type 0 where
  pub name : List ℕ
  pub does : Valued

abbrev pub row : List ℕ → Valued → OperatorRow
row name does = record { name = name; does = does }

abbrev pub rows : List OperatorRow
rows =
    row (codes "array") (λ given. make_new array_tag given.operands given)
    ∷ row (codes "string") (λ given. make_new string_tag given.operands given)
    ∷ row (codes "null") (λ given. leaving (null_object ∷ given.operands) given)
    ∷ row (codes "getinterval") (λ given. get_interval given.operands given)
    ∷ row (codes "putinterval") (λ given. put_interval given.operands given)
    ∷ row (codes "astore") (λ given. store_all given.operands given)
    ∷ row (codes "currentdict") (λ given. current_dictionary given.dictionaries given)
    ∷ row (codes "store") (λ given. store_value given.operands given)
    ∷ row (codes "cvs") (λ given. to_string given.operands given)
    ∷ row (codes "cvn") (λ given. to_name given.operands given)
    ∷ row (codes "languagelevel") (λ given. leaving (number_object 3 ∷ given.operands) given)
    ∷ row (codes "currentpacking") (λ given. leaving (Truth false ∷ given.operands) given)
    ∷ row (codes "setpacking") (λ given. drop_truth given.operands given)
    ∷ row (codes "definefont") (λ given. define_font given.operands given)
    ∷ row (codes "makefont") (λ given. make_font given.operands given)
    ∷ row (codes "maxlength") (λ given. capacity_of given.operands given)
    ∷ row (codes "stopped") (λ given. run_stopped given.operands given)
    ∷ row (codes "stringwidth") (λ given. width_of given.operands given)
    ∷ row (codes "currentpoint") (λ given. point_left given.point given.operands given)
    ∷ row (codes "identmatrix") (λ given. fill_identity given.operands given)
    ∷ row (codes "concatmatrix") (λ given. combine given.operands given)
    ∷ row (codes "transform") (λ given. move_by point_by given.operands given)
    ∷ row (codes "dtransform") (λ given. move_by distance_by given.operands given)
    ∷ row (codes "ISOLatin1Encoding") (λ given. leaving (Array (map (λ name. Literal name) (words isolatin1)) ∷ given.operands) given)
    ∷ row (codes "sethsbcolor") (drawing (codes "sethsbcolor") (ANumber ∷ ANumber ∷ ANumber ∷ []) Sets)
    ∷ row (codes "setflat") (drawing (codes "setflat") (ANumber ∷ []) Sets)
    ∷ row (codes "setstrokeadjust") (drawing (codes "setstrokeadjust") (ATruth ∷ []) Sets)
    ∷ row (codes "setoverprint") (drawing (codes "setoverprint") (ATruth ∷ []) Sets)
    ∷ row (codes "arct") (drawing (codes "arct") (ANumber ∷ ANumber ∷ ANumber ∷ ANumber ∷ ANumber ∷ []) Segments)
    ∷ row (codes "xshow") (drawing (codes "xshow") (AnArray ∷ AText ∷ []) Shows)
    ∷ row (codes "yshow") (drawing (codes "yshow") (AnArray ∷ AText ∷ []) Shows)
    ∷ row (codes "xyshow") (drawing (codes "xyshow") (AnArray ∷ AText ∷ []) Shows)
    ∷ []

abbrev pub row_named : List ℕ → List OperatorRow → Option Valued
row_named name [] = None
row_named name (r ∷ rs) = if bytes_eq r.name name then Some r.does else row_named name rs

-- references, and the names that push an element
abbrev pub operator_named : List ℕ → Option Valued
operator_named (tag ∷ []) = if tag == null_tag then Some (λ given. leaving (null_object ∷ given.operands) given) else row_named (tag ∷ []) rows
operator_named (tag ∷ a ∷ b ∷ c ∷ []) =
    if tag == element_tag then Some (λ given. leaving (element_at given.store a b c ∷ given.operands) given)
    else if tag == array_tag || tag == string_tag then
    Some (λ given. leaving (Plain (Bound (tag ∷ a ∷ b ∷ c ∷ [])) ∷ given.operands) given)
    else row_named (tag ∷ a ∷ b ∷ c ∷ []) rows
operator_named name = row_named name rows

-- the table, with any others besides
abbrev pub values_with : (others : List ℕ → Option Blind) → Table
values_with others = by_stores operator_named formed_value others

abbrev pub no_others : List ℕ → Option Blind
no_others name = None

-- the machine's further operators, if there are no others
abbrev pub values : Further
values = by_table (values_with no_others)

-- with any others that ask for none of the names that the sheet's text puts, they are blind: a law
abbrev pub ValuesAreBlind : Type 0
ValuesAreBlind =
    (others : List ℕ → Option Blind) → ((name : List ℕ) (f : Blind) → others name ≡ Some f → AsksForNone f)
    → IsBlind (by_table (values_with others))

-- and with any others that don't look at what matrices hold, they are placeless under the guard: a law
abbrev pub ValuesArePlacelessThere : Type 0
ValuesArePlacelessThere =
    (others : List ℕ → Option Blind) → ((name : List ℕ) (f : Blind) → others name ≡ Some f → SeesNoMatrices f)
    → IsPlacelessThere (by_table (values_with others))
