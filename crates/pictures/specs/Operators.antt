-- What operators that paint nothing do with operands, dictionaries and procedures. Each is by its name in 8.2,
-- 'Operator details', of the PostScript Language Reference, third edition; an operand that it doesn't take stops
-- the machine.
use Rattle.std.specs.List.{list_all, range_with_len}
use Rattle.std.specs.Char.{is_ascii_digit}
use Rattle.rules.specs.Numbers.{number_of}
use Rattle.std.specs.Prelude.{ℕ, zero, suc, ◌+◌, List, [], ◌∷◌, ◌++◌, map, flat_map, length, Bool, true, false, not}
use Rattle.std.specs.Prelude.{◌&&◌, ◌||◌, ◌==◌, nat_lt, if◌then◌else◌, Option, Some, None, ℤ, pos, ◌+ℤ◌, ◌*ℤ◌, decimal}
use Rattle.std.specs.Prelude.{◌-◌, ◌%◌, negsuc, nat_le, take, drop, codes, bytes_eq}
use Rattle.pictures.specs.Objects.{Token, Number, Name, Literal, Text, Hexadecimal, Opens, Closes, Bound, Object}
use Rattle.pictures.specs.Objects.{Plain, Truth, Mark, Array}
use Rattle.pictures.specs.Objects.{Procedure, Dictionary, SystemDictionary, Matrix, Saved}
use Rattle.pictures.specs.Objects.{Font, Operator, Computation, Pop, Duplicate, Exchange, OpenArray, CloseArray, Put}
use Rattle.pictures.specs.Objects.{Define, Begin, End}
use Rattle.pictures.specs.Objects.{MakeDictionary, Load, Bind, Known, Index, ClearToMark, FindFont, ScaleFont, Control}
use Rattle.pictures.specs.Objects.{Calculate, Negate, Compare, And, Or, Not, Where, Get, Length, LoadArray}
use Rattle.pictures.specs.Objects.{CloseDictionary, CopyOperands, Roll, Count, MakeExecutable, IsWritable, MakeReadOnly}
use Rattle.pictures.specs.Objects.{MakeMatrix}
use Rattle.pictures.specs.Objects.{Comparison, Equal, NotEqual}
use Rattle.pictures.specs.Objects.{Execute, If, IfElse, Repeat, For, ForAll, Want, ANumber, AText, AnArray}
use Rattle.pictures.specs.Objects.{AMatrix, AFont, AName, ATruth}
use Rattle.pictures.specs.Calculations.{whole_of, whole_number_text, calculated, negated, compared, names_compared, turns}
use Rattle.pictures.specs.Dictionaries.{DictionaryEntry, meaning, system, dictionary_entry, has, is_lacked, read_only}

-- the operands and the dictionaries on their stacks, the topmost first (3.4); all entries; the numbers of
-- dictionaries and matrices that have been made
pub record Work : Type 0 where
  pub operands : List Object
  pub dictionaries : List ℕ
  pub entries : List DictionaryEntry
  pub made : ℕ

abbrev pub with_operands : Work → List Object → Work
with_operands w os = record w { operands = os }

abbrev pub are_numbers : List Token → Bool
are_numbers [] = true
are_numbers (Number text ∷ ts) = are_numbers ts
are_numbers (t ∷ ts) = false

-- an array is one of numbers; a matrix is one of six numbers (4.3.3)
abbrev pub fits : Want → Object → Bool
fits ANumber (Plain (Number text)) = true
fits AText (Plain (Text bytes)) = true
fits AText (Plain (Hexadecimal digits)) = true
fits AnArray (Array ts) = are_numbers ts
fits AMatrix (Array ts) = are_numbers ts && (length ts == 6)
fits AFont (Font ts) = true
fits AName (Plain (Literal name)) = true
fits ATruth (Truth test) = true
fits w o = false

abbrev pub also : Object → Option (List Object × List Object) → Option (List Object × List Object)
also o None = None
also o (Some (os, rest)) = Some (o ∷ os, rest)

-- the operands that are taken, and those below them
abbrev pub taken : List Want → List Object → Option (List Object × List Object)
taken [] os = Some ([], os)
taken (w ∷ ws) [] = None
taken (w ∷ ws) (o ∷ os) = if fits w o then also o (taken ws os) else None

-- the elements down to the mark, the first one first
abbrev pub collected : List Token → List Object → Option (List Token × List Object)
collected ts (Mark ∷ os) = Some (ts, os)
collected ts (Plain t ∷ os) = collected (t ∷ ts) os
collected ts os = None

-- `bind`: a name that means an operator is bound to it, whatever the name means later. The operator's own name is
-- kept. Inner procedures are bound too
abbrev pub bound_to : Option Object → Token → Token
bound_to (Some (Operator name kind)) t = Bound name
bound_to o t = t

abbrev pub bound_token : Work → Token → Token
bound_token w (Name name) = bound_to (meaning w.dictionaries w.entries name) (Name name)
bound_token w t = t

abbrev pub loaded : Option Object → Work → Option Work
loaded None w = None
loaded (Some o) w = Some (with_operands w (o ∷ w.operands))

abbrev pub gathered : Option (List Token × List Object) → Work → Option Work
gathered None w = None
gathered (Some (ts, os)) w = Some (with_operands w (Array ts ∷ os))

abbrev pub put_entry : ℕ → List ℕ → Object → Work → Work
put_entry d name o w = record w { entries = record { dictionary = d; key = name; value = o } ∷ w.entries }

abbrev pub define : List ℕ → List ℕ → Object → Work → Option Work
define [] name o w = None
define (d ∷ ds) name o w = Some (put_entry d name o w)

abbrev pub scope_ended : List ℕ → Work → Option Work
scope_ended [] w = None
scope_ended (d ∷ []) w = None
scope_ended (d ∷ e ∷ ds) w = Some (record w { dictionaries = e ∷ ds })

-- the operands below the topmost mark
abbrev pub below_mark : List Object → Option (List Object)
below_mark [] = None
below_mark (Mark ∷ os) = Some os
below_mark (o ∷ os) = below_mark os

abbrev pub cleared : Option (List Object) → Work → Option Work
cleared None w = None
cleared (Some os) w = Some (with_operands w os)

abbrev pub nth : ℕ → List Object → Option Object
nth n [] = None
nth zero (o ∷ os) = Some o
nth (suc n) (o ∷ os) = nth n os

abbrev pub repeated_tokens : ℕ → List Token → List Token
repeated_tokens zero ts = []
repeated_tokens (suc n) ts = ts ++ repeated_tokens n ts

-- the result of a comparison
abbrev pub judged : Option Bool → Work → Option Work
judged None w = None
judged (Some test) w = Some (with_operands w (Truth test ∷ w.operands))

-- the topmost dictionary on the stack that has the key
abbrev pub holder : List ℕ → List DictionaryEntry → List ℕ → Option ℕ
holder [] es key = None
holder (d ∷ ds) es key = if has (dictionary_entry d key es) then Some d else holder ds es key

-- `where`: that dictionary and true, or systemdict and true, or false; it stops at a name that this machine lacks
abbrev pub located : Option ℕ → (in_system lacks : Bool) → Work → Option Work
located (Some d) in_system lacks w = Some (with_operands w (Truth true ∷ Dictionary d ∷ w.operands))
located None true lacks w = Some (with_operands w (Truth true ∷ SystemDictionary ∷ w.operands))
located None false true w = None
located None false false w = Some (with_operands w (Truth false ∷ w.operands))

-- `known` of systemdict: it stops at a name that this machine lacks
abbrev pub known_there : (in_system lacks : Bool) → Option Bool
known_there true lacks = Some true
known_there false true = None
known_there false false = Some false

-- what `eq` distinguishes whatever the value. A string is equal to the name with its characters; here a procedure
-- and a matrix are arrays, and a font is a dictionary
abbrev pub sort_of : Object → List ℕ
sort_of (Plain (Number text)) = codes "number"
sort_of (Plain t) = codes "name or string"
sort_of (Truth test) = codes "boolean"
sort_of Mark = codes "mark"
sort_of (Array ts) = codes "array"
sort_of (Procedure ts) = codes "array"
sort_of (Matrix n) = codes "array"
sort_of (Dictionary d) = codes "dictionary"
sort_of SystemDictionary = codes "dictionary"
sort_of (Font ts) = codes "dictionary"
sort_of (Saved level) = codes "save"
sort_of (Operator name kind) = codes "operator"

abbrev pub sameness : Comparison → Option Bool → Option Bool
sameness Equal (Some same) = Some same
sameness NotEqual (Some same) = Some (not same)
sameness c x = None

-- `eq` and the like, of whole numbers, names and dictionaries; objects of two sorts differ, and others of one sort
-- stop the machine
abbrev pub objects_compared : Comparison → (a b : Object) → Option Bool
objects_compared c (Plain (Number a)) (Plain (Number b)) = compared c a b
objects_compared c (Plain (Literal a)) (Plain (Literal b)) = names_compared c a b
objects_compared c (Dictionary d) (Dictionary e) = sameness c (Some (d == e))
objects_compared c (Dictionary d) SystemDictionary = sameness c (Some false)
objects_compared c SystemDictionary (Dictionary d) = sameness c (Some false)
objects_compared c SystemDictionary SystemDictionary = sameness c (Some true)
objects_compared c a b = sameness c (if bytes_eq (sort_of a) (sort_of b) then None else Some false)

-- an element of an array, counted from 0
abbrev pub element : ℕ → List Token → Work → Option Work
element n [] w = None
element zero (t ∷ ts) w = Some (with_operands w (Plain t ∷ w.operands))
element (suc n) (t ∷ ts) w = element n ts w

-- the number of elements of a procedure's tokens, inside this many braces: a procedure in it is one element
abbrev pub elements_in : List Token → (depth : ℕ) → ℕ
elements_in [] depth = 0
elements_in (Opens ∷ ts) zero = suc (elements_in ts 1)
elements_in (Opens ∷ ts) (suc depth) = elements_in ts (suc (suc depth))
elements_in (Closes ∷ ts) zero = elements_in ts 0
elements_in (Closes ∷ ts) (suc depth) = elements_in ts depth
elements_in (t ∷ ts) zero = suc (elements_in ts 0)
elements_in (t ∷ ts) (suc depth) = elements_in ts (suc depth)

-- the elements of an array, pushed in order
abbrev pub onto : List Token → List Object → List Object
onto [] os = os
onto (t ∷ ts) os = onto ts (Plain t ∷ os)

-- the keys and values down to the mark, put into a dictionary as by `def`, the topmost first: so of equal keys the
-- first one that was written counts
abbrev pub dictionary_filled : ℕ → List Object → List DictionaryEntry → Option (List DictionaryEntry × List Object)
dictionary_filled d (Mark ∷ os) es = Some (es, os)
dictionary_filled d (o ∷ Plain (Literal name) ∷ os) es =
    dictionary_filled d os (record { dictionary = d; key = name; value = o } ∷ es)
dictionary_filled d os es = None

abbrev pub dictionary_made : Option (List DictionaryEntry × List Object) → Work → Option Work
dictionary_made None w = None
dictionary_made (Some (es, os)) w =
    Some (record w { operands = Dictionary (w.made + 1) ∷ os; entries = es; made = w.made + 1 })

-- there are this many operands
abbrev pub are_there : List ℕ → List Object → Bool
are_there text os = list_all is_ascii_digit text && nat_le (number_of text) (length os)

-- how many of n operands go from the top to the bottom, if they are rolled by j
abbrev pub shift : ℕ → ℤ → ℕ
shift zero j = 0
shift (suc n) (pos j) = j % suc n
shift (suc n) (negsuc j) = n - j % suc n

abbrev pub rolled : (n k : ℕ) → List Object → List Object
rolled n k os = drop k (take n os) ++ take k (take n os) ++ drop n os

abbrev pub rolling : Option ℤ → ℕ → Bool → List Object → Work → Option Work
rolling None n there os w = None
rolling (Some j) n there os w = if there then Some (with_operands w (rolled n (shift n j) os)) else None

-- the result for these operands, the topmost first
abbrev pub computed_on : Computation → List Object → Work → Option Work
computed_on Pop (o ∷ os) w = Some (with_operands w os)
computed_on Duplicate (o ∷ os) w = Some (with_operands w (o ∷ o ∷ os))
computed_on Exchange (o ∷ p ∷ os) w = Some (with_operands w (p ∷ o ∷ os))
computed_on OpenArray os w = Some (with_operands w (Mark ∷ os))
computed_on CloseArray os w = gathered (collected [] os) w
computed_on Put (o ∷ Plain (Literal name) ∷ Dictionary d ∷ os) w = Some (put_entry d name o (with_operands w os))
computed_on Define (o ∷ Plain (Literal name) ∷ os) w = define w.dictionaries name o (with_operands w os)
computed_on Begin (Dictionary d ∷ os) w = Some (record w { operands = os; dictionaries = d ∷ w.dictionaries })
computed_on End os w = scope_ended w.dictionaries w
computed_on MakeDictionary (Plain (Number text) ∷ os) w =
    if list_all is_ascii_digit text then Some (record w { operands = Dictionary (w.made + 1) ∷ os; made = w.made + 1 })
    else None
computed_on Load (Plain (Literal name) ∷ os) w = loaded (meaning w.dictionaries w.entries name) (with_operands w os)
computed_on Bind (Procedure ts ∷ os) w = Some (with_operands w (Procedure (map (bound_token w) ts) ∷ os))
computed_on Known (Plain (Literal name) ∷ Dictionary d ∷ os) w =
    Some (with_operands w (Truth (has (dictionary_entry d name w.entries)) ∷ os))
computed_on Known (Plain (Literal name) ∷ SystemDictionary ∷ os) w =
    judged (known_there (has (system name)) (is_lacked name)) (with_operands w os)
computed_on Index (Plain (Number text) ∷ os) w =
    if list_all is_ascii_digit text then loaded (nth (number_of text) os) (with_operands w os) else None
computed_on ClearToMark os w = cleared (below_mark os) w
computed_on FindFont (Plain (Literal name) ∷ os) w = Some (with_operands w (Font (Literal name ∷ []) ∷ os))
computed_on ScaleFont (Plain (Number text) ∷ Font ts ∷ os) w = Some (with_operands w (Font (Number text ∷ ts) ∷ os))
computed_on (Calculate c) (Plain (Number b) ∷ Plain (Number a) ∷ os) w =
    Some (with_operands w (Plain (Number (calculated c a b)) ∷ os))
computed_on Negate (Plain (Number a) ∷ os) w = Some (with_operands w (Plain (Number (negated a)) ∷ os))
computed_on (Compare c) (b ∷ a ∷ os) w = judged (objects_compared c a b) (with_operands w os)
computed_on And (Truth b ∷ Truth a ∷ os) w = Some (with_operands w (Truth (a && b) ∷ os))
computed_on Or (Truth b ∷ Truth a ∷ os) w = Some (with_operands w (Truth (a || b) ∷ os))
computed_on Not (Truth a ∷ os) w = Some (with_operands w (Truth (not a) ∷ os))
computed_on Where (Plain (Literal name) ∷ os) w =
    located (holder w.dictionaries w.entries name) (has (system name)) (is_lacked name) (with_operands w os)
computed_on Get (Plain (Literal name) ∷ Dictionary d ∷ os) w =
    loaded (dictionary_entry d name w.entries) (with_operands w os)
computed_on Get (Plain (Literal name) ∷ SystemDictionary ∷ os) w = loaded (system name) (with_operands w os)
computed_on Get (Plain (Number text) ∷ Array ts ∷ os) w =
    if list_all is_ascii_digit text then element (number_of text) ts (with_operands w os) else None
computed_on Length (Array ts ∷ os) w = Some (with_operands w (Plain (Number (decimal (length ts))) ∷ os))
computed_on Length (Procedure ts ∷ os) w = Some (with_operands w (Plain (Number (decimal (elements_in ts 0))) ∷ os))
computed_on LoadArray (Array ts ∷ os) w = Some (with_operands w (Array ts ∷ onto ts os))
computed_on CloseDictionary os w = dictionary_made (dictionary_filled (w.made + 1) os w.entries) w
computed_on CopyOperands (Plain (Number text) ∷ os) w =
    if are_there text os then Some (with_operands w (take (number_of text) os ++ os)) else None
computed_on Roll (Plain (Number j) ∷ Plain (Number text) ∷ os) w =
    rolling (whole_of j) (number_of text) (are_there text os) os w
computed_on Count os w = Some (with_operands w (Plain (Number (decimal (length os))) ∷ os))
computed_on MakeExecutable (Plain (Literal name) ∷ os) w = Some (with_operands w (Plain (Name name) ∷ os))
computed_on MakeExecutable (Array ts ∷ os) w = Some (with_operands w (Procedure ts ∷ os))
computed_on MakeExecutable (Procedure ts ∷ os) w = Some (with_operands w (Procedure ts ∷ os))
computed_on IsWritable (Dictionary d ∷ os) w =
    Some (with_operands w (Truth (not (has (dictionary_entry d read_only w.entries))) ∷ os))
computed_on IsWritable (SystemDictionary ∷ os) w = Some (with_operands w (Truth false ∷ os))
computed_on MakeReadOnly (Dictionary d ∷ os) w =
    Some (put_entry d read_only (Truth true) (with_operands w (Dictionary d ∷ os)))
computed_on MakeMatrix os w = Some (record w { operands = Matrix (w.made + 1) ∷ os; made = w.made + 1 })
computed_on c os w = None

abbrev pub computed : Computation → Work → Option Work
computed c w = computed_on c w.operands w

-- `for`: in each turn its number, and the procedure
abbrev pub loop_turned : Option ℕ → (first step : ℤ) → List Token → Work → Option (List Token × Work)
loop_turned None first step ts w = None
loop_turned (Some n) first step ts w =
    Some (flat_map (λ i. Number (whole_number_text (first +ℤ step *ℤ pos i)) ∷ ts) (range_with_len 0 n), w)

abbrev pub counting : (first step limit : Option ℤ) → List Token → Work → Option (List Token × Work)
counting (Some first) (Some step) (Some limit) ts w = loop_turned (turns first step limit) first step ts w
counting first step limit ts w = None

-- no element is an executable name, which `forall` pushes and a procedure runs
abbrev pub are_literal : List Token → Bool
are_literal [] = true
are_literal (Name name ∷ ts) = false
are_literal (t ∷ ts) = are_literal ts

-- what is run next
abbrev pub controlled_on : Control → List Object → Work → Option (List Token × Work)
controlled_on Execute (Procedure ts ∷ os) w = Some (ts, with_operands w os)
controlled_on Execute (Operator name kind ∷ os) w = Some (Bound name ∷ [], with_operands w os)
controlled_on Execute (Plain t ∷ os) w = Some (t ∷ [], with_operands w os)
controlled_on If (Procedure ts ∷ Truth test ∷ os) w = Some (if test then ts else [], with_operands w os)
controlled_on IfElse (Procedure us ∷ Procedure ts ∷ Truth test ∷ os) w =
    Some (if test then ts else us, with_operands w os)
controlled_on Repeat (Procedure ts ∷ Plain (Number text) ∷ os) w =
    if list_all is_ascii_digit text then Some (repeated_tokens (number_of text) ts, with_operands w os) else None
controlled_on For (Procedure ts ∷ Plain (Number limit) ∷ Plain (Number step) ∷ Plain (Number first) ∷ os) w =
    counting (whole_of first) (whole_of step) (whole_of limit) ts (with_operands w os)
controlled_on ForAll (Procedure ts ∷ Array es ∷ os) w =
    if are_literal es then Some (flat_map (λ e. e ∷ ts) es, with_operands w os) else None
controlled_on c os w = None

abbrev pub controlled : Control → Work → Option (List Token × Work)
controlled c w = controlled_on c w.operands w

-- no dictionary is newer than this many
abbrev pub all_old : ℕ → List ℕ → Bool
all_old n [] = true
all_old n (d ∷ ds) = nat_lt d (n + 1) && all_old n ds

-- an operand that existed when this many dictionaries had been made and this many saves were in force. For an
-- array, a procedure, a string or a font this isn't known, so it counts as newer
abbrev pub is_old : (made level : ℕ) → Object → Bool
is_old made level (Dictionary d) = nat_lt d (made + 1)
is_old made level (Matrix n) = nat_lt n (made + 1)
is_old made level (Saved l) = nat_lt l level
is_old made level (Plain (Text bytes)) = false
is_old made level (Plain (Hexadecimal digits)) = false
is_old made level (Array ts) = false
is_old made level (Procedure ts) = false
is_old made level (Font ts) = false
is_old made level o = true

abbrev pub all_are_old : (made level : ℕ) → List Object → Bool
all_are_old made level [] = true
all_are_old made level (o ∷ os) = is_old made level o && all_are_old made level os
