-- The table of operators on values: each freer form takes only what the operator itself doesn't take. So it is blind, and
-- placeless under the guard.
use Rattle.std.specs.Prelude.{Option, Some, None, if◌then◌else◌, length, option_map}
use Rattle.std.specs.List.{list_all}
use Rattle.std.specs.Char.{is_ascii_digit}
use Rattle.std.proofs.Common.{◌≡◌, ℕ, refl, ap, ap₂, ◌∙◌, sym, Bool, true, false, not, ◌&&◌, ◌||◌, List, [], ◌∷◌, ◌++◌, true≢false, is_none}
use Rattle.pictures.specs.Objects.{Token, Number, Literal, Bound, Object, Plain, Mark, Matrix, Procedure, SystemDictionary, Font, Computation, Computes, Controls, Draws}
use Rattle.pictures.specs.Objects.{CloseArray, Get, Put, Length, LoadArray, Compare, ForAll, Where, Load, Known, MakeDictionary, MakeExecutable, Want, ANumber, AText, AMatrix, Comparison, Shows, Transforms}
use Rattle.pictures.specs.Dictionaries.{DictionaryEntry, has, system, is_lacked, or, meaning, dictionary_entry}
use Rattle.pictures.specs.Operators.{Work, with_operands, taken, collected, gathered, judged, loaded, located, holder, known_there, objects_compared, computed_on, controlled_on}
use Rattle.pictures.proofs.Tests.{first, second}
use Rattle.pictures.proofs.Names.{not_true}
use Rattle.open_pictures.specs.Operators.{Visible, Blind, AsksForNone}
use Rattle.open_pictures.specs.Stores.{Given, Change, FormsTakeOthers, above_save, from_save, is_put, unlevelled, seen, given_of}
use Rattle.open_pictures.specs.Composites.{array_tag, making}
use Rattle.open_pictures.specs.Matrices.{fill_matrix, transform_more}
use Rattle.open_pictures.specs.Values.{down_to_mark, are_tokens, closed_array, pushing, system_value, is_in_interpreters, has_any, where_more, load_more, known_more, make_dictionary, get_from, put_into, length_operator, load_from, for_all, judging, compared_more, compare_more, show_more, make_executable, formed_value, operator_named, no_others, ValuesAreBlind, ValuesArePlacelessThere}
use Rattle.open_pictures.proofs.Stores.{split_at_save, stores_are_blind, stores_are_placeless_there}

never : {A : Type 0} (x : A) → None ≡ Some x → ⊥
never x e = true≢false (ap is_none e)

-- a test that was met
met : {A : Type 0} (b : Bool) (x : Option A) (y : A) → (if b then x else None) ≡ Some y → b ≡ true
met true x y e = refl
met false x y e = absurd (never y e)

-- `]`: what is collected are tokens
not_collected : (ts : List Token) (items os rest : List Object) (found : List Object × List Object) → are_tokens items ≡ true
    → down_to_mark items os ≡ Some found → are_tokens found.0 ≡ false → collected ts (os ++ rest) ≡ None
not_collected ts items [] rest found a e f = absurd (never found e)
not_collected ts items (Mark ∷ os) rest found a e f =
    absurd (true≢false (sym a ∙ ap (λ r. are_tokens (items_or items r)) e ∙ f))
  where
    items_or : List Object → Option (List Object × List Object) → List Object
    items_or items None = items
    items_or items (Some found) = found.0
not_collected ts items (Plain t ∷ os) rest found a e f = not_collected (t ∷ ts) (Plain t ∷ items) os rest found a e f
not_collected ts items (o ∷ os) rest found a e f = refl

close_if : (os rest : List Object) (given : Given) (c : Change) (found : List Object × List Object) (b : Bool) → down_to_mark [] os ≡ Some found
    → are_tokens found.0 ≡ b → (if b then None else making array_tag (length found.0) found.0 found.1 given) ≡ Some c → collected [] (os ++ rest) ≡ None
close_if os rest given c found true t u e = absurd (never c e)
close_if os rest given c found false t u e = not_collected [] [] os rest found refl t u

close_on : (os rest : List Object) (given : Given) (c : Change) (r : Option (List Object × List Object)) → down_to_mark [] os ≡ r
    → closed_array r given ≡ Some c → collected [] (os ++ rest) ≡ None
close_on os rest given c None t e = absurd (never c e)
close_on os rest given c (Some (items, below)) t e = close_if os rest given c (items, below) (are_tokens items) t refl e

-- Names that only an interpreter has.

none_if : (x : Option Object) → has x ≡ false → x ≡ None
none_if None e = refl
none_if (Some o) e = absurd (true≢false e)

or_left : (a b : Bool) → (a || b) ≡ false → a ≡ false
or_left true b e = e
or_left false b e = refl

or_right : (a b : Bool) → (a || b) ≡ false → b ≡ false
or_right true b e = absurd (true≢false e)
or_right false b e = e

has_seen : (es : List DictionaryEntry) (d : ℕ) (name : List ℕ) → is_put name ≡ false → has (seen es d name) ≡ has (dictionary_entry d name es)
has_seen es d name e = ap (λ b. has (if b then None else option_map unlevelled (dictionary_entry d name es))) e ∙ has_map (dictionary_entry d name es)
  where
    has_map : (x : Option Object) → has (option_map unlevelled x) ≡ has x
    has_map None = refl
    has_map (Some o) = refl

holder_none : (ds : List ℕ) (es : List DictionaryEntry) (name : List ℕ) → is_put name ≡ false → has_any (seen es) ds name ≡ false → holder ds es name ≡ None
holder_none [] es name p e = refl
holder_none (d ∷ ds) es name p e =
    ap (λ b. if b then Some d else holder ds es name) (sym (has_seen es d name p) ∙ or_left (has (seen es d name)) (has_any (seen es) ds name) e)
    ∙ holder_none ds es name p (or_right (has (seen es d name)) (has_any (seen es) ds name) e)

meaning_none : (ds : List ℕ) (es : List DictionaryEntry) (name : List ℕ) → is_put name ≡ false → has_any (seen es) ds name ≡ false → system name ≡ None
    → meaning ds es name ≡ None
meaning_none [] es name p e s = s
meaning_none (d ∷ ds) es name p e s =
    ap₂ or (none_if (dictionary_entry d name es) (sym (has_seen es d name p) ∙ or_left (has (seen es d name)) (has_any (seen es) ds name) e))
    (meaning_none ds es name p (or_right (has (seen es d name)) (has_any (seen es) ds name) e) s)

lacked_there : (name : List ℕ) → is_in_interpreters name ≡ true → is_lacked name ≡ true
lacked_there name e = first (is_lacked name) (not (has (system name)) && not (is_put name)) e

not_system : (name : List ℕ) → is_in_interpreters name ≡ true → has (system name) ≡ false
not_system name e =
    not_true (has (system name)) (first (not (has (system name))) (not (is_put name)) (second (is_lacked name) (not (has (system name)) && not (is_put name)) e))

not_put : (name : List ℕ) → is_in_interpreters name ≡ true → is_put name ≡ false
not_put name e =
    not_true (is_put name) (second (not (has (system name))) (not (is_put name)) (second (is_lacked name) (not (has (system name)) && not (is_put name)) e))

located_none : (x : Option ℕ) (a b : Bool) (w : Work) → x ≡ None → a ≡ false → b ≡ true → located x a b w ≡ None
located_none x a b w e f g = ap (λ x. located x a b w) e ∙ ap (λ a. located None a b w) f ∙ ap (λ b. located None false b w) g

known_none : (a b : Bool) (w : Work) → a ≡ false → b ≡ true → judged (known_there a b) w ≡ None
known_none a b w f g = ap (λ a. judged (known_there a b) w) f ∙ ap (λ b. judged (known_there false b) w) g

where_outside : (sight : Visible) (os rest : List Object) (c : Change) → where_more os (given_of sight) ≡ Some c → computed_on Where (os ++ rest) sight.work ≡ None
where_outside sight (Plain (Literal name) ∷ os) rest c e =
    let w : Work = sight.work in
    let any : Bool = has_any (seen w.entries) w.dictionaries name in
    let both = met (is_in_interpreters name && not any) _ c e in
    let there : is_in_interpreters name ≡ true = first (is_in_interpreters name) (not any) both in
    located_none (holder w.dictionaries w.entries name) (has (system name)) (is_lacked name) (with_operands w (os ++ rest))
    (holder_none w.dictionaries w.entries name (not_put name there) (not_true any (second (is_in_interpreters name) (not any) both)))
    (not_system name there) (lacked_there name there)
where_outside sight os rest c e = absurd (never c e)

load_outside_more : (sight : Visible) (os rest : List Object) (c : Change) → load_more os (given_of sight) ≡ Some c → computed_on Load (os ++ rest) sight.work ≡ None
load_outside_more sight (Plain (Literal name) ∷ os) rest c e =
    let w : Work = sight.work in
    let any : Bool = has_any (seen w.entries) w.dictionaries name in
    let both = met (is_in_interpreters name && not any) _ c e in
    let there : is_in_interpreters name ≡ true = first (is_in_interpreters name) (not any) both in
    ap (λ r. loaded r (with_operands w (os ++ rest)))
    (meaning_none w.dictionaries w.entries name (not_put name there) (not_true any (second (is_in_interpreters name) (not any) both))
    (none_if (system name) (not_system name there)))
load_outside_more sight os rest c e = absurd (never c e)

known_outside : (os rest : List Object) (given : Given) (c : Change) (w : Work) → known_more os given ≡ Some c → computed_on Known (os ++ rest) w ≡ None
known_outside (Plain (Literal name) ∷ SystemDictionary ∷ os) rest given c w e =
    let there : is_in_interpreters name ≡ true = met (is_in_interpreters name) _ c e in
    known_none (has (system name)) (is_lacked name) (with_operands w (os ++ rest)) (not_system name there) (lacked_there name there)
known_outside (Plain (Literal name) ∷ Font ts ∷ os) rest given c w e = refl
known_outside os rest given c w e = absurd (never c e)

-- The others.

pushed_if : (b : Bool) (x : Option Object) (os : List Object) (given : Given) (c : Change) → pushing (if b then x else None) os given ≡ Some c → b ≡ true
pushed_if true x os given c e = refl
pushed_if false x os given c e = absurd (never c e)

get_outside : (os rest : List Object) (given : Given) (c : Change) (w : Work) → get_from os given ≡ Some c → computed_on Get (os ++ rest) w ≡ None
get_outside (Plain (Number text) ∷ Plain t ∷ os) rest given c w e = refl
get_outside (Plain (Literal name) ∷ SystemDictionary ∷ os) rest given c w e =
    ap (λ r. loaded r (with_operands w (os ++ rest)))
    (none_if (system name) (not_system name (pushed_if (is_in_interpreters name) (system_value name) os given c e)))
get_outside os rest given c w e = absurd (never c e)

put_outside : (os rest : List Object) (given : Given) (c : Change) (w : Work) → put_into os given ≡ Some c → computed_on Put (os ++ rest) w ≡ None
put_outside (o ∷ Plain (Number text) ∷ Plain (Bound name) ∷ os) rest given c w e = refl
put_outside os rest given c w e = absurd (never c e)

length_outside : (os rest : List Object) (given : Given) (c : Change) (w : Work) → length_operator os given ≡ Some c → computed_on Length (os ++ rest) w ≡ None
length_outside (Plain t ∷ os) rest given c w e = refl
length_outside (Font ts ∷ os) rest given c w e = refl
length_outside os rest given c w e = absurd (never c e)

load_outside : (os rest : List Object) (given : Given) (c : Change) (w : Work) → load_from os given ≡ Some c → computed_on LoadArray (os ++ rest) w ≡ None
load_outside (Plain t ∷ os) rest given c w e = refl
load_outside os rest given c w e = absurd (never c e)

all_outside : (os rest : List Object) (given : Given) (c : Change) (w : Work) → for_all os given ≡ Some c → controlled_on ForAll (os ++ rest) w ≡ None
all_outside (Procedure ts ∷ Plain t ∷ os) rest given c w e = refl
all_outside (Procedure ts ∷ Font us ∷ os) rest given c w e = refl
all_outside os rest given c w e = absurd (never c e)

made_if : (b : Bool) (x : Option Change) (c : Change) (y : Option Work) → (if b then None else x) ≡ Some c → (if b then y else None) ≡ None
made_if true x c y e = absurd (never c e)
made_if false x c y e = refl

dictionary_outside : (os rest : List Object) (given : Given) (c : Change) (w : Work) → make_dictionary os given ≡ Some c → computed_on MakeDictionary (os ++ rest) w ≡ None
dictionary_outside (Plain (Number text) ∷ os) rest given c w e = made_if (list_all is_ascii_digit text) _ c _ e
dictionary_outside os rest given c w e = absurd (never c e)

executable_outside : (os rest : List Object) (given : Given) (c : Change) (w : Work) → make_executable os given ≡ Some c → computed_on MakeExecutable (os ++ rest) w ≡ None
executable_outside (Plain (Bound name) ∷ os) rest given c w e = refl
executable_outside os rest given c w e = absurd (never c e)

judge_outside : (own more : Option Bool) (os : List Object) (given : Given) (c : Change) → judging own more os given ≡ Some c → own ≡ None
judge_outside None more os given c e = refl
judge_outside (Some test) more os given c e = absurd (never c e)

compare_outside : (k : Comparison) (os rest : List Object) (given : Given) (c : Change) (w : Work) → compare_more k os given ≡ Some c
    → computed_on (Compare k) (os ++ rest) w ≡ None
compare_outside k (b ∷ a ∷ os) rest given c w e =
    ap (λ r. judged r (with_operands w (os ++ rest))) (judge_outside (objects_compared k a b) (compared_more k given.store a b) os given c e)
compare_outside k os rest given c w e = absurd (never c e)

show_outside : (name : List ℕ) (wants : List Want) (os rest : List Object) (given : Given) (c : Change) → show_more name os given ≡ Some c
    → taken (AText ∷ wants) (os ++ rest) ≡ None
show_outside name wants (Plain (Bound ref) ∷ os) rest given c e = refl
show_outside name wants os rest given c e = absurd (never c e)

fill_outside : (name : List ℕ) (wants : List Want) (os rest : List Object) (given : Given) (c : Change) → fill_matrix name os given ≡ Some c
    → taken (ANumber ∷ wants) (os ++ rest) ≡ None
fill_outside name wants (Matrix number ∷ Plain (Number y) ∷ Plain (Number x) ∷ os) rest given c e = refl
fill_outside name wants os rest given c e = absurd (never c e)

transform_outside : (name : List ℕ) (wants : List Want) (os rest : List Object) (given : Given) (c : Change) → transform_more name os given ≡ Some c
    → taken (AMatrix ∷ wants) (os ++ rest) ≡ None
transform_outside name wants (Plain (Bound ref) ∷ os) rest given c e = refl
transform_outside name wants os rest given c e = absurd (never c e)

abbrev above : Visible → List Object
above sight = above_save sight.work.operands

abbrev below : Visible → List Object
below sight = from_save sight.work.operands

computes_so : (sight : Visible) (k : Computation) → computed_on k (above sight ++ below sight) sight.work ≡ None
    → computed_on k sight.work.operands sight.work ≡ None
computes_so sight k e = ap (λ os. computed_on k os sight.work) (split_at_save sight.work.operands) ∙ e

forms_take_others : FormsTakeOthers formed_value
forms_take_others name (Computes Where) sight c e = computes_so sight Where (where_outside sight (above sight) (below sight) c e)
forms_take_others name (Computes Load) sight c e = computes_so sight Load (load_outside_more sight (above sight) (below sight) c e)
forms_take_others name (Computes Known) sight c e = computes_so sight Known (known_outside (above sight) (below sight) (given_of sight) c sight.work e)
forms_take_others name (Computes MakeDictionary) sight c e =
    computes_so sight MakeDictionary (dictionary_outside (above sight) (below sight) (given_of sight) c sight.work e)
forms_take_others name (Computes MakeExecutable) sight c e =
    computes_so sight MakeExecutable (executable_outside (above sight) (below sight) (given_of sight) c sight.work e)
forms_take_others name (Computes CloseArray) sight c e =
    computes_so sight CloseArray
    (ap (λ r. gathered r sight.work) (close_on (above sight) (below sight) (given_of sight) c (down_to_mark [] (above sight)) refl e))
forms_take_others name (Computes Get) sight c e = computes_so sight Get (get_outside (above sight) (below sight) (given_of sight) c sight.work e)
forms_take_others name (Computes Put) sight c e = computes_so sight Put (put_outside (above sight) (below sight) (given_of sight) c sight.work e)
forms_take_others name (Computes Length) sight c e =
    computes_so sight Length (length_outside (above sight) (below sight) (given_of sight) c sight.work e)
forms_take_others name (Computes LoadArray) sight c e =
    computes_so sight LoadArray (load_outside (above sight) (below sight) (given_of sight) c sight.work e)
forms_take_others name (Computes (Compare k)) sight c e =
    computes_so sight (Compare k) (compare_outside k (above sight) (below sight) (given_of sight) c sight.work e)
forms_take_others name (Controls ForAll) sight c e =
    ap (λ os. controlled_on ForAll os sight.work) (split_at_save sight.work.operands)
    ∙ all_outside (above sight) (below sight) (given_of sight) c sight.work e
forms_take_others name (Draws (AText ∷ wants) Shows) sight c e =
    ap (taken (AText ∷ wants)) (split_at_save sight.work.operands) ∙ show_outside name wants (above sight) (below sight) (given_of sight) c e
forms_take_others name (Draws (ANumber ∷ wants) Transforms) sight c e =
    ap (taken (ANumber ∷ wants)) (split_at_save sight.work.operands) ∙ fill_outside name wants (above sight) (below sight) (given_of sight) c e
forms_take_others name (Draws (AMatrix ∷ wants) Transforms) sight c e =
    ap (taken (AMatrix ∷ wants)) (split_at_save sight.work.operands) ∙ transform_outside name wants (above sight) (below sight) (given_of sight) c e
forms_take_others name kind sight c e = absurd (never c e)

pub no_others_ask : (name : List ℕ) (f : Blind) → no_others name ≡ Some f → AsksForNone f
no_others_ask name f e = absurd (never f e)

pub values_are_blind : ValuesAreBlind
values_are_blind others q = stores_are_blind operator_named formed_value others forms_take_others q

pub values_are_placeless_there : ValuesArePlacelessThere
values_are_placeless_there others q = stores_are_placeless_there operator_named formed_value others forms_take_others q
