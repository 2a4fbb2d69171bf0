-- Dictionaries with and without the names that the sheet's text defines.
use Rattle.std.specs.Prelude.{Option, Some, None, if◌then◌else◌, codes, bytes_eq, option_map}
use Rattle.std.specs.List.{list_all}
use Rattle.std.specs.Char.{is_ascii_digit}
use Rattle.std.proofs.lemmas.Slice.Eq.{bytes_eq-Decides}
use Rattle.std.proofs.Common.{◌≡◌, ℕ, zero, suc, ℤ, ◌+◌, refl, ap, ap₂, ◌∙◌, sym, subst, Bool, true, false, not, ◌&&◌, ◌||◌, ◌==◌, List, [], ◌∷◌, map, true≢false}
use Rattle.rules.specs.Numbers.{number_of}
use Rattle.pictures.specs.Objects.{Token, Number, Name, Literal, Object, Plain, Truth, Procedure, Dictionary, SystemDictionary}
use Rattle.pictures.specs.Objects.{Saved, Font, Operator, Computation, Computes, Control, Execute, If, IfElse, Repeat}
use Rattle.pictures.specs.Objects.{Pop, Duplicate, Exchange, OpenArray, CloseArray, Put, Define, Begin, End, MakeDictionary, Load, Bind, Known, Index, ClearToMark, FindFont, ScaleFont}
use Rattle.pictures.specs.Objects.{Calculate, Negate, Compare, And, Or, Not, Where, Get, Length, LoadArray, CloseDictionary, CopyOperands, Roll, Count, MakeExecutable, IsWritable, MakeReadOnly, MakeMatrix, Comparison, For, ForAll, Array, Mark}
use Rattle.pictures.specs.Calculations.{whole_of, turns}
use Rattle.pictures.specs.Dictionaries.{DictionaryEntry, meaning, system, dictionary_entry, or, has, is_lacked, read_only}
use Rattle.std.specs.Prelude.{nat_le, decimal, flat_map}
use Rattle.std.specs.List.{take-map, drop-map}
use Rattle.std.proofs.lemmas.List.{map-append, length-map}
use Rattle.std.proofs.Common.{◌++◌, take, drop}
use Rattle.pictures.specs.Operators.{are_there, rolled, rolling, shift, dictionary_filled, dictionary_made, Work, with_operands, collected, gathered, below_mark, cleared, nth, loaded, bound_to, bound_token, define, scope_ended, computed_on, controlled_on, repeated_tokens, judged, located, known_there, objects_compared, are_literal, holder, element, loop_turned, counting}
use Rattle.pictures.specs.Sheets.{among, in_userdict}
use Rattle.pictures.specs.Unaware.{put_names, names_in, none_among, names_asked}
use Rattle.pictures.specs.Shifted.{one_save_more, ups, two, AgreeShifted, up_work}
use Rattle.pictures.proofs.Tests.{first, second, by_test}
use Rattle.pictures.proofs.Shifted.{up_collected, collected_up, below_mark_up, nth_up, onto_up, system_same}

among_false : (k : List ℕ) (other : List ℕ) → bytes_eq k other ≡ false → bytes_eq other k ≡ false
among_false k other e = by_test (bytes_eq other k)
    (λ t. absurd (true≢false (sym ((bytes_eq-Decides k other).1 (sym ((bytes_eq-Decides other k).0 t))) ∙ e)))
    (λ f. f)

or_first : (a b : Bool) → (a || b) ≡ false → a ≡ false
or_first true b e = e
or_first false b e = refl

or_second : (a b : Bool) → (a || b) ≡ false → b ≡ false
or_second true b e = absurd (true≢false e)
or_second false b e = e

not_two : (n d : ℕ) (k : List ℕ) → among k put_names ≡ false → dictionary_entry d k (two n) ≡ None
not_two n d k e =
    let rest = or_second (bytes_eq k (codes "showpage")) (bytes_eq k (codes "ImposeSave") || false) e in
    ap (λ b. if b && (0 == d) then Some (Procedure []) else dictionary_entry d k (in_userdict (codes "ImposeSave") (Saved n) ∷ [])) (among_false k (codes "showpage") (or_first (bytes_eq k (codes "showpage")) (bytes_eq k (codes "ImposeSave") || false) e))
    ∙ ap (λ b. if b && (0 == d) then Some (Saved n) else None) (among_false k (codes "ImposeSave") (or_first (bytes_eq k (codes "ImposeSave")) false rest))

or_up : (x y : Option Object) → or (or (option_map one_save_more x) None) (option_map one_save_more y) ≡ option_map one_save_more (or x y)
or_up None y = refl
or_up (Some o) y = refl

pub meaning_agrees : (n : ℕ) (es fs : List DictionaryEntry) (ds : List ℕ) (k : List ℕ) → AgreeShifted n es fs → among k put_names ≡ false → meaning ds es k ≡ option_map one_save_more (meaning ds fs k)
meaning_agrees n es fs [] k a e = sym (system_same k)
meaning_agrees n es fs (d ∷ ds) k a e =
    ap₂ or (a d k ∙ ap (or (option_map one_save_more (dictionary_entry d k fs))) (not_two n d k e)) (meaning_agrees n es fs ds k a e)
    ∙ or_up (dictionary_entry d k fs) (meaning ds fs k)

or_if : (b : Bool) (o : Object) (x y : Option Object) → (if b then Some (one_save_more o) else or (option_map one_save_more x) y) ≡ or (option_map one_save_more (if b then Some o else x)) y
or_if true o x y = refl
or_if false o x y = refl

pub agrees_put : (n : ℕ) (es fs : List DictionaryEntry) (d : ℕ) (name : List ℕ) (o : Object) → AgreeShifted n es fs
    → AgreeShifted n (record { dictionary = d; key = name; value = one_save_more o } ∷ es) (record { dictionary = d; key = name; value = o } ∷ fs)
agrees_put n es fs d name o a c k =
    ap (λ x. if bytes_eq name k && (d == c) then Some (one_save_more o) else x) (a c k) ∙ or_if (bytes_eq name k && (d == c)) o (dictionary_entry c k fs) (dictionary_entry c k (two n))

abbrev pub WorkGoes : ℕ → Option Work → Option Work → Type 0
WorkGoes n None r = Unit {0}
WorkGoes n (Some w) r = (es : List DictionaryEntry) × (r ≡ Some (up_work es w)) × AgreeShifted n es w.entries

gathered_goes : (n : ℕ) (x : Option (List Token × List Object)) (w : Work) (es : List DictionaryEntry) → AgreeShifted n es w.entries → WorkGoes n (gathered x w) (gathered (up_collected x) (up_work es w))
gathered_goes n None w es a = tt
gathered_goes n (Some (ts, os)) w es a = (es, refl, a)

cleared_goes : (n : ℕ) (x : Option (List Object)) (w : Work) (es : List DictionaryEntry) → AgreeShifted n es w.entries → WorkGoes n (cleared x w) (cleared (option_map ups x) (up_work es w))
cleared_goes n None w es a = tt
cleared_goes n (Some os) w es a = (es, refl, a)

loaded_goes : (n : ℕ) (x : Option Object) (w : Work) (es : List DictionaryEntry) → AgreeShifted n es w.entries → WorkGoes n (loaded x w) (loaded (option_map one_save_more x) (up_work es w))
loaded_goes n None w es a = tt
loaded_goes n (Some o) w es a = (es, refl, a)

define_goes : (n : ℕ) (ds : List ℕ) (name : List ℕ) (o : Object) (w : Work) (es : List DictionaryEntry) → AgreeShifted n es w.entries → WorkGoes n (define ds name o w) (define ds name (one_save_more o) (up_work es w))
define_goes n [] name o w es a = tt
define_goes n (d ∷ ds) name o w es a = (record { dictionary = d; key = name; value = one_save_more o } ∷ es, refl, agrees_put n es w.entries d name o a)

ended_goes : (n : ℕ) (ds : List ℕ) (w : Work) (es : List DictionaryEntry) → AgreeShifted n es w.entries → WorkGoes n (scope_ended ds w) (scope_ended ds (up_work es w))
ended_goes n [] w es a = tt
ended_goes n (d ∷ []) w es a = tt
ended_goes n (d ∷ e ∷ ds) w es a = (es, refl, a)

if_goes : (n : ℕ) (b : Bool) (x y : Option Work) → WorkGoes n x y → WorkGoes n (if b then x else None) (if b then y else None)
if_goes n true x y g = g
if_goes n false x y g = tt

bound_up : (x : Option Object) (t : Token) → bound_to (option_map one_save_more x) t ≡ bound_to x t
bound_up None t = refl
bound_up (Some (Saved level)) t = refl
bound_up (Some o) t = refl

pub not_true : (b : Bool) → not b ≡ true → b ≡ false
not_true true e = sym e
not_true false e = refl

all_bound : (n : ℕ) (w : Work) (es : List DictionaryEntry) (ts : List Token) → AgreeShifted n es w.entries → none_among (names_in ts) put_names ≡ true → map (bound_token (up_work es w)) ts ≡ map (bound_token w) ts
all_bound n w es [] a q = refl
all_bound n w es (Name name ∷ ts) a q =
    ap₂ (λ x xs. x ∷ xs)
    (ap (λ o. bound_to o (Name name)) (meaning_agrees n es w.entries w.dictionaries name a (not_true (among name put_names) (first (not (among name put_names)) (none_among (names_in ts) put_names) q))) ∙ bound_up (meaning w.dictionaries w.entries name) (Name name))
    (all_bound n w es ts a (second (not (among name put_names)) (none_among (names_in ts) put_names) q))
all_bound n w es (t ∷ ts) a q = ap (λ xs. t ∷ xs) (all_bound n w es ts a q)

known_goes : (n : ℕ) (d : ℕ) (name : List ℕ) (w : Work) (es : List DictionaryEntry) → AgreeShifted n es w.entries → among name put_names ≡ false → has (dictionary_entry d name es) ≡ has (dictionary_entry d name w.entries)
known_goes n d name w es a e = ap has (a d name ∙ ap (or (option_map one_save_more (dictionary_entry d name w.entries))) (not_two n d name e)) ∙ either (dictionary_entry d name w.entries)
  where
    either : (x : Option Object) → has (or (option_map one_save_more x) None) ≡ has x
    either None = refl
    either (Some o) = refl

one_not : (name : List ℕ) → none_among (name ∷ []) put_names ≡ true → among name put_names ≡ false
one_not name q = not_true (among name put_names) (first (not (among name put_names)) true q)

judged_goes : (n : ℕ) (x : Option Bool) (w : Work) (es : List DictionaryEntry) → AgreeShifted n es w.entries → WorkGoes n (judged x w) (judged x (up_work es w))
judged_goes n None w es a = tt
judged_goes n (Some test) w es a = (es, refl, a)

located_goes : (n : ℕ) (x : Option ℕ) (b c : Bool) (w : Work) (es : List DictionaryEntry) → AgreeShifted n es w.entries → WorkGoes n (located x b c w) (located x b c (up_work es w))
located_goes n (Some d) b c w es a = (es, refl, a)
located_goes n None true c w es a = (es, refl, a)
located_goes n None false true w es a = tt
located_goes n None false false w es a = (es, refl, a)

compared_up : (c : Comparison) (o p : Object) → objects_compared c (one_save_more o) (one_save_more p) ≡ objects_compared c o p
compared_up c (Saved level) (Saved m) = refl
compared_up c (Saved level) p = refl
compared_up c (Plain (Number text)) (Saved level) = refl
compared_up c (Plain (Literal name)) (Saved level) = refl
compared_up c (Plain t) (Saved level) = refl
compared_up c (Dictionary d) (Saved level) = refl
compared_up c SystemDictionary (Saved level) = refl
compared_up c o (Saved level) = refl
compared_up c o p = refl

holder_same : (n : ℕ) (ds : List ℕ) (k : List ℕ) (w : Work) (es : List DictionaryEntry) → AgreeShifted n es w.entries → among k put_names ≡ false → holder ds es k ≡ holder ds w.entries k
holder_same n [] k w es a e = refl
holder_same n (d ∷ ds) k w es a e = ap₂ (λ b x. if b then Some d else x) (known_goes n d k w es a e) (holder_same n ds k w es a e)

entry_goes : (n : ℕ) (d : ℕ) (k : List ℕ) (w : Work) (es : List DictionaryEntry) → AgreeShifted n es w.entries → among k put_names ≡ false → dictionary_entry d k es ≡ option_map one_save_more (dictionary_entry d k w.entries)
entry_goes n d k w es a e = a d k ∙ ap (or (option_map one_save_more (dictionary_entry d k w.entries))) (not_two n d k e) ∙ or_none (option_map one_save_more (dictionary_entry d k w.entries))
  where
    or_none : (x : Option Object) → or x None ≡ x
    or_none None = refl
    or_none (Some o) = refl

element_goes : (n i : ℕ) (ts : List Token) (w : Work) (es : List DictionaryEntry) → AgreeShifted n es w.entries → WorkGoes n (element i ts w) (element i ts (up_work es w))
element_goes n i [] w es a = tt
element_goes n zero (t ∷ ts) w es a = (es, refl, a)
element_goes n (suc i) (t ∷ ts) w es a = element_goes n i ts w es a

abbrev FilledGoes : ℕ → Option (List DictionaryEntry × List Object) → Option (List DictionaryEntry × List Object) → Type 0
FilledGoes n None y = y ≡ None
FilledGoes n (Some (fs, os)) y = (es : List DictionaryEntry) × (y ≡ Some (es, ups os)) × AgreeShifted n es fs

filled_goes : (n d : ℕ) (os : List Object) (fs es : List DictionaryEntry) → AgreeShifted n es fs → FilledGoes n (dictionary_filled d os fs) (dictionary_filled d (ups os) es)
filled_goes n d (Mark ∷ os) fs es a = (es, refl, a)
filled_goes n d (o ∷ Plain (Literal k) ∷ os) fs es a =
    filled_goes n d os (record { dictionary = d; key = k; value = o } ∷ fs) (record { dictionary = d; key = k; value = one_save_more o } ∷ es) (agrees_put n es fs d k o a)
filled_goes n d os fs es a = refl

made_goes : (n : ℕ) (x y : Option (List DictionaryEntry × List Object)) (w : Work) (es : List DictionaryEntry) → FilledGoes n x y → WorkGoes n (dictionary_made x w) (dictionary_made y (up_work es w))
made_goes n None y w es g = tt
made_goes n (Some (fs, os)) y w es g = (g.0, ap (λ z. dictionary_made z (up_work es w)) g.1, g.2)

there_up : (text : List ℕ) (os : List Object) → are_there text (ups os) ≡ are_there text os
there_up text os = ap (λ m. list_all is_ascii_digit text && nat_le (number_of text) m) (length-map os one_save_more)

rolled_up : (n k : ℕ) (os : List Object) → rolled n k (ups os) ≡ ups (rolled n k os)
rolled_up n k os =
    ap₂ (λ xs ys. drop k xs ++ take k xs ++ ys) (take-map one_save_more n os) (drop-map one_save_more n os)
    ∙ ap₂ (λ xs ys. xs ++ ys ++ map one_save_more (drop n os)) (drop-map one_save_more k (take n os)) (take-map one_save_more k (take n os))
    ∙ ap (λ xs. xs ++ map one_save_more (drop n os)) (sym (map-append one_save_more (drop k (take n os)) (take k (take n os))))
    ∙ sym (map-append one_save_more (drop k (take n os) ++ take k (take n os)) (drop n os))

rolling_goes : (n : ℕ) (x : Option ℤ) (m : ℕ) (b : Bool) (os : List Object) (w : Work) (es : List DictionaryEntry) → AgreeShifted n es w.entries → WorkGoes n (rolling x m b os w) (rolling x m b (ups os) (up_work es w))
rolling_goes n None m b os w es a = tt
rolling_goes n (Some j) m false os w es a = tt
rolling_goes n (Some j) m true os w es a = (es, ap (λ xs. Some (with_operands (up_work es w) xs)) (rolled_up m (shift m j) os), a)

pub works_on : (n : ℕ) (name : List ℕ) (c : Computation) (os : List Object) (w : Work) (es : List DictionaryEntry) → AgreeShifted n es w.entries
    → none_among (names_asked (Some (Operator name (Computes c))) os) put_names ≡ true → WorkGoes n (computed_on c os w) (computed_on c (ups os) (up_work es w))
works_on n name Pop (o ∷ os) w es a q = (es, refl, a)
works_on n name Duplicate (o ∷ os) w es a q = (es, refl, a)
works_on n name Exchange (o ∷ p ∷ os) w es a q = (es, refl, a)
works_on n name OpenArray os w es a q = (es, refl, a)
works_on n name CloseArray os w es a q =
    subst (λ x. WorkGoes n (gathered (collected [] os) w) (gathered x (up_work es w))) (sym (collected_up [] os)) (gathered_goes n (collected [] os) w es a)
works_on n name Put (o ∷ Plain (Literal k) ∷ Dictionary d ∷ os) w es a q = (record { dictionary = d; key = k; value = one_save_more o } ∷ es, refl, agrees_put n es w.entries d k o a)
works_on n name Define (o ∷ Plain (Literal k) ∷ os) w es a q = define_goes n w.dictionaries k o (with_operands w os) es a
works_on n name Begin (Dictionary d ∷ os) w es a q = (es, refl, a)
works_on n name End os w es a q = ended_goes n w.dictionaries w es a
works_on n name MakeDictionary (Plain (Number text) ∷ os) w es a q =
    if_goes n (list_all is_ascii_digit text) (Some (record w { operands = Dictionary (w.made + 1) ∷ os; made = w.made + 1 }))
    (Some (up_work es (record w { operands = Dictionary (w.made + 1) ∷ os; made = w.made + 1 }))) (es, refl, a)
works_on n name Load (Plain (Literal k) ∷ os) w es a q =
    subst (λ x. WorkGoes n (loaded (meaning w.dictionaries w.entries k) (with_operands w os)) (loaded x (up_work es (with_operands w os)))) (sym (meaning_agrees n es w.entries w.dictionaries k a (one_not k q)))
    (loaded_goes n (meaning w.dictionaries w.entries k) (with_operands w os) es a)
works_on n name Bind (Procedure ts ∷ os) w es a q = (es, ap (λ us. Some (with_operands (up_work es w) (Procedure us ∷ ups os))) (all_bound n w es ts a q), a)
works_on n name Known (Plain (Literal k) ∷ Dictionary d ∷ os) w es a q = (es, ap (λ b. Some (with_operands (up_work es w) (Truth b ∷ ups os))) (known_goes n d k w es a (one_not k q)), a)
works_on n name Known (Plain (Literal k) ∷ SystemDictionary ∷ os) w es a q = judged_goes n (known_there (has (system k)) (is_lacked k)) (with_operands w os) es a
works_on n name Index (Plain (Number text) ∷ os) w es a q =
    if_goes n (list_all is_ascii_digit text) (loaded (nth (number_of text) os) (with_operands w os)) (loaded (nth (number_of text) (ups os)) (up_work es (with_operands w os)))
    (subst (λ x. WorkGoes n (loaded (nth (number_of text) os) (with_operands w os)) (loaded x (up_work es (with_operands w os)))) (sym (nth_up (number_of text) os)) (loaded_goes n (nth (number_of text) os) (with_operands w os) es a))
works_on n name ClearToMark os w es a q =
    subst (λ x. WorkGoes n (cleared (below_mark os) w) (cleared x (up_work es w))) (sym (below_mark_up os)) (cleared_goes n (below_mark os) w es a)
works_on n name FindFont (Plain (Literal k) ∷ os) w es a q = (es, refl, a)
works_on n name ScaleFont (Plain (Number text) ∷ Font ts ∷ os) w es a q = (es, refl, a)
works_on n name (Calculate c) (Plain (Number y) ∷ Plain (Number x) ∷ os) w es a q = (es, refl, a)
works_on n name Negate (Plain (Number x) ∷ os) w es a q = (es, refl, a)
works_on n name (Compare c) (y ∷ x ∷ os) w es a q =
    subst (λ z. WorkGoes n (judged (objects_compared c x y) (with_operands w os)) (judged z (up_work es (with_operands w os)))) (sym (compared_up c x y))
    (judged_goes n (objects_compared c x y) (with_operands w os) es a)
works_on n name And (Truth y ∷ Truth x ∷ os) w es a q = (es, refl, a)
works_on n name Or (Truth y ∷ Truth x ∷ os) w es a q = (es, refl, a)
works_on n name Not (Truth x ∷ os) w es a q = (es, refl, a)
works_on n name Where (Plain (Literal k) ∷ os) w es a q =
    subst (λ x. WorkGoes n (located (holder w.dictionaries w.entries k) (has (system k)) (is_lacked k) (with_operands w os)) (located x (has (system k)) (is_lacked k) (up_work es (with_operands w os)))) (sym (holder_same n w.dictionaries k w es a (one_not k q)))
    (located_goes n (holder w.dictionaries w.entries k) (has (system k)) (is_lacked k) (with_operands w os) es a)
works_on n name Get (Plain (Literal k) ∷ Dictionary d ∷ os) w es a q =
    subst (λ x. WorkGoes n (loaded (dictionary_entry d k w.entries) (with_operands w os)) (loaded x (up_work es (with_operands w os)))) (sym (entry_goes n d k w es a (one_not k q)))
    (loaded_goes n (dictionary_entry d k w.entries) (with_operands w os) es a)
works_on n name Get (Plain (Literal k) ∷ SystemDictionary ∷ os) w es a q =
    subst (λ x. WorkGoes n (loaded (system k) (with_operands w os)) (loaded x (up_work es (with_operands w os)))) (system_same k)
    (loaded_goes n (system k) (with_operands w os) es a)
works_on n name Get (Plain (Number text) ∷ Array ts ∷ os) w es a q =
    if_goes n (list_all is_ascii_digit text) (element (number_of text) ts (with_operands w os)) (element (number_of text) ts (up_work es (with_operands w os)))
    (element_goes n (number_of text) ts (with_operands w os) es a)
works_on n name Length (Array ts ∷ os) w es a q = (es, refl, a)
works_on n name Length (Procedure ts ∷ os) w es a q = (es, refl, a)
works_on n name LoadArray (Array ts ∷ os) w es a q = (es, ap (λ x. Some (with_operands (up_work es w) (Array ts ∷ x))) (onto_up ts os), a)
works_on n name CloseDictionary os w es a q = made_goes n (dictionary_filled (w.made + 1) os w.entries) (dictionary_filled (w.made + 1) (ups os) es) w es (filled_goes n (w.made + 1) os w.entries es a)
works_on n name CopyOperands (Plain (Number text) ∷ os) w es a q =
    subst (λ b. WorkGoes n (if are_there text os then Some (with_operands w (take (number_of text) os ++ os)) else None) (if b then Some (with_operands (up_work es w) (take (number_of text) (ups os) ++ ups os)) else None)) (sym (there_up text os))
    (if_goes n (are_there text os) (Some (with_operands w (take (number_of text) os ++ os))) (Some (with_operands (up_work es w) (take (number_of text) (ups os) ++ ups os)))
    (es, ap (λ xs. Some (with_operands (up_work es w) xs)) (ap (λ xs. xs ++ ups os) (take-map one_save_more (number_of text) os) ∙ sym (map-append one_save_more (take (number_of text) os) os)), a))
works_on n name Roll (Plain (Number j) ∷ Plain (Number text) ∷ os) w es a q =
    subst (λ b. WorkGoes n (rolling (whole_of j) (number_of text) (are_there text os) os w) (rolling (whole_of j) (number_of text) b (ups os) (up_work es w))) (sym (there_up text os))
    (rolling_goes n (whole_of j) (number_of text) (are_there text os) os w es a)
works_on n name Count os w es a q = (es, ap (λ m. Some (with_operands (up_work es w) (Plain (Number (decimal m)) ∷ ups os))) (length-map os one_save_more), a)
works_on n name MakeExecutable (Plain (Literal k) ∷ os) w es a q = (es, refl, a)
works_on n name MakeExecutable (Array ts ∷ os) w es a q = (es, refl, a)
works_on n name MakeExecutable (Procedure ts ∷ os) w es a q = (es, refl, a)
works_on n name IsWritable (Dictionary d ∷ os) w es a q = (es, ap (λ b. Some (with_operands (up_work es w) (Truth (not b) ∷ ups os))) (known_goes n d read_only w es a refl), a)
works_on n name IsWritable (SystemDictionary ∷ os) w es a q = (es, refl, a)
works_on n name MakeReadOnly (Dictionary d ∷ os) w es a q = (record { dictionary = d; key = read_only; value = Truth true } ∷ es, refl, agrees_put n es w.entries d read_only (Truth true) a)
works_on n name MakeMatrix os w es a q = (es, refl, a)
works_on n name c os w es a q = tt

abbrev pub ControlGoes : ℕ → Option (List Token × Work) → Option (List Token × Work) → Type 0
ControlGoes n None r = Unit {0}
ControlGoes n (Some (ts, w)) r = (es : List DictionaryEntry) × (r ≡ Some (ts, up_work es w)) × AgreeShifted n es w.entries

if_control : (n : ℕ) (b : Bool) (x y : Option (List Token × Work)) → ControlGoes n x y → ControlGoes n (if b then x else None) (if b then y else None)
if_control n true x y g = g
if_control n false x y g = tt

turned_goes : (n : ℕ) (x : Option ℕ) (first step : ℤ) (ts : List Token) (w : Work) (es : List DictionaryEntry) → AgreeShifted n es w.entries → ControlGoes n (loop_turned x first step ts w) (loop_turned x first step ts (up_work es w))
turned_goes n None first step ts w es a = tt
turned_goes n (Some k) first step ts w es a = (es, refl, a)

counting_goes : (n : ℕ) (x y z : Option ℤ) (ts : List Token) (w : Work) (es : List DictionaryEntry) → AgreeShifted n es w.entries → ControlGoes n (counting x y z ts w) (counting x y z ts (up_work es w))
counting_goes n (Some first) (Some step) (Some limit) ts w es a = turned_goes n (turns first step limit) first step ts w es a
counting_goes n x y z ts w es a = tt

pub controls_on : (n : ℕ) (c : Control) (os : List Object) (w : Work) (es : List DictionaryEntry) → AgreeShifted n es w.entries → ControlGoes n (controlled_on c os w) (controlled_on c (ups os) (up_work es w))
controls_on n Execute (Procedure ts ∷ os) w es a = (es, refl, a)
controls_on n Execute (Operator name kind ∷ os) w es a = (es, refl, a)
controls_on n Execute (Plain t ∷ os) w es a = (es, refl, a)
controls_on n If (Procedure ts ∷ Truth test ∷ os) w es a = (es, refl, a)
controls_on n IfElse (Procedure us ∷ Procedure ts ∷ Truth test ∷ os) w es a = (es, refl, a)
controls_on n Repeat (Procedure ts ∷ Plain (Number text) ∷ os) w es a =
    if_control n (list_all is_ascii_digit text) (Some (repeated_tokens (number_of text) ts, with_operands w os)) (Some (repeated_tokens (number_of text) ts, up_work es (with_operands w os))) (es, refl, a)
controls_on n For (Procedure ts ∷ Plain (Number limit) ∷ Plain (Number step) ∷ Plain (Number first) ∷ os) w es a =
    counting_goes n (whole_of first) (whole_of step) (whole_of limit) ts (with_operands w os) es a
controls_on n ForAll (Procedure ts ∷ Array us ∷ os) w es a =
    if_control n (are_literal us) (Some (flat_map (λ e. e ∷ ts) us, with_operands w os)) (Some (flat_map (λ e. e ∷ ts) us, up_work es (with_operands w os))) (es, refl, a)
controls_on n c os w es a = tt
