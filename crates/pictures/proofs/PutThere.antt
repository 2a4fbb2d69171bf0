-- What a page's beginning puts, and what it leaves: each name that isn't put means what it meant.
use Rattle.std.specs.Prelude.{Option, Some, None, codes, bytes_eq, if◌then◌else◌}
use Rattle.std.proofs.Common.{◌≡◌, ℕ, ◌+◌, refl, ap, ap₂, ◌∙◌, subst, Bool, true, false, not, true≢false, ◌&&◌, ◌||◌, ◌==◌, List, [], ◌∷◌, ◌++◌, sym, arith, is_none}
use Rattle.std.proofs.lemmas.Bool.{eqb-true, ltb-true, ne_eqb}
use Rattle.pictures.specs.Objects.{Object, Procedure, Matrix}
use Rattle.pictures.specs.Dictionaries.{DictionaryEntry, meaning, dictionary_entry, has, or}
use Rattle.pictures.specs.Operators.{holder, all_old}
use Rattle.pictures.specs.Sheets.{in_userdict}
use Rattle.pictures.proofs.Tests.{by_test, first, second}
use Rattle.pictures.proofs.Opening.{name_other, apart}
use Rattle.pictures.proofs.Names.{not_true}
use Rattle.pictures.proofs.Placed.{both_true}
use Rattle.pictures.specs.Shelter.{Outer, outer_is, outer_entries, outline_tokens, all_absent}
use Rattle.pictures.specs.SheetsOfSheets.{none_above, put_there}
use Rattle.pictures.proofs.Begins.{all_apart, same_text}
use Rattle.pictures.proofs.Ground.{entry_other, holder_other, all_absent_other, AllDiffer}

-- What doesn't change by an entry for another name.

alone : (key name : List ℕ) → apart key (name ∷ []) ≡ true → bytes_eq key name ≡ false
alone key name h = not_true (bytes_eq key name) (first (not (bytes_eq key name)) true h)

pub means_other : (ds : List ℕ) (name : List ℕ) (e : DictionaryEntry) (es : List DictionaryEntry) → apart e.key (name ∷ []) ≡ true → meaning ds (e ∷ es) name ≡ meaning ds es name
means_other ds name e es h = name_other ds e es name (alone e.key name h)

pub has_other : (d : ℕ) (name : List ℕ) (e : DictionaryEntry) (es : List DictionaryEntry) → apart e.key (name ∷ []) ≡ true → dictionary_entry d name (e ∷ es) ≡ dictionary_entry d name es
has_other d name e es h = entry_other d e es name (alone e.key name h)

pub held_other : (ds : List ℕ) (name : List ℕ) (e : DictionaryEntry) (es : List DictionaryEntry) → apart e.key (name ∷ []) ≡ true → holder ds (e ∷ es) name ≡ holder ds es name
held_other ds name e es h = holder_other ds e es name (alone e.key name h)

pub differ_all : (e : DictionaryEntry) (names : List (List ℕ)) → apart e.key names ≡ true → AllDiffer e names
differ_all e [] h = tt
differ_all e (name ∷ names) h = (
  not_true (bytes_eq e.key name) (first (not (bytes_eq e.key name)) (apart e.key names) h),
  differ_all e names (second (not (bytes_eq e.key name)) (apart e.key names) h),
)

pub absent_others : (ds : List ℕ) (names : List (List ℕ)) (e : DictionaryEntry) (es : List DictionaryEntry) → apart e.key names ≡ true → all_absent names ds (e ∷ es) ≡ all_absent names ds es
absent_others ds names e es h = all_absent_other names ds e es (differ_all e names h)

pub above_other : (ds : List ℕ) (name : List ℕ) (e : DictionaryEntry) (es : List DictionaryEntry) → apart e.key (name ∷ []) ≡ true → none_above name ds (e ∷ es) ≡ none_above name ds es
above_other [] name e es h = refl
above_other (d ∷ ds) name e es h = ap₂ (λ x b. (0 == d) || (not (has x) && b)) (has_other d name e es h) (above_other ds name e es h)

-- nor by many
pub over : {X : Type 0} (f : List DictionaryEntry → X) (names : List (List ℕ)) → ((e : DictionaryEntry) (es : List DictionaryEntry) → apart e.key names ≡ true → f (e ∷ es) ≡ f es)
    → (more es : List DictionaryEntry) → all_apart more names ≡ true → f (more ++ es) ≡ f es
over f names step [] es h = refl
over f names step (e ∷ more) es h =
    step e (more ++ es) (first (apart e.key names) (all_apart more names) h) ∙ over f names step more es (second (apart e.key names) (all_apart more names) h)

-- What is put.

pub outer_apart : (outers : List Outer) (names : List (List ℕ)) → apart (codes "ImposeOuter") names ≡ true → apart (codes "PStoPSclip") names ≡ true → apart (codes "PStoPSmatrix") names ≡ true
    → all_apart (outer_entries outers) names ≡ true
outer_apart [] names a b c = refl
outer_apart (o ∷ os) names a b c = both_true _ _ a (both_true _ _ a (both_true _ _ b (both_true _ true c refl)))

-- the names that are put are none of these
abbrev pub are_apart : List (List ℕ) → List (List ℕ) → Bool
are_apart [] names = true
are_apart (key ∷ keys) names = apart key names && are_apart keys names

pub outers_apart : (outers : List Outer) (names : List (List ℕ)) → are_apart put_there names ≡ true → all_apart (outer_entries outers) names ≡ true
outers_apart outers names h =
    let flag : Bool = apart (codes "PStoPSenablepage") names in
    let matrix : Bool = apart (codes "PStoPSmatrix") names in
    let clip : Bool = apart (codes "PStoPSclip") names in
    let outer : Bool = apart (codes "ImposeOuter") names in
    let rest : Bool = are_apart (codes "showpage" ∷ codes "ImposeSave" ∷ []) names in
    let h1 = second flag (matrix && (clip && (outer && rest))) h in
    let h2 = second matrix (clip && (outer && rest)) h1 in
    let h3 = second clip (outer && rest) h2 in
    outer_apart outers names (first outer rest h3) (first clip (outer && rest) h2) (first matrix (clip && (outer && rest)) h1)

-- the latest of what is put in userdict counts
pub not_has : (x : Option Object) → has x ≡ false → x ≡ None
not_has None e = refl
not_has (Some o) e = absurd (true≢false e)

and_false : (a b : Bool) → b ≡ false → (a && b) ≡ false
and_false true b e = e
and_false false b e = refl

pub latest_holder : (ds : List ℕ) (es : List DictionaryEntry) (name : List ℕ) (o : Object) → none_above name ds es ≡ true → holder ds (in_userdict name o ∷ es) name ≡ Some 0
latest_holder [] es name o h = absurd (true≢false (sym h))
latest_holder (d ∷ ds) es name o h =
    let below : Option ℕ = holder ds (in_userdict name o ∷ es) name in
    let here : Option Object = dictionary_entry d name es in
    let rest : Bool = not (has here) && none_above name ds es in
    let test : Bool → Option ℕ = λ b. if has (if b then Some o else here) then Some d else below in
    by_test (0 == d)
    (λ t. ap test (both_true (bytes_eq name name) (0 == d) (same_text name) t) ∙ ap (λ n. Some n) (sym (eqb-true 0 d t)))
    (λ f. let more : rest ≡ true = subst (λ b. (b || rest) ≡ true) f h in
    ap test (and_false (bytes_eq name name) (0 == d) f)
    ∙ ap (λ x. if has x then Some d else below) (not_has here (not_true (has here) (first (not (has here)) (none_above name ds es) more)))
    ∙ latest_holder ds es name o (second (not (has here)) (none_above name ds es) more))

or_first : (x y : Option Object) → has x ≡ true → or x y ≡ x
or_first None y e = absurd (true≢false (sym e))
or_first (Some o) y e = refl

same_some : (c d : ℕ) → Some c ≡ Some d → c ≡ d
same_some c d e = ap (λ x. or_c x) e
  where
    or_c : Option ℕ → ℕ
    or_c None = c
    or_c (Some n) = n

-- a name means what the first dictionary that has it has
pub first_means : (ds : List ℕ) (es : List DictionaryEntry) (key : List ℕ) (d : ℕ) → holder ds es key ≡ Some d → meaning ds es key ≡ dictionary_entry d key es
first_means [] es key d e = absurd (true≢false (ap is_none e))
first_means (c ∷ ds) es key d e =
    let here : Option Object = dictionary_entry c key es in
    by_test (has here)
    (λ t. or_first here (meaning ds es key) t ∙ ap (λ n. dictionary_entry n key es) (same_some c d (sym (ap (λ b. if b then Some c else holder ds es key) t) ∙ e)))
    (λ f. ap (λ x. or x (meaning ds es key)) (not_has here f)
    ∙ first_means ds es key d (sym (ap (λ b. if b then Some c else holder ds es key) f) ∙ e))

pub latest : (ds : List ℕ) (es : List DictionaryEntry) (name : List ℕ) (o : Object) → none_above name ds es ≡ true → meaning ds (in_userdict name o ∷ es) name ≡ Some o
latest ds es name o h =
    first_means ds (in_userdict name o ∷ es) name 0 (latest_holder ds es name o h) ∙ ap (λ b. if b && true then Some o else dictionary_entry 0 name es) (same_text name)

-- an entry of a dictionary that is newer than those on the stack
above_new : (ds : List ℕ) (name : List ℕ) (made : ℕ) (e : DictionaryEntry) (es : List DictionaryEntry) → e.dictionary ≡ made + 1 → all_old made ds ≡ true → none_above name ds (e ∷ es) ≡ none_above name ds es
above_new [] name made e es n h = refl
above_new (d ∷ ds) name made e es n h =
    let older = ltb-true d (made + 1) (first _ (all_old made ds) h) in
    let other : (bytes_eq e.key name && (e.dictionary == d)) ≡ false = and_false (bytes_eq e.key name) (e.dictionary == d) (ne_eqb e.dictionary d (λ k. omega (arith, older, n, k))) in
    ap₂ (λ x b. (0 == d) || (not (has x) && b)) (ap (λ b. if b then Some e.value else dictionary_entry d name es) other) (above_new ds name made e es n (second _ (all_old made ds) h))

-- what is kept of a page round it lies in such a dictionary
abbrev pub AreNew : List Outer → ℕ → Type 0
AreNew [] made = Unit {0}
AreNew (o ∷ os) made = o.dictionary ≡ made + 1

abbrev pub outer_kept : Outer → List Outer → List DictionaryEntry
outer_kept o os =
    record { dictionary = o.dictionary; key = codes "ImposeOuter"; value = outer_is os }
    ∷ record { dictionary = o.dictionary; key = codes "PStoPSclip"; value = Procedure (outline_tokens o.numbers) }
    ∷ record { dictionary = o.dictionary; key = codes "PStoPSmatrix"; value = Matrix o.matrix } ∷ []

pub above_kept : (o : Outer) (os : List Outer) (ds : List ℕ) (name : List ℕ) (made : ℕ) (es : List DictionaryEntry) → o.dictionary ≡ made + 1 → all_old made ds ≡ true
    → none_above name ds (outer_kept o os ++ es) ≡ none_above name ds es
above_kept o os ds name made es n h =
    let clip : DictionaryEntry = record { dictionary = o.dictionary; key = codes "PStoPSclip"; value = Procedure (outline_tokens o.numbers) } in
    let matrix : DictionaryEntry = record { dictionary = o.dictionary; key = codes "PStoPSmatrix"; value = Matrix o.matrix } in
    above_new ds name made (record { dictionary = o.dictionary; key = codes "ImposeOuter"; value = outer_is os }) (clip ∷ matrix ∷ es) n h
    ∙ above_new ds name made clip (matrix ∷ es) n h ∙ above_new ds name made matrix es n h

pub above_outers : (outers : List Outer) (ds : List ℕ) (name : List ℕ) (made : ℕ) (es : List DictionaryEntry) → AreNew outers made → all_old made ds ≡ true → apart (codes "ImposeOuter") (name ∷ []) ≡ true
    → none_above name ds (outer_entries outers ++ es) ≡ none_above name ds es
above_outers [] ds name made es n h a = refl
above_outers (o ∷ os) ds name made es n h a = above_other ds name (in_userdict (codes "ImposeOuter") (outer_is (o ∷ os))) (outer_kept o os ++ es) a ∙ above_kept o os ds name made es n h
