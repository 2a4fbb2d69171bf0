-- Sheets of sheets of sheets, and so on.
use Rattle.std.specs.Prelude.{Some, codes, bytes_eq, nat_lt, if◌then◌else◌}
use Rattle.std.proofs.Common.{◌≡◌, ℕ, zero, suc, ◌+◌, ◌<◌, ◌≤◌, refl, ap, ◌∙◌, Bool, true, false, not, ◌&&◌, ◌||◌, ◌==◌, List, [], ◌∷◌, ◌++◌, map, arith}
use Rattle.std.proofs.lemmas.Bool.{ltb-true, lt-ltb}
use Rattle.pictures.specs.Objects.{Object, Dictionary, Saved, Procedure, Matrix, Truth}
use Rattle.pictures.specs.Dictionaries.{DictionaryEntry, dictionary_entry, has, meaning}
use Rattle.pictures.specs.Operators.{all_old}
use Rattle.pictures.specs.Machine.{State, Runs}
use Rattle.pictures.specs.Sheets.{Numbers, Shown, AllOf, in_userdict}
use Rattle.pictures.proofs.Runs.{free_are_runs}
use Rattle.pictures.proofs.Sheets.{Stays, sheets_run}
use Rattle.pictures.proofs.Tests.{first, second}
use Rattle.pictures.proofs.Placed.{both_true}
use Rattle.pictures.specs.Shelter.{Outer, outer_is, outer_entries, outer_made, outline_tokens, page_matrix, beginning}
use Rattle.pictures.specs.SheetsOfSheets.{page_round, page_begun, none_above, none_above_of, none_newer, put_there, AllOlder, TakesSheets, Nest, nest_as_page, PaintsNested, SheetsAreTakenWithin, NestsArePrinted}
use Rattle.pictures.proofs.PutThere.{means_other, AreNew, outer_kept, above_kept}
use Rattle.pictures.proofs.GuardedSheets.{page_places, guarded_prints}
use Rattle.pictures.proofs.SheetsOfSheets.{two, flag_entry, outline_entry, matrix_entry, all_entries, unput, are_new, more_made, takes_there, sheet_of_placed, all_map}

-- Sheets can be placed within a page.

both_ways : (a b c d : Bool) → (a ≡ false → b ≡ c) → (a || (not b && d)) ≡ (a || (not c && d))
both_ways true b c d f = refl
both_ways false b c d f = ap (λ x. not x && d) (f refl)

and_false : (a b : Bool) → b ≡ false → (a && b) ≡ false
and_false true b e = e
and_false false b e = refl

-- what is put in userdict isn't above it
above_userdict : (ds : List ℕ) (name key : List ℕ) (o : Object) (es : List DictionaryEntry) → none_above name ds (in_userdict key o ∷ es) ≡ none_above name ds es
above_userdict [] name key o es = refl
above_userdict (d ∷ ds) name key o es =
    both_ways (0 == d) (has (dictionary_entry d name (in_userdict key o ∷ es))) (has (dictionary_entry d name es)) (none_above name ds (in_userdict key o ∷ es))
    (λ f. ap (λ b. has (if b then Some o else dictionary_entry d name es)) (and_false (bytes_eq key name) (0 == d) f))
    ∙ ap (λ x. (0 == d) || (not (has (dictionary_entry d name es)) && x)) (above_userdict ds name key o es)

above_outers : (outers : List Outer) (ds : List ℕ) (name : List ℕ) (made : ℕ) (es : List DictionaryEntry) → AreNew outers made → all_old made ds ≡ true
    → none_above name ds (outer_entries outers ++ es) ≡ none_above name ds es
above_outers [] ds name made es n h = refl
above_outers (o ∷ os) ds name made es n h = above_userdict ds name (codes "ImposeOuter") (Dictionary o.dictionary) (outer_kept o os ++ es) ∙ above_kept o os ds name made es n h

above_all : (names : List (List ℕ)) (outers : List Outer) (s : State) (n : Numbers) → TakesSheets outers s → none_above_of names s.work.dictionaries s.work.entries ≡ true
    → none_above_of names s.work.dictionaries (all_entries outers s n) ≡ true
above_all [] outers s n t h = refl
above_all (name ∷ names) outers s n t h =
    let ds : List ℕ = s.work.dictionaries in
    let es : List DictionaryEntry = s.work.entries in
    let below : List DictionaryEntry = outer_entries outers ++ (two s ++ es) in
    both_true (none_above name ds (all_entries outers s n)) (none_above_of names ds (all_entries outers s n))
    (above_userdict ds name (codes "PStoPSenablepage") (Truth false) (outline_entry n ∷ matrix_entry outers s ∷ below)
    ∙ above_userdict ds name (codes "PStoPSclip") (Procedure (outline_tokens n)) (matrix_entry outers s ∷ below)
    ∙ above_userdict ds name (codes "PStoPSmatrix") (Matrix (page_matrix outers s)) below
    ∙ above_outers outers ds name s.work.made (two s ++ es) (are_new outers s t.takes.encloses) t.takes.guard.dictionaries
    ∙ above_userdict ds name (codes "showpage") (Procedure []) (in_userdict (codes "ImposeSave") (Saved s.level) ∷ es) ∙ above_userdict ds name (codes "ImposeSave") (Saved s.level) es
    ∙ first (none_above name ds es) (none_above_of names ds es) h)
    (above_all names outers s n t (second (none_above name ds es) (none_above_of names ds es) h))

-- Nothing is newer than what has been made then.

newer_still : (a b : ℕ) (es : List DictionaryEntry) → a ≤ b → none_newer a es ≡ true → none_newer b es ≡ true
newer_still a b [] le h = refl
newer_still a b (e ∷ es) le h =
    let old = ltb-true e.dictionary (a + 1) (first (nat_lt e.dictionary (a + 1)) (none_newer a es) h) in
    both_true (nat_lt e.dictionary (b + 1)) (none_newer b es) (lt-ltb e.dictionary (b + 1) (omega (arith, old, le)))
    (newer_still a b es le (second (nat_lt e.dictionary (a + 1)) (none_newer a es) h))

one_more : (made : ℕ) (e : DictionaryEntry) (es : List DictionaryEntry) → e.dictionary < made + 1 → none_newer made es ≡ true → none_newer made (e ∷ es) ≡ true
one_more made e es less h = both_true (nat_lt e.dictionary (made + 1)) (none_newer made es) (lt-ltb e.dictionary (made + 1) less) h

outers_made : (outers : List Outer) (made : ℕ) (es : List DictionaryEntry) → AreNew outers made → none_newer (outer_made outers made + 1) es ≡ true
    → none_newer (outer_made outers made + 1) (outer_entries outers ++ es) ≡ true
outers_made [] made es n h = h
outers_made (o ∷ os) made es n h =
    let now : ℕ = made + 1 + 1 in
    let less : o.dictionary < now + 1 = omega (arith, n) in
    let matrix : DictionaryEntry = record { dictionary = o.dictionary; key = codes "PStoPSmatrix"; value = Matrix o.matrix } in
    let clip : DictionaryEntry = record { dictionary = o.dictionary; key = codes "PStoPSclip"; value = Procedure (outline_tokens o.numbers) } in
    let outer : DictionaryEntry = record { dictionary = o.dictionary; key = codes "ImposeOuter"; value = outer_is os } in
    one_more now (in_userdict (codes "ImposeOuter") (Dictionary o.dictionary)) (outer ∷ clip ∷ matrix ∷ es) (omega arith)
    (one_more now outer (clip ∷ matrix ∷ es) less (one_more now clip (matrix ∷ es) less (one_more now matrix es less h)))

newer_there : (outers : List Outer) (s : State) (n : Numbers) → TakesSheets outers s → none_newer (page_matrix outers s) (all_entries outers s n) ≡ true
newer_there outers s n t =
    let now : ℕ = page_matrix outers s in
    let made = more_made outers s.work.made in
    let zero_made : 0 < now + 1 = omega arith in
    let es : List DictionaryEntry = s.work.entries in
    let save : DictionaryEntry = in_userdict (codes "ImposeSave") (Saved s.level) in
    let show : DictionaryEntry = in_userdict (codes "showpage") (Procedure []) in
    let below : List DictionaryEntry = outer_entries outers ++ (two s ++ es) in
    one_more now flag_entry (outline_entry n ∷ matrix_entry outers s ∷ below) zero_made
    (one_more now (outline_entry n) (matrix_entry outers s ∷ below) zero_made
    (one_more now (matrix_entry outers s) below zero_made
    (outers_made outers s.work.made (two s ++ es) (are_new outers s t.takes.encloses)
    (one_more now show (save ∷ es) zero_made (one_more now save es zero_made (newer_still s.work.made now es (omega (arith, made)) t.new))))))

older_still : (outers : List Outer) (a b : ℕ) → a ≤ b → AllOlder outers a → AllOlder outers b
older_still [] a b le h = tt
older_still (o ∷ os) a b le h = (omega (arith, h.0, le), older_still os a b le h.1)

pub sheets_are_taken_within : SheetsAreTakenWithin
sheets_are_taken_within outers s n t =
    let made = more_made outers s.work.made in
    record {
      takes = takes_there outers s n t;
      above = above_all put_there outers s n t t.above;
      outermost = tt;
      restore_is = unput (λ x. meaning s.work.dictionaries x (codes "restore")) (codes "restore" ∷ []) (means_other s.work.dictionaries (codes "restore")) outers s n refl refl refl ∙ t.restore_is;
      new = newer_there outers s n t;
      older = (omega arith, older_still outers s.work.made (page_matrix outers s) (omega (arith, made)) t.older);
    }

-- So any number of them.

nest_places : (depth : ℕ) (outers : List Outer) (s : State) (x : Nest depth) → TakesSheets outers s → PaintsNested depth outers s x → Stays (Runs false) s (nest_as_page depth (beginning s) x)
nest_places zero outers s x t h = page_places outers s x t.takes h
nest_places (suc depth) outers s (n, xs) t h =
    let inner : List Outer = page_round outers s n ∷ outers in
    let begun : State = page_begun outers s n in
    sheet_of_placed outers s n (map (nest_as_page depth (beginning s)) xs) t
    (all_map (PaintsNested depth inner begun) (Stays (Runs false) begun) (nest_as_page depth (beginning s))
    (λ x k. nest_places depth inner begun x (sheets_are_taken_within outers s n t) k) xs h)

pub nests_are_printed : NestsArePrinted
nests_are_printed depth s xs rest g t e h =
    let as_page : Nest depth → Shown = nest_as_page depth (beginning s) in
    sheets_run (Runs false) free_are_runs s (map (map as_page) xs) rest (guarded_prints (Runs false) free_are_runs s g) e
    (all_map (AllOf (PaintsNested depth [] s)) (AllOf (Stays (Runs false) s)) (map as_page)
    (λ ys k. all_map (PaintsNested depth [] s) (Stays (Runs false) s) as_page (λ y i. nest_places depth [] s y t i) ys k) xs h)
