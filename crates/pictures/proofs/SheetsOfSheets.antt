-- Sheets of another document, placed as pages.
use Rattle.std.specs.Prelude.{Option, Some, None, codes, bytes_eq, nat_lt, if◌then◌else◌}
use Rattle.std.proofs.Common.{◌≡◌, ℕ, ◌+◌, ◌<◌, ◌≤◌, refl, ap, ap₂, ◌∙◌, sym, subst, true, false, not, true≢false, ◌||◌, ◌==◌, List, [], ◌∷◌, ◌++◌, map, append_assoc, eq-eqb, arith}
use Rattle.std.proofs.lemmas.Bool.{ne_eqb, lt-ltb, ltb-true}
use Rattle.std.proofs.lemmas.Slice.Eq.{bytes_eq-Decides}
use Rattle.std.proofs.lemmas.List.{map-append}
use Rattle.pictures.specs.Objects.{Token, Name, Object, Plain, Truth, Array, Procedure, Dictionary, Matrix, Saved, Call, Text, Hexadecimal, Font}
use Rattle.pictures.specs.Dictionaries.{DictionaryEntry, meaning, dictionary_entry}
use Rattle.pictures.specs.Operators.{holder, is_old, all_old, all_are_old}
use Rattle.pictures.specs.Machine.{State, Graphics, Painting, KeptMatrix, Runs, chain_of}
use Rattle.pictures.specs.Placing.{Place, graphics_at, painting_at, picture_at}
use Rattle.pictures.specs.Sheets.{among, BorderNumbers, Numbers, Shown, AllOf, in_userdict, closing_tokens, sheet_tokens, LeavesAsItWas, page_picture, sheet_picture, place_in, border_in}
use Rattle.pictures.proofs.Runs.{free_are_runs, runs_join}
use Rattle.pictures.proofs.Sheets.{Stays, all_stay, all_of, pages_of, pages_run, sheets_run, fresh, still}
use Rattle.pictures.proofs.Tests.{by_test, first, second}
use Rattle.pictures.proofs.Opening.{apart}
use Rattle.pictures.proofs.Placed.{both_true}
use Rattle.pictures.proofs.Twice.{places_compose}
use Rattle.pictures.specs.Shelter.{Outer, outer_is, outer_entries, outer_made, page_matrix, beginning, sheltered, outline_tokens, page_save, all_absent, PaintsSheltered}
use Rattle.pictures.specs.Lines.{clip_to}
use Rattle.pictures.specs.Pages.{TakesPages, Encloses, AllHeld, AllSheltered, has_nothing, names_looked_up, looked_up_first}
use Rattle.pictures.specs.SheetsOfSheets.{page_round, page_begun, sheet_as_page, none_newer, none_above, none_above_of, put_there, AllOlder, TakesSheets, SheetIsPlaced, SheetIsComposed, as_pages, AllWithin, SheetsOfSheetsArePrinted}
use Rattle.pictures.proofs.Lines.{page_is_left}
use Rattle.pictures.proofs.Begins.{all_apart, page_begins, same_place}
use Rattle.pictures.proofs.GuardedPlaced.{placed_from}
use Rattle.pictures.proofs.GuardedSheets.{still_takes, page_places, guarded_prints}
use Rattle.pictures.proofs.PutThere.{means_other, has_other, held_other, absent_others, above_other, over, are_apart, outer_apart, outers_apart, latest, latest_holder, AreNew, outer_kept, above_kept, above_outers}

-- The picture.

border_at : (p : Place) (g : Graphics) (n : Numbers) (border : Option BorderNumbers) → map (painting_at p) (border_in g n border) ≡ border_in (graphics_at p g) n border
border_at p g n None = refl
border_at p g n (Some b) = refl

page_at : (p : Place) (g : Graphics) (x : Shown) → picture_at p (page_picture g x) ≡ page_picture (graphics_at p g) x
page_at p g x =
    map-append (painting_at p) (picture_at (place_in g x.placed.numbers) x.picture) (border_in g x.placed.numbers x.placed.numbers.border)
    ∙ ap₂ (λ a b. a ++ b) (places_compose p (place_in g x.placed.numbers) x.picture) (border_at p g x.placed.numbers x.placed.numbers.border)

sheet_at : (p : Place) (g : Graphics) (xs : List Shown) (before : List Painting) → picture_at p (sheet_picture g xs before) ≡ sheet_picture (graphics_at p g) xs (picture_at p before)
sheet_at p g [] before = refl
sheet_at p g (x ∷ xs) before =
    sheet_at p g xs (page_picture g x ++ before)
    ∙ ap (λ ps. sheet_picture (graphics_at p g) xs ps) (map-append (painting_at p) (page_picture g x) before ∙ ap (λ a. a ++ picture_at p before) (page_at p g x))

pub sheet_is_composed : SheetIsComposed
sheet_is_composed p g xs = sheet_at p g xs []

-- upon what was painted before
upon : (g : Graphics) (xs : List Shown) (ps before : List Painting) → sheet_picture g xs (ps ++ before) ≡ sheet_picture g xs ps ++ before
upon g [] ps before = refl
upon g (x ∷ xs) ps before =
    ap (λ l. sheet_picture g xs l) (sym (append_assoc (page_picture g x) ps before)) ∙ upon g xs (page_picture g x ++ ps) before

-- The state where the page begins.

-- the entries that the sheet's text puts, and those of the guard above them
abbrev pub two : State → List DictionaryEntry
two s = in_userdict (codes "showpage") (Procedure []) ∷ in_userdict (codes "ImposeSave") (Saved s.level) ∷ []

abbrev pub matrix_entry : List Outer → State → DictionaryEntry
matrix_entry outers s = in_userdict (codes "PStoPSmatrix") (Matrix (page_matrix outers s))

abbrev pub outline_entry : Numbers → DictionaryEntry
outline_entry n = in_userdict (codes "PStoPSclip") (Procedure (outline_tokens n))

abbrev pub flag_entry : DictionaryEntry
flag_entry = in_userdict (codes "PStoPSenablepage") (Truth false)

abbrev pub three : List Outer → State → Numbers → List DictionaryEntry
three outers s n = flag_entry ∷ outline_entry n ∷ matrix_entry outers s ∷ []

abbrev pub all_entries : List Outer → State → Numbers → List DictionaryEntry
all_entries outers s n = three outers s n ++ (outer_entries outers ++ (two s ++ s.work.entries))

-- what asks for none of the names that are put finds what it found
pub unput : {X : Type 0} (f : List DictionaryEntry → X) (names : List (List ℕ)) → ((e : DictionaryEntry) (es : List DictionaryEntry) → apart e.key names ≡ true → f (e ∷ es) ≡ f es)
    → (outers : List Outer) (s : State) (n : Numbers) → all_apart (three outers s n) names ≡ true → are_apart put_there names ≡ true → all_apart (two s) names ≡ true
    → f (all_entries outers s n) ≡ f s.work.entries
unput f names step outers s n a h b =
    over f names step (three outers s n) (outer_entries outers ++ (two s ++ s.work.entries)) a
    ∙ over f names step (outer_entries outers) (two s ++ s.work.entries) (outers_apart outers names h)
    ∙ over f names step (two s) s.work.entries b

-- above userdict nothing has these names
pub above_name : (names : List (List ℕ)) (ds : List ℕ) (es : List DictionaryEntry) → none_above_of names ds es ≡ true → (name : List ℕ) → among name names ≡ true → none_above name ds es ≡ true
above_name [] ds es h name k = absurd (true≢false (sym k))
above_name (other ∷ others) ds es h name k = by_test (bytes_eq name other)
    (λ same. subst (λ z. none_above z ds es ≡ true) (sym ((bytes_eq-Decides name other).0 same)) (first (none_above other ds es) (none_above_of others ds es) h))
    (λ differ. above_name others ds es (second (none_above other ds es) (none_above_of others ds es) h) name (subst (λ b. (b || among name others) ≡ true) differ k))

pub are_new : (outers : List Outer) (s : State) → Encloses outers s → AreNew outers s.work.made
are_new [] s e = tt
are_new (o ∷ os) s e = e.4

-- the two entries of the sheet's text say nothing of others
above_two : (ds : List ℕ) (name : List ℕ) (s : State) → all_apart (two s) (name ∷ []) ≡ true → none_above name ds (two s ++ s.work.entries) ≡ none_above name ds s.work.entries
above_two ds name s h = over (λ x. none_above name ds x) (name ∷ []) (above_other ds name) (two s) s.work.entries h

-- what the names that are put mean there
flag_there : (outers : List Outer) (s : State) (n : Numbers) → TakesSheets outers s → meaning s.work.dictionaries (all_entries outers s n) (codes "PStoPSenablepage") ≡ Some (Truth false)
flag_there outers s n t =
    let ds : List ℕ = s.work.dictionaries in
    let name : List ℕ = codes "PStoPSenablepage" in
    let rest : List DictionaryEntry = outer_entries outers ++ (two s ++ s.work.entries) in
    latest ds (outline_entry n ∷ matrix_entry outers s ∷ rest) name (Truth false)
    (over (λ x. none_above name ds x) (name ∷ []) (above_other ds name) (outline_entry n ∷ matrix_entry outers s ∷ []) rest refl
    ∙ above_outers outers ds name s.work.made (two s ++ s.work.entries) (are_new outers s t.takes.encloses) t.takes.guard.dictionaries refl
    ∙ above_two ds name s refl ∙ above_name put_there ds s.work.entries t.above name refl)

outline_there : (outers : List Outer) (s : State) (n : Numbers) → TakesSheets outers s → meaning s.work.dictionaries (all_entries outers s n) (codes "PStoPSclip") ≡ Some (Procedure (outline_tokens n))
outline_there outers s n t =
    let ds : List ℕ = s.work.dictionaries in
    let name : List ℕ = codes "PStoPSclip" in
    let rest : List DictionaryEntry = outer_entries outers ++ (two s ++ s.work.entries) in
    means_other ds name flag_entry (outline_entry n ∷ matrix_entry outers s ∷ rest) refl
    ∙ latest ds (matrix_entry outers s ∷ rest) name (Procedure (outline_tokens n))
    (above_other ds name (matrix_entry outers s) rest refl
    ∙ above_outers outers ds name s.work.made (two s ++ s.work.entries) (are_new outers s t.takes.encloses) t.takes.guard.dictionaries refl
    ∙ above_two ds name s refl ∙ above_name put_there ds s.work.entries t.above name refl)

matrix_there : (outers : List Outer) (s : State) (n : Numbers) → TakesSheets outers s → meaning s.work.dictionaries (all_entries outers s n) (codes "PStoPSmatrix") ≡ Some (Matrix (page_matrix outers s))
matrix_there outers s n t =
    let ds : List ℕ = s.work.dictionaries in
    let name : List ℕ = codes "PStoPSmatrix" in
    let rest : List DictionaryEntry = outer_entries outers ++ (two s ++ s.work.entries) in
    over (λ x. meaning ds x name) (name ∷ []) (means_other ds name) (flag_entry ∷ outline_entry n ∷ []) (matrix_entry outers s ∷ rest) refl
    ∙ latest ds rest name (Matrix (page_matrix outers s))
    (above_outers outers ds name s.work.made (two s ++ s.work.entries) (are_new outers s t.takes.encloses) t.takes.guard.dictionaries refl
    ∙ above_two ds name s refl ∙ above_name put_there ds s.work.entries t.above name refl)

outer_there : (outers : List Outer) (s : State) (n : Numbers) → TakesSheets outers s → meaning s.work.dictionaries (all_entries outers s n) (codes "ImposeOuter") ≡ Some (outer_is outers)
outer_there [] s n t =
    let ds : List ℕ = s.work.dictionaries in
    let name : List ℕ = codes "ImposeOuter" in
    over (λ x. meaning ds x name) (name ∷ []) (means_other ds name) (three [] s n ++ two s) s.work.entries refl ∙ t.outermost
outer_there (o ∷ os) s n t =
    let ds : List ℕ = s.work.dictionaries in
    let name : List ℕ = codes "ImposeOuter" in
    let rest : List DictionaryEntry = two s ++ s.work.entries in
    over (λ x. meaning ds x name) (name ∷ []) (means_other ds name) (three (o ∷ os) s n) (in_userdict name (Dictionary o.dictionary) ∷ (outer_kept o os ++ rest)) refl
    ∙ latest ds (outer_kept o os ++ rest) name (Dictionary o.dictionary)
    (above_kept o os ds name s.work.made rest t.takes.encloses.4 t.takes.guard.dictionaries
    ∙ above_two ds name s refl ∙ above_name put_there ds s.work.entries t.above name refl)

-- `showpage` does nothing there, and ImposeSave is the sheet's save
abbrev showpage_above : State → List DictionaryEntry
showpage_above s = in_userdict (codes "ImposeSave") (Saved s.level) ∷ s.work.entries

no_other_showpage : (outers : List Outer) (s : State) → TakesSheets outers s → none_above (codes "showpage") s.work.dictionaries (showpage_above s) ≡ true
no_other_showpage outers s t =
    above_other s.work.dictionaries (codes "showpage") (in_userdict (codes "ImposeSave") (Saved s.level)) s.work.entries refl
    ∙ above_name put_there s.work.dictionaries s.work.entries t.above (codes "showpage") refl

showpage_there : (outers : List Outer) (s : State) (n : Numbers) → TakesSheets outers s → meaning s.work.dictionaries (all_entries outers s n) (codes "showpage") ≡ Some (Procedure [])
showpage_there outers s n t =
    let ds : List ℕ = s.work.dictionaries in
    let name : List ℕ = codes "showpage" in
    over (λ x. meaning ds x name) (name ∷ []) (means_other ds name) (three outers s n) (outer_entries outers ++ (two s ++ s.work.entries)) refl
    ∙ over (λ x. meaning ds x name) (name ∷ []) (means_other ds name) (outer_entries outers) (two s ++ s.work.entries) (outer_apart outers (name ∷ []) refl refl refl)
    ∙ latest ds (showpage_above s) name (Procedure []) (no_other_showpage outers s t)

first_there : (outers : List Outer) (s : State) (n : Numbers) → TakesSheets outers s → holder s.work.dictionaries (all_entries outers s n) (codes "showpage") ≡ Some 0
first_there outers s n t =
    let ds : List ℕ = s.work.dictionaries in
    let name : List ℕ = codes "showpage" in
    over (λ x. holder ds x name) (name ∷ []) (held_other ds name) (three outers s n) (outer_entries outers ++ (two s ++ s.work.entries)) refl
    ∙ over (λ x. holder ds x name) (name ∷ []) (held_other ds name) (outer_entries outers) (two s ++ s.work.entries) (outer_apart outers (name ∷ []) refl refl refl)
    ∙ latest_holder ds (showpage_above s) name (Procedure []) (no_other_showpage outers s t)

save_there : (outers : List Outer) (s : State) (n : Numbers) → TakesSheets outers s → meaning s.work.dictionaries (all_entries outers s n) (codes "ImposeSave") ≡ Some (Saved s.level)
save_there outers s n t =
    let ds : List ℕ = s.work.dictionaries in
    let name : List ℕ = codes "ImposeSave" in
    over (λ x. meaning ds x name) (name ∷ []) (means_other ds name) (three outers s n) (outer_entries outers ++ (two s ++ s.work.entries)) refl
    ∙ over (λ x. meaning ds x name) (name ∷ []) (means_other ds name) (outer_entries outers) (two s ++ s.work.entries) (outer_apart outers (name ∷ []) refl refl refl)
    ∙ means_other ds name (in_userdict (codes "showpage") (Procedure [])) (showpage_above s) refl
    ∙ latest ds s.work.entries name (Saved s.level) (above_name put_there ds s.work.entries t.above name refl)

-- Nothing is newer than this state either.

grows : (a b k : ℕ) → nat_lt k a ≡ true → a ≤ b → nat_lt k b ≡ true
grows a b k h le = let older = ltb-true k a h in lt-ltb k b (omega (arith, older, le))

old_still : (a b l m : ℕ) (o : Object) → a ≤ b → l ≤ m → is_old a l o ≡ true → is_old b m o ≡ true
old_still a b l m (Dictionary d) h k e = grows (a + 1) (b + 1) d e (omega (arith, h))
old_still a b l m (Matrix d) h k e = grows (a + 1) (b + 1) d e (omega (arith, h))
old_still a b l m (Saved d) h k e = grows l m d e k
old_still a b l m (Plain (Text bytes)) h k e = e
old_still a b l m (Plain (Hexadecimal bytes)) h k e = e
old_still a b l m (Array ts) h k e = e
old_still a b l m (Procedure ts) h k e = e
old_still a b l m (Font ts) h k e = e
old_still a b l m o h k e = refl

pub operands_old : (a b l m : ℕ) (os : List Object) → a ≤ b → l ≤ m → all_are_old a l os ≡ true → all_are_old b m os ≡ true
operands_old a b l m [] h k e = refl
operands_old a b l m (o ∷ os) h k e =
    both_true (is_old b m o) (all_are_old b m os) (old_still a b l m o h k (first (is_old a l o) (all_are_old a l os) e))
    (operands_old a b l m os h k (second (is_old a l o) (all_are_old a l os) e))

pub dictionaries_old : (a b : ℕ) (ds : List ℕ) → a ≤ b → all_old a ds ≡ true → all_old b ds ≡ true
dictionaries_old a b [] h e = refl
dictionaries_old a b (d ∷ ds) h e =
    both_true (nat_lt d (b + 1)) (all_old b ds) (grows (a + 1) (b + 1) d (first (nat_lt d (a + 1)) (all_old a ds) e) (omega (arith, h)))
    (dictionaries_old a b ds h (second (nat_lt d (a + 1)) (all_old a ds) e))

pub more_made : (outers : List Outer) (made : ℕ) → made ≤ outer_made outers made
more_made [] made = omega arith
more_made (o ∷ os) made = omega arith

-- The dictionary that is made next is new.

pub still_new : (d : ℕ) (e : DictionaryEntry) (es : List DictionaryEntry) → e.dictionary < d → has_nothing d es ≡ true → has_nothing d (e ∷ es) ≡ true
still_new d e es less h =
    both_true (not (e.dictionary == d)) (has_nothing d es) (ap not (ne_eqb e.dictionary d (λ k. omega (arith, less, k)))) h

-- one that hasn't been made has nothing
nothing_newer : (made d : ℕ) (es : List DictionaryEntry) → made < d → none_newer made es ≡ true → has_nothing d es ≡ true
nothing_newer made d [] less h = refl
nothing_newer made d (e ∷ es) less h =
    let old = ltb-true e.dictionary (made + 1) (first (nat_lt e.dictionary (made + 1)) (none_newer made es) h) in
    still_new d e es (omega (arith, old, less)) (nothing_newer made d es less (second (nat_lt e.dictionary (made + 1)) (none_newer made es) h))

outers_new : (outers : List Outer) (made : ℕ) (es : List DictionaryEntry) → AreNew outers made → has_nothing (outer_made outers made + 1 + 1) es ≡ true
    → has_nothing (outer_made outers made + 1 + 1) (outer_entries outers ++ es) ≡ true
outers_new [] made es n h = h
outers_new (o ∷ os) made es n h =
    let d : ℕ = made + 1 + 1 + 1 in
    let matrix : DictionaryEntry = record { dictionary = o.dictionary; key = codes "PStoPSmatrix"; value = Matrix o.matrix } in
    let clip : DictionaryEntry = record { dictionary = o.dictionary; key = codes "PStoPSclip"; value = Procedure (outline_tokens o.numbers) } in
    let outer : DictionaryEntry = record { dictionary = o.dictionary; key = codes "ImposeOuter"; value = outer_is os } in
    let less : o.dictionary < d = omega (arith, n) in
    still_new d (in_userdict (codes "ImposeOuter") (Dictionary o.dictionary)) (outer ∷ clip ∷ matrix ∷ es) (omega arith)
    (still_new d outer (clip ∷ matrix ∷ es) less (still_new d clip (matrix ∷ es) less (still_new d matrix es less h)))

new_there : (outers : List Outer) (s : State) (n : Numbers) → TakesSheets outers s → has_nothing (page_matrix outers s + 1) (all_entries outers s n) ≡ true
new_there outers s n t =
    let d : ℕ = page_matrix outers s + 1 in
    let es : List DictionaryEntry = s.work.entries in
    let less : 0 < d = omega arith in
    let made = more_made outers s.work.made in
    let new = nothing_newer s.work.made d es (omega (arith, made)) t.new in
    let save : DictionaryEntry = in_userdict (codes "ImposeSave") (Saved s.level) in
    let show : DictionaryEntry = in_userdict (codes "showpage") (Procedure []) in
    let below : List DictionaryEntry = outer_entries outers ++ (two s ++ es) in
    still_new d flag_entry (outline_entry n ∷ matrix_entry outers s ∷ below) less
    (still_new d (outline_entry n) (matrix_entry outers s ∷ below) less
    (still_new d (matrix_entry outers s) below less
    (outers_new outers s.work.made (two s ++ es) (are_new outers s t.takes.encloses)
    (still_new d show (save ∷ es) less (still_new d save es less new)))))

held_over : (outers : List Outer) (made number : ℕ) (chain : List Call) (ks : List KeptMatrix) → made < number → AllOlder outers made → AllHeld outers ks
    → AllHeld outers (record { number = number; chain = chain } ∷ ks)
held_over [] made number chain ks less a h = tt
held_over (o ∷ os) made number chain ks less a h = (
  ap (λ b. if b then Some chain else chain_of o.matrix ks) (ne_eqb number o.matrix (λ k. omega (arith, less, a.0, k))) ∙ h.0,
  held_over os made number chain ks less a.1 h.1,
)

-- So pages can be placed there.

pub takes_there : (outers : List Outer) (s : State) (n : Numbers) → TakesSheets outers s → TakesPages (page_round outers s n ∷ outers) (page_begun outers s n)
takes_there outers s n t =
    let ds : List ℕ = s.work.dictionaries in
    let g = t.takes in
    let chain : List Call = (place_in s.graphics n).chain in
    let made = more_made outers s.work.made in
    record {
      guard = record {
        number = g.guard.number;
        save_is = unput (λ x. meaning ds x (codes "save")) (codes "save" ∷ []) (means_other ds (codes "save")) outers s n refl refl refl ∙ g.guard.save_is;
        guard_is = unput (λ x. meaning ds x (codes "ImposeGuard")) (codes "ImposeGuard" ∷ []) (means_other ds (codes "ImposeGuard")) outers s n refl refl refl ∙ g.guard.guard_is;
        clip_is = unput (λ x. dictionary_entry g.guard.number (codes "clip") x) (codes "clip" ∷ []) (has_other g.guard.number (codes "clip")) outers s n refl refl refl ∙ g.guard.clip_is;
        clip_alone = unput (λ x. all_absent looked_up_first (g.guard.number ∷ ds) x) looked_up_first (absent_others (g.guard.number ∷ ds) looked_up_first) outers s n refl refl refl ∙ g.guard.clip_alone;
        path_is = unput (λ x. dictionary_entry 0 (codes "ImposePath") x) (codes "ImposePath" ∷ []) (has_other 0 (codes "ImposePath")) outers s n refl refl refl ∙ g.guard.path_is;
        names = unput (λ x. all_absent names_looked_up (0 ∷ ds) x) names_looked_up (absent_others (0 ∷ ds) names_looked_up) outers s n refl refl refl ∙ g.guard.names;
        few_operands = g.guard.few_operands;
        operands = operands_old s.work.made (page_matrix outers s) s.level (s.level + 1 + 1) s.work.operands (omega (arith, made)) (omega arith) g.guard.operands;
        dictionaries = dictionaries_old s.work.made (page_matrix outers s) ds (omega (arith, made)) g.guard.dictionaries;
      };
      userdict_first = first_there outers s n t;
      encloses = (flag_there outers s n t, matrix_there outers s n t, outline_there outers s n t, outer_there outers s n t, refl, new_there outers s n t);
      shows = tt;
      clips = ap (λ clips. clip_to n chain ∷ clips) g.clips;
      numbers = same_place n s.graphics.chain g.numbers;
      held = (
        ap (λ b. if b then Some chain else chain_of (page_matrix outers s) s.kept) (eq-eqb (page_matrix outers s) (page_matrix outers s) refl),
        held_over outers s.work.made (page_matrix outers s) chain s.kept (omega (arith, made)) t.older g.held,
      );
    }

-- The sheet, run there.

-- what it comes to, by itself
abbrev sheet_end : List Outer → State → Numbers → List Shown → State
sheet_end outers s n xs = record (sheltered outers s (outline_tokens n) []) { painted = sheet_picture (beginning s) xs [] }

pub sheet_leaves : (outers : List Outer) (s : State) (n : Numbers) (xs : List Shown) (ps : List Painting) (sheets : List (List Painting)) → TakesSheets outers s
    → LeavesAsItWas (record s { painted = ps; sheets = sheets }) (sheet_end outers s n xs)
sheet_leaves outers s n xs ps sheets t = record {
  nothing_left = refl;
  operands = refl;
  dictionaries = refl;
  saves = ap (λ b. if b then Some (page_save outers s (outline_tokens n), []) else None) (ne_eqb (s.level + 1) s.level (λ k. omega (arith, k)));
  save_name = save_there outers s n t;
  restore_name = unput (λ x. meaning s.work.dictionaries x (codes "restore")) (codes "restore" ∷ []) (means_other s.work.dictionaries (codes "restore")) outers s n refl refl refl ∙ t.restore_is;
}

-- placed, upon the border
sheet_upon : (p : Place) (g : Graphics) (xs : List Shown) (before : List Painting) → sheet_picture (graphics_at p g) xs before ≡ picture_at p (sheet_picture g xs []) ++ before
sheet_upon p g xs before = upon (graphics_at p g) xs [] before ∙ ap (λ ps. ps ++ before) (sym (sheet_is_composed p g xs))

pub sheet_of_placed : (outers : List Outer) (s : State) (n : Numbers) (xs : List Shown) → TakesSheets outers s → AllOf (Stays (Runs false) (page_begun outers s n)) xs → Stays (Runs false) s (sheet_as_page s n xs)
sheet_of_placed outers s n xs t h ps sheets rest =
    let u : State = record s { painted = ps; sheets = sheets } in
    let more : List Token = closing_tokens ++ rest in
    let place : Place = place_in s.graphics n in
    let border : List Painting = border_in s.graphics n n.border ++ ps in
    let begun : State = page_begun outers s n in
    let picture : List Painting = sheet_picture (beginning s) xs [] in
    let at : List Token → List Painting → State = λ l painted. fresh begun l painted sheets in
    let last : List Token = Name (codes "showpage") ∷ more in
    let full : List Painting = sheet_picture begun.graphics xs border in
    let end : State = at more (picture_at place picture ++ border) in
    let takes = still_takes outers s ps sheets t.takes in
    placed_from (Runs false) free_are_runs outers u u (sheet_end outers s n xs) (sheet_as_page s n xs) rest takes.guard
    (page_begins outers u n (sheet_tokens (map (λ x. x.placed) xs)) more takes)
    (subst (λ l. Runs false (at l border) end) (sym (append_assoc (pages_of xs) (Name (codes "showpage") ∷ []) more))
    (runs_join false (at (pages_of xs ++ last) border) (at last full) end
    (pages_run (Runs false) free_are_runs (still begun) begun.graphics xs 0 border sheets last (all_stay (Runs false) begun xs 0 h))
    (subst (λ painted. Runs false (at last full) (at more painted)) (sheet_upon place (beginning s) xs border)
    (page_is_left (at more full) (codes "showpage") more (showpage_there outers s n t)))))
    (sheet_leaves outers s n xs ps sheets t) refl

pub sheet_places : (outers : List Outer) (s : State) (n : Numbers) (xs : List Shown) → TakesSheets outers s → AllSheltered (page_round outers s n ∷ outers) (page_begun outers s n) xs
    → Stays (Runs false) s (sheet_as_page s n xs)
sheet_places outers s n xs t h =
    let inner : List Outer = page_round outers s n ∷ outers in
    let begun : State = page_begun outers s n in
    sheet_of_placed outers s n xs t
    (all_of (λ (x : Shown). PaintsSheltered inner begun (outline_tokens x.placed.numbers) x.placed.body x.picture) (Stays (Runs false) begun)
    (λ x k. page_places inner begun x (takes_there outers s n t) k) xs h)

pub sheet_is_placed : SheetIsPlaced
sheet_is_placed outers s n xs rest t h = sheet_places outers s n xs t h s.painted s.sheets rest

-- Sheets of sheets.

pub all_map : {A B : Type 0} (P : A → Type 0) (Q : B → Type 0) (f : A → B) → ((x : A) → P x → Q (f x)) → (xs : List A) → AllOf P xs → AllOf Q (map f xs)
all_map P Q f g [] h = tt
all_map P Q f g (x ∷ xs) h = (g x h.0, all_map P Q f g xs h.1)

pub sheets_of_sheets_are_printed : SheetsOfSheetsArePrinted
sheets_of_sheets_are_printed s xs rest g t e h =
    sheets_run (Runs false) free_are_runs s (map (as_pages s) xs) rest (guarded_prints (Runs false) free_are_runs s g) e
    (all_map (AllOf (AllWithin s)) (AllOf (Stays (Runs false) s)) (as_pages s)
    (λ ys k. all_map (AllWithin s) (Stays (Runs false) s) (λ x. sheet_as_page s x.numbers x.pages) (λ y i. sheet_places [] s y.numbers y.pages t i) ys k) xs h)
