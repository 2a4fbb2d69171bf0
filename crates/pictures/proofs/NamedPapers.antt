-- The line for the papers' names, run.
use Rattle.std.specs.Prelude.{Option, Some, None, codes, bytes_eq, flat_map, if◌then◌else◌}
use Rattle.std.proofs.lemmas.Slice.Eq.{bytes_eq-Decides}
use Rattle.std.proofs.Common.{◌≡◌, ℕ, zero, suc, refl, ap, ◌∙◌, sym, subst, Bool, true, false, not, true≢false, is_none, ◌&&◌, ◌||◌, List, [], ◌∷◌, ◌++◌, map, append_assoc}
use Rattle.pictures.specs.Objects.{Token, Literal, Bound, Opens, Closes, Object, Plain, Truth, Procedure, Dictionary}
use Rattle.pictures.specs.Dictionaries.{DictionaryEntry, meaning, system, dictionary_entry, has, or, is_lacked}
use Rattle.pictures.specs.Operators.{holder, located, with_operands}
use Rattle.pictures.specs.Machine.{State, Runs, worked, steps, and_then}
use Rattle.pictures.specs.Sheets.{run_of, among, in_userdict}
use Rattle.pictures.proofs.Runs.{runs_one, runs_none, runs_join}
use Rattle.pictures.proofs.Tests.{by_test, first, second}
use Rattle.pictures.proofs.Names.{not_true}
use Rattle.pictures.specs.Shelter.{shelter_step, meant_sheltered}
use Rattle.pictures.specs.NamedPapers.{paper_names, papers_tokens, each_paper, left_if, papers_left, behind_papers, PapersAreLeft, PaperIsNothing}
use Rattle.pictures.proofs.Steps.{some}
use Rattle.pictures.proofs.Ground.{holder_other}
use Rattle.pictures.proofs.Lines.{page_is_left}
use Rattle.pictures.proofs.Redrawn.{with}

-- with these dictionaries and entries
abbrev over : State → List ℕ → List DictionaryEntry → State
over s ds es = record s { work = record s.work { dictionaries = ds; entries = es } }

-- no operator of the machine's, and none that it lacks
abbrev is_free : List ℕ → Bool
is_free name = not (has (system name)) && not (is_lacked name)

abbrev all_free : List (List ℕ) → Bool
all_free [] = true
all_free (name ∷ names) = is_free name && all_free names

-- after `where`
abbrev deciding : List Token → List Token
deciding l =
    Opens ∷ Bound (codes "pop") ∷ Opens ∷ Closes ∷ Bound (codes "def") ∷ Closes
    ∷ Opens ∷ Bound (codes "pop") ∷ Closes ∷ Bound (codes "ifelse") ∷ l

one_paper : (x : Option ℕ) (s : State) (ds : List ℕ) (es : List DictionaryEntry) (name : List ℕ) (l : List Token) → holder (0 ∷ ds) es name ≡ x → is_free name ≡ true
    → Runs false (run_of (Literal name ∷ (each_paper ++ l)) (over s (0 ∷ ds) es)) (run_of l (over s (0 ∷ ds) (left_if x name es)))
one_paper x s ds es name l found free =
    let system_none = not_true (has (system name)) (first (not (has (system name))) (not (is_lacked name)) free) in
    let not_lacked = not_true (is_lacked name) (second (not (has (system name))) (not (is_lacked name)) free) in
    let there : State = over s (0 ∷ ds) es in
    let named : List Object = Plain (Literal name) ∷ s.work.operands in
    let asks : State = with there (Plain (Literal name) ∷ named) in
    let w = with_operands there.work named in
    let located_is : located (holder (0 ∷ ds) es name) (has (system name)) (is_lacked name) w ≡ located x false false w =
    ap (λ y. located y (has (system name)) (is_lacked name) w) found ∙ ap (λ b. located x b (is_lacked name) w) system_none ∙ ap (λ b. located x false b w) not_lacked in
    some 2 (run_of (Literal name ∷ (each_paper ++ l)) there) (run_of (Bound (codes "where") ∷ deciding l) asks) (run_of l (over s (0 ∷ ds) (left_if x name es))) refl
    (by_found x located_is)
  where
    by_found : (x : Option ℕ) → located (holder (0 ∷ ds) es name) (has (system name)) (is_lacked name) (with_operands (over s (0 ∷ ds) es).work (Plain (Literal name) ∷ s.work.operands)) ≡ located x false false (with_operands (over s (0 ∷ ds) es).work (Plain (Literal name) ∷ s.work.operands))
        → Runs false (run_of (Bound (codes "where") ∷ deciding l) (with (over s (0 ∷ ds) es) (Plain (Literal name) ∷ Plain (Literal name) ∷ s.work.operands))) (run_of l (over s (0 ∷ ds) (left_if x name es)))
    by_found None e =
        let asks : State = with (over s (0 ∷ ds) es) (Plain (Literal name) ∷ Plain (Literal name) ∷ s.work.operands) in
        let told : State = with (over s (0 ∷ ds) es) (Truth false ∷ Plain (Literal name) ∷ s.work.operands) in
        let end : State = run_of l (over s (0 ∷ ds) es) in
        runs_one false (run_of (Bound (codes "where") ∷ deciding l) asks) (run_of (deciding l) told) end (ap (λ y. worked y (run_of (deciding l) asks)) e)
        (some 4 (run_of (deciding l) told) end end refl (runs_none false end))
    by_found (Some d) e =
        let asks : State = with (over s (0 ∷ ds) es) (Plain (Literal name) ∷ Plain (Literal name) ∷ s.work.operands) in
        let told : State = with (over s (0 ∷ ds) es) (Truth true ∷ Dictionary d ∷ Plain (Literal name) ∷ s.work.operands) in
        let end : State = run_of l (over s (0 ∷ ds) (in_userdict name (Procedure []) ∷ es)) in
        runs_one false (run_of (Bound (codes "where") ∷ deciding l) asks) (run_of (deciding l) told) end (ap (λ y. worked y (run_of (deciding l) asks)) e)
        (some 6 (run_of (deciding l) told) end end refl (runs_none false end))

all_papers : (names : List (List ℕ)) (s : State) (ds : List ℕ) (es : List DictionaryEntry) (l : List Token) → all_free names ≡ true
    → Runs false (run_of (flat_map (λ e. e ∷ each_paper) (map Literal names) ++ l) (over s (0 ∷ ds) es)) (run_of l (over s (0 ∷ ds) (papers_left names (0 ∷ ds) es)))
all_papers [] s ds es l free = runs_none false (run_of l (over s (0 ∷ ds) es))
all_papers (name ∷ names) s ds es l free =
    let more : List Token = flat_map (λ e. e ∷ each_paper) (map Literal names) in
    let now : List DictionaryEntry = left_if (holder (0 ∷ ds) es name) name es in
    let end : State = run_of l (over s (0 ∷ ds) (papers_left names (0 ∷ ds) now)) in
    subst (λ ts. Runs false (run_of (Literal name ∷ ts) (over s (0 ∷ ds) es)) end) (sym (append_assoc each_paper more l))
    (runs_join false (run_of (Literal name ∷ (each_paper ++ (more ++ l))) (over s (0 ∷ ds) es)) (run_of (more ++ l) (over s (0 ∷ ds) now)) end
    (one_paper (holder (0 ∷ ds) es name) s ds es name (more ++ l) refl (first (is_free name) (all_free names) free))
    (all_papers names s ds now l (second (is_free name) (all_free names) free)))

-- What the names mean after it.

put_nothing : (b : Bool) (x : Option Object) → x ≡ Some (Procedure []) → (if b && true then Some (Procedure []) else x) ≡ Some (Procedure [])
put_nothing true x e = refl
put_nothing false x e = e

-- a name that does nothing still does
stays : (names : List (List ℕ)) (ds : List ℕ) (es : List DictionaryEntry) (name : List ℕ) → dictionary_entry 0 name es ≡ Some (Procedure []) → dictionary_entry 0 name (papers_left names ds es) ≡ Some (Procedure [])
stays [] ds es name e = e
stays (k ∷ names) ds es name e = stays names ds (left_if (holder ds es k) k es) name (by_found (holder ds es k))
  where
    by_found : (x : Option ℕ) → dictionary_entry 0 name (left_if x k es) ≡ Some (Procedure [])
    by_found None = e
    by_found (Some d) = put_nothing (bytes_eq k name) (dictionary_entry 0 name es) e

-- another name is where it was
elsewhere : (x : Option ℕ) (k name : List ℕ) (ds : List ℕ) (es : List DictionaryEntry) → bytes_eq k name ≡ false → holder ds (left_if x k es) name ≡ holder ds es name
elsewhere None k name ds es other = refl
elsewhere (Some d) k name ds es other = holder_other ds (in_userdict k (Procedure [])) es name other

turned : (name k : List ℕ) → bytes_eq name k ≡ false → bytes_eq k name ≡ false
turned name k e = by_test (bytes_eq k name)
    (λ t. absurd (true≢false (sym ((bytes_eq-Decides name k).1 (sym ((bytes_eq-Decides k name).0 t))) ∙ e)))
    (λ f. f)

one_put : (x : Option ℕ) (d : ℕ) (k : List ℕ) (es : List DictionaryEntry) → x ≡ Some d → dictionary_entry 0 k (left_if x k es) ≡ Some (Procedure [])
one_put None d k es e = absurd (true≢false (ap is_none e))
one_put (Some c) d k es e = ap (λ b. if b && true then Some (Procedure []) else dictionary_entry 0 k es) ((bytes_eq-Decides k k).1 refl)

means_nothing : (names : List (List ℕ)) (ds : List ℕ) (es : List DictionaryEntry) (name : List ℕ) (d : ℕ) → among name names ≡ true → holder ds es name ≡ Some d
    → dictionary_entry 0 name (papers_left names ds es) ≡ Some (Procedure [])
means_nothing [] ds es name d a e = absurd (true≢false (sym a))
means_nothing (k ∷ names) ds es name d a e =
    let now : List DictionaryEntry = left_if (holder ds es k) k es in
    by_test (bytes_eq name k)
    (λ t. let same : name ≡ k = (bytes_eq-Decides name k).0 t in
    subst (λ z. dictionary_entry 0 z (papers_left names ds now) ≡ Some (Procedure [])) (sym same)
    (stays names ds now k (one_put (holder ds es k) d k es (subst (λ z. holder ds es z ≡ Some d) same e))))
    (λ f. means_nothing names ds now name d (subst (λ b. (b || among name names) ≡ true) f a) (elsewhere (holder ds es k) k name ds es (turned name k f) ∙ e))

not_there : (names : List (List ℕ)) (ds : List ℕ) (es : List DictionaryEntry) (name : List ℕ) → holder ds es name ≡ None → holder ds (papers_left names ds es) name ≡ None
not_there [] ds es name e = e
not_there (k ∷ names) ds es name e =
    let now : List DictionaryEntry = left_if (holder ds es k) k es in
    by_test (bytes_eq name k)
    (λ t. let same : name ≡ k = (bytes_eq-Decides name k).0 t in
    not_there names ds now name (subst (λ x. holder ds (left_if x k es) name ≡ None) (sym (subst (λ z. holder ds es z ≡ None) same e)) e))
    (λ f. not_there names ds now name (elsewhere (holder ds es k) k name ds es (turned name k f) ∙ e))

-- the line, run where userdict is on top
line_runs : (s : State) (ds : List ℕ) (es : List DictionaryEntry) (rest : List Token) → Runs false (run_of (papers_tokens ++ rest) (over s (0 ∷ ds) es)) (run_of rest (over s (0 ∷ ds) (papers_left paper_names (0 ∷ ds) es)))
line_runs s ds es rest =
    some 25 (run_of (papers_tokens ++ rest) (over s (0 ∷ ds) es)) (run_of (flat_map (λ e. e ∷ each_paper) (map Literal paper_names) ++ rest) (over s (0 ∷ ds) es)) (run_of rest (over s (0 ∷ ds) (papers_left paper_names (0 ∷ ds) es))) refl
    (all_papers paper_names s ds es rest refl)

papers_run : (s : State) (ds : List ℕ) (rest : List Token) → s.work.dictionaries ≡ 0 ∷ ds → Runs false (run_of (papers_tokens ++ rest) s) (behind_papers s rest)
papers_run s ds rest e =
    subst (λ l. Runs false (run_of (papers_tokens ++ rest) (over s l s.work.entries)) (run_of rest (over s l (papers_left paper_names l s.work.entries)))) (sym e)
    (line_runs s ds s.work.entries rest)

first_of : (ds : List ℕ) (c : List ℕ) (es : List DictionaryEntry) (name : List ℕ) (o : Object) → ds ≡ 0 ∷ c → dictionary_entry 0 name es ≡ Some o → meaning ds es name ≡ Some o
first_of ds c es name o e f = subst (λ l. meaning l es name ≡ Some o) (sym e) (ap (λ x. or x (meaning c es name)) f)

pub papers_are_left : PapersAreLeft
papers_are_left = (
  refl,
  λ s ds rest e. (
    papers_run s ds rest e,
    λ name d a f. first_of s.work.dictionaries ds (papers_left paper_names s.work.dictionaries s.work.entries) name (Procedure []) e
        (means_nothing paper_names s.work.dictionaries s.work.entries name d a f),
    λ name f. not_there paper_names s.work.dictionaries s.work.entries name f,
  ),
)

pub paper_is_nothing : PaperIsNothing
paper_is_nothing s name rest e = (
  page_is_left s name rest e,
  λ outers outline. (suc zero, ap (λ x. and_then (steps (shelter_step outers outline) zero) (meant_sheltered outers outline x (run_of rest s))) e),
)
