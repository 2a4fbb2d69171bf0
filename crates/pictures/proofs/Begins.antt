-- What the sheet's text and the guard do where a page begins.
use Rattle.std.specs.Prelude.{Option, Some, None, codes, bytes_eq, decimal, if◌then◌else◌}
use Rattle.std.specs.Fmt.{digits}
use Rattle.std.proofs.lemmas.Slice.Eq.{bytes_eq-Decides}
use Rattle.std.proofs.Common.{◌≡◌, ℕ, ◌+◌, ◌^◌, ◌<◌, refl, ap, ◌∙◌, sym, subst, Bool, true, false, not, true≢false, ◌&&◌, ◌==◌, List, [], ◌∷◌, ◌++◌, length, arith}
use Rattle.pictures.specs.Objects.{Token, Number, Name, Literal, Bound, Opens, Closes, Object, Plain, Truth, Procedure, Mark, Dictionary, SystemDictionary, Matrix, Saved, Call, Equal}
use Rattle.pictures.specs.Dictionaries.{DictionaryEntry, meaning, system, or, dictionary_entry}
use Rattle.pictures.specs.Operators.{Work, with_operands, judged, located, loaded, scope_ended, holder}
use Rattle.pictures.specs.Calculations.{compared}
use Rattle.pictures.specs.Chains.{is_same_chain, are_same_operands}
use Rattle.pictures.specs.Machine.{State, Graphics, Segment, Runs, push, worked, traced, may_precede, procedure_for, numbers_before}
use Rattle.pictures.specs.Sheets.{run_of, among, BorderNumbers, Numbers, zero_text, edge, path_point, edge_tokens, border_tokens, saving_tokens, placing_tokens, place_in, border_in, in_userdict}
use Rattle.pictures.specs.Sheets.{matrix_call}
use Rattle.pictures.proofs.Runs.{runs_one, runs_none, runs_join}
use Rattle.pictures.proofs.Straight.{Known, straight, straight_runs}
use Rattle.pictures.proofs.Opening.{snapshot_of, apart, is_apart}
use Rattle.pictures.proofs.Tests.{first, second}
use Rattle.pictures.proofs.Placed.{both_true}
use Rattle.pictures.specs.AfterGuard.{operator, save_tokens, clip_tokens, outer_tokens, showpage_tokens, looking_tokens, putting_back_tokens, keeping_tokens}
use Rattle.pictures.specs.AfterGuard.{pathforall_tokens as tracing_tokens}
use Rattle.pictures.specs.Shelter.{Outer, outer_is, means, outer_entries, outer_made, sheltered, outline_tokens}
use Rattle.pictures.specs.Pages.{HasGuard, TakesPages, Encloses, ShowsByGuard, around, placed_at, has_nothing, names_looked_up, looked_up_first, PageBegins}
use Rattle.pictures.proofs.Absent.{known, known_below, keys_differ, through}
use Rattle.pictures.proofs.Counting.{counted}
use Rattle.pictures.proofs.Steps.{some, by_name}
use Rattle.pictures.proofs.Redrawn.{traced_one, element, traces}
use Rattle.pictures.proofs.Lines.{really, really_saves, asked_name}

-- What is asked after the sheet's save: some dictionary on the stack has a showpage.
pub record Bears (outers : List Outer) (s : State) : Type 0 where
  pub guard : HasGuard s.work s.level
  pub found : ℕ
  pub found_is : holder s.work.dictionaries s.work.entries (codes "showpage") ≡ Some found
  pub encloses : Encloses outers s
  pub numbers : is_same_chain s.graphics.chain s.graphics.chain ≡ true

bears : (outers : List Outer) (s : State) → TakesPages outers s → Bears outers s
bears outers s h = record { guard = h.guard; found = 0; found_is = h.userdict_first; encloses = h.encloses; numbers = h.numbers }

-- within the sheet's save, where so many dictionaries and matrices have been made
abbrev pub within : State → List Object → List ℕ → List DictionaryEntry → ℕ → Graphics → State
within s os ds es made g = record s {
  work = record { operands = os; dictionaries = ds; entries = es; made = made };
  level = s.level + 1;
  graphics = g;
  stacked = [];
  saves = snapshot_of s ∷ s.saves;
}

-- and the page's transformation is noted
abbrev noted_within : State → List Object → List ℕ → List DictionaryEntry → ℕ → Graphics → List Call → State
noted_within s os ds es made g chain = record (within s os ds es (made + 1) g) {
  kept = record { number = made + 1; chain = chain } ∷ s.kept;
}

-- the operands of the sheet's save, and the state at it
abbrev pub for_save : State → List Object
for_save s = Plain (Literal (codes "ImposeSave")) ∷ Dictionary 0 ∷ s.work.operands

abbrev pub before : State → List Object → State
before s os = record s { work = with_operands s.work os }

-- The test for an empty showpage.

-- after the flag
abbrev pub looking : List Token → List Token
looking l = Opens ∷ (looking_tokens ++ (Closes ∷ Bound (codes "if") ∷ l))

-- and after what it finds
abbrev pub filling : List Token → List Token
filling l = Opens ∷ (putting_back_tokens ++ (Closes ∷ Bound (codes "if") ∷ l))

abbrev pub measuring : List Token → List Token
measuring l = Bound (codes "length") ∷ Number (codes "0") ∷ Bound (codes "eq") ∷ filling l

-- outside all pages a procedure is measured
pub looked : (s u : State) (ts l : List Token) → means s (codes "PStoPSenablepage") ≡ Some (Truth true) → means s (codes "showpage") ≡ Some (Procedure ts)
    → means s (codes "ImposeShow") ≡ system (codes "showpage") → Runs false (run_of (measuring l) (push (Procedure ts) s)) u
    → Runs false (run_of (Name (codes "PStoPSenablepage") ∷ looking l) s) u
looked s u ts l flag is show r =
    let comparing : List Token =
    Bound (codes "ne") ∷ Opens ∷ Bound (codes "length") ∷ Number (codes "0") ∷ Bound (codes "eq")
    ∷ Opens ∷ (putting_back_tokens ++ (Closes ∷ Bound (codes "if") ∷ Closes ∷ Opens ∷ Bound (codes "pop") ∷ Closes ∷ Bound (codes "ifelse") ∷ l)) in
    let l2 : List Token = Bound (codes "load") ∷ comparing in
    let l1 : List Token = Bound (codes "dup") ∷ Literal (codes "ImposeShow") ∷ l2 in
    let l0 : List Token = Bound (codes "load") ∷ l1 in
    let to_load : State = push (Plain (Literal (codes "showpage"))) s in
    let one : State = push (Procedure ts) s in
    let two : State = push (Procedure ts) one in
    let asked : State = push (Plain (Literal (codes "ImposeShow"))) two in
    let both : State = push (operator (system (codes "showpage"))) two in
    by_name (codes "PStoPSenablepage") (looking l) s (run_of (looking l) (push (Truth true) s)) u (Some (Truth true)) flag refl
    (some 3 (run_of (looking l) (push (Truth true) s)) (run_of l0 to_load) u refl
    (runs_one false (run_of l0 to_load) (run_of l1 one) u (ap (λ x. worked (loaded x s.work) (run_of l1 to_load)) is)
    (some 2 (run_of l1 one) (run_of l2 asked) u refl
    (runs_one false (run_of l2 asked) (run_of comparing both) u (ap (λ x. worked (loaded x two.work) (run_of comparing asked)) show)
    (some 4 (run_of comparing both) (run_of (measuring l) one) u refl r)))))

three_isnt_none : compared Equal (decimal 3) (codes "0") ≡ Some false
unfolding digits
three_isnt_none = refl

-- the guard's own stays
stays_shown : (s : State) (l : List Token) → means s (codes "PStoPSenablepage") ≡ Some (Truth true) → means s (codes "showpage") ≡ Some (Procedure showpage_tokens)
    → means s (codes "ImposeShow") ≡ system (codes "showpage") → Runs false (run_of (Name (codes "PStoPSenablepage") ∷ looking l) s) (run_of l s)
stays_shown s l flag is show =
    let end : State = run_of l s in
    let one : State = push (Procedure showpage_tokens) s in
    let measured : State = push (Plain (Number (codes "0"))) (push (Plain (Number (decimal 3))) s) in
    let l1 : List Token = Bound (codes "eq") ∷ filling l in
    looked s end showpage_tokens l flag is show
    (some 2 (run_of (measuring l) one) (run_of l1 measured) end refl
    (runs_one false (run_of l1 measured) (run_of (filling l) (push (Truth false) s)) end (ap (λ x. worked (judged x (with_operands s.work s.work.operands)) (run_of (filling l) measured)) three_isnt_none)
    (some 2 (run_of (filling l) (push (Truth false) s)) end end refl (runs_none false end))))

-- and within a page nothing is asked
still_shown : (outers : List Outer) (s : State) (os : List Object) (l : List Token) → Encloses outers s → ShowsByGuard outers s
    → Runs false (run_of (Name (codes "PStoPSenablepage") ∷ looking l) (before s os)) (run_of l (before s os))
still_shown [] s os l flag shows = stays_shown (before s os) l flag shows.0 shows.1
still_shown (o ∷ os) s operands l e shows =
    let there : State = before s operands in
    by_name (codes "PStoPSenablepage") (looking l) there (run_of (looking l) (push (Truth false) there)) (run_of l there) (Some (Truth false)) e.0 refl
    (some 2 (run_of (looking l) (push (Truth false) there)) (run_of l there) (run_of l there) refl (runs_none false (run_of l there)))

-- The sheet's save.

-- after that test
abbrev pub finding : List Token → List Token
finding l = Name (codes "ImposeGuard") ∷ Bound (codes "begin") ∷ Name (codes "systemdict") ∷ really l

-- up to it, where userdict has the first showpage
pub up_to_test : (s u : State) (l : List Token) → meaning s.work.dictionaries s.work.entries (codes "userdict") ≡ system (codes "userdict")
    → holder s.work.dictionaries s.work.entries (codes "showpage") ≡ Some 0 → length s.work.operands + 2 < 10 ^ 64
    → Runs false (run_of (Name (codes "PStoPSenablepage") ∷ looking (finding l)) (before s (for_save s))) u
    → Runs false (run_of (save_tokens ++ l) (before s (for_save s))) u
up_to_test s u l user first_is few r =
    let os : List Object = for_save s in
    let count : Object = Plain (Number (decimal (length os))) in
    let l1 : List Token = Bound (codes "ne") ∷ asked_name l in
    let here : List Token = Name (codes "PStoPSenablepage") ∷ looking (finding l) in
    let asking : List Token =
    Bound (codes "ne") ∷ Number (codes "1") ∷ Bound (codes "index") ∷ Bound (codes "wcheck") ∷ Bound (codes "and")
    ∷ Opens ∷ Literal (codes "showpage")
    ∷ Opens ∷ Name (codes "userdict") ∷ Literal (codes "showpage") ∷ Bound (codes "get") ∷ Bound (codes "exec") ∷ Closes
    ∷ Bound (codes "put") ∷ Closes ∷ (keeping_tokens ++ (Bound (codes "ifelse") ∷ finding l)) in
    let deciding : List Token =
    Opens ∷ Bound (codes "dup") ∷ Name (codes "userdict") ∷ Bound (codes "ne") ∷ Number (codes "1")
    ∷ Bound (codes "index") ∷ Bound (codes "wcheck") ∷ Bound (codes "and")
    ∷ Opens ∷ Literal (codes "showpage")
    ∷ Opens ∷ Name (codes "userdict") ∷ Literal (codes "showpage") ∷ Bound (codes "get") ∷ Bound (codes "exec") ∷ Closes
    ∷ Bound (codes "put") ∷ Closes ∷ (keeping_tokens ++ (Bound (codes "ifelse") ∷ Closes ∷ Bound (codes "if") ∷ finding l)) in
    let found : List Token = Bound (codes "where") ∷ deciding in
    let s1 : State = before s (Plain (Number (codes "0")) ∷ count ∷ os) in
    let s2 : State = before s (Plain (Literal (codes "showpage")) ∷ os) in
    let s3 : State = before s (Truth true ∷ Dictionary 0 ∷ os) in
    let s4 : State = before s (Dictionary 0 ∷ Dictionary 0 ∷ os) in
    some 2 (run_of (save_tokens ++ l) (before s os)) (run_of l1 s1) u refl
    (runs_one false (run_of l1 s1) (run_of (asked_name l) (before s (Truth true ∷ os))) u (ap (λ x. worked (judged x (with_operands s.work os)) (run_of (asked_name l) s1)) (counted (length os) (omega arith) (omega (arith, few))))
    (some 8 (run_of (asked_name l) (before s (Truth true ∷ os))) (run_of found s2) u refl
    (runs_one false (run_of found s2) (run_of deciding s3) u (ap (λ x. worked (located x true false (with_operands s.work os)) (run_of deciding s2)) first_is)
    (some 3 (run_of deciding s3) (run_of (Name (codes "userdict") ∷ asking) s4) u refl
    (by_name (codes "userdict") asking s4 (run_of asking (push (Dictionary 0) s4)) u (system (codes "userdict")) user refl
    (some 9 (run_of asking (push (Dictionary 0) s4)) (run_of here (before s os)) u refl r))))))

-- and after it: the dictionary that marks a page is put on the stack, and the state saved
pub marks_page : (s : State) (os : List Object) (number : ℕ) (l : List Token) → means s (codes "ImposeGuard") ≡ Some (Dictionary number)
    → meaning (number ∷ s.work.dictionaries) s.work.entries (codes "systemdict") ≡ system (codes "systemdict")
    → Runs false (run_of (finding l) (before s os)) (run_of l (within s (Saved s.level ∷ os) (number ∷ s.work.dictionaries) s.work.entries s.work.made s.graphics))
marks_page s os number l guard real =
    let there : State = before s os in
    let marked : State = record there { work = record there.work { dictionaries = number ∷ s.work.dictionaries } } in
    let end : State = run_of l (within s (Saved s.level ∷ os) (number ∷ s.work.dictionaries) s.work.entries s.work.made s.graphics) in
    let l1 : List Token = Bound (codes "begin") ∷ Name (codes "systemdict") ∷ really l in
    by_name (codes "ImposeGuard") l1 there (run_of l1 (push (Dictionary number) there)) end (Some (Dictionary number)) guard refl
    (some 1 (run_of l1 (push (Dictionary number) there)) (run_of (Name (codes "systemdict") ∷ really l) marked) end refl
    (really_saves marked l real))

-- the sheet's save puts the dictionary that marks a page on the stack, and saves
page_saves : (outers : List Outer) (s : State) (l : List Token) (h : TakesPages outers s)
    → Runs false (run_of (save_tokens ++ l) (before s (for_save s)))
    (run_of l (within s (Saved s.level ∷ for_save s) (h.guard.number ∷ s.work.dictionaries) s.work.entries s.work.made s.graphics))
page_saves outers s l h =
    let ds : List ℕ = s.work.dictionaries in
    let es : List DictionaryEntry = s.work.entries in
    let end : State = run_of l (within s (Saved s.level ∷ for_save s) (h.guard.number ∷ ds) es s.work.made s.graphics) in
    let there : State = before s (for_save s) in
    up_to_test s end l (known_below names_looked_up 0 ds es h.guard.names (codes "userdict") refl) h.userdict_first h.guard.few_operands
    (runs_join false (run_of (Name (codes "PStoPSenablepage") ∷ looking (finding l)) there) (run_of (finding l) there) end
    (still_shown outers s (for_save s) (finding l) h.encloses h.shows)
    (marks_page s (for_save s) h.guard.number l h.guard.guard_is (known looked_up_first (h.guard.number ∷ ds) es h.guard.clip_alone (codes "systemdict") refl)))

-- The outline.

pub same_text : (a : List ℕ) → bytes_eq a a ≡ true
same_text a = (bytes_eq-Decides a a).1 refl

same_numbers : (n : Numbers) → are_same_operands (matrix_call n).operands (matrix_call n).operands ≡ true
same_numbers n =
    both_true _ true
    (both_true (bytes_eq n.a n.a) _ (same_text n.a) (both_true (bytes_eq n.b n.b) _ (same_text n.b) (both_true (bytes_eq n.c n.c) _ (same_text n.c)
    (both_true (bytes_eq n.d n.d) _ (same_text n.d) (both_true (bytes_eq n.x n.x) _ (same_text n.x) (both_true (bytes_eq n.y n.y) true (same_text n.y) refl))))))
    refl

pub same_place : (n : Numbers) (cs : List Call) → is_same_chain cs cs ≡ true → is_same_chain (matrix_call n ∷ cs) (matrix_call n ∷ cs) ≡ true
same_place n cs e = both_true (are_same_operands (matrix_call n).operands (matrix_call n).operands) (is_same_chain cs cs) (same_numbers n) e

-- the elements of the paper's edge, each with its procedure
abbrev edge_elements : Numbers → List Token
edge_elements n =
    Number zero_text ∷ Number zero_text ∷ Literal (codes "moveto") ∷ Bound (codes "cvx")
    ∷ Number n.width ∷ Number zero_text ∷ Literal (codes "lineto") ∷ Bound (codes "cvx")
    ∷ Number n.width ∷ Number n.height ∷ Literal (codes "lineto") ∷ Bound (codes "cvx")
    ∷ Number zero_text ∷ Number n.height ∷ Literal (codes "lineto") ∷ Bound (codes "cvx")
    ∷ Literal (codes "closepath") ∷ Bound (codes "cvx") ∷ []

edge_traced : (n : Numbers) (chain : List Call) → is_same_chain chain chain ≡ true → traces chain (edge n chain) [] [] ≡ Some (edge_elements n)
edge_traced n chain e =
    let one : (x : Segment) (xs : List Segment) (next : List ℕ) (ts later : List Token) → is_same_chain x.chain chain ≡ true → may_precede x.call.name next ≡ true
    → procedure_for x.call.name (element (codes "moveto")) (element (codes "lineto")) (element (codes "curveto")) (element (codes "closepath")) ≡ Some ts
    → traces chain (x ∷ xs) next later ≡ traces chain xs x.call.name (numbers_before x.call.operands (ts ++ later)) =
    traced_one chain (element (codes "moveto")) (element (codes "lineto")) (element (codes "curveto")) (element (codes "closepath")) in
    let line : List Token = element (codes "lineto") in
    let l1 : List Token = element (codes "closepath") in
    let l2 : List Token = Number zero_text ∷ Number n.height ∷ (line ++ l1) in
    let l3 : List Token = Number n.width ∷ Number n.height ∷ (line ++ l2) in
    let l4 : List Token = Number n.width ∷ Number zero_text ∷ (line ++ l3) in
    one (point_closing chain) (path_point (codes "lineto") zero_text n.height chain ∷ path_point (codes "lineto") n.width n.height chain ∷ path_point (codes "lineto") n.width zero_text chain ∷ path_point (codes "moveto") zero_text zero_text chain ∷ []) [] l1 [] e refl refl
    ∙ one (path_point (codes "lineto") zero_text n.height chain) (path_point (codes "lineto") n.width n.height chain ∷ path_point (codes "lineto") n.width zero_text chain ∷ path_point (codes "moveto") zero_text zero_text chain ∷ []) (codes "closepath") line l1 e refl refl
    ∙ one (path_point (codes "lineto") n.width n.height chain) (path_point (codes "lineto") n.width zero_text chain ∷ path_point (codes "moveto") zero_text zero_text chain ∷ []) (codes "lineto") line l2 e refl refl
    ∙ one (path_point (codes "lineto") n.width zero_text chain) (path_point (codes "moveto") zero_text zero_text chain ∷ []) (codes "lineto") line l3 e refl refl
    ∙ one (path_point (codes "moveto") zero_text zero_text chain) [] (codes "lineto") (element (codes "moveto")) l4 e refl refl
  where
    point_closing : List Call → Segment
    point_closing chain = record { call = record { name = codes "closepath"; operands = [] }; chain = chain; settings = [] }

-- The dictionary that marks a page is taken off the stack.

ended_at : (d : ℕ) (ds : List ℕ) (es : List DictionaryEntry) (key : List ℕ) (found : ℕ) (w : Work) → holder ds es key ≡ Some found
    → scope_ended (d ∷ ds) w ≡ Some (record w { dictionaries = ds })
ended_at d [] es key found w e = absurd (nothing_found (holder [] es key) found refl e)
  where
    is_some : Option ℕ → Bool
    is_some None = false
    is_some (Some n) = true

    nothing_found : (x : Option ℕ) (n : ℕ) → x ≡ None → x ≡ Some n → ⊥
    nothing_found x n e f = true≢false (ap is_some (sym f ∙ e))
ended_at d (c ∷ ds) es key found w e = refl

-- The guard's clip.

abbrev entry : List ℕ → Object → DictionaryEntry
entry = in_userdict

-- what is put before the clip
abbrev puts : State → List DictionaryEntry
puts s = entry (codes "showpage") (Procedure []) ∷ entry (codes "ImposeSave") (Saved s.level) ∷ []

abbrev put_entries : State → List DictionaryEntry
put_entries s = puts s ++ s.work.entries

-- and by it
abbrev matrix_put : ℕ → List DictionaryEntry
matrix_put made = entry (codes "PStoPSmatrix") (Matrix (made + 1)) ∷ []

abbrev outline_put : ℕ → Numbers → List DictionaryEntry
outline_put made n = entry (codes "PStoPSclip") (Procedure (outline_tokens n)) ∷ matrix_put made

abbrev all_put : ℕ → Numbers → List DictionaryEntry
all_put made n = entry (codes "PStoPSenablepage") (Truth false) ∷ outline_put made n

-- a name that means the operator still does
still : (ds : List ℕ) (more es : List DictionaryEntry) (name : List ℕ) → keys_differ more name ≡ true → meaning ds es name ≡ system name → meaning ds (more ++ es) name ≡ system name
still ds more es name h e = through ds more es name h ∙ e

-- these names are known still after entries for others
known_through : (names : List (List ℕ)) (ds : List ℕ) (more es : List DictionaryEntry) → ((name : List ℕ) → among name names ≡ true → keys_differ more name ≡ true)
    → ((name : List ℕ) → among name names ≡ true → meaning ds es name ≡ system name)
    → (name : List ℕ) → among name names ≡ true → meaning ds (more ++ es) name ≡ system name
known_through names ds more es d k name h = through ds more es name (d name h) ∙ k name h

-- the entries' keys are none of these names
abbrev pub all_apart : List DictionaryEntry → List (List ℕ) → Bool
all_apart [] names = true
all_apart (e ∷ es) names = apart e.key names && all_apart es names

turned : (b : Bool) → b ≡ false → not b ≡ true
turned true e = sym e
turned false e = refl

pub differ : (more : List DictionaryEntry) (names : List (List ℕ)) → all_apart more names ≡ true → (name : List ℕ) → among name names ≡ true → keys_differ more name ≡ true
differ [] names a name h = refl
differ (e ∷ more) names a name h =
    both_true (not (bytes_eq e.key name)) (keys_differ more name)
    (turned (bytes_eq e.key name) (is_apart e.key name names (first (apart e.key names) (all_apart more names) a) h))
    (differ more names (second (apart e.key names) (all_apart more names) a) name h)

outer_apart : (outers : List Outer) → all_apart (outer_entries outers) names_looked_up ≡ true
outer_apart [] = refl
outer_apart (o ∷ os) = refl

outer_path : (outers : List Outer) (es : List DictionaryEntry) → dictionary_entry 0 (codes "ImposePath") (outer_entries outers ++ es) ≡ dictionary_entry 0 (codes "ImposePath") es
outer_path [] es = refl
outer_path (o ∷ os) es = refl

-- the graphics state with the page's place
abbrev on_paper : State → Numbers → List Segment → Graphics
on_paper s n path = record { chain = (place_in s.graphics n).chain; path = path; clip = (place_in s.graphics n).clip; settings = s.graphics.settings }

-- where the page begins, but for its border, if these entries were there, and so much was made
abbrev begun_over : State → Numbers → List DictionaryEntry → ℕ → State
begun_over s n es made = record s {
  work = record s.work { entries = all_put made n ++ es; made = made + 1 };
  kept = record { number = made + 1; chain = (place_in s.graphics n).chain } ∷ s.kept;
  level = s.level + 1 + 1;
  graphics = on_paper s n [];
  stacked = [];
  saves = record {
    level = s.level + 1;
    entries = all_put made n ++ es;
    made = made + 1;
    kept = record { number = made + 1; chain = (place_in s.graphics n).chain } ∷ s.kept;
    graphics = on_paper s n [];
    stacked = [];
  } ∷ snapshot_of s ∷ s.saves;
}

-- the entries that the sheet's text and the guard have put for the pages round it
abbrev round_entries : List Outer → State → List DictionaryEntry
round_entries outers s = outer_entries outers ++ put_entries s

abbrev begun : List Outer → State → Numbers → State
begun outers s n = begun_over s n (round_entries outers s) (outer_made outers s.work.made)

-- after the clip
abbrev noting : List Token → List Token
noting l =
    Name (codes "userdict") ∷ Bound (codes "begin") ∷ Literal (codes "PStoPSmatrix") ∷ Bound (codes "matrix") ∷ Bound (codes "currentmatrix") ∷ Bound (codes "def")
    ∷ Literal (codes "PStoPSclip") ∷ Name (codes "ImposePath") ∷ Bound (codes "def") ∷ Literal (codes "PStoPSenablepage") ∷ Name (codes "false") ∷ Bound (codes "def")
    ∷ Bound (codes "end") ∷ Bound (codes "newpath") ∷ Name (codes "systemdict") ∷ Literal (codes "save") ∷ Bound (codes "get") ∷ Bound (codes "exec") ∷ Bound (codes "pop") ∷ l

-- the page is noted
page_noted : (s : State) (n : Numbers) (l : List Token) (es : List DictionaryEntry) (made : ℕ)
    → Known names_looked_up (record s.work { entries = es }) → Known names_looked_up (record s.work { dictionaries = 0 ∷ s.work.dictionaries; entries = es })
    → dictionary_entry 0 (codes "ImposePath") es ≡ Some (Procedure tracing_tokens)
    → (found : ℕ) → holder s.work.dictionaries s.work.entries (codes "showpage") ≡ Some found
    → is_same_chain (place_in s.graphics n).chain (place_in s.graphics n).chain ≡ true
    → Runs false (run_of (noting l) (within s s.work.operands s.work.dictionaries es made (on_paper s n (edge n (place_in s.graphics n).chain))))
    (run_of l (begun_over s n es made))
page_noted s n l es made below here path_is found first_is same =
    let ds : List ℕ = s.work.dictionaries in
    let os : List Object = s.work.operands in
    let chain : List Call = (place_in s.graphics n).chain in
    let end : State = run_of l (begun_over s n es made) in
    let g : Graphics = on_paper s n (edge n chain) in
    let with_matrix : List DictionaryEntry = matrix_put made ++ es in
    let with_outline : List DictionaryEntry = outline_put made n ++ es in
    let with_all : List DictionaryEntry = all_put made n ++ es in
    let l9 : List Token = Literal (codes "save") ∷ Bound (codes "get") ∷ Bound (codes "exec") ∷ Bound (codes "pop") ∷ l in
    let l8 : List Token = Bound (codes "newpath") ∷ Name (codes "systemdict") ∷ l9 in
    let l7 : List Token = Bound (codes "end") ∷ l8 in
    let l6 : List Token = Bound (codes "def") ∷ l7 in
    let l5 : List Token = Literal (codes "PStoPSenablepage") ∷ Name (codes "false") ∷ l6 in
    let l4 : List Token = Bound (codes "def") ∷ l5 in
    let l3 : List Token = Literal (codes "PStoPSclip") ∷ Name (codes "ImposePath") ∷ l4 in
    let l2 : List Token = Bound (codes "begin") ∷ Literal (codes "PStoPSmatrix") ∷ Bound (codes "matrix") ∷ Bound (codes "currentmatrix") ∷ Bound (codes "def") ∷ l3 in
    let closing : List Token = Bound (codes "]") ∷ Bound (codes "cvx") ∷ l4 in
    let tracing : List Token = Bound (codes "pathforall") ∷ closing in
    let s2 : State = within s os ds es made g in
    let s3 : State = noted_within s (Plain (Literal (codes "PStoPSclip")) ∷ os) (0 ∷ ds) with_matrix made g chain in
    let four : List Object = Procedure (element (codes "closepath")) ∷ Procedure (element (codes "curveto")) ∷ Procedure (element (codes "lineto")) ∷ Procedure (element (codes "moveto")) ∷ Mark ∷ Plain (Literal (codes "PStoPSclip")) ∷ os in
    let s4 : State = noted_within s four (0 ∷ ds) with_matrix made g chain in
    let s5 : State = noted_within s (Mark ∷ Plain (Literal (codes "PStoPSclip")) ∷ os) (0 ∷ ds) with_matrix made g chain in
    let s6 : State = noted_within s (Procedure (outline_tokens n) ∷ Plain (Literal (codes "PStoPSclip")) ∷ os) (0 ∷ ds) with_matrix made g chain in
    let s7 : State = noted_within s (Plain (Literal (codes "PStoPSenablepage")) ∷ os) (0 ∷ ds) with_outline made g chain in
    let s8 : State = noted_within s os (0 ∷ ds) with_all made g chain in
    let s9 : State = noted_within s os ds with_all made g chain in
    let s10 : State = noted_within s os ds with_all made (on_paper s n []) chain in
    by_name (codes "userdict") l2 s2 (run_of l2 (push (Dictionary 0) s2)) end (system (codes "userdict")) (below (codes "userdict") refl) refl
    (some 6 (run_of l2 (push (Dictionary 0) s2)) (run_of (Name (codes "ImposePath") ∷ l4) s3) end refl
    (by_name (codes "ImposePath") l4 s3 (run_of (tracing_tokens ++ l4) s3) end (Some (Procedure tracing_tokens)) (ap (λ x. or x (meaning ds with_matrix (codes "ImposePath"))) path_is) refl
    (some 5 (run_of (tracing_tokens ++ l4) s3) (run_of tracing s4) end refl
    (runs_one false (run_of tracing s4) (run_of (edge_elements n ++ closing) s5) end (ap (λ x. traced x s5.work.operands (run_of closing s4)) (edge_traced n chain same))
    (some 20 (run_of (edge_elements n ++ closing) s5) (run_of l4 s6) end refl
    (some 2 (run_of l4 s6) (run_of (Name (codes "false") ∷ l6) s7) end refl
    (by_name (codes "false") l6 s7 (run_of l6 (push (Truth false) s7)) end (system (codes "false")) (still (0 ∷ ds) (outline_put made n) es (codes "false") refl (here (codes "false") refl)) refl
    (some 1 (run_of l6 (push (Truth false) s7)) (run_of l7 s8) end refl
    (runs_one false (run_of l7 s8) (run_of l8 s9) end (ap (λ x. worked x (run_of l8 s8)) (ended_at 0 ds s.work.entries (codes "showpage") found s8.work first_is))
    (some 1 (run_of l8 s9) (run_of (Name (codes "systemdict") ∷ l9) s10) end refl
    (by_name (codes "systemdict") l9 s10 (run_of l9 (push SystemDictionary s10)) end (system (codes "systemdict")) (still ds (all_put made n) es (codes "systemdict") refl (below (codes "systemdict") refl)) refl
    (some 5 (run_of l9 (push SystemDictionary s10)) end end refl (runs_none false end)))))))))))))

-- A page round it is kept.

nothing_there : (d : ℕ) (name : List ℕ) (es : List DictionaryEntry) → has_nothing d es ≡ true → dictionary_entry d name es ≡ None
nothing_there d name [] e = refl
nothing_there d name (x ∷ es) e =
    passed (bytes_eq x.key name) (x.dictionary == d) x.value (dictionary_entry d name es) (first (not (x.dictionary == d)) (has_nothing d es) e)
    ∙ nothing_there d name es (second (not (x.dictionary == d)) (has_nothing d es) e)
  where
    passed : (a b : Bool) (v : Object) (y : Option Object) → not b ≡ true → (if a && b then Some v else y) ≡ y
    passed true false v y e = refl
    passed false b v y e = refl
    passed true true v y e = absurd (true≢false (sym e))

-- a name that the new dictionary doesn't have means what it meant
new_means : (d : ℕ) (ds : List ℕ) (es : List DictionaryEntry) (name : List ℕ) (o : Object) → has_nothing d es ≡ true → meaning ds es name ≡ Some o → meaning (d ∷ ds) es name ≡ Some o
new_means d ds es name o e f = ap (λ x. or x (meaning ds es name)) (nothing_there d name es e) ∙ f

-- after the flag
abbrev if_within : List Token → List Token
if_within l = Bound (codes "not") ∷ Opens ∷ (outer_tokens ++ (Closes ∷ Bound (codes "if") ∷ noting l))

-- the entries, with the outer page's matrix, outline and so on in the new dictionary
abbrev matrix_kept : ℕ → Outer → List DictionaryEntry → List DictionaryEntry
matrix_kept d o es = record { dictionary = d; key = codes "PStoPSmatrix"; value = Matrix o.matrix } ∷ es

abbrev outline_kept : ℕ → Outer → List DictionaryEntry → List DictionaryEntry
outline_kept d o es = record { dictionary = d; key = codes "PStoPSclip"; value = Procedure (outline_tokens o.numbers) } ∷ matrix_kept d o es

abbrev outer_kept : ℕ → Outer → List Outer → List DictionaryEntry → List DictionaryEntry
outer_kept d o os es = record { dictionary = d; key = codes "ImposeOuter"; value = outer_is os } ∷ outline_kept d o es

abbrev outer_put : ℕ → Outer → List Outer → List DictionaryEntry → List DictionaryEntry
outer_put d o os es = entry (codes "ImposeOuter") (Dictionary d) ∷ outer_kept d o os es

keeps_it : (s : State) (o : Outer) (os : List Outer) (l : List Token) (g : Graphics) → meaning s.work.dictionaries (put_entries s) (codes "userdict") ≡ system (codes "userdict")
    → (found : ℕ) → holder s.work.dictionaries s.work.entries (codes "showpage") ≡ Some found
    → meaning s.work.dictionaries s.work.entries (codes "PStoPSmatrix") ≡ Some (Matrix o.matrix)
    → meaning s.work.dictionaries s.work.entries (codes "PStoPSclip") ≡ Some (Procedure (outline_tokens o.numbers))
    → meaning s.work.dictionaries s.work.entries (codes "ImposeOuter") ≡ Some (outer_is os)
    → has_nothing (s.work.made + 1) s.work.entries ≡ true
    → Runs false (run_of (outer_tokens ++ l) (within s s.work.operands s.work.dictionaries (put_entries s) s.work.made g))
    (run_of l (within s s.work.operands s.work.dictionaries (outer_put (s.work.made + 1) o os (put_entries s)) (s.work.made + 1) g))
keeps_it s o os l g user found first_is matrix_is outline_is outer new =
    let ds : List ℕ = s.work.dictionaries in
    let all : List Object = s.work.operands in
    let d : ℕ = s.work.made + 1 in
    let es : List DictionaryEntry = put_entries s in
    let own : List DictionaryEntry = s.work.entries in
    let end : State = run_of l (within s all ds (outer_put d o os es) d g) in
    let below : List Object = Dictionary d ∷ Plain (Literal (codes "ImposeOuter")) ∷ Dictionary 0 ∷ all in
    let start : State = within s all ds es s.work.made g in
    let l7 : List Token = Bound (codes "put") ∷ l in
    let l6 : List Token = Bound (codes "end") ∷ l7 in
    let l5 : List Token = Bound (codes "def") ∷ l6 in
    let l4 : List Token = Literal (codes "ImposeOuter") ∷ Bound (codes "dup") ∷ Bound (codes "load") ∷ l5 in
    let l3 : List Token = Bound (codes "def") ∷ l4 in
    let l2 : List Token = Literal (codes "PStoPSclip") ∷ Bound (codes "dup") ∷ Bound (codes "load") ∷ l3 in
    let l1 : List Token = Bound (codes "def") ∷ l2 in
    let l0 : List Token =
    Literal (codes "ImposeOuter") ∷ Number (codes "3") ∷ Bound (codes "dict") ∷ Bound (codes "dup") ∷ Bound (codes "begin")
    ∷ Bound (codes "[") ∷ Literal (codes "PStoPSmatrix") ∷ Literal (codes "PStoPSclip") ∷ Literal (codes "ImposeOuter") ∷ Bound (codes "]")
    ∷ Opens ∷ Bound (codes "dup") ∷ Bound (codes "load") ∷ Bound (codes "def") ∷ Closes ∷ Bound (codes "forall") ∷ l6 in
    let asks : List ℕ → List DictionaryEntry → State = λ name now. within s (Plain (Literal name) ∷ Plain (Literal name) ∷ below) (d ∷ ds) now d g in
    let named : List ℕ → List DictionaryEntry → State = λ name now. within s (Plain (Literal name) ∷ below) (d ∷ ds) now d g in
    let told : List ℕ → Object → List DictionaryEntry → State = λ name x now. within s (x ∷ Plain (Literal name) ∷ below) (d ∷ ds) now d g in
    let s4 : State = within s below (d ∷ ds) (outer_kept d o os es) d g in
    let s5 : State = within s below ds (outer_kept d o os es) d g in
    by_name (codes "userdict") l0 start (run_of l0 (push (Dictionary 0) start)) end (system (codes "userdict")) user refl
    (some 14 (run_of l0 (push (Dictionary 0) start)) (run_of (Bound (codes "load") ∷ l1) (asks (codes "PStoPSmatrix") es)) end refl
    (runs_one false (run_of (Bound (codes "load") ∷ l1) (asks (codes "PStoPSmatrix") es)) (run_of l1 (told (codes "PStoPSmatrix") (Matrix o.matrix) es)) end
    (ap (λ x. worked (loaded x (named (codes "PStoPSmatrix") es).work) (run_of l1 (asks (codes "PStoPSmatrix") es))) (through (d ∷ ds) (puts s) own (codes "PStoPSmatrix") refl ∙ new_means d ds own (codes "PStoPSmatrix") (Matrix o.matrix) new matrix_is))
    (some 3 (run_of l1 (told (codes "PStoPSmatrix") (Matrix o.matrix) es)) (run_of (Bound (codes "load") ∷ l3) (asks (codes "PStoPSclip") (matrix_kept d o es))) end refl
    (runs_one false (run_of (Bound (codes "load") ∷ l3) (asks (codes "PStoPSclip") (matrix_kept d o es))) (run_of l3 (told (codes "PStoPSclip") (Procedure (outline_tokens o.numbers)) (matrix_kept d o es))) end
    (ap (λ x. worked (loaded x (named (codes "PStoPSclip") (matrix_kept d o es)).work) (run_of l3 (asks (codes "PStoPSclip") (matrix_kept d o es)))) (through (d ∷ ds) (matrix_kept d o (puts s)) own (codes "PStoPSclip") refl ∙ new_means d ds own (codes "PStoPSclip") (Procedure (outline_tokens o.numbers)) new outline_is))
    (some 3 (run_of l3 (told (codes "PStoPSclip") (Procedure (outline_tokens o.numbers)) (matrix_kept d o es))) (run_of (Bound (codes "load") ∷ l5) (asks (codes "ImposeOuter") (outline_kept d o es))) end refl
    (runs_one false (run_of (Bound (codes "load") ∷ l5) (asks (codes "ImposeOuter") (outline_kept d o es))) (run_of l5 (told (codes "ImposeOuter") (outer_is os) (outline_kept d o es))) end
    (ap (λ x. worked (loaded x (named (codes "ImposeOuter") (outline_kept d o es)).work) (run_of l5 (asks (codes "ImposeOuter") (outline_kept d o es)))) (through (d ∷ ds) (outline_kept d o (puts s)) own (codes "ImposeOuter") refl ∙ new_means d ds own (codes "ImposeOuter") (outer_is os) new outer))
    (some 1 (run_of l5 (told (codes "ImposeOuter") (outer_is os) (outline_kept d o es))) (run_of l6 s4) end refl
    (runs_one false (run_of l6 s4) (run_of l7 s5) end (ap (λ x. worked x (run_of l7 s4)) (ended_at d ds own (codes "showpage") found s4.work first_is))
    (some 1 (run_of l7 s5) end end refl (runs_none false end))))))))))

-- in the page's own clip, for each kind of state
clips_round : (outers : List Outer) (s : State) (n : Numbers) (l : List Token) (g : Graphics) → Bears outers s
    → Runs false (run_of (Name (codes "PStoPSenablepage") ∷ if_within l) (within s s.work.operands s.work.dictionaries (put_entries s) s.work.made g))
    (run_of (noting l) (within s s.work.operands s.work.dictionaries (round_entries outers s) (outer_made outers s.work.made) g))
clips_round [] s n l g h =
    let ds : List ℕ = s.work.dictionaries in
    let start : State = within s s.work.operands ds (put_entries s) s.work.made g in
    let end : State = run_of (noting l) start in
    by_name (codes "PStoPSenablepage") (if_within l) start (run_of (if_within l) (push (Truth true) start)) end (Some (Truth true)) (through ds (puts s) s.work.entries (codes "PStoPSenablepage") refl ∙ h.encloses) refl
    (some 3 (run_of (if_within l) (push (Truth true) start)) end end refl (runs_none false end))
clips_round (o ∷ os) s n l g h =
    let ds : List ℕ = s.work.dictionaries in
    let start : State = within s s.work.operands ds (put_entries s) s.work.made g in
    let end : ℕ → State = λ d. run_of (noting l) (within s s.work.operands ds (outer_put d o os (put_entries s)) (s.work.made + 1) g) in
    let e = h.encloses in
    let user = still ds (puts s) s.work.entries (codes "userdict") refl (known_below names_looked_up 0 ds s.work.entries h.guard.names (codes "userdict") refl) in
    let runs : (d : ℕ) → s.work.made + 1 ≡ d → Runs false (run_of (outer_tokens ++ noting l) start) (end d) =
    λ d same. subst (λ x. Runs false (run_of (outer_tokens ++ noting l) start) (end x)) same
    (keeps_it s o os (noting l) g user h.found h.found_is e.1 e.2 e.3 (subst (λ x. has_nothing x s.work.entries ≡ true) e.4 e.5)) in
    by_name (codes "PStoPSenablepage") (if_within l) start (run_of (if_within l) (push (Truth false) start)) (end o.dictionary) (Some (Truth false)) (through ds (puts s) s.work.entries (codes "PStoPSenablepage") refl ∙ e.0) refl
    (some 3 (run_of (if_within l) (push (Truth false) start)) (run_of (outer_tokens ++ noting l) start) (end o.dictionary) refl (runs o.dictionary (sym e.4)))

page_clips : (outers : List Outer) (s : State) (n : Numbers) (l : List Token) (h : Bears outers s)
    → Runs false (run_of (clip_tokens ++ l) (within s s.work.operands (h.guard.number ∷ s.work.dictionaries) (put_entries s) s.work.made (record { chain = (place_in s.graphics n).chain; path = edge n (place_in s.graphics n).chain; clip = s.graphics.clip; settings = s.graphics.settings })))
    (run_of l (begun outers s n))
page_clips outers s n l h =
    let ds : List ℕ = s.work.dictionaries in
    let os : List Object = s.work.operands in
    let made : ℕ = s.work.made in
    let chain : List Call = (place_in s.graphics n).chain in
    let path : List Segment = edge n chain in
    let end : State = run_of l (begun outers s n) in
    let bare : Graphics = record { chain = chain; path = path; clip = s.graphics.clip; settings = s.graphics.settings } in
    let g : Graphics = on_paper s n path in
    let es : List DictionaryEntry = round_entries outers s in
    let l1 : List Token = Bound (codes "clip") ∷ Name (codes "PStoPSenablepage") ∷ if_within l in
    let before_end : State = within s os (h.guard.number ∷ ds) (put_entries s) made bare in
    let s1 : State = within s os ds (put_entries s) made bare in
    let s2 : State = within s os ds (put_entries s) made g in
    let round : State = within s os ds es (outer_made outers s.work.made) g in
    let below : Known names_looked_up (record s.work { entries = es }) =
    known_through names_looked_up ds (outer_entries outers) (put_entries s) (differ (outer_entries outers) names_looked_up (outer_apart outers))
    (known_through names_looked_up ds (puts s) s.work.entries (differ (puts s) names_looked_up refl) (known_below names_looked_up 0 ds s.work.entries h.guard.names)) in
    let here : Known names_looked_up (record s.work { dictionaries = 0 ∷ ds; entries = es }) =
    known_through names_looked_up (0 ∷ ds) (outer_entries outers) (put_entries s) (differ (outer_entries outers) names_looked_up (outer_apart outers))
    (known_through names_looked_up (0 ∷ ds) (puts s) s.work.entries (differ (puts s) names_looked_up refl) (known names_looked_up (0 ∷ ds) s.work.entries h.guard.names)) in
    runs_one false (run_of (clip_tokens ++ l) before_end) (run_of l1 s1) end (ap (λ x. worked x (run_of l1 before_end)) (ended_at h.guard.number ds s.work.entries (codes "showpage") h.found before_end.work h.found_is))
    (some 1 (run_of l1 s1) (run_of (Name (codes "PStoPSenablepage") ∷ if_within l) s2) end refl
    (runs_join false (run_of (Name (codes "PStoPSenablepage") ∷ if_within l) s2) (run_of (noting l) round) end
    (clips_round outers s n l g h)
    (page_noted s n l es (outer_made outers s.work.made) below here (outer_path outers (put_entries s) ∙ h.guard.path_is) h.found h.found_is (same_place n s.graphics.chain h.numbers))))

-- From the sheet's text to the page's own tokens.

-- after the sheet's save
abbrev pub saved_state : State → (number : ℕ) → State
saved_state s number = within s (Saved s.level ∷ for_save s) (number ∷ s.work.dictionaries) s.work.entries s.work.made s.graphics

abbrev putting : List Token → List Token
putting l = Name (codes "put") ∷ Name (codes "userdict") ∷ Literal (codes "showpage") ∷ Opens ∷ Closes ∷ Name (codes "put") ∷ l

after_save : (outers : List Outer) (s : State) (l : List Token) (h : Bears outers s)
    → Runs false (run_of (putting l) (saved_state s h.guard.number)) (run_of l (within s s.work.operands (h.guard.number ∷ s.work.dictionaries) (put_entries s) s.work.made s.graphics))
after_save outers s l h =
    let ds : List ℕ = h.guard.number ∷ s.work.dictionaries in
    let es : List DictionaryEntry = s.work.entries in
    let os : List Object = s.work.operands in
    let first_names = known looked_up_first ds es h.guard.clip_alone in
    let end : State = run_of l (within s os ds (put_entries s) s.work.made s.graphics) in
    let one : List DictionaryEntry = entry (codes "ImposeSave") (Saved s.level) ∷ [] in
    let l2 : List Token = Name (codes "userdict") ∷ Literal (codes "showpage") ∷ Opens ∷ Closes ∷ Name (codes "put") ∷ l in
    let l3 : List Token = Literal (codes "showpage") ∷ Opens ∷ Closes ∷ Name (codes "put") ∷ l in
    let s2 : State = saved_state s h.guard.number in
    let s3 : State = within s os ds (one ++ es) s.work.made s.graphics in
    let s4 : State = within s (Procedure [] ∷ Plain (Literal (codes "showpage")) ∷ Dictionary 0 ∷ os) ds (one ++ es) s.work.made s.graphics in
    by_name (codes "put") l2 s2 (run_of l2 s3) end (system (codes "put")) (first_names (codes "put") refl) refl
    (by_name (codes "userdict") l3 s3 (run_of l3 (push (Dictionary 0) s3)) end (system (codes "userdict")) (still ds one es (codes "userdict") refl (first_names (codes "userdict") refl)) refl
    (some 2 (run_of l3 (push (Dictionary 0) s3)) (run_of (Name (codes "put") ∷ l) s4) end refl
    (by_name (codes "put") l s4 end end (system (codes "put")) (still ds one es (codes "put") refl (first_names (codes "put") refl)) refl (runs_none false end))))

-- from the sheet's text to its save
up_to_save : (s u : State) (l : List Token) → meaning s.work.dictionaries s.work.entries (codes "userdict") ≡ system (codes "userdict") → means s (codes "save") ≡ Some (Procedure save_tokens)
    → Runs false (run_of (save_tokens ++ putting l) (before s (for_save s))) u → Runs false (run_of (saving_tokens ++ l) s) u
up_to_save s u l user save r =
    let l1 : List Token = Literal (codes "ImposeSave") ∷ Name (codes "save") ∷ putting l in
    let s1 : State = before s (for_save s) in
    by_name (codes "userdict") l1 s (run_of l1 (push (Dictionary 0) s)) u (system (codes "userdict")) user refl
    (some 1 (run_of l1 (push (Dictionary 0) s)) (run_of (Name (codes "save") ∷ putting l) s1) u refl
    (by_name (codes "save") (putting l) s1 (run_of (save_tokens ++ putting l) s1) u (Some (Procedure save_tokens)) save refl r))

saving : (outers : List Outer) (s : State) (l : List Token) (h : TakesPages outers s)
    → Runs false (run_of (saving_tokens ++ l) s) (run_of l (within s s.work.operands (h.guard.number ∷ s.work.dictionaries) (put_entries s) s.work.made s.graphics))
unfolding bears
saving outers s l h =
    let end : State = run_of l (within s s.work.operands (h.guard.number ∷ s.work.dictionaries) (put_entries s) s.work.made s.graphics) in
    up_to_save s end l (known_below names_looked_up 0 s.work.dictionaries s.work.entries h.guard.names (codes "userdict") refl) h.guard.save_is
    (runs_join false (run_of (save_tokens ++ putting l) (before s (for_save s))) (run_of (putting l) (saved_state s h.guard.number)) end (page_saves outers s (putting l) h)
    (after_save outers s l (bears outers s h)))

-- the matrix and the paper's edge, up to the clip
abbrev up_to_clip : Numbers → List Token
up_to_clip n =
    Name (codes "[") ∷ Number n.a ∷ Number n.b ∷ Number n.c ∷ Number n.d ∷ Number n.x ∷ Number n.y ∷ Name (codes "]")
    ∷ Name (codes "concat") ∷ edge_tokens n

abbrev behind_clip : Option BorderNumbers → List Token
behind_clip border = Name (codes "newpath") ∷ border_tokens border

-- with the border painted
abbrev pub bordered : List Outer → State → Numbers → Option BorderNumbers → State
bordered outers s n border = record (begun outers s n) { painted = border_in s.graphics n border ++ s.painted }

border_is : (outers : List Outer) (n : Numbers) (s : State) (border : Option BorderNumbers) → straight names_looked_up (behind_clip border) (begun outers s n) ≡ Some (run_of s.left (bordered outers s n border))
border_is outers n s None = refl
border_is outers n s (Some b) = refl

all_put_apart : (outers : List Outer) (made : ℕ) (n : Numbers) → all_apart (all_put made n ++ outer_entries outers) names_looked_up ≡ true
all_put_apart [] made n = refl
all_put_apart (o ∷ os) made n = refl

-- after the sheet's save, in any such state
behind_save : (outers : List Outer) (s : State) (n : Numbers) (more : List Token) (h : Bears outers s)
    → Runs false (run_of (placing_tokens n ++ more) (within s s.work.operands (h.guard.number ∷ s.work.dictionaries) (put_entries s) s.work.made s.graphics)) (run_of more (bordered outers s n n.border))
behind_save outers s n more h =
    let ds : List ℕ = s.work.dictionaries in
    let os : List Object = s.work.operands in
    let made : ℕ = s.work.made in
    let chain : List Call = (place_in s.graphics n).chain in
    let end : State = run_of more (bordered outers s n n.border) in
    let clip : List Token = Name (codes "clip") ∷ (behind_clip n.border ++ more) in
    let s1 : State = within s os (h.guard.number ∷ ds) (put_entries s) made s.graphics in
    let s2 : State = within s os (h.guard.number ∷ ds) (put_entries s) made (record { chain = chain; path = edge n chain; clip = s.graphics.clip; settings = s.graphics.settings }) in
    let first_known : Known looked_up_first s1.work =
    known_through looked_up_first (h.guard.number ∷ ds) (puts s) s.work.entries (differ (puts s) looked_up_first refl) (known looked_up_first (h.guard.number ∷ ds) s.work.entries h.guard.clip_alone) in
    let here : Known names_looked_up (record s.work { entries = put_entries s }) =
    known_through names_looked_up ds (puts s) s.work.entries (differ (puts s) names_looked_up refl) (known_below names_looked_up 0 ds s.work.entries h.guard.names) in
    let names : Known names_looked_up (begun outers s n).work =
    known_through names_looked_up ds (all_put (outer_made outers s.work.made) n ++ outer_entries outers) (put_entries s) (differ (all_put (outer_made outers s.work.made) n ++ outer_entries outers) names_looked_up (all_put_apart outers (outer_made outers s.work.made) n)) here in
    runs_join false (run_of (up_to_clip n ++ clip) s1) (run_of clip s2) end (straight_runs looked_up_first (up_to_clip n) clip s1 s2 first_known refl)
    (by_name (codes "clip") (behind_clip n.border ++ more) s2 (run_of (clip_tokens ++ (behind_clip n.border ++ more)) s2) end (Some (Procedure clip_tokens)) (ap (λ x. or x (meaning ds (put_entries s) (codes "clip"))) h.guard.clip_is) refl
    (runs_join false (run_of (clip_tokens ++ (behind_clip n.border ++ more)) s2) (run_of (behind_clip n.border ++ more) (begun outers s n)) end (page_clips outers s n (behind_clip n.border ++ more) h)
    (straight_runs names_looked_up (behind_clip n.border) more (begun outers s n) (bordered outers s n n.border) names (border_is outers n s n.border))))

pub page_begins : PageBegins
unfolding bears
page_begins outers s n body l h =
    let more : List Token = body ++ l in
    let end : State = run_of more (bordered outers s n n.border) in
    runs_join false (run_of (saving_tokens ++ (placing_tokens n ++ more)) s) (run_of (placing_tokens n ++ more) (within s s.work.operands (h.guard.number ∷ s.work.dictionaries) (put_entries s) s.work.made s.graphics)) end
    (saving outers s (placing_tokens n ++ more) h)
    (behind_save outers s n more (bears outers s h))

-- where a dictionary has a showpage of its own: after the sheet's save that asks userdict
pub begins_within : (outers : List Outer) (s t : State) (n : Numbers) (body l : List Token) (h : Bears outers t) → meaning s.work.dictionaries s.work.entries (codes "userdict") ≡ system (codes "userdict")
    → means s (codes "save") ≡ Some (Procedure save_tokens)
    → ((rest : List Token) → Runs false (run_of (save_tokens ++ rest) (before s (for_save s))) (run_of rest (saved_state t h.guard.number)))
    → Runs false (run_of (saving_tokens ++ (placing_tokens n ++ (body ++ l))) s) (placed_at (around l n t) (sheltered outers t (outline_tokens n) body))
begins_within outers s t n body l h user save saves =
    let more : List Token = body ++ l in
    let middle : State = within t t.work.operands (h.guard.number ∷ t.work.dictionaries) (put_entries t) t.work.made t.graphics in
    let end : State = run_of more (bordered outers t n n.border) in
    runs_join false (run_of (saving_tokens ++ (placing_tokens n ++ more)) s) (run_of (placing_tokens n ++ more) middle) end
    (up_to_save s (run_of (placing_tokens n ++ more) middle) (placing_tokens n ++ more) user save
    (runs_join false (run_of (save_tokens ++ putting (placing_tokens n ++ more)) (before s (for_save s))) (run_of (putting (placing_tokens n ++ more)) (saved_state t h.guard.number)) (run_of (placing_tokens n ++ more) middle)
    (saves (putting (placing_tokens n ++ more)))
    (after_save outers t (placing_tokens n ++ more) h)))
    (behind_save outers t n more h)
