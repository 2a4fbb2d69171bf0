-- Documents that make userdict's showpage do nothing.
use Rattle.std.specs.Prelude.{Option, Some, Ok, codes, decimal, if◌then◌else◌}
use Rattle.std.specs.Fmt.{digits}
use Rattle.std.proofs.lemmas.Bool.{eqb-true}
use Rattle.std.proofs.Common.{◌≡◌, ℕ, zero, suc, ◌≤◌, refl, ap, ◌∙◌, sym, subst, true, false, ◌==◌, List, [], ◌∷◌, ◌++◌, length, arith}
use Rattle.rules.specs.Papers.{Paper}
use Rattle.rules.specs.Parts.{NestedUnit, preamble, bytes_of}
use Rattle.rules.specs.Run.{document_of, most_input_bytes}
use Rattle.rules.specs.Output.{Border}
use Rattle.rules.specs.Made.{MadeSheet}
use Rattle.rules.specs.Dress.{Dress, undressed}
use Rattle.rules.specs.MadeOutput.{made_output}
use Rattle.dsc.specs.Units.{units_of}
use Rattle.guard.specs.Guard.{guarded}
use Rattle.guard.proofs.TheGuard.{guard_stays}
use Rattle.pictures.specs.Objects.{Token, Number, Name, Literal, Bound, Opens, Closes, Object, Plain, Truth, Procedure, Dictionary, Equal}
use Rattle.pictures.specs.Dictionaries.{DictionaryEntry, system, dictionary_entry, has}
use Rattle.pictures.specs.Operators.{holder, with_operands, judged}
use Rattle.pictures.specs.Calculations.{compared}
use Rattle.pictures.specs.Machine.{State, Painting, Runs, push, worked}
use Rattle.pictures.specs.Scanner.{tokens}
use Rattle.pictures.specs.Kept.{comments_apart_with}
use Rattle.pictures.specs.Pictures.{printed_sheets, past_all, sheets_tokens}
use Rattle.pictures.specs.Sheets.{run_of, in_userdict, Numbers, Shown, closing_tokens, placed_tokens, LeavesAsItWas, page_picture}
use Rattle.pictures.specs.Documents.{started, PreambleRuns, FirstHas, OnSheetsFrom, all_sheets}
use Rattle.pictures.specs.Imposed.{IsQuiet}
use Rattle.pictures.proofs.Output.{undressed_is_quiet}
use Rattle.pictures.proofs.Runs.{AreRuns, free_are_runs, runs_one, runs_join, runs_none}
use Rattle.pictures.proofs.Sheets.{Places, Prints, fresh, all_sheets_run}
use Rattle.pictures.proofs.Tests.{by_test}
use Rattle.pictures.proofs.Opening.{apart}
use Rattle.pictures.specs.AfterGuard.{save_tokens, showpage_tokens}
use Rattle.pictures.specs.Shelter.{means, outline_tokens, sheltered, PaintsSheltered}
use Rattle.pictures.specs.Pages.{names_looked_up, looked_up_first, around, placed_at, PaintsFrom, state_after_sheets}
use Rattle.pictures.specs.Silenced.{IsSilenced, with_showpage, after_pages, ShowpageIsPutBack, SilencedPageIsPlaced, SilencedSheetsArePrinted, SilencedDocumentIsShown}
use Rattle.pictures.proofs.Absent.{known, known_below}
use Rattle.pictures.proofs.Steps.{some, by_name}
use Rattle.pictures.proofs.Begins.{Bears, before, for_save, saved_state, looking, filling, measuring, looked, finding, up_to_test, marks_page, begins_within}
use Rattle.pictures.proofs.GuardedPlaced.{middle_tokens, placed_from, on_paper, takes_pages}
use Rattle.pictures.proofs.PutThere.{means_other, first_means}
use Rattle.pictures.proofs.OwnShowpage.{all_sheets_place}
use Rattle.pictures.proofs.GuardedSheets.{still_guarded, still_paints, page_places, guarded_prints}
use Rattle.pictures.proofs.Sheltering.{shelter_commutes}
use Rattle.pictures.proofs.Documents.{states_are_shown, by_specification_shown}

-- The test for an empty showpage, where it is empty.

none_is_none : compared Equal (decimal 0) (codes "0") ≡ Some true
unfolding digits
none_is_none = refl

puts_back : (s : State) (l : List Token) → means s (codes "PStoPSenablepage") ≡ Some (Truth true) → means s (codes "showpage") ≡ Some (Procedure [])
    → means s (codes "ImposeShow") ≡ system (codes "showpage") → means s (codes "userdict") ≡ system (codes "userdict")
    → Runs false (run_of (Name (codes "PStoPSenablepage") ∷ looking l) s) (run_of l (with_showpage s))
puts_back s l flag is show user =
    let end : State = run_of l (with_showpage s) in
    let one : State = push (Procedure []) s in
    let measured : State = push (Plain (Number (codes "0"))) (push (Plain (Number (decimal 0))) s) in
    let l1 : List Token = Bound (codes "eq") ∷ filling l in
    let l3 : List Token = Literal (codes "showpage") ∷ Opens ∷ (showpage_tokens ++ (Closes ∷ Bound (codes "put") ∷ l)) in
    looked s end [] l flag is show
    (some 2 (run_of (measuring l) one) (run_of l1 measured) end refl
    (runs_one false (run_of l1 measured) (run_of (filling l) (push (Truth true) s)) end (ap (λ x. worked (judged x (with_operands s.work s.work.operands)) (run_of (filling l) measured)) none_is_none)
    (some 2 (run_of (filling l) (push (Truth true) s)) (run_of (Name (codes "userdict") ∷ l3) s) end refl
    (by_name (codes "userdict") l3 s (run_of l3 (push (Dictionary 0) s)) end (system (codes "userdict")) user refl
    (some 3 (run_of l3 (push (Dictionary 0) s)) end end refl (runs_none false end))))))

-- The dictionaries.

-- the entry that is put there
abbrev shows : DictionaryEntry
shows = in_userdict (codes "showpage") (Procedure showpage_tokens)

-- userdict is the first one with a showpage, as it is with the guard's
still_first : (ds : List ℕ) (es : List DictionaryEntry) → holder ds (shows ∷ es) (codes "showpage") ≡ Some 0 → has (dictionary_entry 0 (codes "showpage") es) ≡ true
    → holder ds es (codes "showpage") ≡ Some 0
still_first [] es e h = e
still_first (c ∷ ds) es e h =
    let here : Option Object = dictionary_entry c (codes "showpage") es in
    let below : Option ℕ = holder ds es (codes "showpage") in
    let with_it : Option ℕ = holder ds (shows ∷ es) (codes "showpage") in
    by_test (0 == c)
    (λ same. subst (λ n. (if has (dictionary_entry n (codes "showpage") es) then Some n else below) ≡ Some 0) (eqb-true 0 c same) (ap (λ b. if b then Some 0 else below) h))
    (λ differ. let e2 : (if has here then Some c else with_it) ≡ Some 0 =
    sym (ap (λ b. if has (if b then Some (Procedure showpage_tokens) else here) then Some c else with_it) differ) ∙ e in
    by_test (has here)
    (λ t. ap (λ b. if b then Some c else below) t ∙ (sym (ap (λ b. if b then Some c else with_it) t) ∙ e2))
    (λ f. ap (λ b. if b then Some c else below) f ∙ still_first ds es (sym (ap (λ b. if b then Some c else with_it) f) ∙ e2) h))

-- so a name but showpage means what it does with the guard's
as_with : (s : State) (name : List ℕ) (o : Option Object) → apart (codes "showpage") (name ∷ []) ≡ true → means (with_showpage s) name ≡ o → means s name ≡ o
as_with s name o other e = sym (means_other s.work.dictionaries name shows s.work.entries other) ∙ e

user_is : (s : State) → IsSilenced s → means s (codes "userdict") ≡ system (codes "userdict")
user_is s h =
    as_with s (codes "userdict") (system (codes "userdict")) refl (known_below names_looked_up 0 s.work.dictionaries (shows ∷ s.work.entries) h.guarded.guard.names (codes "userdict") refl)

first_is : (s : State) → IsSilenced s → holder s.work.dictionaries s.work.entries (codes "showpage") ≡ Some 0
first_is s h = still_first s.work.dictionaries s.work.entries h.guarded.userdict_first (ap has h.empty)

pub showpage_is_put_back : ShowpageIsPutBack
showpage_is_put_back s rest h =
    let ds : List ℕ = s.work.dictionaries in
    let es : List DictionaryEntry = s.work.entries in
    let t : State = with_showpage s in
    let g = h.guarded in
    let os : List Object = for_save s in
    let there : State = before s os in
    let end : State = run_of rest (saved_state t g.guard.number) in
    up_to_test s end rest (user_is s h) (first_is s h) g.guard.few_operands
    (runs_join false (run_of (Name (codes "PStoPSenablepage") ∷ looking (finding rest)) there) (run_of (finding rest) (before t os)) end
    (puts_back there (finding rest)
    (as_with s (codes "PStoPSenablepage") (Some (Truth true)) refl g.flag_is)
    (first_means ds es (codes "showpage") 0 (first_is s h) ∙ h.empty)
    (as_with s (codes "ImposeShow") (system (codes "showpage")) refl g.show_is)
    (user_is s h))
    (marks_page t os g.guard.number rest g.guard.guard_is (known looked_up_first (g.guard.number ∷ ds) (shows ∷ es) g.guard.clip_alone (codes "systemdict") refl)))

-- A page.

-- in any machine in which what the page does by itself is done in its place
pub silenced_page_runs : (R : State → State → Type 0) → AreRuns R → (s end : State) (x : Shown) (rest : List Token) → IsSilenced s
    → R (placed_at (around (closing_tokens ++ rest) x.placed.numbers (with_showpage s)) (sheltered [] (with_showpage s) (outline_tokens x.placed.numbers) x.placed.body))
    (placed_at (around (closing_tokens ++ rest) x.placed.numbers (with_showpage s)) end)
    → LeavesAsItWas (with_showpage s) end → end.painted ≡ x.picture
    → R (run_of (placed_tokens x.placed ++ rest) s) (record (with_showpage s) { left = rest; painted = page_picture s.graphics x ++ s.painted })
silenced_page_runs R m s end x rest h runs leaves paints =
    let t : State = with_showpage s in
    let n : Numbers = x.placed.numbers in
    let more : List Token = closing_tokens ++ rest in
    let g = takes_pages t h.guarded in
    let bears : Bears [] t = record { guard = h.guarded.guard; found = 0; found_is = h.guarded.userdict_first; encloses = h.guarded.flag_is; numbers = g.numbers } in
    placed_from R m [] s t end x rest h.guarded.guard
    (m.free (run_of (middle_tokens n x.placed.body rest) s) (placed_at (around more n t) (sheltered [] t (outline_tokens n) x.placed.body))
    (begins_within [] s t n x.placed.body more bears (user_is s h) (as_with s (codes "save") (Some (Procedure save_tokens)) refl h.guarded.guard.save_is)
    (λ l. showpage_is_put_back s l h)))
    runs leaves paints

pub silenced_page_is_placed : SilencedPageIsPlaced
silenced_page_is_placed s x rest h p =
    let t : State = with_showpage s in
    let n : Numbers = x.placed.numbers in
    let more : List Token = closing_tokens ++ rest in
    silenced_page_runs (Runs false) free_are_runs s p.end x rest h
    (shelter_commutes n [] (around more n t) (sheltered [] t (outline_tokens n) x.placed.body) p.end (on_paper [] t n more (takes_pages t h.guarded)) p.run) p.leaves p.picture_is

-- Sheets: the first page puts the showpage there again, and those after it find it.

pub silenced_anyway : (s : State) (ps : List Painting) (sheets : List (List Painting)) → IsSilenced s → IsSilenced (record s { painted = ps; sheets = sheets })
silenced_anyway s ps sheets h = record { empty = h.empty; guarded = still_guarded (with_showpage s) ps sheets h.guarded }

silenced_places : (s : State) → IsSilenced s → (k : ℕ) (x : Shown) → PaintsSheltered [] (after_pages s (suc k)) (outline_tokens x.placed.numbers) x.placed.body x.picture → Places (Runs false) (after_pages s) s.graphics k x
silenced_places s h zero x p =
    λ ps sheets rest. silenced_page_is_placed (record s { painted = ps; sheets = sheets }) x rest (silenced_anyway s ps sheets h)
    (still_paints [] (with_showpage s) ps sheets (outline_tokens x.placed.numbers) x.placed.body x.picture p)
silenced_places s h (suc k) x p = page_places [] (with_showpage s) x (takes_pages (with_showpage s) h.guarded) p

pub silenced_prints : (R : State → State → Type 0) → AreRuns R → (s : State) → IsSilenced s → (k : ℕ) → 1 ≤ k → Prints R (after_pages s k)
silenced_prints R m s h zero le = absurd (omega (arith, le))
silenced_prints R m s h (suc k) le = guarded_prints R m (with_showpage s) h.guarded

pub silenced_sheets_are_printed : SilencedSheetsArePrinted
silenced_sheets_are_printed s xs rest h e b k =
    subst (λ ps. Runs false (record s { left = sheets_tokens xs ++ rest; painted = ps }) (fresh (after_pages s (past_all 0 xs)) rest [] (printed_sheets s.graphics xs s.sheets))) (sym e)
    (all_sheets_run (Runs false) free_are_runs (after_pages s) s.graphics 1 (silenced_prints (Runs false) free_are_runs s h) xs 0 rest s.sheets b (all_sheets_place (after_pages s) s.graphics (silenced_places s h) xs 0 k))

-- Documents.

pub silenced_is_shown : (sheet : Option Paper) (border : Option Border) (dress : Dress) (all : List MadeSheet) (text : List ℕ) (us : List NestedUnit) (picture : ℕ → List Painting) (s : State)
    → IsQuiet dress → document_of text ≡ Ok us → length (guarded sheet text) ≤ most_input_bytes → comments_apart_with dress.header (units_of (guarded sheet text)) ≡ true
    → PreambleRuns IsSilenced (bytes_of (preamble (units_of (guarded sheet text)))) s → FirstHas 1 all → OnSheetsFrom (PaintsFrom border us picture (after_pages s)) 0 all
    → Runs false (started (tokens (made_output border dress all (units_of (guarded sheet text))))) (state_after_sheets (after_pages s) border (units_of (guarded sheet text)) picture all)
silenced_is_shown sheet border dress all text us picture s quiet doc few comments (complete, run, left, painted, none_printed, silenced) has h =
    states_are_shown (after_pages s) 1 sheet border dress all text us picture (silenced_places s silenced) (silenced_prints (Runs false) free_are_runs s silenced) quiet doc few comments complete run left painted has h

pub silenced_document_is_shown : SilencedDocumentIsShown
silenced_document_is_shown sheet frame sides spec text us picture s doc few comments run has h =
    by_specification_shown (after_pages s) frame sides spec us (units_of (guarded sheet text)) picture (guard_stays sheet text us doc few).1.same_pages
    (silenced_is_shown sheet frame.border undressed (all_sheets frame sides spec us) text us picture s undressed_is_quiet doc few comments run has h)
