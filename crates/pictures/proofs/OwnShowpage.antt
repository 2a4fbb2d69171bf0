-- Documents with a showpage of their own.
use Rattle.std.specs.Prelude.{Option, Some, Ok, codes, if◌then◌else◌}
use Rattle.std.proofs.lemmas.Bool.{eqb-true}
use Rattle.std.proofs.Common.{◌≡◌, ℕ, zero, suc, ◌≤◌, refl, ap, ◌∙◌, sym, subst, Bool, true, false, eq-eqb, ◌&&◌, ◌==◌, List, [], ◌∷◌, ◌++◌, length, arith}
use Rattle.rules.specs.Parts.{NestedUnit, preamble, bytes_of}
use Rattle.rules.specs.Run.{document_of, most_input_bytes}
use Rattle.rules.specs.Made.{MadeSheet}
use Rattle.rules.specs.Dress.{Dress, undressed}
use Rattle.rules.specs.MadeOutput.{made_output}
use Rattle.dsc.specs.Units.{units_of}
use Rattle.guard.specs.Guard.{guarded}
use Rattle.guard.proofs.TheGuard.{guard_stays}
use Rattle.rules.specs.Papers.{Paper}
use Rattle.rules.specs.Output.{Border}
use Rattle.pictures.specs.Objects.{Token, Name, Object}
use Rattle.pictures.specs.Dictionaries.{DictionaryEntry, meaning, dictionary_entry, has, read_only}
use Rattle.pictures.specs.Operators.{holder}
use Rattle.pictures.specs.Chains.{is_same_chain}
use Rattle.pictures.specs.Machine.{State, Graphics, Painting, Runs}
use Rattle.pictures.specs.Scanner.{tokens}
use Rattle.pictures.specs.Kept.{comments_apart_with}
use Rattle.pictures.specs.Pictures.{printed_sheets, past, past_all, sheets_tokens}
use Rattle.pictures.specs.Sheets.{run_of, Numbers, Shown, closing_tokens, placed_tokens, LeavesAsItWas, page_picture, place_in}
use Rattle.pictures.specs.Documents.{started, PreambleRuns, FirstHas, OnSheetsFrom, all_sheets}
use Rattle.pictures.specs.Imposed.{IsQuiet}
use Rattle.pictures.proofs.Output.{undressed_is_quiet}
use Rattle.pictures.proofs.Runs.{AreRuns, free_are_runs, runs_join}
use Rattle.pictures.proofs.Sheets.{Places, AllPlace, AllSheetsPlace, Prints, fresh, all_sheets_run}
use Rattle.pictures.proofs.Tests.{by_test, first, second}
use Rattle.pictures.proofs.Placed.{both_true}
use Rattle.pictures.specs.AfterGuard.{showpage_tokens}
use Rattle.pictures.specs.Shelter.{means, all_absent, outline_tokens, sheltered, PaintsSheltered}
use Rattle.pictures.specs.Lines.{clip_to, asks_userdict, with_asking}
use Rattle.pictures.specs.Pages.{names_looked_up, around, placed_at, IsOnPaper, AllShelteredFrom, AllSheetsShelteredFrom, PaintsFrom, state_after_sheets}
use Rattle.pictures.specs.OwnShowpage.{HasItsOwn, OwnPageIsPlaced, asking, OwnSheetsArePrinted, OwnShowpageIsShown}
use Rattle.pictures.proofs.Absent.{known_below}
use Rattle.pictures.proofs.Asking.{asks_userdict_there, asking_shows}
use Rattle.pictures.proofs.Begins.{Bears, begins_within, same_place}
use Rattle.pictures.proofs.Ground.{guard_names, guard_stays_there}
use Rattle.pictures.proofs.Lines.{prints}
use Rattle.pictures.proofs.GuardedPlaced.{middle_tokens, placed_from}
use Rattle.pictures.proofs.PutThere.{means_other, has_other, differ_all, first_means}
use Rattle.pictures.proofs.GuardedSheets.{still_paints}
use Rattle.pictures.proofs.Sheltering.{shelter_commutes}
use Rattle.pictures.proofs.Documents.{states_are_shown, by_specification_shown}

-- If pages leave something, sheets are printed all the same.

all_place : (at : ℕ → State) (g : Graphics) → ((k : ℕ) (x : Shown) → PaintsSheltered [] (at (suc k)) (outline_tokens x.placed.numbers) x.placed.body x.picture → Places (Runs false) at g k x)
    → (xs : List Shown) (k : ℕ) → AllShelteredFrom at k xs → AllPlace (Runs false) at g k xs
all_place at g f [] k h = tt
all_place at g f (x ∷ xs) k h = (f k x h.0, all_place at g f xs (suc k) h.1)

pub all_sheets_place : (at : ℕ → State) (g : Graphics) → ((k : ℕ) (x : Shown) → PaintsSheltered [] (at (suc k)) (outline_tokens x.placed.numbers) x.placed.body x.picture → Places (Runs false) at g k x)
    → (all : List (List Shown)) (k : ℕ) → AllSheetsShelteredFrom at k all → AllSheetsPlace (Runs false) at g k all
all_sheets_place at g f [] k h = tt
all_sheets_place at g f (xs ∷ all) k h = (all_place at g f xs k h.0, all_sheets_place at g f all (past k xs) h.1)

-- The dictionary's showpage.

-- the entry that is put there
abbrev asking_entry : ℕ → DictionaryEntry
asking_entry d = record { dictionary = d; key = codes "showpage"; value = asks_userdict }

has_either : (b : Bool) (o : Object) (x : Option Object) → has x ≡ true → has (if b then Some o else x) ≡ true
has_either true o x e = refl
has_either false o x e = e

-- it is still the first one
still_first : (ds : List ℕ) (es : List DictionaryEntry) (d : ℕ) → holder ds es (codes "showpage") ≡ Some d → holder ds (asking_entry d ∷ es) (codes "showpage") ≡ Some d
still_first [] es d e = e
still_first (c ∷ ds) es d e =
    let here : Option Object = dictionary_entry c (codes "showpage") es in
    let below : Option ℕ = holder ds (asking_entry d ∷ es) (codes "showpage") in
    by_test (has here)
    (λ t. ap (λ b. if b then Some c else below) (has_either (d == c) asks_userdict here t) ∙ (sym (ap (λ b. if b then Some c else holder ds es (codes "showpage")) t) ∙ e))
    (λ f. let later : holder ds es (codes "showpage") ≡ Some d = sym (ap (λ b. if b then Some c else holder ds es (codes "showpage")) f) ∙ e in
    by_test (d == c)
    (λ same. ap (λ b. if has (if b then Some asks_userdict else here) then Some c else below) same ∙ ap (λ n. Some n) (sym (eqb-true d c same)))
    (λ differ. ap (λ b. if has (if b then Some asks_userdict else here) then Some c else below) differ
    ∙ ap (λ b. if b then Some c else below) f ∙ still_first ds es d later))

-- and asks userdict
asks_now : (ds : List ℕ) (es : List DictionaryEntry) (d : ℕ) → holder ds es (codes "showpage") ≡ Some d → meaning ds (asking_entry d ∷ es) (codes "showpage") ≡ Some asks_userdict
asks_now ds es d e =
    first_means ds (asking_entry d ∷ es) (codes "showpage") d (still_first ds es d e)
    ∙ ap (λ b. if b then Some asks_userdict else dictionary_entry d (codes "showpage") es) (eq-eqb d d refl)

-- The state stays one of this kind.

still_own : (d : ℕ) (s : State) → HasItsOwn d s → HasItsOwn d (with_asking d s)
still_own d s h =
    let ds : List ℕ = s.work.dictionaries in
    let es : List DictionaryEntry = s.work.entries in
    let e : DictionaryEntry = asking_entry d in
    record {
      guard = guard_stays_there s.work s.level e (differ_all e guard_names refl) h.guard;
      own_first = still_first ds es d h.own_first;
      other = h.other;
      writable = has_other d read_only e es refl ∙ h.writable;
      showpage_is = ap (λ b. if b then Some asks_userdict else dictionary_entry 0 (codes "showpage") es) h.other ∙ h.showpage_is;
      flag_is = means_other ds (codes "PStoPSenablepage") e es refl ∙ h.flag_is;
      show_is = means_other ds (codes "ImposeShow") e es refl ∙ h.show_is;
      graphics = h.graphics;
    }

pub own_anyway : (d : ℕ) (s : State) (ps : List Painting) (sheets : List (List Painting)) → HasItsOwn d s → HasItsOwn d (record s { painted = ps; sheets = sheets })
own_anyway d s ps sheets h = record {
  guard = h.guard;
  own_first = h.own_first;
  other = h.other;
  writable = h.writable;
  showpage_is = h.showpage_is;
  flag_is = h.flag_is;
  show_is = h.show_is;
  graphics = h.graphics;
}

-- A page.

same_chain : (d : ℕ) (s : State) → HasItsOwn d s → is_same_chain s.graphics.chain s.graphics.chain ≡ true
same_chain d s h = subst (λ l. is_same_chain l l ≡ true) (ap (λ z. z.chain) h.graphics) refl

pub own_on_paper : (d : ℕ) (s : State) (n : Numbers) (l : List Token) → HasItsOwn d s → IsOnPaper n [] (around l n (with_asking d s))
own_on_paper d s n l h = (
  ap (λ clips. clip_to n (place_in s.graphics n).chain ∷ clips) (sym (ap (λ z. z.clip) h.graphics)),
  same_place n s.graphics.chain (same_chain d s h),
  tt,
)

first_two : (a b c : Bool) → (a && (b && c)) ≡ true → (a && (b && true)) ≡ true
first_two a b c e = both_true a (b && true) (first a (b && c) e) (both_true b true (first b c (second a (b && c) e)) refl)

-- in any machine in which what the page does by itself is done in its place
pub own_page_runs : (R : State → State → Type 0) → AreRuns R → (d : ℕ) (s end : State) (x : Shown) (rest : List Token) → HasItsOwn d s
    → R (placed_at (around (closing_tokens ++ rest) x.placed.numbers (with_asking d s)) (sheltered [] (with_asking d s) (outline_tokens x.placed.numbers) x.placed.body))
    (placed_at (around (closing_tokens ++ rest) x.placed.numbers (with_asking d s)) end)
    → LeavesAsItWas (with_asking d s) end → end.painted ≡ x.picture
    → R (run_of (placed_tokens x.placed ++ rest) s) (record (with_asking d s) { left = rest; painted = page_picture s.graphics x ++ s.painted })
unfolding still_own guard_stays_there
own_page_runs R m d s end x rest h runs leaves paints =
    let t : State = with_asking d s in
    let n : Numbers = x.placed.numbers in
    let more : List Token = closing_tokens ++ rest in
    let here = still_own d s h in
    let alone : all_absent (codes "userdict" ∷ codes "systemdict" ∷ []) (h.guard.number ∷ s.work.dictionaries) s.work.entries ≡ true = first_two _ _ _ h.guard.clip_alone in
    let bears : Bears [] t = record { guard = here.guard; found = d; found_is = here.own_first; encloses = here.flag_is; numbers = same_chain d s h } in
    placed_from R m [] s t end x rest here.guard
    (m.free (run_of (middle_tokens n x.placed.body rest) s) (placed_at (around more n t) (sheltered [] t (outline_tokens n) x.placed.body))
    (begins_within [] s t n x.placed.body more bears (known_below names_looked_up 0 s.work.dictionaries s.work.entries h.guard.names (codes "userdict") refl) h.guard.save_is
    (λ l. asks_userdict_there s h.guard.number d l h.own_first h.other h.writable h.guard.guard_is alone h.guard.few_operands)))
    runs leaves paints

pub own_page_is_placed : OwnPageIsPlaced
own_page_is_placed d s x rest h p =
    let t : State = with_asking d s in
    let n : Numbers = x.placed.numbers in
    let more : List Token = closing_tokens ++ rest in
    own_page_runs (Runs false) free_are_runs d s p.end x rest h
    (shelter_commutes n [] (around more n t) (sheltered [] t (outline_tokens n) x.placed.body) p.end (own_on_paper d s n more h) p.run) p.leaves p.picture_is

-- Sheets.

pub own_after : (d : ℕ) (s : State) (k : ℕ) → HasItsOwn d s → HasItsOwn d (asking d s k)
own_after d s zero h = h
own_after d s (suc k) h = still_own d (asking d s k) (own_after d s k h)

pub same_graphics : (d : ℕ) (s : State) (k : ℕ) → (asking d s k).graphics ≡ s.graphics
same_graphics d s zero = refl
same_graphics d s (suc k) = same_graphics d s k

own_places : (d : ℕ) (s : State) → HasItsOwn d s → (k : ℕ) (x : Shown) → PaintsSheltered [] (asking d s (suc k)) (outline_tokens x.placed.numbers) x.placed.body x.picture
    → Places (Runs false) (asking d s) s.graphics k x
own_places d s h k x p =
    let t : State = asking d s k in
    subst (λ g. Places (Runs false) (asking d s) g k x) (same_graphics d s k)
    (λ ps sheets rest. own_page_is_placed d (record t { painted = ps; sheets = sheets }) x rest (own_anyway d t ps sheets (own_after d s k h))
    (still_paints [] (with_asking d t) ps sheets (outline_tokens x.placed.numbers) x.placed.body x.picture p))

-- the dictionary's showpage asks userdict after a page
asks_then : (d : ℕ) (s : State) (k : ℕ) → HasItsOwn d s → 1 ≤ k → means (asking d s k) (codes "showpage") ≡ Some asks_userdict
asks_then d s zero h le = absurd (omega (arith, le))
asks_then d s (suc k) h le = let t : State = asking d s k in asks_now t.work.dictionaries t.work.entries d (own_after d s k h).own_first

pub own_prints : (R : State → State → Type 0) → AreRuns R → (d : ℕ) (s : State) → HasItsOwn d s → (k : ℕ) → 1 ≤ k → Prints R (asking d s k)
own_prints R m d s h k le ps sheets rest =
    let u : State = asking d s k in
    let g = own_after d s k h in
    let full : State = record u { painted = ps; sheets = sheets } in
    let end : State = fresh u rest [] (ps ∷ sheets) in
    m.free (run_of (Name (codes "showpage") ∷ rest) full) end
    (runs_join false (run_of (Name (codes "showpage") ∷ rest) full) (run_of (showpage_tokens ++ rest) full) end
    (asking_shows full showpage_tokens rest (asks_then d s k h le) (known_below names_looked_up 0 u.work.dictionaries u.work.entries g.guard.names (codes "userdict") refl) g.showpage_is)
    (subst (λ z. Runs false (run_of (showpage_tokens ++ rest) full) (record end { graphics = z })) g.graphics (prints full rest g.flag_is g.show_is)))

pub own_sheets_are_printed : OwnSheetsArePrinted
own_sheets_are_printed d s xs rest h e b k =
    subst (λ ps. Runs false (record s { left = sheets_tokens xs ++ rest; painted = ps }) (fresh (asking d s (past_all 0 xs)) rest [] (printed_sheets s.graphics xs s.sheets))) (sym e)
    (all_sheets_run (Runs false) free_are_runs (asking d s) s.graphics 1 (own_prints (Runs false) free_are_runs d s h) xs 0 rest s.sheets b (all_sheets_place (asking d s) s.graphics (own_places d s h) xs 0 k))

-- Documents.

pub own_is_shown : (sheet : Option Paper) (border : Option Border) (dress : Dress) (all : List MadeSheet) (text : List ℕ) (us : List NestedUnit) (picture : ℕ → List Painting) (d : ℕ) (s : State)
    → IsQuiet dress → document_of text ≡ Ok us → length (guarded sheet text) ≤ most_input_bytes → comments_apart_with dress.header (units_of (guarded sheet text)) ≡ true
    → PreambleRuns (HasItsOwn d) (bytes_of (preamble (units_of (guarded sheet text)))) s → FirstHas 1 all → OnSheetsFrom (PaintsFrom border us picture (asking d s)) 0 all
    → Runs false (started (tokens (made_output border dress all (units_of (guarded sheet text))))) (state_after_sheets (asking d s) border (units_of (guarded sheet text)) picture all)
own_is_shown sheet border dress all text us picture d s quiet doc few apart (complete, run, left, painted, none_printed, own) has h =
    states_are_shown (asking d s) 1 sheet border dress all text us picture (own_places d s own) (own_prints (Runs false) free_are_runs d s own) quiet doc few apart complete run left painted has h

pub own_showpage_is_shown : OwnShowpageIsShown
own_showpage_is_shown sheet frame sides spec text us picture d s doc few apart run has h =
    by_specification_shown (asking d s) frame sides spec us (units_of (guarded sheet text)) picture (guard_stays sheet text us doc few).1.same_pages
    (own_is_shown sheet frame.border undressed (all_sheets frame sides spec us) text us picture d s undressed_is_quiet doc few apart run has h)
