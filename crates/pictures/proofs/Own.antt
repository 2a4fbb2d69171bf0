-- What a page prints by itself is what it paints by itself.
use Rattle.std.specs.Prelude.{nat_lt, Option, Some, None, if◌then◌else◌, codes, option_map, bytes_eq}
use Rattle.std.proofs.lemmas.Slice.Eq.{bytes_eq-Decides}
use Rattle.std.proofs.Common.{◌≡◌, ℕ, refl, ap, ap₂, ◌∙◌, sym, subst, Bool, true, false, not, ◌&&◌, ◌||◌, ◌==◌, List, [], ◌∷◌, true≢false, eqb-true, ◌+◌, arith}
use Rattle.pictures.specs.Objects.{Token, Name, Opens, Closes, Bound, Unknown, Object, Plain, Procedure, Saved, Operator, Kind, Effect}
use Rattle.pictures.specs.Objects.{Computes, Controls, Draws, PushesGraphics, PopsGraphics, PopsAllGraphics, Looks, Saves, Restores, Ships, Resets, Copies, CopyOperands, Matrix, Call}
use Rattle.pictures.specs.Dictionaries.{DictionaryEntry, meaning, system, dictionary_entry, or, has}
use Rattle.pictures.specs.Operators.{Work, taken, computed, computed_on, controlled}
use Rattle.pictures.specs.Machine.{State, Graphics, Snapshot, Painting, body_of, opened, drawn, worked, running, popped, popped_all, save_of, back_to, returned, restored, chain_of, filled_from, copied, perform, effect_of_value, meant, act, step_on, step, may_go_back, initial, shipped, RunsBy}
use Rattle.pictures.specs.Sheets.{run_of, running_alone, entries_before, PaintsBy, PaintsAlone}
use Rattle.pictures.specs.DocumentRun.{PrintsSheet}
use Rattle.pictures.specs.Unaware.{put_names, none_among, asked_on, unaware_step, absent, is_in, IsPlainGround, EndsBy, PrintsBy, PrintsItself, none_before, OwnPicture, PagePrints}
use Rattle.rules.specs.Parts.{NestedUnit}
use Rattle.pictures.proofs.Kept.{kept_runs_alike}
use Rattle.pictures.specs.Scanner.{tokens}
use Rattle.pictures.specs.Documents.{document_page, PagePaints}
use Rattle.pictures.proofs.Tests.{first, second}
use Rattle.pictures.proofs.Runs.{nothing, by_join, by_none, by_one, follow_steps, all_stayed}
use Rattle.pictures.proofs.Shifted.{ups_same, entry_same, system_same}
use Rattle.pictures.proofs.Names.{meaning_agrees, not_true}
use Rattle.pictures.specs.Shifted.{one_save_more, ups, two, AgreeShifted, AllAgree, up_shot, up_shots, up_state}
use Rattle.pictures.proofs.Unaware.{unaware_free, AlwaysGoesOn, all_go, always_goes}
use Rattle.std.proofs.lemmas.Bool.{ne_eqb, ltb-false}

-- A held machine prints nothing.

abbrev Keeps : State → Option State → Type 0
Keeps s None = Unit {0}
Keeps s (Some t) = t.sheets ≡ s.sheets

keeps_opened : (x : Option (List Token × List Token)) (s : State) → Keeps s (opened x s)
keeps_opened None s = tt
keeps_opened (Some (ts, rest)) s = refl

keeps_drawn : (e : Effect) (name : List ℕ) (x : Option (List Object × List Object)) (s : State) → Keeps s (drawn e name x s)
keeps_drawn e name None s = tt
keeps_drawn e name (Some (os, rest)) s = refl

keeps_worked : (x : Option Work) (s : State) → Keeps s (worked x s)
keeps_worked None s = tt
keeps_worked (Some w) s = refl

keeps_running : (x : Option (List Token × Work)) (s : State) → Keeps s (running x s)
keeps_running None s = tt
keeps_running (Some (ts, w)) s = refl

keeps_popped : (gs : List Graphics) (shots : List Snapshot) (s : State) → Keeps s (popped gs (record s { saves = shots }))
keeps_popped (g ∷ gs) shots s = refl
keeps_popped [] [] s = tt
keeps_popped [] (shot ∷ shots) s = refl

keeps_popped_all : (shots : List Snapshot) (s : State) → Keeps s (popped_all shots s)
keeps_popped_all [] s = tt
keeps_popped_all (shot ∷ shots) s = refl

keeps_if : (b : Bool) (s t : State) → t.sheets ≡ s.sheets → Keeps s (if b then Some t else None)
keeps_if true s t e = e
keeps_if false s t e = tt

keeps_back : (os : List Object) (x : Option (Snapshot × List Snapshot)) (s : State) → Keeps s (back_to os x s)
keeps_back os None s = tt
keeps_back os (Some (shot, shots)) s = keeps_if (may_go_back shot os s.work) s (returned os shot shots s) refl

keeps_restored : (os : List Object) (s : State) → Keeps s (restored os s)
keeps_restored (Saved level ∷ os) s = keeps_back os (save_of level s.saves) s
keeps_restored os s = tt

keeps_filled : (x : Option (List Call)) (n : ℕ) (os : List Object) (s : State) → Keeps s (filled_from x n os s)
keeps_filled None n os s = tt
keeps_filled (Some chain) n os s = refl

keeps_copied : (os : List Object) (s : State) → Keeps s (copied os s)
keeps_copied (Matrix n ∷ Matrix m ∷ os) s = keeps_filled (chain_of m s.kept) n os s
keeps_copied os s = keeps_worked (computed_on CopyOperands os s.work) s

keeps_performed : (name : List ℕ) (k : Kind) (s : State) → Keeps s (perform true name k s)
keeps_performed name (Computes c) s = keeps_worked (computed c s.work) s
keeps_performed name (Controls c) s = keeps_running (controlled c s.work) s
keeps_performed name (Draws wants e) s = keeps_drawn e name (taken wants s.work.operands) s
keeps_performed name PushesGraphics s = refl
keeps_performed name PopsGraphics s = keeps_popped s.stacked s.saves s
keeps_performed name PopsAllGraphics s = keeps_popped_all s.saves s
keeps_performed name (Looks v) s = tt
keeps_performed name Saves s = refl
keeps_performed name Restores s = keeps_restored s.work.operands s
keeps_performed name Ships s = tt
keeps_performed name Resets s = tt
keeps_performed name Copies s = keeps_copied s.work.operands s

keeps_done : (o : Object) (s : State) → Keeps s (effect_of_value true o s)
keeps_done (Operator name k) s = keeps_performed name k s
keeps_done (Procedure ts) s = refl
keeps_done (Plain (Name name)) s = refl
keeps_done o s = refl

keeps_meant : (x : Option Object) (s : State) → Keeps s (meant true x s)
keeps_meant None s = tt
keeps_meant (Some o) s = keeps_done o s

keeps_act : (t : Token) (s : State) → Keeps s (act true t s)
keeps_act (Name name) s = keeps_meant (meaning s.work.dictionaries s.work.entries name) s
keeps_act (Bound name) s = keeps_meant (system name) s
keeps_act Opens s = keeps_opened (body_of s.left 0) s
keeps_act Closes s = tt
keeps_act Unknown s = tt
keeps_act t s = refl

keeps_step : (ts : List Token) (s : State) → Keeps s (step_on true ts s)
keeps_step [] s = tt
keeps_step (t ∷ ts) s = keeps_act t (record s { left = ts })

keeps_unaware : (b : Bool) (s t : State) (x : Option State) → Keeps s x → (if b then x else None) ≡ Some t → t.sheets ≡ s.sheets
keeps_unaware true s t x k e = subst (λ r. Keeps s r) e k
keeps_unaware false s t x k e = absurd (nothing None t refl e)

pub unaware_keeps : (s t : State) → unaware_step s ≡ Some t → t.sheets ≡ s.sheets
unaware_keeps s t e = keeps_unaware (none_among (asked_on s.left s) put_names) s t (step true s) (keeps_step s.left s) e

-- Names that no dictionary on the stack has.

none_of : (x : Option Object) → not (has x) ≡ true → x ≡ None
none_of None e = refl
none_of (Some o) e = absurd (true≢false (sym e))

pub absent_means : (ds : List ℕ) (es : List DictionaryEntry) (k : List ℕ) → absent ds es k ≡ true → meaning ds es k ≡ system k
absent_means [] es k e = refl
absent_means (d ∷ ds) es k e =
    ap₂ or (none_of (dictionary_entry d k es) (first (not (has (dictionary_entry d k es))) (absent ds es k) e)) (absent_means ds es k (second (not (has (dictionary_entry d k es))) (absent ds es k) e))

pub two_found : (n : ℕ) (es fs : List DictionaryEntry) (ds : List ℕ) (k : List ℕ) (v : Object) → AgreeShifted n es fs → ((d : ℕ) → dictionary_entry d k (two n) ≡ (if 0 == d then Some v else None))
    → absent ds fs k ≡ true → is_in 0 ds ≡ true → meaning ds es k ≡ Some v
two_found n es fs [] k v a t e i = absurd (true≢false (sym i))
two_found n es fs (d ∷ ds) k v a t e i =
    ap (λ x. or x (meaning ds es k))
    (a d k ∙ ap₂ (λ x y. or (option_map one_save_more x) y) (none_of (dictionary_entry d k fs) (first (not (has (dictionary_entry d k fs))) (absent ds fs k) e)) (t d))
    ∙ by (0 == d) (λ rest. two_found n es fs ds k v a t (second (not (has (dictionary_entry d k fs))) (absent ds fs k) e) rest) i
  where
    by : (b : Bool) → (is_in 0 ds ≡ true → meaning ds es k ≡ Some v) → (b || is_in 0 ds) ≡ true → or (if b then Some v else None) (meaning ds es k) ≡ Some v
    by true f i = refl
    by false f i = f i

begins_if : (b c : Bool) (e : Option Object) (x y : Object) → (b ≡ true → e ≡ None) → (c ≡ true → e ≡ None) → option_map one_save_more e ≡ e
    → (if b then Some x else (if c then Some y else e)) ≡ or (option_map one_save_more e) (if b then Some x else (if c then Some y else None))
begins_if true c e x y p q r = ap (λ z. or (option_map one_save_more z) (Some x)) (sym (p refl))
begins_if false true e x y p q r = ap (λ z. or (option_map one_save_more z) (Some y)) (sym (q refl))
begins_if false false None x y p q r = refl
begins_if false false (Some o) x y p q r = sym r

at_userdict : (key k : List ℕ) (d : ℕ) (es : List DictionaryEntry) → dictionary_entry 0 key es ≡ None → (bytes_eq key k && (0 == d)) ≡ true → dictionary_entry d k es ≡ None
at_userdict key k d es e h =
    subst (λ c. dictionary_entry c k es ≡ None) (eqb-true 0 d (second (bytes_eq key k) (0 == d) h))
    (subst (λ l. dictionary_entry 0 l es ≡ None) ((bytes_eq-Decides key k).0 (first (bytes_eq key k) (0 == d) h)) e)

pub begins : (s : State) → IsPlainGround s → AgreeShifted s.level (entries_before s) s.work.entries
begins s p d k =
    begins_if (bytes_eq (codes "showpage") k && (0 == d)) (bytes_eq (codes "ImposeSave") k && (0 == d)) (dictionary_entry d k s.work.entries) (Procedure []) (Saved s.level)
    (at_userdict (codes "showpage") k d s.work.entries p.no_showpage)
    (at_userdict (codes "ImposeSave") k d s.work.entries p.no_save)
    (entry_same d k s.work.entries p.entries)

-- The state of the page by itself.

plain_graphics : (g : Graphics) → initial g ≡ g → record { chain = []; path = []; clip = []; settings = g.settings } ≡ g
plain_graphics g e =
    ap₂ (λ c p. record { chain = c; path = p; clip = []; settings = g.settings }) (ap (λ x. x.chain) e) (ap (λ x. x.path) e)
    ∙ ap (λ c. record { chain = g.chain; path = g.path; clip = c; settings = g.settings }) (ap (λ x. x.clip) e)

abbrev by_itself : State → List Token → List Object → Graphics → List Graphics → List Painting → State
by_itself s body os g gs ps = record (running_alone s body) { work = record (running_alone s body).work { operands = os }; graphics = g; stacked = gs; painted = ps }

pub same_start : (s : State) (body : List Token) → IsPlainGround s → up_state (entries_before s) [] (run_of body s) ≡ running_alone s body
same_start s body p = sym (
    ap₂ (λ os g. by_itself s body os g [] []) (sym (ups_same s.work.operands p.operands)) (plain_graphics s.graphics p.ground.graphics)
    ∙ ap₂ (λ gs ps. by_itself s body (ups s.work.operands) s.graphics gs ps) (sym p.stacked) (sym p.painted))

-- shifted, no save of the page is of the level of the sheet's
pub up_missing : (n : ℕ) (ess : List (List DictionaryEntry)) (shots : List Snapshot) → none_before n shots ≡ true → save_of n (up_shots ess shots) ≡ None
up_missing n [] shots e = refl
up_missing n (es ∷ ess) [] e = refl
up_missing n (es ∷ ess) (shot ∷ shots) e =
    let newer : nat_lt shot.level n ≡ false = not_true (nat_lt shot.level n) (first (not (nat_lt shot.level n)) (none_before n shots) e) in
    ap (λ b. if b then Some (up_shot es shot, up_shots ess shots) else save_of n (up_shots ess shots))
    (ne_eqb (shot.level + 1) n (λ k. omega (arith, ltb-false shot.level n newer, k)))
    ∙ up_missing n ess shots (second (not (nat_lt shot.level n)) (none_before n shots) e)

-- In any machine that goes on where the free one does.

pub prints_by : (free unaware : State → Option State) → ((s t : State) → step false s ≡ Some t → free s ≡ Some t) → ((s t : State) → unaware s ≡ Some t → free s ≡ Some t)
    → ((s t : State) → unaware s ≡ Some t → t.sheets ≡ s.sheets) → (s : State) (body : List Token) (picture : List Painting) → PrintsBy free unaware s body picture
    → (t : State) × (RunsBy free (run_of body s) t × (t.left ≡ [])) × (t.painted ≡ []) × (t.sheets ≡ picture ∷ s.sheets)
prints_by free unaware own goes silent s body picture q =
    let t : State = shipped (run_of q.after q.at) in
    let ships : step false q.at ≡ Some t =
    ap (λ l. step_on false l q.at) q.last ∙ ap (λ x. meant false x (run_of q.after q.at)) (absent_means q.at.work.dictionaries q.at.work.entries (codes "showpage") q.showpage) in (
      q.ends.printed,
      (
        by_join free (run_of body s) q.at q.ends.printed (follow_steps unaware free (λ u. u) goes (run_of body s) q.at (q.count, q.run))
            (by_one free q.at t q.ends.printed (own q.at t ships) q.ends.printed_run),
        q.ends.printed_left,
      ),
      q.ends.printed_nothing,
      q.ends.printed_once ∙ ap₂ (λ x xs. x ∷ xs) q.picture_is (all_stayed unaware (λ u. u.sheets) silent q.count (run_of body s) q.at q.run),
    )

pub paints_by : (free held unaware : State → Option State) → ((s t : State) → step false s ≡ Some t → step true s ≡ Some t → held s ≡ Some t) → AlwaysGoesOn held unaware
    → (s : State) (body : List Token) (picture : List Painting) → IsPlainGround s → PrintsBy free unaware s body picture → PaintsBy held s body picture
paints_by free held unaware own goes s body picture p q =
    let n : ℕ = s.level in
    let z = all_go held unaware goes n q.count (run_of body s) q.at (entries_before s) [] (begins s p) (subst (λ x. AllAgree n [] x) (sym p.saves) tt) q.run in
    let near : State = up_state z.0 z.1 q.at in
    let there : State = run_of q.after near in
    let last : State = q.ends.placed in
    let y = all_go held unaware goes n q.ends.count (run_of q.after q.at) last z.0 z.1 z.3 z.4 q.ends.placed_run in
    let end : State = up_state y.0 y.1 last in
    let userdict : is_in 0 last.work.dictionaries ≡ true = ap (is_in 0) q.ends.dictionaries ∙ p.has_userdict in
    let found = two_found n z.0 q.at.work.entries q.at.work.dictionaries (codes "showpage") (Procedure []) z.3 (λ d. refl) q.showpage q.has_userdict in
    let run : RunsBy held (up_state (entries_before s) [] (run_of body s)) end =
    by_join held (up_state (entries_before s) [] (run_of body s)) near end (q.count, z.2)
    (by_one held near there end
    (own near there (ap (λ l. step_on false l near) q.last ∙ ap (λ x. meant false x there) found) (ap (λ l. step_on true l near) q.last ∙ ap (λ x. meant true x there) found))
    (q.ends.count, y.2)) in
    record {
      end = end;
      run = subst (λ x. RunsBy held x end) (same_start s body p) run;
      leaves = record {
        nothing_left = q.ends.placed_left;
        operands = ap ups q.ends.operands ∙ ups_same s.work.operands p.operands;
        dictionaries = q.ends.dictionaries;
        saves = up_missing n y.1 last.saves q.ends.saves;
        save_name = two_found n y.0 last.work.entries last.work.dictionaries (codes "ImposeSave") (Saved n) y.3 (λ d. refl) q.ends.save_name userdict;
        restore_name = meaning_agrees n y.0 last.work.entries last.work.dictionaries (codes "restore") y.3 refl ∙ ap (option_map one_save_more) q.ends.restore_name ∙ system_same (codes "restore");
      };
      picture_is = q.ends.placed_nothing ∙ q.picture_is;
    }

-- nothing follows the page's showpage
pub nothing_behind :
    (free unaware : State → Option State) (s at : State) → at.work.operands ≡ s.work.operands → at.work.dictionaries ≡ s.work.dictionaries → none_before s.level at.saves ≡ true
    → absent at.work.dictionaries at.work.entries (codes "ImposeSave") ≡ true
    → meaning at.work.dictionaries at.work.entries (codes "restore") ≡ system (codes "restore") → EndsBy free unaware s at []
nothing_behind free unaware s at operands dictionaries saves save_name restore_name = record {
  printed = shipped (run_of [] at);
  printed_run = by_none free (shipped (run_of [] at));
  printed_left = refl;
  printed_nothing = refl;
  printed_once = refl;
  placed = run_of [] at;
  count = 0;
  placed_run = refl;
  placed_left = refl;
  placed_nothing = refl;
  operands = operands;
  dictionaries = dictionaries;
  saves = saves;
  save_name = save_name;
  restore_name = restore_name;
}

-- The machine of the laws.

pub prints : (s : State) (body : List Token) (picture : List Painting) → PrintsItself s body picture → PrintsSheet s body picture
prints s body picture q = prints_by (step false) unaware_step (λ s t e. e) unaware_free unaware_keeps s body picture q

paints : (s : State) (body : List Token) (picture : List Painting) → IsPlainGround s → PrintsItself s body picture → PaintsAlone s body picture
paints s body picture p q = paints_by (step false) (step true) unaware_step (λ s t e k. k) always_goes s body picture p q

pub own_picture : OwnPicture
own_picture s body picture p q = (prints s body picture q, paints s body picture p q)

pub page_paints : (us : List NestedUnit) (s : State) (p : ℕ) (picture : List Painting) → IsPlainGround s → PagePrints us s p picture → PagePaints us s p picture
page_paints us s p picture g (complete, apart, q) =
    let alike = kept_runs_alike (document_page us p) apart complete in
    (alike.1, subst (λ ts. PaintsAlone s ts picture) (sym alike.0) (paints s (tokens (document_page us p)) picture g q))
