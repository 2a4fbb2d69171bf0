-- Take a held machine that uses none of the names that the sheet's text defines. With these names, one save further
-- in, it does the same, and so does a free machine without them.
use Rattle.std.specs.Prelude.{Option, Some, None, if◌then◌else◌, option_map, codes}
use Rattle.std.proofs.lemmas.Bool.{ne_eqb}
use Rattle.std.proofs.lemmas.Bool.Decides.{eqb_tells}
use Rattle.std.proofs.Common.{◌≡◌, ℕ, zero, suc, ◌+◌, refl, ap, ◌∙◌, sym, subst, Bool, true, false, not, ◌&&◌, ◌==◌, List, [], ◌∷◌, eq-eqb, arith, ⊎_elim}
use Rattle.pictures.specs.Objects.{Token, Name, Opens, Closes, Bound, Unknown, Object, Procedure, Plain}
use Rattle.pictures.specs.Objects.{Saved, Operator, Kind, Effect, Computes, Controls, Draws, PushesGraphics, PopsGraphics, PopsAllGraphics, Looks, Saves, Restores, Ships, Resets, Copies, CopyOperands, Matrix, Call}
use Rattle.pictures.specs.Dictionaries.{DictionaryEntry, meaning, system}
use Rattle.pictures.specs.Operators.{Work, taken, computed_on, controlled_on, all_old}
use Rattle.pictures.specs.Machine.{State, Graphics, Snapshot, body_of, opened, drawn, worked, running, popped, popped_all, save_of, back_to, returned, restored, chain_of, filled_from, copied, perform, effect_of_value, meant, act, step_on, step, steps, and_then, may_go_back}
use Rattle.pictures.specs.Sheets.{among}
use Rattle.pictures.specs.Unaware.{put_names, none_among, names_asked, asked_on, unaware_step}
use Rattle.pictures.specs.Shifted.{one_save_more, ups, AgreeShifted, AllAgree, up_work, up_shot, up_shots, up_state}
use Rattle.pictures.proofs.Tests.{first, second}
use Rattle.pictures.proofs.Runs.{nothing, some_is}
use Rattle.pictures.proofs.Shifted.{up_taken, taken_up, all_are_old_up, system_same}
use Rattle.pictures.proofs.Names.{WorkGoes, ControlGoes, works_on, controls_on, meaning_agrees, not_true}

-- Free, and held.

abbrev Stays : Option State → Option State → Type 0
Stays None r = Unit {0}
Stays (Some t) r = r ≡ Some t

stays : (x : Option State) → Stays x x
stays None = tt
stays (Some t) = refl

performs_free : (name : List ℕ) (k : Kind) (s : State) → Stays (perform true name k s) (perform false name k s)
performs_free name Ships s = tt
performs_free name Resets s = tt
performs_free name (Looks v) s = tt
performs_free name k s = stays (perform true name k s)

does_free : (o : Object) (s : State) → Stays (effect_of_value true o s) (effect_of_value false o s)
does_free (Operator name k) s = performs_free name k s
does_free o s = stays (effect_of_value true o s)

means_free : (x : Option Object) (s : State) → Stays (meant true x s) (meant false x s)
means_free None s = tt
means_free (Some o) s = does_free o s

acts_free : (t : Token) (s : State) → Stays (act true t s) (act false t s)
acts_free (Name name) s = means_free (meaning s.work.dictionaries s.work.entries name) s
acts_free (Bound name) s = means_free (system name) s
acts_free t s = stays (act true t s)

steps_on_free : (ts : List Token) (s : State) → Stays (step_on true ts s) (step_on false ts s)
steps_on_free [] s = tt
steps_on_free (t ∷ ts) s = acts_free t (record s { left = ts })

free_if : (b : Bool) (x y : Option State) (t : State) → Stays x y → (if b then x else None) ≡ Some t → y ≡ Some t
free_if true x y t h e = subst (λ r. Stays r y) e h
free_if false x y t h e = absurd (nothing None t refl e)

pub unaware_free : (s t : State) → unaware_step s ≡ Some t → step false s ≡ Some t
unaware_free s t e = free_if (none_among (asked_on s.left s) put_names) (step true s) (step false s) t (steps_on_free s.left s) e

-- With the names, and without.

abbrev pub Goes : ℕ → Option State → Option State → Type 0
Goes n None r = Unit {0}
Goes n (Some t) r = (es : List DictionaryEntry) × (ess : List (List DictionaryEntry)) × (r ≡ Some (up_state es ess t)) × AgreeShifted n es t.work.entries × AllAgree n ess t.saves

worked_goes : (n : ℕ) (x y : Option Work) (s : State) (es : List DictionaryEntry) (ess : List (List DictionaryEntry)) → WorkGoes n x y → AllAgree n ess s.saves → Goes n (worked x s) (worked y (up_state es ess s))
worked_goes n None y s es ess g h = tt
worked_goes n (Some w) y s es ess g h = (g.0, ess, ap (λ r. worked r (up_state es ess s)) g.1, g.2, h)

running_goes : (n : ℕ) (x y : Option (List Token × Work)) (s : State) (es : List DictionaryEntry) (ess : List (List DictionaryEntry)) → ControlGoes n x y → AllAgree n ess s.saves → Goes n (running x s) (running y (up_state es ess s))
running_goes n None y s es ess g h = tt
running_goes n (Some (ts, w)) y s es ess g h = (g.0, ess, ap (λ r. running r (up_state es ess s)) g.1, g.2, h)

drawn_goes : (n : ℕ) (e : Effect) (name : List ℕ) (x : Option (List Object × List Object)) (s : State) (es : List DictionaryEntry) (ess : List (List DictionaryEntry)) → AgreeShifted n es s.work.entries → AllAgree n ess s.saves
    → Goes n (drawn e name x s) (drawn e name (up_taken x) (up_state es ess s))
drawn_goes n e name None s es ess a h = tt
drawn_goes n e name (Some (os, rest)) s es ess a h = (es, ess, refl, a, h)

opened_goes : (n : ℕ) (x : Option (List Token × List Token)) (s : State) (es : List DictionaryEntry) (ess : List (List DictionaryEntry)) → AgreeShifted n es s.work.entries → AllAgree n ess s.saves
    → Goes n (opened x s) (opened x (up_state es ess s))
opened_goes n None s es ess a h = tt
opened_goes n (Some (ts, rest)) s es ess a h = (es, ess, refl, a, h)

popped_goes : (n : ℕ) (gs : List Graphics) (shots : List Snapshot) (s : State) (es : List DictionaryEntry) (ess : List (List DictionaryEntry)) → AgreeShifted n es s.work.entries → AllAgree n ess shots
    → Goes n (popped gs (record s { saves = shots })) (popped gs (up_state es ess (record s { saves = shots })))
popped_goes n (g ∷ gs) shots s es ess a h = (es, ess, refl, a, h)
popped_goes n [] [] s es ess a h = tt
popped_goes n [] (b ∷ bs) s es [] a h = absurd h
popped_goes n [] (b ∷ bs) s es (fs ∷ ess) a h = (es, fs ∷ ess, refl, a, h)

popped_all_goes : (n : ℕ) (shots : List Snapshot) (s : State) (es : List DictionaryEntry) (ess : List (List DictionaryEntry)) → AgreeShifted n es s.work.entries → AllAgree n ess shots
    → Goes n (popped_all shots (record s { saves = shots })) (popped_all (up_shots ess shots) (up_state es ess (record s { saves = shots })))
popped_all_goes n [] s es ess a h = tt
popped_all_goes n (b ∷ bs) s es [] a h = absurd h
popped_all_goes n (b ∷ bs) s es (fs ∷ ess) a h = (es, fs ∷ ess, refl, a, h)

same_next : (a b : ℕ) → (a + 1 == b + 1) ≡ (a == b)
same_next a b = ⊎_elim
    (λ t. eq-eqb (a + 1) (b + 1) (ap (λ n. n + 1) t.1) ∙ sym t.0)
    (λ f. ne_eqb (a + 1) (b + 1) (λ e. f.1 (omega (arith, e))) ∙ sym f.0)
    (eqb_tells a b)

abbrev Found : ℕ → Option (Snapshot × List Snapshot) → Option (Snapshot × List Snapshot) → Type 0
Found n None y = Unit {0}
Found n (Some (shot, rest)) y = (es : List DictionaryEntry) × (ess : List (List DictionaryEntry)) × (y ≡ Some (up_shot es shot, up_shots ess rest)) × AgreeShifted n es shot.entries × AllAgree n ess rest

found_if : (n : ℕ) (here : Bool) (shot : Snapshot) (rest : List Snapshot) (x y : Option (Snapshot × List Snapshot)) (es : List DictionaryEntry) (ess : List (List DictionaryEntry))
    → AgreeShifted n es shot.entries → AllAgree n ess rest → Found n x y
    → Found n (if here then Some (shot, rest) else x) (if here then Some (up_shot es shot, up_shots ess rest) else y)
found_if n true shot rest x y es ess a h f = (es, ess, refl, a, h)
found_if n false shot rest x y es ess a h f = f

finds : (n level : ℕ) (shots : List Snapshot) (ess : List (List DictionaryEntry)) → AllAgree n ess shots → Found n (save_of level shots) (save_of (level + 1) (up_shots ess shots))
finds n level [] [] h = tt
finds n level [] (es ∷ ess) h = absurd h
finds n level (b ∷ bs) [] h = absurd h
finds n level (b ∷ bs) (es ∷ ess) h =
    subst (λ t. Found n (save_of level (b ∷ bs)) (if t then Some (up_shot es b, up_shots ess bs) else save_of (level + 1) (up_shots ess bs))) (sym (same_next b.level level))
    (found_if n (b.level == level) b bs (save_of level bs) (save_of (level + 1) (up_shots ess bs)) es ess h.0 h.1 (finds n level bs ess h.1))

back_if : (n : ℕ) (b c : Bool) (t u : State) (es : List DictionaryEntry) (ess : List (List DictionaryEntry)) → c ≡ b → u ≡ up_state es ess t → AgreeShifted n es t.work.entries → AllAgree n ess t.saves
    → Goes n (if b then Some t else None) (if c then Some u else None)
back_if n true c t u es ess e f a h = (es, ess, ap (λ x. if x then Some u else None) e ∙ ap Some f, a, h)
back_if n false c t u es ess e f a h = tt

back_goes : (n : ℕ) (os : List Object) (x y : Option (Snapshot × List Snapshot)) (s : State) (es : List DictionaryEntry) (ess : List (List DictionaryEntry)) → Found n x y
    → Goes n (back_to os x s) (back_to (ups os) y (up_state es ess s))
back_goes n os None y s es ess f = tt
back_goes n os (Some (shot, rest)) y s es ess f =
    let t : State = returned os shot rest s in
    subst (λ z. Goes n (back_to os (Some (shot, rest)) s) (back_to (ups os) z (up_state es ess s))) (sym f.2)
    (back_if n (may_go_back shot os s.work) (may_go_back (up_shot f.0 shot) (ups os) (up_work es s.work)) t (up_state f.0 f.1 t) f.0 f.1
    (ap (λ b. b && all_old shot.made s.work.dictionaries) (all_are_old_up shot.made shot.level os)) refl f.3 f.4)

restores_goes : (n : ℕ) (os : List Object) (s : State) (es : List DictionaryEntry) (ess : List (List DictionaryEntry)) → AllAgree n ess s.saves → Goes n (restored os s) (restored (ups os) (up_state es ess s))
restores_goes n (Saved level ∷ os) s es ess h = back_goes n os (save_of level s.saves) (save_of (level + 1) (up_shots ess s.saves)) s es ess (finds n level s.saves ess h)
restores_goes n os s es ess h = tt

filled_goes : (n : ℕ) (x : Option (List Call)) (m : ℕ) (os : List Object) (s : State) (es : List DictionaryEntry) (ess : List (List DictionaryEntry)) → AgreeShifted n es s.work.entries → AllAgree n ess s.saves
    → Goes n (filled_from x m os s) (filled_from x m (ups os) (up_state es ess s))
filled_goes n None m os s es ess a h = tt
filled_goes n (Some chain) m os s es ess a h = (es, ess, refl, a, h)

copied_goes : (n : ℕ) (os : List Object) (s : State) (es : List DictionaryEntry) (ess : List (List DictionaryEntry)) → AgreeShifted n es s.work.entries → AllAgree n ess s.saves
    → Goes n (copied os s) (copied (ups os) (up_state es ess s))
copied_goes n (Matrix l ∷ Matrix m ∷ os) s es ess a h = filled_goes n (chain_of m s.kept) l os s es ess a h
copied_goes n (Plain t ∷ os) s es ess a h =
    worked_goes n (computed_on CopyOperands (Plain t ∷ os) s.work) (computed_on CopyOperands (Plain t ∷ ups os) (up_work es s.work)) s es ess (works_on n (codes "copy") CopyOperands (Plain t ∷ os) s.work es a refl) h
copied_goes n os s es ess a h = tt

performs_goes : (n : ℕ) (name : List ℕ) (k : Kind) (s : State) (es : List DictionaryEntry) (ess : List (List DictionaryEntry)) → AgreeShifted n es s.work.entries → AllAgree n ess s.saves
    → none_among (names_asked (Some (Operator name k)) s.work.operands) put_names ≡ true → Goes n (perform true name k s) (perform true name k (up_state es ess s))
performs_goes n name (Computes c) s es ess a h q =
    worked_goes n (computed_on c s.work.operands s.work) (computed_on c (ups s.work.operands) (up_work es s.work)) s es ess (works_on n name c s.work.operands s.work es a q) h
performs_goes n name (Controls c) s es ess a h q =
    running_goes n (controlled_on c s.work.operands s.work) (controlled_on c (ups s.work.operands) (up_work es s.work)) s es ess (controls_on n c s.work.operands s.work es a) h
performs_goes n name (Draws wants e) s es ess a h q =
    subst (λ x. Goes n (drawn e name (taken wants s.work.operands) s) (drawn e name x (up_state es ess s))) (sym (taken_up wants s.work.operands))
    (drawn_goes n e name (taken wants s.work.operands) s es ess a h)
performs_goes n name PushesGraphics s es ess a h q = (es, ess, refl, a, h)
performs_goes n name PopsGraphics s es ess a h q = popped_goes n s.stacked s.saves s es ess a h
performs_goes n name PopsAllGraphics s es ess a h q = popped_all_goes n s.saves s es ess a h
performs_goes n name (Looks v) s es ess a h q = tt
performs_goes n name Saves s es ess a h q = (es, es ∷ ess, refl, a, (a, h))
performs_goes n name Restores s es ess a h q = restores_goes n s.work.operands s es ess h
performs_goes n name Ships s es ess a h q = tt
performs_goes n name Resets s es ess a h q = tt
performs_goes n name Copies s es ess a h q = copied_goes n s.work.operands s es ess a h

does_goes : (n : ℕ) (o : Object) (s : State) (es : List DictionaryEntry) (ess : List (List DictionaryEntry)) → AgreeShifted n es s.work.entries → AllAgree n ess s.saves
    → none_among (names_asked (Some o) s.work.operands) put_names ≡ true → Goes n (effect_of_value true o s) (effect_of_value true (one_save_more o) (up_state es ess s))
does_goes n (Operator name k) s es ess a h q = performs_goes n name k s es ess a h q
does_goes n (Procedure ts) s es ess a h q = (es, ess, refl, a, h)
does_goes n (Plain (Name name)) s es ess a h q = (es, ess, refl, a, h)
does_goes n (Saved level) s es ess a h q = (es, ess, refl, a, h)
does_goes n o s es ess a h q = (es, ess, refl, a, h)

means_goes : (n : ℕ) (x : Option Object) (s : State) (es : List DictionaryEntry) (ess : List (List DictionaryEntry)) → AgreeShifted n es s.work.entries → AllAgree n ess s.saves
    → none_among (names_asked x s.work.operands) put_names ≡ true → Goes n (meant true x s) (meant true (option_map one_save_more x) (up_state es ess s))
means_goes n None s es ess a h q = tt
means_goes n (Some o) s es ess a h q = does_goes n o s es ess a h q

acts_goes : (n : ℕ) (t : Token) (ts : List Token) (s : State) (es : List DictionaryEntry) (ess : List (List DictionaryEntry)) → AgreeShifted n es s.work.entries → AllAgree n ess s.saves
    → none_among (asked_on (t ∷ ts) s) put_names ≡ true → Goes n (act true t (record s { left = ts })) (act true t (up_state es ess (record s { left = ts })))
acts_goes n (Name name) ts s es ess a h q =
    let x : Option Object = meaning s.work.dictionaries s.work.entries name in
    let here = first (not (among name put_names)) (none_among (names_asked x s.work.operands) put_names) q in
    subst (λ y. Goes n (meant true x (record s { left = ts })) (meant true y (up_state es ess (record s { left = ts })))) (sym (meaning_agrees n es s.work.entries s.work.dictionaries name a (not_true (among name put_names) here)))
    (means_goes n x (record s { left = ts }) es ess a h (second (not (among name put_names)) (none_among (names_asked x s.work.operands) put_names) q))
acts_goes n (Bound name) ts s es ess a h q =
    subst (λ y. Goes n (meant true (system name) (record s { left = ts })) (meant true y (up_state es ess (record s { left = ts })))) (system_same name)
    (means_goes n (system name) (record s { left = ts }) es ess a h q)
acts_goes n Opens ts s es ess a h q = opened_goes n (body_of ts 0) (record s { left = ts }) es ess a h
acts_goes n Closes ts s es ess a h q = tt
acts_goes n Unknown ts s es ess a h q = tt
acts_goes n t ts s es ess a h q = (es, ess, refl, a, h)

steps_on_goes : (n : ℕ) (ts : List Token) (s : State) (es : List DictionaryEntry) (ess : List (List DictionaryEntry)) → AgreeShifted n es s.work.entries → AllAgree n ess s.saves
    → none_among (asked_on ts s) put_names ≡ true → Goes n (step_on true ts s) (step_on true ts (up_state es ess s))
steps_on_goes n [] s es ess a h q = tt
steps_on_goes n (t ∷ ts) s es ess a h q = acts_goes n t ts s es ess a h q

-- Any machine that at each step goes on with the names as without.

abbrev pub GoesOn : (State → Option State) → ℕ → State → State → Type 0
GoesOn held n r t = (es : List DictionaryEntry) × (ess : List (List DictionaryEntry)) × (held r ≡ Some (up_state es ess t)) × AgreeShifted n es t.work.entries × AllAgree n ess t.saves

abbrev pub AlwaysGoesOn : (held unaware : State → Option State) → Type 0
AlwaysGoesOn held unaware =
    (n : ℕ) (s t : State) (es : List DictionaryEntry) (ess : List (List DictionaryEntry)) → AgreeShifted n es s.work.entries → AllAgree n ess s.saves → unaware s ≡ Some t → GoesOn held n (up_state es ess s) t

then_on : (held unaware : State → Option State) (n k : ℕ) (s t : State) (es : List DictionaryEntry) (ess : List (List DictionaryEntry)) (x : Option State) → AlwaysGoesOn held unaware → AgreeShifted n es s.work.entries → AllAgree n ess s.saves → unaware s ≡ x
    → ((u : State) (fs : List DictionaryEntry) (fss : List (List DictionaryEntry)) → AgreeShifted n fs u.work.entries → AllAgree n fss u.saves → steps unaware k u ≡ Some t → GoesOn (steps held k) n (up_state fs fss u) t)
    → and_then (steps unaware k) x ≡ Some t → GoesOn (steps held (suc k)) n (up_state es ess s) t
then_on held unaware n k s t es ess None one a h is f e = absurd (nothing (and_then (steps unaware k) None) t refl e)
then_on held unaware n k s t es ess (Some u) one a h is f e =
    let g = one n s u es ess a h is in
    let z = f u g.0 g.1 g.3 g.4 e in
    (z.0, z.1, ap (and_then (steps held k)) g.2 ∙ z.2, z.3, z.4)

pub all_go : (held unaware : State → Option State) → AlwaysGoesOn held unaware → (n k : ℕ) (s t : State) (es : List DictionaryEntry) (ess : List (List DictionaryEntry)) → AgreeShifted n es s.work.entries → AllAgree n ess s.saves → steps unaware k s ≡ Some t
    → GoesOn (steps held k) n (up_state es ess s) t
all_go held unaware one n zero s t es ess a h e =
    subst (λ z. GoesOn (steps held zero) n (up_state es ess s) z) (some_is s t e) (es, ess, refl, a, h)
all_go held unaware one n (suc k) s t es ess a h e =
    then_on held unaware n k s t es ess (unaware s) one a h refl (λ u fs fss b g f. all_go held unaware one n k u t fs fss b g f) e

goes_one : (n : ℕ) (t r : State) (b : Bool) (x : Option State) → (b ≡ true → Goes n x (step true r)) → (if b then x else None) ≡ Some t → GoesOn (step true) n r t
goes_one n t r true x f e = subst (λ y. Goes n y (step true r)) e (f refl)
goes_one n t r false x f e = absurd (nothing None t refl e)

pub always_goes : AlwaysGoesOn (step true) unaware_step
always_goes n s t es ess a h e =
    goes_one n t (up_state es ess s) (none_among (asked_on s.left s) put_names) (step true s) (λ q. steps_on_goes n s.left s es ess a h q) e
