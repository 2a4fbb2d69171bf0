-- What a page does by itself, the free machine does in the page's place.
use Rattle.std.specs.Prelude.{Option, Some, None, if◌then◌else◌, codes, nat_lt}
use Rattle.std.proofs.Common.{◌≡◌, ℕ, ◌+◌, ◌<◌, refl, ap, sym, subst, ◌==◌, ◌∙◌, List, [], ◌∷◌, ◌++◌, map, append_assoc, Bool, true, false, ◌&&◌, true≢false}
use Rattle.std.proofs.lemmas.Bool.{ltb-true, eqb-true}
use Rattle.std.proofs.lemmas.Slice.Eq.{bytes_eq-Decides}
use Rattle.pictures.specs.Objects.{Token, Number, Name, Dictionary, Opens, Closes, Bound, Unknown, Object, Procedure, Plain, Matrix, Call, TakesMatrix, SetsMatrix, CopyOperands}
use Rattle.pictures.specs.Objects.{Saved, Operator, Kind, Computes, Controls, Draws, PushesGraphics, PopsGraphics, PopsAllGraphics, Looks, Saves, Restores, Ships, Resets, Copies}
use Rattle.pictures.specs.Objects.{Effect, Segments, Transforms, Sets, Paints, PaintsBeside, Shows, Clips, Forgets}
use Rattle.pictures.specs.Operators.{Work, taken, computed, computed_on, controlled}
use Rattle.pictures.specs.Dictionaries.{DictionaryEntry, system, meaning}
use Rattle.pictures.specs.Machine.{State, Graphics, Snapshot, KeptMatrix, Runs, body_of, opened, drawn, worked, running, popped, popped_all, save_of, back_to, returned, restored, chain_of, set_to, viewed, filled_from, copied, perform, effect_of_value, step, may_go_back}
use Rattle.pictures.specs.Machine.{meant as free_meant, act as free_act}
use Rattle.pictures.specs.Placing.{Place, graphics_at}
use Rattle.pictures.specs.Sheets.{run_of, Numbers, zero_text}
use Rattle.pictures.proofs.Runs.{nothing, runs_one, runs_none, some_is, follow}
use Rattle.pictures.proofs.Tests.{first, second}
use Rattle.pictures.proofs.Commutes.{Extends, body_goes_on}
use Rattle.pictures.specs.AfterGuard.{pathforall_tokens, clips_tokens, initclip_tokens, initgraphics_tokens}
use Rattle.pictures.specs.Shelter.{Outer, outer_is, is_zero_object, is_dictionary, is_matrix, is_unknown, keeps_outer, keeps_outers, are_same_tokens, is_procedure, is_no_chain, holds_the_place, all_absent, means, outline_names, outline_tokens, keeps_the_page, is_drawn_anew, unclipped, as_it_began, entered, performed, did, meant_sheltered, act_sheltered, step_sheltered, shelter_step}
use Rattle.pictures.specs.Lines.{Noted, AreNoted, Notes}
use Rattle.pictures.specs.Pages.{AroundGuarded, kept_at, guarded_snapshot_at, placed_at, AllHeld, IsOnPaper, ShelterCommutes}
use Rattle.pictures.proofs.Tokens.{same_tokens}
use Rattle.pictures.proofs.Redrawn.{anew_in_place}
use Rattle.pictures.proofs.Lines.{clip_is_the_pages, graphics_are_the_pages}

-- where the one goes on, the other does, placed
abbrev Follows : AroundGuarded → Option State → Option State → Type 0
Follows a None r = Unit {0}
Follows a (Some t) r = r ≡ Some (placed_at a t)

-- or comes there by further steps
abbrev Reaches : AroundGuarded → Option State → Option State → Type 0
Reaches a None r = Unit {0}
Reaches a (Some t) r = (u : State) × (r ≡ Some u) × Runs false u (placed_at a t)

at_once : (a : AroundGuarded) (x r : Option State) → Follows a x r → Reaches a x r
at_once a None r h = tt
at_once a (Some t) r h = (placed_at a t, h, runs_none false (placed_at a t))

-- Operators.

opens : (a : AroundGuarded) (x y : Option (List Token × List Token)) (s : State) → Extends a.left x y → Follows a (opened x s) (opened y (placed_at a s))
opens a None y s h = tt
opens a (Some (ts, rest)) y s h = ap (λ r. opened r (placed_at a s)) h

draws : (a : AroundGuarded) (e : Effect) (name : List ℕ) (x : Option (List Object × List Object)) (s : State) → Follows a (drawn e name x s) (drawn e name x (placed_at a s))
draws a e name None s = tt
draws a Segments name (Some (os, rest)) s = refl
draws a Transforms name (Some (os, rest)) s = refl
draws a Sets name (Some (os, rest)) s = refl
draws a Paints name (Some (os, rest)) s = refl
draws a PaintsBeside name (Some (os, rest)) s = refl
draws a Shows name (Some (os, rest)) s = refl
draws a Clips name (Some (os, rest)) s = refl
draws a Forgets name (Some (os, rest)) s = refl

works : (a : AroundGuarded) (x : Option Work) (s : State) → Follows a (worked x s) (worked x (placed_at a s))
works a None s = tt
works a (Some w) s = refl

goes_before : (a : AroundGuarded) (ts : List Token) (s : State) →
    (Some (record (placed_at a s) { left = ts ++ (s.left ++ a.left) })) ≡ Some (placed_at a (record s { left = ts ++ s.left }))
goes_before a ts s = ap (λ l. Some (record (placed_at a s) { left = l })) (sym (append_assoc ts s.left a.left))

runs_next : (a : AroundGuarded) (x : Option (List Token × Work)) (s : State) → Follows a (running x s) (running x (placed_at a s))
runs_next a None s = tt
runs_next a (Some (ts, w)) s = goes_before a ts (record s { work = w })

pops : (a : AroundGuarded) (s : State) (gs : List Graphics) (shots : List Snapshot) →
    Follows a (popped gs (record s { saves = shots })) (popped (map (graphics_at a.place) gs) (placed_at a (record s { saves = shots })))
pops a s (g ∷ gs) shots = refl
pops a s [] [] = tt
pops a s [] (shot ∷ shots) = refl

pops_all : (a : AroundGuarded) (s : State) (shots : List Snapshot) →
    Follows a (popped_all shots (record s { saves = shots })) (popped_all (map (guarded_snapshot_at a) shots ++ a.saves) (placed_at a (record s { saves = shots })))
pops_all a s [] = tt
pops_all a s (shot ∷ shots) = refl

abbrev Finds : AroundGuarded → Option (Snapshot × List Snapshot) → Option (Snapshot × List Snapshot) → Type 0
Finds a None y = Unit {0}
Finds a (Some (shot, shots)) y = y ≡ Some (guarded_snapshot_at a shot, map (guarded_snapshot_at a) shots ++ a.saves)

choose_save : (a : AroundGuarded) (here : Bool) (shot : Snapshot) (shots : List Snapshot) (x y : Option (Snapshot × List Snapshot)) → Finds a x y →
    Finds a (if here then Some (shot, shots) else x) (if here then Some (guarded_snapshot_at a shot, map (guarded_snapshot_at a) shots ++ a.saves) else y)
choose_save a true shot shots x y h = refl
choose_save a false shot shots x y h = h

finds_save : (a : AroundGuarded) (level : ℕ) (shots : List Snapshot) → Finds a (save_of level shots) (save_of level (map (guarded_snapshot_at a) shots ++ a.saves))
finds_save a level [] = tt
finds_save a level (shot ∷ shots) =
    choose_save a (shot.level == level) shot shots (save_of level shots) (save_of level (map (guarded_snapshot_at a) shots ++ a.saves)) (finds_save a level shots)

goes_back_if : (a : AroundGuarded) (may : Bool) (t : State) → Follows a (if may then Some t else None) (if may then Some (placed_at a t) else None)
goes_back_if a true t = refl
goes_back_if a false t = tt

goes_back : (a : AroundGuarded) (os : List Object) (x y : Option (Snapshot × List Snapshot)) (s : State) → Finds a x y → Follows a (back_to os x s) (back_to os y (placed_at a s))
goes_back a os None y s h = tt
goes_back a os (Some (shot, shots)) y s h =
    subst (λ z. Follows a (back_to os (Some (shot, shots)) s) (back_to os z (placed_at a s))) (sym h)
    (goes_back_if a (may_go_back shot os s.work) (returned os shot shots s))

restores : (a : AroundGuarded) (os : List Object) (s : State) → Follows a (restored os s) (restored os (placed_at a s))
restores a (Saved level ∷ os) s = goes_back a os (save_of level s.saves) (save_of level (placed_at a s).saves) s (finds_save a level s.saves)
restores a os s = tt

-- Matrices of the page's own.

abbrev Holds : AroundGuarded → Option (List Call) → Option (List Call) → Type 0
Holds a None y = Unit {0}
Holds a (Some chain) y = y ≡ Some (chain ++ a.place.chain)

holds_if : (a : AroundGuarded) (here : Bool) (chain : List Call) (x y : Option (List Call)) → Holds a x y
    → Holds a (if here then Some chain else x) (if here then Some (chain ++ a.place.chain) else y)
holds_if a true chain x y h = refl
holds_if a false chain x y h = h

holds : (a : AroundGuarded) (number : ℕ) (ks : List KeptMatrix) → Holds a (chain_of number ks) (chain_of number (map (kept_at a.place) ks ++ a.kept))
holds a number [] = tt
holds a number (k ∷ ks) =
    holds_if a (k.number == number) k.chain (chain_of number ks) (chain_of number (map (kept_at a.place) ks ++ a.kept)) (holds a number ks)

sets_to : (a : AroundGuarded) (x y : Option (List Call)) (os : List Object) (s : State) → Holds a x y → Follows a (set_to x os s) (set_to y os (placed_at a s))
sets_to a None y os s h = tt
sets_to a (Some chain) y os s h = ap (λ z. set_to z os (placed_at a s)) h

takes : (a : AroundGuarded) (name : List ℕ) (os : List Object) (s : State) → Follows a (viewed TakesMatrix name os s) (viewed TakesMatrix name os (placed_at a s))
takes a name (Matrix n ∷ os) s = refl
takes a name os s = tt

sets : (a : AroundGuarded) (name : List ℕ) (os : List Object) (s : State) → Follows a (viewed SetsMatrix name os s) (viewed SetsMatrix name os (placed_at a s))
sets a name (Matrix n ∷ os) s = sets_to a (chain_of n s.kept) (chain_of n (placed_at a s).kept) os s (holds a n s.kept)
sets a name os s = tt

fills : (a : AroundGuarded) (x y : Option (List Call)) (n : ℕ) (os : List Object) (s : State) → Holds a x y → Follows a (filled_from x n os s) (filled_from y n os (placed_at a s))
fills a None y n os s h = tt
fills a (Some chain) y n os s h = ap (λ z. filled_from z n os (placed_at a s)) h

copies : (a : AroundGuarded) (os : List Object) (s : State) → Follows a (copied os s) (copied os (placed_at a s))
copies a (Matrix n ∷ Matrix m ∷ os) s = fills a (chain_of m s.kept) (chain_of m (placed_at a s).kept) n os s (holds a m s.kept)
copies a os s = works a (computed_on CopyOperands os s.work) s

performs : (a : AroundGuarded) (name : List ℕ) (k : Kind) (s : State) → Follows a (performed name k s) (perform false name k (placed_at a s))
performs a name (Looks TakesMatrix) s = takes a name s.work.operands s
performs a name (Looks SetsMatrix) s = sets a name s.work.operands s
performs a name (Looks v) s = tt
performs a name (Computes c) s = works a (computed c s.work) s
performs a name (Controls c) s = runs_next a (controlled c s.work) s
performs a name (Draws wants e) s = draws a e name (taken wants s.work.operands) s
performs a name PushesGraphics s = refl
performs a name PopsGraphics s = pops a s s.stacked s.saves
performs a name PopsAllGraphics s = pops_all a s s.saves
performs a name Saves s = refl
performs a name Restores s = restores a s.work.operands s
performs a name Ships s = tt
performs a name Resets s = tt
performs a name Copies s = copies a s.work.operands s

-- The guard's procedures.

abbrev is_it : Option Object → List Token → Type 0
is_it x ts = x ≡ Some (Procedure ts)

procedure_is : (x : Option Object) (us : List Token) → is_procedure x us ≡ true → is_it x us
procedure_is (Some (Procedure ts)) us e = ap (λ l. Some (Procedure l)) (same_tokens ts us e)
procedure_is x us e = absurd (true≢false (sym e))

no_chain : (x : Option (List Call)) → is_no_chain x ≡ true → x ≡ Some []
no_chain (Some []) e = refl
no_chain x e = absurd (true≢false (sym e))

-- the matrix that holds the page's place
abbrev pub ThePlace : Option Object → ℕ → List KeptMatrix → Type 0
ThePlace x made ks = (number : ℕ) × (x ≡ Some (Matrix number)) × (number < made + 1) × (chain_of number ks ≡ Some [])

pub the_place : (x : Option Object) (made : ℕ) (ks : List KeptMatrix) → holds_the_place x made ks ≡ true → ThePlace x made ks
the_place (Some (Matrix number)) made ks e = (
  number,
  refl,
  ltb-true number (made + 1) (first (nat_lt number (made + 1)) (is_no_chain (chain_of number ks)) e),
  no_chain (chain_of number ks) (second (nat_lt number (made + 1)) (is_no_chain (chain_of number ks)) e),
)
the_place x made ks e = absurd (true≢false (sym e))

-- A page round it.

the_zero : (x : Option Object) → is_zero_object x ≡ true → x ≡ Some (outer_is [])
the_zero (Some (Plain (Number text))) e = ap (λ t. Some (Plain (Number t))) ((bytes_eq-Decides text zero_text).0 e)
the_zero x e = absurd (true≢false (sym e))

the_dictionary : (d : ℕ) (x : Option Object) → is_dictionary d x ≡ true → x ≡ Some (Dictionary d)
the_dictionary d (Some (Dictionary e)) h = ap (λ n. Some (Dictionary n)) (eqb-true e d h)
the_dictionary d x h = absurd (true≢false (sym h))

the_matrix : (m : ℕ) (x : Option Object) → is_matrix m x ≡ true → x ≡ Some (Matrix m)
the_matrix m (Some (Matrix n)) h = ap (λ k. Some (Matrix k)) (eqb-true n m h)
the_matrix m x h = absurd (true≢false (sym h))

-- what the page hasn't filled holds in its place what it held before
unfilled_if : (here : Bool) (chain other : List Call) (x y z : Option (List Call)) → (is_unknown x ≡ true → y ≡ z)
    → is_unknown (if here then Some chain else x) ≡ true → (if here then Some other else y) ≡ z
unfilled_if true chain other x y z f e = absurd (true≢false (sym e))
unfilled_if false chain other x y z f e = f e

unfilled : (p : Place) (number : ℕ) (ks more : List KeptMatrix) → is_unknown (chain_of number ks) ≡ true
    → chain_of number (map (kept_at p) ks ++ more) ≡ chain_of number more
unfilled p number [] more e = refl
unfilled p number (k ∷ ks) more e =
    unfilled_if (k.number == number) k.chain (k.chain ++ p.chain) (chain_of number ks) (chain_of number (map (kept_at p) ks ++ more)) (chain_of number more)
    (unfilled p number ks more) e

outer_noted : (o : Outer) (p : Place) (ds : List ℕ) (made : ℕ) (es : List DictionaryEntry) (ks more : List KeptMatrix) → keeps_outer o ds made es ks ≡ true → chain_of o.matrix more ≡ Some o.chain
    → Noted ds made es (map (kept_at p) ks ++ more) o.matrix o.numbers o.chain
outer_noted o p ds made es ks more e h =
    let matrix : Bool = is_matrix o.matrix (meaning ds es (codes "PStoPSmatrix")) in
    let older : Bool = nat_lt o.matrix (made + 1) in
    let unknown : Bool = is_unknown (chain_of o.matrix ks) in
    let outline : Bool = is_procedure (meaning ds es (codes "PStoPSclip")) (outline_tokens o.numbers) in
    let clip : Bool = is_procedure (meaning ds es (codes "ImposeClip")) clips_tokens in
    let names : Bool = all_absent outline_names ds es in
    let e1 = second matrix (older && (unknown && (outline && (clip && names)))) e in
    let e2 = second older (unknown && (outline && (clip && names))) e1 in
    let e3 = second unknown (outline && (clip && names)) e2 in
    let e4 = second outline (clip && names) e3 in
    record {
      older = ltb-true o.matrix (made + 1) (first older (unknown && (outline && (clip && names))) e1);
      matrix_is = the_matrix o.matrix (meaning ds es (codes "PStoPSmatrix")) (first matrix (older && (unknown && (outline && (clip && names)))) e);
      holds = unfilled p o.matrix ks more (first unknown (outline && (clip && names)) e2) ∙ h;
      outline_is = procedure_is (meaning ds es (codes "PStoPSclip")) (outline_tokens o.numbers) (first outline (clip && names) e3);
      clip_is = procedure_is (meaning ds es (codes "ImposeClip")) clips_tokens (first clip names e4);
      names = second clip names e4;
    }

outers_noted : (outers : List Outer) (p : Place) (ds : List ℕ) (made : ℕ) (es : List DictionaryEntry) (ks more : List KeptMatrix) → keeps_outers outers ds made es ks ≡ true → AllHeld outers more
    → AreNoted ds made es (map (kept_at p) ks ++ more) outers
outers_noted [] p ds made es ks more e h = the_zero (meaning ds es (codes "ImposeOuter")) e
outers_noted (o ∷ os) p ds made es ks more e h =
    let here : Bool = is_dictionary o.dictionary (meaning ds es (codes "ImposeOuter")) in
    let this : Bool = keeps_outer o (o.dictionary ∷ ds) made es ks in
    let others : Bool = keeps_outers os (o.dictionary ∷ ds) made es ks in
    let e1 = second here (this && others) e in (
      the_dictionary o.dictionary (meaning ds es (codes "ImposeOuter")) (first here (this && others) e),
      outer_noted o p (o.dictionary ∷ ds) made es ks more (first this others e1) h.0,
      outers_noted os p (o.dictionary ∷ ds) made es ks more (second this others e1) h.1,
    )

-- what the guard has noted of the page and of those round it, in the place
notes : (n : Numbers) (outers : List Outer) (a : AroundGuarded) (s : State) → AllHeld outers a.kept → keeps_the_page outers (outline_tokens n) s ≡ true → Notes (placed_at a s) n a.place.chain outers
notes n outers a s h e =
    let x = means s (codes "PStoPSmatrix") in
    let place : Bool = holds_the_place x s.work.made s.kept in
    let outline : Bool = is_procedure (means s (codes "PStoPSclip")) (outline_tokens n) in
    let clip : Bool = is_procedure (means s (codes "ImposeClip")) clips_tokens in
    let path : Bool = is_procedure (means s (codes "ImposePath")) pathforall_tokens in
    let names : Bool = all_absent outline_names s.work.dictionaries s.work.entries in
    let others : Bool = keeps_outers outers s.work.dictionaries s.work.made s.work.entries s.kept in
    let there = the_place x s.work.made s.kept (first place (outline && (clip && (path && (names && others)))) e) in
    let e1 = second place (outline && (clip && (path && (names && others)))) e in
    let e2 = second outline (clip && (path && (names && others))) e1 in
    let e3 = second clip (path && (names && others)) e2 in
    let e4 = second path (names && others) e3 in
    record {
      number = there.0;
      page = record {
        older = there.2;
        matrix_is = there.1;
        holds = subst (λ z. Holds a z (chain_of there.0 (map (kept_at a.place) s.kept ++ a.kept))) there.3 (holds a there.0 s.kept);
        outline_is = procedure_is (means s (codes "PStoPSclip")) (outline_tokens n) (first outline (clip && (path && (names && others))) e1);
        clip_is = procedure_is (means s (codes "ImposeClip")) clips_tokens (first clip (path && (names && others)) e2);
        names = first names others e4;
      };
      round = outers_noted outers a.place s.work.dictionaries s.work.made s.work.entries s.kept a.kept (second names others e4) h;
      path_is = procedure_is (means s (codes "ImposePath")) pathforall_tokens (first path (names && others) e3);
    }

-- back on the paper is back at the beginning, placed
clips_again : (n : Numbers) (outers : List Outer) (a : AroundGuarded) (s : State) → IsOnPaper n outers a → keeps_the_page outers (outline_tokens n) s ≡ true → is_drawn_anew s.graphics.chain s.graphics.path [] ≡ true
    → Runs false (run_of (initclip_tokens ++ (s.left ++ a.left)) (placed_at a s)) (placed_at a (unclipped s))
clips_again n outers a s p e f =
    let t : State = placed_at a (unclipped s) in
    subst (λ clip. Runs false (run_of (initclip_tokens ++ (s.left ++ a.left)) (placed_at a s)) (record t { graphics = record t.graphics { clip = clip } })) (sym p.0)
    (clip_is_the_pages (placed_at a s) n a.place.chain outers (s.left ++ a.left) (notes n outers a s p.2 e) (anew_in_place a.place s.graphics.chain s.graphics.path [] p.1 f))

begins_again : (n : Numbers) (outers : List Outer) (a : AroundGuarded) (s : State) → IsOnPaper n outers a → keeps_the_page outers (outline_tokens n) s ≡ true
    → Runs false (run_of (initgraphics_tokens ++ (s.left ++ a.left)) (placed_at a s)) (placed_at a (as_it_began s))
begins_again n outers a s p e =
    let t : State = placed_at a (as_it_began s) in
    subst (λ clip. Runs false (run_of (initgraphics_tokens ++ (s.left ++ a.left)) (placed_at a s)) (record t { graphics = record t.graphics { clip = clip } })) (sym p.0)
    (graphics_are_the_pages (placed_at a s) n a.place.chain outers (s.left ++ a.left) (notes n outers a s p.2 e))

-- a procedure that is neither is run as it is
enters_if : (a : AroundGuarded) (b c d e : Bool) (x y z : State) (r : Option State) → (u : State) → r ≡ Some u
    → (b ≡ true → c ≡ true → Runs false u (placed_at a x)) → (d ≡ true → e ≡ true → Runs false u (placed_at a y)) → Runs false u (placed_at a z)
    → Reaches a (if b then (if c then Some x else None) else if d then (if e then Some y else None) else Some z) r
enters_if a true true d e x y z r u k f g h = (u, k, f refl refl)
enters_if a true false d e x y z r u k f g h = tt
enters_if a false c true true x y z r u k f g h = (u, k, g refl refl)
enters_if a false c true false x y z r u k f g h = tt
enters_if a false c false e x y z r u k f g h = (u, k, h)

enters : (n : Numbers) (outers : List Outer) (a : AroundGuarded) (ts : List Token) (s : State) → IsOnPaper n outers a → Reaches a (entered outers (outline_tokens n) ts s) (effect_of_value false (Procedure ts) (placed_at a s))
enters n outers a ts s p =
    let u : State = run_of (ts ++ (s.left ++ a.left)) (placed_at a s) in
    let keeps : Bool = keeps_the_page outers (outline_tokens n) s in
    let to : State → List Token → Type 0 = λ t l. Runs false (run_of (l ++ (s.left ++ a.left)) (placed_at a s)) (placed_at a t) in
    enters_if a (are_same_tokens ts initclip_tokens) (keeps && is_drawn_anew s.graphics.chain s.graphics.path []) (are_same_tokens ts initgraphics_tokens) keeps
    (unclipped s) (as_it_began s) (record s { left = ts ++ s.left }) (Some u) u refl
    (λ same k. subst (to (unclipped s)) (sym (same_tokens ts initclip_tokens same)) (clips_again n outers a s p (first keeps (is_drawn_anew s.graphics.chain s.graphics.path []) k) (second keeps (is_drawn_anew s.graphics.chain s.graphics.path []) k)))
    (λ same k. subst (to (as_it_began s)) (sym (same_tokens ts initgraphics_tokens same)) (begins_again n outers a s p k))
    (subst (λ l. Runs false u (record (placed_at a s) { left = l })) (sym (append_assoc ts s.left a.left)) (runs_none false u))

-- Steps.

does : (n : Numbers) (outers : List Outer) (a : AroundGuarded) (o : Object) (s : State) → IsOnPaper n outers a → Reaches a (did outers (outline_tokens n) o s) (effect_of_value false o (placed_at a s))
does n outers a (Procedure ts) s p = enters n outers a ts s p
does n outers a (Plain (Name name)) s p = (placed_at a (record s { left = Name name ∷ s.left }), refl, runs_none false (placed_at a (record s { left = Name name ∷ s.left })))
does n outers a (Operator name k) s p = at_once a (performed name k s) (perform false name k (placed_at a s)) (performs a name k s)
does n outers a o s p = at_once a (did outers (outline_tokens n) o s) (effect_of_value false o (placed_at a s)) refl

means_it : (n : Numbers) (outers : List Outer) (a : AroundGuarded) (x : Option Object) (s : State) → IsOnPaper n outers a → Reaches a (meant_sheltered outers (outline_tokens n) x s) (free_meant false x (placed_at a s))
means_it n outers a None s p = tt
means_it n outers a (Some o) s p = does n outers a o s p

acts : (n : Numbers) (outers : List Outer) (a : AroundGuarded) (t : Token) (s : State) → IsOnPaper n outers a → Reaches a (act_sheltered outers (outline_tokens n) t s) (free_act false t (placed_at a s))
acts n outers a (Name name) s p = means_it n outers a (means s name) s p
acts n outers a (Bound name) s p = means_it n outers a (system name) s p
acts n outers a Opens s p =
    at_once a (opened (body_of s.left 0) s) (opened (body_of (s.left ++ a.left) 0) (placed_at a s))
    (opens a (body_of s.left 0) (body_of (s.left ++ a.left) 0) s (body_goes_on a.left s.left 0))
acts n outers a Closes s p = tt
acts n outers a Unknown s p = tt
acts n outers a t s p = at_once a (act_sheltered outers (outline_tokens n) t s) (free_act false t (placed_at a s)) refl

steps_there : (n : Numbers) (outers : List Outer) (a : AroundGuarded) (ts : List Token) (s : State) → IsOnPaper n outers a
    → Reaches a (step_sheltered outers (outline_tokens n) ts s) (step false (record (placed_at a s) { left = ts ++ a.left }))
steps_there n outers a [] s p = tt
steps_there n outers a (t ∷ ts) s p = acts n outers a t (record s { left = ts }) p

reached : (a : AroundGuarded) (s t : State) (x : Option State) → Reaches a x (step false s) → x ≡ Some t → Runs false s (placed_at a t)
reached a s t None f e = absurd (nothing None t refl e)
reached a s t (Some r) f e = subst (λ u. Runs false s (placed_at a u)) (some_is r t e) (runs_one false s f.0 (placed_at a r) f.1 f.2)

pub shelter_commutes : ShelterCommutes
shelter_commutes n outers a s t p run =
    follow (shelter_step outers (outline_tokens n)) (step false) (placed_at a)
    (λ u v e. reached a (placed_at a u) v (shelter_step outers (outline_tokens n) u) (steps_there n outers a u.left u p) e) s t run
