-- A machine in a placed state does what it does in the state, placed.
use Rattle.std.specs.Prelude.{Option, Some, None}
use Rattle.std.proofs.Common.{◌≡◌, ℕ, zero, suc, refl, ap, sym, subst, ◌==◌, if◌then◌else◌, List, [], ◌∷◌, ◌++◌, map, append_assoc, Bool, true, false}
use Rattle.pictures.specs.Objects.{Token, Name, Opens, Closes, Bound, Unknown, Object, Procedure, Plain}
use Rattle.pictures.specs.Objects.{Saved, Operator, Kind, Computes, Controls, Draws, PushesGraphics, PopsGraphics, PopsAllGraphics, Looks, Saves, Restores, Ships, Resets, Copies, CopyOperands, Matrix, Call}
use Rattle.pictures.specs.Objects.{Effect, Segments, Transforms, Sets, Paints, PaintsBeside, Shows, Clips, Forgets}
use Rattle.pictures.specs.Operators.{Work, taken, computed, computed_on, controlled}
use Rattle.pictures.specs.Dictionaries.{meaning, system}
use Rattle.pictures.specs.Machine.{State, Graphics, Snapshot, keep, body_of, opened, drawn, worked, running, popped, popped_all, save_of, back_to, returned, restored, chain_of, filled_from, copied, perform, effect_of_value, meant, act, step_on, step, may_go_back}
use Rattle.pictures.specs.Placing.{Around, state_at, snapshot_at, graphics_at}
use Rattle.pictures.specs.Pictures.{PlacingCommutes}
use Rattle.pictures.proofs.Runs.{follow_steps}

-- if the one goes on, the other does, placed
abbrev pub Follows : Around → Option State → Option State → Type 0
Follows a None r = Unit {0}
Follows a (Some t) r = r ≡ Some (state_at a t)

-- if the one finds a procedure, the other finds it, followed by more
abbrev pub Extends : List Token → Option (List Token × List Token) → Option (List Token × List Token) → Type 0
Extends more None r = Unit {0}
Extends more (Some (ts, rest)) r = r ≡ Some (ts, rest ++ more)

keeps : (more : List Token) (t : Token) (x y : Option (List Token × List Token)) → Extends more x y → Extends more (keep t x) (keep t y)
keeps more t None y h = tt
keeps more t (Some (ts, rest)) y h = ap (keep t) h

pub body_goes_on : (more ts : List Token) (depth : ℕ) → Extends more (body_of ts depth) (body_of (ts ++ more) depth)
body_goes_on more [] depth = tt
body_goes_on more (Closes ∷ ts) zero = refl
body_goes_on more (Closes ∷ ts) (suc depth) = keeps more Closes (body_of ts depth) (body_of (ts ++ more) depth) (body_goes_on more ts depth)
body_goes_on more (Opens ∷ ts) depth = keeps more Opens (body_of ts (suc depth)) (body_of (ts ++ more) (suc depth)) (body_goes_on more ts (suc depth))
body_goes_on more (Unknown ∷ ts) depth = tt
body_goes_on more (t ∷ ts) depth = keeps more t (body_of ts depth) (body_of (ts ++ more) depth) (body_goes_on more ts depth)

opens : (a : Around) (x y : Option (List Token × List Token)) (s : State) → Extends a.left x y → Follows a (opened x s) (opened y (state_at a s))
opens a None y s h = tt
opens a (Some (ts, rest)) y s h = ap (λ r. opened r (state_at a s)) h

draws : (a : Around) (e : Effect) (name : List ℕ) (x : Option (List Object × List Object)) (s : State) → Follows a (drawn e name x s) (drawn e name x (state_at a s))
draws a e name None s = tt
draws a Segments name (Some (os, rest)) s = refl
draws a Transforms name (Some (os, rest)) s = refl
draws a Sets name (Some (os, rest)) s = refl
draws a Paints name (Some (os, rest)) s = refl
draws a PaintsBeside name (Some (os, rest)) s = refl
draws a Shows name (Some (os, rest)) s = refl
draws a Clips name (Some (os, rest)) s = refl
draws a Forgets name (Some (os, rest)) s = refl

works : (a : Around) (x : Option Work) (s : State) → Follows a (worked x s) (worked x (state_at a s))
works a None s = tt
works a (Some w) s = refl

goes_before : (a : Around) (ts : List Token) (s : State) →
    (Some (record (state_at a s) { left = ts ++ (s.left ++ a.left) })) ≡ Some (state_at a (record s { left = ts ++ s.left }))
goes_before a ts s = ap (λ l. Some (record (state_at a s) { left = l })) (sym (append_assoc ts s.left a.left))

runs_next : (a : Around) (x : Option (List Token × Work)) (s : State) → Follows a (running x s) (running x (state_at a s))
runs_next a None s = tt
runs_next a (Some (ts, w)) s = goes_before a ts (record s { work = w })

pops : (a : Around) (s : State) (gs : List Graphics) (shots : List Snapshot) →
    Follows a (popped gs (record s { saves = shots })) (popped (map (graphics_at a.place) gs) (state_at a (record s { saves = shots })))
pops a s (g ∷ gs) shots = refl
pops a s [] [] = tt
pops a s [] (shot ∷ shots) = refl

pops_all : (a : Around) (s : State) (shots : List Snapshot) →
    Follows a (popped_all shots (record s { saves = shots })) (popped_all (map (snapshot_at a.place) shots ++ a.saves) (state_at a (record s { saves = shots })))
pops_all a s [] = tt
pops_all a s (shot ∷ shots) = refl

abbrev Finds : Around → Option (Snapshot × List Snapshot) → Option (Snapshot × List Snapshot) → Type 0
Finds a None y = Unit {0}
Finds a (Some (shot, shots)) y = y ≡ Some (snapshot_at a.place shot, map (snapshot_at a.place) shots ++ a.saves)

choose_save : (a : Around) (here : Bool) (shot : Snapshot) (shots : List Snapshot) (x y : Option (Snapshot × List Snapshot)) → Finds a x y →
    Finds a (if here then Some (shot, shots) else x) (if here then Some (snapshot_at a.place shot, map (snapshot_at a.place) shots ++ a.saves) else y)
choose_save a true shot shots x y h = refl
choose_save a false shot shots x y h = h

finds_save : (a : Around) (level : ℕ) (shots : List Snapshot) → Finds a (save_of level shots) (save_of level (map (snapshot_at a.place) shots ++ a.saves))
finds_save a level [] = tt
finds_save a level (shot ∷ shots) =
    choose_save a (shot.level == level) shot shots (save_of level shots) (save_of level (map (snapshot_at a.place) shots ++ a.saves)) (finds_save a level shots)

goes_back_if : (a : Around) (may : Bool) (t : State) → Follows a (if may then Some t else None) (if may then Some (state_at a t) else None)
goes_back_if a true t = refl
goes_back_if a false t = tt

goes_back : (a : Around) (os : List Object) (x y : Option (Snapshot × List Snapshot)) (s : State) → Finds a x y → Follows a (back_to os x s) (back_to os y (state_at a s))
goes_back a os None y s h = tt
goes_back a os (Some (shot, shots)) y s h = goes (back_there shot shots)
  where
    back_there : (shot : Snapshot) (shots : List Snapshot) → Follows a (back_to os (Some (shot, shots)) s) (back_to os (Some (snapshot_at a.place shot, map (snapshot_at a.place) shots ++ a.saves)) (state_at a s))
    back_there shot shots = goes_back_if a (may_go_back shot os s.work) (returned os shot shots s)

    goes : Follows a (back_to os (Some (shot, shots)) s) (back_to os (Some (snapshot_at a.place shot, map (snapshot_at a.place) shots ++ a.saves)) (state_at a s)) → Follows a (back_to os (Some (shot, shots)) s) (back_to os y (state_at a s))
    goes f = subst (λ z. Follows a (back_to os (Some (shot, shots)) s) (back_to os z (state_at a s))) (sym h) f

restores : (a : Around) (os : List Object) (s : State) → Follows a (restored os s) (restored os (state_at a s))
restores a (Saved level ∷ os) s = goes_back a os (save_of level s.saves) (save_of level (state_at a s).saves) s (finds_save a level s.saves)
restores a os s = tt

fills : (a : Around) (x : Option (List Call)) (n : ℕ) (os : List Object) (s : State) → Follows a (filled_from x n os s) (filled_from x n os (state_at a s))
fills a None n os s = tt
fills a (Some chain) n os s = refl

copies : (a : Around) (os : List Object) (s : State) → Follows a (copied os s) (copied os (state_at a s))
copies a (Matrix n ∷ Matrix m ∷ os) s = fills a (chain_of m s.kept) n os s
copies a os s = works a (computed_on CopyOperands os s.work) s

performs : (a : Around) (name : List ℕ) (k : Kind) (s : State) → Follows a (perform true name k s) (perform false name k (state_at a s))
performs a name (Computes c) s = works a (computed c s.work) s
performs a name (Controls c) s = runs_next a (controlled c s.work) s
performs a name (Draws wants e) s = draws a e name (taken wants s.work.operands) s
performs a name PushesGraphics s = refl
performs a name PopsGraphics s = pops a s s.stacked s.saves
performs a name PopsAllGraphics s = pops_all a s s.saves
performs a name (Looks v) s = tt
performs a name Saves s = refl
performs a name Restores s = restores a s.work.operands s
performs a name Ships s = tt
performs a name Resets s = tt
performs a name Copies s = copies a s.work.operands s

does : (a : Around) (o : Object) (s : State) → Follows a (effect_of_value true o s) (effect_of_value false o (state_at a s))
does a (Procedure ts) s = goes_before a ts s
does a (Plain (Name name)) s = refl
does a (Operator name kind) s = performs a name kind s
does a o s = refl

means : (a : Around) (x : Option Object) (s : State) → Follows a (meant true x s) (meant false x (state_at a s))
means a None s = tt
means a (Some o) s = does a o s

acts : (a : Around) (t : Token) (s : State) → Follows a (act true t s) (act false t (state_at a s))
acts a (Name name) s = means a (meaning s.work.dictionaries s.work.entries name) s
acts a (Bound name) s = means a (system name) s
acts a Opens s = opens a (body_of s.left 0) (body_of (s.left ++ a.left) 0) s (body_goes_on a.left s.left 0)
acts a Closes s = tt
acts a Unknown s = tt
acts a t s = refl

steps_on : (a : Around) (s : State) (ts : List Token) → Follows a (step_on true ts s) (step_on false (ts ++ a.left) (state_at a s))
steps_on a s [] = tt
steps_on a s (t ∷ ts) = acts a t (record s { left = ts })

pub steps_there : (a : Around) (s : State) → Follows a (step true s) (step false (state_at a s))
steps_there a s = steps_on a s s.left

pub placing_commutes : PlacingCommutes
placing_commutes a s t run =
    follow_steps (step true) (step false) (state_at a) (λ u v e. subst (λ r. Follows a r (step false (state_at a u))) e (steps_there a u)) s t run
