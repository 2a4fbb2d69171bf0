-- More tokens after those that are left change nothing, except that they are left too.
use Rattle.std.specs.Prelude.{Option, Some, None}
use Rattle.std.proofs.Common.{◌≡◌, ℕ, refl, ap, sym, subst, if◌then◌else◌, List, [], ◌∷◌, ◌++◌, append_assoc, Bool, true, false}
use Rattle.pictures.specs.Objects.{Token, Name, Opens, Closes, Bound, Unknown, Object, Procedure, Plain, Matrix, Dictionary, View, TakesMatrix, SetsMatrix, DefaultMatrix, InitialMatrix, InitialClip, ClipOutline, PathElements, SetsDevice, ErasesPage, Call}
use Rattle.pictures.specs.Objects.{Saved, Operator, Kind, Computes, Controls, Draws, PushesGraphics, PopsGraphics, PopsAllGraphics, Looks, Saves, Restores, Ships, Resets, Copies, CopyOperands}
use Rattle.pictures.specs.Objects.{Effect}
use Rattle.pictures.specs.Operators.{Work, with_operands, taken, computed, computed_on, controlled}
use Rattle.pictures.specs.Dictionaries.{meaning, system}
use Rattle.pictures.specs.Machine.{State, Graphics, Snapshot, Clip, body_of, opened, drawn, worked, running, popped, popped_all, viewed, set_to, outlined, traced, chain_of, filled_from, copied, path_tokens, save_of, back_to, returned, restored, perform, effect_of_value, meant, act, step_on, step, Runs, may_go_back}
use Rattle.pictures.specs.Sheets.{with_more}
use Rattle.pictures.proofs.Runs.{follow_steps}
use Rattle.pictures.proofs.Commutes.{Extends, body_goes_on}

-- where the one goes on, the other does
abbrev Follows : List Token → Option State → Option State → Type 0
Follows more None r = Unit {0}
Follows more (Some t) r = r ≡ Some (with_more more t)

opens : (more : List Token) (x y : Option (List Token × List Token)) (s : State) → Extends more x y → Follows more (opened x s) (opened y (with_more more s))
opens more None y s h = tt
opens more (Some (ts, rest)) y s h = ap (λ r. opened r (with_more more s)) h

draws : (more : List Token) (e : Effect) (name : List ℕ) (x : Option (List Object × List Object)) (s : State) → Follows more (drawn e name x s) (drawn e name x (with_more more s))
draws more e name None s = tt
draws more e name (Some (os, rest)) s = refl

works : (more : List Token) (x : Option Work) (s : State) → Follows more (worked x s) (worked x (with_more more s))
works more None s = tt
works more (Some w) s = refl

goes_before : (more ts : List Token) (s : State) → Some (record s { left = ts ++ (s.left ++ more) }) ≡ Some (with_more more (record s { left = ts ++ s.left }))
goes_before more ts s = ap (λ l. Some (record s { left = l })) (sym (append_assoc ts s.left more))

runs_next : (more : List Token) (x : Option (List Token × Work)) (s : State) → Follows more (running x s) (running x (with_more more s))
runs_next more None s = tt
runs_next more (Some (ts, w)) s = goes_before more ts (record s { work = w })

pops : (more : List Token) (s : State) (gs : List Graphics) (shots : List Snapshot) →
    Follows more (popped gs (record s { saves = shots })) (popped gs (with_more more (record s { saves = shots })))
pops more s (g ∷ gs) shots = refl
pops more s [] [] = tt
pops more s [] (shot ∷ shots) = refl

pops_all : (more : List Token) (s : State) (shots : List Snapshot) → Follows more (popped_all shots s) (popped_all shots (with_more more s))
pops_all more s [] = tt
pops_all more s (shot ∷ shots) = refl

sets : (more : List Token) (x : Option (List Call)) (os : List Object) (s : State) → Follows more (set_to x os s) (set_to x os (with_more more s))
sets more None os s = tt
sets more (Some chain) os s = refl

outlines : (more : List Token) (name : List ℕ) (cs : List Clip) (s : State) → Follows more (outlined name cs s) (outlined name cs (with_more more s))
outlines more name [] s = refl
outlines more name (c ∷ cs) s = tt

traces : (more : List Token) (x : Option (List Token)) (os : List Object) (s : State) → Follows more (traced x os s) (traced x os (with_more more s))
traces more None os s = tt
traces more (Some ts) os s = goes_before more ts (record s { work = with_operands s.work os })

looks : (more : List Token) (v : View) (name : List ℕ) (os : List Object) (s : State) → Follows more (viewed v name os s) (viewed v name os (with_more more s))
looks more TakesMatrix name (Matrix n ∷ os) s = refl
looks more SetsMatrix name (Matrix n ∷ os) s = sets more (chain_of n s.kept) os s
looks more DefaultMatrix name (Matrix n ∷ os) s = refl
looks more InitialMatrix name os s = refl
looks more InitialClip name os s = refl
looks more ClipOutline name os s = outlines more name s.graphics.clip s
looks more PathElements name (Procedure closes ∷ Procedure curves ∷ Procedure lines ∷ Procedure moves ∷ os) s =
    traces more (path_tokens s.graphics.chain moves lines curves closes s.graphics.path [] []) os s
looks more SetsDevice name (Dictionary d ∷ os) s = refl
looks more ErasesPage name os s = refl
looks more v name os s = tt

goes_back_if : (more : List Token) (may : Bool) (t : State) → Follows more (if may then Some t else None) (if may then Some (with_more more t) else None)
goes_back_if more true t = refl
goes_back_if more false t = tt

goes_back : (more : List Token) (os : List Object) (x : Option (Snapshot × List Snapshot)) (s : State) → Follows more (back_to os x s) (back_to os x (with_more more s))
goes_back more os None s = tt
goes_back more os (Some (shot, shots)) s = goes_back_if more (may_go_back shot os s.work) (returned os shot shots s)

restores : (more : List Token) (os : List Object) (s : State) → Follows more (restored os s) (restored os (with_more more s))
restores more (Saved level ∷ os) s = goes_back more os (save_of level s.saves) s
restores more os s = tt

fills : (more : List Token) (x : Option (List Call)) (n : ℕ) (os : List Object) (s : State) → Follows more (filled_from x n os s) (filled_from x n os (with_more more s))
fills more None n os s = tt
fills more (Some chain) n os s = refl

copies : (more : List Token) (os : List Object) (s : State) → Follows more (copied os s) (copied os (with_more more s))
copies more (Matrix n ∷ Matrix m ∷ os) s = fills more (chain_of m s.kept) n os s
copies more os s = works more (computed_on CopyOperands os s.work) s

performs : (more : List Token) (name : List ℕ) (k : Kind) (s : State) → Follows more (perform false name k s) (perform false name k (with_more more s))
performs more name (Computes c) s = works more (computed c s.work) s
performs more name (Controls c) s = runs_next more (controlled c s.work) s
performs more name (Draws wants e) s = draws more e name (taken wants s.work.operands) s
performs more name PushesGraphics s = refl
performs more name PopsGraphics s = pops more s s.stacked s.saves
performs more name PopsAllGraphics s = pops_all more s s.saves
performs more name (Looks v) s = looks more v name s.work.operands s
performs more name Saves s = refl
performs more name Restores s = restores more s.work.operands s
performs more name Ships s = refl
performs more name Resets s = refl
performs more name Copies s = copies more s.work.operands s

does : (more : List Token) (o : Object) (s : State) → Follows more (effect_of_value false o s) (effect_of_value false o (with_more more s))
does more (Procedure ts) s = goes_before more ts s
does more (Plain (Name name)) s = refl
does more (Operator name kind) s = performs more name kind s
does more o s = refl

means : (more : List Token) (x : Option Object) (s : State) → Follows more (meant false x s) (meant false x (with_more more s))
means more None s = tt
means more (Some o) s = does more o s

acts : (more : List Token) (t : Token) (s : State) → Follows more (act false t s) (act false t (with_more more s))
acts more (Name name) s = means more (meaning s.work.dictionaries s.work.entries name) s
acts more (Bound name) s = means more (system name) s
acts more Opens s = opens more (body_of s.left 0) (body_of (s.left ++ more) 0) s (body_goes_on more s.left 0)
acts more Closes s = tt
acts more Unknown s = tt
acts more t s = refl

steps_on : (more : List Token) (s : State) (ts : List Token) → Follows more (step_on false ts s) (step_on false (ts ++ more) (with_more more s))
steps_on more s [] = tt
steps_on more s (t ∷ ts) = acts more t (record s { left = ts })

pub runs_with_more : (more : List Token) (s t : State) → Runs false s t → Runs false (with_more more s) (with_more more t)
runs_with_more more s t run =
    follow_steps (step false) (step false) (with_more more) (λ u v e. subst (λ r. Follows more r (step false (with_more more u))) e (steps_on more u u.left)) s t run
