-- A placed page of a guarded document paints what it paints by itself, placed.
use Rattle.std.specs.Prelude.{Option, Some, None, if◌then◌else◌, codes}
use Rattle.std.proofs.Common.{◌≡◌, ℕ, refl, ap, ap₂, ◌∙◌, sym, subst, Bool, true, false, ◌&&◌, ◌==◌, List, [], ◌∷◌, ◌++◌, map, append_assoc, eq-eqb, true≢false, is_none}
use Rattle.pictures.specs.Objects.{Token, Name, Object, Saved}
use Rattle.pictures.specs.Chains.{is_same_chain}
use Rattle.pictures.specs.Dictionaries.{system}
use Rattle.pictures.specs.Operators.{all_old, all_are_old}
use Rattle.pictures.specs.Machine.{State, Painting, Snapshot, push, Runs, back_to, save_of}
use Rattle.pictures.specs.Placing.{Place, picture_at}
use Rattle.pictures.specs.Sheets.{run_of, Numbers, Shown, saving_tokens, placing_tokens, closing_tokens, placed_tokens, LeavesAsItWas, page_picture, place_in, border_in}
use Rattle.pictures.proofs.Runs.{AreRuns, free_are_runs, runs_one, runs_none, name_step}
use Rattle.pictures.proofs.Opening.{snapshot_of}
use Rattle.pictures.proofs.Placed.{both_true}
use Rattle.pictures.specs.Shelter.{Outer, sheltered, outline_tokens}
use Rattle.pictures.specs.Lines.{clip_to}
use Rattle.pictures.specs.Pages.{HasGuard, IsGuarded, TakesPages, AroundGuarded, around, guarded_snapshot_at, placed_at, IsOnPaper, GuardedPageIsPlaced}
use Rattle.pictures.proofs.Sheltering.{shelter_commutes}
use Rattle.pictures.proofs.Begins.{page_begins, same_place}

-- the state after a placed page, before what is left
abbrev pub behind : List Token → Numbers → State → List Painting → State
behind l n s picture = record s { left = l; painted = picture_at (place_in s.graphics n) picture ++ (border_in s.graphics n n.border ++ s.painted) }

-- what restore makes, with these operands and dictionaries
abbrev gone_back : List Token → Numbers → State → List Painting → List Object → List ℕ → State
gone_back l n s picture os ds = record (behind l n s picture) { work = record s.work { operands = os; dictionaries = ds } }

past : {A : Type 0} (b : Bool) (v w : A) (x y z : Option A) → (x ≡ None → y ≡ z) → (if b then Some w else x) ≡ None → (if b then Some v else y) ≡ z
past true v w x y z f e = absurd (true≢false (sym (ap is_none e)))
past false v w x y z f e = f e

-- saves of other levels are passed over
passed_over : (a : AroundGuarded) (level : ℕ) (shots more : List Snapshot) → save_of level shots ≡ None → save_of level (map (guarded_snapshot_at a) shots ++ more) ≡ save_of level more
passed_over a level [] more e = refl
passed_over a level (shot ∷ shots) more e =
    past (shot.level == level) (guarded_snapshot_at a shot, map (guarded_snapshot_at a) shots ++ more) (shot, shots) (save_of level shots) (save_of level (map (guarded_snapshot_at a) shots ++ more)) (save_of level more)
    (passed_over a level shots more) e

restoring : (s t : State) (n : Numbers) (rest more : List Token) → all_are_old s.work.made s.level s.work.operands ≡ true → all_old s.work.made s.work.dictionaries ≡ true → LeavesAsItWas s t
    → back_to t.work.operands (save_of s.level (placed_at (around more n s) t).saves) (run_of rest (push (Saved s.level) (placed_at (around more n s) t)))
    ≡ Some (behind rest n s t.painted)
restoring s t n rest more old_operands old_dictionaries l =
    let x : State = run_of rest (push (Saved s.level) (placed_at (around more n s) t)) in
    let may : (all_are_old s.work.made s.level t.work.operands && all_old s.work.made t.work.dictionaries) ≡ true =
    ap₂ (λ os ds. all_are_old s.work.made s.level os && all_old s.work.made ds) l.operands l.dictionaries ∙ both_true _ _ old_operands old_dictionaries in
    ap (λ found. back_to t.work.operands found x) (passed_over (around more n s) s.level t.saves (snapshot_of s ∷ s.saves) l.saves)
    ∙ ap (λ b. back_to t.work.operands (if b then Some (snapshot_of s, s.saves) else save_of s.level s.saves) x) (eq-eqb s.level s.level refl)
    ∙ ap (λ b. if b then Some (gone_back rest n s t.painted t.work.operands t.work.dictionaries) else None) may
    ∙ ap₂ (λ os ds. Some (gone_back rest n s t.painted os ds)) l.operands l.dictionaries

pub closing : (s t : State) (n : Numbers) (rest : List Token) → all_are_old s.work.made s.level s.work.operands ≡ true → all_old s.work.made s.work.dictionaries ≡ true → LeavesAsItWas s t
    → Runs false (placed_at (around (closing_tokens ++ rest) n s) t) (behind rest n s t.painted)
closing s t n rest old_operands old_dictionaries l =
    let a : AroundGuarded = around (closing_tokens ++ rest) n s in
    let p : State = placed_at a t in
    let q : State = record p { left = Name (codes "restore") ∷ rest } in
    let start : Runs false (run_of (closing_tokens ++ rest) p) (behind rest n s t.painted) =
    runs_one false (run_of (closing_tokens ++ rest) p) (push (Saved s.level) q) (behind rest n s t.painted)
    (name_step false (codes "ImposeSave") (Name (codes "restore") ∷ rest) p (Some (Saved s.level)) l.save_name)
    (runs_one false (push (Saved s.level) q) (behind rest n s t.painted) (behind rest n s t.painted)
    (name_step false (codes "restore") rest (push (Saved s.level) p) (system (codes "restore")) l.restore_name ∙ restoring s t n rest (closing_tokens ++ rest) old_operands old_dictionaries l)
    (runs_none false (behind rest n s t.painted))) in
    subst (λ x. Runs false (record p { left = x ++ (closing_tokens ++ rest) }) (behind rest n s t.painted)) (sym l.nothing_left) start

-- the place has the clips to the paper's edge and to those round it
pub on_paper : (outers : List Outer) (s : State) (n : Numbers) (l : List Token) → TakesPages outers s → IsOnPaper n outers (around l n s)
on_paper outers s n l g = (
  ap (λ clips. clip_to n (place_in s.graphics n).chain ∷ clips) g.clips,
  same_place n s.graphics.chain g.numbers,
  g.held,
)

-- a guarded state is outside all pages
pub takes_pages : (s : State) → IsGuarded s → TakesPages [] s
takes_pages s g = record {
  guard = g.guard;
  userdict_first = g.userdict_first;
  encloses = g.flag_is;
  shows = (g.showpage_is, g.show_is);
  clips = sym (ap (λ z. z.clip) g.graphics);
  numbers = subst (λ l. is_same_chain l l ≡ true) (ap (λ z. z.chain) g.graphics) refl;
  held = tt;
}

abbrev pub middle_tokens : Numbers → List Token → List Token → List Token
middle_tokens n body rest = saving_tokens ++ (placing_tokens n ++ (body ++ (closing_tokens ++ rest)))

pub bracketed : (n : Numbers) (body rest : List Token) → placed_tokens (record { numbers = n; body = body }) ++ rest ≡ middle_tokens n body rest
bracketed n body rest =
    append_assoc saving_tokens (placing_tokens n ++ (body ++ closing_tokens)) rest
    ∙ ap (λ l. saving_tokens ++ l) (append_assoc (placing_tokens n) (body ++ closing_tokens) rest ∙ ap (λ l. placing_tokens n ++ l) (append_assoc body closing_tokens rest))

-- in any machine a page is placed that begins in its place after t, and that paints its picture there
pub placed_from : (R : State → State → Type 0) → AreRuns R → (outers : List Outer) (s t end : State) (x : Shown) (rest : List Token) → HasGuard t.work t.level
    → R (run_of (middle_tokens x.placed.numbers x.placed.body rest) s) (placed_at (around (closing_tokens ++ rest) x.placed.numbers t) (sheltered outers t (outline_tokens x.placed.numbers) x.placed.body))
    → R (placed_at (around (closing_tokens ++ rest) x.placed.numbers t) (sheltered outers t (outline_tokens x.placed.numbers) x.placed.body)) (placed_at (around (closing_tokens ++ rest) x.placed.numbers t) end)
    → LeavesAsItWas t end → end.painted ≡ x.picture
    → R (run_of (placed_tokens x.placed ++ rest) s) (record t { left = rest; painted = page_picture t.graphics x ++ t.painted })
placed_from R m outers s t end x rest g begins runs leaves paints =
    let n : Numbers = x.placed.numbers in
    let a : AroundGuarded = around (closing_tokens ++ rest) n t in
    let begun : State = placed_at a (sheltered outers t (outline_tokens n) x.placed.body) in
    let start : State = run_of (middle_tokens n x.placed.body rest) s in
    let place : Place = place_in t.graphics n in
    let border : List Painting = border_in t.graphics n n.border in
    let picture : picture_at place end.painted ++ (border ++ t.painted) ≡ page_picture t.graphics x ++ t.painted =
    ap (λ ps. picture_at place ps ++ (border ++ t.painted)) paints ∙ sym (append_assoc (picture_at place x.picture) border t.painted) in
    subst (λ l. R (run_of l s) (record t { left = rest; painted = page_picture t.graphics x ++ t.painted })) (sym (bracketed n x.placed.body rest))
    (subst (λ ps. R start (record t { left = rest; painted = ps })) picture
    (m.joined start begun (behind rest n t end.painted) begins
    (m.joined begun (placed_at a end) (behind rest n t end.painted) runs
    (m.free (placed_at a end) (behind rest n t end.painted) (closing t end n rest g.operands g.dictionaries leaves)))))

pub guarded_page_is_placed : GuardedPageIsPlaced
guarded_page_is_placed outers s x rest g h =
    let n : Numbers = x.placed.numbers in
    let more : List Token = closing_tokens ++ rest in
    placed_from (Runs false) free_are_runs outers s s h.end x rest g.guard (page_begins outers s n x.placed.body more g)
    (shelter_commutes n outers (around more n s) (sheltered outers s (outline_tokens n) x.placed.body) h.end (on_paper outers s n more g) h.run) h.leaves h.picture_is
