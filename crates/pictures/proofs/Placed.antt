-- A placed page paints its own picture, placed.
use Rattle.std.specs.Prelude.{Option, Some, None, if◌then◌else◌, codes, bytes_eq}
use Rattle.std.proofs.Common.{◌≡◌, ℕ, refl, ap, ap₂, ◌∙◌, sym, subst, Bool, true, false, ◌&&◌, ◌||◌, ◌==◌, List, [], ◌∷◌, ◌++◌, map, append_assoc, eq-eqb, true≢false, is_none}
use Rattle.pictures.specs.Objects.{Token, Name, Object, Saved}
use Rattle.pictures.specs.Dictionaries.{system}
use Rattle.pictures.specs.Operators.{all_old, all_are_old}
use Rattle.pictures.specs.Machine.{State, Painting, Snapshot, push, Runs, back_to, save_of}
use Rattle.pictures.specs.Placing.{Place, Around, state_at, snapshot_at, picture_at}
use Rattle.pictures.specs.Sheets.{run_of, IsGround, Numbers, Placed, Shown, saving_tokens, placing_tokens, closing_tokens, placed_tokens, running_alone, LeavesAsItWas, page_picture, among, placing_names, place_in, border_in}
use Rattle.pictures.specs.Pictures.{PageIsPlaced}
use Rattle.pictures.proofs.Runs.{runs_one, runs_join, runs_none, name_step}
use Rattle.pictures.proofs.Commutes.{placing_commutes}
use Rattle.pictures.proofs.Straight.{Known}
use Rattle.pictures.proofs.Opening.{opening, around, snapshot_of}

pub both_true : (a b : Bool) → a ≡ true → b ≡ true → (a && b) ≡ true
both_true a b e f = ap (λ t. t && b) e ∙ f

either_true : (a b : Bool) → b ≡ true → (a || b) ≡ true
either_true true b e = refl
either_true false b e = e

pub known_ground : (s : State) → IsGround s → Known placing_names s.work
known_ground s g name h = g.names name (either_true (bytes_eq name (codes "showpage")) (among name placing_names) h)

-- the state after a placed page, before what is left
abbrev pub behind : List Token → Numbers → State → List Painting → State
behind l n s picture = record s { left = l; painted = picture_at (place_in s.graphics n) picture ++ (border_in s.graphics n n.border ++ s.painted) }

-- the result of restore, with these operands and dictionaries
abbrev gone_back : List Token → Numbers → State → List Painting → List Object → List ℕ → State
gone_back l n s picture os ds = record (behind l n s picture) { work = record s.work { operands = os; dictionaries = ds } }

past : {A : Type 0} (b : Bool) (v w : A) (x y z : Option A) → (x ≡ None → y ≡ z) → (if b then Some w else x) ≡ None → (if b then Some v else y) ≡ z
past true v w x y z f e = absurd (true≢false (sym (ap is_none e)))
past false v w x y z f e = f e

-- saves of other levels are skipped
passed_over : (p : Place) (level : ℕ) (shots more : List Snapshot) → save_of level shots ≡ None → save_of level (map (snapshot_at p) shots ++ more) ≡ save_of level more
passed_over p level [] more e = refl
passed_over p level (shot ∷ shots) more e =
    past (shot.level == level) (snapshot_at p shot, map (snapshot_at p) shots ++ more) (shot, shots) (save_of level shots) (save_of level (map (snapshot_at p) shots ++ more)) (save_of level more)
    (passed_over p level shots more) e

restoring : (s t : State) (n : Numbers) (rest more : List Token) → IsGround s → LeavesAsItWas s t
    → back_to t.work.operands (save_of s.level (state_at (around more n s) t).saves) (run_of rest (push (Saved s.level) (state_at (around more n s) t)))
    ≡ Some (behind rest n s t.painted)
restoring s t n rest more g l =
    let x : State = run_of rest (push (Saved s.level) (state_at (around more n s) t)) in
    let may : (all_are_old s.work.made s.level t.work.operands && all_old s.work.made t.work.dictionaries) ≡ true =
    ap₂ (λ os ds. all_are_old s.work.made s.level os && all_old s.work.made ds) l.operands l.dictionaries ∙ both_true _ _ g.operands g.dictionaries in
    ap (λ found. back_to t.work.operands found x) (passed_over (place_in s.graphics n) s.level t.saves (snapshot_of s ∷ s.saves) l.saves)
    ∙ ap (λ b. back_to t.work.operands (if b then Some (snapshot_of s, s.saves) else save_of s.level s.saves) x) (eq-eqb s.level s.level refl)
    ∙ ap (λ b. if b then Some (gone_back rest n s t.painted t.work.operands t.work.dictionaries) else None) may
    ∙ ap₂ (λ os ds. Some (gone_back rest n s t.painted os ds)) l.operands l.dictionaries

pub closing : (s t : State) (n : Numbers) (rest : List Token) → IsGround s → LeavesAsItWas s t
    → Runs false (state_at (around (closing_tokens ++ rest) n s) t) (behind rest n s t.painted)
closing s t n rest g l =
    let a : Around = around (closing_tokens ++ rest) n s in
    let p : State = state_at a t in
    let q : State = record p { left = Name (codes "restore") ∷ rest } in
    let start : Runs false (run_of (closing_tokens ++ rest) p) (behind rest n s t.painted) =
    runs_one false (run_of (closing_tokens ++ rest) p) (push (Saved s.level) q) (behind rest n s t.painted)
    (name_step false (codes "ImposeSave") (Name (codes "restore") ∷ rest) p (Some (Saved s.level)) l.save_name)
    (runs_one false (push (Saved s.level) q) (behind rest n s t.painted) (behind rest n s t.painted)
    (name_step false (codes "restore") rest (push (Saved s.level) p) (system (codes "restore")) l.restore_name ∙ restoring s t n rest (closing_tokens ++ rest) g l)
    (runs_none false (behind rest n s t.painted))) in
    subst (λ x. Runs false (record p { left = x ++ (closing_tokens ++ rest) }) (behind rest n s t.painted)) (sym l.nothing_left) start

-- the tokens, bracketed to the right
pub bracketed : (x : Placed) (rest : List Token)
    → placed_tokens x ++ rest ≡ saving_tokens ++ (placing_tokens x.numbers ++ (x.body ++ (closing_tokens ++ rest)))
bracketed x rest =
    ap (λ ts. saving_tokens ++ ts) (append_assoc (placing_tokens x.numbers) (x.body ++ closing_tokens) rest ∙ ap (λ ts. placing_tokens x.numbers ++ ts) (append_assoc x.body closing_tokens rest))

pub assembled : (s : State) (x : Shown) (rest : List Token)
    → behind rest x.placed.numbers s x.picture ≡ record s { left = rest; painted = page_picture s.graphics x ++ s.painted }
assembled s x rest = ap (λ ps. record s { left = rest; painted = ps })
    (sym (append_assoc (picture_at (place_in s.graphics x.placed.numbers) x.picture) (border_in s.graphics x.placed.numbers x.placed.numbers.border) s.painted))

pub page_is_placed : PageIsPlaced
page_is_placed s x rest g p =
    let n : Numbers = x.placed.numbers in
    let l : List Token = closing_tokens ++ rest in
    let before : State = run_of (saving_tokens ++ (placing_tokens n ++ (x.placed.body ++ l))) s in
    let ends : behind rest n s p.end.painted ≡ record s { left = rest; painted = page_picture s.graphics x ++ s.painted } =
    ap (behind rest n s) p.picture_is ∙ assembled s x rest in
    subst (λ ts. Runs false (run_of ts s) (record s { left = rest; painted = page_picture s.graphics x ++ s.painted })) (sym (bracketed x.placed rest))
    (subst (Runs false before) ends
    (runs_join false before (state_at (around l n s) (running_alone s x.placed.body)) (behind rest n s p.end.painted)
    (opening s n x.placed.body l (known_ground s g))
    (runs_join false (state_at (around l n s) (running_alone s x.placed.body)) (state_at (around l n s) p.end) (behind rest n s p.end.painted)
    (placing_commutes (around l n s) (running_alone s x.placed.body) p.end p.run)
    (closing s p.end n rest g p.leaves))))
