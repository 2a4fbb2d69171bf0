-- Single lines of the guard, run.
use Rattle.std.specs.Prelude.{Option, Some, None, codes, bytes_eq, if◌then◌else◌, decimal}
use Rattle.std.specs.Fmt.{digits}
use Rattle.std.proofs.Common.{◌≡◌, ℕ, ◌+◌, ◌<◌, ◌^◌, refl, ap, ◌∙◌, sym, subst, List, [], ◌∷◌, ◌++◌, Bool, true, false, not, ◌&&◌, map, true≢false, length, arith, eq-eqb}
use Rattle.std.proofs.lemmas.Bool.{ne_eqb}
use Rattle.pictures.specs.Objects.{Token, Name, Literal, Bound, Opens, Closes, Object, Plain, Truth, Procedure, Matrix, SystemDictionary, Number, NotEqual}
use Rattle.pictures.specs.Objects.{Array, Call, Dictionary, Mark}
use Rattle.pictures.specs.Dictionaries.{DictionaryEntry, system, meaning, dictionary_entry, has}
use Rattle.pictures.specs.Machine.{State, Graphics, Clip, KeptMatrix, Runs, traced, push, shipped, saved, set_to, chain_of, filled_with, filled_from, worked, reset}
use Rattle.pictures.specs.Operators.{Work, bound_to, loaded, judged, gathered, onto, scope_ended, with_operands}
use Rattle.pictures.specs.Sheets.{run_of, edge, Numbers}
use Rattle.pictures.specs.Calculations.{compared}
use Rattle.pictures.proofs.Runs.{runs_one, runs_none, runs_join}
use Rattle.pictures.proofs.Names.{not_true}
use Rattle.pictures.proofs.Opening.{name_other}
use Rattle.pictures.proofs.Tests.{first, second}
use Rattle.pictures.proofs.Straight.{straight_runs}
use Rattle.pictures.specs.AfterGuard.{handing_tokens, printer_keys, setpagedevice_tokens, showpage_tokens, pathforall_tokens, own_clip_tokens, clips_tokens, save_tokens, page_begins_tokens}
use Rattle.pictures.specs.Shelter.{Outer, outer_is, means, outline_tokens, outline_names}
use Rattle.pictures.specs.Lines.{PageIsLeft, DeviceIsLeft, with_setting, handed, DeviceIsHanded, ShowpageStaysAName, LoadedShowpage, MatrixIsThePages, DefaultIsThePages, Noted, AreNoted, clip_to, clips_to, after_clip, OuterIsKept, ClipIsThePages, GraphicsAreThePages, IsAnother, SaveSaves}
use Rattle.pictures.proofs.Absent.{known}
use Rattle.pictures.proofs.Redrawn.{element, told, told_append, path_traced, tells_path, drawings, all_collected, draws_path, with}
use Rattle.pictures.proofs.Counting.{counted}
use Rattle.pictures.proofs.Steps.{some, by_name}

pub page_is_left : PageIsLeft
page_is_left s name rest e = by_name name rest s (run_of rest s) (run_of rest s) (Some (Procedure [])) e refl (runs_none false (run_of rest s))

-- `setpagedevice`, after its test.

abbrev handing : List Token → List Token
handing rest =
    Opens ∷ Bound (codes "[") ∷ (map Literal printer_keys ++ (Bound (codes "]")
    ∷ Opens ∷ (handing_tokens ++ (Closes ∷ Bound (codes "forall") ∷ Closes ∷ Bound (codes "if") ∷ Bound (codes "pop") ∷ rest))))

pub device_is_left : DeviceIsLeft
device_is_left s o rest e flag =
    let there : State = push o s in
    let end : State = run_of rest s in
    by_name (codes "setpagedevice") rest there (run_of (setpagedevice_tokens ++ rest) there) end (Some (Procedure setpagedevice_tokens)) e refl
    (by_name (codes "PStoPSenablepage") (handing rest) there (run_of (handing rest) (push (Truth false) there)) end (Some (Truth false)) flag refl
    (some 3 (run_of (handing rest) (push (Truth false) there)) end end refl (runs_none false end)))

-- the turns of its loop
abbrev turns_of : List (List ℕ) → List Token → List Token
turns_of [] l = l
turns_of (key ∷ keys) l = Literal key ∷ (handing_tokens ++ turns_of keys l)

-- after its test for a key
abbrev deciding : List Token → List Token
deciding l =
    Opens ∷ Number (codes "1") ∷ Bound (codes "dict") ∷ Bound (codes "dup")
    ∷ Number (codes "2") ∷ Bound (codes "index") ∷ Number (codes "4") ∷ Bound (codes "index")
    ∷ Number (codes "4") ∷ Bound (codes "index") ∷ Bound (codes "get") ∷ Bound (codes "put") ∷ Name (codes "ImposeDevice")
    ∷ Closes ∷ Bound (codes "if") ∷ Bound (codes "pop") ∷ l

-- with these operands, and a dictionary more
abbrev grown : State → List Object → State
grown s os = record s { work = record s.work { operands = os; made = s.work.made + 1 } }

decided : (s : State) (d : ℕ) (key : List ℕ) (l : List Token) (x : Option Object) → dictionary_entry d key s.work.entries ≡ x → bytes_eq key (codes "ImposeDevice") ≡ false
    → means s (codes "ImposeDevice") ≡ system (codes "setpagedevice")
    → Runs false (run_of (deciding l) (push (Truth (has x)) (push (Plain (Literal key)) (push (Dictionary d) s)))) (run_of l (push (Dictionary d) (with_setting x key s)))
decided s d key l None e other is =
    let end : State = run_of l (push (Dictionary d) s) in
    some 3 (run_of (deciding l) (push (Truth false) (push (Plain (Literal key)) (push (Dictionary d) s)))) end end refl (runs_none false end)
decided s d key l (Some o) e other is =
    let end : State = run_of l (push (Dictionary d) (with_setting (Some o) key s)) in
    let k : Object = Plain (Literal key) in
    let new : Object = Dictionary (s.work.made + 1) in
    let below : List Object = k ∷ Dictionary d ∷ s.work.operands in
    let both : List Object = new ∷ new ∷ below in
    let l3 : List Token = Bound (codes "pop") ∷ l in
    let l2 : List Token = Name (codes "ImposeDevice") ∷ l3 in
    let l1 : List Token = Bound (codes "put") ∷ l2 in
    let l0 : List Token = Bound (codes "get") ∷ l1 in
    let asked : State = grown s (k ∷ Dictionary d ∷ k ∷ both) in
    let rest : State = grown s (k ∷ both) in
    let e2 : DictionaryEntry = record { dictionary = s.work.made + 1; key = key; value = o } in
    let filled : State = record s { work = record s.work { operands = new ∷ below; entries = e2 ∷ s.work.entries; made = s.work.made + 1 } } in
    let set : State = push k (push (Dictionary d) (with_setting (Some o) key s)) in
    some 11 (run_of (deciding l) (push (Truth true) (push k (push (Dictionary d) s)))) (run_of l0 asked) end refl
    (runs_one false (run_of l0 asked) (run_of l1 (push o rest)) end (ap (λ x. worked (loaded x rest.work) (run_of l1 asked)) e)
    (some 1 (run_of l1 (push o rest)) (run_of l2 filled) end refl
    (by_name (codes "ImposeDevice") l3 filled (run_of l3 set) end (system (codes "setpagedevice")) (name_other s.work.dictionaries e2 s.work.entries (codes "ImposeDevice") other ∙ is) refl
    (some 1 (run_of l3 set) end end refl (runs_none false end)))))

-- none of the keys is the guard's name for the operator
abbrev are_other : List (List ℕ) → Bool
are_other [] = true
are_other (key ∷ keys) = not (bytes_eq key (codes "ImposeDevice")) && are_other keys

still_device : (s : State) (key : List ℕ) (x : Option Object) → bytes_eq key (codes "ImposeDevice") ≡ false → means s (codes "ImposeDevice") ≡ system (codes "setpagedevice")
    → means (with_setting x key s) (codes "ImposeDevice") ≡ system (codes "setpagedevice")
still_device s key None other is = is
still_device s key (Some o) other is =
    name_other s.work.dictionaries (record { dictionary = s.work.made + 1; key = key; value = o }) s.work.entries (codes "ImposeDevice") other ∙ is

hands : (keys : List (List ℕ)) (s : State) (d : ℕ) (l : List Token) → are_other keys ≡ true → means s (codes "ImposeDevice") ≡ system (codes "setpagedevice")
    → Runs false (run_of (turns_of keys l) (push (Dictionary d) s)) (run_of l (push (Dictionary d) (handed d keys s)))
hands [] s d l other is = runs_none false (run_of l (push (Dictionary d) s))
hands (key ∷ keys) s d l other is =
    let x : Option Object = dictionary_entry d key s.work.entries in
    let more : List Token = turns_of keys l in
    let end : State = run_of l (push (Dictionary d) (handed d (key ∷ keys) s)) in
    let here : State = push (Truth (has x)) (push (Plain (Literal key)) (push (Dictionary d) s)) in
    let next : State = with_setting x key s in
    let differs = not_true (bytes_eq key (codes "ImposeDevice")) (first (not (bytes_eq key (codes "ImposeDevice"))) (are_other keys) other) in
    some 6 (run_of (turns_of (key ∷ keys) l) (push (Dictionary d) s)) (run_of (deciding more) here) end refl
    (runs_join false (run_of (deciding more) here) (run_of more (push (Dictionary d) next)) end (decided s d key more x refl differs is)
    (hands keys next d l (second (not (bytes_eq key (codes "ImposeDevice"))) (are_other keys) other) (still_device s key x differs is)))

pub device_is_handed : DeviceIsHanded
device_is_handed s d rest e flag is =
    let there : State = push (Dictionary d) s in
    let last : List Token = Bound (codes "pop") ∷ rest in
    let behind : State = handed d printer_keys s in
    let end : State = run_of rest behind in
    by_name (codes "setpagedevice") rest there (run_of (setpagedevice_tokens ++ rest) there) end (Some (Procedure setpagedevice_tokens)) e refl
    (by_name (codes "PStoPSenablepage") (handing rest) there (run_of (handing rest) (push (Truth true) there)) end (Some (Truth true)) flag refl
    (some 15 (run_of (handing rest) (push (Truth true) there)) (run_of (turns_of printer_keys last) there) end refl
    (runs_join false (run_of (turns_of printer_keys last) there) (run_of last (push (Dictionary d) behind)) end (hands printer_keys s d last refl is)
    (some 1 (run_of last (push (Dictionary d) behind)) end end refl (runs_none false end)))))

pub showpage_stays_a_name : ShowpageStaysAName
showpage_stays_a_name w e = ap (λ x. bound_to x (Name (codes "showpage"))) e

-- after the flag
abbrev asked : List Token → List Token
asked rest = Opens ∷ Name (codes "ImposeShow") ∷ Closes ∷ Bound (codes "if") ∷ rest

not_printed : (s : State) (name : List ℕ) (rest : List Token) → means s name ≡ Some (Procedure showpage_tokens)
    → means s (codes "PStoPSenablepage") ≡ Some (Truth false) → Runs false (run_of (Name name ∷ rest) s) (run_of rest s)
not_printed s name rest e f =
    let t : State = run_of rest s in
    by_name name rest s (run_of (showpage_tokens ++ rest) s) t (Some (Procedure showpage_tokens)) e refl
    (by_name (codes "PStoPSenablepage") (asked rest) s (run_of (asked rest) (push (Truth false) s)) t (Some (Truth false)) f refl
    (some 2 (run_of (asked rest) (push (Truth false) s)) t t refl (runs_none false t)))

-- outside placed pages
pub prints : (s : State) (rest : List Token) → means s (codes "PStoPSenablepage") ≡ Some (Truth true) → means s (codes "ImposeShow") ≡ system (codes "showpage")
    → Runs false (run_of (showpage_tokens ++ rest) s) (shipped (run_of rest s))
prints s rest f g =
    let t : State = shipped (run_of rest s) in
    by_name (codes "PStoPSenablepage") (asked rest) s (run_of (asked rest) (push (Truth true) s)) t (Some (Truth true)) f refl
    (some 2 (run_of (asked rest) (push (Truth true) s)) (run_of (Name (codes "ImposeShow") ∷ rest) s) t refl
    (by_name (codes "ImposeShow") rest s t t (system (codes "showpage")) g refl (runs_none false t)))

printed : (s : State) (name : List ℕ) (rest : List Token) → means s name ≡ Some (Procedure showpage_tokens)
    → means s (codes "PStoPSenablepage") ≡ Some (Truth true) → means s (codes "ImposeShow") ≡ system (codes "showpage")
    → Runs false (run_of (Name name ∷ rest) s) (shipped (run_of rest s))
printed s name rest e f g =
    by_name name rest s (run_of (showpage_tokens ++ rest) s) (shipped (run_of rest s)) (Some (Procedure showpage_tokens)) e refl (prints s rest f g)

pub loaded_showpage : LoadedShowpage
loaded_showpage s name rest e = (λ f. not_printed s name rest e f, λ f g. printed s name rest e f g)

pub matrix_is_the_pages : MatrixIsThePages
matrix_is_the_pages s number chain rest e f =
    let t : State = record s { left = rest; graphics = record s.graphics { chain = chain } } in
    let l : List Token = Bound (codes "setmatrix") ∷ rest in
    by_name (codes "PStoPSmatrix") l s (run_of l (push (Matrix number) s)) t (Some (Matrix number)) e refl
    (runs_one false (run_of l (push (Matrix number) s)) t t (ap (λ x. set_to x s.work.operands (run_of rest (push (Matrix number) s))) f) (runs_none false t))

pub default_is_the_pages : DefaultIsThePages
default_is_the_pages s number given chain rest e f =
    let r : State = push (Matrix given) s in
    let t : State = filled_with given chain (run_of rest r) in
    let l : List Token = Bound (codes "exch") ∷ Bound (codes "copy") ∷ rest in
    let m : List Token = Bound (codes "copy") ∷ rest in
    let q : State = push (Matrix given) (push (Matrix number) s) in
    by_name (codes "PStoPSmatrix") l r (run_of l (push (Matrix number) r)) t (Some (Matrix number)) e refl
    (some 1 (run_of l (push (Matrix number) r)) (run_of m q) t refl
    (runs_one false (run_of m q) t t (ap (λ x. filled_from x given s.work.operands (run_of rest q)) f) (runs_none false t)))

-- ImposeClip, step by step.

-- the dictionary on top is taken off, since one below it has the name, or one below that
ended_by : (d : ℕ) (ds : List ℕ) (es : List DictionaryEntry) (name : List ℕ) (o : Object) (w : Work) → meaning ds es name ≡ Some o → system name ≡ None
    → scope_ended (d ∷ ds) w ≡ Some (record w { dictionaries = ds })
ended_by d [] es name o w e f = absurd (not_both (system name) f e)
  where
    is_some : Option Object → Bool
    is_some None = false
    is_some (Some o) = true

    not_both : (x : Option Object) → x ≡ None → x ≡ Some o → ⊥
    not_both x f e = true≢false (ap is_some (sym e ∙ f))
ended_by d (c ∷ ds) es name o w e f = refl

-- the page's own outline
own_clip : (s : State) (matrix : ℕ) (n : Numbers) (chain : List Call) (rest : List Token) → Noted s.work.dictionaries s.work.made s.work.entries s.kept matrix n chain
    → Runs false (run_of (own_clip_tokens ++ rest) s) (after_clip s n chain [] rest)
own_clip s matrix n chain rest h =
    let g : Graphics = s.graphics in
    let names = known outline_names s.work.dictionaries s.work.entries h.names in
    let end : State = after_clip s n chain [] rest in
    let l3 : List Token = Bound (codes "clip") ∷ Bound (codes "newpath") ∷ rest in
    let l2 : List Token = Bound (codes "newpath") ∷ Name (codes "PStoPSclip") ∷ l3 in
    let l1 : List Token = Bound (codes "setmatrix") ∷ l2 in
    let s1 : State = record s { graphics = record g { chain = chain } } in
    let s2 : State = record s { graphics = record { chain = chain; path = []; clip = g.clip; settings = g.settings } } in
    let s3 : State = record s { graphics = record { chain = chain; path = edge n chain; clip = g.clip; settings = g.settings } } in
    by_name (codes "PStoPSmatrix") l1 s (run_of l1 (push (Matrix matrix) s)) end (Some (Matrix matrix)) h.matrix_is refl
    (runs_one false (run_of l1 (push (Matrix matrix) s)) (run_of l2 s1) end (ap (λ x. set_to x s.work.operands (run_of l2 (push (Matrix matrix) s))) h.holds)
    (some 1 (run_of l2 s1) (run_of (Name (codes "PStoPSclip") ∷ l3) s2) end refl
    (by_name (codes "PStoPSclip") l3 s2 (run_of (outline_tokens n ++ l3) s2) end (Some (Procedure (outline_tokens n))) h.outline_is refl
    (runs_join false (run_of (outline_tokens n ++ l3) s2) (run_of l3 s3) end (straight_runs outline_names (outline_tokens n) l3 s2 s3 names refl)
    (some 2 (run_of l3 s3) end end refl (runs_none false end))))))

-- after the name ImposeOuter
abbrev any_outer : List Token → List Token
any_outer rest =
    Number (codes "0") ∷ Bound (codes "ne")
    ∷ Opens ∷ Name (codes "ImposeOuter") ∷ Bound (codes "begin") ∷ Name (codes "ImposeClip") ∷ Bound (codes "end") ∷ Closes
    ∷ Bound (codes "if") ∷ (own_clip_tokens ++ rest)

all_clips : (outers : List Outer) (s : State) (matrix : ℕ) (n : Numbers) (chain : List Call) (rest : List Token)
    → Noted s.work.dictionaries s.work.made s.work.entries s.kept matrix n chain → AreNoted s.work.dictionaries s.work.made s.work.entries s.kept outers
    → Runs false (run_of (clips_tokens ++ rest) s) (after_clip s n chain outers rest)
all_clips [] s matrix n chain rest h a =
    let end : State = after_clip s n chain [] rest in
    let l : List Token = any_outer rest in
    by_name (codes "ImposeOuter") l s (run_of l (push (outer_is []) s)) end (Some (outer_is [])) a refl
    (some 4 (run_of l (push (outer_is []) s)) (run_of (own_clip_tokens ++ rest) s) end refl (own_clip s matrix n chain rest h))
all_clips (o ∷ os) s matrix n chain rest h a =
    let ds : List ℕ = s.work.dictionaries in
    let end : State = after_clip s n chain (o ∷ os) rest in
    let l : List Token = any_outer rest in
    let own : List Token = own_clip_tokens ++ rest in
    let l2 : List Token = Bound (codes "end") ∷ own in
    let l1 : List Token = Bound (codes "begin") ∷ Name (codes "ImposeClip") ∷ l2 in
    let there : State = push (Dictionary o.dictionary) s in
    let within : State = record s { work = record s.work { dictionaries = o.dictionary ∷ ds } } in
    let done : State = after_clip within o.numbers o.chain os l2 in
    let again : State = after_clip s o.numbers o.chain os own in
    by_name (codes "ImposeOuter") l s (run_of l there) end (Some (Dictionary o.dictionary)) a.0 refl
    (some 4 (run_of l there) (run_of (Name (codes "ImposeOuter") ∷ l1) s) end refl
    (by_name (codes "ImposeOuter") l1 s (run_of l1 there) end (Some (Dictionary o.dictionary)) a.0 refl
    (some 1 (run_of l1 there) (run_of (Name (codes "ImposeClip") ∷ l2) within) end refl
    (by_name (codes "ImposeClip") l2 within (run_of (clips_tokens ++ l2) within) end (Some (Procedure clips_tokens)) a.1.clip_is refl
    (runs_join false (run_of (clips_tokens ++ l2) within) done end (all_clips os within o.matrix o.numbers o.chain l2 a.1 a.2)
    (runs_one false done again end (ap (λ x. worked x (run_of own done)) (ended_by o.dictionary ds s.work.entries (codes "ImposeClip") (Procedure clips_tokens) done.work h.clip_is refl))
    (own_clip again matrix n chain rest h)))))))

pub outer_is_kept : OuterIsKept
outer_is_kept s n chain outers rest h = all_clips outers s h.number n chain rest h.page h.round

-- What is noted stays so where one matrix more is made and filled.

noted_later : (ds : List ℕ) (made : ℕ) (es : List DictionaryEntry) (ks : List KeptMatrix) (matrix : ℕ) (n : Numbers) (chain other : List Call) → Noted ds made es ks matrix n chain
    → Noted ds (made + 1) es (record { number = made + 1; chain = other } ∷ ks) matrix n chain
noted_later ds made es ks matrix n chain other h = record {
  older = omega (arith, h.older);
  matrix_is = h.matrix_is;
  holds = ap (λ b. if b then Some other else chain_of matrix ks) (ne_eqb (made + 1) matrix (λ k. omega (arith, h.older, k))) ∙ h.holds;
  outline_is = h.outline_is;
  clip_is = h.clip_is;
  names = h.names;
}

all_later : (outers : List Outer) (ds : List ℕ) (made : ℕ) (es : List DictionaryEntry) (ks : List KeptMatrix) (other : List Call) → AreNoted ds made es ks outers
    → AreNoted ds (made + 1) es (record { number = made + 1; chain = other } ∷ ks) outers
all_later [] ds made es ks other a = a
all_later (o ∷ os) ds made es ks other a = (
  a.0,
  noted_later (o.dictionary ∷ ds) made es ks o.matrix o.numbers o.chain other a.1,
  all_later os (o.dictionary ∷ ds) made es ks other a.2,
)

-- `initclip`, step by step.

abbrev from_systemdict : List Token → List Token
from_systemdict rest = Literal (codes "initclip") ∷ Bound (codes "get") ∷ Bound (codes "exec") ∷ Name (codes "ImposeClip") ∷ Bound (codes "setmatrix") ∷ Bound (codes "exec") ∷ rest

-- with these operands, noted, and these graphics
abbrev noted : State → List Call → List Object → Graphics → State
noted s chain os g = record s {
  work = record s.work { operands = os; made = s.work.made + 1 };
  kept = record { number = s.work.made + 1; chain = chain } ∷ s.kept;
  graphics = g;
}

pub clip_is_the_pages : ClipIsThePages
clip_is_the_pages s n chain outers rest h anew =
    let g : Graphics = s.graphics in
    let ds : List ℕ = s.work.dictionaries in
    let es : List DictionaryEntry = s.work.entries in
    let names = known outline_names ds es h.page.names in
    let l0 : List Token = Bound (codes "matrix") ∷ Bound (codes "currentmatrix") ∷ Name (codes "systemdict") ∷ from_systemdict rest in
    let l1 : List Token = Name (codes "systemdict") ∷ from_systemdict rest in
    let l8 : List Token = Bound (codes "exec") ∷ rest in
    let l7 : List Token = Bound (codes "setmatrix") ∷ l8 in
    let l2 : List Token = Name (codes "ImposeClip") ∷ l7 in
    let os : List Object = s.work.operands in
    let drawn : List Token = drawings g.path in
    let kept_path : List Object = Procedure drawn ∷ os in
    let both : List Object = Matrix (s.work.made + 1) ∷ kept_path in
    let closing : List Token = Bound (codes "]") ∷ Bound (codes "cvx") ∷ l0 in
    let tracing : List Token = Bound (codes "pathforall") ∷ closing in
    let marked : List Object = Mark ∷ os in
    let four : List Object = Procedure (element (codes "closepath")) ∷ Procedure (element (codes "curveto")) ∷ Procedure (element (codes "lineto")) ∷ Procedure (element (codes "moveto")) ∷ marked in
    let traced_state : State = run_of (told g.path [] ++ closing) (with s marked) in
    let clips : List Clip = clip_to n chain ∷ clips_to outers [] in
    let s0 : State = with s (onto drawn marked) in
    let s1 : State = noted s g.chain both g in
    let s2 : State = noted s g.chain both (record g { clip = [] }) in
    let s6 : State = noted s g.chain both (record { chain = chain; path = []; clip = clips; settings = g.settings }) in
    let s7 : State = noted s g.chain kept_path (record { chain = g.chain; path = []; clip = clips; settings = g.settings }) in
    let end : State = run_of rest (noted s g.chain os (record g { clip = clips })) in
    by_name (codes "ImposePath") l0 s (run_of (pathforall_tokens ++ l0) s) end (Some (Procedure pathforall_tokens)) h.path_is refl
    (some 5 (run_of (pathforall_tokens ++ l0) s) (run_of tracing (with s four)) end refl
    (runs_one false (run_of tracing (with s four)) traced_state end (ap (λ x. traced x marked (run_of closing (with s four))) (path_traced g.chain g.path [] [] anew))
    (subst (λ ts. Runs false (run_of ts (with s marked)) end) (sym (told_append g.path [] closing))
    (tells_path g.path g.chain [] anew closing marked s end
    (runs_one false (run_of closing s0) (run_of (Bound (codes "cvx") ∷ l0) (with s (Array drawn ∷ os))) end (ap (λ x. worked (gathered x s0.work) (run_of (Bound (codes "cvx") ∷ l0) s0)) (all_collected drawn os))
    (some 3 (run_of (Bound (codes "cvx") ∷ l0) (with s (Array drawn ∷ os))) (run_of l1 s1) end refl
    (by_name (codes "systemdict") (from_systemdict rest) s1 (run_of (from_systemdict rest) (push SystemDictionary s1)) end (system (codes "systemdict")) (names (codes "systemdict") refl) refl
    (some 4 (run_of (from_systemdict rest) (push SystemDictionary s1)) (run_of l2 s2) end refl
    (by_name (codes "ImposeClip") l7 s2 (run_of (clips_tokens ++ l7) s2) end (Some (Procedure clips_tokens)) h.page.clip_is refl
    (runs_join false (run_of (clips_tokens ++ l7) s2) (run_of l7 s6) end
    (all_clips outers s2 h.number n chain l7 (noted_later ds s.work.made es s.kept h.number n chain g.chain h.page) (all_later outers ds s.work.made es s.kept g.chain h.round))
    (runs_one false (run_of l7 s6) (run_of l8 s7) end (ap (λ b. set_to (if b then Some g.chain else chain_of (s.work.made + 1) s.kept) kept_path (run_of l8 s6)) (eq-eqb (s.work.made + 1) (s.work.made + 1) refl))
    (some 1 (run_of l8 s7) (run_of (drawn ++ rest) (with s7 os)) end refl
    (draws_path g.path [] (with s7 os) rest anew names)))))))))))))

pub graphics_are_the_pages : GraphicsAreThePages
graphics_are_the_pages s n chain outers rest h =
    let names = known outline_names s.work.dictionaries s.work.entries h.page.names in
    let end : State = after_clip (reset s) n chain outers rest in
    let l1 : List Token = Name (codes "ImposeClip") ∷ rest in
    let l0 : List Token = Literal (codes "initgraphics") ∷ Bound (codes "get") ∷ Bound (codes "exec") ∷ l1 in
    by_name (codes "systemdict") l0 s (run_of l0 (push SystemDictionary s)) end (system (codes "systemdict")) (names (codes "systemdict") refl) refl
    (some 4 (run_of l0 (push SystemDictionary s)) (run_of l1 (reset s)) end refl
    (by_name (codes "ImposeClip") rest (reset s) (run_of (clips_tokens ++ rest) (reset s)) end (Some (Procedure clips_tokens)) h.page.clip_is refl
    (all_clips outers (reset s) h.number n chain rest h.page h.round)))

-- `save`, by the operands.

none_counted : compared NotEqual (decimal 0) (codes "0") ≡ Some false
unfolding digits
none_counted = refl

abbrev pub really : List Token → List Token
really rest = Literal (codes "save") ∷ Bound (codes "get") ∷ Bound (codes "exec") ∷ rest

pub really_saves : (s : State) (rest : List Token) → means s (codes "systemdict") ≡ system (codes "systemdict")
    → Runs false (run_of (Name (codes "systemdict") ∷ really rest) s) (saved (run_of rest s))
really_saves s rest e =
    by_name (codes "systemdict") (really rest) s (run_of (really rest) (push SystemDictionary s)) (saved (run_of rest s)) (system (codes "systemdict")) e refl
    (some 4 (run_of (really rest) (push SystemDictionary s)) (saved (run_of rest s)) (saved (run_of rest s)) refl (runs_none false (saved (run_of rest s))))

-- after the count of operands
abbrev pub asked_name : List Token → List Token
asked_name rest =
    Opens ∷ Bound (codes "dup") ∷ Literal (codes "ImposeSave") ∷ Bound (codes "eq")
    ∷ Opens ∷ (page_begins_tokens ++ (Closes ∷ Bound (codes "if") ∷ Closes ∷ Bound (codes "if") ∷ Name (codes "systemdict") ∷ really rest))

save_on : (os : List Object) (s : State) (rest : List Token) → means s (codes "systemdict") ≡ system (codes "systemdict") → IsAnother os
    → length os < 10 ^ 64 → Runs false (run_of (save_tokens ++ rest) (with s os)) (saved (run_of rest (with s os)))
save_on [] s rest e another few =
    let end : State = saved (run_of rest (with s [])) in
    let l1 : List Token = Bound (codes "ne") ∷ asked_name rest in
    let l2 : List Token = Name (codes "systemdict") ∷ really rest in
    let s1 : State = with s (Plain (Number (codes "0")) ∷ Plain (Number (decimal 0)) ∷ []) in
    some 2 (run_of (save_tokens ++ rest) (with s [])) (run_of l1 s1) end refl
    (runs_one false (run_of l1 s1) (run_of (asked_name rest) (with s (Truth false ∷ []))) end (ap (λ x. worked (judged x (with_operands s.work [])) (run_of (asked_name rest) s1)) none_counted)
    (some 2 (run_of (asked_name rest) (with s (Truth false ∷ []))) (run_of l2 (with s [])) end refl
    (really_saves (with s []) rest e)))
save_on (o ∷ os) s rest e another few =
    let all : List Object = o ∷ os in
    let end : State = saved (run_of rest (with s all)) in
    let count : Object = Plain (Number (decimal (length all))) in
    let l1 : List Token = Bound (codes "ne") ∷ asked_name rest in
    let l2 : List Token = Bound (codes "eq") ∷ Opens ∷ (page_begins_tokens ++ (Closes ∷ Bound (codes "if") ∷ Name (codes "systemdict") ∷ really rest)) in
    let l3 : List Token = Opens ∷ (page_begins_tokens ++ (Closes ∷ Bound (codes "if") ∷ Name (codes "systemdict") ∷ really rest)) in
    let l4 : List Token = Name (codes "systemdict") ∷ really rest in
    let s1 : State = with s (Plain (Number (codes "0")) ∷ count ∷ all) in
    let s2 : State = with s (Plain (Literal (codes "ImposeSave")) ∷ o ∷ all) in
    some 2 (run_of (save_tokens ++ rest) (with s all)) (run_of l1 s1) end refl
    (runs_one false (run_of l1 s1) (run_of (asked_name rest) (with s (Truth true ∷ all))) end (ap (λ x. worked (judged x (with_operands s.work all)) (run_of (asked_name rest) s1)) (counted (length all) (omega arith) few))
    (some 4 (run_of (asked_name rest) (with s (Truth true ∷ all))) (run_of l2 s2) end refl
    (runs_one false (run_of l2 s2) (run_of l3 (with s (Truth false ∷ all))) end (ap (λ x. worked (judged x (with_operands s.work all)) (run_of l3 s2)) another)
    (some 2 (run_of l3 (with s (Truth false ∷ all))) (run_of l4 (with s all)) end refl
    (really_saves (with s all) rest e)))))

pub save_saves : SaveSaves
save_saves s rest e f another few =
    by_name (codes "save") rest s (run_of (save_tokens ++ rest) s) (saved (run_of rest s)) (Some (Procedure save_tokens)) e refl
    (save_on s.work.operands s rest f another few)
