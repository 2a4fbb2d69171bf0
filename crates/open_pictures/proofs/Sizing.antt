-- A sheet sets its size, step by step.
use Rattle.std.specs.Prelude.{Option, Some, None, codes, bytes_eq, if◌then◌else◌}
use Rattle.std.proofs.Common.{◌≡◌, ℕ, ◌+◌, ◌≤◌, refl, ap, ◌∙◌, sym, subst, true, false, true≢false, is_none, List, [], ◌∷◌, ◌++◌, append-nil, arith}
use Rattle.rules.specs.Numbers.{points_text}
use Rattle.rules.specs.Papers.{Paper}
use Rattle.rules.specs.Dress.{lines_text}
use Rattle.papers.specs.Reported.{page_size_lines}
use Rattle.dressing.specs.declared.strokes.Stroke.{Stroke}
use Rattle.pictures.specs.Objects.{Token, Number, Name, Literal, Bound, Opens, Closes, Object, Plain, Truth, Mark, Array, Procedure, Dictionary, SystemDictionary, Operator, Looks, SetsDevice}
use Rattle.pictures.specs.Dictionaries.{DictionaryEntry, meaning, system, dictionary_entry, has, or, is_lacked}
use Rattle.pictures.specs.Operators.{holder, located, with_operands}
use Rattle.pictures.specs.Machine.{State, Graphics, Painting, push, initial, worked, meant, Runs}
use Rattle.pictures.specs.Scanner.{ended_token, tokens}
use Rattle.pictures.specs.Sheets.{run_of, among}
use Rattle.pictures.proofs.Runs.{runs_one, runs_none, runs_join}
use Rattle.pictures.proofs.Sheets.{fresh}
use Rattle.pictures.proofs.Tests.{by_test}
use Rattle.pictures.proofs.Opening.{name_other, is_apart}
use Rattle.pictures.proofs.Straight.{Known}
use Rattle.pictures.specs.Shelter.{means}
use Rattle.pictures.specs.Pages.{IsGuarded, HasGuard, defined}
use Rattle.pictures.proofs.Steps.{some, by_name}
use Rattle.pictures.proofs.Redrawn.{with}
use Rattle.pictures.proofs.PutThere.{not_has}
use Rattle.pictures.proofs.Ground.{stays_guarded}
use Rattle.pictures.proofs.SheetsOfSheets.{operands_old, dictionaries_old}
use Rattle.open_pictures.specs.Marks.{marking_names}
use Rattle.open_pictures.specs.Sizes.{sizing_names, size_by, sized_by, sized, DeviceSizeIsSet}
use Rattle.open_pictures.specs.DressedDocuments.{TakesLines}
use Rattle.open_pictures.proofs.LinesRead.{flag_tokens, other_tokens, asking_tokens, setting_tokens, known_tokens, size_tokens, size_read}

abbrev pub flag : List ℕ
flag = codes "PStoPSenablepage"

-- a name that no dictionary on the stack has is systemdict's
none_means : (ds : List ℕ) (es : List DictionaryEntry) (name : List ℕ) → holder ds es name ≡ None → meaning ds es name ≡ system name
none_means [] es name e = refl
none_means (d ∷ ds) es name e =
    let here : Option Object = dictionary_entry d name es in
    by_test (has here)
    (λ t. absurd (true≢false (ap is_none (sym e ∙ ap (λ b. if b then Some d else holder ds es name) t))))
    (λ f. ap (λ x. or x (meaning ds es name)) (not_has here f)
    ∙ none_means ds es name (sym (ap (λ b. if b then Some d else holder ds es name) f) ∙ e))

-- the flag is in some dictionary
abbrev Holds : State → Type 0
Holds s = (d : ℕ) × (holder s.work.dictionaries s.work.entries flag ≡ Some d)

held : (s : State) → means s flag ≡ Some (Truth true) → Holds s
held s f = by_holder (holder s.work.dictionaries s.work.entries flag) refl
  where
    by_holder : (x : Option ℕ) → holder s.work.dictionaries s.work.entries flag ≡ x → Holds s
    by_holder (Some d) e = (d, e)
    by_holder None e = absurd (true≢false (ap is_none (sym (none_means s.work.dictionaries s.work.entries flag e) ∙ f)))

-- a name that means the operator, and on
pub by_operator : (name : List ℕ) (l : List Token) (s t u : State) → Known sizing_names s.work → among name sizing_names ≡ true → meant false (system name) (run_of l s) ≡ Some t
    → Runs false t u → Runs false (run_of (Name name ∷ l) s) u
by_operator name l s t u k a f r = by_name name l s t u (system name) (k name a) f r

-- the flag is asked
asked : (s : State) (l : List Token) → Known sizing_names s.work → Holds s → means s flag ≡ Some (Truth true)
    → Runs false (run_of (asking_tokens ++ l) s) (run_of l (push (Truth true) s))
asked s l k (d, found) f =
    let os : List Object = s.work.operands in
    let named : State = with s (Plain (Literal flag) ∷ os) in
    let there : State = with s (Truth true ∷ Dictionary d ∷ os) in
    let both : State = with s (Procedure other_tokens ∷ Procedure flag_tokens ∷ Truth true ∷ Dictionary d ∷ os) in
    let kept : State = with s (Dictionary d ∷ os) in
    let end : State = run_of l (push (Truth true) s) in
    let l1 : List Token = Opens ∷ (flag_tokens ++ (Closes ∷ Opens ∷ (other_tokens ++ (Closes ∷ Name (codes "ifelse") ∷ l)))) in
    let l2 : List Token = Name flag ∷ l in
    some 1 (run_of (asking_tokens ++ l) s) (run_of (Name (codes "where") ∷ l1) named) end refl
    (by_operator (codes "where") l1 named (run_of l1 there) end k refl (ap (λ x. worked (located x (has (system flag)) (is_lacked flag) (with_operands named.work os)) (run_of l1 named)) found)
    (some 2 (run_of l1 there) (run_of (Name (codes "ifelse") ∷ l) both) end refl
    (by_operator (codes "ifelse") l both (run_of (Name (codes "pop") ∷ l2) kept) end k refl refl
    (by_operator (codes "pop") l2 kept (run_of l2 s) end k refl refl
    (by_name flag l s end end (Some (Truth true)) f refl (runs_none false end))))))

abbrev device : List ℕ
device = codes "setpagedevice"

-- and setpagedevice is called
called : (s : State) (w h : List ℕ) (l : List Token) → Known sizing_names s.work
    → Runs false (run_of (known_tokens w h ++ l) (push (Truth true) s)) (run_of (Bound device ∷ l) (push (Dictionary (s.work.made + 1)) (sized_by w h s)))
called s w h l k =
    let os : List Object = s.work.operands in
    let key : Object = Plain (Literal device) in
    let size : Object = Plain (Literal (codes "PageSize")) in
    let d : Object = Dictionary (s.work.made + 1) in
    let sides : Object = Array (Number w ∷ Number h ∷ []) in
    let operator : Object = Operator device (Looks SetsDevice) in
    let new : State = record s { work = record s.work { made = s.work.made + 1 } } in
    let set : State = sized_by w h s in
    let b5 : List Token = Name (codes "exec") ∷ l in
    let b4 : List Token = Literal device ∷ Name (codes "get") ∷ b5 in
    let b3 : List Token = Name (codes "systemdict") ∷ b4 in
    let b2 : List Token = Number w ∷ Number h ∷ Name (codes "]") ∷ Name (codes "put") ∷ b3 in
    let b1 : List Token = Literal (codes "PageSize") ∷ Name (codes "[") ∷ b2 in
    let b0 : List Token = Name (codes "dup") ∷ b1 in
    let a3 : List Token = Opens ∷ (setting_tokens w h ++ (Closes ∷ Name (codes "if") ∷ l)) in
    let a2 : List Token = Name (codes "and") ∷ a3 in
    let a1 : List Token = Literal device ∷ Name (codes "known") ∷ a2 in
    let end : State = run_of (Bound device ∷ l) (push d set) in
    let k2 : Known sizing_names set.work =
    λ name m. name_other s.work.dictionaries (size_by w h (s.work.made + 1)) s.work.entries name (is_apart (codes "PageSize") name sizing_names refl m) ∙ k name m in
    by_operator (codes "systemdict") a1 (with s (Truth true ∷ os)) (run_of a1 (with s (SystemDictionary ∷ Truth true ∷ os))) end k refl refl
    (some 1 (run_of a1 (with s (SystemDictionary ∷ Truth true ∷ os))) (run_of (Name (codes "known") ∷ a2) (with s (key ∷ SystemDictionary ∷ Truth true ∷ os))) end refl
    (by_operator (codes "known") a2 (with s (key ∷ SystemDictionary ∷ Truth true ∷ os)) (run_of a2 (with s (Truth true ∷ Truth true ∷ os))) end k refl refl
    (by_operator (codes "and") a3 (with s (Truth true ∷ Truth true ∷ os)) (run_of a3 (with s (Truth true ∷ os))) end k refl refl
    (some 1 (run_of a3 (with s (Truth true ∷ os))) (run_of (Name (codes "if") ∷ l) (with s (Procedure (setting_tokens w h) ∷ Truth true ∷ os))) end refl
    (by_operator (codes "if") l (with s (Procedure (setting_tokens w h) ∷ Truth true ∷ os)) (run_of (setting_tokens w h ++ l) s) end k refl refl
    (some 1 (run_of (setting_tokens w h ++ l) s) (run_of (Name (codes "dict") ∷ b0) (with s (Plain (Number (codes "1")) ∷ os))) end refl
    (by_operator (codes "dict") b0 (with s (Plain (Number (codes "1")) ∷ os)) (run_of b0 (with new (d ∷ os))) end k refl refl
    (by_operator (codes "dup") b1 (with new (d ∷ os)) (run_of b1 (with new (d ∷ d ∷ os))) end k refl refl
    (some 1 (run_of b1 (with new (d ∷ d ∷ os))) (run_of (Name (codes "[") ∷ b2) (with new (size ∷ d ∷ d ∷ os))) end refl
    (by_operator (codes "[") b2 (with new (size ∷ d ∷ d ∷ os)) (run_of b2 (with new (Mark ∷ size ∷ d ∷ d ∷ os))) end k refl refl
    (some 2 (run_of b2 (with new (Mark ∷ size ∷ d ∷ d ∷ os))) (run_of (Name (codes "]") ∷ Name (codes "put") ∷ b3) (with new (Plain (Number h) ∷ Plain (Number w) ∷ Mark ∷ size ∷ d ∷ d ∷ os))) end refl
    (by_operator (codes "]") (Name (codes "put") ∷ b3) (with new (Plain (Number h) ∷ Plain (Number w) ∷ Mark ∷ size ∷ d ∷ d ∷ os)) (run_of (Name (codes "put") ∷ b3) (with new (sides ∷ size ∷ d ∷ d ∷ os))) end k refl refl
    (by_operator (codes "put") b3 (with new (sides ∷ size ∷ d ∷ d ∷ os)) (run_of b3 (with set (d ∷ os))) end k refl refl
    (by_operator (codes "systemdict") b4 (with set (d ∷ os)) (run_of b4 (with set (SystemDictionary ∷ d ∷ os))) end k2 refl refl
    (some 1 (run_of b4 (with set (SystemDictionary ∷ d ∷ os))) (run_of (Name (codes "get") ∷ b5) (with set (key ∷ SystemDictionary ∷ d ∷ os))) end refl
    (by_operator (codes "get") b5 (with set (key ∷ SystemDictionary ∷ d ∷ os)) (run_of b5 (with set (operator ∷ d ∷ os))) end k2 refl refl
    (by_operator (codes "exec") l (with set (operator ∷ d ∷ os)) end end k2 refl refl (runs_none false end))))))))))))))))))

-- both, if the answer is true
asked_and_called : (s : State) (paper : Paper) (l : List Token) → Known sizing_names s.work → ((m : List Token) → Runs false (run_of (asking_tokens ++ m) s) (run_of m (push (Truth true) s)))
    → Runs false (run_of (size_tokens paper ++ l) s) (run_of (Bound device ∷ l) (push (Dictionary (s.work.made + 1)) (sized paper s)))
asked_and_called s paper l k asks =
    let w : List ℕ = points_text paper.width in
    let h : List ℕ = points_text paper.height in
    let knowing : List Token = known_tokens w h ++ l in
    runs_join false (run_of (asking_tokens ++ knowing) s) (run_of knowing (push (Truth true) s)) (run_of (Bound device ∷ l) (push (Dictionary (s.work.made + 1)) (sized paper s)))
    (asks knowing) (called s w h l k)

pub size_is_set : DeviceSizeIsSet
size_is_set s paper rest k f =
    let e = size_read paper in
    let same : tokens (lines_text (page_size_lines paper)) ≡ size_tokens paper = ap (λ x. x.0 ++ ended_token x.1) e ∙ append-nil (size_tokens paper) in
    subst (λ ts. Runs false (run_of (ts ++ rest) s) (run_of (Bound device ∷ rest) (push (Dictionary (s.work.made + 1)) (sized paper s)))) (sym same)
    (asked_and_called s paper rest k (λ m. asked s m k (held s f) f))

-- The operator leaves the sheet empty, and the state as it was but for the dictionary.

device_set : (s : State) (d : ℕ) (l : List Token) → Runs false (run_of (Bound device ∷ l) (push (Dictionary d) s)) (run_of l (record s { graphics = initial s.graphics; painted = [] }))
device_set s d l =
    let end : State = run_of l (record s { graphics = initial s.graphics; painted = [] }) in
    runs_one false (run_of (Bound device ∷ l) (push (Dictionary d) s)) end end refl (runs_none false end)

pub runs_by : (s : State) (paper : Paper) (l : List Token) (sheets : List (List Painting)) → Known sizing_names s.work
    → ((m : List Token) → Runs false (fresh s (asking_tokens ++ m) [] sheets) (run_of m (push (Truth true) (record s { painted = []; sheets = sheets }))))
    → initial s.graphics ≡ s.graphics → Runs false (fresh s (size_tokens paper ++ l) [] sheets) (fresh (sized paper s) l [] sheets)
runs_by s paper l sheets k asks g =
    let t : State = record s { painted = []; sheets = sheets } in
    let end : Graphics → State = λ z. record (fresh (sized paper s) l [] sheets) { graphics = z } in
    subst (λ z. Runs false (run_of (size_tokens paper ++ l) t) (end z)) g
    (runs_join false (run_of (size_tokens paper ++ l) t) (run_of (Bound device ∷ l) (push (Dictionary (s.work.made + 1)) (sized paper t))) (end (initial s.graphics))
    (asked_and_called t paper l k asks) (device_set (sized paper t) (s.work.made + 1) l))

-- outside all pages of guarded documents
pub size_runs : (s : State) (paper : Paper) (l : List Token) (sheets : List (List Painting)) → Known sizing_names s.work → means s flag ≡ Some (Truth true) → initial s.graphics ≡ s.graphics
    → Runs false (fresh s (size_tokens paper ++ l) [] sheets) (fresh (sized paper s) l [] sheets)
size_runs s paper l sheets k f g =
    let t : State = record s { painted = []; sheets = sheets } in
    runs_by s paper l sheets k (λ m. asked t m k (held t f) f) g

-- What was so stays so.

pub still_known : (names : List (List ℕ)) (s : State) (paper : Paper) → ((name : List ℕ) → among name names ≡ true → bytes_eq (codes "PageSize") name ≡ false) → Known names s.work → Known names (sized paper s).work
still_known names s paper other k name m =
    name_other s.work.dictionaries (size_by (points_text paper.width) (points_text paper.height) (s.work.made + 1)) s.work.entries name (other name m) ∙ k name m

pub lines_still : (told : List Paper) (strokes : List Stroke) (s : State) (paper : Paper) → TakesLines told strokes s → TakesLines told strokes (sized paper s)
lines_still told strokes s paper t = record {
  sizes = λ le. still_known sizing_names s paper (λ name m. is_apart (codes "PageSize") name sizing_names refl m) (t.sizes le);
  marks = λ lt. still_known marking_names s paper (λ name m. is_apart (codes "PageSize") name marking_names refl m) (t.marks lt);
}

pub more : (made : ℕ) → made ≤ made + 1
more made = omega arith

pub same_level : (s : State) → s.level ≤ s.level
same_level s = omega arith

pub guarded_still : (s : State) (paper : Paper) → IsGuarded s → IsGuarded (sized paper s)
guarded_still s paper g =
    let made : ℕ = s.work.made in
    let e : DictionaryEntry = size_by (points_text paper.width) (points_text paper.height) (made + 1) in
    let there : IsGuarded (defined e s) = stays_guarded s e g refl in
    let h : HasGuard (defined e s).work s.level = there.guard in
    let guard : HasGuard (sized paper s).work s.level = record {
      number = h.number;
      save_is = h.save_is;
      guard_is = h.guard_is;
      clip_is = h.clip_is;
      clip_alone = h.clip_alone;
      path_is = h.path_is;
      names = h.names;
      few_operands = h.few_operands;
      operands = operands_old made (made + 1) s.level s.level s.work.operands (more made) (same_level s) h.operands;
      dictionaries = dictionaries_old made (made + 1) s.work.dictionaries (more made) h.dictionaries;
    } in
    record {
      guard = guard;
      userdict_first = there.userdict_first;
      showpage_is = there.showpage_is;
      flag_is = there.flag_is;
      show_is = there.show_is;
      graphics = there.graphics;
    }
