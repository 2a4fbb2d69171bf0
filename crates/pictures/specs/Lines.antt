-- What single lines of the guard do, in any state in which their names mean what the guard has them mean.
use Rattle.std.specs.Prelude.{◌≡◌, ℕ, ◌+◌, ◌^◌, ◌<◌, List, [], ◌∷◌, ◌++◌, ◌==◌, codes, true, false}
use Rattle.std.specs.Prelude.{Option, Some, None, length}
use Rattle.rules.specs.Papers.{Paper}
use Rattle.pictures.specs.Objects.{Token, Name, Literal, Bound, Dictionary, Object, Plain, Truth, Procedure}
use Rattle.pictures.specs.Objects.{Matrix, Call, Equal}
use Rattle.pictures.specs.Dictionaries.{DictionaryEntry, userdict, system, dictionary_entry, has, meaning, read_only}
use Rattle.pictures.specs.Operators.{Work, bound_token, holder, objects_compared}
use Rattle.pictures.specs.Machine.{State, Clip, KeptMatrix, Runs, push, saved, reset, shipped, chain_of, filled_with}
use Rattle.pictures.specs.Machine.{fonts}
use Rattle.pictures.specs.Scanner.{tokens}
use Rattle.pictures.specs.Sheets.{run_of, Numbers, edge}
use Rattle.pictures.specs.AfterGuard.{guard_text, printer_keys, setpagedevice_tokens, showpage_tokens, pathforall_tokens}
use Rattle.pictures.specs.AfterGuard.{defaultmatrix_tokens, initmatrix_tokens, initclip_tokens}
use Rattle.pictures.specs.AfterGuard.{clips_tokens, initgraphics_tokens, save_tokens}
use Rattle.pictures.specs.Shelter.{Outer, outer_is, means, all_absent, outline_tokens, outline_names}
use Rattle.pictures.specs.Shelter.{is_drawn_anew}

-- A guard in a document that has one does nothing: a law. Its first line asks for ImposeGuard
abbrev pub guard_line_names : List (List ℕ)
guard_line_names = codes "userdict" ∷ codes "known" ∷ codes "not" ∷ codes "bind" ∷ codes "if" ∷ []

abbrev pub GuardedTwice : Type 0
GuardedTwice =
    (sheet : Option Paper) (s : State) (rest : List Token)
    → all_absent guard_line_names s.work.dictionaries s.work.entries ≡ true
    → has (dictionary_entry userdict (codes "ImposeGuard") s.work.entries) ≡ true
    → Runs false (run_of (tokens (guard_text sheet) ++ rest) s) (run_of rest s)

-- `copypage` and `erasepage` leave the sheet as it is: a law
abbrev pub PageIsLeft : Type 0
PageIsLeft =
    (s : State) (name : List ℕ) (rest : List Token) → means s name ≡ Some (Procedure [])
    → Runs false (run_of (Name name ∷ rest) s) (run_of rest s)

-- within a placed page `setpagedevice` takes its operand, and leaves all else as it is: a law
abbrev pub DeviceIsLeft : Type 0
DeviceIsLeft =
    (s : State) (o : Object) (rest : List Token)
    → means s (codes "setpagedevice") ≡ Some (Procedure setpagedevice_tokens)
    → means s (codes "PStoPSenablepage") ≡ Some (Truth false)
    → Runs false (run_of (Name (codes "setpagedevice") ∷ rest) (push o s)) (run_of rest s)

-- the operator `setpagedevice` has run with a new dictionary that has this for this key alone
abbrev pub with_setting : Option Object → (key : List ℕ) → State → State
with_setting None key s = s
with_setting (Some o) key s = record (reset s) {
  work = record s.work {
    entries = record { dictionary = s.work.made + 1; key = key; value = o } ∷ s.work.entries;
    made = s.work.made + 1;
  };
  painted = [];
}

-- for each of these keys, with what the dictionary has for it, if it has it
abbrev pub handed : (dictionary : ℕ) → List (List ℕ) → State → State
handed d [] s = s
handed d (key ∷ keys) s = handed d keys (with_setting (dictionary_entry d key s.work.entries) key s)

-- elsewhere it hands to the operator what its dictionary has for the keys that say how a printer treats its paper, and
-- nothing else of it: a law
abbrev pub DeviceIsHanded : Type 0
DeviceIsHanded =
    (s : State) (d : ℕ) (rest : List Token)
    → means s (codes "setpagedevice") ≡ Some (Procedure setpagedevice_tokens)
    → means s (codes "PStoPSenablepage") ≡ Some (Truth true)
    → means s (codes "ImposeDevice") ≡ system (codes "setpagedevice")
    → Runs false (run_of (Name (codes "setpagedevice") ∷ rest) (push (Dictionary d) s))
    (run_of rest (handed d printer_keys s))

-- `bind` leaves the name `showpage` as it is: a law
abbrev pub ShowpageStaysAName : Type 0
ShowpageStaysAName =
    (w : Work) → meaning w.dictionaries w.entries (codes "showpage") ≡ Some (Procedure showpage_tokens)
    → bound_token w (Name (codes "showpage")) ≡ Name (codes "showpage")

-- the guard's showpage, by its own name or by one that it was loaded into, does nothing in a placed page, where the
-- flag is cleared; and elsewhere it prints the sheet: a law
abbrev pub LoadedShowpage : Type 0
LoadedShowpage =
    (s : State) (name : List ℕ) (rest : List Token) → means s name ≡ Some (Procedure showpage_tokens)
    → (means s (codes "PStoPSenablepage") ≡ Some (Truth false)
    → Runs false (run_of (Name name ∷ rest) s) (run_of rest s))
    × (means s (codes "PStoPSenablepage") ≡ Some (Truth true)
    → means s (codes "ImposeShow") ≡ system (codes "showpage")
    → Runs false (run_of (Name name ∷ rest) s) (shipped (run_of rest s)))

-- what the guard has noted of a page, under these dictionaries, where so many were made: the matrix that holds its
-- transformation, and its outline
pub record Noted
    (ds : List ℕ) (made : ℕ) (es : List DictionaryEntry) (ks : List KeptMatrix) (matrix : ℕ) (n : Numbers) (chain : List Call) : Type 0 where
  pub older : matrix < made + 1
  pub matrix_is : meaning ds es (codes "PStoPSmatrix") ≡ Some (Matrix matrix)
  pub holds : chain_of matrix ks ≡ Some chain
  pub outline_is : meaning ds es (codes "PStoPSclip") ≡ Some (Procedure (outline_tokens n))
  pub clip_is : meaning ds es (codes "ImposeClip") ≡ Some (Procedure clips_tokens)
  pub names : all_absent outline_names ds es ≡ true

-- and of the pages round it, of which there may be any number, each in a dictionary of its own
abbrev pub AreNoted : List ℕ → ℕ → List DictionaryEntry → List KeptMatrix → List Outer → Type 0
AreNoted ds made es ks [] = meaning ds es (codes "ImposeOuter") ≡ Some (outer_is [])
AreNoted ds made es ks (o ∷ os) =
    (meaning ds es (codes "ImposeOuter") ≡ Some (Dictionary o.dictionary))
    × Noted (o.dictionary ∷ ds) made es ks o.matrix o.numbers o.chain
    × AreNoted (o.dictionary ∷ ds) made es ks os

-- of the page, and of those round it
pub record Notes (s : State) (n : Numbers) (chain : List Call) (outers : List Outer) : Type 0 where
  pub number : ℕ
  pub page : Noted s.work.dictionaries s.work.made s.work.entries s.kept number n chain
  pub round : AreNoted s.work.dictionaries s.work.made s.work.entries s.kept outers
  pub path_is : means s (codes "ImposePath") ≡ Some (Procedure pathforall_tokens)

-- `initmatrix`, and what psutils writes in its place, `PStoPSmatrix setmatrix`, set the page's own transformation: a
-- law
abbrev pub MatrixIsThePages : Type 0
MatrixIsThePages =
    (s : State) (number : ℕ) (chain : List Call) (rest : List Token)
    → means s (codes "PStoPSmatrix") ≡ Some (Matrix number) → chain_of number s.kept ≡ Some chain
    → Runs false (run_of (initmatrix_tokens ++ rest) s)
    (record s { left = rest; graphics = record s.graphics { chain = chain } })

-- `defaultmatrix` fills its operand with the page's own transformation: a law
abbrev pub DefaultIsThePages : Type 0
DefaultIsThePages =
    (s : State) (number given : ℕ) (chain : List Call) (rest : List Token)
    → means s (codes "PStoPSmatrix") ≡ Some (Matrix number) → chain_of number s.kept ≡ Some chain
    → Runs false (run_of (defaultmatrix_tokens ++ rest) (push (Matrix given) s))
    (filled_with given chain (run_of rest (push (Matrix given) s)))

-- the clip to a paper's edge, and those to the edges of the pages round it, the innermost first
abbrev pub clip_to : Numbers → List Call → Clip
clip_to n chain = record { name = codes "clip"; path = edge n chain }

abbrev pub clips_to : List Outer → List Clip → List Clip
clips_to [] before = before
clips_to (o ∷ os) before = clip_to o.numbers o.chain ∷ clips_to os before

-- what ImposeClip leaves: the page's transformation, no path, and besides the clips before it those to the page's edge
-- and to the edges round it
abbrev pub after_clip : State → Numbers → List Call → List Outer → List Token → State
after_clip s n chain outers rest = record s {
  left = rest;
  graphics = record {
    chain = chain;
    path = [];
    clip = clip_to n chain ∷ clips_to outers s.graphics.clip;
    settings = s.graphics.settings;
  };
}

-- ImposeClip clips to the outlines of the page and of all pages round it, which it keeps: a law
abbrev pub OuterIsKept : Type 0
OuterIsKept =
    (s : State) (n : Numbers) (chain : List Call) (outers : List Outer) (rest : List Token) → Notes s n chain outers
    → Runs false (run_of (clips_tokens ++ rest) s) (after_clip s n chain outers rest)

-- `initclip` leaves the clips to the outlines of the page and of those round it, and no other, and keeps the
-- transformation and the path, if that is drawn anew by its elements; the guard has made a matrix, in which it noted the
-- transformation: a law
abbrev pub ClipIsThePages : Type 0
ClipIsThePages =
    (s : State) (n : Numbers) (chain : List Call) (outers : List Outer) (rest : List Token) → Notes s n chain outers
    → is_drawn_anew s.graphics.chain s.graphics.path [] ≡ true
    → Runs false (run_of (initclip_tokens ++ rest) s) (record s {
      left = rest;
      work = record s.work { made = s.work.made + 1 };
      kept = record { number = s.work.made + 1; chain = s.graphics.chain } ∷ s.kept;
      graphics = record s.graphics { clip = clip_to n chain ∷ clips_to outers [] };
    })

-- `initgraphics` sets the page's transformation, leaves these clips alone, and no setting but a font: a law
abbrev pub GraphicsAreThePages : Type 0
GraphicsAreThePages =
    (s : State) (n : Numbers) (chain : List Call) (outers : List Outer) (rest : List Token) → Notes s n chain outers
    → Runs false (run_of (initgraphics_tokens ++ rest) s) (record s {
      left = rest;
      graphics = record {
        chain = chain;
        path = [];
        clip = clip_to n chain ∷ clips_to outers [];
        settings = fonts s.graphics.settings;
      };
    })

-- a document's own `save` saves, on an empty stack, and above an operand that isn't the name ImposeSave: a law
abbrev pub IsAnother : List Object → Type 0
IsAnother [] = Unit {0}
IsAnother (o ∷ os) = objects_compared Equal o (Plain (Literal (codes "ImposeSave"))) ≡ Some false

abbrev pub SaveSaves : Type 0
SaveSaves =
    (s : State) (rest : List Token) → means s (codes "save") ≡ Some (Procedure save_tokens)
    → means s (codes "systemdict") ≡ system (codes "systemdict") → IsAnother s.work.operands
    → length s.work.operands < 10 ^ 64 → Runs false (run_of (Name (codes "save") ∷ rest) s) (saved (run_of rest s))

-- A dictionary on the stack with a showpage of its own, which can be written: where a page begins, the guard puts one in
-- its place that asks userdict, and marks the page as ever: a law

-- `{userdict /showpage get exec}`
abbrev pub asks_userdict : Object
asks_userdict = Procedure (
    Name (codes "userdict") ∷ Literal (codes "showpage") ∷ Bound (codes "get") ∷ Bound (codes "exec") ∷ [])

-- with the operands of the sheet's save
abbrev pub at_sheet_save : State → State
at_sheet_save s = push (Plain (Literal (codes "ImposeSave"))) (push (Dictionary userdict) s)

abbrev pub with_asking : (dictionary : ℕ) → State → State
with_asking d s = record s {
  work = record s.work {
    entries = record { dictionary = d; key = codes "showpage"; value = asks_userdict } ∷ s.work.entries;
  };
}

abbrev pub with_dictionary : (number : ℕ) → State → State
with_dictionary number s = record s { work = record s.work { dictionaries = number ∷ s.work.dictionaries } }

abbrev pub AsksUserdict : Type 0
AsksUserdict =
    (s : State) (number d : ℕ) (rest : List Token)
    → holder s.work.dictionaries s.work.entries (codes "showpage") ≡ Some d → (d == userdict) ≡ false
    → dictionary_entry d read_only s.work.entries ≡ None
    → means s (codes "ImposeGuard") ≡ Some (Dictionary number)
    → all_absent (codes "userdict" ∷ codes "systemdict" ∷ []) (number ∷ s.work.dictionaries) s.work.entries ≡ true
    → length s.work.operands + 2 < 10 ^ 64
    → Runs false (run_of (save_tokens ++ rest) (at_sheet_save s))
    (saved (run_of rest (with_dictionary number (with_asking d (at_sheet_save s)))))

-- and that one does what userdict's does: a law
abbrev pub AskingShows : Type 0
AskingShows =
    (s : State) (ts rest : List Token) → means s (codes "showpage") ≡ Some asks_userdict
    → means s (codes "userdict") ≡ system (codes "userdict")
    → dictionary_entry userdict (codes "showpage") s.work.entries ≡ Some (Procedure ts)
    → Runs false (run_of (Name (codes "showpage") ∷ rest) s) (run_of (ts ++ rest) s)
