-- The sheets of a guarded document: each page is what it is by itself, placed.
use Rattle.std.specs.Prelude.{◌≡◌, ℕ, ◌+◌, ◌^◌, ◌<◌, ◌≤◌, List, [], ◌∷◌, ◌++◌, map, Bool, true, false, not, ◌&&◌, ◌==◌}
use Rattle.std.specs.Prelude.{suc, Option, Some, Ok, codes, length}
use Rattle.rules.specs.Specification.{Spec}
use Rattle.rules.specs.Numbers.{points_text}
use Rattle.rules.specs.Parts.{NestedUnit, preamble, bytes_of}
use Rattle.rules.specs.Filters.{trailer_text}
use Rattle.rules.specs.Run.{document_of, most_input_bytes}
use Rattle.rules.specs.Papers.{Paper}
use Rattle.dsc.specs.Units.{units_of}
use Rattle.guard.specs.Guard.{guarded}
use Rattle.rules.specs.Output.{Border, Frame}
use Rattle.rules.specs.Made.{MadeSheet}
use Rattle.pictures.specs.Objects.{Token, Truth, Procedure, Dictionary, Matrix}
use Rattle.pictures.specs.Dictionaries.{DictionaryEntry, userdict, system, meaning, dictionary_entry}
use Rattle.pictures.specs.Chains.{is_same_chain}
use Rattle.pictures.specs.Operators.{Work, holder, all_old, all_are_old}
use Rattle.pictures.specs.Machine.{State, Snapshot, KeptMatrix, Painting, initial, chain_of, Runs}
use Rattle.pictures.specs.Placing.{Place, graphics_at, picture_at}
use Rattle.pictures.specs.Scanner.{tokens, EndsBetweenTokens}
use Rattle.pictures.specs.Sheets.{Numbers, among, Shown, AllOf, run_of, saving_tokens, placing_tokens}
use Rattle.pictures.specs.Sheets.{placed_tokens, place_in, border_in, page_picture}
use Rattle.pictures.specs.Pictures.{printed_sheets, past, sheets_tokens}
use Rattle.pictures.specs.Documents.{page_frame, document_page, sheet_pictures, pages_past_all, PreambleRuns, OnSheets, all_sheets, IsPrintedSheets}
use Rattle.pictures.specs.Kept.{page_comments_apart, preamble_comments_apart}
use Rattle.pictures.specs.AfterGuard.{after_guard, save_tokens, clip_tokens, pathforall_tokens, showpage_tokens}
use Rattle.pictures.specs.Shelter.{Outer, outer_is, means, all_absent, outline_by, outline_tokens, sheltered}
use Rattle.pictures.specs.Shelter.{RunsSheltered, PaintsSheltered}
use Rattle.pictures.specs.Lines.{clip_to, clips_to}

-- The state after a guarded preamble.

-- names that a sheet's text and the guard look up where a page begins
abbrev pub names_looked_up : List (List ℕ)
names_looked_up =
    codes "userdict" ∷ codes "systemdict" ∷ codes "false" ∷ codes "put" ∷ codes "[" ∷ codes "]" ∷ codes "concat"
    ∷ codes "newpath" ∷ codes "moveto" ∷ codes "lineto" ∷ codes "closepath" ∷ codes "clip" ∷ codes "gsave"
    ∷ codes "setlinewidth" ∷ codes "stroke" ∷ codes "grestore" ∷ []

-- those of them that are looked up between the sheet's save and its clip
abbrev pub looked_up_first : List (List ℕ)
looked_up_first =
    codes "userdict" ∷ codes "systemdict" ∷ codes "put" ∷ codes "[" ∷ codes "]" ∷ codes "concat" ∷ codes "newpath"
    ∷ codes "moveto" ∷ codes "lineto" ∷ codes "closepath" ∷ []

-- the guard's names mean what the guard has them mean, and no dictionary on the stack has another meaning for those
-- that a sheet's text uses; and nothing on the stacks is newer than the state
pub record HasGuard (w : Work) (level : ℕ) : Type 0 where
  -- the number of the dictionary that marks the beginning of a page
  pub number : ℕ
  pub save_is : meaning w.dictionaries w.entries (codes "save") ≡ Some (Procedure save_tokens)
  pub guard_is : meaning w.dictionaries w.entries (codes "ImposeGuard") ≡ Some (Dictionary number)
  pub clip_is : dictionary_entry number (codes "clip") w.entries ≡ Some (Procedure clip_tokens)
  pub clip_alone : all_absent looked_up_first (number ∷ w.dictionaries) w.entries ≡ true
  pub path_is : dictionary_entry userdict (codes "ImposePath") w.entries ≡ Some (Procedure pathforall_tokens)
  pub names : all_absent names_looked_up (userdict ∷ w.dictionaries) w.entries ≡ true
  -- so many can be written down
  pub few_operands : length w.operands + 2 < 10 ^ 64
  pub operands : all_are_old w.made level w.operands ≡ true
  pub dictionaries : all_old w.made w.dictionaries ≡ true

-- and `showpage` is the guard's, outside all pages; and the graphics state is what `initgraphics` makes it
pub record IsGuarded (s : State) : Type 0 where
  pub guard : HasGuard s.work s.level
  pub userdict_first : holder s.work.dictionaries s.work.entries (codes "showpage") ≡ Some userdict
  pub showpage_is : means s (codes "showpage") ≡ Some (Procedure showpage_tokens)
  pub flag_is : means s (codes "PStoPSenablepage") ≡ Some (Truth true)
  pub show_is : means s (codes "ImposeShow") ≡ system (codes "showpage")
  pub graphics : initial s.graphics ≡ s.graphics

-- What a guarded state is come to by.

-- after the guard's text the state is guarded: a law
abbrev pub GuardIsEnough : Type 0
GuardIsEnough = (sheet : Option Paper) (rest : List Token) → IsGuarded (after_guard sheet rest)

-- the names that it rests on
abbrev pub guarded_names : List (List ℕ)
guarded_names =
    codes "save" ∷ codes "ImposeGuard" ∷ codes "ImposePath" ∷ codes "showpage" ∷ codes "PStoPSenablepage"
    ∷ codes "ImposeShow" ∷ names_looked_up

abbrev pub defined : DictionaryEntry → State → State
defined e s = record s { work = record s.work { entries = e ∷ s.work.entries } }

-- where any other name is defined, in any dictionary, it stays so: a law
abbrev pub StaysGuarded : Type 0
StaysGuarded = (s : State) (e : DictionaryEntry) → IsGuarded s → among e.key guarded_names ≡ false → IsGuarded (defined e s)

-- Placing.

abbrev pub kept_at : Place → KeptMatrix → KeptMatrix
kept_at p x = record x { chain = x.chain ++ p.chain }

-- what is round a page that is placed: the place, what is left to run after it, what matrices held before it, the
-- saves before it, what was painted before it, and the sheets
pub record AroundGuarded : Type 0 where
  pub place : Place
  pub left : List Token
  pub kept : List KeptMatrix
  pub saves : List Snapshot
  pub painted : List Painting
  pub sheets : List (List Painting)

abbrev pub guarded_snapshot_at : AroundGuarded → Snapshot → Snapshot
guarded_snapshot_at a x = record x {
  kept = map (kept_at a.place) x.kept ++ a.kept;
  graphics = graphics_at a.place x.graphics;
  stacked = map (graphics_at a.place) x.stacked;
}

abbrev pub placed_at : AroundGuarded → State → State
placed_at a s = record {
  left = s.left ++ a.left;
  work = s.work;
  kept = map (kept_at a.place) s.kept ++ a.kept;
  level = s.level;
  graphics = graphics_at a.place s.graphics;
  stacked = map (graphics_at a.place) s.stacked;
  saves = map (guarded_snapshot_at a) s.saves ++ a.saves;
  painted = picture_at a.place s.painted ++ a.painted;
  sheets = a.sheets;
}

-- the matrices of the pages round it hold their transformations
abbrev pub AllHeld : List Outer → List KeptMatrix → Type 0
AllHeld [] ks = Unit {0}
AllHeld (o ∷ os) ks = (chain_of o.matrix ks ≡ Some o.chain) × AllHeld os ks

-- the place has the clips to the paper's edge and to those of the pages round it, and no other; and its transformation
-- is made by numbers
abbrev pub IsOnPaper : Numbers → List Outer → AroundGuarded → Type 0
IsOnPaper n outers a =
    (a.place.clip ≡ clip_to n a.place.chain ∷ clips_to outers [])
    × (is_same_chain a.place.chain a.place.chain ≡ true) × AllHeld outers a.kept

-- The laws.

-- what a page does by itself, the free machine does, with the guard's procedures, in the page's place: a law
abbrev pub ShelterCommutes : Type 0
ShelterCommutes =
    (n : Numbers) (outers : List Outer) (a : AroundGuarded) (s t : State)
    → IsOnPaper n outers a → RunsSheltered outers (outline_tokens n) s t
    → Runs false (placed_at a s) (placed_at a t)

-- A state in which pages can be placed: after a guarded preamble, or within a placed page, where a sheet of another
-- document is run.

-- this dictionary has nothing
abbrev pub has_nothing : ℕ → List DictionaryEntry → Bool
has_nothing d [] = true
has_nothing d (e ∷ es) = not (e.dictionary == d) && has_nothing d es

-- Outside all pages the flag is set. Within some it isn't; what the names mean is noted of the innermost one; and the
-- dictionary that is made next is new
abbrev pub Encloses : List Outer → State → Type 0
Encloses [] s = means s (codes "PStoPSenablepage") ≡ Some (Truth true)
Encloses (o ∷ os) s =
    (means s (codes "PStoPSenablepage") ≡ Some (Truth false))
    × (means s (codes "PStoPSmatrix") ≡ Some (Matrix o.matrix))
    × (means s (codes "PStoPSclip") ≡ Some (Procedure (outline_tokens o.numbers)))
    × (means s (codes "ImposeOuter") ≡ Some (outer_is os))
    × (o.dictionary ≡ s.work.made + 1) × (has_nothing o.dictionary s.work.entries ≡ true)

-- Outside all pages `showpage` is the guard's, and what that prints by is the operator
abbrev pub ShowsByGuard : List Outer → State → Type 0
ShowsByGuard [] s =
    (means s (codes "showpage") ≡ Some (Procedure showpage_tokens))
    × (means s (codes "ImposeShow") ≡ system (codes "showpage"))
ShowsByGuard (o ∷ os) s = Unit {0}

-- these pages are round those that are placed there
pub record TakesPages (outers : List Outer) (s : State) : Type 0 where
  pub guard : HasGuard s.work s.level
  pub userdict_first : holder s.work.dictionaries s.work.entries (codes "showpage") ≡ Some userdict
  pub encloses : Encloses outers s
  pub shows : ShowsByGuard outers s
  pub clips : s.graphics.clip ≡ clips_to outers []
  pub numbers : is_same_chain s.graphics.chain s.graphics.chain ≡ true
  pub held : AllHeld outers s.kept

-- the state at the sheet's save, and what is round a page that is placed by these numbers
abbrev pub sheet_save : State → Snapshot
sheet_save s = record {
  level = s.level;
  entries = s.work.entries;
  made = s.work.made;
  kept = s.kept;
  graphics = s.graphics;
  stacked = s.stacked;
}

abbrev pub around : List Token → Numbers → State → AroundGuarded
around left n s = record {
  place = place_in s.graphics n;
  left = left;
  kept = s.kept;
  saves = sheet_save s ∷ s.saves;
  painted = border_in s.graphics n n.border ++ s.painted;
  sheets = s.sheets;
}

-- where a page begins, the sheet's text and the guard have brought the machine to the page's beginning, in its place: a
-- law
abbrev pub PageBegins : Type 0
PageBegins =
    (outers : List Outer) (s : State) (n : Numbers) (body rest : List Token) → TakesPages outers s
    → Runs false (run_of (saving_tokens ++ (placing_tokens n ++ (body ++ rest))) s)
    (placed_at (around rest n s) (sheltered outers s (outline_tokens n) body))

-- a placed page of a guarded document paints on the sheet what it paints by itself, placed, after its border, whatever
-- pages are round it; and all else is as it was: a law
abbrev pub GuardedPageIsPlaced : Type 0
GuardedPageIsPlaced =
    (outers : List Outer) (s : State) (x : Shown) (rest : List Token) → TakesPages outers s
    → PaintsSheltered outers s (outline_tokens x.placed.numbers) x.placed.body x.picture
    → Runs false (run_of (placed_tokens x.placed ++ rest) s)
    (record s { left = rest; painted = page_picture s.graphics x ++ s.painted })

abbrev pub AllSheltered : List Outer → State → List Shown → Type 0
AllSheltered outers s xs =
    AllOf (λ (x : Shown). PaintsSheltered outers s (outline_tokens x.placed.numbers) x.placed.body x.picture) xs

-- each sheet is printed with the pictures of its pages, placed, and the machine is where it was: a law
abbrev pub GuardedSheetsArePrinted : Type 0
GuardedSheetsArePrinted =
    (s : State) (xs : List (List Shown)) (rest : List Token) → IsGuarded s → s.painted ≡ [] → AllOf (AllSheltered [] s) xs
    → Runs false (run_of (sheets_tokens xs ++ rest) s)
    (record s { left = rest; sheets = printed_sheets s.graphics xs s.sheets })

-- Documents.

-- the outline of the paper
abbrev pub outline_of : Frame → List Token
outline_of frame = outline_by (points_text frame.paper.width) (points_text frame.paper.height)

-- the page, as the document has it, paints this by itself; its text ends between tokens, and so does what comes before
-- each of its lines that is dropped
abbrev pub GuardedPagePaints : Frame → List NestedUnit → State → ℕ → List Painting → Type 0
GuardedPagePaints frame us s p picture =
    EndsBetweenTokens (document_page us p) × (page_comments_apart (document_page us p) ≡ true)
    × PaintsSheltered [] s (outline_of frame) (tokens (document_page us p)) picture

-- If pages leave something: the state after so many is given.

-- each page paints its picture by itself in the state in which it begins
abbrev pub AllShelteredFrom : (ℕ → State) → ℕ → List Shown → Type 0
AllShelteredFrom at k [] = Unit {0}
AllShelteredFrom at k (x ∷ xs) =
    PaintsSheltered [] (at (suc k)) (outline_tokens x.placed.numbers) x.placed.body x.picture × AllShelteredFrom at (suc k) xs

abbrev pub AllSheetsShelteredFrom : (ℕ → State) → ℕ → List (List Shown) → Type 0
AllSheetsShelteredFrom at k [] = Unit {0}
AllSheetsShelteredFrom at k (xs ∷ more) = AllShelteredFrom at k xs × AllSheetsShelteredFrom at (past k xs) more

abbrev pub PaintsFrom : Option Border → List NestedUnit → (ℕ → List Painting) → (ℕ → State) → ℕ → Paper → ℕ → Type 0
PaintsFrom border us picture at k own p = GuardedPagePaints (page_frame border own) us (at (suc k)) p (picture p)

-- the state after the sheets of a document, with the trailer to run
abbrev pub state_after_sheets : (ℕ → State) → Option Border → List NestedUnit → (ℕ → List Painting) → List MadeSheet → State
state_after_sheets at border us picture all = record (at (pages_past_all 0 all)) {
  left = tokens (trailer_text us);
  painted = [];
  sheets = sheet_pictures border us picture (at 0) all;
}

-- The laws of documents.

-- Of an accepted document in whose preamble the guard has run: if each page paints a picture by itself, then the
-- machine prints of the output, sheet by sheet, those pictures, placed: a law
abbrev pub GuardedSheetsShowThePages : Type 0
GuardedSheetsShowThePages =
    (frame : Frame) (sides : Option ℕ) (spec : Spec) (text : List ℕ) (us : List NestedUnit)
    (picture : ℕ → List Painting) (s : State)
    → document_of text ≡ Ok us → preamble_comments_apart us ≡ true → PreambleRuns IsGuarded (bytes_of (preamble us)) s
    → OnSheets (λ own p. GuardedPagePaints (page_frame frame.border own) us s p (picture p)) (all_sheets frame sides spec us)
    → IsPrintedSheets frame sides spec us picture s

-- What impose makes of an accepted document, with the guard put in: its own pages are shown, if the preamble with the
-- guard in it runs, and leaves the state guarded: a law
abbrev pub GuardedDocumentIsShown : Type 0
GuardedDocumentIsShown =
    (sheet : Option Paper) (frame : Frame) (sides : Option ℕ) (spec : Spec) (text : List ℕ) (us : List NestedUnit)
    (picture : ℕ → List Painting) (s : State)
    → document_of text ≡ Ok us → length (guarded sheet text) ≤ most_input_bytes
    → preamble_comments_apart (units_of (guarded sheet text)) ≡ true
    → PreambleRuns IsGuarded (bytes_of (preamble (units_of (guarded sheet text)))) s
    → OnSheets (λ own p. GuardedPagePaints (page_frame frame.border own) us s p (picture p)) (all_sheets frame sides spec us)
    → IsPrintedSheets frame sides spec (units_of (guarded sheet text)) picture s
