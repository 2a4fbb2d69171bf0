-- A page that the document itself prints, and that uses none of the names that the sheet's text defines.
use Rattle.std.specs.Prelude.{◌≡◌, ℕ, List, [], ◌∷◌, Bool, true, false, not, ◌&&◌, ◌||◌, ◌==◌, if◌then◌else◌}
use Rattle.std.specs.Prelude.{nat_lt, Option, Some, None, Ok, codes}
use Rattle.rules.specs.Specification.{Spec}
use Rattle.rules.specs.Parts.{NestedUnit, preamble, bytes_of}
use Rattle.rules.specs.Run.{document_of}
use Rattle.rules.specs.Output.{Frame}
use Rattle.pictures.specs.Scanner.{tokens, EndsBetweenTokens}
use Rattle.pictures.specs.Documents.{document_page, PreambleRuns, OnSheets, all_sheets, IsPrintedSheets}
use Rattle.pictures.specs.DocumentRun.{PrintsSheet, OnPages, PagesAreIndependent, DocumentPrints}
use Rattle.pictures.specs.Kept.{page_comments_apart, preamble_comments_apart}
use Rattle.pictures.specs.Objects.{Token, Name, Literal, Bound, Object, Plain, Procedure, Saved, Operator, Computes}
use Rattle.pictures.specs.Objects.{Load, Known, Where, Get, Bind}
use Rattle.pictures.specs.Dictionaries.{DictionaryEntry, userdict, meaning, system, dictionary_entry, has}
use Rattle.pictures.specs.Machine.{State, Painting, Snapshot, shipped, step, steps, RunsBy}
use Rattle.pictures.specs.Sheets.{among, run_of, IsGround, PaintsAlone}

-- the names that the sheet's text defines
abbrev pub put_names : List (List ℕ)
put_names = codes "showpage" ∷ codes "ImposeSave" ∷ []

-- the names in a procedure
abbrev pub names_in : List Token → List (List ℕ)
names_in [] = []
names_in (Name name ∷ ts) = name ∷ names_in ts
names_in (t ∷ ts) = names_in ts

-- the names that an operator looks up: `load`, `known`, `where`, `get`, `bind`
abbrev pub names_asked : Option Object → List Object → List (List ℕ)
names_asked (Some (Operator name (Computes Load))) (Plain (Literal k) ∷ os) = k ∷ []
names_asked (Some (Operator name (Computes Known))) (Plain (Literal k) ∷ os) = k ∷ []
names_asked (Some (Operator name (Computes Where))) (Plain (Literal k) ∷ os) = k ∷ []
names_asked (Some (Operator name (Computes Get))) (Plain (Literal k) ∷ os) = k ∷ []
names_asked (Some (Operator name (Computes Bind))) (Procedure ts ∷ os) = names_in ts
names_asked o os = []

-- the names whose meaning the next step needs
abbrev pub asked_on : List Token → State → List (List ℕ)
asked_on [] s = []
asked_on (Name name ∷ ts) s = name ∷ names_asked (meaning s.work.dictionaries s.work.entries name) s.work.operands
asked_on (Bound name ∷ ts) s = names_asked (system name) s.work.operands
asked_on (t ∷ ts) s = []

abbrev pub none_among : List (List ℕ) → List (List ℕ) → Bool
none_among [] names = true
none_among (k ∷ ks) names = not (among k names) && none_among ks names

-- one step of a held machine that uses none of these names
abbrev pub unaware_step : State → Option State
unaware_step s = if none_among (asked_on s.left s) put_names then step true s else None

-- no dictionary on the stack has the name
abbrev pub absent : List ℕ → List DictionaryEntry → List ℕ → Bool
absent [] es name = true
absent (d ∷ ds) es name = not (has (dictionary_entry d name es)) && absent ds es name

abbrev pub is_in : ℕ → List ℕ → Bool
is_in n [] = false
is_in n (m ∷ ms) = (n == m) || is_in n ms

abbrev pub is_saved : Object → Bool
is_saved (Saved level) = true
is_saved o = false

abbrev pub no_saved : List Object → Bool
no_saved [] = true
no_saved (o ∷ os) = not (is_saved o) && no_saved os

abbrev pub no_saved_in : List DictionaryEntry → Bool
no_saved_in [] = true
no_saved_in (e ∷ es) = not (is_saved e.value) && no_saved_in es

-- after the preamble nothing is saved, pushed or painted; and userdict is on the stack, without the names that the
-- sheet's text defines
pub record IsPlainGround (s : State) : Type 0 where
  pub ground : IsGround s
  pub stacked : s.stacked ≡ []
  pub saves : s.saves ≡ []
  pub painted : s.painted ≡ []
  pub operands : no_saved s.work.operands ≡ true
  pub entries : no_saved_in s.work.entries ≡ true
  pub has_userdict : is_in userdict s.work.dictionaries ≡ true
  pub no_showpage : dictionary_entry userdict (codes "showpage") s.work.entries ≡ None
  pub no_save : dictionary_entry userdict (codes "ImposeSave") s.work.entries ≡ None

-- each of these saves was made when this many were in force, or later
abbrev pub none_before : ℕ → List Snapshot → Bool
none_before level [] = true
none_before level (shot ∷ shots) = not (nat_lt shot.level level) && none_before level shots

-- What follows a page's showpage: `end`, `restore`, or nothing. After the sheet is printed, it runs to its end, and
-- paints and prints nothing. If showpage does nothing, it paints nothing either; then the stacks are as they were,
-- and only the page's own saves are in force
pub record EndsBy (free unaware : State → Option State) (s at : State) (after : List Token) : Type 0 where
  pub printed : State
  pub printed_run : RunsBy free (shipped (run_of after at)) printed
  pub printed_left : printed.left ≡ []
  pub printed_nothing : printed.painted ≡ []
  pub printed_once : printed.sheets ≡ at.painted ∷ at.sheets
  pub placed : State
  pub count : ℕ
  pub placed_run : steps unaware count (run_of after at) ≡ Some placed
  pub placed_left : placed.left ≡ []
  pub placed_nothing : placed.painted ≡ at.painted
  pub operands : placed.work.operands ≡ s.work.operands
  pub dictionaries : placed.work.dictionaries ≡ s.work.dictionaries
  pub saves : none_before s.level placed.saves ≡ true
  pub save_name : absent placed.work.dictionaries placed.work.entries (codes "ImposeSave") ≡ true
  pub restore_name : meaning placed.work.dictionaries placed.work.entries (codes "restore") ≡ system (codes "restore")

-- after the preamble the page runs up to its showpage, which is found by its name; what follows that ends the page
pub record PrintsBy (free unaware : State → Option State) (s : State) (body : List Token) (picture : List Painting) : Type 0 where
  pub at : State
  pub count : ℕ
  pub run : steps unaware count (run_of body s) ≡ Some at
  pub after : List Token
  pub last : at.left ≡ Name (codes "showpage") ∷ after
  pub has_userdict : is_in userdict at.work.dictionaries ≡ true
  pub showpage : absent at.work.dictionaries at.work.entries (codes "showpage") ≡ true
  pub picture_is : at.painted ≡ picture
  pub ends : EndsBy free unaware s at after

abbrev pub PrintsItself : State → List Token → List Painting → Type 0
PrintsItself s body picture = PrintsBy (step false) unaware_step s body picture

-- A law: what a page prints by itself, after the preamble, is what it paints by itself. So a sheet has what the
-- document printed, placed
abbrev pub OwnPicture : Type 0
OwnPicture =
    (s : State) (body : List Token) (picture : List Painting) → IsPlainGround s → PrintsItself s body picture
    → PrintsSheet s body picture × PaintsAlone s body picture

-- the page, as the document has it, prints this by itself; its text ends between tokens, and so does the text
-- before each dropped line
abbrev pub PagePrintsBy : (free unaware : State → Option State) → List NestedUnit → State → ℕ → List Painting → Type 0
PagePrintsBy free unaware us s p picture =
    EndsBetweenTokens (document_page us p) × (page_comments_apart (document_page us p) ≡ true)
    × PrintsBy free unaware s (tokens (document_page us p)) picture

abbrev pub PagePrints : List NestedUnit → State → ℕ → List Painting → Type 0
PagePrints us s p picture = PagePrintsBy (step false) unaware_step us s p picture

-- A law about an accepted document. If a machine runs the preamble, and each page prints a picture by itself, then,
-- given the output, it prints these pictures, placed, sheet by sheet. Preamble and pages are the document's own
abbrev pub SheetsShowThePages : Type 0
SheetsShowThePages =
    (frame : Frame) (sides : Option ℕ) (spec : Spec) (text : List ℕ) (us : List NestedUnit) (picture : ℕ → List Painting)
    (s : State)
    → document_of text ≡ Ok us
    → preamble_comments_apart us ≡ true → PreambleRuns IsGround (bytes_of (preamble us)) s → IsPlainGround s
    → OnSheets (λ paper p. PagePrints us s p (picture p)) (all_sheets frame sides spec us)
    → IsPrintedSheets frame sides spec us picture s

-- A law about an accepted document whose pages are independent: the document prints a picture for each page, and
-- its output shows these, sheet by sheet, placed
abbrev pub SheetsShowTheDocument : Type 0
SheetsShowTheDocument =
    (frame : Frame) (sides : Option ℕ) (spec : Spec) (text : List ℕ) (us : List NestedUnit) (picture : ℕ → List Painting)
    (s : State)
    → document_of text ≡ Ok us
    → preamble_comments_apart us ≡ true → PreambleRuns IsGround (bytes_of (preamble us)) s → IsPlainGround s
    → OnPages (λ p. PagePrints us s p (picture p)) us → PagesAreIndependent us s
    → DocumentPrints text us picture × IsPrintedSheets frame sides spec us picture s
