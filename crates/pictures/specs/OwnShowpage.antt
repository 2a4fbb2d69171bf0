-- Documents that have a dictionary with a showpage of their own on the stack after the preamble, as Graphviz writes them.
use Rattle.std.specs.Prelude.{◌≡◌, ℕ, zero, suc, ◌≤◌, List, [], ◌++◌, true, false, ◌==◌}
use Rattle.std.specs.Prelude.{Option, Some, None, Ok, codes, length}
use Rattle.rules.specs.Specification.{Spec}
use Rattle.rules.specs.Papers.{Paper}
use Rattle.rules.specs.Parts.{NestedUnit, preamble, bytes_of}
use Rattle.rules.specs.Run.{document_of, most_input_bytes}
use Rattle.rules.specs.Output.{Frame, output}
use Rattle.dsc.specs.Units.{units_of}
use Rattle.guard.specs.Guard.{guarded}
use Rattle.pictures.specs.Objects.{Token, Truth, Procedure}
use Rattle.pictures.specs.Dictionaries.{userdict, system, dictionary_entry, read_only}
use Rattle.pictures.specs.Operators.{holder}
use Rattle.pictures.specs.Machine.{State, Painting, initial, Runs}
use Rattle.pictures.specs.Scanner.{tokens}
use Rattle.pictures.specs.Sheets.{Shown, run_of, placed_tokens, page_picture}
use Rattle.pictures.specs.Pictures.{printed_sheets, past_all, BeginsAt, sheets_tokens}
use Rattle.pictures.specs.Documents.{started, PreambleRuns, FirstHas, OnSheetsFrom, all_sheets}
use Rattle.pictures.specs.Kept.{preamble_comments_apart}
use Rattle.pictures.specs.AfterGuard.{showpage_tokens}
use Rattle.pictures.specs.Shelter.{means, outline_tokens, PaintsSheltered}
use Rattle.pictures.specs.Lines.{with_asking}
use Rattle.pictures.specs.Pages.{HasGuard, AllSheetsShelteredFrom, PaintsFrom, state_after_sheets}

-- The state after such a preamble: as a guarded one, but that this dictionary is the first one with a showpage. It can be
-- written, and isn't userdict, whose showpage is the guard's
pub record HasItsOwn (d : ℕ) (s : State) : Type 0 where
  pub guard : HasGuard s.work s.level
  pub own_first : holder s.work.dictionaries s.work.entries (codes "showpage") ≡ Some d
  pub other : (d == userdict) ≡ false
  pub writable : dictionary_entry d read_only s.work.entries ≡ None
  pub showpage_is : dictionary_entry userdict (codes "showpage") s.work.entries ≡ Some (Procedure showpage_tokens)
  pub flag_is : means s (codes "PStoPSenablepage") ≡ Some (Truth true)
  pub show_is : means s (codes "ImposeShow") ≡ system (codes "showpage")
  pub graphics : initial s.graphics ≡ s.graphics

-- Where a page begins, that dictionary's showpage is made one that asks userdict, and stays so: after each page there is
-- one such entry more.

-- a placed page paints what it paints by itself after that, placed: a law
abbrev pub OwnPageIsPlaced : Type 0
OwnPageIsPlaced =
    (d : ℕ) (s : State) (x : Shown) (rest : List Token) → HasItsOwn d s
    → PaintsSheltered [] (with_asking d s) (outline_tokens x.placed.numbers) x.placed.body x.picture
    → Runs false (run_of (placed_tokens x.placed ++ rest) s)
    (record (with_asking d s) { left = rest; painted = page_picture s.graphics x ++ s.painted })

-- the state after so many pages
abbrev pub asking : ℕ → State → ℕ → State
asking d s zero = s
asking d s (suc k) = with_asking d (asking d s k)

-- each sheet is printed with the pictures of its pages, placed, if the first one has a page: a law
abbrev pub OwnSheetsArePrinted : Type 0
OwnSheetsArePrinted =
    (d : ℕ) (s : State) (xs : List (List Shown)) (rest : List Token) → HasItsOwn d s → s.painted ≡ []
    → BeginsAt 1 0 xs → AllSheetsShelteredFrom (asking d s) 0 xs
    → Runs false (run_of (sheets_tokens xs ++ rest) s)
    (record (asking d s (past_all 0 xs)) { left = rest; painted = []; sheets = printed_sheets s.graphics xs s.sheets })

-- Of what impose makes of such a document, with the guard put in: a machine prints, sheet by sheet, the pictures of the
-- document's pages, placed, if the first sheet has a page: a law
abbrev pub OwnShowpageIsShown : Type 0
OwnShowpageIsShown =
    (sheet : Option Paper) (frame : Frame) (sides : Option ℕ) (spec : Spec) (text : List ℕ) (us : List NestedUnit)
    (picture : ℕ → List Painting) (d : ℕ) (s : State)
    → document_of text ≡ Ok us → length (guarded sheet text) ≤ most_input_bytes
    → preamble_comments_apart (units_of (guarded sheet text)) ≡ true
    → PreambleRuns (HasItsOwn d) (bytes_of (preamble (units_of (guarded sheet text)))) s
    → FirstHas 1 (all_sheets frame sides spec us)
    → OnSheetsFrom (PaintsFrom frame.border us picture (asking d s)) 0 (all_sheets frame sides spec us)
    → Runs false (started (tokens (output frame sides spec (units_of (guarded sheet text)))))
    (state_after_sheets (asking d s) frame.border (units_of (guarded sheet text)) picture (all_sheets frame sides spec us))
