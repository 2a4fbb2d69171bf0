-- Documents that make userdict's showpage do nothing in their prolog, and print by one that they have loaded before, as
-- CUPS' filters write them.
use Rattle.std.specs.Prelude.{◌≡◌, ℕ, zero, suc, ◌≤◌, List, [], ◌++◌, false, true, Option, Some, Ok, codes, length}
use Rattle.rules.specs.Specification.{Spec}
use Rattle.rules.specs.Papers.{Paper}
use Rattle.rules.specs.Parts.{NestedUnit, preamble, bytes_of}
use Rattle.rules.specs.Run.{document_of, most_input_bytes}
use Rattle.rules.specs.Output.{Frame, output}
use Rattle.dsc.specs.Units.{units_of}
use Rattle.guard.specs.Guard.{guarded}
use Rattle.pictures.specs.Objects.{Token, Procedure}
use Rattle.pictures.specs.Dictionaries.{userdict, dictionary_entry}
use Rattle.pictures.specs.Machine.{State, Painting, Runs, saved}
use Rattle.pictures.specs.Scanner.{tokens}
use Rattle.pictures.specs.Sheets.{Shown, run_of, placed_tokens, page_picture, in_userdict}
use Rattle.pictures.specs.Pictures.{printed_sheets, past_all, BeginsAt, sheets_tokens}
use Rattle.pictures.specs.Documents.{started, PreambleRuns, FirstHas, OnSheetsFrom, all_sheets}
use Rattle.pictures.specs.Kept.{preamble_comments_apart}
use Rattle.pictures.specs.AfterGuard.{save_tokens, showpage_tokens}
use Rattle.pictures.specs.Shelter.{outline_tokens, PaintsSheltered}
use Rattle.pictures.specs.Lines.{at_sheet_save, with_dictionary}
use Rattle.pictures.specs.Pages.{IsGuarded, defined, AllSheetsShelteredFrom, PaintsFrom, state_after_sheets}

-- with the guard's showpage in userdict again
abbrev pub with_showpage : State → State
with_showpage s = defined (in_userdict (codes "showpage") (Procedure showpage_tokens)) s

-- The state after such a preamble: userdict's showpage is empty, and with the guard's in its place the state is guarded
pub record IsSilenced (s : State) : Type 0 where
  pub empty : dictionary_entry userdict (codes "showpage") s.work.entries ≡ Some (Procedure [])
  pub guarded : IsGuarded (with_showpage s)

-- where a page begins, the guard puts its showpage there again, and marks the page as ever: a law
abbrev pub ShowpageIsPutBack : Type 0
ShowpageIsPutBack =
    (s : State) (rest : List Token) (h : IsSilenced s)
    → Runs false (run_of (save_tokens ++ rest) (at_sheet_save s))
    (saved (run_of rest (with_dictionary h.guarded.guard.number (with_showpage (at_sheet_save s)))))

-- a placed page paints what it paints by itself after that, placed, and the guard's showpage stays: a law
abbrev pub SilencedPageIsPlaced : Type 0
SilencedPageIsPlaced =
    (s : State) (x : Shown) (rest : List Token) → IsSilenced s
    → PaintsSheltered [] (with_showpage s) (outline_tokens x.placed.numbers) x.placed.body x.picture
    → Runs false (run_of (placed_tokens x.placed ++ rest) s)
    (record (with_showpage s) { left = rest; painted = page_picture s.graphics x ++ s.painted })

-- the state after so many pages
abbrev pub after_pages : State → ℕ → State
after_pages s zero = s
after_pages s (suc k) = with_showpage s

-- each sheet is printed with the pictures of its pages, placed, if the first one has a page: a law
abbrev pub SilencedSheetsArePrinted : Type 0
SilencedSheetsArePrinted =
    (s : State) (xs : List (List Shown)) (rest : List Token) → IsSilenced s → s.painted ≡ [] → BeginsAt 1 0 xs
    → AllSheetsShelteredFrom (after_pages s) 0 xs
    → Runs false (run_of (sheets_tokens xs ++ rest) s)
    (record (after_pages s (past_all 0 xs)) { left = rest; painted = []; sheets = printed_sheets s.graphics xs s.sheets })

-- Of what impose makes of such a document, with the guard put in: a machine prints, sheet by sheet, the pictures of the
-- document's pages, placed, if the first sheet has a page: a law
abbrev pub SilencedDocumentIsShown : Type 0
SilencedDocumentIsShown =
    (sheet : Option Paper) (frame : Frame) (sides : Option ℕ) (spec : Spec) (text : List ℕ) (us : List NestedUnit)
    (picture : ℕ → List Painting) (s : State)
    → document_of text ≡ Ok us → length (guarded sheet text) ≤ most_input_bytes
    → preamble_comments_apart (units_of (guarded sheet text)) ≡ true
    → PreambleRuns IsSilenced (bytes_of (preamble (units_of (guarded sheet text)))) s
    → FirstHas 1 (all_sheets frame sides spec us)
    → OnSheetsFrom (PaintsFrom frame.border us picture (after_pages s)) 0 (all_sheets frame sides spec us)
    → Runs false (started (tokens (output frame sides spec (units_of (guarded sheet text)))))
    (state_after_sheets (after_pages s) frame.border (units_of (guarded sheet text)) picture (all_sheets frame sides spec us))
