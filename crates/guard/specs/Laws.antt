-- What stays as it is if lines are inserted into a document.
use Rattle.std.specs.Prelude.{◌≡◌, ℕ, ◌<◌, ◌≤◌, List, [], ◌∷◌, ◌++◌, length, take, map, Option, Some, Ok, IfSome}
use Rattle.std.specs.Prelude.{IsTrue}
use Rattle.rules.specs.Units.{TextUnit}
use Rattle.rules.specs.Parts.{NestedUnit, nested, begins_page, starting_at, pages, trailer}
use Rattle.rules.specs.Papers.{Paper, is_paper}
use Rattle.rules.specs.Run.{document_of, most_input_bytes}
use Rattle.dsc.specs.Units.{units_of}
use Rattle.imposed_again.specs.Seams.{joined, passes, AreLines, line_unit}
use Rattle.dsc.specs.Header.{header_len}
use Rattle.guard.specs.PutIn.{put_in}
use Rattle.guard.specs.Guard.{guard_lines, guarded}

-- lines that can be inserted: the first isn't empty, none begins a page or data, and the depth is 0 after them
abbrev pub CanBePutIn : List (List ℕ) → Type 0
CanBePutIn [] = ⊥
CanBePutIn (first ∷ more) =
    (0 < length first) × AreLines (first ∷ more) × (passes begins_page 0 (map line_unit (first ∷ more)) ≡ Some 0)

-- The text has the units `us`, and with the lines inserted the units `changed`, which have the lines' own units
-- after those of the header comments. From the first page on all stays.
pub record ChangesPreambleAlone (lines : List (List ℕ)) (text : List ℕ) (us changed : List NestedUnit) : Type 0 where
  pub front : List TextUnit
  pub back : List TextUnit
  pub header : joined front ≡ take (header_len text) text
  pub old : us ≡ nested (front ++ back)
  pub new : changed ≡ nested (front ++ (map line_unit lines ++ back))
  pub same_rest : starting_at begins_page changed ≡ starting_at begins_page us
  pub same_pages : pages changed ≡ pages us
  pub same_trailer : trailer changed ≡ trailer us

-- a document with lines inserted is still accepted unless it becomes too long, and only its preamble is changed
abbrev pub LinesStay : Type 0
LinesStay =
    (lines : List (List ℕ)) (text : List ℕ) (us : List NestedUnit)
    → CanBePutIn lines → document_of text ≡ Ok us → length (put_in lines text) ≤ most_input_bytes
    → (document_of (put_in lines text) ≡ Ok (units_of (put_in lines text)))
    × ChangesPreambleAlone lines text us (units_of (put_in lines text))

-- the same holds for the guard, for every paper of the sheet
abbrev pub GuardStays : Type 0
GuardStays =
    (sheet_paper : Option Paper) (text : List ℕ) (us : List NestedUnit)
    → document_of text ≡ Ok us → length (guarded sheet_paper text) ≤ most_input_bytes
    → (document_of (guarded sheet_paper text) ≡ Ok (units_of (guarded sheet_paper text)))
    × ChangesPreambleAlone (guard_lines sheet_paper) text us (units_of (guarded sheet_paper text))

-- each line has at most this many bytes
abbrev pub AreShort : ℕ → List (List ℕ) → Type 0
AreShort most [] = Unit {0}
AreShort most (l ∷ ls) = (length l ≤ most) × AreShort most ls

-- DSC allows 255 bytes
abbrev pub GuardIsShort : Type 0
GuardIsShort =
    (sheet_paper : Option Paper) → IfSome sheet_paper (λ p. IsTrue (is_paper p.width p.height))
    → AreShort 255 (guard_lines sheet_paper)
