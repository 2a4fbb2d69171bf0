-- What a run wrote, read again as a document.
use Rattle.std.specs.Prelude.{◌≡◌, ℕ, ◌<◌, ◌≤◌, List, [], ◌∷◌, ◌++◌, length, map, flat_map, Option, Ok}
use Rattle.std.specs.List.{enumerate_from}
use Rattle.rules.specs.Parts.{NestedUnit, depth_after, preamble, page_run, pages, trailer, bytes_of}
use Rattle.rules.specs.Filters.{preamble_text, trailer_text}
use Rattle.rules.specs.Specification.{Spec}
use Rattle.rules.specs.Admissible.{IsAdmissible}
use Rattle.rules.specs.Sheets.{Slot}
use Rattle.rules.specs.Signatures.{AreSidesIfGiven, sheets_in}
use Rattle.rules.specs.Output.{Frame, sheet_text, output}
use Rattle.rules.specs.Run.{document_of, plan_in, most_input_bytes, most_pages}
use Rattle.dsc.specs.Units.{units_of}

-- the depth after units, which is the number of embedded documents that they leave open; without units it is 0
abbrev pub open_depth : List NestedUnit → ℕ
open_depth [] = 0
open_depth (u ∷ []) = depth_after u.depth u.unit
open_depth (u ∷ v ∷ us) = open_depth (v ∷ us)

-- the texts of these sheets, in order, for a document with these pages
abbrev pub sheet_texts : Frame → List (List ℕ) → List (List Slot) → List (List ℕ)
sheet_texts frame texts all = map (λ (s, slots). sheet_text frame texts s slots) (enumerate_from 0 all)

-- what is written of a document with these sheets. The output of a specification is what is written with its sheets
abbrev pub written : Frame → List (List Slot) → List NestedUnit → List ℕ
written frame all us =
    preamble_text (length all) us
    ++ flat_map (λ (s, slots). sheet_text frame (pages us) s slots) (enumerate_from 0 all)
    ++ trailer_text us

-- after each of these texts but the last no embedded document is open
abbrev pub AreShut : List (List ℕ) → Type 0
AreShut [] = Unit {0}
AreShut (text ∷ []) = Unit {0}
AreShut (text ∷ next ∷ more) = (open_depth (units_of text) ≡ 0) × AreShut (next ∷ more)

-- The units `again` are those of what was written of a document with these sheets. Preamble and trailer are the
-- texts that were written. There are as many pages as sheets exactly if each sheet but the last leaves no embedded
-- document open; then the pages are the texts of the sheets. If the document's last page leaves none open, nor does
-- the last page of what was written.
pub record IsAgain (frame : Frame) (all : List (List Slot)) (us again : List NestedUnit) : Type 0 where
  pub before : bytes_of (preamble again) ≡ preamble_text (length all) us
  pub sheets_are : AreShut (sheet_texts frame (pages us) all) → pages again ≡ sheet_texts frame (pages us) all
  pub only_if : length (pages again) ≡ length all → AreShut (sheet_texts frame (pages us) all)
  pub fewer : length (pages again) ≤ length all
  pub behind : bytes_of (trailer again) ≡ trailer_text us
  pub stays_shut : open_depth (page_run us) ≡ 0 → open_depth (page_run again) ≡ 0

-- what is written of a document with any sheets is a document again, if there are sheets and not too many
abbrev pub WrittenIsDocument : Type 0
WrittenIsDocument =
    (frame : Frame) (all : List (List Slot)) (text : List ℕ) (us : List NestedUnit)
    → document_of text ≡ Ok us → 0 < length all → length all ≤ most_pages
    → length (written frame all us) ≤ most_input_bytes
    → (document_of (written frame all us) ≡ Ok (units_of (written frame all us)))
    × IsAgain frame all us (units_of (written frame all us))

-- if the document's last page leaves no embedded document open, no sheet does
abbrev pub SheetsShut : Type 0
SheetsShut =
    (frame : Frame) (all : List (List Slot)) (text : List ℕ) (us : List NestedUnit)
    → document_of text ≡ Ok us → open_depth (page_run us) ≡ 0 → AreShut (sheet_texts frame (pages us) all)

-- if a document has a trailer, its last page leaves no embedded document open
abbrev pub TrailerShuts : Type 0
TrailerShuts =
    (text : List ℕ) (us : List NestedUnit)
    → document_of text ≡ Ok us → 0 < length (trailer us) → open_depth (page_run us) ≡ 0

-- an admissible specification makes at least one sheet of pages, in signatures or not
abbrev pub MakesSheets : Type 0
MakesSheets = (most_slots : ℕ) (sides : Option ℕ) (spec : Spec) (n : ℕ) → AreSidesIfGiven sides
    → IsAdmissible most_slots spec → 0 < n → 0 < length (sheets_in sides spec n)

-- the output of an accepted document, an admissible specification and an accepted plan is a document again unless
-- it is too long. If the document's last page leaves no embedded document open, its pages are the sheets
abbrev pub ImposedAgain : Type 0
ImposedAgain =
    (most_slots : ℕ) (frame : Frame) (sides : Option ℕ) (spec : Spec) (text : List ℕ)
    (us : List NestedUnit) (all : List (List Slot))
    → document_of text ≡ Ok us → AreSidesIfGiven sides → IsAdmissible most_slots spec
    → plan_in sides spec (length (pages us)) ≡ Ok all
    → length (output frame sides spec us) ≤ most_input_bytes
    → (document_of (output frame sides spec us) ≡ Ok (units_of (output frame sides spec us)))
    × IsAgain frame all us (units_of (output frame sides spec us))
    × (open_depth (page_run us) ≡ 0
    → pages (units_of (output frame sides spec us)) ≡ sheet_texts frame (pages us) all)
