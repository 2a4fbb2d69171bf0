-- What is written of made sheets. By a law, with no dress and one paper for all, it is the output of a
-- specification.
use Rattle.std.specs.Prelude.{◌≡◌, ℕ, ◌+◌, Bool, ◌||◌, ◌++◌, List, [], ◌∷◌, length, flat_map, codes, decimal, Option}
use Rattle.std.specs.Prelude.{slice_index_or}
use Rattle.std.specs.List.{enumerate_from}
use Rattle.rules.specs.Bytes.{line}
use Rattle.rules.specs.Specification.{Spec}
use Rattle.rules.specs.Signatures.{sheets_in}
use Rattle.rules.specs.Units.{has_key}
use Rattle.rules.specs.Parts.{NestedUnit, pages, preamble, bytes_of}
use Rattle.rules.specs.Filters.{kept, drops_in_header, ended, prepared, trailer_text}
use Rattle.rules.specs.Output.{Border, Frame, opening_text, closing_text, body_text, output}
use Rattle.rules.specs.Made.{MadeSlot, Blank, Placed, MadeSheet, made_of}
use Rattle.rules.specs.Dress.{Dress, undressed, lines_text}

-- a slot, of a document with these pages; for a blank nothing is written
abbrev pub made_slot_text : (border : Option Border) → List (List ℕ) → MadeSlot → List ℕ
made_slot_text border pages Blank = []
made_slot_text border pages (Placed p item paper) =
    opening_text (record { paper = paper; border = border }) item
    ++ body_text (prepared (slice_index_or pages p [])) ++ closing_text

-- sheet s: its page line, the dress's lines at its start, its placed pages, the dress's lines at its end, its showpage
-- (RULES, 15)
abbrev pub made_sheet_text : (border : Option Border) → Dress → List (List ℕ) → (s : ℕ) → MadeSheet → List ℕ
made_sheet_text border dress pages s sheet =
    line (codes "%%Page: " ++ decimal (s + 1) ++ codes " " ++ decimal (s + 1))
    ++ lines_text (dress.start s sheet.paper)
    ++ flat_map (made_slot_text border pages) sheet.slots
    ++ lines_text (dress.finish s sheet.paper)
    ++ line (codes "showpage")

-- the number of sheets, and the dress's lines, are put after the first line
abbrev pub with_lines : (sheets : ℕ) → List (List ℕ) → List NestedUnit → List ℕ
with_lines sheets lines [] = []
with_lines sheets lines (first ∷ us) =
    first.unit.bytes ++ line (codes "%%Pages: " ++ decimal sheets) ++ lines_text lines ++ bytes_of us

-- dropped from a preamble with these lines: if there are any, they report the papers, and the names of papers (DSC 2.1,
-- %%DocumentPaperSizes) are dropped too
abbrev pub drops_with : List (List ℕ) → List ℕ → Bool
drops_with [] content = drops_in_header content
drops_with (l ∷ ls) content = drops_in_header content || has_key (codes "%%DocumentPaperSizes" ∷ []) content

abbrev pub dressed_preamble : (sheets : ℕ) → List (List ℕ) → List NestedUnit → List ℕ
dressed_preamble sheets lines us = ended (with_lines sheets lines (kept (drops_with lines) (preamble us)))

-- the preamble with the number of sheets, the sheets in order, the trailer
abbrev pub made_output : (border : Option Border) → Dress → List MadeSheet → List NestedUnit → List ℕ
made_output border dress all us =
    dressed_preamble (length all) dress.header us
    ++ flat_map (λ (s, sheet). made_sheet_text border dress (pages us) s sheet) (enumerate_from 0 all)
    ++ trailer_text us

-- a law: with no dress and one paper for all, made sheets of a specification, in signatures or not, have the
-- specification's output
abbrev pub MadeIsOutput : Type 0
MadeIsOutput = (frame : Frame) (sides : Option ℕ) (spec : Spec) (us : List NestedUnit) →
    made_output frame.border undressed (made_of frame.paper (sheets_in sides spec (length (pages us)))) us
    ≡ output frame sides spec us
