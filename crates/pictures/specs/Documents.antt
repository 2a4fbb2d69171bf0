-- The text of a whole output as tokens, and the picture of a document.
use Rattle.std.specs.Prelude.{◌≡◌, ℕ, suc, ◌≤◌, List, [], ◌∷◌, ◌++◌, map, flat_map, Option, option_map}
use Rattle.std.specs.Prelude.{slice_index_or, length, false, ◌-ℤ◌}
use Rattle.rules.specs.Papers.{Paper}
use Rattle.rules.specs.Numbers.{points_text, scale_text}
use Rattle.rules.specs.Specification.{Item, Spec}
use Rattle.rules.specs.Signatures.{sheets_in}
use Rattle.rules.specs.Placement.{matrix_of}
use Rattle.rules.specs.Parts.{NestedUnit, pages}
use Rattle.rules.specs.Filters.{preamble_text, trailer_text, prepared}
use Rattle.rules.specs.Output.{Border, Frame, body_text, opening_text, output}
use Rattle.rules.specs.Made.{MadeSlot, Blank, Placed, MadeSheet, made_of}
use Rattle.pictures.specs.Objects.{Token}
use Rattle.pictures.specs.Dictionaries.{userdict}
use Rattle.pictures.specs.Machine.{State, Painting, Runs}
use Rattle.pictures.specs.Scanner.{tokens, EndsBetweenTokens}
use Rattle.pictures.specs.Sheets.{BorderNumbers, Numbers, Shown, PaintsAlone, IsGround, saving_tokens, placing_tokens}
use Rattle.pictures.specs.Pictures.{printed_sheets}

-- the numbers that the output has for an item
-- a border within a paper
abbrev pub border_numbers : Paper → Border → BorderNumbers
border_numbers paper b = record {
  wide = points_text b.width;
  low = points_text b.inset;
  right = points_text (paper.width -ℤ b.inset);
  top = points_text (paper.height -ℤ b.inset);
}

abbrev pub numbers_of : Frame → Item → Numbers
numbers_of frame item =
    let m = matrix_of frame.paper item in
    record {
      a = scale_text m.a;
      b = scale_text m.b;
      c = scale_text m.c;
      d = scale_text m.d;
      x = points_text m.tx;
      y = points_text m.ty;
      width = points_text frame.paper.width;
      height = points_text frame.paper.height;
      border = option_map (border_numbers frame.paper) frame.border;
    }

-- a law: what comes before a placed page is cut into the tokens of the sheet's text, and ends between tokens
abbrev pub OpeningIsCut : Type 0
OpeningIsCut =
    (frame : Frame) (item : Item)
    → (tokens (opening_text frame item) ≡ saving_tokens ++ placing_tokens (numbers_of frame item))
    × EndsBetweenTokens (opening_text frame item)

-- A document.

-- a machine before anything has run: userdict is on the stack (3.7.5), the graphics state is the initial one
abbrev pub started : List Token → State
started ts = record {
  left = ts;
  work = record { operands = []; dictionaries = userdict ∷ []; entries = []; made = 0 };
  kept = [];
  level = 0;
  graphics = record { chain = []; path = []; clip = []; settings = [] };
  stacked = [];
  saves = [];
  painted = [];
  sheets = [];
}

-- a page of the document, from its page line on
abbrev pub document_page : List NestedUnit → ℕ → List ℕ
document_page us p = slice_index_or (pages us) p []

-- the part of a page that the output keeps
abbrev pub body_of_page : List NestedUnit → ℕ → List ℕ
body_of_page us p = body_text (prepared (document_page us p))

-- the frame of a page: its own paper, and the border, which is the same for all pages
abbrev pub page_frame : Option Border → Paper → Frame
page_frame border paper = record { paper = paper; border = border }

-- a slot with the page's own picture, placed by its item, on its own paper; a blank one has none
abbrev pub shown_slot : Option Border → List NestedUnit → (ℕ → List Painting) → MadeSlot → List Shown
shown_slot border us picture Blank = []
shown_slot border us picture (Placed p item paper) =
    record {
      placed = record { numbers = numbers_of (page_frame border paper) item; body = tokens (body_of_page us p) };
      picture = picture p;
    } ∷ []

abbrev pub shown_sheet : Option Border → List NestedUnit → (ℕ → List Painting) → MadeSheet → List Shown
shown_sheet border us picture sheet = flat_map (shown_slot border us picture) sheet.slots

-- the picture that each sheet should have, the latest sheet first: the pictures of its slots, in order
abbrev pub sheet_pictures :
    Option Border → List NestedUnit → (ℕ → List Painting) → State → List MadeSheet → List (List Painting)
sheet_pictures border us picture s all = printed_sheets s.graphics (map (shown_sheet border us picture) all) s.sheets

-- What is so of the pages on sheets.

-- the number of pages on these slots and before them, if so many are before
abbrev pub pages_past : ℕ → List MadeSlot → ℕ
pages_past k [] = k
pages_past k (Blank ∷ slots) = pages_past k slots
pages_past k (Placed p item paper ∷ slots) = pages_past (suc k) slots

abbrev pub pages_past_all : ℕ → List MadeSheet → ℕ
pages_past_all k [] = k
pages_past_all k (sheet ∷ all) = pages_past_all (pages_past k sheet.slots) all

-- the first sheet, if there is one, has at least so many pages
abbrev pub FirstHas : ℕ → List MadeSheet → Type 0
FirstHas least [] = Unit {0}
FirstHas least (sheet ∷ all) = least ≤ pages_past 0 sheet.slots

-- this holds for each page on a slot, with the number of pages before it, and its paper
abbrev pub OnSlotsFrom : (ℕ → Paper → ℕ → Type 0) → ℕ → List MadeSlot → Type 0
OnSlotsFrom P k [] = Unit {0}
OnSlotsFrom P k (Blank ∷ slots) = OnSlotsFrom P k slots
OnSlotsFrom P k (Placed p item paper ∷ slots) = P k paper p × OnSlotsFrom P (suc k) slots

abbrev pub OnSheetsFrom : (ℕ → Paper → ℕ → Type 0) → ℕ → List MadeSheet → Type 0
OnSheetsFrom P k [] = Unit {0}
OnSheetsFrom P k (sheet ∷ all) = OnSlotsFrom P k sheet.slots × OnSheetsFrom P (pages_past k sheet.slots) all

-- whatever is before it
abbrev pub OnSlots : (Paper → ℕ → Type 0) → List MadeSlot → Type 0
OnSlots P slots = OnSlotsFrom (λ k. P) 0 slots

abbrev pub OnSheets : (Paper → ℕ → Type 0) → List MadeSheet → Type 0
OnSheets P all = OnSheetsFrom (λ k. P) 0 all

-- What is run.

-- the page paints this by itself, after the preamble; and its text ends between tokens
abbrev pub PagePaints : List NestedUnit → State → ℕ → List Painting → Type 0
PagePaints us s p picture = EndsBetweenTokens (body_of_page us p) × PaintsAlone s (tokens (body_of_page us p)) picture

-- the preamble ends between tokens; then the machine is in a state of which this is so, with nothing painted or printed
abbrev pub PreambleRuns : (State → Type 0) → List ℕ → State → Type 0
PreambleRuns P text s =
    EndsBetweenTokens text × Runs false (started (tokens text)) s × (s.left ≡ []) × (s.painted ≡ []) × (s.sheets ≡ [])
    × P s

-- the sheets of a specification, in signatures or not, as made ones
abbrev pub all_sheets : Frame → Option ℕ → Spec → List NestedUnit → List MadeSheet
all_sheets frame sides spec us = made_of frame.paper (sheets_in sides spec (length (pages us)))

-- a machine runs the output up to the trailer, and has then printed these pictures
abbrev pub IsPrintedSheets :
    Frame → Option ℕ → Spec → List NestedUnit → (ℕ → List Painting) → State → Type 0
IsPrintedSheets frame sides spec us picture s =
    Runs false (started (tokens (output frame sides spec us)))
    (record s {
      left = tokens (trailer_text us);
      sheets = sheet_pictures frame.border us picture s (all_sheets frame sides spec us);
    })

-- a law: given an output, a machine prints the sheets in order, each with the pictures of its pages, placed; the
-- trailer is then left to run
abbrev pub OutputIsPrinted : Type 0
OutputIsPrinted =
    (frame : Frame) (sides : Option ℕ) (spec : Spec) (us : List NestedUnit) (picture : ℕ → List Painting) (s : State)
    → PreambleRuns IsGround (preamble_text (length (all_sheets frame sides spec us)) us) s
    → OnSheets (λ paper p. PagePaints us s p (picture p)) (all_sheets frame sides spec us)
    → IsPrintedSheets frame sides spec us picture s
