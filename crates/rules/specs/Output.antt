-- What a run writes, if specification, document and plan are accepted. The texts are rules of this project. Their
-- operators (save, restore, concat, clip, showpage) are of the PostScript Language Reference. The clipping path and
-- the border, which are placed with the page, are of pstops(1), options -w, -h, -p and -d.
use Rattle.std.specs.Prelude.{◌≡◌, ℕ, ◌+◌, List, [], ◌++◌, length, flat_map, codes, decimal, Option, Some, None}
use Rattle.std.specs.Prelude.{ℤ, pos, ◌-ℤ◌}
use Rattle.std.specs.Prelude.{slice_index_or, Result, Ok, Err}
use Rattle.std.specs.List.{enumerate_from}
use Rattle.rules.specs.Bytes.{line}
use Rattle.rules.specs.Numbers.{points_text}
use Rattle.rules.specs.Papers.{Paper}
use Rattle.rules.specs.Specification.{Item, Spec}
use Rattle.rules.specs.Sheets.{Slot}
use Rattle.rules.specs.Signatures.{sheets_in}
use Rattle.rules.specs.Placement.{matrix_of, matrix_text}
use Rattle.rules.specs.Units.{FaultyBlock}
use Rattle.rules.specs.Parts.{NestedUnit, pages}
use Rattle.rules.specs.Filters.{preamble_text, trailer_text, prepared}

-- a border: how wide it is drawn, and how far within each edge of a paper, in grains
pub record Border : Type 0 where
  pub width : ℤ
  pub inset : ℤ

-- a border of this width, if one is given, by `inset` within the edges
abbrev pub border_within : (inset : ℤ) → Option ℤ → Option Border
border_within inset None = None
border_within inset (Some width) = Some (record { width = width; inset = inset })

-- the paper, and the border around each placed page, if there is one
pub record Frame : Type 0 where
  pub paper : Paper
  pub border : Option Border

-- a border along the edges
abbrev pub framed : Paper → Option ℤ → Frame
framed paper width = record { paper = paper; border = border_within (pos 0) width }

abbrev pub point_text : (x y : ℤ) → List ℕ
point_text x y = points_text x ++ codes " " ++ points_text y

-- a path around a rectangle that lies so far from the left and from below, and reaches so far
abbrev pub path_text : (low right top : ℤ) → List ℕ
path_text low right top =
    codes "newpath " ++ point_text low low ++ codes " moveto " ++ point_text right low ++ codes " lineto "
    ++ point_text right top ++ codes " lineto " ++ point_text low top ++ codes " lineto closepath"

-- a path around the paper
abbrev pub edge_text : Paper → List ℕ
edge_text paper = path_text (pos 0) paper.width paper.height

-- the line that draws a border
abbrev pub border_text : Paper → Option Border → List ℕ
border_text paper None = []
border_text paper (Some b) =
    line (codes "gsave " ++ points_text b.width ++ codes " setlinewidth "
    ++ path_text b.inset (paper.width -ℤ b.inset) (paper.height -ℤ b.inset) ++ codes " stroke grestore")

-- a law: without an inset the border is drawn along the path that clips the page
abbrev pub BorderOnEdge : Type 0
BorderOnEdge = (paper : Paper) (width : ℤ) → border_text paper (border_within (pos 0) (Some width))
    ≡ line (codes "gsave " ++ points_text width ++ codes " setlinewidth " ++ edge_text paper ++ codes " stroke grestore")

-- before a placed page: its changes will be restored, its showpage does nothing, and it is placed and clipped
abbrev pub opening_text : Frame → Item → List ℕ
opening_text frame item =
    line (codes "userdict /ImposeSave save put")
    ++ line (codes "userdict /showpage {} put")
    ++ line (matrix_text (matrix_of frame.paper item) ++ codes " concat")
    ++ line (edge_text frame.paper ++ codes " clip newpath")
    ++ border_text frame.paper frame.border

-- after a placed page
abbrev pub closing_text : List ℕ
closing_text = line (codes "ImposeSave restore")

-- the body of a page; each page of an accepted document has one
abbrev pub body_text : Result (List ℕ) FaultyBlock → List ℕ
body_text (Ok body) = body
body_text (Err fault) = []

-- a slot, of a document with these pages; for a blank nothing is written
abbrev pub slot_text : Frame → List (List ℕ) → Option ℕ → Item → List ℕ
slot_text frame pages None item = []
slot_text frame pages (Some p) item =
    opening_text frame item ++ body_text (prepared (slice_index_or pages p [])) ++ closing_text

-- sheet s: its page line, which counts sheets from 1, its placed pages, and the showpage that prints it
abbrev pub sheet_text : Frame → List (List ℕ) → (s : ℕ) → List Slot → List ℕ
sheet_text frame pages s slots =
    line (codes "%%Page: " ++ decimal (s + 1) ++ codes " " ++ decimal (s + 1))
    ++ flat_map (λ slot. slot_text frame pages slot.page slot.item) slots
    ++ line (codes "showpage")

-- the preamble with the number of sheets, the sheets in order, the trailer; in signatures if a number of sides is given
abbrev pub output : Frame → (sides : Option ℕ) → Spec → List NestedUnit → List ℕ
output frame sides spec us =
    let all = sheets_in sides spec (length (pages us)) in
    preamble_text (length all) us
    ++ flat_map (λ (s, slots). sheet_text frame (pages us) s slots) (enumerate_from 0 all)
    ++ trailer_text us
