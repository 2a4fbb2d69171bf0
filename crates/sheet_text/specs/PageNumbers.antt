-- The numbers of pages: each at the foot of its page's cell, in the middle, upright as the page is.
use Rattle.std.specs.Prelude.{ℕ, ◌+◌, ◌*◌, ◌/◌, ℤ, pos, ◌+ℤ◌, ◌-ℤ◌, nat_abs, List, [], ◌∷◌, ◌++◌, flat_map, codes, decimal, Option, Some, None}
use Rattle.rules.specs.Numbers.{points_text}
use Rattle.rules.specs.Papers.{Paper}
use Rattle.rules.specs.Placement.{offset}
use Rattle.rules.specs.Specification.{Item, Turn, Upright, Left, Half, Right}
use Rattle.rules.specs.Made.{MadeSlot, Blank, Placed}
use Rattle.sheet_plan.specs.OfSheets.{slots_at}
use Rattle.sheet_text.specs.declared.numbers.Numbers.{Numbers}

abbrev pub number_point_text : (x y : ℤ) → List ℕ
number_point_text x y = points_text x ++ (codes " " ++ points_text y)

-- a number is 18 points above the foot of its cell; in grains (RULES, 15)
abbrev pub above_foot : ℕ
above_foot = 2_286_000_000_000

-- how far the middle of a page's side is from its beginning, as large as the page is on the sheet, in grains, rounded down
abbrev pub middle : (scale side : ℤ) → ℕ
middle scale side = nat_abs scale * nat_abs side / 2_000_000_000

-- how far a number is above the page's lower edge, as one holds the page upright. The page is in the middle of its cell,
-- whose foot is so far below that middle; one that has no other cell is its own
abbrev pub rise : (below : Option ℤ) → Paper → Item → ℤ
rise None paper item = pos above_foot
rise (Some below) paper item = (pos (middle item.scale paper.height) -ℤ below) +ℤ pos above_foot

-- how far a page is turned to the left, in degrees
abbrev pub degrees : Turn → List ℕ
degrees Upright = codes "0"
degrees Left = codes "90"
degrees Half = codes "180"
degrees Right = codes "270"

-- black, in Times-Roman of this size
abbrev pub font_text : (size : ℤ) → List ℕ
font_text size = codes "gsave 0 setgray /Times-Roman findfont " ++ (points_text size ++ codes " scalefont setfont ")

-- from the page's lower left corner on, turned as the page is
abbrev pub corner_text : Paper → Item → List ℕ
corner_text paper item =
    number_point_text (offset paper item).x (offset paper item).y ++ (codes " translate " ++ (degrees item.turn ++ codes " rotate "))

-- to the middle of its lower edge, and so far up
abbrev pub foot_text : (below : Option ℤ) → Paper → Item → List ℕ
foot_text below paper item = number_point_text (pos (middle item.scale paper.width)) (rise below paper item) ++ codes " moveto ("

-- the number, with as much of it on the left of that as on the right
abbrev pub shown_text : ℕ → List ℕ
shown_text number = decimal number ++ codes ") dup stringwidth pop -2 div 0 rmoveto show grestore"

-- the line that draws the number of a page in its slot; a blank has none. The slot names the page by its place in the row,
-- counted from 0
abbrev pub number_line : Numbers → (place : ℕ) → Item → Paper → List ℕ
number_line n place item paper =
    font_text n.size
    ++ (corner_text paper item ++ (foot_text n.below paper item ++ shown_text (n.first + place)))

abbrev pub slot_lines : Numbers → MadeSlot → List (List ℕ)
slot_lines n Blank = []
slot_lines n (Placed place item paper) = number_line n place item paper ∷ []

-- those of sheet s
abbrev pub number_lines : Numbers → (s : ℕ) → List (List ℕ)
number_lines n s = flat_map (slot_lines n) (slots_at n.places s)
