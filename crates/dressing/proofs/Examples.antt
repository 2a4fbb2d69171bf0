-- Worked examples.
use Rattle.std.proofs.Common.{◌≡◌, refl}
use Rattle.std.specs.Prelude.{ℕ, Bool, codes, map, [], ◌∷◌, false, true, pos, Some}
use Rattle.std.specs.Fmt.{digits}
use Rattle.rules.specs.Papers.{Paper, Pt, points}
use Rattle.rules.specs.Specification.{Item, Turn, Left, Half}
use Rattle.rules.specs.Dress.{undressed}
use Rattle.sheet_text.specs.PageNumbers.{number_line}
use Rattle.sheet_text.specs.declared.numbers.Numbers.{Numbers}
use Rattle.layouts.specs.Placed.{Room}
use Rattle.layouts.specs.Cells.{Grid}
use Rattle.dressing.specs.Strokes.{cut_marks, fold_marks, outer_cut_marks}
use Rattle.dressing.specs.Ruled.{note_lines}
use Rattle.dressing.specs.Drawn.{strokes_added, stroke_line}

-- with the same margin along all edges, and the same gap across and up
abbrev room_in : Paper → (edge gap : ℕ) → Room
room_in q e d =
    record { paper = q; left = e; right = e; bottom = e; top = e; gutter_across = d; gutter_up = d; trim = 0 }

-- a sheet of 100 by 200 points with a margin of 10 points and a gap of 4, in two columns
abbrev small : Room
small = room_in (points 100 200) 1_000_000 400_000

abbrev columns : Grid
columns = record { rows = 1; columns = 2; turned = false }

-- it is folded in the middle
folded : map stroke_line (fold_marks small columns) ≡ codes "newpath 50 0 moveto 50 10 lineto stroke" ∷ codes "newpath 50 200 moveto 50 190 lineto stroke" ∷ []
unfolding digits
folded = refl

-- it isn't cut round its cells if the margin has no room for half a gap
narrow_round : outer_cut_marks (room_in (points 100 200) 1_000_000 2_000_001) columns ≡ []
narrow_round = refl

abbrev bare : Room
bare = room_in (points 100 200) 0 0

-- margins of 10, 12, 14 and 16 points at the left, the right, the foot and the head, and gaps of 4 points across and 6 up: each
-- stroke ends where the margin of its edge does
abbrev each_edge : Room
each_edge = record {
  paper = points 100 200;
  left = 1_000_000;
  right = 1_200_000;
  bottom = 1_400_000;
  top = 1_600_000;
  gutter_across = 400_000;
  gutter_up = 600_000;
  trim = 0;
}

edges_cut : map stroke_line (cut_marks each_edge (record { rows = 2; columns = 2; turned = false }))
    ≡ codes "newpath 49 0 moveto 49 14 lineto stroke"
    ∷ codes "newpath 49 200 moveto 49 184 lineto stroke"
    ∷ codes "newpath 0 99 moveto 10 99 lineto stroke"
    ∷ codes "newpath 100 99 moveto 88 99 lineto stroke"
    ∷ codes "newpath 8 0 moveto 8 14 lineto stroke"
    ∷ codes "newpath 8 200 moveto 8 184 lineto stroke"
    ∷ codes "newpath 90 0 moveto 90 14 lineto stroke"
    ∷ codes "newpath 90 200 moveto 90 184 lineto stroke"
    ∷ codes "newpath 0 11 moveto 10 11 lineto stroke"
    ∷ codes "newpath 100 11 moveto 88 11 lineto stroke"
    ∷ codes "newpath 0 187 moveto 10 187 lineto stroke"
    ∷ codes "newpath 100 187 moveto 88 187 lineto stroke"
    ∷ []
unfolding digits
edges_cut = refl

-- two rows of cells, each 52 points wide and 48 high: one line for notes in each row, since the second would lie on the cell's
-- lower side
abbrev rows : Bool → Grid
rows turned = record { rows = 2; columns = 2; turned = turned }

ruled : map stroke_line (note_lines (room_in (points 120 112) 600_000 400_000) (rows false))
    ≡ codes "newpath 62 82 moveto 114 82 lineto stroke" ∷ codes "newpath 62 30 moveto 114 30 lineto stroke" ∷ []
unfolding digits
ruled = refl

-- on a sheet that lies on its side they are upright, and the first row is the left one
ruled_on_sides : map stroke_line (note_lines (room_in (points 112 120) 600_000 400_000) (rows true))
    ≡ codes "newpath 30 62 moveto 30 114 lineto stroke" ∷ codes "newpath 82 62 moveto 82 114 lineto stroke" ∷ []
unfolding digits
ruled_on_sides = refl

-- in a cell of 200 points there are eight
one_row : map stroke_line (note_lines bare columns)
    ≡ codes "newpath 50 176 moveto 100 176 lineto stroke"
    ∷ codes "newpath 50 152 moveto 100 152 lineto stroke"
    ∷ codes "newpath 50 128 moveto 100 128 lineto stroke"
    ∷ codes "newpath 50 104 moveto 100 104 lineto stroke"
    ∷ codes "newpath 50 80 moveto 100 80 lineto stroke"
    ∷ codes "newpath 50 56 moveto 100 56 lineto stroke"
    ∷ codes "newpath 50 32 moveto 100 32 lineto stroke"
    ∷ codes "newpath 50 8 moveto 100 8 lineto stroke"
    ∷ []
unfolding digits
one_row = refl

-- what is added to a sheet
added : (strokes_added (fold_marks bare columns) undressed).finish 0 (points 100 200)
    ≡ codes "gsave 0 setgray .25 setlinewidth [] 0 setdash"
    ∷ codes "newpath 50 0 moveto 50 18 lineto stroke"
    ∷ codes "newpath 50 200 moveto 50 182 lineto stroke"
    ∷ codes "grestore"
    ∷ []
unfolding digits
added = refl

-- numbers of 10 points, from 3 on, in cells of 100 points: the middle of their feet is 50 points below the middle of their pages
abbrev tens : Numbers
tens = record { size = pos 1_270_000_000_000; first = 3; places = []; below = Some (pos 6_350_000_000_000) }

-- the fifth page of a row, which has 100 by 200 points, half as large and turned so about its corner, which is in the middle of a
-- sheet of 200 by 250
abbrev page_turned : Turn → Item
page_turned turn = record {
  page = 0;
  from_end = false;
  turn = turn;
  scale = pos 500_000_000;
  x = record { number = pos 100_000_000_000; unit = Pt };
  y = record { number = pos 125_000_000_000; unit = Pt };
}

number_on_its_side : number_line tens 4 (page_turned Left) (points 100 200)
    ≡ codes "gsave 0 setgray /Times-Roman findfont 10 scalefont setfont 100 125 translate 90 rotate 25 18 moveto (7) dup stringwidth pop -2 div 0 rmoveto show grestore"
unfolding digits
number_on_its_side = refl

-- on a page that is lower than its cell the number stands below it
below_the_page : number_line tens 0 (page_turned Half) (points 100 100)
    ≡ codes "gsave 0 setgray /Times-Roman findfont 10 scalefont setfont 100 125 translate 180 rotate 25 -7 moveto (3) dup stringwidth pop -2 div 0 rmoveto show grestore"
unfolding digits
below_the_page = refl
