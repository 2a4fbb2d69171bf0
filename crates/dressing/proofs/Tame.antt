-- The lines that draw marks and numbers begin nothing.
use Rattle.std.specs.Prelude.{codes, decimal, flat_map, map, ℤ, pos, true, ◌+◌, Option, Some, None}
use Rattle.std.proofs.Common.{◌≡◌, ℕ, List, [], ◌∷◌, ◌++◌, refl}
use Rattle.rules.specs.Numbers.{points_text}
use Rattle.rules.specs.Papers.{Paper}
use Rattle.rules.specs.Placement.{offset}
use Rattle.rules.specs.Specification.{Item, Turn, Upright, Left, Half, Right}
use Rattle.rules.specs.Dress.{Dress}
use Rattle.rules.specs.Made.{MadeSlot, Blank, Placed}
use Rattle.sheet_plan.specs.OfSheets.{slots_at}
use Rattle.imposed_again.proofs.Plainly.{no_ends_append, no_ends_decimal, no_ends_points}
use Rattle.imposed_again.specs.Seams.{no_ends}
use Rattle.imposed_again.specs.MadeAgain.{AreTame, IsTame, IsTameDress}
use Rattle.sheet_text.specs.PageNumbers.{corner_text, degrees, font_text, foot_text, middle, number_line, number_lines, number_point_text, rise, shown_text}
use Rattle.sheet_text.specs.PageNumbers.{slot_lines}
use Rattle.dressing.specs.Drawn.{mark_lines, strokes_added, stroke_line}
use Rattle.dressing.specs.Numbered.{with_page_numbers}
use Rattle.sheet_text.specs.declared.numbers.Numbers.{Numbers}
use Rattle.dressing.specs.Laws.{DrawnIsTame}
use Rattle.dressing.specs.declared.strokes.Stroke.{Stroke}

whole_point : (x y : ℤ) → no_ends (number_point_text x y) ≡ true
whole_point x y = no_ends_append (points_text x) (codes " " ++ points_text y) (no_ends_points x) (no_ends_append (codes " ") (points_text y) refl (no_ends_points y))

whole_stroke : (s : Stroke) → no_ends (stroke_line s) ≡ true
whole_stroke s =
    let from = number_point_text s.start.0 s.start.1 in
    let to = number_point_text s.end.0 s.end.1 in
    no_ends_append (codes "newpath ") (from ++ (codes " moveto " ++ (to ++ codes " lineto stroke"))) refl
    (no_ends_append from (codes " moveto " ++ (to ++ codes " lineto stroke")) (whole_point s.start.0 s.start.1)
    (no_ends_append (codes " moveto ") (to ++ codes " lineto stroke") refl
    (no_ends_append to (codes " lineto stroke") (whole_point s.end.0 s.end.1) refl)))

pub stroke : (s : Stroke) → IsTame (stroke_line s)
stroke s = record { whole = whole_stroke s; no_data = refl; no_document = refl; no_end = refl; no_page = refl; no_trailer = refl }

begins : IsTame (codes "gsave 0 setgray .25 setlinewidth [] 0 setdash")
begins = record { whole = refl; no_data = refl; no_document = refl; no_end = refl; no_page = refl; no_trailer = refl }

ends : IsTame (codes "grestore")
ends = record { whole = refl; no_data = refl; no_document = refl; no_end = refl; no_page = refl; no_trailer = refl }

both : (one other : List (List ℕ)) → AreTame one → AreTame other → AreTame (one ++ other)
both [] other a b = b
both (l ∷ one) other a b = (a.0, both one other a.1 b)

all_strokes : (strokes : List Stroke) → AreTame (map stroke_line strokes)
all_strokes [] = tt
all_strokes (s ∷ strokes) = (stroke s, all_strokes strokes)

lines : (strokes : List Stroke) → AreTame (mark_lines strokes)
lines [] = tt
lines (s ∷ strokes) = (begins, both (map stroke_line (s ∷ strokes)) (codes "grestore" ∷ []) (all_strokes (s ∷ strokes)) (ends, tt))

whole_font : (size : ℤ) → no_ends (font_text size) ≡ true
whole_font size =
    no_ends_append (codes "gsave 0 setgray /Times-Roman findfont ") (points_text size ++ codes " scalefont setfont ") refl
    (no_ends_append (points_text size) (codes " scalefont setfont ") (no_ends_points size) refl)

whole_degrees : (t : Turn) → no_ends (degrees t) ≡ true
whole_degrees Upright = refl
whole_degrees Left = refl
whole_degrees Half = refl
whole_degrees Right = refl

whole_corner : (paper : Paper) (item : Item) → no_ends (corner_text paper item) ≡ true
whole_corner paper item =
    let corner = number_point_text (offset paper item).x (offset paper item).y in
    no_ends_append corner (codes " translate " ++ (degrees item.turn ++ codes " rotate ")) (whole_point (offset paper item).x (offset paper item).y)
    (no_ends_append (codes " translate ") (degrees item.turn ++ codes " rotate ") refl (no_ends_append (degrees item.turn) (codes " rotate ") (whole_degrees item.turn) refl))

whole_foot : (below : Option ℤ) (paper : Paper) (item : Item) → no_ends (foot_text below paper item) ≡ true
whole_foot below paper item =
    let x = pos (middle item.scale paper.width) in
    no_ends_append (number_point_text x (rise below paper item)) (codes " moveto (") (whole_point x (rise below paper item)) refl

whole_shown : (number : ℕ) → no_ends (shown_text number) ≡ true
whole_shown number = no_ends_append (decimal number) (codes ") dup stringwidth pop -2 div 0 rmoveto show grestore") (no_ends_decimal number) refl

whole_number : (n : Numbers) (place : ℕ) (item : Item) (paper : Paper) → no_ends (number_line n place item paper) ≡ true
whole_number n place item paper =
    let foot = foot_text n.below paper item in
    let shown = shown_text (n.first + place) in
    no_ends_append (font_text n.size) (corner_text paper item ++ (foot ++ shown)) (whole_font n.size)
    (no_ends_append (corner_text paper item) (foot ++ shown) (whole_corner paper item)
    (no_ends_append foot shown (whole_foot n.below paper item) (whole_shown (n.first + place))))

pub number : (n : Numbers) (place : ℕ) (item : Item) (paper : Paper) → IsTame (number_line n place item paper)
number n place item paper = record { whole = whole_number n place item paper; no_data = refl; no_document = refl; no_end = refl; no_page = refl; no_trailer = refl }

slots : (n : Numbers) (all : List MadeSlot) → AreTame (flat_map (slot_lines n) all)
slots n [] = tt
slots n (Blank ∷ all) = slots n all
slots n (Placed place item paper ∷ all) = (number n place item paper, slots n all)

pub marked_tamely : (strokes : List Stroke) (dress : Dress) → IsTameDress dress → IsTameDress (strokes_added strokes dress)
marked_tamely strokes dress tame = record {
  header = tame.header;
  start = tame.start;
  finish = λ s paper. both (dress.finish s paper) (mark_lines strokes) (tame.finish s paper) (lines strokes);
}

numbered_tamely : (numbers : Option Numbers) (dress : Dress) → IsTameDress dress → IsTameDress (with_page_numbers numbers dress)
numbered_tamely None dress tame = tame
numbered_tamely (Some n) dress tame = record {
  header = tame.header;
  start = tame.start;
  finish = λ s paper. both (dress.finish s paper) (number_lines n s) (tame.finish s paper) (slots n (slots_at n.places s));
}

pub drawn_is_tame : DrawnIsTame
drawn_is_tame drawn dress tame = numbered_tamely drawn.numbers (strokes_added drawn.strokes dress) (marked_tamely drawn.strokes dress tame)
